-- What a callee returns, in a proof that walks the code, and the end of a local.
--     answered     a callee's `post` at the machine value v: the tokens i, what the value r that it returned owns, and, for some last values w, what says them, j w, and the fact
--                  φ r w. r, w, the fact and r's relation are in hand, and i and j w are left.        answered-by      the same for any `ensures` that gives the fact
--     both_said, says_both     two clauses of an `ensures`, which ∗ joins, are one fact; and the step that shows two, as `says` shows one
--     told         the same where the fact is that the result is x: x's relation is in hand, and i is left
--     computes     a call of a function of plain data, whose contract says that its result is y: what is passed owns only facts, and y's relation is in hand when the call has returned
--     does         a call of a function of plain data that returns nothing and promises nothing
--     typed        a struct's machine value is of its MIR type
--     landed D L x n is        the result x of a call, of a declared type D, lands in the local that entry n is room for, and its machine value is written out.
--     landed_uint              the same for a number of the width w
--     gone n e e'      entry n is a local's cell and the next one what frees it: the local is freed
-- Assumes `Logic`.
use Rattle.std.specs.Prelude.{◌≡◌, refl, ℕ, zero, List, [], ◌∷◌, T}
use Rattle.std.proofs.Common.{sym, ap, subst}
use seplogic.Ra.Ura.{Ura}
use base.Fraction.{full_share}
use mir.Syntax.{Callee, Width, Ty, ty_int, Place, Opd as Operand, Body as Code, seq, call}
use mir.Val.{Val, vunit, vint, WT, has_ty}
use base.Logic.{SProp, ent, emp, sep, ex, id⊢, via, assoc∗, assoc', mono∗, mono_r, fst∗, snd∗}
use base.Fml.{ftrue, fat, froom, fdies}
use prog.Wp.{Env, Calls, Loops}
use types.Logic.{Logic, sem}
use contract.Monad.{fact, fact_i, fact_use}
use types.Kit.{Item, Post, Goal, prop, suffices, runs, lands, frees, ⋆, nth, del, put, pull, Soaks, Seq, Step, step, ‵, raw, ◌⊛◌, mean, some, later, ◌$◌, move, drop, use0, use1, split, pick, await}
use types.Run.{Finds, Opds, init, land}
use sound.WpLaws.{FmC}
use denote.Laws.{Is, shows}
use Rattle.std.specs.Borrow.{RattleType, unit}
use denote.Plain.{UInt, uint_Lawful}
use denote.Steps.{only, peeks, heard}
use denote.Struct.Declared.{Declared, shape, row}
use denote.Struct.Struct.{layout}
use denote.Struct.Laws as LL
use denote.Triple.Statement.{Contract, Triple}
use denote.Triple.Call.{calls_at}
use denote.Triple.Walked.{says}

-- ---- two clauses of an `ensures`, which ∗ joins
pub both_said : {M : Type 1} (𝓤 : Ura M) (φ ψ : Type 0) → ent 𝓤 (sep 𝓤 (fact 𝓤 φ) (fact 𝓤 ψ)) (fact 𝓤 (φ × ψ))
both_said 𝓤 φ ψ = fact_use 𝓤 φ (fst∗ 𝓤 (fact 𝓤 φ) (fact 𝓤 ψ)) (λ x. fact_use 𝓤 ψ (snd∗ 𝓤 (fact 𝓤 φ) (fact 𝓤 ψ)) (λ y. fact_i 𝓤 (φ × ψ) (sep 𝓤 (fact 𝓤 φ) (fact 𝓤 ψ)) (x, y)))

pub says_both : {M : Type 1} {𝓤 : Ura M} {𝓛 : Logic 𝓤} {K : Type 0} {Γ : List (Item 𝓤)} → K → {φ ψ : Type 0} {P : SProp 𝓤} → φ → ψ → Step K 𝓛 Γ (prop P) Γ (prop (sep 𝓤 P (sep 𝓤 (fact 𝓤 φ) (fact 𝓤 ψ))))
says_both {𝓤 = 𝓤} t {φ} {ψ} {P} x y = step (λ s. suffices t (sep 𝓤 (sep 𝓤 P (fact 𝓤 φ)) (fact 𝓤 ψ)) (assoc∗ 𝓤 P (fact 𝓤 φ) (fact 𝓤 ψ)) $ says t y $ says t x $ s)

module _ {M : Type 1} {𝓤 : Ura M} {𝓛 : Logic 𝓤} {K : Type 0} {Γ : List (Item 𝓤)} {G : Goal 𝓤 𝓛.H} where
  open 𝓛 use {H}

  pub answered-by : K → Soaks G → (R : RattleType) {P : SProp 𝓤} {X : Type 0} (v : Val) (i : Item 𝓤) (j : X → Item 𝓤) (S : R.Denot → X → SProp 𝓤) (φ : R.Denot → X → Type 0)
      → ((r : R.Denot) (w : X) → ent 𝓤 (S r w) (fact 𝓤 (φ r w)))
      → ent 𝓤 P (H.⇛ (ex 𝓤 (λ (r : R.Denot). sep 𝓤 (sep 𝓤 (mean 𝓛 i) (sem 𝓛 (R.own_val r (v ∷ [])))) (ex 𝓤 (λ (w : X). sep 𝓤 (mean 𝓛 (j w)) (S r w))))))
      → ((r : R.Denot) (w : X) → φ r w → Is R r (v ∷ []) → Seq K 𝓛 (j w ∷ i ∷ Γ) G)
      → Seq K 𝓛 (raw P ∷ Γ) G
  answered-by t z R {X = X} v i j S φ said p k =
      use1 𝓛 (later (some (λ (r : R.Denot). (i ⊛ ‵ (R.own_val r (v ∷ []))) ⊛ some (λ (w : X). j w ⊛ raw (S r w))))) p $ await t z $ pick t (λ r. split t $ split t $ move t (1 ∷ []) $
      peeks t R (Is R) (shows 𝓛 R) r (v ∷ []) (λ is. drop t $ move t (1 ∷ []) $ pick t (λ w. split t $ move t (1 ∷ []) $ use1 𝓛 (raw (fact 𝓤 (φ r w))) (said r w) $ heard t (φ r w) (λ e. k r w e is))))

  pub answered : K → Soaks G → (R : RattleType) {P : SProp 𝓤} {X : Type 0} (v : Val) (i : Item 𝓤) (j : X → Item 𝓤) (φ : R.Denot → X → Type 0)
      → ent 𝓤 P (H.⇛ (ex 𝓤 (λ (r : R.Denot). sep 𝓤 (sep 𝓤 (mean 𝓛 i) (sem 𝓛 (R.own_val r (v ∷ [])))) (ex 𝓤 (λ (w : X). sep 𝓤 (mean 𝓛 (j w)) (fact 𝓤 (φ r w)))))))
      → ((r : R.Denot) (w : X) → φ r w → Is R r (v ∷ []) → Seq K 𝓛 (j w ∷ i ∷ Γ) G)
      → Seq K 𝓛 (raw P ∷ Γ) G
  answered t z R v i j φ p k = answered-by t z R v i j (λ r w. fact 𝓤 (φ r w)) φ (λ r w. id⊢ 𝓤 (fact 𝓤 (φ r w))) p k

  pub told : K → Soaks G → (R : RattleType) (x : R.Denot) {P : SProp 𝓤} {X : Type 0} (v : Val) (i : Item 𝓤) (j : X → Item 𝓤)
      → ent 𝓤 P (H.⇛ (ex 𝓤 (λ (r : R.Denot). sep 𝓤 (sep 𝓤 (mean 𝓛 i) (sem 𝓛 (R.own_val r (v ∷ [])))) (ex 𝓤 (λ (w : X). sep 𝓤 (mean 𝓛 (j w)) (fact 𝓤 (r ≡ x)))))))
      → (Is R x (v ∷ []) → Seq K 𝓛 (i ∷ Γ) G)
      → Seq K 𝓛 (raw P ∷ Γ) G
  told t z R x v i j p k = answered t z R v i j (λ r w. r ≡ x) p (λ r w e is. drop t $ k (subst (λ (y : R.Denot). Is R y (v ∷ [])) e is))

-- ---- a struct's machine value is of its type
pub typed : {M : Type 1} {𝓤 : Ura M} (𝓛 : Logic 𝓤) (D : Declared) (L : LL.Laws D) (x : D.D) → Is (row D) x (LL.vals D L x) → T (has_ty (layout (shape D)) (LL.val D L x)) × WT (LL.val D L x)
typed {𝓤 = 𝓤} 𝓛 D L x is = ((LL.lawful D L 𝓛).typed x _ is).0

-- ---- a call of a function of plain data, its result, and the end of a local
module _ {M : Type 1} {𝓤 : Ura M} {𝓛 : Logic 𝓤} {K : Type 0} {Γ : List (Item 𝓤)} {E : Env 𝓤 𝓛.H} {C : Calls 𝓤 𝓛.H} {Λ : Loops 𝓤 𝓛.H} {q : Post 𝓤 𝓛.H} {d : Place} {rest : Code} where
  open 𝓛 use {H}

  pub computes : K → FmC 𝓤 H 𝓛.laws C → {f : Callee} {xs : List Operand} (c : Contract 𝓤) → Triple 𝓤 (C f) c → (x : c.Ghost) → ent 𝓤 (emp 𝓤) (c.pre x) → (R : RattleType) (y : R.Denot) {X : Type 0} (j : X → Item 𝓤)
      → ((v : Val) → ent 𝓤 (c.post x v) (H.⇛ (ex 𝓤 (λ (r : R.Denot). sep 𝓤 (sep 𝓤 (emp 𝓤) (sem 𝓛 (R.own_val r (v ∷ [])))) (ex 𝓤 (λ (w : X). sep 𝓤 (mean 𝓛 (j w)) (fact 𝓤 (r ≡ y))))))))
      → Opds K 𝓛 (raw (c.pre x) ∷ Γ) E xs (c.args x) → ((v : Val) → Is R y (v ∷ []) → Seq K 𝓛 Γ (lands C Λ E d v rest q))
      → Seq K 𝓛 Γ (runs C Λ E (seq (call f xs d) rest) q)
  computes t fm c met x pre R y j post os k = use0 𝓛 (raw (c.pre x)) pre $ calls_at t fm c met x os (λ v. told t tt R y v (‵ ftrue) j (post v) (λ is. drop t $ k v is))

  pub does : K → FmC 𝓤 H 𝓛.laws C → {f : Callee} {xs : List Operand} (c : Contract 𝓤) → Triple 𝓤 (C f) c → (x : c.Ghost) → ent 𝓤 (emp 𝓤) (c.pre x) → {X : Type 0} (j : X → Item 𝓤)
      → ((v : Val) → ent 𝓤 (c.post x v) (H.⇛ (ex 𝓤 (λ (r : Unit {0}). sep 𝓤 (sep 𝓤 (emp 𝓤) (sem 𝓛 (unit.own_val r (v ∷ [])))) (ex 𝓤 (λ (w : X). sep 𝓤 (mean 𝓛 (j w)) (emp 𝓤)))))))
      → Opds K 𝓛 (raw (c.pre x) ∷ Γ) E xs (c.args x) → Step K 𝓛 Γ (lands C Λ E d vunit rest q) Γ (runs C Λ E (seq (call f xs d) rest) q)
  does t fm c met x pre j post os = step (λ s. use0 𝓛 (raw (c.pre x)) pre $ calls_at t fm c met x os (λ v.
      answered-by t tt unit v (‵ ftrue) j (λ r w. emp 𝓤) (λ r w. Unit {0}) (λ r w. fact_i 𝓤 (Unit {0}) (emp 𝓤) tt) (post v) (λ r w e is. drop t $ drop t $
      subst (λ (u : Val). Seq K 𝓛 Γ (lands C Λ E d u rest q)) (sym (ap only is)) s)))

  pub landed : K → (D : Declared) (L : LL.Laws D) (x : D.D) (n : ℕ) {v : Val} → Is (row D) x (v ∷ []) → {b : ℕ} → Finds K 𝓛 Γ E d (layout (shape D), b, zero) → nth 𝓛 n Γ ≡ ‵ (froom (layout (shape D)) b zero)
      → Step K 𝓛 (put 𝓛 n (‵ (fat full_share (layout (shape D)) b zero (LL.val D L x))) Γ) (runs C Λ E rest q) Γ (lands C Λ E d v rest q)
  landed t D L x n {v} is f e = step (λ s. subst (λ (u : Val). Seq K 𝓛 Γ (lands C Λ E d u rest q)) (sym (ap only (LL.tells D L x _ is)))
      (land t f (init t n e (typed 𝓛 D L x (subst (Is (row D) x) (LL.tells D L x _ is) is))) $ s))

  pub landed_uint : K → (w : Width) (x n : ℕ) {v : Val} → Is (UInt w) x (v ∷ []) → {b : ℕ} → Finds K 𝓛 Γ E d (ty_int w, b, zero) → nth 𝓛 n Γ ≡ ‵ (froom (ty_int w) b zero)
      → Step K 𝓛 (put 𝓛 n (‵ (fat full_share (ty_int w) b zero (vint w x))) Γ) (runs C Λ E rest q) Γ (lands C Λ E d v rest q)
  landed_uint t w x n {v} is f e = step (λ s. subst (λ (u : Val). Seq K 𝓛 Γ (lands C Λ E d u rest q)) (sym (ap only is.0)) (land t f (init t n e ((uint_Lawful 𝓛 w).typed x _ (refl, is.1)).0) $ s))

module _ {M : Type 1} {𝓤 : Ura M} {𝓛 : Logic 𝓤} {K : Type 0} {Γ : List (Item 𝓤)} where
  open 𝓛 use {H}

  pub gone : K → (n : ℕ) {τ : Ty} {b : ℕ} {v : Val} {E : Env 𝓤 H} {g : Goal 𝓤 H} → nth 𝓛 n Γ ≡ ‵ (fat full_share τ b zero v) → nth 𝓛 n (del 𝓛 n Γ) ≡ ‵ (fdies τ b)
      → Step K 𝓛 (del 𝓛 n (del 𝓛 n Γ)) (frees E g) Γ (frees ((τ, b) ∷ E) g)
  gone t n {τ} {b} {v} {E} {g} e e' = step (λ s. record {
    prf = via 𝓤 (sep 𝓤 (H.at full_share τ b zero v) (⋆ 𝓛 (del 𝓛 n Γ))) (subst (λ (j : Item 𝓤). ent 𝓤 (⋆ 𝓛 Γ) (sep 𝓤 (mean 𝓛 j) (⋆ 𝓛 (del 𝓛 n Γ)))) e (pull 𝓛 n Γ))
        (via 𝓤 (sep 𝓤 (H.room τ b zero) (sep 𝓤 (H.dies τ b) (⋆ 𝓛 (del 𝓛 n (del 𝓛 n Γ)))))
        (mono∗ 𝓤 (𝓛.laws.at_room τ b zero v) (subst (λ (j : Item 𝓤). ent 𝓤 (⋆ 𝓛 (del 𝓛 n Γ)) (sep 𝓤 (mean 𝓛 j) (⋆ 𝓛 (del 𝓛 n (del 𝓛 n Γ))))) e' (pull 𝓛 n (del 𝓛 n Γ))))
        (via 𝓤 (sep 𝓤 (sep 𝓤 (H.room τ b zero) (H.dies τ b)) (⋆ 𝓛 (del 𝓛 n (del 𝓛 n Γ)))) (assoc' 𝓤 (H.room τ b zero) (H.dies τ b) (⋆ 𝓛 (del 𝓛 n (del 𝓛 n Γ))))
        (mono_r 𝓤 (sep 𝓤 (H.room τ b zero) (H.dies τ b)) s.prf)));
  })
