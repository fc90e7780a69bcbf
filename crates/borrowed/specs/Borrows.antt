-- A struct of plain data behind a `&mut`, in a proof that walks the code: the borrow is opened and closed again, and a struct in memory is lent for a call and comes back.
-- A context is written [first; second; …].
--     opened       [what is known of the value; the borrow; its lifetime's token; …]: the borrow is opened, the machine value in memory is written out, and the struct's relation
--                  is in hand.  Leaves [the struct's cell; the open borrow; what is known; who may change it; …]
--     shut         the same context, with another value in the cell: the borrow is closed at that value
--     opened-typed, shut-typed     the same with the cell at the struct's own MIR type, and not at the raw one: so that `Types/Part.antt`'s `sub` finds its fields
--     had          what a struct of plain data owns is had for nothing, from its relation
--     lent         the struct's cell is lent as a `&mut`, for a lifetime ν that is made for a call.  Leaves [the reference; ν's token; the lender's part; …]
--     returned     [ν's token; the lender's part; what says the last value h; …]: the lifetime is ended, and the cell is back, at h
-- Assumes `Logic`.
use Rattle.std.specs.Prelude.{ℕ, List, [], ◌∷◌}
use seplogic.Ra.Ura.{Ura}
use base.Fraction.{full_share}
use mir.Syntax.{Lifetime}
use mir.Val.{Val, vptr}
use base.Stored.{Gv}
use base.Fml.{GName, Lft, Share, fat, fsep, flft, fobs, fauth, fres, fbor, fobor, flent}
use types.Logic.{Logic}
use types.Kit.{Item, Goal, Soaks, Seq, Step, step, ‵, ◌⊛◌, some, later, ◌$◌, move, drop, use1, use3, split, pick, fsplit, fjoin, fpick, fpack, await}
use types.SemTy.{Body}
use types.Tokens.{lft_new, lft_end}
use denote.Laws.{Is, shows}
use denote.Memory.{mem, cell_at, part_of}
use denote.Ref.{MutRef}
use denote.Lend.{lends_ref, ref_back}
use denote.Steps.{opens, closes, owned, peeks}
use denote.Struct.Declared.{Declared, fields, shape, row}
use denote.Struct.Struct.{layout, Plains}
use denote.Struct.Steps.{spelt}
use denote.Struct.Laws as LL

module _ {M : Type 1} {𝓤 : Ura M} {𝓛 : Logic 𝓤} {K : Type 0} {Γ : List (Item 𝓤)} {G : Goal 𝓤 𝓛.H} where
  pub opened : K → Soaks G → (D : Declared) (L : LL.Laws D) → {κ : Lft} {q : Share} {γ : GName} (h : D.D) (b o : ℕ)
      → (Is (row D) h (LL.vals D L h) → Seq K 𝓛 (‵ (cell_at full_share (row D).mir (LL.vals D L h) b o) ∷ ‵ (fobor κ q (Body (mem (row D)) b o γ)) ∷ ‵ (fobs γ ((row D).coded.code h)) ∷ ‵ (fauth γ ((row D).coded.code h)) ∷ Γ) G)
      → Seq K 𝓛 (‵ (fobs γ ((row D).coded.code h)) ∷ ‵ (fbor κ (Body (mem (row D)) b o γ)) ∷ ‵ (flft κ q) ∷ Γ) G
  opened t z D L h b o k =
      opens t z (row D) {h = h} b o (λ vs. spelt t (row D) (Is (row D)) (shows 𝓛 (row D)) (LL.vals D L) (LL.tells D L) full_share h vs b o $
      move t (1 ∷ []) $ peeks t (row D) (Is (row D)) (shows 𝓛 (row D)) h (LL.vals D L h) (λ g. drop t $ k g))

  pub opened-typed : K → Soaks G → (D : Declared) (L : LL.Laws D) → {κ : Lft} {q : Share} {γ : GName} (h : D.D) (b o : ℕ)
      → (Is (row D) h (LL.vals D L h) → Seq K 𝓛 (‵ (fat full_share (layout (shape D)) b o (LL.val D L h)) ∷ ‵ (fobor κ q (Body (mem (row D)) b o γ)) ∷ ‵ (fobs γ ((row D).coded.code h)) ∷ ‵ (fauth γ ((row D).coded.code h)) ∷ Γ) G)
      → Seq K 𝓛 (‵ (fobs γ ((row D).coded.code h)) ∷ ‵ (fbor κ (Body (mem (row D)) b o γ)) ∷ ‵ (flft κ q) ∷ Γ) G
  opened-typed t z D L h b o k = opened t z D L h b o (λ g. use1 𝓛 (‵ (fat full_share (layout (shape D)) b o (LL.val D L h))) (𝓛.laws.raw_at full_share (layout (shape D)) b o (LL.val D L h)) $ k g)

  pub had : K → (D : Declared) → Plains (fields D) → (h : D.D) (vs : List Val) → Is (row D) h vs → Step K 𝓛 (‵ ((row D).own_val h vs) ∷ Γ) G Γ G
  had t D pl h vs is = owned t (row D) (Is (row D)) (LL.makes D pl 𝓛) h vs is

module _ {M : Type 1} {𝓤 : Ura M} {𝓛 : Logic 𝓤} {K : Type 0} {Γ : List (Item 𝓤)} {G : Goal 𝓤 𝓛.H} where
  pub shut : K → Soaks G → (D : Declared) (L : LL.Laws D) → Plains (fields D) → {κ : Lft} {q : Share} {γ : GName} {u v : Gv} (h : D.D) (b o : ℕ) → Is (row D) h (LL.vals D L h)
      → Step K 𝓛 (‵ (fobs γ ((row D).coded.code h)) ∷ ‵ (fbor κ (Body (mem (row D)) b o γ)) ∷ ‵ (flft κ q) ∷ Γ) G
      (‵ (cell_at full_share (row D).mir (LL.vals D L h) b o) ∷ ‵ (fobor κ q (Body (mem (row D)) b o γ)) ∷ ‵ (fobs γ u) ∷ ‵ (fauth γ v) ∷ Γ) G
  shut t z D L pl h b o is = step (λ s. had t D pl h (LL.vals D L h) is $ move t (1 ∷ 0 ∷ []) $ closes t z (row D) h (LL.vals D L h) b o $ s)

  pub shut-typed : K → Soaks G → (D : Declared) (L : LL.Laws D) → Plains (fields D) → {κ : Lft} {q : Share} {γ : GName} {u v : Gv} (h : D.D) (b o : ℕ) → Is (row D) h (LL.vals D L h)
      → Step K 𝓛 (‵ (fobs γ ((row D).coded.code h)) ∷ ‵ (fbor κ (Body (mem (row D)) b o γ)) ∷ ‵ (flft κ q) ∷ Γ) G
      (‵ (fat full_share (layout (shape D)) b o (LL.val D L h)) ∷ ‵ (fobor κ q (Body (mem (row D)) b o γ)) ∷ ‵ (fobs γ u) ∷ ‵ (fauth γ v) ∷ Γ) G
  shut-typed t z D L pl h b o is = step (λ s. use1 𝓛 (‵ (cell_at full_share (row D).mir (LL.vals D L h) b o)) (𝓛.laws.at_raw full_share (layout (shape D)) b o (LL.val D L h)) $ shut t z D L pl h b o is $ s)

  pub lent : K → Soaks G → (D : Declared) (L : LL.Laws D) → Plains (fields D) → (ℓ : Lifetime) (h : D.D) (b o : ℕ) → Is (row D) h (LL.vals D L h)
      → ((ν : ℕ) (δ : GName) → Seq K 𝓛 (‵ ((MutRef ℓ (ν ∷ []) (row D)).own_val (record { ref_ptr = (b, o); ghost_name = δ; now = h }) (vptr b o ∷ [])) ∷ ‵ (flft (ν ∷ []) full_share) ∷ ‵ (flent (ν ∷ []) (Body (mem (row D)) b o δ)) ∷ Γ) G)
      → Seq K 𝓛 (‵ (cell_at full_share (row D).mir (LL.vals D L h) b o) ∷ Γ) G
  unfolding part_of
  lent t z D L pl ℓ h b o is k =
      had t D pl h (LL.vals D L h) is $ move t (1 ∷ 0 ∷ []) $ fjoin t $ fpack t (List Val) (λ us. fsep (cell_at full_share (row D).mir us b o) ((row D).own_val h us)) (LL.vals D L h) $ lft_new t z (λ ν. move t (1 ∷ []) $
      use1 𝓛 (later (some (λ (δ : GName). ‵ ((MutRef ℓ (ν ∷ []) (row D)).own_val (record { ref_ptr = (b, o); ghost_name = δ; now = h }) (vptr b o ∷ [])) ⊛ ‵ (flent (ν ∷ []) (Body (mem (row D)) b o δ))))) (lends_ref 𝓛 (row D) ℓ (ν ∷ []) h b o) $ await t z $
      pick t (λ δ. split t $ move t (0 ∷ 2 ∷ []) $ k ν δ))

  pub returned : K → Soaks G → (D : Declared) (L : LL.Laws D) → {ν : ℕ} {δ : GName} (h : D.D) (b o : ℕ)
      → (Is (row D) h (LL.vals D L h) → Seq K 𝓛 (‵ (cell_at full_share (row D).mir (LL.vals D L h) b o) ∷ Γ) G)
      → Seq K 𝓛 (‵ (flft (ν ∷ []) full_share) ∷ ‵ (flent (ν ∷ []) (Body (mem (row D)) b o δ)) ∷ ‵ (fres δ ((row D).coded.code h)) ∷ Γ) G
  unfolding part_of
  returned t z D L {ν} {δ} h b o k =
      lft_end t z $ use3 𝓛 (later (‵ ((mem (row D)).own_at h b o))) (ref_back 𝓛 (row D) (ν ∷ []) δ h b o) $ await t z $ fpick t (λ vs. fsplit t $
      spelt t (row D) (Is (row D)) (shows 𝓛 (row D)) (LL.vals D L) (LL.tells D L) full_share h vs b o $ move t (1 ∷ []) $ peeks t (row D) (Is (row D)) (shows 𝓛 (row D)) h (LL.vals D L h) (λ is. drop t $ k is))
