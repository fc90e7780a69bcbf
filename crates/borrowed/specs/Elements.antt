-- One element of an array that is a field of a struct, in a proof that walks the code: it is read and stored where it lies.
--     element us k d lt e p    element k of the cell of an array us that p finds (`Types/Part.antt`), at k * size + o, as MIR's `offset` has it.  `look_in` and `store_in` read and write it
--     slot D L xs k d are lt p     the same for an array xs of a declared type D, whose relation is `are`: the element's machine value is that of `get_or xs k d`
--     machines D L xs  the machine values of the elements xs.        got_val, put_val     that of one element, and those with one element put in another's place
--     Are D L n xs vs  the relation of an array of n elements.        got-is, put_is     what it says: the relation of one element, and the
--                      relation of the array with one put in another's place
--     with_field D L d k u     d's machine value, with u in the place of field k's, as a store of the field leaves it
--     bytes_fit n s tt lt      a machine word counts the bytes before element k of n, of s bytes each
--     reaches      three statements: the index times the size goes into a local m, the array's address into a, and their sum, the element's address, into c
-- Assumes `Logic`.
use Rattle.std.specs.Prelude.{◌≡◌, refl, ℕ, zero, suc, ◌+◌, ◌*◌, ◌^◌, ◌<◌, List, [], ◌∷◌, map, T, ltb, length, get_or, set}
use Rattle.std.proofs.Common.{sym, ◌∙◌, ap, subst, not-suc-le-zero, le_of_suc-le-suc, le_of_lt, lt_of_le_of_lt, mul-le-mul_right, lit<, length-set}
use Rattle.std.proofs.lemmas.List.{length-map, set-get_or}
use Rattle.std.proofs.Math.ListN.{get_or-map}
use seplogic.Ra.Ura.{Ura}
use mir.Syntax.{w64, Ty, ty_array, Place, place, copy, int, op2, mul, unsigned, offset, addr_of, Body as Code, seq, assign}
use mir.Val.{Val, vint, vptr, vstruct, of_list, Fits}
use mir.Fields.{set_v}
use base.Logic.{SProp, ent, sep, wand, all, apply∗, all_e}
use base.Fml.{Share, fat}
use prog.Memory.{size}
use prog.Model.{elems}
use prog.Wp.{Env, Spot, spot_of, Calls, Loops}
use types.Logic.{Logic}
use types.Kit.{Item, Post, runs, Step, step, ‵, raw, ◌⊛◌, mean, ◌$◌, ◌∵◌, !, qed, move, use1, use2, split, assume, frame, each, done}
use types.Run.{Reads, Writes, Finds, Opd, stop, from, load, lit, bin, addr, assigns}
use types.Part.{Part}
use denote.Shadow.{shadow}
use denote.Laws.{Is, Tells, valss}
use denote.RattleType.{RattleType, flat}
use denote.Array.{Array, array_val}
use denote.Array as arrays
use denote.Index.{place as placed, place_is}
use denote.Struct.Declared.{Declared, fields, shape, row}
use denote.Struct.Struct.{layout, Struct}
use denote.Struct.Laws as LL

-- ---- one element of an array in memory
-- the cell with any value u gives back the entry, as `back u`
abbrev Way : {M : Type 1} {𝓤 : Ura M} (𝓛 : Logic 𝓤) → Share → Ty → ℕ → ℕ → (Val → Item 𝓤) → SProp 𝓤
Way {𝓤 = 𝓤} 𝓛 q τ b o back = all 𝓤 (λ (u : Val). wand 𝓤 (𝓛.H.at q τ b o u) (mean 𝓛 (back u)))

module _ {M : Type 1} {𝓤 : Ura M} (𝓛 : Logic 𝓤) (q : Share) (τ : Ty) (b : ℕ) where
  -- the row of elements with any u in the place of element k, from u's cell
  open 𝓛 use {H}

  abbrev Hole : List Val → ℕ → ℕ → ℕ → SProp 𝓤
  Hole us k o a = all 𝓤 (λ (u : Val). wand 𝓤 (H.at q τ b a u) (elems 𝓤 H q τ b o (set us k u)))

  parted : (us : List Val) (k : ℕ) (d : Val) (o : ℕ) → k < length us → ent 𝓤 (elems 𝓤 H q τ b o us) (sep 𝓤 (H.at q τ b (placed (size τ) o k) (get_or us k d)) (Hole us k o (placed (size τ) o k)))
  parted [] k d o l = absurd (not-suc-le-zero l)
  parted (x ∷ us) zero d o l =
      qed 𝓛 (‵ (fat q τ b o x) ∷ raw (elems 𝓤 H q τ b (o + size τ) us) ∷ []) ∵ frame ! $
      each ! (λ (u : Val). wand 𝓤 (H.at q τ b o u) (elems 𝓤 H q τ b o (u ∷ us))) (λ u. assume ! (‵ (fat q τ b o u)) $ done !)
  parted (x ∷ us) (suc k) d o l =
      qed 𝓛 (‵ (fat q τ b o x) ∷ raw (elems 𝓤 H q τ b (o + size τ) us) ∷ []) ∵ move ! (1 ∷ []) $
      use1 𝓛 (‵ (fat q τ b a (get_or us k d)) ⊛ raw (Hole us k (o + size τ) a)) (parted us k d (o + size τ) (le_of_suc-le-suc l)) $ split ! $ frame ! $
      each ! (λ (u : Val). wand 𝓤 (H.at q τ b a u) (elems 𝓤 H q τ b o (x ∷ set us k u))) (λ u. assume ! (‵ (fat q τ b a u)) $
      -- [the cell with u; the others; the first]
      move ! (1 ∷ []) $ use1 𝓛 (raw (wand 𝓤 (H.at q τ b a u) (elems 𝓤 H q τ b (o + size τ) (set us k u)))) (all_e 𝓤 (λ (w : Val). wand 𝓤 (H.at q τ b a w) (elems 𝓤 H q τ b (o + size τ) (set us k w))) u) $ move ! (1 ∷ 0 ∷ []) $
      use2 𝓛 (raw (elems 𝓤 H q τ b (o + size τ) (set us k u))) (apply∗ 𝓤 (H.at q τ b a u) (elems 𝓤 H q τ b (o + size τ) (set us k u))) $ move ! (1 ∷ 0 ∷ []) $ done !)
    where
      a : ℕ
      a = placed (size τ) (o + size τ) k

  parted-at : (us : List Val) (k : ℕ) (d : Val) (o : ℕ) → k < length us → ent 𝓤 (elems 𝓤 H q τ b o us) (sep 𝓤 (H.at q τ b (k * size τ + o) (get_or us k d)) (Hole us k o (k * size τ + o)))
  parted-at us k d o l = subst (λ (a : ℕ). ent 𝓤 (elems 𝓤 H q τ b o us) (sep 𝓤 (H.at q τ b a (get_or us k d)) (Hole us k o a))) (place_is (size τ) o k) (parted us k d o l)

  -- the row of elements with one put in another's place is the array
  whole_again : (us : List Val) (n k o : ℕ) (u : Val) → length us ≡ n → ent 𝓤 (elems 𝓤 H q τ b o (set us k u)) (H.at q (ty_array τ n) b o (vstruct (of_list (set us k u))))
  whole_again us n k o u e =
      subst (λ (m : ℕ). ent 𝓤 (elems 𝓤 H q τ b o (set us k u)) (H.at q (ty_array τ m) b o (vstruct (of_list (set us k u))))) (length-set us k u ∙ e) (𝓛.laws.elems_at q τ b o (set us k u))

module _ {M : Type 1} {𝓤 : Ura M} {𝓛 : Logic 𝓤} {K : Type 0} where
  open 𝓛 use {H}

  pub element : K → {i : Item 𝓤} {q : Share} {τ : Ty} {n b o : ℕ} {back : Val → Item 𝓤} (us : List Val) (k : ℕ) (d : Val) → k < length us → length us ≡ n
      → Part K 𝓛 i q (ty_array τ n) b o (vstruct (of_list us)) back → Part K 𝓛 i q τ b (k * size τ + o) (get_or us k d) (λ u. back (vstruct (of_list (set us k u))))
  element t {i} {q} {τ} {n} {b} {o} {back} us k d l e p = record {
    out = qed 𝓛 (i ∷ []) ∵ use1 𝓛 (‵ (fat q (ty_array τ n) b o (array_val us)) ⊛ raw (Way 𝓛 q (ty_array τ n) b o back)) p.out $ split ! $
        use1 𝓛 (raw (elems 𝓤 H q τ b o us)) (𝓛.laws.at_elems q τ n b o us) $ use1 𝓛 (‵ (fat q τ b a (get_or us k d)) ⊛ raw (Hole 𝓛 q τ b us k o a)) (parted-at 𝓛 q τ b us k d o l) $ split ! $ frame ! $
        each ! (λ (u : Val). wand 𝓤 (H.at q τ b a u) (mean 𝓛 (back (array_val (set us k u))))) (λ u. assume {P = mean 𝓛 (back (array_val (set us k u)))} ! (‵ (fat q τ b a u)) $
        -- [the element's cell with u; the others; the way back to the entry]
        move ! (1 ∷ []) $ use1 𝓛 (raw (Elem u)) (all_e 𝓤 Elem u) $ move ! (1 ∷ 0 ∷ []) $ use2 𝓛 (raw (elems 𝓤 H q τ b o (set us k u))) (apply∗ 𝓤 (H.at q τ b a u) (elems 𝓤 H q τ b o (set us k u))) $
        use1 𝓛 (‵ (fat q (ty_array τ n) b o (array_val (set us k u)))) (whole_again 𝓛 q τ b us n k o u e) $
        move ! (1 ∷ []) $ use1 𝓛 (raw (Entry (array_val (set us k u)))) (all_e 𝓤 Entry (array_val (set us k u))) $ move ! (1 ∷ 0 ∷ []) $
        use2 𝓛 (back (array_val (set us k u))) (apply∗ 𝓤 (H.at q (ty_array τ n) b o (array_val (set us k u))) (mean 𝓛 (back (array_val (set us k u))))) $ done !);
    same = ap (λ (ws : List Val). back (array_val ws)) (set-get_or us k d) ∙ p.same;
  }
    where
      a : ℕ
      a = k * size τ + o

      Elem : Val → SProp 𝓤
      Elem u = wand 𝓤 (H.at q τ b a u) (elems 𝓤 H q τ b o (set us k u))

      Entry : Val → SProp 𝓤
      Entry w = wand 𝓤 (H.at q (ty_array τ n) b o w) (mean 𝓛 (back w))

-- ---- an array of a declared type: its machine values, and its relation
map-set : {X Y : Type 0} (f : X → Y) (xs : List X) (k : ℕ) (x : X) → set (map f xs) k (f x) ≡ map f (set xs k x)
map-set f [] k x = refl
map-set f (y ∷ xs) zero x = refl
map-set f (y ∷ xs) (suc k) x = ap {B = List _} (λ ys. f y ∷ ys) (map-set f xs k x)

module _ (R : RattleType) (val : R.Denot → Val) where
  abbrev Each : List R.Denot → Type 0
  Each ys = shadow (arrays.each R.Denot R.own_val ys (map val ys))

  each-told : Tells R (Is R) (λ y. val y ∷ []) → (ys : List R.Denot) (us : List Val) → shadow (arrays.each R.Denot R.own_val ys us) → Each ys
  each-told tl [] [] s = tt
  each-told tl [] (u ∷ us) s = absurd s
  each-told tl (y ∷ ys) [] s = absurd s
  each-told tl (y ∷ ys) (u ∷ us) s = (subst (Is R y) (tl y (u ∷ []) s.0) s.0, each-told tl ys us s.1)

  each-got : (ys : List R.Denot) (k : ℕ) (d : R.Denot) → k < length ys → Each ys → Is R (get_or ys k d) (val (get_or ys k d) ∷ [])
  each-got [] k d l s = absurd (not-suc-le-zero l)
  each-got (y ∷ ys) zero d l s = s.0
  each-got (y ∷ ys) (suc k) d l s = each-got ys k d (le_of_suc-le-suc l) s.1

  each-put : (ys : List R.Denot) (k : ℕ) (y : R.Denot) → Is R y (val y ∷ []) → Each ys → Each (set ys k y)
  each-put [] k y g s = tt
  each-put (z ∷ ys) zero y g s = (g, s.1)
  each-put (z ∷ ys) (suc k) y g s = (s.0, each-put ys k y g s.1)

module _ (D : Declared) (L : LL.Laws D) where
  abbrev pub machines : List D.D → List Val
  machines xs = map (LL.tuple_val D L) (map D.to xs)

  pub got_val : (xs : List D.D) (k : ℕ) (d : D.D) → get_or (machines xs) k (LL.val D L d) ≡ LL.val D L (get_or xs k d)
  got_val xs k d = get_or-map (LL.tuple_val D L) (map D.to xs) k (D.to d) ∙ ap (LL.tuple_val D L) (get_or-map D.to xs k d)

  pub put_val : (xs : List D.D) (k : ℕ) (x : D.D) → set (machines xs) k (LL.val D L x) ≡ machines (set xs k x)
  put_val xs k x = map-set (LL.tuple_val D L) (map D.to xs) k (D.to x) ∙ ap (map (LL.tuple_val D L)) (map-set D.to xs k x)

  -- the relation of an array of n elements
  abbrev pub Are : ℕ → List D.D → List Val → Type 0
  Are n xs vs = Is (Array (Struct (shape D)) n) (map D.to xs) vs

  count_val : {n : ℕ} (xs : List D.D) {vs : List Val} → Are n xs vs → length (machines xs) ≡ n
  count_val xs p = length-map (map D.to xs) (LL.tuple_val D L) ∙ p.1.0.1

  pub got-is : {n : ℕ} (xs : List D.D) {vs : List Val} → Are n xs vs → (k : ℕ) (d : D.D) → k < n → Is (row D) (get_or xs k d) (LL.vals D L (get_or xs k d))
  got-is {n} xs p k d l = subst (λ (y : (Struct (shape D)).Denot). Is (Struct (shape D)) y (LL.tuple_vals D L y)) (get_or-map D.to xs k d)
      (each-got (Struct (shape D)) (LL.tuple_val D L) (map D.to xs) k (D.to d) (subst (λ (m : ℕ). k < m) (sym p.1.0.1) l) (each-told (Struct (shape D)) (LL.tuple_val D L) (LL.tuple_Tells D L) (map D.to xs) p.0 p.1.1))

  pub put_is : {n : ℕ} (xs : List D.D) {vs : List Val} → Are n xs vs → (k : ℕ) (x : D.D) → Is (row D) x (LL.vals D L x) → Are n (set xs k x) (array_val (machines (set xs k x)) ∷ [])
  put_is {n} xs p k x g = subst (λ (ys : List (Struct (shape D)).Denot). Is (Array (Struct (shape D)) n) ys (array_val (map (LL.tuple_val D L) ys) ∷ [])) (map-set D.to xs k x) (
    map (LL.tuple_val D L) (set (map D.to xs) k (D.to x)),
    (
      (refl, length-set (map D.to xs) k (D.to x) ∙ p.1.0.1),
      each-put (Struct (shape D)) (LL.tuple_val D L) (map D.to xs) k (D.to x) g (each-told (Struct (shape D)) (LL.tuple_val D L) (LL.tuple_Tells D L) (map D.to xs) p.0 p.1.1),
    ),
  )

module _ {M : Type 1} {𝓤 : Ura M} {𝓛 : Logic 𝓤} {K : Type 0} where
  pub slot : K → (D : Declared) (L : LL.Laws D) {i : Item 𝓤} {q : Share} {n b o : ℕ} {back : Val → Item 𝓤} (xs : List D.D) {vs : List Val} (k : ℕ) (d : D.D) → Are D L n xs vs → k < n
      → Part K 𝓛 i q (ty_array (layout (shape D)) n) b o (array_val (machines D L xs)) back
      → Part K 𝓛 i q (layout (shape D)) b (k * size (layout (shape D)) + o) (LL.val D L (get_or xs k d)) (λ u. back (array_val (set (machines D L xs) k u)))
  slot t D L {i} {q} {n} {b} {o} {back} xs k d are l p =
      subst (λ (v : Val). Part K 𝓛 i q (layout (shape D)) b (k * size (layout (shape D)) + o) v (λ u. back (array_val (set (machines D L xs) k u)))) (got_val D L xs k d)
      (element t (machines D L xs) k (LL.val D L d) (subst (λ (m : ℕ). k < m) (sym (count_val D L xs are)) l) (count_val D L xs are) p)

-- ---- a struct's machine value with another in the place of field k's, as a store of the field leaves it
abbrev pub with_field : (D : Declared) (L : LL.Laws D) → D.D → ℕ → Val → Val
with_field D L d k u = vstruct (set_v (of_list (flat (fields D) (valss (fields D) (LL.spells D.parts L) (D.to d)))) k u)

-- ---- the address of an element, as MIR computes it
pub bytes_fit : (n s : ℕ) → T (ltb (n * s) (2 ^ 64)) → {k : ℕ} → k < n → Fits w64 (k * s)
bytes_fit n s t l = record { fits = lt_of_le_of_lt (mul-le-mul_right s (le_of_lt l)) (lit< t) }

module _ {M : Type 1} {𝓤 : Ura M} {𝓛 : Logic 𝓤} {K : Type 0} {Γ Γ₁ Γ₂ Γ₃ : List (Item 𝓤)} {E : Env 𝓤 𝓛.H} {C : Calls 𝓤 𝓛.H} {Λ : Loops 𝓤 𝓛.H} {q : Post 𝓤 𝓛.H} {rest : Code} where
  open 𝓛 use {H}

  pub reaches : K → {i p : Place} {m a c k s : ℕ} {sp : Spot 𝓤 H} → Opd K 𝓛 Γ E (copy i) (vint w64 k) → T (ltb s (2 ^ 64)) → Fits w64 (k * s) → Writes K 𝓛 Γ (spot_of 𝓤 H E m).0 (spot_of 𝓤 H E m).1 (spot_of 𝓤 H E m).2 (vint w64 (k * s)) Γ₁
      → Finds K 𝓛 Γ₁ E p sp → Writes K 𝓛 Γ₁ (spot_of 𝓤 H E a).0 (spot_of 𝓤 H E a).1 (spot_of 𝓤 H E a).2 (vptr sp.1 sp.2) Γ₂
      → Reads K 𝓛 Γ₂ (spot_of 𝓤 H E a).0 (spot_of 𝓤 H E a).1 (spot_of 𝓤 H E a).2 (vptr sp.1 sp.2) → Reads K 𝓛 Γ₂ (spot_of 𝓤 H E m).0 (spot_of 𝓤 H E m).1 (spot_of 𝓤 H E m).2 (vint w64 (k * s))
      → Writes K 𝓛 Γ₂ (spot_of 𝓤 H E c).0 (spot_of 𝓤 H E c).1 (spot_of 𝓤 H E c).2 (vptr sp.1 (k * s + sp.2)) Γ₃
      → Step K 𝓛 Γ₃ (runs C Λ E rest q) Γ
      (runs C Λ E (seq (assign (place m []) (op2 (mul unsigned) (copy i) (int w64 s))) (seq (assign (place a []) (addr_of p)) (seq (assign (place c []) (op2 offset (copy (place a [])) (copy (place m [])))) rest))) q)
  reaches t ix lt fits w₁ f w₂ r₂ r₁ w₃ = step (λ z. assigns t (bin t ix (lit t lt) fits) (from t (stop t)) w₁ $ assigns t (addr t f) (from t (stop t)) w₂ $
      assigns t (bin t (load t (from t (stop t)) r₂) (load t (from t (stop t)) r₁) tt) (from t (stop t)) w₃ $ z)
