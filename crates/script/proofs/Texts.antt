-- Laws of cutting texts, and of writing them into a buffer.
-- Assumes nothing.
use mathlib.Core.Path.{◌≡◌, refl, sym, ap, ◌∙◌}
use mathlib.Core.Bool.{Bool, true, false, cond, ◌&&◌, false≢true}
use mathlib.Core.List.{List, [], ◌∷◌, ◌++◌, append_assoc}
use Prim.Native.Nat.{ℕ, suc, ◌+◌, ◌-◌, ◌≤◌, ◌<◌, min}
use native.Mathlib.Nat.{min-eq_left, min-eq_right, add-suc, suc-add, add-zero}
use native.Mathlib.Numerals.{add-one}
use native.Mathlib.Omega.{arith}
use native.Mathlib.Decide.{dec_le}
use lib.Dec.{eqb, ltb}
use lib.ListN.{length, get_or, set, take, drop, take-append-drop, length-append, drop_of_length-le}
use lib.Seq.{take_all, take-suc, length-take-le, set_out, sets, length-sets, drop-drop}
use Rattle.std.proofs.lemmas.List.Edits.{sets-eq}
use borrow.Author.Tests.{eqb-true, ltb-false}
use Rattle.std.specs.Prelude.{Option, Some, None}
use Rattle.std.specs.List.{position_or_len}
use Rattle.std.proofs.lemmas.List.Recursion.{is_position_or_len}
use Rattle.script.specs.declared.writer.Writer.{Writer}
use Rattle.script.specs.Writing.{Puts}
use Rattle.script.specs.Text.{before, after, put, past, Wrote}

-- ---- two tests

pub and-false : (t : Bool) → t && false ≡ false
and-false true = refl
and-false false = refl

pub and_left : (s t : Bool) → s && t ≡ true → s ≡ true
and_left true t e = refl
and_left false t e = e

pub and_right : (s t : Bool) → s && t ≡ true → t ≡ true
and_right true t e = e
and_right false t e = absurd (false≢true e)

-- ---- nothing is not something

pub none-some : {A : Type 0} {x : A} → None ≡ Some x → ⊥
none-some e = cc

-- ---- cutting

take-cond : (t : Bool) (a : ℕ) (s p : List ℕ) → take (length p) s ≡ p → take (length (cond t [] (a ∷ p))) (a ∷ s) ≡ cond t [] (a ∷ p)
take-cond true a s p e = refl
take-cond false a s p e = ap (λ (r : List ℕ). a ∷ r) e

-- what stands before a byte is the text's first bytes
pub take-before : (b : ℕ) (s : List ℕ) → take (length (before b s)) s ≡ before b s
unfolding before
take-before b [] = refl
take-before b (a ∷ s) = take-cond (eqb a b) a s (before b s) (take-before b s)

le_cond : (t : Bool) (a : ℕ) (s p : List ℕ) → length p ≤ length s → length (cond t [] (a ∷ p)) ≤ suc (length s)
le_cond true a s p h = omega arith
le_cond false a s p h = omega arith

-- and no longer than the text
pub length_before : (b : ℕ) (s : List ℕ) → length (before b s) ≤ length s
unfolding before
length_before b [] = omega arith
length_before b (a ∷ s) = le_cond (eqb a b) a s (before b s) (length_before b s)

before-cond : (t : Bool) (b a : ℕ) (p : List ℕ) → eqb a b ≡ t → before b p ≡ p → before b (cond t [] (a ∷ p)) ≡ cond t [] (a ∷ p)
unfolding before
before-cond true b a p e h = refl
before-cond false b a p e h = rw (e, h)

-- none of them is the byte
pub before-before : (b : ℕ) (s : List ℕ) → before b (before b s) ≡ before b s
unfolding before
before-before b [] = refl
before-before b (a ∷ s) = before-cond (eqb a b) b a (before b s) refl (before-before b s)

at-cond : (t : Bool) (b a : ℕ) (s p : List ℕ) → eqb a b ≡ t → (length p < length s → get_or s (length p) 0 ≡ b) → length (cond t [] (a ∷ p)) < suc (length s)
    → get_or (a ∷ s) (length (cond t [] (a ∷ p))) 0 ≡ b
at-cond true b a s p e h k = eqb-true a b e
at-cond false b a s p e h k = h (omega arith)

-- the byte stands behind them, where anything does
pub before_at : (b : ℕ) (s : List ℕ) → length (before b s) < length s → get_or s (length (before b s)) 0 ≡ b
unfolding before
before_at b [] h = absurd (omega arith)
before_at b (a ∷ s) h = at-cond (eqb a b) b a s (before b s) refl (before_at b s) h

drop-cond : (t : Bool) (a : ℕ) (s p q : List ℕ) → drop (suc (length p)) s ≡ q → drop (suc (length (cond t [] (a ∷ p)))) (a ∷ s) ≡ cond t s q
drop-cond true a s p q e = refl
drop-cond false a s p q e = e

-- and then what stands after the byte
pub drop-before : (b : ℕ) (s : List ℕ) → drop (suc (length (before b s))) s ≡ after b s
unfolding before after
drop-before b [] = refl
drop-before b (a ∷ s) = drop-cond (eqb a b) a s (before b s) (after b s) (drop-before b s)

-- where the byte is found, or is not
length-cond : (t : Bool) (a : ℕ) (p : List ℕ) → length (cond t [] (a ∷ p)) ≡ cond t 0 (1 + length p)
length-cond true a p = refl
length-cond false a p = omega arith

place-before : (b : ℕ) (s : List ℕ) → length (before b s) ≡ position_or_len (λ x. eqb x b) s
unfolding before
place-before b s = is_position_or_len (λ t. length (before b t)) (λ x. eqb x b) refl (λ x t. length-cond (eqb x b) x (before b t)) s

module _ (b : ℕ) (s : List ℕ) (r : Option ℕ)
    (searched : r ≡ cond (ltb (position_or_len (λ x. eqb x b) s) (length s)) (Some (position_or_len (λ x. eqb x b) s)) None) where
  pub cut-found : (at : ℕ) → r ≡ Some at → (take at s ≡ before b s) × (drop (at + 1) s ≡ after b s)
  cut-found at e = go (ltb (position_or_len (λ x. eqb x b) s) (length s)) (sym searched ∙ e)
    where
      go : (t : Bool) → cond t (Some (position_or_len (λ x. eqb x b) s)) None ≡ Some at → (take at s ≡ before b s) × (drop (at + 1) s ≡ after b s)
      go true p =
          let q : at ≡ length (before b s) = let n = place-before b s in cc in
          (rw q (take-before b s), rw (add-one, q) (drop-before b s))
      go false p = absurd (none-some p)

  pub cut-missing : r ≡ None → (s ≡ before b s) × ([] ≡ after b s)
  cut-missing e = go (ltb (position_or_len (λ x. eqb x b) s) (length s)) refl (sym searched ∙ e)
    where
      go : (t : Bool) → ltb (position_or_len (λ x. eqb x b) s) (length s) ≡ t → cond t (Some (position_or_len (λ x. eqb x b) s)) None ≡ None → (s ≡ before b s) × ([] ≡ after b s)
      go true h p = absurd (none-some (sym p))
      go false h p =
          let n : length s ≤ length (before b s) = omega (arith, place-before b s, ltb-false _ _ h) in
          (sym (take_all (length (before b s)) s n) ∙ take-before b s, sym (drop_of_length-le s {i = suc (length (before b s))} (omega arith)) ∙ drop-before b s)

-- ---- writing

sets_past : (u l : List ℕ) (i : ℕ) → length l ≤ i → sets l i u ≡ l
sets_past [] l i h = refl
sets_past (a ∷ u) l i h = rw (set_out l i a) (sets_past u l (suc i) (omega arith))

sets-min : (u l : List ℕ) (i : ℕ) → sets l (min i (length l)) u ≡ sets l i u
sets-min u l i = go (dec_le i (length l))
  where
    go : Dec (i ≤ length l) → sets l (min i (length l)) u ≡ sets l i u
    go (yes h) = rw (min-eq_left h)
    go (no h) =
        let p : length l ≤ i = omega arith in
        rw (min-eq_right p) (sets_past u l (length l) (omega arith) ∙ sym (sets_past u l i p))

sets_append : (t u l : List ℕ) (i : ℕ) → sets l i (t ++ u) ≡ sets (sets l i t) (i + length t) u
sets_append [] u l i = rw add-zero
sets_append (a ∷ t) u l i = rw (add-suc, ← (suc-add i (length t))) (sets_append t u (set l i a) (suc i))

-- one byte more is stored
pub sets-next : (l u : List ℕ) (at i : ℕ) → i < length u → set (sets l at (take i u)) (at + i) (get_or u i 0) ≡ sets l at (take (i + 1) u)
sets-next l u at i h =
    let n : length (take i u) ≡ i = length-take-le i u (omega arith) in
    rw (add-one, take-suc u i 0, sets_append (take i u) (get_or u i 0 ∷ []) l at, n)

-- what does not fit is left out
sets-fitting : (l u : List ℕ) (at n : ℕ) → n ≡ min (length u) (length l - at) → sets l at (take n u) ≡ sets l at u
sets-fitting l u at n e = go (dec_le (length u) n)
  where
    go : Dec (length u ≤ n) → sets l at (take n u) ≡ sets l at u
    go (yes h) = rw (take_all n u h)
    go (no h) =
        let k : length (take n u) ≡ n = length-take-le n u (omega arith) in
        let m : length (sets l at (take n u)) ≡ length l = length-sets l at (take n u) in
        sym (ap (sets l at) (sym (take-append-drop n u)) ∙ sets_append (take n u) (drop n u) l at
        ∙ sets_past (drop n u) (sets l at (take n u)) (at + length (take n u)) (omega arith))

-- as many bytes as fit are copied
pub put-fitting : (l u w : List ℕ) (at start n k : ℕ) → start ≡ min at (length l) → n ≡ min (length u) (length l - start) → w ≡ take n u → k ≡ n
    → take start l ++ (w ++ drop k (drop start l)) ≡ put u l at
unfolding put
put-fitting l u w at start n k p q e f =
    let m : length (take n u) ≡ n = length-take-le n u (omega arith) in
    let s : sets l start (take n u) ≡ take start l ++ take n u ++ drop (start + n) l = rw m at (sets-eq (take n u) l start (omega arith)) in
    rw (e, f, drop-drop n start l, ← (append_assoc (take start l) (take n u) (drop (start + n) l)))
    (sym s ∙ sets-fitting l u start n (omega arith) ∙ rw p (sets-min u l at))

-- by this, bytes are copied
pub ruleset fitting = (put-fitting)

-- one text behind the other
pub put_more : (t u l : List ℕ) (at : ℕ) → put (t ++ u) l at ≡ put u (put t l at) (past t l at)
unfolding put past
put_more t u l at = sets_append t u l at ∙ sym (rw (sym (length-sets l at t)) (sets-min u (sets l at t) (at + length t)))

pub past_more : (t u l : List ℕ) (at : ℕ) → past (t ++ u) l at ≡ past u (put t l at) (past t l at)
unfolding put past
past_more t u l at = omega (arith, length-append t u, length-sets l at t)

-- the first byte, and then the others
pub put_first : (a : ℕ) (u l : List ℕ) (at : ℕ) → put (a ∷ u) l at ≡ put u (put (a ∷ []) l at) (past (a ∷ []) l at)
put_first a u l at = put_more (a ∷ []) u l at

pub past_first : (a : ℕ) (u l : List ℕ) (at : ℕ) → past (a ∷ u) l at ≡ past u (put (a ∷ []) l at) (past (a ∷ []) l at)
past_first a u l at = past_more (a ∷ []) u l at

-- by these, several parts written one behind the other are one text
pub ruleset parts = (put_more, past_more, put_first, past_first)

-- no byte: the place is the buffer's end where it was past it
pub wrote_none : (l : List ℕ) (at n : ℕ) → n ≡ min at (length l) → Wrote l at [] l n
unfolding put past
wrote_none l at n e = record { bytes = refl; place = omega arith }

-- past the end nothing changes
pub wrote_past : (l t : List ℕ) (at : ℕ) → length l ≤ at → Wrote l at t l (length l)
unfolding put past
wrote_past l t at h = record { bytes = sym (sets_past t l at h); place = omega arith }

-- the buffer keeps its length
pub wrote-length : {l t l' : List ℕ} {at n : ℕ} → Wrote l at t l' n → length l' ≡ length l
unfolding put
wrote-length {l} {t} {l'} {at} w = ap length w.bytes ∙ length-sets l at t

-- the place behind the text is in the buffer
pub wrote-inside : {l t l' : List ℕ} {at n : ℕ} → Wrote l at t l' n → n ≤ length l'
unfolding past
wrote-inside {l} {t} {l'} {at} {n} w = omega (arith, w.place, wrote-length w)

-- one text behind the other is one text
pub wrote-more : {l t l' u l'' : List ℕ} {at n m : ℕ} → Wrote l at t l' n → Wrote l' n u l'' m → Wrote l at (t ++ u) l'' m
wrote-more {l} {t} {l'} {u} {l''} {at} {n} {m} w v = record {
  bytes = v.bytes ∙ rw (w.bytes, w.place) (sym (put_more t u l at));
  place = v.place ∙ rw (w.bytes, w.place) (sym (past_more t u l at));
}

-- the same of what a writer's methods do, for answers by hand
pub puts_more : {t u : List ℕ} {w w' w'' : Writer} → Puts t w w' → Puts u w' w'' → Puts (t ++ u) w w''
puts_more p q = record { same = q.same ∙ p.same; wrote = wrote-more p.wrote q.wrote }
