-- Circuits of and, exclusive or and complement over words: what they compute is told by their truth table.
-- `by-table` is the law. Its circuits are found by `search gates` from the expressions that code computes, so a proof that cites it does not repeat the code.
-- Assumes nothing.
use mathlib.Core.Path.{◌≡◌, refl, sym, ap, ap₂, ◌∙◌}
use mathlib.Core.Bool.{Bool, true, false, ◌&&◌}
use mathlib.Core.List.{List, [], ◌∷◌, map}
use Prim.Native.Nat.{ℕ, zero, suc, ◌+◌, ◌-◌, ◌%◌, ◌^◌, ◌<◌}
use native.Mathlib.Omega.{arith}
use lib.Dec.{T, eqb, eqb→eq}
use lib.ListN.{length, get_or, length-map, get_or-map}
use lib.Pow.{pow_pos, ones_sub-lt}
use lib.Bits.{bit_and, bit_xor, and_lt, xor_lt}
use Rattle.word.specs.Word.{bit, word, number, column, Below}
use Rattle.word.proofs.Arrays.{cons_same}
use Rattle.word.proofs.Bits.{bit-lt, bit-zero, bit-and, bit-xor, bit_not, is_word, below_at}

-- how a number is made of the words xs, of w bits each
pub data Circuit (w : ℕ) (xs : List ℕ) : ℕ → Type 0 where
  input : (i : ℕ) → Circuit w xs (get_or xs i 0)
  xor_gate : {a b : ℕ} → Circuit w xs a → Circuit w xs b → Circuit w xs (bit_xor a b)
  and_gate : {a b : ℕ} → Circuit w xs a → Circuit w xs b → Circuit w xs (bit_and a b)
  not_gate : {a : ℕ} → Circuit w xs a → Circuit w xs ((2 ^ w - 1) - a)

-- the same for each number of a list
pub data Circuits (w : ℕ) (xs : List ℕ) : List ℕ → Type 0 where
  none : Circuits w xs []
  more : {a : ℕ} {rest : List ℕ} → Circuit w xs a → Circuits w xs rest → Circuits w xs (a ∷ rest)

pub ruleset gates = (none, more, input, xor_gate, and_gate, not_gate)

module _ {w : ℕ} {xs : List ℕ} where
  -- what a circuit makes of a row of bits, one for each word
  abbrev pub row-value : {a : ℕ} → Circuit w xs a → List ℕ → ℕ
  row-value (input i) l = get_or l i 0
  row-value (xor_gate g h) l = bit_xor (row-value g l) (row-value h l)
  row-value (and_gate g h) l = bit_and (row-value g l) (row-value h l)
  row-value (not_gate g) l = 1 - row-value g l

  module _ (fit : Below (2 ^ w) xs) where
    circuit_lt : {a : ℕ} → Circuit w xs a → a < 2 ^ w
    circuit_lt (input i) = below_at xs (pow_pos w) fit i
    circuit_lt (xor_gate {a} {b} g h) = xor_lt w a b (circuit_lt g) (circuit_lt h)
    circuit_lt (and_gate {a} {b} g h) = and_lt w a b (circuit_lt g) (circuit_lt h)
    circuit_lt (not_gate {a} g) = ones_sub-lt w a

    -- a circuit goes bit by bit
    circuit_bit : (j : ℕ) → j < w → {a : ℕ} (g : Circuit w xs a) → bit j a ≡ row-value g (map (bit j) xs)
    circuit_bit j l (input i) = sym (ap (get_or (map (bit j) xs) i) (sym (bit-zero j)) ∙ get_or-map (bit j) xs i 0)
    circuit_bit j l (xor_gate {a} {b} g h) = bit-xor j a b ∙ ap₂ bit_xor (circuit_bit j l g) (circuit_bit j l h)
    circuit_bit j l (and_gate {a} {b} g h) = bit-and j a b ∙ ap₂ bit_and (circuit_bit j l g) (circuit_bit j l h)
    circuit_bit j l (not_gate {a} g) = bit_not w j a (circuit_lt g) l ∙ ap (λ (n : ℕ). 1 - n) (circuit_bit j l g)

-- ---- truth tables

and_left : (a b : Bool) → T (a && b) → T a
and_left true b t = tt
and_left false b t = t

and_right : (a b : Bool) → T (a && b) → T b
and_right true b t = t
and_right false b t = absurd t

-- a test passes on all rows of n bits
abbrev pub on_rows : ℕ → (List ℕ → Bool) → Bool
on_rows zero f = f []
on_rows (suc n) f = on_rows n (λ l. f (0 ∷ l)) && on_rows n (λ l. f (1 ∷ l))

on_row : (n : ℕ) (f : List ℕ → Bool) → T (on_rows n f) → (l : List ℕ) → length l ≡ n → Below 2 l → T (f l)
on_row zero f t [] e b = t
on_row zero f t (x ∷ l) e b = absurd (omega arith)
on_row (suc n) f t [] e b = absurd (omega arith)
on_row (suc n) f t (zero ∷ l) e b = on_row n (λ r. f (0 ∷ r)) (and_left (on_rows n (λ r. f (0 ∷ r))) (on_rows n (λ r. f (1 ∷ r))) t) l (omega arith) b.1
on_row (suc n) f t (suc zero ∷ l) e b = on_row n (λ r. f (1 ∷ r)) (and_right (on_rows n (λ r. f (0 ∷ r))) (on_rows n (λ r. f (1 ∷ r))) t) l (omega arith) b.1
on_row (suc n) f t (suc (suc x) ∷ l) e b = absurd (omega arith)

bits_below : (j : ℕ) (xs : List ℕ) → Below 2 (map (bit j) xs)
bits_below j [] = tt
bits_below j (x ∷ xs) = (bit-lt j x, bits_below j xs)

module _ {w : ℕ} {xs : List ℕ} where
  -- on each row of n bits the circuit has the value of f
  abbrev pub table_is : ℕ → {a : ℕ} → Circuit w xs a → (List ℕ → ℕ) → Bool
  table_is n g f = on_rows n (λ l. eqb (row-value g l) (f l))

  -- so at each bit place it has the value of f at the words' bits there
  pub circuit_word : (n : ℕ) (f : List ℕ → ℕ) {a : ℕ} (g : Circuit w xs a) → T (table_is n g f) → length xs ≡ n → Below (2 ^ w) xs
      → a ≡ word w (λ j. f (map (bit j) xs))
  circuit_word n f g t e fit =
      is_word w (λ j. f (map (bit j) xs)) (circuit_lt fit g)
      (λ j l. circuit_bit fit j l g
      ∙ eqb→eq _ _ (on_row n (λ r. eqb (row-value g r) (f r)) t (map (bit j) xs) (length-map xs (bit j) ∙ e) (bits_below j xs)))

  -- on each row of n bits the circuits have the bits of f, at the places bs, of the number that the row forms
  abbrev pub tables_are : ℕ → (ℕ → ℕ) → List ℕ → {cs : List ℕ} → Circuits w xs cs → Bool
  tables_are n f [] none = true
  tables_are n f [] (more g gs) = false
  tables_are n f (b ∷ bs) none = false
  tables_are n f (b ∷ bs) (more g gs) = table_is n g (λ l. bit b (f (number l))) && tables_are n f bs gs

  -- circuits over n words that have the truth tables of f's bits, one for each of the places bs, are f at every bit place
  pub by-table : (n : ℕ) (f : ℕ → ℕ) (bs : List ℕ) {cs : List ℕ} (gs : Circuits w xs cs) → T (tables_are n f bs gs) → length xs ≡ n → Below (2 ^ w) xs
      → cs ≡ map (λ b. word w (λ j. bit b (f (column j xs)))) bs
  unfolding column
  by-table n f [] none t e fit = refl
  by-table n f [] (more g gs) t e fit = absurd t
  by-table n f (b ∷ bs) none t e fit = absurd t
  by-table n f (b ∷ bs) (more g gs) t e fit =
      let first = table_is n g (λ l. bit b (f (number l))) in
      let others = tables_are n f bs gs in
      cons_same
      (circuit_word n (λ l. bit b (f (number l))) g (and_left first others t) e fit)
      (by-table n f bs gs (and_right first others t) e fit)

-- for the reader: exclusive or, bit by bit
pub xor_bits : (w x y : ℕ) → x < 2 ^ w → y < 2 ^ w → bit_xor x y ≡ word w (λ j. (bit j x + bit j y) % 2)
xor_bits w x y hx hy =
    circuit_word {w = w} {xs = x ∷ y ∷ []} 2 (λ l. (get_or l 0 0 + get_or l 1 0) % 2) (xor_gate (input 0) (input 1)) tt refl (hx, (hy, tt))
