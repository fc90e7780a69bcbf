-- An output buffer is filled from a chunk: what is taken, and what is left for the next time.
-- Assumes nothing.
use mathlib.Core.Path.{◌≡◌, refl, sym, ap, ◌∙◌}
use mathlib.Core.Bool.{Bool, true, false, cond}
use mathlib.Core.List.{List, [], ◌∷◌, ◌++◌, append_assoc, append-nil}
use Prim.Native.Nat.{ℕ, zero, suc, ◌+◌, ◌≤◌, ◌<◌}
use native.Mathlib.Omega.{arith}
use lib.Dec.{leb}
use lib.ListN.{length, length-append}
use borrow.Author.Tests.{le-leb, lt-leb}
use Rattle.interpreter.specs.declared.Reader.{Reader}
use Rattle.interpreter.specs.Session.{Consumed, silent, byte_step, consumed, longest_answer, Filled, filled, output_size}
use Rattle.checks.specs.Joined.{joined}
use Rattle.interpreter.specs.Theorems.{Taking, part_texts}
use Rattle.interpreter.proofs.Consuming.{consumed_append}

pub filled-parts : (size : ℕ) (r : Reader) (text chunk : List ℕ) → Taking r text chunk (filled size r text chunk)
unfolding filled consumed
filled-parts size r text [] = record { taken = []; split = refl; reader = refl; printed = sym (append-nil text) }
filled-parts size r text (b ∷ s) =
    go (leb (length text + longest_answer) size) (filled-parts size (byte_step r b).reader (text ++ (byte_step r b).text) s)
  where
    go : (t : Bool) → Taking (byte_step r b).reader (text ++ (byte_step r b).text) s (filled size (byte_step r b).reader (text ++ (byte_step r b).text) s)
        → Taking r text (b ∷ s)
        (cond t (filled size (byte_step r b).reader (text ++ (byte_step r b).text) s) (record { reader = r; text = text; left = b ∷ s }))
    go true p =
        record {
          taken = b ∷ p.taken;
          split = ap (λ (l : List ℕ). b ∷ l) p.split;
          reader = p.reader;
          printed = p.printed ∙ append_assoc text (byte_step r b).text (consumed (byte_step r b).reader p.taken).text;
        }
    go false p = record { taken = []; split = refl; reader = refl; printed = sym (append-nil text) }

-- ---- where there is room

pub filled-byte : (size : ℕ) (r : Reader) (text : List ℕ) (b : ℕ) (s : List ℕ) → length text + longest_answer ≤ size
    → filled size r text (b ∷ s) ≡ filled size (byte_step r b).reader (text ++ (byte_step r b).text) s
unfolding filled
filled-byte size r text b s h = rw (le-leb (length text + longest_answer) size h)

-- a byte that prints nothing
pub filled-silent : (size : ℕ) (r q : Reader) (text : List ℕ) (b : ℕ) (s : List ℕ) → length text + longest_answer ≤ size → byte_step r b ≡ silent q
    → filled size r text (b ∷ s) ≡ filled size q text s
filled-silent size r q text b s h e = filled-byte size r text b s h ∙ rw (e, append-nil text)

-- where there is none
pub filled-full : (size : ℕ) (r : Reader) (text : List ℕ) (b : ℕ) (s : List ℕ) → size < length text + longest_answer
    → filled size r text (b ∷ s) ≡ record { reader = r; text = text; left = b ∷ s }
unfolding filled
filled-full size r text b s h = rw (lt-leb (length text + longest_answer) size h)

-- something is taken where there is room
pub filled-ahead : (size : ℕ) (r : Reader) (text chunk : List ℕ) → length text + longest_answer ≤ size → 1 ≤ length chunk
    → length (filled size r text chunk).left < length chunk
filled-ahead size r text [] h n = absurd (omega arith)
filled-ahead size r text (b ∷ s) h n =
    let p = filled-parts size (byte_step r b).reader (text ++ (byte_step r b).text) s in
    rw (filled-byte size r text b s h) (omega (
      arith,
      ap length p.split,
      length-append p.taken (filled size (byte_step r b).reader (text ++ (byte_step r b).text) s).left,
    ))

-- ---- part after part

module _ (r : Reader) (chunk : List ℕ) where
  abbrev part : Filled
  part = filled output_size r [] chunk

  -- the first part and what is consumed after it print what the chunk prints
  part-text : (consumed r chunk).text ≡ part.text ++ (consumed part.reader part.left).text
  part-text =
      let t = filled-parts output_size r [] chunk in
      ap (λ (c : List ℕ). (consumed r c).text) t.split
      ∙ ap (λ (f : Consumed). f.text) (consumed_append r t.taken part.left)
      ∙ ap (λ (q : Reader). (consumed r t.taken).text ++ (consumed q part.left).text) (sym t.reader)
      ∙ ap (λ (l : List ℕ). l ++ (consumed part.reader part.left).text) (sym t.printed)

nothing_left : (s : List ℕ) → length s ≤ 0 → s ≡ []
nothing_left [] h = refl
nothing_left (b ∷ s) h = absurd (omega arith)

enough : (n : ℕ) (r : Reader) (chunk : List ℕ) → length chunk ≤ n → joined (part_texts n r chunk) ≡ (consumed r chunk).text
unfolding part_texts consumed filled
enough zero r chunk h = sym (ap (λ (c : List ℕ). (consumed r c).text) (nothing_left chunk h))
enough (suc n) r [] h = enough n r [] (omega arith)
enough (suc n) r (b ∷ s) h =
    let fewer = filled-ahead output_size r [] (b ∷ s) (omega arith) (omega arith) in
    ap (λ (l : List ℕ). (part r (b ∷ s)).text ++ l) (enough n (part r (b ∷ s)).reader (part r (b ∷ s)).left (omega (arith, fewer)))
    ∙ sym (part-text r (b ∷ s))

pub parts_whole : (r : Reader) (chunk : List ℕ) → joined (part_texts (length chunk) r chunk) ≡ (consumed r chunk).text
parts_whole r chunk = enough (length chunk) r chunk (omega arith)
