-- Feeding byte by byte and ending is the absorption of the padded message, block by block, as specs/Sponge.antt has it, with the run count. One argument for every
-- mode: any row whose feed rate is not 0.
-- Assumes nothing.
use Rattle.std.proofs.Common.{◌≡◌, ℕ, zero, suc, ◌+◌, ◌*◌, ◌/◌, ◌%◌, ◌^◌, ◌<◌, ◌≤◌, Bool, true, false, eqb, ltb, List, [], ◌∷◌, ◌++◌, length, take, drop, sym, refl, ap, ◌∙◌, ap₂, append_assoc, le_refl, add-zero, add_assoc, add-suc, mod-lt, mod-eq_of_lt, suc-add, one-mul, div-add-mod', zero-add, mul-div_cancel, add-one, arith, length-append, length-drop, take-append-drop, length-take-le, take_all, take_at, drop_at, ltb-false, ltb-true, eq-eqb, ne_eqb}
use native.Mathlib.Nat.{zero-mod, mod-mod, suc-mod}
use native.Mathlib.Nat.{add-mod, add-mod_left, add-mod_right, div_self, div-eq_of_lt, add-div_left}
use lib.ListN.{length-replicate}
use Rattle.word.specs.Bytes.{xor_at, xor_from}
use Rattle.word.proofs.Bytes.{xor_from-zeros, xor_from_append}
use Rattle.permutation.specs.Permutation.{permute}
use Rattle.sponge.specs.declared.record.Record.{Record}
use Rattle.mode.specs.Mode.{outer_rounds, Row}
use Rattle.sponge.specs.Sponge.{pad, cut, blocks, flip_if, absorb_blocks, absorb_message}
use Rattle.sponge.proofs.Core.{sum64-lt, sum64-sum64, sum64-zero, with_core_of, run_if_core}
use Rattle.sponge.specs.Record.{sum64, with_core, with_feeding, in_words, after_run, run_if, feed_byte, feed_bytes, end_feeding}

-- ---- what feeding reads and changes, at any row

-- the words and the runs of a record, and nothing else: x has the other fields
pub feed_bytes_core : (w : Row) (bs : List ℕ) (n : ℕ) (r x : Record) → feed_bytes w n bs (with_core_of r x) ≡ with_core_of (feed_bytes w n bs r) x
unfolding feed_bytes feed_byte in_words
feed_bytes_core w [] n r x = refl
feed_bytes_core w (b ∷ bs) n r x =
    rw (run_if_core w (eqb (suc (n % w.feed_rate)) w.feed_rate) (in_words (xor_at (n % w.feed_rate) b) r) x) (feed_bytes_core w bs (suc n) (feed_byte w n b r) x)

-- of the number of a byte only its place in the block counts
pub feed_bytes-place : (w : Row) (bs : List ℕ) (n m : ℕ) (r : Record) → n % w.feed_rate ≡ m % w.feed_rate → feed_bytes w n bs r ≡ feed_bytes w m bs r
unfolding feed_bytes feed_byte
feed_bytes-place w [] n m r e = refl
feed_bytes-place w (b ∷ bs) n m r e = rw e (feed_bytes-place w bs (suc n) (suc m) (feed_byte w m b r) (suc-mod n w.feed_rate ∙ rw e (sym (suc-mod m w.feed_rate))))

-- bytes after other bytes
pub feed_bytes_append : (w : Row) (a b : List ℕ) (n : ℕ) (r : Record) → feed_bytes w n (a ++ b) r ≡ feed_bytes w (n + length a) b (feed_bytes w n a r)
unfolding feed_bytes
feed_bytes_append w [] b n r = rw add-zero
feed_bytes_append w (x ∷ a) b n r = feed_bytes_append w a b (suc n) (feed_byte w n x r) ∙ rw (suc-add, add-suc)

-- the end of feeding: the words and the runs alone are read, and of the number of bytes fed only the place in the block
pub end_feeding_core : (w : Row) (n : ℕ) (r x : Record) → end_feeding w n (with_core_of r x) ≡ with_core_of (end_feeding w n r) (with_feeding false x)
unfolding end_feeding in_words after_run
end_feeding_core w n r x = refl

pub end_feeding-place : (w : Row) (n m : ℕ) (r : Record) → n % w.feed_rate ≡ m % w.feed_rate → end_feeding w n r ≡ end_feeding w m r
unfolding end_feeding
end_feeding-place w n m r e = rw e

-- ---- messages, blocks and padding, at any rate

module _ (R : ℕ) (pos : 0 < R) where
  -- what holds of every message shorter than a block, and of a block before a message if it holds of the message, holds of all messages
  by_blocks : (P : List ℕ → Type 0) → ((q : List ℕ) → length q < R → P q) → ((b m : List ℕ) → length b ≡ R → P m → P (b ++ m))
      → (k : ℕ) (m : List ℕ) → length m ≤ k → P m
  by_blocks P short longer zero m h = short m (omega arith)
  by_blocks P short longer (suc k) m h = go (λ l. by_blocks P short longer k (drop R m) l) (ltb (length m) R) refl
    where
      less : R ≤ length m → length (drop R m) ≤ k
      less l = rw length-drop (omega arith)

      go : (length (drop R m) ≤ k → P (drop R m)) → (t : Bool) → ltb (length m) R ≡ t → P m
      go ih true e = short m (ltb-true _ _ e)
      go ih false e =
          let l : R ≤ length m = ltb-false _ _ e in
          rw (take-append-drop R m) at (longer (take R m) (drop R m) (length-take-le R m l) (ih (less l)))

  -- the padded message has one block more than the message has whole ones
  length-pad : (m : List ℕ) → length (pad R m) ≡ (length m / R + 1) * R
  unfolding pad
  length-pad m = simp (length-append, length-replicate) (omega (arith, div-add-mod' (length m) R, mod-lt (length m) pos))

  -- a block before a message
  pad-block : (b m : List ℕ) → length b ≡ R → pad R (b ++ m) ≡ b ++ pad R m
  unfolding pad
  pad-block b m h = simp (append_assoc, length-append, h, add-mod_left)

  blocks-block : (b m : List ℕ) → length b ≡ R → blocks R (b ++ m) ≡ b ∷ blocks R m
  unfolding blocks cut
  blocks-block b m h = rw (length-append, h, add-div_left _ pos, add-one, take_at b m R h, drop_at b m R h)

-- ---- feeding block by block

module _ (w : Row) where
  -- a byte that does not fill the block; i is its place
  feed-byte : (n i b : ℕ) (r : Record) → n % w.feed_rate ≡ i → suc i < w.feed_rate → feed_byte w n b r ≡ in_words (xor_at i b) r
  unfolding feed_byte run_if
  feed-byte n i b r e h = rw (e, ne_eqb (suc i) w.feed_rate (λ q. omega arith))

  -- bytes of one block: all are xored in, and a run follows where the last one fills the block
  pub feed-part : (bs : List ℕ) (b n i : ℕ) (r : Record) → n % w.feed_rate ≡ i → i + suc (length bs) ≤ w.feed_rate
      → feed_bytes w n (b ∷ bs) r ≡ run_if w (eqb (i + suc (length bs)) w.feed_rate) (in_words (xor_from i (b ∷ bs)) r)
  unfolding feed_bytes feed_byte in_words xor_from
  feed-part [] b n i r e h = rw (e, add-one)
  feed-part (c ∷ bs) b n i r e h =
      rw (feed-byte n i b r e (omega arith), add-suc i (suc (length bs)), ← suc-add i (suc (length bs)))
      (feed-part bs c (suc n) (suc i) (in_words (xor_at i b) r) (rw (suc-mod n w.feed_rate, e) (mod-eq_of_lt (omega arith))) (omega arith))

  -- bytes that do not fill the block
  pub feed-within : (bs : List ℕ) (n i : ℕ) (r : Record) → n % w.feed_rate ≡ i → i + length bs < w.feed_rate → feed_bytes w n bs r ≡ in_words (xor_from i bs) r
  unfolding feed_bytes in_words xor_from run_if
  feed-within [] n i r e h = refl
  feed-within (b ∷ bs) n i r e h = feed-part bs b n i r e (omega arith) ∙ rw (ne_eqb (i + suc (length bs)) w.feed_rate (λ q. omega arith))

  -- a whole block, from its first place on
  pub feed-block : (b : List ℕ) (n : ℕ) (r : Record) → 0 < w.feed_rate → length b ≡ w.feed_rate → n % w.feed_rate ≡ 0
      → feed_bytes w n b r ≡ after_run w.inner_rounds (in_words (xor_from 0 b) r)
  unfolding run_if
  feed-block [] n r pos h e = absurd (omega arith)
  feed-block (x ∷ b) n r pos h e = feed-part b x n 0 r e (omega arith) ∙ rw (eq-eqb (0 + suc (length b)) w.feed_rate (omega arith))

-- ---- a whole message

module _ (w : Row) (pos : 0 < w.feed_rate) where
  -- the place of a byte k after one that has the first place
  place : (n k : ℕ) → n % w.feed_rate ≡ 0 → (n + k) % w.feed_rate ≡ k % w.feed_rate
  place n k e = rw (add-mod, e, zero-add, mod-mod)

  -- the absorbed state after a block and a message
  absorb-block : (b m s : List ℕ) → length b ≡ w.feed_rate → absorb_message w (b ++ m) s ≡ absorb_message w m (permute w.inner_rounds (xor_from 0 b s))
  unfolding absorb_message absorb_blocks blocks cut
  absorb-block b m s h =
      rw (
        pad-block w.feed_rate pos b m h,
        blocks-block w.feed_rate pos b (pad w.feed_rate m) h,
        length-pad w.feed_rate pos m,
        mul-div_cancel (length m / w.feed_rate + 1) pos,
        add-one,
      ) refl

  -- and after a message that does not fill a block
  absorb-rest : (q s : List ℕ) → length q < w.feed_rate → absorb_message w q s ≡ permute outer_rounds (flip_if w.flips (xor_at (length q) 0x80 (xor_from 0 q s)))
  unfolding absorb_message absorb_blocks blocks cut pad xor_from
  absorb-rest q s h =
      let l : length (pad w.feed_rate q) ≡ w.feed_rate = length-pad w.feed_rate pos q ∙ rw (div-eq_of_lt h, one-mul) in
      rw (l, div_self pos, take_all w.feed_rate (pad w.feed_rate q) (omega arith), xor_from_append, xor_from-zeros, zero-add) refl

  -- what is claimed of a message fed and ended, its first byte having the first place
  Ends : List ℕ → Type 0
  Ends m = (n : ℕ) (r : Record) → n % w.feed_rate ≡ 0
      → end_feeding w (n + length m) (feed_bytes w n m r)
      ≡ with_feeding false (with_core (absorb_message w m r.words) (sum64 r.runs (length m / w.feed_rate + 1)) r)

  ends_rest : (q : List ℕ) → length q < w.feed_rate → Ends q
  unfolding Ends end_feeding after_run in_words
  ends_rest q h n r e =
      rw (feed-within w q n 0 r e (omega arith), place n (length q) e, mod-eq_of_lt h)
      (ap₂ (λ (s : List ℕ) (k : ℕ). with_feeding false (with_core s (sum64 r.runs k) r)) (sym (absorb-rest q r.words h)) (rw (div-eq_of_lt h)))

  ends_block : (b m : List ℕ) → length b ≡ w.feed_rate → Ends m → Ends (b ++ m)
  unfolding Ends after_run in_words
  ends_block b m h ih n r e =
      rw (
        feed_bytes_append,
        feed-block w b n r pos h e,
        length-append,
        h,
        ← add_assoc,
        ih (n + w.feed_rate) (after_run w.inner_rounds (in_words (xor_from 0 b) r)) (add-mod_right n w.feed_rate ∙ e),
      )
      (ap₂ (λ (s : List ℕ) (k : ℕ). with_feeding false (with_core s k r)) (sym (absorb-block b m r.words h))
      (rw (add-div_left (length m) pos) (sum64-sum64 r.runs 1 (length m / w.feed_rate + 1) ∙ ap (sum64 r.runs) (omega arith))))

  -- a whole message fed, and the end: the absorbed words, and one run for each block of the padded message
  pub feeding-ended : (m : List ℕ) (r : Record)
      → end_feeding w (length m) (feed_bytes w 0 m r)
      ≡ with_feeding false (with_core (absorb_message w m r.words) (sum64 r.runs (length m / w.feed_rate + 1)) r)
  unfolding Ends
  feeding-ended m r = rw zero-add at (by_blocks w.feed_rate pos Ends ends_rest ends_block (length m) m (le_refl (length m)) 0 r (zero-mod w.feed_rate))

  -- what is claimed of the runs while feeding lasts
  Counts : List ℕ → Type 0
  Counts m = (n : ℕ) (r : Record) → n % w.feed_rate ≡ 0 → r.runs < 2 ^ 64 → (feed_bytes w n m r).runs ≡ sum64 r.runs (length m / w.feed_rate)

  -- a message fed: one run for each whole block of it
  pub feeding-counted : (m : List ℕ) (r : Record) → r.runs < 2 ^ 64 → (feed_bytes w 0 m r).runs ≡ sum64 r.runs (length m / w.feed_rate)
  unfolding Counts in_words after_run
  feeding-counted m r = by_blocks w.feed_rate pos Counts rest block (length m) m (le_refl (length m)) 0 r (zero-mod w.feed_rate)
    where
      rest : (q : List ℕ) → length q < w.feed_rate → Counts q
      rest q h n r e l = rw (feed-within w q n 0 r e (omega arith), div-eq_of_lt h) (sym (sum64-zero r.runs l))

      block : (b m : List ℕ) → length b ≡ w.feed_rate → Counts m → Counts (b ++ m)
      block b m h ih n r e l =
          rw (
            feed_bytes_append,
            feed-block w b n r pos h e,
            length-append,
            h,
            ih (n + w.feed_rate) (after_run w.inner_rounds (in_words (xor_from 0 b) r)) (add-mod_right n w.feed_rate ∙ e) (sum64-lt r.runs 1),
            add-div_left (length m) pos,
          )
          (sum64-sum64 r.runs 1 (length m / w.feed_rate) ∙ ap (sum64 r.runs) (omega arith))
