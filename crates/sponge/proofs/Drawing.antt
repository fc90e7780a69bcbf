-- Drawing byte by byte gives the squeezed blocks of specs/Sponge.antt, cut to the bytes asked for, with the run count. One argument for every mode: any row whose
-- draw rate is not 0.
-- Assumes nothing.
use Rattle.std.proofs.Common.{◌≡◌, ℕ, zero, suc, ◌+◌, ◌-◌, ◌*◌, ◌/◌, ◌%◌, ◌^◌, ◌<◌, ◌≤◌, max, Bool, true, false, not, ◌&&◌, eqb, List, [], ◌∷◌, ◌++◌, length, take, drop, sym, refl, ap, ◌∙◌, le_refl, add-zero, add-suc, mod-eq_of_lt, suc-add, zero-add, zero-mul, add-one, arith, take_at, drop_at, ne_eqb, eqb-true}
use native.Mathlib.Nat.{zero-div, add-mod_left, div-eq_of_lt}
use native.Mathlib.Nat.{add-div_left, lt-div-mul-add}
use borrow.Author.Tests.{eqb-false}
use Rattle.word.specs.Bytes.{byte_at, bytes_from}
use Rattle.permutation.specs.Permutation.{permute}
use Rattle.sponge.specs.declared.record.Record.{Record}
use Rattle.mode.specs.Mode.{Row}
use Rattle.sponge.specs.Sponge.{ceiling, squeeze_blocks, squeeze_bytes}
use Rattle.sponge.specs.Record.{sum64, with_core, after_run, run_if, ready, drawn_bytes, after_drawing}
use Rattle.sponge.proofs.Places.{suc-less, next-block, same_block}
use Rattle.sponge.proofs.Core.{sum64-sum64, sum64-zero, with_core_of, run_if_core}

-- ---- what a step reads and changes, and one count after another, at any row

-- drawing reads the words and the runs of a record, and nothing else: x has the other fields
pub drawn_bytes_core : (w : Row) (k d : ℕ) (r x : Record) → drawn_bytes w d k (with_core_of r x) ≡ drawn_bytes w d k r
unfolding drawn_bytes ready
drawn_bytes_core w zero d r x = refl
drawn_bytes_core w (suc k) d r x =
    rw (run_if_core w (not (eqb d 0) && eqb (d % w.draw_rate) 0) r x, drawn_bytes_core w k (suc d) (ready w d r) x)

-- and changes nothing else
pub after_drawing_core : (w : Row) (k d : ℕ) (r x : Record) → after_drawing w d k (with_core_of r x) ≡ with_core_of (after_drawing w d k r) x
unfolding after_drawing ready
after_drawing_core w zero d r x = refl
after_drawing_core w (suc k) d r x = rw (run_if_core w (not (eqb d 0) && eqb (d % w.draw_rate) 0) r x) (after_drawing_core w k (suc d) (ready w d r) x)

-- a bytes drawn, and then b more
pub after_drawing-add : (w : Row) (a b d : ℕ) (r : Record) → after_drawing w d (a + b) r ≡ after_drawing w (d + a) b (after_drawing w d a r)
unfolding after_drawing
after_drawing-add w zero b d r = rw (zero-add, add-zero)
after_drawing-add w (suc a) b d r = rw (suc-add, after_drawing-add w a b (suc d) (ready w d r), suc-add, add-suc)

pub drawn_bytes-add : (w : Row) (a b d : ℕ) (r : Record)
    → drawn_bytes w d (a + b) r ≡ drawn_bytes w d a r ++ drawn_bytes w (d + a) b (after_drawing w d a r)
unfolding drawn_bytes after_drawing
drawn_bytes-add w zero b d r = rw (zero-add, add-zero)
drawn_bytes-add w (suc a) b d r = rw (suc-add, drawn_bytes-add w a b (suc d) (ready w d r), suc-add, add-suc)

pub length-drawn_bytes : (w : Row) (k d : ℕ) (r : Record) → length (drawn_bytes w d k r) ≡ k
unfolding drawn_bytes
length-drawn_bytes w zero d r = refl
length-drawn_bytes w (suc k) d r = ap suc (length-drawn_bytes w k (suc d) (ready w d r))

-- ---- lists of a function's values

-- n values of f, from f k on
unfoldable pub values_from : (ℕ → ℕ) → ℕ → ℕ → List ℕ
values_from f k zero = []
values_from f k (suc n) = f k ∷ values_from f (suc k) n

pub length_values : (f : ℕ → ℕ) (k n : ℕ) → length (values_from f k n) ≡ n
unfolding values_from
length_values f k zero = refl
length_values f k (suc n) = ap suc (length_values f (suc k) n)

pub values_add : (f : ℕ → ℕ) (k a b : ℕ) → values_from f k (a + b) ≡ values_from f k a ++ values_from f (k + a) b
unfolding values_from
values_add f k zero b = rw (zero-add, add-zero)
values_add f k (suc a) b = rw (suc-add, values_add f (suc k) a b, suc-add, add-suc)

pub take_values : (f : ℕ → ℕ) (k a n : ℕ) → a ≤ n → take a (values_from f k n) ≡ values_from f k a
take_values f k a n h =
    let e : n ≡ a + (n - a) = omega arith in
    rw (e, values_add f k a (n - a)) (take_at (values_from f k a) _ a (length_values f k a))

pub drop_values : (f : ℕ → ℕ) (a n : ℕ) → drop a (values_from f 0 (a + n)) ≡ values_from f a n
drop_values f a n = rw (values_add f 0 a n, drop_at (values_from f 0 a) (values_from f (0 + a) n) a (length_values f 0 a), zero-add)

-- functions that agree have the same values
values_same : (f g : ℕ → ℕ) (k n : ℕ) → ((j : ℕ) → j < k + n → f j ≡ g j) → values_from f k n ≡ values_from g k n
unfolding values_from
values_same f g k zero h = refl
values_same f g k (suc n) h = rw (h k (omega arith), values_same f g (suc k) n (λ j l. h j (omega arith)))

-- and so they have where g is f without its first a values
values_later : (f g : ℕ → ℕ) (a k n : ℕ) → ((j : ℕ) → f (a + j) ≡ g j) → values_from f (a + k) n ≡ values_from g k n
unfolding values_from
values_later f g a k zero h = refl
values_later f g a k (suc n) h = rw (h k, ← add-suc, values_later f g a (suc k) n h)

-- bytes of words are such a list
bytes_values : (k n : ℕ) (ws : List ℕ) → bytes_from k n ws ≡ values_from (byte_at ws) k n
unfolding bytes_from values_from
bytes_values k zero ws = refl
bytes_values k (suc n) ws = rw (bytes_values (suc k) n ws)

-- ---- several runs

-- k runs of the inner rounds of a state, one after the other
unfoldable pub run_times : Row → ℕ → List ℕ → List ℕ
run_times w zero s = s
run_times w (suc k) s = permute w.inner_rounds (run_times w k s)

-- and of a record
unfoldable pub after_runs : Row → ℕ → Record → Record
after_runs w k r = with_core (run_times w k r.words) (sum64 r.runs k) r

run_times-first : (w : Row) (k : ℕ) (s : List ℕ) → run_times w k (permute w.inner_rounds s) ≡ permute w.inner_rounds (run_times w k s)
unfolding run_times
run_times-first w zero s = refl
run_times-first w (suc k) s = ap (permute w.inner_rounds) (run_times-first w k s)

pub after_runs-zero : (w : Row) (r : Record) → r.runs < 2 ^ 64 → after_runs w 0 r ≡ r
unfolding after_runs run_times
after_runs-zero w r h = ap (λ (n : ℕ). with_core r.words n r) (sum64-zero r.runs h)

after_runs-next : (w : Row) (k : ℕ) (r : Record) → after_run w.inner_rounds (after_runs w k r) ≡ after_runs w (suc k) r
unfolding after_run after_runs run_times
after_runs-next w k r = ap (λ (n : ℕ). with_core (permute w.inner_rounds (run_times w k r.words)) n r) (sum64-sum64 r.runs k 1 ∙ rw add-one)

-- output byte number i, s being the state at the end of feeding
unfoldable pub output_byte : Row → List ℕ → ℕ → ℕ
output_byte w s i = byte_at (run_times w (i / w.draw_rate) s) (i % w.draw_rate)

-- ---- drawing block by block

module _ (w : Row) (pos : 0 < w.draw_rate) where
  -- after the runs that d bytes drawn have left behind, byte number d is made ready: its block stands in the words
  ready-next : (d : ℕ) (r : Record) → ready w (suc d) (after_runs w (d / w.draw_rate) r) ≡ after_runs w (suc d / w.draw_rate) r
  unfolding ready run_if
  ready-next d r = rw (ne_eqb (suc d) 0 (λ z. omega arith)) (go (eqb (suc d % w.draw_rate) 0) refl)
    where
      go : (t : Bool) → eqb (suc d % w.draw_rate) 0 ≡ t → run_if w t (after_runs w (d / w.draw_rate) r) ≡ after_runs w (suc d / w.draw_rate) r
      go true e = rw (next-block w.draw_rate pos d (eqb-true _ _ e)) (after_runs-next w (d / w.draw_rate) r)
      go false e = rw (same_block w.draw_rate pos d (eqb-false _ _ e))

  ready-after : (d : ℕ) (r : Record) → ready w d (after_runs w ((d - 1) / w.draw_rate) r) ≡ after_runs w (d / w.draw_rate) r
  unfolding ready run_if
  ready-after zero r = refl
  ready-after (suc d) r = rw (suc-less d) (ready-next d r)

  -- d bytes drawn leave the record after (d - 1) / rate runs: so do k more
  pub after_drawing-runs : (k d : ℕ) (r : Record)
      → after_drawing w d k (after_runs w ((d - 1) / w.draw_rate) r) ≡ after_runs w ((d + k - 1) / w.draw_rate) r
  unfolding after_drawing
  after_drawing-runs zero d r = rw add-zero
  after_drawing-runs (suc k) d r =
      let e : suc d + k ≡ d + suc k = omega arith in
      rw (ready-after d r) (rw (suc-less d, e) at (after_drawing-runs k (suc d) r))

  -- and those k are bytes number d to d + k - 1 of the output
  pub drawn_bytes_values : (k d : ℕ) (r : Record)
      → drawn_bytes w d k (after_runs w ((d - 1) / w.draw_rate) r) ≡ values_from (output_byte w r.words) d k
  unfolding drawn_bytes output_byte after_runs values_from
  drawn_bytes_values zero d r = refl
  drawn_bytes_values (suc k) d r = rw (ready-after d r) (rw (rw (suc-less d) at (drawn_bytes_values k (suc d) r)))

  -- ---- the squeezed blocks

  -- the first block of the output stands in the state, and the later ones in the states after a run
  first_block : (s : List ℕ) (j : ℕ) → j < w.draw_rate → output_byte w s j ≡ byte_at s j
  unfolding output_byte run_times
  first_block s j h = rw (div-eq_of_lt h, mod-eq_of_lt h)

  later-block : (s : List ℕ) (j : ℕ) → output_byte w s (w.draw_rate + j) ≡ output_byte w (permute w.inner_rounds s) j
  unfolding output_byte run_times
  later-block s j = rw (add-div_left j pos, add-one, add-mod_left, run_times-first)

  -- the first bytes of the output, as far as the block reaches
  pub first-bytes : (k : ℕ) (s : List ℕ) → k ≤ w.draw_rate → values_from (output_byte w s) 0 k ≡ bytes_from 0 k s
  first-bytes k s h = rw bytes_values (values_same (output_byte w s) (byte_at s) 0 k (λ j l. first_block s j (omega arith)))

  squeeze_blocks_values : (k : ℕ) (s : List ℕ) → squeeze_blocks w k s ≡ values_from (output_byte w s) 0 (k * w.draw_rate)
  unfolding squeeze_blocks values_from
  squeeze_blocks_values zero s = rw zero-mul
  squeeze_blocks_values (suc k) s =
      let first : values_from (output_byte w s) 0 w.draw_rate ≡ bytes_from 0 w.draw_rate s = first-bytes w.draw_rate s (le_refl w.draw_rate) in
      let later : values_from (output_byte w s) (w.draw_rate + 0) (k * w.draw_rate) ≡ values_from (output_byte w (permute w.inner_rounds s)) 0 (k * w.draw_rate) =
      values_later _ _ w.draw_rate 0 (k * w.draw_rate) (later-block s) in
      let e : suc k * w.draw_rate ≡ w.draw_rate + k * w.draw_rate = omega arith in
      rw (e, values_add (output_byte w s) 0 w.draw_rate (k * w.draw_rate), first, squeeze_blocks_values k (permute w.inner_rounds s), ← later, zero-add, add-zero)

  -- the first d bytes of the output
  pub squeeze_bytes_values : (d : ℕ) (s : List ℕ) → squeeze_bytes w d s ≡ values_from (output_byte w s) 0 d
  unfolding squeeze_bytes ceiling
  squeeze_bytes_values d s =
      rw squeeze_blocks_values
      (take_values _ 0 d (ceiling d w.draw_rate * w.draw_rate) (omega (arith, lt-div-mul-add {a = d + (w.draw_rate - 1)} pos)))

  -- so k bytes drawn, after d, are those of the output's first d + k that follow the first d
  pub drawn_bytes-squeezed : (k d : ℕ) (r : Record) → drawn_bytes w d k (after_runs w ((d - 1) / w.draw_rate) r) ≡ drop d (squeeze_bytes w (d + k) r.words)
  drawn_bytes-squeezed k d r = rw (drawn_bytes_values k d r, squeeze_bytes_values (d + k) r.words) (sym (drop_values _ d k))

  -- the blocks that d bytes take, in the two ways of counting them: one is there before any byte is drawn
  pub blocks-drawn : (d : ℕ) → max 1 (ceiling d w.draw_rate) ≡ 1 + (d - 1) / w.draw_rate
  unfolding ceiling
  blocks-drawn zero =
      let e : 0 + (w.draw_rate - 1) < w.draw_rate = omega arith in
      rw (div-eq_of_lt e, zero-div)
  blocks-drawn (suc d) =
      let e : suc d + (w.draw_rate - 1) ≡ w.draw_rate + d = omega arith in
      rw (e, add-div_left d pos, suc-less d) (omega arith)
