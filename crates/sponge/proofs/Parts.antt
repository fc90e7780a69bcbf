-- A part of a block that is fed or drawn at once does what its bytes do one by one. Any row with rates above 0.
-- Assumes nothing.
use Rattle.std.proofs.Common.{◌≡◌, ℕ, zero, suc, ◌+◌, ◌-◌, ◌%◌, ◌<◌, ◌≤◌, min, Bool, true, false, not, eqb, ◌≢◌, List, [], ◌∷◌, ◌++◌, length, take, drop, sym, refl, ap, ◌∙◌, ap₂, append_assoc, add-zero, mod-lt, mod-eq_of_lt, add-one, arith, length-append, length-drop, length-take-le, take-append-drop, drop-drop, take_all, take_at, eq-eqb, ne_eqb}
use mathlib.Core.Bool.{and-false}
use native.Mathlib.Nat.{suc-mod, zero-mod, add-mod_right}
use native.Mathlib.Decide.{dec_lt, ℕ_discrete}
use Rattle.word.specs.Bytes.{bytes_from, byte_at, xor_from}
use Rattle.word.proofs.Bytes.{length-bytes_from}
use Rattle.sponge.specs.declared.record.Record.{Record}
use Rattle.mode.specs.declared.Mode.{Mode}
use Rattle.mode.specs.Mode.{Row, row}
use Rattle.sponge.specs.Record.{sum64, with_core, with_fed, after_run, run_if, in_words, feed_bytes, absorbed, ready, drawn_bytes, after_drawing}
use Rattle.sponge.specs.Parts.{filled, after_feed, used}
use Rattle.sponge.proofs.Places.{suc-less, next_place, first-place, block-end}
use Rattle.sponge.proofs.Feeding.{feed_bytes_append, feed_bytes_core, feed-part}
use Rattle.sponge.proofs.Drawing.{drawn_bytes-add, after_drawing-add}

-- ---- feeding

-- a run changes no field but words and count
pub run_if-mode : (w : Row) (due : Bool) (r : Record) → (run_if w due r).mode ≡ r.mode
unfolding run_if after_run
run_if-mode w true r = refl
run_if-mode w false r = refl

pub filled-mode : (w : Row) (p : ℕ) (bs : List ℕ) (r : Record) → (filled w p bs r).mode ≡ r.mode
unfolding filled in_words
filled-mode w p bs r = run_if-mode w (eqb (p + length bs) w.feed_rate) (in_words (xor_from p bs) r)

-- where the block is full, a run of the row's inner rounds follows
pub filled_full : (w : Row) (p : ℕ) (bs : List ℕ) (r : Record) → p + length bs ≡ w.feed_rate
    → filled w p bs r ≡ after_run w.inner_rounds (with_core (xor_from p bs r.words) r.runs r)
unfolding filled run_if in_words
filled_full w p bs r full = rw (eq-eqb (p + length bs) w.feed_rate full)

-- bytes that stay in the block of number n, whose place is p
pub feed-filled : (w : Row) (bs : List ℕ) (b n p : ℕ) (r : Record) → n % w.feed_rate ≡ p → p + suc (length bs) ≤ w.feed_rate
    → feed_bytes w n (b ∷ bs) r ≡ filled w p (b ∷ bs) r
unfolding filled
feed-filled = feed-part

-- all bytes of a feed
pub absorbed-fed : (bs : List ℕ) (r : Record) → absorbed bs r ≡ after_feed (feed_bytes (row r.mode) r.fed bs r).words (feed_bytes (row r.mode) r.fed bs r).runs (length bs) r
unfolding absorbed after_feed
absorbed-fed bs r = ap (with_fed (sum64 r.fed (length bs))) (feed_bytes_core (row r.mode) bs r.fed r r)

-- those of a feed that does not fill its block
pub absorbed-few : (bs : List ℕ) (r : Record) (p : ℕ) → r.fed % (row r.mode).feed_rate ≡ p → p + length bs < (row r.mode).feed_rate
    → absorbed bs r ≡ after_feed (xor_from p bs r.words) r.runs (length bs) r
unfolding absorbed after_feed feed_bytes filled run_if in_words xor_from
absorbed-few [] r p e l = refl
absorbed-few (b ∷ bs) r p e l =
    let part : eqb (p + suc (length bs)) (row r.mode).feed_rate ≡ false = ne_eqb (p + suc (length bs)) (row r.mode).feed_rate (λ z. omega arith) in
    let unfilled : filled (row r.mode) p (b ∷ bs) r ≡ in_words (xor_from p (b ∷ bs)) r = rw part in
    ap (with_fed (sum64 r.fed (suc (length bs)))) (feed-filled (row r.mode) bs b r.fed p r e (omega arith) ∙ unfilled)

-- a record with what feeding reads of r, and nothing of its other fields
abbrev pub bare : Record → Record
bare r = record { words = r.words; runs = r.runs; ticket = 0; mode = r.mode; fed = r.fed; drawn = 0; feeding = false }

-- the words and the runs are those of that record after the same feed
pub absorbed-bare : (bs : List ℕ) (r : Record) → absorbed bs r ≡ after_feed (absorbed bs (bare r)).words (absorbed bs (bare r)).runs (length bs) r
unfolding absorbed after_feed
absorbed-bare bs r = ap (with_fed (sum64 r.fed (length bs))) (feed_bytes_core (row r.mode) bs r.fed (bare r) r)

-- the next k bytes of a list, which stay in the block of number n, and then what is left of it
pub feed-next : (w : Row) (bs : List ℕ) (n i k p : ℕ) (r : Record) → (n + i) % w.feed_rate ≡ p → p + k ≤ w.feed_rate → 0 < k → i + k ≤ length bs
    → feed_bytes w (n + (i + k)) (drop (i + k) bs) (filled w p (take k (drop i bs)) r) ≡ feed_bytes w (n + i) (drop i bs) r
feed-next w bs n i k p r e h some l =
    sym (ap (λ (t : List ℕ). feed_bytes w (n + i) t r) (sym (take-append-drop k (drop i bs)) ∙ ap (λ (t : List ℕ). take k (drop i bs) ++ t) (drop-drop k i bs))
    ∙ feed_bytes_append w (take k (drop i bs)) (drop (i + k) bs) (n + i) r
    ∙ ap₂ (λ (m : ℕ) (x : Record). feed_bytes w m (drop (i + k) bs) x) number (go (take k (drop i bs)) count))
  where
    count : length (take k (drop i bs)) ≡ k
    count = length-take-le k (drop i bs) (omega (arith, length-drop i bs))

    number : n + i + length (take k (drop i bs)) ≡ n + (i + k)
    number = omega (arith, count)

    go : (part : List ℕ) → length part ≡ k → feed_bytes w (n + i) part r ≡ filled w p part r
    go [] c = absurd (omega arith)
    go (x ∷ part) c = feed-filled w part x (n + i) p r e (omega arith)

-- Some bytes of a feed are left, once those before them are absorbed: fed to the record as it is, they give what all of them give to the first record, and the next of
-- them goes to the place p.
pub record Feeding (w : Row) (all : Record) (mode : Mode) (p : ℕ) (left : List ℕ) (current : Record) : Type 0 where
  pub number : ℕ
  pub next : 0 < length left → number % w.feed_rate ≡ p
  pub same : feed_bytes w number left current ≡ all
  pub kept : current.mode ≡ mode

-- bytes that stay in the block, or none, are absorbed
feed_block : (w : Row) (bs : List ℕ) (n p : ℕ) (r : Record) → (0 < length bs → n % w.feed_rate ≡ p) → p < w.feed_rate → p + length bs ≤ w.feed_rate
    → feed_bytes w n bs r ≡ filled w p bs r
unfolding feed_bytes filled run_if in_words xor_from
feed_block w [] n p r e short h = rw (ne_eqb (p + 0) w.feed_rate (λ z. omega arith))
feed_block w (b ∷ bs) n p r e short h = feed-filled w bs b n p r (e (omega arith)) h

-- the next of them, as many as fit into the block
pub feeding-next : (w : Row) (all : Record) (mode : Mode) (p : ℕ) (part left : List ℕ) (current : Record) → p < w.feed_rate
    → Feeding w all mode p (part ++ left) current → length part ≡ min (w.feed_rate - p) (length (part ++ left))
    → Feeding w all mode 0 left (filled w p part current)
feeding-next w all mode p part left current short before least = record {
  number = before.number + length part;
  next = λ more.
      let full : before.number + length part ≡ before.number + (w.feed_rate - before.number % w.feed_rate) = omega (arith, sum, least, before.next (omega (arith, sum, more))) in
      rw full (block-end w.feed_rate (omega arith) before.number);
  same = ap (feed_bytes w (before.number + length part) left) (sym (feed_block w part before.number p current (λ some. before.next (omega (arith, sum))) short (omega arith)))
      ∙ sym (feed_bytes_append w part left before.number current) ∙ before.same;
  kept = filled-mode w p part current ∙ before.kept;
}
  where
    sum : length (part ++ left) ≡ length part + length left
    sum = length-append part left

-- none is left
pub feeding-last : (w : Row) (all : Record) (mode : Mode) (p : ℕ) (left : List ℕ) (current : Record) → Feeding w all mode p left current → length left ≡ 0
    → current ≡ all
unfolding feed_bytes
feeding-last w all mode p [] current last e = last.same
feeding-last w all mode p (b ∷ left) current last e = absurd (let f : ⊥ = omega arith in f)

-- ---- drawing

module _ (w : Row) (pos : 0 < w.draw_rate) where
  -- no run is due before the first byte, nor within a block; one is due at the first place of another
  pub ready-first : (d : ℕ) (r : Record) → d ≡ 0 → ready w d r ≡ r
  unfolding ready run_if
  ready-first d r e = rw (eq-eqb d 0 e)

  pub ready-within : (d : ℕ) (r : Record) → d % w.draw_rate ≢ 0 → ready w d r ≡ r
  unfolding ready run_if
  ready-within d r ne = rw (ne_eqb (d % w.draw_rate) 0 ne, and-false (not (eqb d 0)))

  pub ready_due : (d : ℕ) (r : Record) → d ≢ 0 → d % w.draw_rate ≡ 0 → ready w d r ≡ after_run w.inner_rounds r
  unfolding ready run_if
  ready_due d r ne e = rw (ne_eqb d 0 ne, eq-eqb (d % w.draw_rate) 0 e)

  -- bytes that stay in the block of number d, whose place is p
  pub drawn-part : (k d p : ℕ) (r : Record) → d % w.draw_rate ≡ p → p + suc k ≤ w.draw_rate
      → drawn_bytes w d (suc k) r ≡ bytes_from p (suc k) (ready w d r).words
  unfolding drawn_bytes bytes_from
  drawn-part zero d p r e h = rw e
  drawn-part (suc k) d p r e h =
      let next : suc d % w.draw_rate ≡ suc p = suc-mod d w.draw_rate ∙ rw e (mod-eq_of_lt (omega arith)) in
      let same : ready w (suc d) (ready w d r) ≡ ready w d r = ready-within (suc d) (ready w d r) (λ z. omega arith) in
      rw e (ap (λ (t : List ℕ). byte_at (ready w d r).words p ∷ t) (drawn-part k (suc d) (suc p) (ready w d r) next (omega arith) ∙ rw same))

  pub after-part : (k d p : ℕ) (r : Record) → d % w.draw_rate ≡ p → p + suc k ≤ w.draw_rate → after_drawing w d (suc k) r ≡ ready w d r
  unfolding after_drawing
  after-part zero d p r e h = refl
  after-part (suc k) d p r e h =
      let next : suc d % w.draw_rate ≡ suc p = suc-mod d w.draw_rate ∙ rw e (mod-eq_of_lt (omega arith)) in
      after-part k (suc d) (suc p) (ready w d r) next (omega arith) ∙ ready-within (suc d) (ready w d r) (λ z. omega arith)

  -- bytes of the first block
  pub first-block-drawn : (k : ℕ) (r : Record) → k ≤ w.draw_rate → after_drawing w 0 k r ≡ r
  unfolding after_drawing
  first-block-drawn zero r h = refl
  first-block-drawn (suc k) r h = after-part k 0 0 r (zero-mod w.draw_rate) (omega arith) ∙ ready-first 0 r refl

  used-first : used w 0 ≡ 0
  unfolding used
  used-first = refl

  used-next : (d : ℕ) → used w (suc d) ≡ suc (d % w.draw_rate)
  unfolding used
  used-next d = rw (ne_eqb (suc d) 0 (λ z. omega arith), suc-less d, add-one)

  -- all of the present block is drawn: a run is due, and the next byte is the first of its block
  pub used_up : (d : ℕ) → used w d ≡ w.draw_rate → (d ≢ 0) × (d % w.draw_rate ≡ 0)
  used_up zero e = absurd (let f : ⊥ = omega (arith, used-first) in f)
  used_up (suc d) e = ((λ z. omega arith), first-place w.draw_rate pos d (sym (used-next d) ∙ e))

  -- some of it is left: no run is due, and the next byte's place is as many
  pub used-less : (d : ℕ) (r : Record) → used w d ≢ w.draw_rate → (ready w d r ≡ r) × (d % w.draw_rate ≡ used w d) × (used w d < w.draw_rate)
  used-less zero r ne = (ready-first 0 r refl, zero-mod w.draw_rate ∙ sym used-first, rw used-first pos)
  used-less (suc d) r ne =
      let short : suc (d % w.draw_rate) ≢ w.draw_rate = λ z. ne (used-next d ∙ z) in
      let more : suc (d % w.draw_rate) < w.draw_rate = omega (arith, mod-lt d pos) in
      let place : suc d % w.draw_rate ≡ suc (d % w.draw_rate) = next_place w.draw_rate pos d more in
      (ready-within (suc d) r (λ z. omega arith), place ∙ sym (used-next d), rw used-next more)

  pub used-within : (d : ℕ) → used w d ≤ w.draw_rate
  used-within zero = rw used-first (omega arith)
  used-within (suc d) = rw used-next (mod-lt d pos)

-- ---- squeezing: what is written of n bytes, and the record reached, once some are drawn from r

pub record Squeezing (w : Row) (r : Record) (n : ℕ) (out : List ℕ) (current : Record) (done : ℕ) : Type 0 where
  pub inside : done ≤ n
  pub long : length out ≡ n
  pub reached : current ≡ after_drawing w r.drawn done r
  pub written : take done out ≡ drawn_bytes w r.drawn done r
  -- as long as bytes are left, the next is the first one beyond a block
  pub beyond : done < n → (r.drawn + done ≢ 0) × ((r.drawn + done) % w.draw_rate ≡ 0)

-- bytes written over the front of a list
pub front-written : (out ys : List ℕ) (k p : ℕ) (ws : List ℕ) → k ≤ length out → ys ≡ bytes_from p k ws → length (ys ++ drop k out) ≡ length out
front-written out ys k p ws h e = omega (arith, length-append ys (drop k out), length-drop k out, ap length e, length-bytes_from k p ws)

module _ (w : Row) (pos : 0 < w.draw_rate) (r : Record) where
  -- bytes of a block that stands in the words of x; p is the place of the first
  pub block-drawn : (k d p : ℕ) (x y : Record) → ready w d x ≡ y → d % w.draw_rate ≡ p → 0 < k → p + k ≤ w.draw_rate
      → (after_drawing w d k x ≡ y) × (drawn_bytes w d k x ≡ bytes_from p k y.words)
  block-drawn zero d p x y e z some h = absurd (let f : ⊥ = omega arith in f)
  block-drawn (suc k) d p x y e z some h =
      (after-part w pos k d p x z h ∙ e, drawn-part w pos k d p x z h ∙ ap (λ (q : Record). bytes_from p (suc k) q.words) e)

  -- what is left of the present block, as far as there is room
  pub squeeze-rest : (out ys : List ℕ) (k : ℕ) → k ≡ min (w.draw_rate - used w r.drawn) (length out) → ys ≡ bytes_from (used w r.drawn) k r.words
      → Squeezing w r (length (ys ++ drop k out)) (ys ++ drop k out) r k
  unfolding after_drawing drawn_bytes bytes_from
  squeeze-rest out ys k least e = go (ℕ_discrete (used w r.drawn) w.draw_rate)
    where
      count : length ys ≡ k
      count = ap length e ∙ length-bytes_from k (used w r.drawn) r.words

      whole : length (ys ++ drop k out) ≡ length out
      whole = front-written out ys k (used w r.drawn) r.words (omega arith) e

      first : take k (ys ++ drop k out) ≡ ys
      first = take_at ys (drop k out) k count

      -- nothing is written
      none : k ≡ 0 → (0 < length out → (r.drawn ≢ 0) × (r.drawn % w.draw_rate ≡ 0)) → Squeezing w r (length (ys ++ drop k out)) (ys ++ drop k out) r k
      none z next = record {
        inside = omega (arith, whole);
        long = refl;
        reached = rw z refl;
        written = first ∙ e ∙ rw z refl;
        beyond = λ more. rw (z, add-zero) (next (omega (arith, whole)));
      }

      some : ready w r.drawn r ≡ r → r.drawn % w.draw_rate ≡ used w r.drawn → used w r.drawn < w.draw_rate → Dec (0 < k)
          → Squeezing w r (length (ys ++ drop k out)) (ys ++ drop k out) r k
      some still place less (yes l) =
          let room : used w r.drawn + k ≤ w.draw_rate = omega arith in
          let drawn = block-drawn k r.drawn (used w r.drawn) r r still place l room in
          record {
            inside = omega (arith, whole);
            long = refl;
            reached = sym drawn.0;
            written = first ∙ e ∙ sym drawn.1;
            beyond = λ more.
                let full : r.drawn + k ≡ r.drawn + (w.draw_rate - r.drawn % w.draw_rate) = omega (arith, more, whole, least, place) in
                ((λ z. omega arith), rw full (block-end w.draw_rate pos r.drawn));
          }
      some still place less (no l) = none (omega arith) (λ more. absurd (let f : ⊥ = omega arith in f))

      go : Dec (used w r.drawn ≡ w.draw_rate) → Squeezing w r (length (ys ++ drop k out)) (ys ++ drop k out) r k
      go (yes up) = none (omega arith) (λ more. used_up w pos r.drawn up)
      go (no left) =
          let fresh = used-less w pos r.drawn r left in
          some fresh.0 fresh.1 fresh.2 (dec_lt 0 k)

  -- the next block, as far as there is room
  pub squeeze-block : (n : ℕ) (out ys : List ℕ) (current : Record) (done k m : ℕ) → Squeezing w r n out current done → done < n
      → k ≡ min w.draw_rate (n - done) → m ≡ k
      → ys ≡ bytes_from 0 k (after_run w.inner_rounds current).words
      → Squeezing w r n (take done out ++ (ys ++ drop m (drop done out))) (after_run w.inner_rounds current) (done + k)
  squeeze-block n out ys current done k m before more least same e = record {
    inside = omega arith;
    long = omega (
      arith,
      lengths,
      before.long,
      length-take-le done out (omega (arith, before.inside, before.long)),
      length-drop m (drop done out),
      length-drop done out,
    );
    reached = sym (after_drawing-add w done k r.drawn r ∙ ap (after_drawing w (r.drawn + done) k) (sym before.reached) ∙ drawn.0);
    written = ap (take (done + k)) (sym (append_assoc (take done out) ys (drop m (drop done out))))
        ∙ take_at (take done out ++ ys) (drop m (drop done out)) (done + k) front
        ∙ ap₂ (λ (a b : List ℕ). a ++ b) before.written (e ∙ sym drawn.1 ∙ ap (drawn_bytes w (r.drawn + done) k) before.reached)
        ∙ sym (drawn_bytes-add w done k r.drawn r);
    beyond = λ left.
        let full : r.drawn + (done + k) ≡ r.drawn + done + w.draw_rate = omega arith in
        ((λ z. omega arith), rw full (add-mod_right (r.drawn + done) w.draw_rate ∙ next.1));
  }
    where
      count : length ys ≡ k
      count = ap length e ∙ length-bytes_from k 0 (after_run w.inner_rounds current).words

      front : length (take done out ++ ys) ≡ done + k
      front = omega (arith, length-append (take done out) ys, length-take-le done out (omega (arith, before.inside, before.long)), count)

      lengths : length (take done out ++ (ys ++ drop m (drop done out))) ≡ length (take done out) + (k + length (drop m (drop done out)))
      lengths = omega (arith, length-append (take done out) (ys ++ drop m (drop done out)), length-append ys (drop m (drop done out)), count)

      next : (r.drawn + done ≢ 0) × ((r.drawn + done) % w.draw_rate ≡ 0)
      next = before.beyond more

      drawn : (after_drawing w (r.drawn + done) k current ≡ after_run w.inner_rounds current) × (drawn_bytes w (r.drawn + done) k current ≡ bytes_from 0 k (after_run w.inner_rounds current).words)
      drawn = block-drawn k (r.drawn + done) 0 current (after_run w.inner_rounds current) (ready_due w pos (r.drawn + done) current next.0 next.1) next.1
          (omega arith) (omega arith)

  -- all is written
  pub squeeze-all : (n : ℕ) (out : List ℕ) (current : Record) (done : ℕ) → Squeezing w r n out current done → n ≤ done
      → (current ≡ after_drawing w r.drawn n r) × (out ≡ drawn_bytes w r.drawn n r)
  squeeze-all n out current done last h =
      let all : done ≡ n = omega (arith, last.inside) in (
        last.reached ∙ ap (λ (k : ℕ). after_drawing w r.drawn k r) all,
        sym (take_all done out (omega (arith, last.long))) ∙ last.written ∙ ap (λ (k : ℕ). drawn_bytes w r.drawn k r) all,
      )
