-- What the calls make of a record, by the steps: which fields they change, and one call after another.
-- Assumes nothing.
use Rattle.std.proofs.Common.{◌≡◌, ℕ, ◌+◌, ◌%◌, ◌^◌, ◌<◌, ◌≤◌, Bool, true, false, cond, List, [], ◌++◌, length, sym, ap, ◌∙◌, ap₂, length-append}
use Rattle.word.specs.Bytes.{bytes_from}
use Rattle.mode.specs.declared.Mode.{Mode}
use Rattle.sponge.specs.declared.record.Record.{Record}
use Rattle.mode.specs.Mode.{Row, row}
use Rattle.sponge.specs.Record.{sum64, with_fed, with_drawn, with_feeding, feed_bytes, end_feeding, drawn_bytes, after_drawing, absorbed, finished, next_bytes, squeezed, block}
use Rattle.mode.proofs.Modes.{rates}
use Rattle.sponge.proofs.Core.{sum64-sum64, sum64-fits, sum64-zero, with_core_of}
use Rattle.sponge.proofs.Feeding.{feed_bytes_core, feed_bytes-place, feed_bytes_append, end_feeding_core, end_feeding-place}
use Rattle.sponge.proofs.Parts.{first-block-drawn}
use Rattle.sponge.proofs.Drawing.{length-drawn_bytes, drawn_bytes_core, drawn_bytes-add, after_drawing_core, after_drawing-add}

-- a length that may have wrapped has the right place
same_place : (mode : Mode) (a b : ℕ) → sum64 a b % (row mode).feed_rate ≡ (a + b) % (row mode).feed_rate
unfolding sum64
same_place mode a b = (rates mode).wraps (a + b)

-- ---- feeding

-- bytes fed change the words, the runs and how many bytes are fed
pub absorbed-is : (bs : List ℕ) (r : Record)
    → absorbed bs r ≡ with_core_of (feed_bytes (row r.mode) r.fed bs r) (with_fed (sum64 r.fed (length bs)) r)
unfolding absorbed
absorbed-is bs r = ap (with_fed (sum64 r.fed (length bs))) (feed_bytes_core (row r.mode) bs r.fed r r)

-- no bytes fed
pub absorbed-none : (r : Record) → r.fed < 2 ^ 64 → absorbed [] r ≡ r
unfolding absorbed feed_bytes
absorbed-none r h = ap (λ (n : ℕ). with_fed n r) (sum64-zero r.fed h)

-- bytes fed by two calls
pub absorbed_append : (a b : List ℕ) (r : Record) → absorbed (a ++ b) r ≡ absorbed b (absorbed a r)
absorbed_append a b r =
    absorbed-is (a ++ b) r
    ∙ ap₂ (λ (y : Record) (n : ℕ). with_core_of y (with_fed n r)) same_core same_length
    ∙ ap (λ (y : Record). with_core_of y (with_fed (sum64 n (length b)) r)) (sym (feed_bytes_core w b n x between))
    ∙ sym (ap (absorbed b) (absorbed-is a r) ∙ absorbed-is b between)
  where
    w : Row
    w = row r.mode

    n : ℕ
    n = sum64 r.fed (length a)

    x : Record
    x = feed_bytes w r.fed a r

    between : Record
    between = with_core_of x (with_fed n r)

    same_core : feed_bytes w r.fed (a ++ b) r ≡ feed_bytes w n b x
    same_core = feed_bytes_append w a b r.fed r ∙ feed_bytes-place w b (r.fed + length a) n x (sym (same_place r.mode r.fed (length a)))

    same_length : sum64 r.fed (length (a ++ b)) ≡ sum64 n (length b)
    same_length = rw length-append (sym (sum64-sum64 r.fed (length a) (length b)))

-- bytes fed while feeding lasts, and the end of feeding
pub finished-is : (bs : List ℕ) (r : Record) → r.feeding ≡ true
    → finished (absorbed bs r)
    ≡ with_core_of (end_feeding (row r.mode) (r.fed + length bs) (feed_bytes (row r.mode) r.fed bs r))
    (with_feeding false (with_fed (sum64 r.fed (length bs)) r))
unfolding finished
finished-is bs r e =
    ap finished (absorbed-is bs r)
    ∙ ap (λ (lasts : Bool). cond lasts (end_feeding w n x) x) e
    ∙ end_feeding-place w n (r.fed + length bs) x (same_place r.mode r.fed (length bs))
    ∙ end_feeding_core w (r.fed + length bs) (feed_bytes w r.fed bs r) x
  where
    w : Row
    w = row r.mode

    n : ℕ
    n = sum64 r.fed (length bs)

    x : Record
    x = with_core_of (feed_bytes w r.fed bs r) (with_fed n r)

-- ---- drawing

-- bytes drawn change the words, the runs and how many bytes are drawn
pub squeezed-is : (k : ℕ) (r : Record)
    → squeezed k r ≡ with_core_of (after_drawing (row r.mode) r.drawn k r) (with_drawn (sum64 r.drawn k) r)
unfolding squeezed
squeezed-is k r = ap (with_drawn (sum64 r.drawn k)) (after_drawing_core (row r.mode) k r.drawn r r)

-- as many bytes are drawn as are asked for
pub length-next_bytes : (k : ℕ) (r : Record) → length (next_bytes k r) ≡ k
unfolding next_bytes
length-next_bytes k r = length-drawn_bytes (row r.mode) k r.drawn r

-- the bytes of a later call are those of the steps going on, as long as the count of the bytes drawn does not wrap
pub next_bytes-is : (a b : ℕ) (r : Record) → r.drawn + a < 2 ^ 64
    → next_bytes b (squeezed a r) ≡ drawn_bytes (row r.mode) (r.drawn + a) b (after_drawing (row r.mode) r.drawn a r)
unfolding next_bytes
next_bytes-is a b r h =
    ap (next_bytes b) (squeezed-is a r)
    ∙ drawn_bytes_core (row r.mode) b (sum64 r.drawn a) (after_drawing (row r.mode) r.drawn a r) (with_drawn (sum64 r.drawn a) r)
    ∙ ap (λ (d : ℕ). drawn_bytes (row r.mode) d b (after_drawing (row r.mode) r.drawn a r)) (sum64-fits r.drawn a h)

-- bytes drawn by two calls
pub next_bytes-add : (a b : ℕ) (r : Record) → r.drawn + a < 2 ^ 64 → next_bytes (a + b) r ≡ next_bytes a r ++ next_bytes b (squeezed a r)
unfolding next_bytes
next_bytes-add a b r h =
    drawn_bytes-add (row r.mode) a b r.drawn r
    ∙ ap (λ (bs : List ℕ). drawn_bytes (row r.mode) r.drawn a r ++ bs) (sym (next_bytes-is a b r h))

pub squeezed-add : (a b : ℕ) (r : Record) → r.drawn + a < 2 ^ 64 → squeezed (a + b) r ≡ squeezed b (squeezed a r)
squeezed-add a b r h =
    squeezed-is (a + b) r
    ∙ ap₂ (λ (y : Record) (n : ℕ). with_core_of y (with_drawn n r)) same_core (sym (sum64-sum64 r.drawn a b))
    ∙ ap (λ (y : Record). with_core_of y (with_drawn (sum64 d b) r)) (sym (after_drawing_core w b d x between))
    ∙ sym (ap (squeezed b) (squeezed-is a r) ∙ squeezed-is b between)
  where
    w : Row
    w = row r.mode

    d : ℕ
    d = sum64 r.drawn a

    x : Record
    x = after_drawing w r.drawn a r

    between : Record
    between = with_core_of x (with_drawn d r)

    same_core : after_drawing w r.drawn (a + b) r ≡ after_drawing w d b x
    same_core = after_drawing-add w a b r.drawn r ∙ ap (λ (n : ℕ). after_drawing w n b x) (sym (sum64-fits r.drawn a h))

-- feeding that has ended is not ended again, whatever is drawn in between
pub finished-again : (k : ℕ) (r : Record) → r.feeding ≡ false → finished (squeezed k r) ≡ squeezed k r
unfolding finished
finished-again k r e = rw (squeezed-is k r) (rw e)

-- the first block stays as long as no byte beyond it is drawn
pub block-stays : (d : ℕ) (r : Record) → r.drawn ≡ 0 → d ≤ (row r.mode).draw_rate → block (squeezed d r) ≡ block r
unfolding block
block-stays d r e h =
    ap block (squeezed-is d r)
    ∙ ap (λ (x : Record). bytes_from 0 (row r.mode).draw_rate x.words)
    (ap (λ (n : ℕ). after_drawing (row r.mode) n d r) e ∙ first-block-drawn (row r.mode) (rates r.mode).draws d r h)
