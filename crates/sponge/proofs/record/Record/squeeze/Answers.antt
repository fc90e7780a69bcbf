-- `sponge::Record::squeeze` meets its contract. What is left of the present block is written before the loop; the loop's invariant is `Squeezing`.
-- Assumes nothing.
use Rattle.std.proofs.Common.{◌≡◌, ℕ, ◌+◌, ◌-◌, ◌%◌, ◌^◌, ◌<◌, ◌≤◌, min, length, take, drop, sym, ap, ◌∙◌, ap₂, arith, length-drop, length-take-le}
use Rattle.word.specs.Bytes.{bytes_from}
use Rattle.sponge.specs.declared.record.Record.{Record}
use Rattle.mode.specs.Mode.{row}
use Rattle.sponge.specs.Record.{sum64, after_run, with_drawn, drawn_bytes, after_drawing, next_bytes, squeezed}
use Rattle.sponge.specs.Parts as parts
use Rattle.mode.proofs.Modes.{rates}
use Rattle.sponge.proofs.Parts.{used-within, front-written, squeeze-rest, squeeze-block, squeeze-all}
use Rattle.sponge.proofs.record.Record.squeeze.Goals as goal

pub overflow_sub-rate : goal.overflow_sub-rate
overflow_sub-rate c =
    let r = c.args.self in
    rw (c.used_of_block-used.ensures, c.draw_rate-rate.ensures) (used-within (row r.mode) (rates r.mode).draws r.drawn)

pub overflow_cast-used : goal.overflow_cast-used
overflow_cast-used c =
    let r = c.args.self in
    omega (arith, c.used_of_block-used.ensures, used-within (row r.mode) (rates r.mode).draws r.drawn, (rates r.mode).draws-inside)

pub loop-done-init : goal.loop-done-init
loop-done-init c =
    let a = c.args in
    let k = c.min-done.result in
    let rate = c.draw_rate-rate.ensures in
    let used = c.used_of_block-used.ensures in
    let least : k ≡ min ((row a.self.mode).draw_rate - parts.used (row a.self.mode) a.self.drawn) (length a.out.now) =
    c.min-done.ensures ∙ ap₂ (λ (x y : ℕ). min (x - y) (length a.out.now)) rate used in
    let part : length (take k a.out.now) ≡ k = length-take-le k a.out.now (omega arith) in
    squeeze-rest (row a.self.mode) (rates a.self.mode).draws a.self a.out.now _ k least
    (c.copy_bytes.ensures ∙ ap₂ (λ (p n : ℕ). bytes_from p n a.self.words) used part)

-- a part that is not empty leaves less to do
less-left : (n done k rate room : ℕ) → k ≡ min rate room → 0 < rate → 0 < room → done < n → n - (done + k) < n - done
less-left n done k rate room least some more h = omega arith

pub loop-done-smaller : goal.loop-done-smaller
loop-done-smaller c =
    let now = c.loop-done in
    let rate : 0 < c.draw_rate-rate.result = rw c.draw_rate-rate.ensures (rates c.args.self.mode).draws in
    less-left _ now.done c.min.result _ _
    c.min.ensures rate (omega arith)
    (rw now.invariant.long at c.loop-done-test.true)

pub loop-done-preserved : goal.loop-done-preserved
loop-done-preserved c =
    let copy = c.before.before in
    let k = c.min.result in
    let now = c.loop-done in
    let run = c.run-current.ensures
    ∙ ap (λ (n : ℕ). after_run n now.current) c.inner_rounds-rounds.ensures in
    let rate = c.draw_rate-rate.ensures in
    let r = c.args.self in
    let same : now.done + k - now.done ≡ k = omega arith in
    let part : length (take (now.done + k - now.done) (drop now.done now.out)) ≡ k =
    length-take-le _ (drop now.done now.out) (omega (
      arith,
      same,
      length-drop now.done now.out,
      c.min.ensures,
    )) ∙ same in
    let next = squeeze-block (row r.mode) (rates r.mode).draws r _ now.out _ now.current now.done k (now.done + k - now.done) now.invariant
    (omega (arith, now.invariant.long)) (c.min.ensures
    ∙ ap₂ (λ (x y : ℕ). min x (y - now.done)) rate now.invariant.long) same
    (copy.copy_bytes-in-loop-done.ensures ∙ ap₂ (λ (n : ℕ) (x : Record). bytes_from 0 n x.words) part run) in
    rw run next

pub shape_of-out : goal.shape_of-out
shape_of-out c =
    let a = c.args in
    let k = c.min-done.result in
    let within : k ≤ length a.out.now = omega (arith, c.min-done.ensures) in
    let part : length (take k a.out.now) ≡ k = length-take-le k a.out.now within in
    c.loop-done.invariant.long
    ∙ front-written a.out.now _ k _ a.self.words within (c.copy_bytes.ensures
    ∙ ap (λ (n : ℕ). bytes_from c.used_of_block-used.result n a.self.words) part)

pub returns : goal.returns
unfolding squeezed next_bytes sum64
returns c =
    let a = c.args in
    let last = c.loop-done in
    let w = row a.self.mode in
    let count : _ ≡ length a.out.now = sym last.invariant.long ∙ shape_of-out c in
    let all = squeeze-all w (rates a.self.mode).draws a.self _ last.out last.current last.done last.invariant (omega (arith, last.invariant.long)) in
    record {
      after = ap₂ with_drawn (ap (λ (n : ℕ). (a.self.drawn + n) % 2 ^ 64) (shape_of-out c))
          (all.0 ∙ ap (λ (n : ℕ). after_drawing w a.self.drawn n a.self) count);
      written = all.1 ∙ ap (λ (n : ℕ). drawn_bytes w a.self.drawn n a.self) count;
    }
