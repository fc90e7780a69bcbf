-- `state::window` meets its contract: none of the bytes stands in the word, all eight of the word are there, or some.
-- Assumes nothing.
use Rattle.std.proofs.Common.{rules, ◌≡◌, ◌∙◌, ◌+◌, ◌-◌, ◌*◌, ◌≤◌, refl, sym, List, ℕ, length, take, drop, min, length-take, length-drop, arith}
use Rattle.std.specs.List.{fold}
use lib.Pow.{shl_exact}
use Rattle.word.specs.Bytes.{from_bytes}
use Rattle.word.proofs.Bytes.{Bytes, part_bytes, next_byte, from_bytes-folded, from_bytes-lt}
use Rattle.word.proofs.Windows.{window_past, window-before, window-all, window-part}
use Rattle.state.proofs.window.Goals as goal
use Rattle.state.proofs.window.Goals.{then-end-k-via-then-end-k, then-end-k-via-else-end-k+then-last-start}

pub returns-then-end-k : goal.returns-then-end-k
returns-then-end-k c =
    let a = c.args in
    elim c.then-end-k.branch [
      | then-end-k-via-then-end-k w ↦ sym (window_past a.bytes.now a.k a.j w.if-end-k.true)
      | then-end-k-via-else-end-k+then-last-start w ↦ sym (window-before a.bytes.now a.k a.j w.if-last-start.true)
    ]

pub returns-then-end-last : goal.returns-then-end-last
returns-then-end-last c =
    let a = c.args in
    c.word_at.ensures ∙ sym (window-all a.bytes.now a.k a.j (λ i. omega (arith, c.type_inv.bytes i)) (omega arith) (omega arith))

pub returns : goal.returns
returns c =
    let a = c.args in
    let bytes : List ℕ = a.bytes.now in
    let start : ℕ = 8 * a.j in
    let begin : ℕ = start - a.k in
    let end : ℕ = min (length bytes) (start + 8 - a.k) in
    let part : List ℕ = take (end - begin) (drop begin bytes) in
    let bytes' : Bytes bytes = λ i. omega (arith, c.type_inv.bytes i) in
    let few : length part ≤ end - begin = simp (length-take, length-drop) (omega arith) in
    let folded : c.fold-x.result ≡ fold next_byte 0 part = search rules in
    let number : c.fold-x.result ≡ from_bytes part = folded ∙ from_bytes-folded part (part_bytes (end - begin) begin bytes bytes') (omega arith) in
    let left : c.saturating_sub-2.result ≡ start + 8 - (a.k + end) = omega arith in
    rw (number, left)
    (shl_exact (8 * length part) (8 * (start + 8 - (a.k + end))) 64 (from_bytes-lt part (part_bytes (end - begin) begin bytes bytes')) (omega arith)
    ∙ sym (window-part bytes a.k a.j begin end bytes' refl (omega arith) (omega arith) (omega arith) (λ l. omega arith)))
