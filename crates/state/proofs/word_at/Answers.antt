-- `state::word_at` meets its contract: the library's number of eight bytes is theirs.
-- Assumes nothing.
use Rattle.std.proofs.Common.{rules, ◌≡◌, ◌∙◌, ◌+◌, ◌-◌, ap, List, ℕ, length, take, drop, length-take, length-drop, arith}
use Rattle.word.specs.Bytes.{from_bytes}
use Rattle.word.proofs.Bytes.{big_endian-read}
use Rattle.state.proofs.word_at.Goals as goal

pub returns : goal.returns
returns c =
    let i : ℕ = c.args.i in
    let bytes : List ℕ = c.args.bytes.now in
    let eight : i + 8 - i ≡ 8 = omega arith in
    let chunk : c.unwrap.result ≡ take (i + 8 - i) (drop i bytes) = search rules in
    let count : length c.unwrap.result ≡ 8 = rw chunk (simp (length-take, length-drop) (omega arith)) in
    c.from_be_bytes.ensures ∙ big_endian-read c.unwrap.result count ∙ ap from_bytes (chunk ∙ ap (λ (n : ℕ). take n (drop i bytes)) eight)
