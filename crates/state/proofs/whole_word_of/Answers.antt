-- `state::whole_word_of` meets its contract: the word is one of the bytes' chunks of eight, or there is none.
-- Assumes nothing.
use Rattle.std.proofs.Common.{rules, ◌≡◌, ◌∙◌, ℕ, ◌*◌, ◌/◌, ◌≤◌, ◌<◌, List, [], length, get_or, take, drop, sym, ap, arith, length-take, length-drop}
use lib.Seq.{length-take-le}
use Rattle.word.specs.Bytes.{from_bytes}
use Rattle.word.proofs.Bytes.{Bytes, big_endian-read}
use Rattle.word.proofs.Windows.{window-before, window-first}
use Rattle.state.proofs.Chunks.{chunk_at}
use Rattle.state.specs.State.{whole_words}
use Rattle.state.proofs.whole_word_of.Goals as goal

pub returns-in-Some : goal.returns-in-Some
returns-in-Some c =
    let a = c.args in
    let bytes : Bytes a.bytes.now = λ i. omega (arith, c.type_inv.bytes i) in
    let inside : a.j < length c.as_chunks.result.0.now = search rules in
    let here : a.j < length a.bytes.now / 8 = omega (arith, c.as_chunks.ensures.front_len, inside) in
    let found : c.in-Some.word.now ≡ get_or c.as_chunks.result.0.now a.j [] = search rules in
    let chunk : c.in-Some.word.now ≡ take 8 (drop (8 * a.j) a.bytes.now) =
    found ∙ ap (λ (l : List (List ℕ)). get_or l a.j []) c.as_chunks.ensures.front ∙ chunk_at (length a.bytes.now / 8) a.j a.bytes.now here in
    let count : length c.in-Some.word.now ≡ 8 = rw chunk (simp (length-take, length-drop) (omega arith)) in
    c.from_be_bytes.ensures ∙ big_endian-read c.in-Some.word.now count ∙ ap from_bytes chunk
    ∙ sym (window-first a.bytes.now (8 * (length a.bytes.now / 8)) a.j bytes (omega arith) (omega arith))

pub returns-in-None : goal.returns-in-None
returns-in-None c =
    let a = c.args in
    let past : length c.as_chunks.result.0.now ≤ a.j = search rules in
    let count : length (whole_words a.bytes.now) ≡ 8 * (length a.bytes.now / 8) =
    length-take-le (8 * (length a.bytes.now / 8)) a.bytes.now (omega arith) in
    sym (window-before (whole_words a.bytes.now) 0 a.j (omega (arith, c.as_chunks.ensures.front_len, past)))
