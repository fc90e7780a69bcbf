-- `prf_short::output` meets its contract: the words before the permutation are the start's, and the key's words xored in after it are the output's mask.
-- Assumes nothing.
use mathlib.Core.Path.{◌≡◌, ap, ◌∙◌}
use mathlib.Core.List.{List, [], ◌∷◌}
use Prim.Native.Nat.{ℕ, ◌-◌}
use native.Mathlib.Omega.{arith}
use lib.Bits.{bit_xor}
use lib.ListN.{length, get_or}
use Rattle.word.specs.Bytes.{bytes_from, window, words_of}
use Rattle.word.proofs.Bytes.{Bytes}
use Rattle.permutation.specs.Permutation.{permute}
use Rattle.permutation.proofs.State.{twelve-state}
use Rattle.prf_short.specs.Short.{start_word, start, ended, prf_short}
use Rattle.prf_short.proofs.Short.{started, last_xored, masked}
use Rattle.prf_short.proofs.output.Goals as goal

pub returns : goal.returns
unfolding prf_short ended
returns c =
    let a = c.args in
    let key : List ℕ = a.key.now in
    let message : List ℕ = a.message.now in
    let t : ℕ = length a.out.now in
    let pre = c.requires in
    let bytes : Bytes key = λ i. omega (arith, c.type_inv.key i) in
    let bytes' : Bytes message = λ i. omega (arith, c.type_inv.message i) in
    let s : List ℕ = permute 12 (words_of 5 (start key message t)) in
    let p : List ℕ = c.permute-s.result in
    let x0 : ℕ = c.word_of_bytes-k0.result in
    let x1 : ℕ = c.word_of_bytes-k1.result in
    let k0 : x0 ≡ window 0 key 0 = c.word_of_bytes-k0.ensures in
    let k1 : x1 ≡ window 0 key 1 = c.word_of_bytes-k1.ensures in
    let m0 : c.word_of_bytes-m0.result ≡ window 0 message 0 =
    c.word_of_bytes-m0.ensures in
    let m1 : c.word_of_bytes-m1.result ≡ window 0 message 1 =
    c.word_of_bytes-m1.ensures in
    let first : c.start_word.result ≡ start_word (length message) t =
    c.start_word.ensures in
    let permuted : p ≡ s = c.permute-s.ensures
    ∙ ap (permute 12) (rw (first, k0, k1, m0, m1) (started key message t bytes bytes' pre.0 pre.1 pre.2)) in
    let copied : c.copy_bytes.new.out
    ≡ bytes_from (40 - t) t (get_or p 0 0 ∷ get_or p 1 0 ∷ get_or p 2 0 ∷ bit_xor (get_or p 3 0) x0 ∷ bit_xor (get_or p 4 0) x1
    ∷ []) = c.copy_bytes.ensures in
    let read : c.copy_bytes.new.out
    ≡ bytes_from (40 - t) t (get_or s 0 0 ∷ get_or s 1 0 ∷ get_or s 2 0 ∷ bit_xor (get_or s 3 0) (window 0 key 0) ∷ bit_xor (get_or s 4 0) (window 0 key 1)
    ∷ []) = copied ∙ rw (permuted, k0, k1) in
    read ∙ ap (bytes_from (40 - t) t) (masked s key (twelve-state (words_of 5 (start key message t))).five pre.0)
    ∙ last_xored s key t (twelve-state (words_of 5 (start key message t))).five bytes pre.0 pre.2
