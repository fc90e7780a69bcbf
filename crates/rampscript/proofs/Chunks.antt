-- A chunk is answered part by part, each filling an output buffer.
-- Assumes nothing.
use mathlib.Core.Path.{◌≡◌, refl, sym, ap, ◌∙◌}
use mathlib.Core.List.{List, [], ◌++◌, append_assoc}
use Prim.Native.Nat.{ℕ, ◌+◌, ◌-◌, ◌≤◌, ◌<◌}
use native.Mathlib.Omega.{arith}
use lib.ListN.{length, drop, length-append, length-drop}
use lib.Seq.{drop_at}
use Rattle.std.specs.Prelude.{◌≢◌, Err, Ok}
use Rattle.checks.specs.Buffers.{written}
use Rattle.interpreter.specs.declared.Reader.{Reader}
use Rattle.interpreter.specs.declared.Progress.{Progress}
use Rattle.interpreter.specs.Session.{Consumed, consumed, Filled, output_size, filled_from, progress_of}
use Rattle.interpreter.proofs.Consuming.{consumed_append}
use Rattle.interpreter.proofs.Filling.{filled-parts, filled-ahead}
use Rattle.rampscript.specs.declared.Failure.TheVariants.{Read}
use Rattle.rampscript.specs.Program.{Outcome, Answering}

-- what was printed stands in the buffer
pub covers : (out text : List ℕ) (size : ℕ) (last : List ℕ) → size ≡ length text → last ≡ written out 0 text → size ≤ length last
unfolding written
covers out text size last e f = omega (arith, e, ap length f, length-append text (drop (0 + length text) out))

-- where the loop over a chunk stands: the bytes before the rest were consumed
pub record Answers (r : Reader) (chunk rest : List ℕ) (q : Reader) : Type 0 where
  pub taken : List ℕ
  pub split : chunk ≡ taken ++ rest
  pub reader : q ≡ (consumed r taken).reader

pub answers-first : (r : Reader) (chunk : List ℕ) → Answers r chunk chunk r
unfolding consumed
answers-first r chunk = record { taken = []; split = refl; reader = refl }

module _ (q : Reader) (rest : List ℕ) (p : Progress) (q' : Reader)
    (progress : p ≡ progress_of rest (filled_from q rest)) (reader : q' ≡ (filled_from q rest).reader) where
  abbrev part : Filled
  part = filled_from q rest

  taken : p.taken ≡ length rest - length part.left
  taken = ap (λ (x : Progress). x.taken) progress

  pub answers-ahead : 0 < length rest → length (drop p.taken rest) < length rest
  unfolding filled_from
  answers-ahead more = omega (arith, taken, length-drop p.taken rest, filled-ahead output_size q [] rest (omega arith) (omega arith))

  pub answers_next : (r : Reader) (chunk : List ℕ) → Answers r chunk rest q → Answers r chunk (drop p.taken rest) q'
  unfolding filled_from
  answers_next r chunk a =
      let t = filled-parts output_size q [] rest in
      let size : length t.taken ≡ p.taken = omega (arith, taken, ap length t.split, length-append t.taken part.left) in
      let left : drop p.taken rest ≡ part.left = ap (drop p.taken) t.split ∙ drop_at t.taken part.left p.taken size in
      record {
        taken = a.taken ++ t.taken;
        split =
            a.split
            ∙ ap (λ (l : List ℕ). a.taken ++ l) t.split
            ∙ sym (append_assoc a.taken t.taken part.left)
            ∙ ap (λ (l : List ℕ). (a.taken ++ t.taken) ++ l) (sym left);
        reader =
            reader
            ∙ t.reader
            ∙ ap (λ (x : Reader). (consumed x t.taken).reader) a.reader
            ∙ ap (λ (f : Consumed). f.reader) (sym (consumed_append r a.taken t.taken));
      }

module _ (r : Reader) (chunk rest : List ℕ) (q : Reader) (a : Answers r chunk rest q) where
  -- a write failed
  pub answers-failed : (e : Outcome) → (e ≡ Ok tt → ⊥) → e ≢ Err Read → Answering r chunk e q
  answers-failed e n u = record { taken = a.taken; left = rest; split = a.split; reader = a.reader; all = λ f. absurd (n f); unread = u }
