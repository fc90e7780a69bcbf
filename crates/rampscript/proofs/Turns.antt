-- Turn after turn, until none is to be made.
-- Assumes nothing.
use mathlib.Core.Path.{◌≡◌, refl, sym, ap, ◌∙◌}
use mathlib.Core.Bool.{true}
use mathlib.Core.List.{List, [], ◌∷◌, ◌++◌, append-nil}
use Prim.Native.Nat.{ℕ, ◌≤◌, ◌<◌}
use native.Mathlib.Omega.{arith}
use lib.ListN.{length}
use Rattle.std.specs.Prelude.{◌≢◌, Result, Ok, Err}
use Rattle.interpreter.specs.declared.Reader.{Reader}
use Rattle.interpreter.specs.Session.{consumed}
use Rattle.interpreter.specs.Theorems.{consumed_all, NotEmpty}
use Rattle.interpreter.proofs.Bounds.{left, consumed-left}
use Rattle.rampscript.specs.declared.Failure.{Failure}
use Rattle.rampscript.specs.declared.Failure.TheVariants.{Read, Write}
use Rattle.rampscript.specs.Program.{answered_by, Turning}

-- the read failed: nothing was answered
pub turning-failed : (r : Reader) (t : Result ℕ Failure) (e : Failure) → t ≡ Err e → t ≢ Err Write → Turning r t r
unfolding consumed
turning-failed r t Read e n =
    rw e (record {
      chunk = [];
      count = λ k f. absurd cc;
      failed = λ f. refl;
      answering = record { taken = []; left = []; split = refl; reader = refl; all = λ f. refl; unread = λ f. absurd cc };
    })
turning-failed r t Write e n = absurd (n e)

-- where the loop stands: the chunks that were read, of a byte at least each, were consumed
pub record Made (r q : Reader) : Type 0 where
  pub chunks : List (List ℕ)
  pub some : NotEmpty chunks
  pub reader : q ≡ (consumed_all r chunks).reader

pub made_none : (r : Reader) → Made r r
unfolding consumed_all
made_none r = record { chunks = []; some = tt; reader = refl }

consumed-last : (r : Reader) (cs : List (List ℕ)) (c : List ℕ) → (consumed_all r (cs ++ (c ∷ []))).reader ≡ (consumed (consumed_all r cs).reader c).reader
unfolding consumed_all
consumed-last r [] c = refl
consumed-last r (d ∷ cs) c = consumed-last (consumed r d).reader cs c

some-last : (cs : List (List ℕ)) (c : List ℕ) → NotEmpty cs → 1 ≤ length c → NotEmpty (cs ++ (c ∷ []))
some-last [] c h n = (n, tt)
some-last (d ∷ cs) c h n = (h.0, some-last cs c h.1 n)

module _ (r q : Reader) (t : Result ℕ Failure) (q' : Reader) (m : Made r q) (w : Turning q t q') where
  module _ (n : ℕ) (answered : t ≡ Ok n) (some : n ≡ 0 → ⊥) where
    -- the whole chunk was consumed
    consumed-whole : q' ≡ (consumed q w.chunk).reader
    consumed-whole =
        let a = w.answering in
        let all : w.chunk ≡ a.taken = a.split ∙ ap (λ (l : List ℕ). a.taken ++ l) (a.all (ap answered_by answered)) ∙ append-nil a.taken in
        a.reader ∙ ap (λ (l : List ℕ). (consumed q l).reader) (sym all)

    size : 1 ≤ length w.chunk
    size = omega (arith, w.count n answered, some)

    pub made_more : Made r q'
    made_more =
        record {
          chunks = m.chunks ++ (w.chunk ∷ []);
          some = some-last m.chunks w.chunk m.some size;
          reader = consumed-whole ∙ ap (λ (p : Reader). (consumed p w.chunk).reader) m.reader ∙ sym (consumed-last r m.chunks w.chunk);
        }

    -- fewer bytes may still be read
    pub fewer : q'.session.going ≡ true → left q'.session < left q.session
    fewer on =
        let going : (consumed q w.chunk).reader.session.going ≡ true = sym (ap (λ (p : Reader). p.session.going) consumed-whole) ∙ on in
        let same : left q'.session ≡ left (consumed q w.chunk).reader.session = ap (λ (p : Reader). left p.session) consumed-whole in
        omega (arith, consumed-left q w.chunk going, same, size)
