-- Taking a line's bytes from a chunk: each way that it ends.
-- Assumes nothing.
use mathlib.Core.Path.{◌≡◌, refl, sym, ap, ◌∙◌}
use mathlib.Core.Bool.{true, false}
use mathlib.Core.List.{List, [], ◌∷◌, ◌++◌, append-nil}
use Prim.Native.Nat.{ℕ, ◌+◌, ◌-◌, ◌≤◌, ◌<◌, min}
use native.Mathlib.Omega.{arith}
use native.Mathlib.Decide.{dec_le}
use native.Mathlib.Numerals.{add-one}
use lib.ListN.{length, get_or, take, drop}
use lib.Seq.{sets, length-sets, drop-length, drop-cons, take_all}
use Rattle.script.specs.declared.writer.Writer.{Writer}
use Rattle.script.specs.Text.{newline}
use Rattle.script.specs.Line.{longest_line}
use Rattle.script.specs.Input.{piece}
use Rattle.script.specs.Writing.{Puts}
use Rattle.script.proofs.Texts.{wrote_none}
use Rattle.script.proofs.Pieces.{piece-room, piece-left, piece_clean, piece-end}
use Rattle.script.proofs.Answers.{answer-long}
use Rattle.interpreter.specs.declared.Session.{Session}
use Rattle.interpreter.specs.declared.Reader.{Reader}
use Rattle.interpreter.specs.Script.{Meaning, names_line, call_line, malformed_line, meaning}
use Rattle.interpreter.specs.Session.{stopped, step_by, stepped, reader_of, Consumed, after_step, holding, byte_step, longest_answer, filled}
use Rattle.interpreter.specs.Promises.{Stepping, Advancing}
use Rattle.interpreter.proofs.Steps.{newline-step, long-step}
use Rattle.interpreter.proofs.Filling.{filled-byte}
use Rattle.interpreter.proofs.Holding.{filled-held, filled-stopped, chunk-split}
use Rattle.interpreter.proofs.Short.{step-short}

-- nothing is written
pub puts_none : (w : Writer) → w.at ≤ length w.out.now → Puts [] w w
puts_none w h = record { same = refl; wrote = wrote_none w.out.now w.at w.at (omega arith) }

-- how many bytes are held is nothing to a line's step
holding-step : (s : Session) (k : ℕ) (line : List ℕ) → stepped (holding s k) line ≡ stepped s line
unfolding stepped
holding-step s k line = go (meaning s.number line)
  where
    go : (m : Meaning) → step_by (holding s k) m ≡ step_by s m
    go names_line = refl
    go (call_line c) = refl
    go malformed_line = refl

-- what is at most a number and is not that number is below it
pub below : {a b : ℕ} → a ≤ b → (a ≡ b → ⊥) → a < b
below {a} {b} h n = go (dec_le b a)
  where
    go : Dec (b ≤ a) → a < b
    go (yes k) = absurd (n (omega arith))
    go (no k) = omega arith

-- a text up to a place past its end is the text up to its end
take-least : (k n : ℕ) (l : List ℕ) → k ≡ min n (length l) → take n l ≡ take k l
take-least k n l e = go (dec_le n (length l))
  where
    go : Dec (n ≤ length l) → take n l ≡ take k l
    go (yes h) = let j : n ≡ k = omega arith in rw j
    go (no h) = take_all n l (omega arith) ∙ sym (take_all k l (omega arith))

module _ (r : Reader) (chunk : List ℕ) (whole : length r.line ≡ longest_line) (some : 0 < length chunk) where
  pub advance-stopped : (w : Writer) → r.session.going ≡ false → w.at ≤ length w.out.now → Advancing r chunk (length chunk) r w w
  advance-stopped w e h =
      record {
        text = [];
        wrote = puts_none w h;
        short = omega arith;
        ahead = some;
        within = omega arith;
        taken = λ size before room. filled-stopped size r before chunk room e ∙ rw (append-nil before, drop-length chunk);
      }

  abbrev taken : List ℕ
  taken = piece chunk (length r.line - r.session.held)

  module _ (going : r.session.going ≡ true) (n : ℕ) (line : List ℕ) (count : n ≡ length taken) (put : line ≡ sets r.line r.session.held taken) where
    taken-inside : n ≤ length chunk
    taken-inside = omega (arith, count, piece-left chunk (length r.line - r.session.held))

    taken-room : n ≤ longest_line - r.session.held
    taken-room = omega (arith, count, piece-room chunk (length r.line - r.session.held), whole)

    -- the piece is held
    after : Reader
    after = reader_of (holding r.session (r.session.held + n)) line

    moved : (size : ℕ) (before : List ℕ) → length before + longest_answer ≤ size
        → filled size r before chunk ≡ filled size after before (drop n chunk)
    unfolding after
    moved size before room =
        ap (filled size r before) (chunk-split chunk (length r.line - r.session.held) n count)
        ∙ filled-held size r before taken (drop n chunk) room going (omega (arith, taken-room, count))
        (piece_clean chunk (length r.line - r.session.held))
        ∙ rw (← count, ← put)

    pub advance-held : (w : Writer) → n ≡ length chunk → w.at ≤ length w.out.now
        → Advancing r chunk n (reader_of (holding r.session (r.session.held + n)) line) w w
    unfolding after
    advance-held w end h =
        record {
          text = [];
          wrote = puts_none w h;
          short = omega arith;
          ahead = omega arith;
          within = omega arith;
          taken = λ size before room. moved size before room ∙ rw (append-nil before);
        }

    module _ (more : (n ≡ length chunk → ⊥)) where
      inside : n < length chunk
      inside = go (dec_le (length chunk) n)
        where
          go : Dec (length chunk ≤ n) → n < length chunk
          go (yes k) = absurd (more (omega (arith, taken-inside)))
          go (no k) = omega arith

      -- the byte after the piece
      next-byte : drop n chunk ≡ get_or chunk n 0 ∷ drop (n + 1) chunk
      next-byte = rw (add-one n) (drop-cons chunk n 0 inside)

      -- it is taken too
      then_byte : (b : ℕ) (f : Consumed) → get_or chunk n 0 ≡ b → byte_step after b ≡ f → (size : ℕ) (before : List ℕ) → length before + longest_answer ≤ size
          → filled size r before chunk ≡ filled size f.reader (before ++ f.text) (drop (n + 1) chunk)
      then_byte b f e g size before room =
          moved size before room
          ∙ ap (filled size after before) (next-byte ∙ ap (λ (x : ℕ). x ∷ drop (n + 1) chunk) e)
          ∙ filled-byte size after before b (drop (n + 1) chunk) room
          ∙ ap (λ (x : Consumed). filled size x.reader (before ++ x.text) (drop (n + 1) chunk)) g

      pub advance-line : (k : ℕ) (s : Session) (w w' : Writer) → get_or chunk n 0 ≡ newline → k ≡ min (r.session.held + n) longest_line
          → Stepping (stepped r.session (take k line)) s w w'
          → Advancing r chunk (n + 1) (reader_of s line) w w'
      unfolding after
      advance-line k s w w' e size step =
          let long : length line ≡ longest_line = ap length put ∙ length-sets r.line r.session.held taken ∙ whole in
          let l = take-least k (r.session.held + n) line (omega (arith, size, long)) in
          let f =
          newline-step after going
          ∙ ap (after_step after) (ap (stepped (holding r.session (r.session.held + n))) l ∙ holding-step r.session (r.session.held + n) (take k line)) in
          record {
            text = (stepped r.session (take k line)).text;
            wrote = step.text;
            short = step-short r.session (take k line);
            ahead = omega arith;
            within = omega (arith, inside);
            taken = λ size before room. then_byte newline (after_step after (stepped r.session (take k line))) e f size before room ∙ rw step.session;
          }

      pub advance-long : (s : Session) (w w' : Writer) → (get_or chunk n 0 ≡ newline → ⊥)
          → Stepping (stopped r.session) s w w'
          → Advancing r chunk (n + 1) (reader_of s line) w w'
      unfolding after
      advance-long s w w' e step =
          let f = long-step after (get_or chunk n 0) going e (full (dec_le longest_line (r.session.held + n))) in
          record {
            text = (stopped r.session).text;
            wrote = step.text;
            short = answer-long _ _ [] (omega arith);
            ahead = omega arith;
            within = omega (arith, inside);
            taken = λ size before room. then_byte (get_or chunk n 0) (after_step after (stopped r.session)) refl f size before room ∙ rw step.session;
          }
        where
          full : Dec (longest_line ≤ r.session.held + n) → longest_line ≤ r.session.held + n
          full (yes h) = h
          full (no h) =
              absurd
              (e
              (ap (λ (j : ℕ). get_or chunk j 0) (omega (arith, count))
              ∙ piece-end chunk (length r.line - r.session.held) (omega (arith, count, whole)) (omega (arith, count, inside))))

-- by these `advance` meets its contract
pub ruleset advancing = (advance-stopped, advance-held, advance-line, advance-long, piece-room, piece-left)
