-- What the program's functions hand on. What a read brought, and that a write wrote what it was lent, no contract of the kit says: a chunk that was read is a
-- list of bytes here, of which nothing is known, and whether a read or a write failed is what is handed on. That what is lent to a write is what `fill` put into its
-- buffer, and that the failure is the read's or the write's, stands in the code.
-- Assumes nothing.
use Rattle.std.specs.Prelude.{◌≡◌, ◌≢◌, Bool, false, not, ◌&&◌, List, [], ◌++◌, ℕ, eqb, length, Result, Ok, Err}
use Rattle.interpreter.specs.declared.Reader.{Reader}
use Rattle.interpreter.specs.Session.{consumed, finished}
use Rattle.interpreter.specs.Theorems.{consumed_all, NotEmpty}
use Rattle.rampscript.specs.declared.Failure.{Failure}
use Rattle.rampscript.specs.declared.Failure.TheVariants.{Read, Write}

-- a step went well, or a read or a write failed
abbrev pub Outcome : Type 0
Outcome = Result (Unit {0}) Failure

-- A chunk was answered: its first bytes were consumed, and all of them unless a write failed. Nothing is read.
pub record Answering (r : Reader) (chunk : List ℕ) (a : Outcome) (r' : Reader) : Type 0 where
  pub taken : List ℕ
  pub left : List ℕ
  pub split : chunk ≡ taken ++ left
  pub reader : r' ≡ (consumed r taken).reader
  pub all : a ≡ Ok tt → left ≡ []
  pub unread : a ≢ Err Read

-- what a turn has of an answered chunk: all was written where the read failed
abbrev pub answered_by : Result ℕ Failure → Outcome
answered_by (Ok n) = Ok tt
answered_by (Err Read) = Ok tt
answered_by (Err Write) = Err Write

-- A turn was made: a chunk of so many bytes was read, of none where the read failed, and was answered.
pub record Turning (r : Reader) (t : Result ℕ Failure) (r' : Reader) : Type 0 where
  pub chunk : List ℕ
  pub count : (n : ℕ) → t ≡ Ok n → n ≡ length chunk
  pub failed : t ≡ Err Read → chunk ≡ []
  pub answering : Answering r chunk (answered_by t) r'

-- another turn is to be made: all answers were written, the read gave something, and the script has not stopped
abbrev pub more : Result ℕ Failure → Reader → Bool
more (Ok n) r = not (eqb n 0) && r.session.going
more (Err e) r = false

-- how the last turn ended is handed on
abbrev pub ended_by : Result ℕ Failure → Outcome
ended_by (Ok n) = Ok tt
ended_by (Err e) = Err e

-- Turns were made until none was to be made: each chunk before the last had a byte at least and was consumed whole, and this was the last turn.
pub record Running (r : Reader) (e : Outcome) (r' : Reader) : Type 0 where
  pub before : List (List ℕ)
  pub some : NotEmpty before
  pub turn : Result ℕ Failure
  pub last : Turning (consumed_all r before).reader turn r'
  pub over : more turn r' ≡ false
  pub outcome : e ≡ ended_by turn

-- The script was run.
pub data Ending (r : Reader) (e : Outcome) (r' : Reader) : Type 0 where
  -- the names were not written: nothing was consumed, and nothing more was tried
  unstarted : e ≡ Err Write → r' ≡ r → Ending r e r'
  -- turns were made until a read or a write failed: nothing more was tried
  cut_short : (f : Failure) → e ≡ Err f → Running r e r' → Ending r e r'
  -- turns were made until none was to be made, with all answers written, and then the script was told that its input ends
  told : (last : Reader) → Running r (Ok tt) last → r' ≡ (finished last).reader → e ≢ Err Read → Ending r e r'
