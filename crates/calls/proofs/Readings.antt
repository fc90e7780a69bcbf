-- What a list of calls says of one ticket, in one record, and read call by call.
-- Assumes nothing.
use mathlib.Core.Bool.{Bool, true, false, not, ◌&&◌, and-true, and_assoc}
use mathlib.Core.Path.{◌≡◌, refl, sym}
use mathlib.Core.List.{List, [], ◌∷◌, ◌++◌, append-nil, append_assoc}
use Prim.Native.Nat.{ℕ}
use Rattle.calls.specs.Call.{Call, Open, Feed, Draw, Check, Close, Sum, Response, Event}
use Rattle.calls.specs.Lists.{is_on, fed_by, drawn_by, ends_feeding, Issue, unissued, issued_by, issue_by, issue_of, bytes_fed, bytes_drawn, feeding_lasts, last_runs}

-- how it was issued, the bytes fed, the bytes drawn, whether feeding lasts, and the run count last given
pub record Reading : Type 0 where
  pub issue : Issue
  pub fed : List ℕ
  pub drawn : List ℕ
  pub feeding : Bool
  pub runs : ℕ

-- of a ticket of which nothing is said
abbrev pub unread : Reading
unread = record { issue = unissued; fed = []; drawn = []; feeding = true; runs = 0 }

-- readings that agree field by field are the same
pub reading_path : {i j : Issue} {f g d e : List ℕ} {a b : Bool} {m n : ℕ} → i ≡ j → f ≡ g → d ≡ e → a ≡ b → m ≡ n
    → ◌≡◌ {A = Reading} (record { issue = i; fed = f; drawn = d; feeding = a; runs = m }) (record { issue = j; fed = g; drawn = e; feeding = b; runs = n })
reading_path p q r s u = λ k. record { issue = p k; fed = q k; drawn = r k; feeding = s k; runs = u k }

-- the first open counts
abbrev pub or_else : Issue → Issue → Issue
or_else unissued i = i
or_else (issued_by mode key) i = issued_by mode key

or_none : (i : Issue) → or_else i unissued ≡ i
or_none unissued = refl
or_none (issued_by mode key) = refl

-- what a list adds to a reading
unfoldable pub read_on : ℕ → List Event → Reading → Reading
read_on t es x =
    record {
      issue = or_else x.issue (issue_of t es);
      fed = x.fed ++ bytes_fed t es;
      drawn = x.drawn ++ bytes_drawn t es;
      feeding = x.feeding && feeding_lasts t es;
      runs = last_runs t x.runs es;
    }

-- what one accepted call on the ticket adds
unfoldable pub read_call : Call → Response → Reading → Reading
read_call c r x =
    record {
      issue = or_else x.issue (issue_by c unissued);
      fed = x.fed ++ fed_by c;
      drawn = x.drawn ++ drawn_by c r;
      feeding = x.feeding && not (ends_feeding c);
      runs = r.answer.runs;
    }

issue-step : (i j : Issue) (c : Call) → or_else i (issue_by c j) ≡ or_else (or_else i (issue_by c unissued)) j
issue-step (issued_by mode key) j c = refl
issue-step unissued j (Open mode key tagLength) = refl
issue-step unissued j (Feed t bytes) = refl
issue-step unissued j (Draw t buffer place count) = refl
issue-step unissued j (Check t tag) = refl
issue-step unissued j (Close t) = refl
issue-step unissued j Sum = refl

-- ---- a list, read call by call

pub read_none : (t : ℕ) (x : Reading) → read_on t [] x ≡ x
unfolding read_on issue_of bytes_fed bytes_drawn feeding_lasts last_runs
read_none t x = reading_path (or_none x.issue) (append-nil x.fed) (append-nil x.drawn) (and-true x.feeding) refl

-- the first call is an accepted one on the ticket
pub read_here : (t : ℕ) (e : Event) (es : List Event) (x : Reading) → is_on t e ≡ true
    → read_on t (e ∷ es) x ≡ read_on t es (read_call e.call e.response x)
unfolding read_on read_call issue_of bytes_fed bytes_drawn feeding_lasts last_runs
read_here t e es x h =
    rw h
    (reading_path (issue-step x.issue (issue_of t es) e.call) (sym (append_assoc x.fed (fed_by e.call) (bytes_fed t es)))
    (sym (append_assoc x.drawn (drawn_by e.call e.response) (bytes_drawn t es)))
    (sym (and_assoc x.feeding (not (ends_feeding e.call)) (feeding_lasts t es))) refl)

-- it is not
pub read-other : (t : ℕ) (e : Event) (es : List Event) (x : Reading) → is_on t e ≡ false → read_on t (e ∷ es) x ≡ read_on t es x
unfolding read_on issue_of bytes_fed bytes_drawn feeding_lasts last_runs
read-other t e es x h = rw h
