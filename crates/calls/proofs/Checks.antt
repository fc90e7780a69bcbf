-- The checks that every call on a ticket begins with: what is answered where one fails; and what an open's check 21 shows.
-- Assumes nothing.
use Rattle.std.specs.Prelude.{Option, Some, None}
use mathlib.Core.Bool.{Bool, true, false, ◌||◌, true≢false}
use mathlib.Core.Path.{◌≡◌, refl, sym, ◌∙◌}
use mathlib.Core.Logic.{◌≢◌}
use mathlib.Core.List.{List, ◌++◌}
use Prim.Native.Nat.{ℕ, ◌≤◌}
use borrow.Author.Tests.{ltb-false, ne_eqb}
use lib.Dec.{ltb}
use Rattle.mode.specs.declared.Mode.{Mode}
use Rattle.mode.specs.Mode.{row, number_of, named}
use Rattle.mode.proofs.Modes.{number_is, length_ignored, length-kept}
use Rattle.checks.specs.Checks.{OneCheck, checked}
use Rattle.calls.specs.Checks.{shortest_tag, longest_tag, wrong_tag_length, open_checks, Standing, ticket_checks}

pub never-issued : {A : Type 0} (f : ℕ → A) (s : Standing) (cs : List OneCheck) (x : A) → s.issued ≡ false → checked f (ticket_checks s ++ cs) x ≡ f 11
unfolding ticket_checks
never-issued f s cs x e = rw e

pub is-closed : {A : Type 0} (f : ℕ → A) (s : Standing) (cs : List OneCheck) (x : A) → s.issued ≡ true → s.is_open ≡ false
    → checked f (ticket_checks s ++ cs) x ≡ f 12
unfolding ticket_checks
is-closed f s cs x e o = rw (e, o)

pub is_open : {A : Type 0} (f : ℕ → A) (s : Standing) (cs : List OneCheck) (x : A) → s.issued ≡ true → s.is_open ≡ true
    → checked f (ticket_checks s ++ cs) x ≡ checked f cs x
unfolding ticket_checks
is_open f s cs x e o = rw (e, o)

-- ---- 21

-- in mode 2 no tag is longer than 16 bytes
abbrev pub Tagged : Mode → Type 0
Tagged mode = number_of mode ≡ 2 → (row mode).most_drawn ≤ longest_tag

-- of two that do not hold, the second
pub second-false : (a b : Bool) → a || b ≡ false → b ≡ false
second-false true b h = absurd (true≢false h)
second-false false b h = h

-- so it is where 21 passes
pub tagged : (n tagLength : ℕ) (mode : Mode) → named n tagLength ≡ Some mode → wrong_tag_length (Some mode) tagLength ≡ false → Tagged mode
tagged n tagLength mode h pass two =
    rw (length-kept n tagLength mode h two)
    (ltb-false _ _ (second-false (ltb tagLength shortest_tag) (ltb longest_tag tagLength) (rw two at pass)))

-- in every other mode the checks are the same for any tag length
pub checks_ignore : (n a b : ℕ) → n ≢ 2 → (key : List ℕ) (issued : ℕ) (full : Bool)
    → open_checks (named n a) key a issued full ≡ open_checks (named n b) key b issued full
unfolding open_checks
checks_ignore n a b other key issued full = rw (length_ignored n a b other) (go (named n b) refl)
  where
    go : (x : Option Mode) → named n b ≡ x → open_checks x key a issued full ≡ open_checks x key b issued full
    go (Some mode) h = rw (ne_eqb (number_of mode) 2 (λ two. other (sym (number_is n b mode h) ∙ two)))
    go None h = refl
