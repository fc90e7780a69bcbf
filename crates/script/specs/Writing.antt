-- What a writer's methods do.
-- Assumes nothing.
use Rattle.std.specs.Prelude.{◌≡◌, List, ℕ}
use Rattle.script.specs.declared.writer.Writer.{Writer}
use Rattle.script.specs.Text.{Wrote}

-- A text was put: it is written at the writer's place, which is then behind it. The buffer is the same one.
pub record Puts (text : List ℕ) (before after : Writer) : Type 0 where
  pub same : after.out.ghost_name ≡ before.out.ghost_name
  pub wrote : Wrote before.out.now before.at text after.out.now after.at
