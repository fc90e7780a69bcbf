-- `state::word_of_bytes` meets its contract: a word past the bytes has none of them.
-- Assumes nothing.
use mathlib.Core.Path.{sym}
use native.Mathlib.Omega.{arith}
use Rattle.word.proofs.Windows.{window-before}
use Rattle.state.proofs.word_of_bytes.Goals as goal

pub returns-then-bytes-j : goal.returns-then-bytes-j
returns-then-bytes-j c =
    let a = c.args in
    sym (window-before a.bytes.now 0 a.j (omega arith))

pub returns : goal.returns
returns c = c.window.ensures
