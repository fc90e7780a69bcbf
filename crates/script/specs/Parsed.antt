-- What the answers of the code that reads a line stand for.
-- Assumes nothing.
use Rattle.std.specs.Prelude.{List, [], ℕ, length, take, Option, Some, None, option_map}
use Rattle.std.proofs.lemmas.List.Edits.{sets}
use Rattle.script.specs.declared.line.Verb.{Verb}
use Rattle.script.specs.declared.line.Verb.TheVariants.{Open, Feed, Draw, Check, Close, Sum}
use Rattle.script.specs.declared.line.Parsed.{Parsed}
use Rattle.script.specs.Line.{Field, bytes, count, Line}

-- the third field: the first `size` bytes of the buffer, or a draw's count
abbrev pub field_in : Verb → ℕ → List ℕ → Field
field_in Open size buffer = bytes (take size buffer)
field_in Feed size buffer = bytes (take size buffer)
field_in Draw size buffer = count size
field_in Check size buffer = bytes (take size buffer)
field_in Close size buffer = bytes (take size buffer)
field_in Sum size buffer = bytes (take size buffer)

abbrev pub line_with : Verb → ℕ → ℕ → List ℕ → Line
line_with v n size buffer = record { verb = v; number = n; field = field_in v size buffer }

abbrev pub line_in : Option Parsed → List ℕ → Option Line
line_in parsed buffer = option_map (λ p. line_with p.verb p.number p.size buffer) parsed

-- ---- what `parse_line` gives

-- how many bytes the third field has, or a draw's count
abbrev pub size_of : Field → ℕ
size_of (bytes bs) = length bs
size_of (count k) = k

abbrev pub bytes_in : Field → List ℕ
bytes_in (bytes bs) = bs
bytes_in (count k) = []

abbrev pub parsed_of : Option Line → Option Parsed
parsed_of line = option_map (λ l. record { verb = l.verb; number = l.number; size = size_of l.field }) line

-- the buffer then begins with the line's bytes, and is as it was where there are none
abbrev pub buffer_after : List ℕ → Option Line → List ℕ
buffer_after buffer (Some l) = sets buffer 0 (bytes_in l.field)
buffer_after buffer None = buffer

-- ---- the same of its third field

abbrev pub size_read : Option Field → Option ℕ
size_read field = option_map size_of field

abbrev pub buffer_with : List ℕ → Option Field → List ℕ
buffer_with buffer (Some f) = sets buffer 0 (bytes_in f)
buffer_with buffer None = buffer
