-- The trimmed formula of a text, written as a text with the kinds, names and V that were read; a text that is refused has none, and 01's refusal
-- line is said. Assumes nothing.
use Rattle.std.specs.Prelude.{◌≡◌, []}
use Rattle.lines.specs.Lines.{Bytes}
use Rattle.report.specs.Report.{refusal_line, put, put_count}
use Rattle.text.specs.Reading.{Result, taken, refused, text_read}
use Rattle.trimming_rules.specs.Trimming.{trimmed}
use Rattle.writing.specs.Writing.{written}
use Rattle.trimmed_text.specs.declared.Counts.{Counts}

abbrev pub text_of : Result → Bytes
text_of (taken r) = written r.kinds (trimmed r.kinds r.literals) r.names r.variables
text_of (refused number line) = []

-- 'A refusal prints only `c refused N L`, number and line.'
abbrev pub lines_of : Result → Bytes
lines_of (taken r) = []
lines_of (refused number line) = refusal_line number line

unfoldable pub trimmed_text : Bytes → Bytes
trimmed_text text = text_of (text_read text)

unfoldable pub said : Bytes → Bytes
said text = lines_of (text_read text)

-- Both put into lent buffers.
pub record Delivered (text out lines : Bytes) (counts : Counts) (out_then lines_then : Bytes) : Type 0 where
  pub text_counted : counts.text ≡ put_count (trimmed_text text) out
  pub text_written : out_then ≡ put (trimmed_text text) out
  pub lines_counted : counts.lines ≡ put_count (said text) lines
  pub lines_written : lines_then ≡ put (said text) lines
