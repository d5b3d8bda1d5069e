-- The trimmed text is read as the trimmed formula, with the same kinds, names and V, and has the same verdict. Assumes nothing.
use Rattle.std.specs.Prelude.{ℕ, ◌≤◌, ◌≡◌, [], length}
use Rattle.formula.specs.Meaning.{verdict}
use Rattle.lines.specs.Lines.{Bytes}
use Rattle.report.specs.Report.{refusal_line}
use Rattle.text.specs.Reading.{Read, taken, refused, text_read}
use Rattle.trimming_rules.specs.Trimming.{trimmed}
use Rattle.writing.specs.WritingRight.{again}
use Rattle.trimmed_text.specs.TrimmedText.{trimmed_text, said}

-- Of a text that is taken.
pub record Trimmed (text : Bytes) (r : Read) : Type 0 where
  pub read_again : text_read (trimmed_text text) ≡ taken (again r.kinds (trimmed r.kinds r.literals) r.names r.variables)
  pub same_verdict : verdict r.kinds (trimmed r.kinds r.literals) ≡ verdict r.kinds r.literals
  pub silent : said text ≡ []

-- Of a text that is refused.
pub record Refusal (text : Bytes) (n line : ℕ) : Type 0 where
  pub nothing : trimmed_text text ≡ []
  pub its_line : said text ≡ refusal_line n line

pub record TrimmedTextRight (text : Bytes) : Type 0 where
  pub if_taken : (r : Read) → text_read text ≡ taken r → Trimmed text r
  pub if_refused : (n line : ℕ) → text_read text ≡ refused n line → Refusal text n line
  -- Trimming twice is trimming once, byte for byte.
  pub twice_is_once : trimmed_text (trimmed_text text) ≡ trimmed_text text
  -- The text fits 58,651 bytes, the line 32.
  pub text_short : length (trimmed_text text) ≤ 58651
  pub line_short : length (said text) ≤ 32
