-- The form that is found out: a text whose first line that is no comment begins `p gate` is read as a gate list, and any other one as clauses,
-- whatever lengths the tables have; and no text that one of the two readers takes is lost by it. Assumes nothing.
use Rattle.std.specs.Prelude.{ℕ, ◌≡◌, true, false}
use Rattle.lines.specs.Lines.{Bytes}
use Rattle.text.specs.declared.Form.TheVariants.{Either}
use Rattle.text.specs.Reading.{Read, taken, scan, result_of, read, read_gates, text_read, gates_read}
use Rattle.text.specs.Form.{begins_gates, has_gates, form_read}

pub record FormRight (text : Bytes) : Type 0 where
  pub as_gates : begins_gates text ≡ true → (kinds literals names : ℕ)
      → result_of (scan (has_gates Either text) text kinds literals names) ≡ read_gates text kinds literals names
  pub as_clauses : begins_gates text ≡ false → (kinds literals names : ℕ)
      → result_of (scan (has_gates Either text) text kinds literals names) ≡ read text kinds literals names
  pub gates_found : (r : Read) → gates_read text ≡ taken r → form_read Either text ≡ taken r
  pub clauses_found : (r : Read) → text_read text ≡ taken r → form_read Either text ≡ taken r
