-- Names bound nowhere: 'QDIMACS lets a clause use a name that no block binds and reads it as existential in front of everything.'
-- A text that is taken is true, by what is written of it, exactly if there are values of the names bound nowhere under which the text's own blocks
-- and clauses, read by name, are true. No position occurs in them. Assumes nothing.
use Rattle.std.specs.Prelude.{ℕ, ◌≡◌, true}
use Rattle.formula.specs.Meaning.{verdict}
use Rattle.lines.specs.Lines.{Bytes}
use Rattle.named.specs.Named.{Values}
use Rattle.named.specs.Names.{In, Stands, Distinct, Rising, Known}
use Rattle.named.specs.Closing.{closed_names, open_verdict}
use Rattle.text.specs.Reading.{State, whole, closed, Read, taken, text_scan, text_read}

-- The text by its own names, and what was read of it.
pub record Closed (text : Bytes) (r : Read) : Type 0 where
  pub own : State
  pub scanned : text_scan text ≡ whole own
  pub read_so : r ≡ closed own
  -- A free name stands in a clause and in no block; each name of a clause is free or bound, and no name is placed twice.
  pub stands : (v : ℕ) → In v own.free → Stands v own.entries
  pub different : Distinct (closed_names own.free own.names)
  pub known : Known (closed_names own.free own.names) own.entries
  -- 'By rising number.'
  pub rising : Rising own.free
  -- The verdict.
  pub only_if : verdict r.kinds r.literals ≡ true → (h : Values) × (open_verdict own.kinds own.names own.entries h ≡ true)
  pub for_some : (h : Values) → open_verdict own.kinds own.names own.entries h ≡ true → verdict r.kinds r.literals ≡ true

abbrev pub ClosedRight : Bytes → Type 0
ClosedRight text = (r : Read) → text_read text ≡ taken r → Closed text r
