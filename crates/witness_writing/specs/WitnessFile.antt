-- The witness file (02's C-18) of a formula that is decided: 'the side that settled it': its claim, n and clause count, the rows of that side, rounds.
-- Assumes nothing.
use Rattle.std.specs.Prelude.{ℕ, Bool, true, false, cond, ◌&&◌, List, [], eqb, leb}
use Rattle.engine.specs.declared.run.Answer.{Answer}
use Rattle.engine.specs.declared.run.Answer.TheVariants.{False, True, Spent, NoRoomUniversal, NoRoomExistential, Refused}
use Rattle.witness.specs.declared.Record.{Record}
use Rattle.decision.specs.declared.Decision.{Decision}
use Rattle.witness.specs.File.{made, file, size, write_cause}

-- A true formula is settled by existential rows: bits 0, 1, 3 and 4 stand. A false one by universal rows: bits 0, 1, 2 and 4.
abbrev pub side_record : Bool → ℕ → ℕ → ℕ → ℕ → Record
side_record true unknowns clauses count rounds = made 27 1 unknowns clauses 0 count rounds
side_record false unknowns clauses count rounds = made 23 0 unknowns clauses count 0 rounds

-- The file of a record with these rows on the side that it has; nothing if it has none or too many of them, or more than there are.
unfoldable pub record_file : Record → List ℕ → List ℕ
record_file r rows = cond (eqb (write_cause r rows rows (size r)) 0) (file r rows rows) []

-- A field has two bytes.
abbrev pub numbers_fit : ℕ → ℕ → ℕ → ℕ → Bool
numbers_fit unknowns clauses count rounds = leb unknowns 65535 && leb clauses 65535 && leb count 65535 && leb rounds 65535

unfoldable pub file_of : Bool → ℕ → ℕ → List ℕ → ℕ → ℕ → List ℕ
file_of value unknowns clauses rows count rounds =
    cond (numbers_fit unknowns clauses count rounds) (record_file (side_record value unknowns clauses count rounds) rows) []

-- By the answer of a decision that has left these universal and existential rows. Undecided or refused, there is no file.
abbrev pub by_answer : Answer → Decision → List ℕ → List ℕ → List ℕ
by_answer True d U E = file_of true d.unknowns d.clauses E d.existential d.round
by_answer False d U E = file_of false d.unknowns d.clauses U d.universal d.round
by_answer Spent d U E = []
by_answer NoRoomUniversal d U E = []
by_answer NoRoomExistential d U E = []
by_answer (Refused cause) d U E = []

unfoldable pub decision_file : Decision → List ℕ → List ℕ → List ℕ
decision_file d U E = by_answer d.answer d U E
