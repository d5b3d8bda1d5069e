-- What an account says of the text that was read. Assumes nothing.
use Rattle.std.specs.Prelude.{ℕ, ◌≡◌, true, false, List, length, take}
use Rattle.formula.specs.Formula.{prefix, clauses}
use Rattle.formula.specs.Meaning.{verdict, matrix}
use Rattle.expansion.specs.Judge.{accepted}
use Rattle.rounds.specs.Run.{rows, is_true, is_false}
use Rattle.rounds.specs.Claim.{Claim}
use Rattle.rounds.specs.Opening.{Opens}
use Rattle.rounds.specs.Counts.{CountsRight}
use Rattle.text.specs.Reading.{Read, Result, taken, refused, text_read, gates_read}
use Rattle.text.specs.GatesRight.{GatesRight}
use Rattle.report.specs.Report.{refusal_line}
use Rattle.decision.specs.Decision.{own_lent}
use Rattle.answer.specs.Printed.{round_limit, settled, printed, gates_printed}
use Rattle.account.specs.Account.{facts, lines, account, account_of_gates}

-- The run whose facts are told.
pub record RunRight (r : Read) : Type 0 where
  -- The answer is the formula's meaning.
  pub only_true : (settled r.kinds r.literals).answer ≡ is_true → verdict r.kinds r.literals ≡ true
  pub only_false : (settled r.kinds r.literals).answer ≡ is_false → verdict r.kinds r.literals ≡ false
  -- The rows of the side that decided settle it: the judge accepts them.
  pub true_borne : (settled r.kinds r.literals).answer ≡ is_true
      → accepted true (prefix r.kinds) (matrix (clauses r.literals)) (rows (settled r.kinds r.literals).S) ≡ true
  pub false_borne : (settled r.kinds r.literals).answer ≡ is_false
      → accepted false (prefix r.kinds) (matrix (clauses r.literals)) (rows (settled r.kinds r.literals).A) ≡ true
  -- Each finished round added a row with its mark to both tables, and no two rows of a table are equal.
  pub claim : Claim (own_lent r.kinds r.literals) round_limit
  -- The formula with the first block set to the opening has the same verdict.
  pub opened : Opens (own_lent r.kinds r.literals) (settled r.kinds r.literals)
  -- How often a row came back.
  pub counted : CountsRight (own_lent r.kinds r.literals) round_limit

-- The text is refused, and that is all that is told; or it is taken, and the lines are those of its run.
pub data Told (result : Result) (told : List ℕ) : Type 0 where
  a_refusal : (n line : ℕ) → result ≡ refused n line → told ≡ refusal_line n line → Told result told
  a_run : (r : Read) → result ≡ taken r → told ≡ lines (facts r.kinds r.literals r.names r.variables r.clauses) → RunRight r → Told result told

-- Of a text: the account begins with what the program prints, and is no more where that is a refusal.
pub record AccountRight (text : List ℕ) : Type 0 where
  pub begins : take (length (printed text)) (account text) ≡ printed text
  pub tells : Told (text_read text) (account text)

-- Of a gate list: the same, and the verdict of its clauses is the circuit's value.
pub record GatesAccountRight (text : List ℕ) : Type 0 where
  pub begins : take (length (gates_printed text)) (account_of_gates text) ≡ gates_printed text
  pub tells : Told (gates_read text) (account_of_gates text)
  pub meaning : GatesRight text
