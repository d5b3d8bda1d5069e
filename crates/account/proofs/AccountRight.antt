-- What an account says, for every text and gate list. Assumes nothing.
use Prim.Native.Nat.{ℕ}
use native.Mathlib.Omega.{arith}
use mathlib.Core.Path.{◌≡◌, refl, ap, ◌∙◌}
use mathlib.Core.Bool.{true, false}
use mathlib.Core.List.{List, ◌++◌, append_assoc}
use lib.ListN.{length, take}
use lib.Seq.{take-length, take-append_seam}
use Rattle.formula.specs.Meaning.{verdict}
use Rattle.rounds.proofs.Verdict.{verdict_right}
use Rattle.rounds.proofs.Claim.{claim}
use Rattle.rounds.proofs.Opening.{opening_right}
use Rattle.rounds.proofs.CountsLaws.{counts_right}
use Rattle.text.specs.Reading.{Read, Result, taken, refused, text_read, gates_read}
use Rattle.text.proofs.GatesRight.{gates_right}
use Rattle.report.specs.Report.{refusal_line}
use Rattle.decision.specs.Decision.{own_lent}
use Rattle.certificate.proofs.Settled.{rows_accepted}
use Rattle.answer.specs.Printed.{gates_printed, round_limit, result_of, shown as shown_answer, printed}
use Rattle.account.specs.Account.{head_lines, lines, facts, shown, account, account_of_gates}
use Rattle.account.specs.AccountRight.{RunRight, Told, a_refusal, a_run, AccountRight, GatesAccountRight}

-- One list goes on where another ends.
record Starts (front whole : List ℕ) : Type 0 where
  rest : List ℕ
  is : whole ≡ front ++ rest

longer : {front whole : List ℕ} → Starts front whole → (more : List ℕ) → Starts front (whole ++ more)
longer {front} s more = record { rest = s.rest ++ more; is = ap (λ (l : List ℕ). l ++ more) s.is ∙ append_assoc front s.rest more }

starts_taken : {front whole : List ℕ} → Starts front whole → take (length front) whole ≡ front
starts_taken {front} s = ap (take (length front)) s.is ∙ take-append_seam front s.rest

run_right : (r : Read) → RunRight r
unfolding verdict
run_right r =
    let l = own_lent r.kinds r.literals in
    record {
      only_true = (verdict_right l round_limit).only_true;
      only_false = (verdict_right l round_limit).only_false;
      true_borne = rows_accepted l round_limit true;
      false_borne = rows_accepted l round_limit false;
      claim = claim l round_limit (omega arith);
      opened = opening_right l round_limit;
      counted = counts_right l round_limit;
    }

-- The account of a formula begins with the program's two lines.
lines_start : (r : Read) → Starts (result_of r.kinds r.literals r.variables r.clauses) (lines (facts r.kinds r.literals r.names r.variables r.clauses))
unfolding lines head_lines result_of
lines_start r =
    let self : Starts (result_of r.kinds r.literals r.variables r.clauses) (result_of r.kinds r.literals r.variables r.clauses ++ _) = record { rest = _; is = refl } in
    longer (longer (longer (longer (longer (longer self _) _) _) _) _) _

-- What is shown of a reading begins with what the program shows of it, and tells its run.
begins_so : (result : Result) → take (length (shown_answer result)) (shown result) ≡ shown_answer result
begins_so (refused n line) = take-length (refusal_line n line)
begins_so (taken r) = starts_taken (lines_start r)

tells_so : (result reading : Result) → result ≡ reading → Told result (shown result)
tells_so result (refused n line) e = a_refusal n line e (ap shown e)
tells_so result (taken r) e = a_run r e (ap shown e) (run_right r)

module _ (text : List ℕ) where
  pub account_right : AccountRight text
  unfolding account printed
  account_right = record { begins = begins_so (text_read text); tells = tells_so (text_read text) (text_read text) refl }

  pub gates_account_right : GatesAccountRight text
  unfolding account_of_gates gates_printed
  gates_account_right =
      record { begins = begins_so (gates_read text); tells = tells_so (gates_read text) (gates_read text) refl; meaning = gates_right text }
