-- What holds of cases, as stated. Assumes nothing.
use Prim.Native.Nat.{ℕ}
use mathlib.Core.Bool.{Bool}
use mathlib.Core.List.{List}
use lib.IntN.{ℤ}
use Rattle.formula.specs.Formula.{Kind}
use Rattle.formula.proofs.Accepted.{accepted, accepting}
use Rattle.case_rules.specs.Restricted.{restricted, kinds_behind}
use Rattle.case_rules.specs.RestrictedRight.{RestrictedRight}
use Rattle.case_rules.specs.ByCases.{Study}
use Rattle.case_rules.specs.ByCasesRight.{ByFirst, PassedOver, ByCasesRight}
use Rattle.case_rules.specs.Casebook.{Casebook}
use Rattle.case_rules.specs.Evidence.{Finding}
use Rattle.case_rules.specs.CasebookRight.{RowsRight, JudgedRight, CasebookRight, EvidenceRight, HasCasebook}
use Rattle.case_rules.proofs.RestrictedLaws.{restricted_verdict, verdict_by_first}
use Rattle.case_rules.proofs.RestrictedTwice as twice
use Rattle.case_rules.proofs.AcceptedLaws.{restricted_accepted, restricted_fits}
use Rattle.case_rules.proofs.ByCasesLaws.{decided_verdict, tried_right, tried_verdict}
use Rattle.case_rules.proofs.UnnamedLaws.{unnamed_verdict}
use Rattle.case_rules.proofs.BudgetLaws.{asked_right, asked_left, asked_enough}
use Rattle.case_rules.proofs.RowLaws.{search_both, search_one, accepted_one, accepted_together}
use Rattle.case_rules.proofs.CasebookLaws.{casebook_verdict, gathered_accepted, gathered_few}
use Rattle.case_rules.proofs.EvidenceLaws.{shown_holds, casebook_exists}

pub restricted_right : (vs : List Bool) (kinds : List ℕ) (literals : List ℤ) → RestrictedRight vs kinds literals
restricted_right vs kinds literals =
    record {
      verdict_set = restricted_verdict vs kinds literals;
      accepted_again = λ h a. accepting (kinds_behind vs kinds) (restricted vs literals) (restricted_accepted vs kinds literals h (accepted kinds literals a));
      no_more_entries = λ h a. restricted_fits vs kinds literals h (accepted kinds literals a);
      further = λ ws. twice.restricted_twice vs ws literals;
      nothing_set = λ a. twice.nothing_set kinds literals (accepted kinds literals a);
    }

pub by_first : (k : ℕ) (kinds : List ℕ) (literals : List ℤ) → ByFirst k kinds literals
by_first = verdict_by_first

pub passed_over : (k : ℕ) (kinds : List ℕ) (literals : List ℤ) → PassedOver k kinds literals
passed_over = unnamed_verdict

pub rows_right : (side k : Kind) (ks : List Kind) (phi : List Bool → Bool) → RowsRight side k ks phi
rows_right side k ks phi =
    record {
      both_cases = λ prefer at_true at_false rows others o e f. search_both prefer at_true at_false side k ks phi rows others o e f;
      one_case = λ prefer at_value v rows o e. search_one prefer at_value side k v ks phi rows o e;
    }

pub judged_right : (claim : Bool) (k : Kind) (ks : List Kind) (phi : List Bool → Bool) → JudgedRight claim k ks phi
judged_right claim k ks phi = record { both_cases = accepted_together claim k ks phi; one_case = λ v rows o e. accepted_one claim k v ks phi rows o e }

pub casebook_right : (claim : Bool) (kinds : List ℕ) (literals : List ℤ) (book : Casebook) → CasebookRight claim kinds literals book
casebook_right claim kinds literals book =
    record { right = casebook_verdict claim kinds literals book; witness = gathered_accepted claim kinds literals book; few = gathered_few claim kinds book }

pub by_cases_right : (study : Study) (kinds : List ℕ) (literals : List ℤ) → ByCasesRight study kinds literals
by_cases_right study kinds literals =
    record {
      always = λ right a. decided_verdict study right kinds literals a;
      within = λ right a depth v e. tried_right study right depth kinds literals v a e;
      at_depth = λ right ends a depth h. tried_verdict study right ends depth kinds literals a h;
      bounded = λ right a budget v e. asked_right study right budget kinds literals v a e;
      kept = λ budget. asked_left study budget kinds literals;
      with_enough = λ right ends a budget room. asked_enough study right ends budget kinds literals a room;
    }

pub evidence_right : (find : Finding) (kinds : List ℕ) (literals : List ℤ) → EvidenceRight find kinds literals
evidence_right find kinds literals right a = shown_holds find right kinds literals a

pub has_casebook : (kinds : List ℕ) (literals : List ℤ) → HasCasebook kinds literals
has_casebook = casebook_exists
