-- The expansions worked by hand come out, by computation. Assumes nothing.
use mathlib.Core.Path.{refl}
use Rattle.report.specs.Report.{decimal}
use Rattle.writing.specs.Writing.{p_line}
use Rattle.cnf_rules.specs.Clauses.{expansion, variables, clause_count}
use Rattle.cnf_rules.specs.Text.{head, text}
use Rattle.cnf_rules.specs.Dimacs.{dimacs}
use Rattle.cnf_rules.specs.Worked.{ExpansionsWorked}

pub expansions_worked : ExpansionsWorked
unfolding expansion variables clause_count head text p_line decimal dimacs
expansions_worked = record {
  k12 = refl;
  k12_existential = refl;
  repeated = refl;
  empty_clause_0 = refl;
  empty_clause_1 = refl;
  no_clause = refl;
  no_rows = refl;
  k1 = refl;
  k2 = refl;
  no_number = refl;
  no_word = refl;
}
