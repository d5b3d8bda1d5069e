-- `case_study::make` meets its contract. The loop's invariant: the table has the formula of the levels passed. Assumes nothing.
use Rattle.study.specs.Study.{formula_of}
use Rattle.case_study.proofs.MakeLaws.{Making}
use Rattle.case_study.proofs.make.Given as goal

abbrev pub invariant-loop-i : goal.invariant-loop-i
invariant-loop-i l = Making l.setting l.kinds (formula_of l.setting.trim l.kinds l.literals) l.values l.table l.left l.entries l.i
