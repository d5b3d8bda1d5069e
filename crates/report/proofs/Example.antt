-- The full output that 01 works by hand, as an equation of the definition. Assumes nothing.
use mathlib.Core.Path.{◌≡◌, refl}
use mathlib.Core.List.{◌++◌}
use Rattle.report.specs.Report.{ascii, decimal, line_one, line_two, result_lines}

-- 01, 'Runs worked by hand': true, V 2 and C 2, round 2, counts 2 and 2.
pub worked_result : result_lines 1 2 2 2 2 2 ≡ ascii "s cnf 1 2 2\n" ++ ascii "c rounds 2 universal 2 existential 2\n"
unfolding result_lines line_one line_two decimal
worked_result = refl
