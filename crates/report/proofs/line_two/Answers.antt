-- `report::line_two` meets its contract: the parts stand one behind the other. Assumes nothing.
use native.Mathlib.Omega.{arith}
use lib.ListN.{take}
use borrow.Author.Rules.{rules}
use Rattle.report.proofs.Laws.{line_two_behind}
use Rattle.report.proofs.line_two.Goals as goal

pub returns : goal.returns
returns c =
    let given = c.args in
    let with_rounds = c.field-a.ensures.text_after in
    let with_universal = c.field-b.ensures.text_after in
    let with_existential = c.field-c.ensures.text_after in
    let ended = c.append.ensures.out_after_2 in
    let grouped = line_two_behind (take given.at given.text.now) given.rounds given.universal given.existential in record {
      upper_bound = omega arith;
      text_after = rw (ended, with_existential, with_universal, with_rounds) grouped;
    }
