-- `trimming::next` meets its contract.
-- Assumes nothing.
use mathlib.Core.Path.{sym, ◌∙◌}
use Rattle.trimming.specs.Private.Table.{clauses_left}
use Rattle.trimming.proofs.NamedLaws.{list_told}
use Rattle.trimming.proofs.PureLaws.{by_unit, by_none, by_existential, by_universal, code_of_chosen}
use Rattle.trimming.proofs.next.Goals as goal

pub lowest_unit-unit-requires : goal.lowest_unit-unit-requires
lowest_unit-unit-requires c =
    let pre = c.requires in
    (pre.4, pre.2)

pub returns-then-unit-ne0 : goal.returns-then-unit-ne0
returns-then-unit-ne0 c =
    let given = c.args in
    by_unit given.kinds.now (clauses_left given.table.now) c.lowest_unit-unit.result c.lowest_unit-unit.ensures c.if-unit-ne0.true

pub lowest_pure-pure-requires : goal.lowest_pure-pure-requires
lowest_pure-pure-requires c = c.requires.3

pub returns-then-pure-eq0 : goal.returns-then-pure-eq0
returns-then-pure-eq0 c =
    let lowest_unit_call = c.lowest_unit-unit in
    let given = c.args in
    let pre = c.requires in
    by_none given.kinds.now (clauses_left given.table.now) lowest_unit_call.result lowest_unit_call.ensures c.if-unit-ne0.false
    c.lowest_pure-pure.result (c.lowest_pure-pure.ensures (clauses_left given.table.now) (list_told pre.0 pre.2 pre.1))
    c.if-pure-eq0.true

pub opposite-requires : goal.opposite-requires
opposite-requires c =
    let lowest_pure_call = c.lowest_pure-pure in
    let given = c.args in
    let pre = c.requires in
    let table = given.table.now in (
      code_of_chosen given.kinds.now (clauses_left table) lowest_pure_call.result
          (lowest_pure_call.ensures (clauses_left table) (list_told pre.0 pre.2 pre.1)).chosen c.if-pure-eq0.false,
      (lowest_pure_call.ensures (clauses_left table) (list_told pre.0 pre.2 pre.1)).chosen.small,
    )

pub returns-then-is_universal : goal.returns-then-is_universal
returns-then-is_universal c =
    let lowest_pure_call = c.lowest_pure-pure in
    let lowest_unit_call = c.lowest_unit-unit in
    let given = c.args in
    let pre = c.requires in
    by_universal given.kinds.now (clauses_left given.table.now) lowest_unit_call.result lowest_unit_call.ensures
    c.if-unit-ne0.false lowest_pure_call.result (lowest_pure_call.ensures (clauses_left given.table.now)
    (list_told pre.0 pre.2 pre.1)) c.if-pure-eq0.false c.opposite.result
    (sym c.is_universal.ensures ∙ c.if-is_universal.true) c.opposite.ensures

pub returns : goal.returns
returns c =
    let lowest_pure_call = c.lowest_pure-pure in
    let lowest_unit_call = c.lowest_unit-unit in
    let given = c.args in
    let pre = c.requires in
    by_existential given.kinds.now (clauses_left given.table.now) lowest_unit_call.result lowest_unit_call.ensures
    c.if-unit-ne0.false lowest_pure_call.result (lowest_pure_call.ensures (clauses_left given.table.now)
    (list_told pre.0 pre.2 pre.1)) c.if-pure-eq0.false (sym c.is_universal.ensures ∙ c.if-is_universal.false)
