-- `trimming::settle` meets its contract. The loop's invariant: the rounds that are left make of the table what all of them make; the index is the one of what
-- is left; and clauses that are not named are irreducible.
-- Assumes nothing.
use native.Mathlib.Omega.{arith}
use Prim.Native.Nat.{ℕ, ◌+◌, ◌-◌, ◌/◌, ◌<◌}
use mathlib.Core.Path.{◌≡◌, sym, ◌∙◌, ap, subst}
use mathlib.Core.List.{List}
use lib.ListN.{length, take, length-set, length-replicate}
use Rattle.formula.specs.Formula.{max_unknowns, prefix}
use Rattle.trimming.specs.Private.Table.{Units}
use Rattle.trimming.proofs.LoopLaws.{list_bounds, list_saved, pending_begins, pending_again, standing_still}
use Rattle.trimming.proofs.CodeLaws.{opposite_bounds}
use Rattle.trimming.proofs.FirstLaws.{units_begin, units_joined, units_off, units_all, none_noted}
use Rattle.trimming.proofs.RoundLaws.{Settling, settling_begins, settling_ends, settled_here, code_bounds, settling_more}
use Rattle.trimming.proofs.settle.Goals as goal
use lib.Seq.{length-take-le}

pub save-count-requires : goal.save-count-requires
save-count-requires c =
    let pre = c.requires in
    let b = list_bounds c.args.table.now pre.3 pre.1 1 (omega arith) in
    (b.order, omega (arith, b.sized, b.to), omega (arith, b.from, b.to, pre.4), omega (arith, b.sized))

pub loop-round-init : goal.loop-round-init
loop-round-init c =
    let save_call = c.save-count in
    let given = c.args in
    let pre = c.requires in
    let kinds = given.kinds.now in
    let table = given.table.now in
    let all : length table + 1 ≡ length table + 1 - 0 = omega arith in
    let s = list_saved table pre.3 pre.1 1 (omega arith) save_call.new.names save_call.result (save_call.auto.names ∙ pre.4)
    save_call.ensures in (
      subst (λ (n : ℕ). Settling (prefix kinds) (length table + 1) table table n) all (settling_begins (prefix kinds) (length table + 1) table pre.0),
      pending_begins kinds pre.0 pre.3 pre.1
          (take save_call.result save_call.new.names) s.0,
      s.1,
      save_call.auto.names ∙ pre.4,
      units_begin kinds given.firsts.now
          (none_noted given.firsts.now pre.5) pre.0 (take save_call.result save_call.new.names) s.0,
      ap length pre.5 ∙ length-replicate
          {A = ℕ} (max_unknowns + 1) 65535,
    )

pub reduce-requires : goal.reduce-requires
reduce-requires c =
    c.loop-round.invariant.1

pub note_units-requires : goal.note_units-requires
note_units-requires c =
    let reduce_call = c.reduce in
    let loop = c.loop-round in (
      reduce_call.ensures.passed.0.laid_out,
      omega (arith, reduce_call.ensures.passed.0.sized, loop.invariant.1.few),
      standing_still reduce_call.new.table
          loop.invariant.1 reduce_call.ensures.by_index.1,
      units_joined (c.args.kinds.now) loop.firsts (take loop.count loop.names)
          (reduce_call.ensures.by_index.0 loop.firsts loop.invariant.4),
      loop.invariant.5,
    )

pub next-code-requires : goal.next-code-requires
next-code-requires c =
    let reduce_call = c.reduce in (
      reduce_call.ensures.passed.0.laid_out,
      reduce_call.ensures.passed.1,
      omega
          (arith, reduce_call.ensures.passed.0.sized, c.loop-round.invariant.1.few),
      c.requires.2,
      c.note_units.ensures.0,
    )

pub returns-then-code-eq0 : goal.returns-then-code-eq0
returns-then-code-eq0 c =
    let reduce_call = c.reduce in
    let given = c.args in (
      settled_here (prefix given.kinds.now) (length given.table.now + 1) given.table.now
          (c.loop-round.invariant.0) (omega (arith, c.loop-round-test.true))
          reduce_call.new.table reduce_call.ensures.passed.0 c.next-code.result c.next-code.ensures c.if-code-eq0.true,
      reduce_call.ensures.passed.1,
    )

pub set_true-count-requires : goal.set_true-count-requires
set_true-count-requires c =
    let next_call = c.next-code in
    let reduce_call = c.reduce in
    let loop = c.loop-round in
    let given = c.args in
    let b = code_bounds (prefix given.kinds.now) (length given.table.now + 1) given.table.now loop.invariant.0
    (omega (arith, c.loop-round-test.true)) reduce_call.new.table reduce_call.ensures.passed.0 next_call.result
    next_call.ensures c.if-code-eq0.false in (
      reduce_call.ensures.passed.0.laid_out,
      reduce_call.ensures.passed.1,
      omega (arith, reduce_call.ensures.passed.0.sized, loop.invariant.1.few),
      loop.invariant.3,
      b.0,
      b.1,
    )

pub loop-round-preserved : goal.loop-round-preserved
loop-round-preserved c =
    let set_true_call = c.set_true-count in
    let if1 = c.if-code-eq0 in
    let next_call = c.next-code in
    let note_units_call = c.note_units in
    let reduce_call = c.reduce in
    let loop = c.loop-round in
    let given = c.args in
    let kinds = given.kinds.now in
    let table = given.table.now in
    let some_left : 0 < length table + 1 - loop._round = omega (arith, c.loop-round-test.true) in
    let one_less : length table + 1 - loop._round - 1 ≡ length table + 1 - (loop._round + 1) = omega arith in
    let b = code_bounds (prefix kinds) (length table + 1) table loop.invariant.0 some_left reduce_call.new.table reduce_call.ensures.passed.0
    next_call.result next_call.ensures if1.false in
    let o = opposite_bounds next_call.result b.0 b.1 in (
      subst (λ (n : ℕ). Settling (prefix kinds) (length table + 1) table set_true_call.new.table n) one_less
          (settling_more (prefix kinds) (length table + 1) table loop.invariant.0 some_left reduce_call.new.table reduce_call.ensures.passed.0
          next_call.result next_call.ensures if1.false set_true_call.new.table set_true_call.ensures.0.passed),
      pending_again kinds (omega (arith, reduce_call.ensures.passed.0.sized, loop.invariant.1.few)) reduce_call.ensures.passed.2 set_true_call.ensures.0,
      set_true_call.ensures.1,
      set_true_call.auto.names ∙ loop.invariant.3,
      subst (λ (l : List ℕ). Units kinds l (take set_true_call.result set_true_call.new.names)
          (take set_true_call.result set_true_call.new.names) 0 set_true_call.new.table) (sym c.forget_unit.ensures)
          (units_off kinds note_units_call.new.firsts (take set_true_call.result set_true_call.new.names) next_call.result b.0
          b.1 note_units_call.ensures.1 (set_true_call.ensures.0.units kinds note_units_call.new.firsts
          (units_all kinds next_call.result note_units_call.ensures.0)) set_true_call.ensures.2 set_true_call.ensures.3 o.1 o.0),
      ap length c.forget_unit.ensures ∙ length-set note_units_call.new.firsts (next_call.result / 2) 65535 ∙ note_units_call.ensures.1,
    )

pub returns : goal.returns
returns c =
    let given = c.args in (
      settling_ends (prefix given.kinds.now) (length given.table.now + 1) given.table.now c.loop-round.invariant.0 (omega arith),
      c.loop-round.invariant.1.indexed,
    )

pub forget_unit-requires : goal.forget_unit-requires
forget_unit-requires c = c.next-code.ensures.chosen.small

pub slice_bounds-reduce-end : goal.slice_bounds-reduce-end
slice_bounds-reduce-end c = omega (arith, c.loop-round.invariant.2, c.loop-round.invariant.3)

pub slice_bounds-reduce-end-in-loop-round : goal.slice_bounds-reduce-end-in-loop-round
slice_bounds-reduce-end-in-loop-round c =
    sym (length-take-le c.loop-round.count c.loop-round.names (omega (arith, c.loop-round.invariant.2, c.loop-round.invariant.3)))

pub slice_bounds-note_units-end : goal.slice_bounds-note_units-end
slice_bounds-note_units-end c = omega (arith, c.loop-round.invariant.2, c.loop-round.invariant.3)

pub slice_bounds-note_units-end-in-loop-round : goal.slice_bounds-note_units-end-in-loop-round
slice_bounds-note_units-end-in-loop-round c =
    sym (length-take-le c.loop-round.count c.loop-round.names (omega (arith, c.loop-round.invariant.2, c.loop-round.invariant.3)))
