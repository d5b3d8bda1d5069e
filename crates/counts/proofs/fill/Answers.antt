-- `counts::fill` meets its contract. The loop's invariant: it is filled up to the place. Assumes nothing.
use Rattle.std.proofs.Common.{ℕ, List, set, sym, refl, ap, ◌∙◌, arith, length-set}
use Rattle.counts.proofs.CountLaws.{filled_none, filled_next, filled_most}
use Rattle.counts.proofs.fill.Goals as goal

pub loop-i-init : goal.loop-i-init
loop-i-init c =
    let given = c.args in
    (sym (filled_none given.from given.from given.value given.counts.now (omega arith)), omega arith, omega arith, refl)

pub loop-i-preserved : goal.loop-i-preserved
loop-i-preserved c =
    let given = c.args in
    let loop = c.loop-i in (
      ap (λ (l : List ℕ). set l loop.i given.value) loop.invariant.0
          ∙ filled_next given.from loop.i given.value given.counts.now (omega arith) (omega arith),
      omega arith,
      omega arith,
      length-set loop.counts loop.i given.value ∙ loop.invariant.3,
    )

pub returns : goal.returns
returns c =
    let given = c.args in
    let loop = c.loop-i in
    loop.invariant.0 ∙ filled_most given.from given.to loop.i given.value given.counts.now (omega arith) (omega arith) (omega arith)
