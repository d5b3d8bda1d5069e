-- `over_cells` meets its contract. Assumes nothing.
use native.Mathlib.Omega.{arith}
use Prim.Native.Nat.{ℕ}
use mathlib.Core.Path.{◌≡◌, refl, ◌∙◌}
use lib.ListN.{length, take, replicate, length-take, length-replicate}
use Rattle.formula.specs.Formula.{max_unknowns}
use Rattle.engine.proofs.search.FirstBlockLaws.{reads_taken}
use Rattle.engine.proofs.search.CallLaws.{compares, numbers}
use Rattle.engine.proofs.search.over_cells.Goals as goal

pub read-used-requires : goal.read-used-requires
read-used-requires c =
    let size : length (replicate {A = ℕ} max_unknowns 0) ≡ max_unknowns = length-replicate {A = ℕ} max_unknowns 0 in
    omega (arith, c.requires.tables.few_unknowns, size)

pub slice_bounds-from_start-end : goal.slice_bounds-from_start-end
slice_bounds-from_start-end c = simp length-take (omega (arith, c.compare.auto.differences, c.requires.few))

pub slice_bounds-block-end : goal.slice_bounds-block-end
slice_bounds-block-end c =
    let size : length (replicate {A = ℕ} max_unknowns 0) ≡ max_unknowns = length-replicate {A = ℕ} max_unknowns 0 in
    omega (arith, c.requires.tables.few_unknowns, c.read-used.ensures.inside, c.read-used.auto.block, size)

pub slice_bounds-from_start-end-2 : goal.slice_bounds-from_start-end-2
slice_bounds-from_start-end-2 c =
    let read_call = c.read-used in
    let size : length (replicate {A = ℕ} max_unknowns 0) ≡ max_unknowns = length-replicate {A = ℕ} max_unknowns 0 in
    simp length-take (omega (arith, c.requires.tables.few_unknowns, read_call.ensures.inside, read_call.auto.block, size))

pub from_start-requires : goal.from_start-requires
from_start-requires c =
    let compare_call = c.compare in
    let pre = c.requires in (
      pre.tables.few_unknowns,
      simp length-take (omega (arith, compare_call.auto.differences, pre.few, pre.some_row)),
      simp length-take (omega (arith, compare_call.auto.differences, pre.few)),
      pre.tables.entries,
      pre.tables.coded,
      pre.tables.index_lent,
      pre.side_fits,
      c.fill.auto.work ∙ pre.area,
    )

pub shape_of-work : goal.shape_of-work
shape_of-work c = c.from_start.auto.work ∙ c.fill.auto.work

pub returns : goal.returns
returns c =
    let read_call = c.read-used in
    let fill_call = c.fill in
    let compare_call = c.compare in
    let given = c.args in
    let pre = c.requires in
    let kinds = given.kinds.now in
    let side = given.side in
    record {
      all = compare_call.new.differences;
      wanting_area = fill_call.new.work;
      long = omega (arith, compare_call.auto.differences, pre.few);
      compared = compares kinds given.work.now _ side _ pre.area pre.tables.few_unknowns pre.few refl compare_call.ensures;
      wanting = numbers kinds given.preferences.now given.place.now _ side pre.tables.few_unknowns pre.few pre.met
          compare_call.auto.differences pre.area fill_call.ensures;
      block = take read_call.result read_call.new.block;
      reads =
          let size : length (replicate {A = ℕ} max_unknowns 0) ≡ max_unknowns = length-replicate {A = ℕ} max_unknowns 0 in
          reads_taken kinds given.own.now given.known side read_call.new.block read_call.result
          (omega (arith, pre.tables.few_unknowns, read_call.ensures.inside, read_call.auto.block, size)) read_call.ensures;
      from = c.from_start.ensures;
    }
