-- `search_numbering::fill_at` meets its contract. Assumes nothing.
use native.Mathlib.Omega.{arith}
use Rattle.formula.specs.Formula.{max_rows}
use Rattle.search_numbering.proofs.FillSteps.{zeros_at, number_behind, notes_fill}
use Rattle.search_numbering.proofs.fill_at.Goals as goal

pub group-requires : goal.group-requires
group-requires c = let p = c.requires in record {
  count_le_max_rows = omega arith;
  by_index = zeros_at max_rows;
}

pub number_copies-next-requires : goal.number_copies-next-requires
number_copies-next-requires c =
    let p = c.requires in record {
      place_len_bound = omega (arith, c.group.auto.first);
      by_index = zeros_at max_rows;
    }

pub returns : goal.returns
returns c =
    let a = c.args in
    let grouped = c.group in
    let numbered = c.number_copies-next in
    let behind = number_behind a.preferences.now a.place.now a.differences.now a.k a.number grouped.new.first
    numbered.new.notes numbered.result grouped.ensures numbered.ensures in
    let fill = notes_fill a.preferences.now a.place.now a.differences.now a.k a.number grouped.new.first
    numbered.new.notes
    numbered.result grouped.ensures numbered.ensures in record {
      value = behind;
      work_after = fill a.work.now c.write.new.work c.write.ensures;
    }
