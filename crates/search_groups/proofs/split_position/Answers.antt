-- `search_groups::split_position` meets its contract. Assumes nothing.
use Prim.Native.Nat.{min}
use mathlib.Core.Path.{◌≡◌, sym, ◌∙◌}
use native.Mathlib.Omega.{arith}
use lib.ListN.{get_or}
use Rattle.search_groups.proofs.ScanLaws.{split_position_is, split_position_none, parts_nowhere, parts_there}
use Rattle.search_groups.proofs.split_position.Goals as goal

pub returns-then-differences-mid : goal.returns-then-differences-mid
returns-then-differences-mid c = split_position_none _ _ _ _ (omega arith)

pub returns-then-mid-lo : goal.returns-then-mid-lo
returns-then-mid-lo c =
    let given = c.args in
    sym (split_position_is _ _ _ _ (omega arith) ∙ parts_nowhere given.differences.now given.lo given.mid given.n (omega arith))

pub returns : goal.returns
returns c =
    let given = c.args in
    let least : min (get_or given.differences.now given.mid 0) given.n ≡ c.min.result = omega arith in
    sym (split_position_is _ _ _ _ (omega arith) ∙ parts_there given.differences.now given.lo given.mid given.n (omega arith) ∙ least)
