-- `fill_word` meets its contract. Assumes nothing.
use Rattle.engine.proofs.search.RowLaws.{visiting_more}
use mathlib.Core.Path.{ap}
use Prim.Native.Nat.{ℕ, ◌%◌}
use Rattle.engine.proofs.search.term_table.fill_word.Goals as goal

pub loop-j-preserved : goal.loop-j-preserved
loop-j-preserved c =
    let t = c.from-in-loop-j in
    let start = c.from-in-loop-j-2 in
    visiting_more c.loop-j.invariant (t.result % 64) start.result c.remaining.result
    (ap (λ (x : ℕ). x % 64) t.ensures) start.ensures c.remaining.ensures c.unite.ensures
