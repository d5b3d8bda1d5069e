-- `season::records::read` meets its contract: row i is the record of line i. Assumes nothing.
use mathlib.Core.Path.{sym, ◌∙◌}
use native.Mathlib.Omega.{arith}
use Rattle.season.proofs.RecordLaws.{found_within, line_good, line_good_read, row_free, row_filled, all_filled}
use Rattle.season.proofs.records.read.Goals as goal

pub slice_bounds-read_line-end : goal.slice_bounds-read_line-end
slice_bounds-read_line-end c = omega (arith, found_within 10 c.args.text.now c.loop-at.at (omega arith))

pub bounds-rows-i : goal.bounds-rows-i
bounds-rows-i c = omega (
  arith,
  row_free c.loop-at.invariant c.loop-at-test.true
      c.find-end.result c.find-end.ensures c.requires.2,
)

pub unwrap-requires : goal.unwrap-requires
unwrap-requires c =
    let good = line_good c.loop-at.invariant c.loop-at-test.true c.find-end.result c.find-end.ensures in
    rw (c.read_line.ensures ∙ line_good_read _ good)

pub loop-at-preserved : goal.loop-at-preserved
loop-at-preserved c =
    let find_call = c.find-end in
    let loop_test = c.loop-at-test in
    let loop = c.loop-at in
    let good = line_good loop.invariant loop_test.true find_call.result find_call.ensures in
    row_filled loop.invariant loop_test.true find_call.result find_call.ensures c.requires.2 _
    (let read = sym c.unwrap.ensures ∙ c.read_line.ensures ∙ line_good_read _ good in cc)

pub returns : goal.returns
returns c = all_filled c.loop-at.invariant c.loop-at-test.false
