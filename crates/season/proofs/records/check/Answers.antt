-- `season::records::check` meets its contract: the lines before a place are records. Assumes nothing.
use Prim.Native.Nat.{◌+◌, ◌<◌}
use mathlib.Core.Path.{refl, sym, ap, ◌∙◌}
use native.Mathlib.Nat.{add-zero}
use native.Mathlib.Numerals.{add-one}
use native.Mathlib.Omega.{arith}
use mathlib.Core.Bool.{not}
use lib.ListN.{length, drop}
use Rattle.std.specs.Prelude.{◌≡◌}
use Rattle.std.specs.Option.{is_some}
use Rattle.lines.specs.Lines.{lines}
use Rattle.lines.proofs.LineLaws.{lines_none}
use Rattle.season.specs.Text.{other_line}
use Rattle.season.proofs.RecordLaws.{found_within, other_unended, other_here, other_past, length_past, is_read, no_other, some_other}
use Rattle.season.proofs.records.check.Goals as goal

pub returns-then-end-text : goal.returns-then-end-text
returns-then-end-text c =
    let loop = c.loop-at in
    some_other (lines c.args.text.now) loop.count (loop.invariant.2 ∙ other_unended c.args.text.now loop.at c.find-end.result
    c.find-end.ensures (loop.count + 1) c.loop-at-test.true c.if-end-text.true)

pub slice_bounds-read_line-end : goal.slice_bounds-read_line-end
slice_bounds-read_line-end c = omega (
  arith,
  found_within 10 c.args.text.now c.loop-at.at
      (omega arith),
)

pub returns-then-is_none : goal.returns-then-is_none
returns-then-is_none c =
    let find_call = c.find-end in
    let loop = c.loop-at in
    let text = c.args.text.now in
    let ended : find_call.result < length text = omega (arith, found_within 10 text loop.at (omega arith)) in
    let bad = sym (is_read _) ∙ ap is_some (sym c.read_line.ensures) ∙ c.is_none.ensures ∙ ap not c.if-is_none.true in
    some_other (lines text) loop.count (loop.invariant.2 ∙ other_here text loop.at find_call.result find_call.ensures ended (loop.count + 1) bad)

pub loop-at-preserved : goal.loop-at-preserved
loop-at-preserved c =
    let find_call = c.find-end in
    let loop = c.loop-at in
    let text = c.args.text.now in
    let ended : find_call.result < length text = omega (arith, found_within 10 text loop.at (omega arith)) in
    let good = sym (is_read _) ∙ ap is_some (sym c.read_line.ensures) ∙ c.is_none.ensures ∙ ap not c.if-is_none.false in (
      omega arith,
      omega arith,
      loop.invariant.2 ∙ other_past text loop.at find_call.result find_call.ensures ended (loop.count + 1) good ∙ ap
          (λ k. other_line k (lines (drop (find_call.result + 1) text))) (sym (add-one (loop.count + 1))),
      omega (arith, loop.invariant.3, length_past text loop.at find_call.result find_call.ensures ended),
    )

pub returns : goal.returns
returns c =
    let none = lines_none c.args.text.now c.loop-at.at c.loop-at-test.false in
    let counted : length (lines c.args.text.now) ≡ c.loop-at.count = c.loop-at.invariant.3 ∙ rw (none, add-zero) in
    rw (← counted) (no_other (lines c.args.text.now) (c.loop-at.invariant.2 ∙ rw none refl))
