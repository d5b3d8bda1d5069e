-- `season::print` meets its contract: the tests stand in the order of the causes. Assumes nothing.
use mathlib.Core.Path.{◌≡◌, sym, ap, ◌∙◌}
use native.Mathlib.Omega.{arith}
use lib.ListN.{take}
use Rattle.lines.specs.Lines.{lines}
use Rattle.season.specs.Season.{summary}
use Rattle.season.specs.Text.{records}
use Rattle.season.proofs.Printing.{printed_long, printed_other, printed_many, printed_page}
use Rattle.season.proofs.RecordLaws.{all_checked}
use Rattle.season.proofs.SeasonRight.{season_right}
use Rattle.season.proofs.print.Goals as goal

pub returns-then-text-gt-BYTES-clause-value : goal.returns-then-text-gt-BYTES-clause-value
returns-then-text-gt-BYTES-clause-value c = rw (printed_long c.args.text.now c.if-text-gt-BYTES.true, ← c.number.ensures) c.refusal.ensures.value

pub returns-then-text-gt-BYTES-clause-out_after : goal.returns-then-text-gt-BYTES-clause-out_after
returns-then-text-gt-BYTES-clause-out_after c =
    rw (printed_long c.args.text.now c.if-text-gt-BYTES.true, ← c.number.ensures) c.refusal.ensures.out_after

pub returns-then-text-gt-BYTES-clause-proved : goal.returns-then-text-gt-BYTES-clause-proved
returns-then-text-gt-BYTES-clause-proved c = season_right c.args.text.now

pub returns-in-Err-clause-value : goal.returns-in-Err-clause-value
returns-in-Err-clause-value c =
    let other = printed_other c.args.text.now c.if-text-gt-BYTES.false (sym c.check.ensures ∙ c.in-Err.is) in
    rw (other, ← c.number-in-Err.ensures) c.refusal-in-Err.ensures.value

pub returns-in-Err-clause-out_after : goal.returns-in-Err-clause-out_after
returns-in-Err-clause-out_after c =
    let other = printed_other c.args.text.now c.if-text-gt-BYTES.false (sym c.check.ensures ∙ c.in-Err.is) in
    rw (other, ← c.number-in-Err.ensures) c.refusal-in-Err.ensures.out_after

pub returns-in-Err-clause-proved : goal.returns-in-Err-clause-proved
returns-in-Err-clause-proved c = season_right c.args.text.now

pub returns-then-count-gt-STUDIES-clause-value : goal.returns-then-count-gt-STUDIES-clause-value
returns-then-count-gt-STUDIES-clause-value c =
    let many = printed_many c.args.text.now c.if-text-gt-BYTES.false (sym c.check.ensures ∙ c.in-Ok.is) c.if-count-gt-STUDIES.true in
    rw (many, ← c.number-then-count-gt-STUDIES.ensures) c.refusal-then-count-gt-STUDIES.ensures.value

pub returns-then-count-gt-STUDIES-clause-out_after : goal.returns-then-count-gt-STUDIES-clause-out_after
returns-then-count-gt-STUDIES-clause-out_after c =
    let many = printed_many c.args.text.now c.if-text-gt-BYTES.false (sym c.check.ensures ∙ c.in-Ok.is) c.if-count-gt-STUDIES.true in
    rw (many, ← c.number-then-count-gt-STUDIES.ensures) c.refusal-then-count-gt-STUDIES.ensures.out_after

pub returns-then-count-gt-STUDIES-clause-proved : goal.returns-then-count-gt-STUDIES-clause-proved
returns-then-count-gt-STUDIES-clause-proved c = season_right c.args.text.now

pub read-requires : goal.read-requires
read-requires c =
    let all = all_checked (lines c.args.text.now) (sym c.check.ensures ∙ c.in-Ok.is) in
    (c.if-text-gt-BYTES.false, all.0, omega (arith, all.1, c.if-count-gt-STUDIES.false))

pub returns-clause-value : goal.returns-clause-value
returns-clause-value c =
    let text = c.args.text.now in
    let passed = sym c.check.ensures ∙ c.in-Ok.is in
    let rows = ap (λ k. take k c.read.result) (sym (all_checked (lines text) passed).1) ∙ c.read.ensures in
    let page : c.over_first-page.result ≡ summary (records (lines text)) = c.over_first-page.ensures ∙ ap summary rows in
    rw (printed_page text c.if-text-gt-BYTES.false passed, ← page) c.show.ensures.value

pub returns-clause-out_after : goal.returns-clause-out_after
returns-clause-out_after c =
    let text = c.args.text.now in
    let passed = sym c.check.ensures ∙ c.in-Ok.is in
    let rows = ap (λ k. take k c.read.result) (sym (all_checked (lines text) passed).1) ∙ c.read.ensures in
    let page : c.over_first-page.result ≡ summary (records (lines text)) = c.over_first-page.ensures ∙ ap summary rows in
    rw (printed_page text c.if-text-gt-BYTES.false passed, ← page) c.show.ensures.out_after

pub returns-clause-proved : goal.returns-clause-proved
returns-clause-proved c = season_right c.args.text.now
