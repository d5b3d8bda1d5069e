-- `case_study::unnamed` meets its contract. The loop's invariant: the entries ahead are to be counted from the nearest name so far. Assumes nothing.
use native.Mathlib.Omega.{arith}
use native.Mathlib.Numerals.{add-one}
use mathlib.Core.Path.{◌≡◌, sym, ap, ◌∙◌}
use borrow.Author.Rules.{rules}
use lib.IntN.{pos, nat_abs}
use lib.ListN.{drop, get_or}
use Rattle.case_study.specs.Private.Path.{nearer as nearer_of, unnamed as unnamed_in}
use Rattle.case_study.proofs.LaidLaws.{nearest_next, nearest_all}
use Rattle.case_study.proofs.unnamed.Goals as goal

pub loop-literal-preserved : goal.loop-literal-preserved
loop-literal-preserved c =
    let same : c.unsigned_abs.result ≡ nat_abs (get_or c.args.literals.now c.loop-literal.literal-index (pos 0)) = search rules in
    c.loop-literal.invariant ∙ nearest_next c.args.literals.now c.loop-literal.literal-index c.loop-literal.nearest c.loop-literal-test.true
    ∙ (λ d. unnamed_in (sym (c.nearer-nearest.ensures ∙ ap (nearer_of c.loop-literal.nearest) same) d)
    (drop (sym (add-one c.loop-literal.literal-index) d) c.args.literals.now))

pub returns : goal.returns
returns c = sym (c.loop-literal.invariant ∙ nearest_all c.args.literals.now c.loop-literal.literal-index c.loop-literal.nearest (omega arith))
