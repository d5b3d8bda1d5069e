-- `study::first_cause` meets its contract. Assumes nothing.
use Rattle.std.proofs.Common.{rules}
use mathlib.Core.Path.{sym, ap, ◌∙◌}
use mathlib.Core.Bool.{Bool, cond}
use borrow.Author.Tests.{eq-eqb, ne_eqb}
use Rattle.std.specs.Prelude.{Err}
use Rattle.study.specs.Study.{list_cause}
use Rattle.study.specs.Private.Turns.{numbered}
use Rattle.study.proofs.CauseLaws.{list_known}
use Rattle.study.proofs.TurnLaws.{numbered_so}
use Rattle.study.proofs.first_cause.Goals as goal

pub returns-then-of_run-number : goal.returns-then-of_run-number
returns-then-of_run-number c =
    let n = c.args.of_run in
    sym (ap (λ (b : Bool). cond b (numbered (list_cause c.args.settings.now)) (Err n))
    (ne_eqb n 6 (λ same. c.if-of_run-number.true (same ∙ sym c.number.ensures))))

pub returns : goal.returns
returns c =
    let n = c.args.of_run in
    numbered_so (list_cause c.args.settings.now) (list_known c.args.settings.now) _ _ _ (λ e m told. search rules) c.list_cause.ensures c.map_err.ensures.cases
    ∙ sym (ap (λ (b : Bool). cond b (numbered (list_cause c.args.settings.now)) (Err n)) (eq-eqb n 6 (c.if-of_run-number.false ∙ c.number.ensures)))
