-- `study::runs_at_once` meets its contract. Assumes nothing.
use Rattle.std.proofs.Common.{rules}
use mathlib.Core.Path.{refl, sym, ◌∙◌}
use Rattle.study.specs.Study.{settings_of, trims}
use Rattle.study.proofs.SettingLaws.{any_told}
use Rattle.study.proofs.TurnLaws.{list_refused, at_once_by}
use Rattle.study.proofs.runs_at_once.Goals as goal

pub returns-then-is_err : goal.returns-then-is_err
returns-then-is_err c = sym (at_once_by c.args.settings.now (list_refused _ _ _ c.list_cause.ensures (sym c.is_err.ensures.value ∙ c.if-is_err.true)) refl)

pub returns : goal.returns
returns c =
    let l = c.args.settings.now in
    sym (at_once_by l (list_refused _ _ _ c.list_cause.ensures (sym c.is_err.ensures.value ∙ c.if-is_err.false))
    (any_told _ trims (λ s b told. search rules) (settings_of l) c.any_setting.result c.any_setting.ensures))
