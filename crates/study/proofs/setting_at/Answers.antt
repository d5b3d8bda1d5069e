-- `study::setting_at` meets its contract. Assumes nothing.
use mathlib.Core.Path.{refl}
use Rattle.study.proofs.SettingLaws.{read_setting}
use Rattle.study.proofs.setting_at.Goals as goal

pub returns : goal.returns
returns c = read_setting c.args.settings.now c.args.at _ refl refl refl refl
