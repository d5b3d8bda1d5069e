-- `study::is_unknown` meets its contract. Assumes nothing.
use mathlib.Core.Path.{sym, ap}
use mathlib.Core.Bool.{Bool, ◌||◌}
use lib.Dec.{ltb}
use borrow.Author.Tests.{lt-ltb, le-ltb}
use Rattle.study.specs.Study.{house, unknown}
use Rattle.study.proofs.is_unknown.Goals as goal

pub returns-then-setting-gt1 : goal.returns-then-setting-gt1
unfolding unknown
returns-then-setting-gt1 c = let s = c.args.setting in sym (ap (λ (b : Bool). b || ltb house s.preference) (lt-ltb 1 s.trim c.if-setting-gt1.true))

pub returns : goal.returns
unfolding unknown
returns c = let s = c.args.setting in sym (ap (λ (b : Bool). b || ltb house s.preference) (le-ltb 1 s.trim c.if-setting-gt1.false))
