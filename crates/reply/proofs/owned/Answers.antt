-- `reply::owned` meets its contract. Assumes nothing.
use mathlib.Core.Path.{◌≡◌, ◌∙◌}
use borrow.Author.Rules.{rules}
use Rattle.std.specs.List.{count_by}
use Rattle.std.proofs.iter.runs.Made.{chains}
use Rattle.formula.specs.Formula.{kind_of}
use Rattle.judge.specs.Judge.{claims_true}
use Rattle.case_rules.specs.Casebook.{offered}
use Rattle.reply.proofs.FitLaws.{owned_counted}
use Rattle.reply.proofs.owned.Goals as goal

pub returns-clause-value : goal.returns-clause-value
returns-clause-value c =
    let claim = claims_true c.args.claim in
    let counted : c.count.result ≡ count_by (λ k. offered claim (kind_of k)) c.args.kinds.now = search (rules, chains) in
    counted ∙ owned_counted claim c.args.kinds.now
