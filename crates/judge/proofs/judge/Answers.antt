-- `judge::judge` meets its contract, in each case of what the search returned. Assumes nothing.
use Prim.Native.Nat.{ℕ}
use Rattle.std.specs.Prelude.{Result, Ok, Err}
use Rattle.cause.specs.declared.Cause.{Cause}
use mathlib.Core.Path.{◌≡◌, refl, sym, ap, ◌∙◌, subst}
use borrow.Author.Rules.{rules}
use lib.ListN.{length, replicate}
use Rattle.engine.specs.declared.search.Search.TheVariants as Search
use Rattle.judge.specs.declared.Judgement.{Judgement}
use Rattle.judge.specs.Judge.{Judged}
use Rattle.judge.proofs.Contract.{promised_if_found, promised_unless_found}
use Rattle.judge.proofs.judge.Goals as goal

pub returns-in-Found : goal.returns-in-Found
returns-in-Found c =
    let first_model_call = c.first_model in
    let counted_call = c.counted-lent in
    let given = c.args in
    let kept : length first_model_call.new.work ≡ length given.work.now =
    first_model_call.auto.work in
    promised_if_found given.kinds.now given.literals.now given.claim given.rows.now given.count given.work.now
    counted_call.result counted_call.ensures
    (Ok Search.Found) (c.in_ok-first_model.was ∙ ap Ok c.in-Found.is)
    first_model_call.ensures.returned refl
    c.clear.new.area (c.clear.ensures ∙ ap (λ (n : ℕ). replicate n 0) kept)

pub returns-in-NoModel : goal.returns-in-NoModel
returns-in-NoModel c =
    let first_model_call = c.first_model in
    let counted_call = c.counted-lent in
    let given = c.args in
    promised_unless_found given.kinds.now given.literals.now given.claim given.rows.now given.count given.work.now
    counted_call.result counted_call.ensures
    (Ok Search.NoModel) (c.in_ok-first_model.was ∙ ap Ok c.in-NoModel.is) first_model_call.ensures.returned refl
    first_model_call.new.work first_model_call.ensures.area

pub returns-in_err-first_model : goal.returns-in_err-first_model
returns-in_err-first_model c =
    let first_model_call = c.first_model in
    let counted_call = c.counted-lent in
    let given = c.args in
    let same : c.from_residual.result ≡ Err c.in_err-first_model.field-0.0 = search rules in
    subst
    (λ (r : Result Judgement Cause).
    Judged given.kinds.now given.literals.now given.claim given.rows.now given.count given.work.now r first_model_call.new.work)
    (sym same)
    (promised_unless_found given.kinds.now given.literals.now given.claim given.rows.now given.count given.work.now
    counted_call.result counted_call.ensures
    (Err c.in_err-first_model.field-0.0) c.in_err-first_model.was first_model_call.ensures.returned refl
    first_model_call.new.work first_model_call.ensures.area)
