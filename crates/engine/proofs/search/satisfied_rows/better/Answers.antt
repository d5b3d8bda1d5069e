-- `better` meets its contract. Assumes nothing.
use Prim.Native.Nat.{ℕ}
use mathlib.Core.Path.{refl, sym, ap, ◌∙◌, subst}
use mathlib.Core.Logic.{inl, inr, ⊎_elim}
use Rattle.engine.specs.declared.search.satisfied_rows.Truth.TheVariants.{At}
use Rattle.engine.specs.Private.Satisfied.{IsGiven}
use Rattle.engine.proofs.search.satisfied_rows.better.Goals as goal

pub returns-then-is_given : goal.returns-then-is_given
returns-then-is_given c = inr (
  sym c.satisfied.ensures ∙ c.if-satisfied.true,
  inl (
    refl,
    subst (λ (p : ℕ). IsGiven c.args.kinds.now p) c.position-p.ensures.0
        (c.is_given.ensures c.if-is_given.true),
  ),
)

pub returns-in-At : goal.returns-in-At
returns-in-At c = ⊎_elim
    (λ e. inr (sym c.satisfied.ensures ∙ c.if-satisfied.true, inr (ap (λ (p : ℕ). At p) (e ∙ c.position-p.ensures.0))))
    (λ e. inl (ap (λ (p : ℕ). At p) e ∙ sym c.in-At.is)) c.earlier.ensures

pub returns-in_default-best : goal.returns-in_default-best
returns-in_default-best c = inr (sym c.satisfied.ensures ∙ c.if-satisfied.true, inr (ap (λ (p : ℕ). At p) c.position-p.ensures.0))
