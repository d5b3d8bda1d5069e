-- `earlier_own` meets its contract. Assumes nothing.
use Prim.Native.Nat.{ℕ}
use mathlib.Core.Path.{sym, ap, ◌∙◌, subst}
use mathlib.Core.Logic.{inl, inr, ⊎_elim}
use Rattle.std.proofs.Common.{Some}
use Rattle.engine.specs.Private.Satisfied.{IsOwn}
use Rattle.engine.proofs.search.TermLaws.{own_is}
use Rattle.engine.proofs.search.satisfied_rows.earlier_own.Goals as goal

pub returns-in-Some : goal.returns-in-Some
returns-in-Some c =
    let given = c.args in
    ⊎_elim (λ e. inr (
      ap (λ (p : ℕ). Some p) (e ∙ c.position-p.ensures.0),
      own_is given.kinds.now given.c
          (subst (λ (p : ℕ). IsOwn given.kinds.now p) c.position-p.ensures.0
          (c.is_own.ensures c.if-is_own.true)),
      sym c.satisfied.ensures ∙ c.if-satisfied.true,
    )) (λ e. inl (ap (λ (p : ℕ). Some p) e ∙ sym c.in-Some.is)) c.earlier.ensures

pub returns-in-None : goal.returns-in-None
returns-in-None c =
    let given = c.args in
    inr (
      ap (λ (p : ℕ). Some p) c.position-p.ensures.0,
      own_is given.kinds.now given.c
          (subst (λ (p : ℕ). IsOwn given.kinds.now p) c.position-p.ensures.0
          (c.is_own.ensures c.if-is_own.true)),
      sym c.satisfied.ensures ∙ c.if-satisfied.true,
    )
