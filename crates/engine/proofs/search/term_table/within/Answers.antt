-- `within` meets its contract. Assumes nothing.
use Rattle.engine.proofs.search.ClauseLaws.{every_later}
use Rattle.engine.specs.Private.Terms.{own}
use Rattle.expansion.proofs.ClauseCuts.{Some}
use Rattle.codes.specs.Private.Clauses.{clause_of}
use lib.ListN.{drop}
use mathlib.Core.Bool.{true}
use Rattle.expansion.proofs.Booleans.{never_both}
use mathlib.Core.Path.{◌≡◌, refl, sym, ◌∙◌}
use native.Mathlib.Omega.{arith}
use Prim.Native.Nat.{ℕ}
use Rattle.engine.proofs.search.term_table.within.Goals as goal
use Rattle.engine.proofs.search.term_table.within.Goals.{else-is_own-via-then-is_own+else-not-names, else-is_own-via-else-is_own}

pub loop-e-preserved : goal.loop-e-preserved
loop-e-preserved c =
    every_later c.args.codes.now c.loop-e.e c.from-c.result (omega arith) c.from-c.ensures
    (λ (x : ℕ). own c.args.kinds.now x ≡ true → Some (λ (d : ℕ). d ≡ x) (clause_of (drop c.args.b c.args.codes.now))) (λ z. omega arith) c.loop-e.invariant
    (elim c.else-is_own.branch [
      | else-is_own-via-then-is_own+else-not-names w ↦ λ _. w.if-not-names.ensures refl
      | else-is_own-via-else-is_own w ↦ λ o. absurd (never_both o (sym c.is_own.ensures ∙ w.if-is_own.false))
    ])
