-- `names` meets its contract. The invariant: a code in the rest is one in the clause. Assumes nothing.
use Rattle.expansion.proofs.ClauseCuts.{Some}
use Rattle.codes.specs.Private.Clauses.{clause_of}
use lib.ListN.{drop}
use mathlib.Core.Path.{◌≡◌}
use Prim.Native.Nat.{ℕ}
use Rattle.engine.proofs.search.term_table.names.Given as goal

abbrev pub invariant-loop-e : goal.invariant-loop-e
invariant-loop-e l = Some (λ (d : ℕ). d ≡ l.c) (clause_of (drop l.e l.codes)) → Some (λ (d : ℕ). d ≡ l.c) (clause_of (drop l.start l.codes))
