-- `within` meets its contract. The invariant: what holds of the rest gives the whole clause. Assumes nothing.
use Rattle.engine.specs.Private.Terms.{own, OwnWithin}
use Rattle.expansion.proofs.ClauseCuts.{Some, Every}
use Rattle.codes.specs.Private.Clauses.{clause_of}
use lib.ListN.{drop}
use mathlib.Core.Bool.{true}
use mathlib.Core.Path.{◌≡◌}
use Prim.Native.Nat.{ℕ}
use Rattle.engine.proofs.search.term_table.within.Given as goal

abbrev pub invariant-loop-e : goal.invariant-loop-e
invariant-loop-e l = Every (λ (x : ℕ). own l.kinds x ≡ true → Some (λ (d : ℕ). d ≡ x) (clause_of (drop l.b l.codes))) (clause_of (drop l.e l.codes)) →
    OwnWithin l.kinds l.codes l.a l.b
