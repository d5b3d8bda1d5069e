-- Trimming in rounds, as the code makes it: always-true clauses are dropped once, since no change makes one; in each round every clause is reduced, and
-- then one unknown is set. For contracts of private functions; no public contract cites it.
-- Assumes nothing.
use Rattle.std.specs.Prelude.{ℕ, zero, suc, not, List, map}
use Rattle.formula.specs.Formula.{Kind, Clause}
use Rattle.trimming_rules.specs.Trimming.{keep, first_of, always_true, reducible, rule_3, rule_4, from_step}

abbrev pub untrue : List Clause → List Clause
untrue cs = keep (λ c. not (always_true c)) cs

abbrev pub reduced_clause : List Kind → Clause → Clause
reduced_clause ks c = keep (λ z. not (reducible ks c z)) c

abbrev pub reduced : List Kind → List Clause → List Clause
reduced ks cs = map (reduced_clause ks) cs

abbrev pub set_one : (List Clause → List Clause) → List Kind → List Clause → List Clause
set_one go ks cs = from_step (first_of (rule_3 ks cs) (rule_4 ks cs)) go cs

abbrev pub rounds : ℕ → List Kind → List Clause → List Clause
rounds zero ks cs = cs
rounds (suc m) ks cs = set_one (rounds m ks) ks (reduced ks cs)
