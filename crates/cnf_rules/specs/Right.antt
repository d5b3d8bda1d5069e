-- What the clauses and their text are worth. Assumes nothing.
use Rattle.std.specs.Prelude.{ℕ, zero, suc, ◌<◌, ◌≤◌, ◌≡◌, ◌↔◌, Bool, true, false, List, [], ◌∷◌, ◌++◌, ℤ, pos, negsuc, length}
use Rattle.std.proofs.Math.Option.{some}
use Rattle.formula.specs.Formula.{Kind, Clause, max_unknowns}
use Rattle.formula.specs.Meaning.{matrix, meaning}
use Rattle.expansion.specs.Side.{flags, goal}
use Rattle.expansion.specs.OtherSide.{side_of}
use Rattle.expansion.specs.Play.{Row}
use Rattle.expansion.specs.Copies.{copies}
use Rattle.expansion.specs.Model.{is_model}
use Rattle.expansion.specs.Judge.{accepted}
use Rattle.cnf_rules.specs.Clauses.{expansion, variables, clause_count}
use Rattle.cnf_rules.specs.Text.{head, parts, text}
use Rattle.cnf_rules.specs.Dimacs.{dimacs}

-- A literal of one of m variables: v or -v with v from 1 to m; and clauses of such literals.
abbrev pub Named : ℕ → ℤ → Type 0
Named m (pos zero) = ⊥
Named m (pos (suc v)) = v < m
Named m (negsuc v) = v < m

abbrev pub EachNamed : ℕ → Clause → Type 0
EachNamed m [] = Unit {0}
EachNamed m (z ∷ c) = Named m z × EachNamed m c

abbrev pub AllNamed : ℕ → List Clause → Type 0
AllNamed m [] = Unit {0}
AllNamed m (c ∷ cs) = EachNamed m c × AllNamed m cs

-- Some values of the m variables make every clause true; or none do.
abbrev pub Satisfiable : ℕ → List Clause → Type 0
Satisfiable m cs = (vs : List Bool) × (length vs ≡ m) × (matrix cs vs ≡ true)

abbrev pub Unsatisfiable : ℕ → List Clause → Type 0
Unsatisfiable m cs = (vs : List Bool) → length vs ≡ m → matrix cs vs ≡ false

-- 01's models over rows, of the side that the claim is against.
abbrev pub HasModel : Bool → List Kind → List Clause → List Row → Type 0
HasModel claim ks cs rows =
    (vs : List Bool)
    × (length vs ≡ length (copies (flags (side_of claim) ks) rows))
    × (is_model (flags (side_of claim) ks) (goal (side_of claim) (matrix cs)) rows vs ≡ true)

-- For a claim about a formula of at most 128 unknowns, and any rows.
pub record ExpansionRight (claim : Bool) (ks : List Kind) (cs : List Clause) (rows : List Row) : Type 0 where
  -- The clauses are satisfiable exactly if there is a model over the rows ..
  pub models : Satisfiable (variables claim ks cs rows) (expansion claim ks cs rows) ↔ HasModel claim ks cs rows
  -- .. so the judge accepts exactly what a solver finds unsatisfiable ..
  pub exactly : (accepted claim ks (matrix cs) rows ≡ true) ↔ Unsatisfiable (variables claim ks cs rows) (expansion claim ks cs rows)
  -- .. and the claim is then the verdict.
  pub verdict : Unsatisfiable (variables claim ks cs rows) (expansion claim ks cs rows) → meaning ks (matrix cs) ≡ claim
  -- The clauses are of the variables that are counted.
  pub named : AllNamed (variables claim ks cs rows) (expansion claim ks cs rows)

-- For any claim, kinds, clauses, rows and names.
pub record TextRight (claim : Bool) (ks : List Kind) (cs : List Clause) (rows : List Row) (names : List ℕ) : Type 0 where
  -- The text is its head and the rows' parts, one after the other ..
  pub in_parts : text claim ks cs rows names ≡ head claim ks cs rows names ++ parts claim ks cs rows (length rows)
  -- .. and is read as those variables, that many clauses, and these; at 01's limits the variables are 557,056 at most.
  pub read_back : length ks ≤ max_unknowns → variables claim ks cs rows < 1000000000 → clause_count claim ks cs rows < 1000000000
      → dimacs (text claim ks cs rows names)
      ≡ some (record { variables = variables claim ks cs rows; count = clause_count claim ks cs rows; problem = expansion claim ks cs rows })
