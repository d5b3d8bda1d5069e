-- A table of entries after a gate's clauses were put into it from a place on. Assumes nothing.
use Rattle.std.specs.Prelude.{ℕ, ◌+◌, Bool, cond, List, [], ◌∷◌, ◌++◌, leb, ℤ, length, take, drop}
use Rattle.formula.specs.Causes.{any, beyond}
use Rattle.gates.specs.declared.Function.{Function}
use Rattle.gates.specs.Clauses.{gate_clauses, flat}

-- The entries of a gate's clauses. The lowest 32-bit number has no opposite: a gate that has it as a literal makes none.
unfoldable pub entries_of : Function → ℤ → List ℤ → List ℤ
entries_of function z inputs = cond (any (beyond 2147483647) (z ∷ inputs)) [] (flat (gate_clauses function z inputs))

-- They stand wholly inside the table.
abbrev pub fits : ℕ → ℕ → List ℤ → Bool
fits room at zs = leb (at + length zs) room

-- The entries from `at` on, those around them as found; as found whole if they do not fit.
unfoldable pub laid : List ℤ → ℕ → List ℤ → List ℤ
laid table at zs = cond (fits (length table) at zs) (take at table ++ zs ++ drop (at + length zs) table) table

-- The place behind them, or `at` if they do not fit.
unfoldable pub place_behind : ℕ → ℕ → List ℤ → ℕ
place_behind room at zs = cond (fits room at zs) (at + length zs) at
