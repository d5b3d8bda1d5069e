-- What closing keeps: the formula by position, its free names in front, is true exactly if some values of the free names make the formula by
-- name true. Assumes nothing.
use Rattle.std.specs.Prelude.{ℕ, ◌≡◌, true, List, ℤ}
use Rattle.formula.specs.Meaning.{verdict}
use Rattle.named.specs.Named.{Values}
use Rattle.named.specs.Closing.{closed_kinds, closed_literals, open_verdict}

pub record ClosingRight (free kinds names : List ℕ) (entries : List ℤ) : Type 0 where
  pub only_if : verdict (closed_kinds free kinds) (closed_literals free names entries) ≡ true → (h : Values) × (open_verdict kinds names entries h ≡ true)
  pub for_some : (h : Values) → open_verdict kinds names entries h ≡ true → verdict (closed_kinds free kinds) (closed_literals free names entries) ≡ true
