-- What private functions promise; the contract of `close` rests on none of it. Assumes nothing.
use Rattle.std.specs.Prelude.{ℕ, ◌≤◌, ◌≡◌, List, ℤ, length, get_or, take}
use Rattle.named.specs.Named.{max_variables, max_places, position}
use Rattle.named.specs.Names.{UpTo}
use Rattle.named.specs.Closing.{closed_kinds, closed_literals}
use Rattle.text_closing.specs.Written.{free_in, placed_in, over}

-- The table has the position of each of the names.
pub record Indexed (names P : List ℕ) : Type 0 where
  pub size : length P ≡ max_places
  pub small : UpTo max_variables names
  pub right : (v : ℕ) → v ≤ max_variables → get_or P v 0 ≡ position v names

-- The tables are written.
pub record ClosedOver (bound free m : ℕ) (OK : List ℕ) (OL : List ℤ) (ON K : List ℕ) (L : List ℤ) (N K' : List ℕ) (L' : List ℤ) (N' : List ℕ) : Type 0 where
  pub kinds : K' ≡ over (closed_kinds (free_in bound free ON) (take bound OK)) K
  pub literals : L' ≡ over (closed_literals (free_in bound free ON) (take bound ON) (take m OL)) L
  pub names : N' ≡ over (placed_in bound free ON) N
