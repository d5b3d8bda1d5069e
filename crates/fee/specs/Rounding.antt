-- The one place where cents are rounded (02, C-23). Assumes nothing.
use Rattle.std.specs.Prelude.{ℕ, ◌+◌, ◌/◌, ◌%◌, cond, ltb}

-- Thousandths of a cent as cents, the nearest: 'an exact half goes to the even cent', the even one of the two on either side.
unfoldable pub nearest_even : ℕ → ℕ
nearest_even x = cond (ltb (x % 1000) 500) (x / 1000) (cond (ltb 500 (x % 1000)) (x / 1000 + 1) (x / 1000 + x / 1000 % 2))
