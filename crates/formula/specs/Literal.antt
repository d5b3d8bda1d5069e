-- A literal as the code reads it at an index of the entries: the name of its unknown and its sign.
-- Assumes nothing.
use Rattle.std.specs.Prelude.{ℕ, Bool, true, false, List, ℤ, pos, negsuc, nat_abs, get_or}

-- 'v or -v': the name v, and 0 for the end of a clause; 0 also past the last entry.
abbrev pub magnitude_at : List ℤ → ℕ → ℕ
magnitude_at literals i = nat_abs (get_or literals i (pos 0))

abbrev pub negative : ℤ → Bool
negative (pos v) = false
negative (negsuc v) = true

-- Whether it is -v; no entry past the last one is.
abbrev pub negative_at : List ℤ → ℕ → Bool
negative_at literals i = negative (get_or literals i (pos 0))
