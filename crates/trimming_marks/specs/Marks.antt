-- A table of codes with marks, as trimming keeps it: at each literal's place its code (0 ends a clause, 2v stands for v and 2v + 1 for -v),
-- with 512 added once it is dropped. A clause is named by the place of its first entry; it goes up to the first entry that is an end,
-- dropped or not.
-- Assumes nothing.
use Rattle.std.specs.Prelude.{ℕ, suc, ◌+◌, ◌*◌, ◌/◌, ◌%◌, Bool, not, cond, ◌&&◌, List, [], ◌∷◌, eqb, leb, ltb, get_or, set}
use Rattle.formula.specs.Causes.{any}
use Rattle.codes.specs.Codes.{last_code, opposite, has}

-- An entry that is not dropped.
abbrev pub is_left : ℕ → Bool
is_left x = ltb x 512

abbrev pub ends : ℕ → Bool
ends x = eqb (x % 512) 0

-- The entries of the clause that begins here, without its end ..
abbrev pub first_clause : List ℕ → List ℕ
first_clause [] = []
first_clause (x ∷ xs) = let rest = first_clause xs in cond (ends x) [] (x ∷ rest)

-- .. and their number, with it.
abbrev pub first_length : List ℕ → ℕ
first_length [] = 0
first_length (x ∷ xs) = let rest = first_length xs in cond (ends x) 1 (suc rest)

-- The code of an unknown of which the kinds say that it is universal.
unfoldable pub is_universal : List ℕ → ℕ → Bool
is_universal kinds x = not (eqb (get_or (0 ∷ kinds) (x / 2) 0) 0)

-- ---- what is dropped

-- The entries from `low` to `high` are dropped.
unfoldable pub marked : ℕ → ℕ → ℕ → ℕ
marked low high x = cond (leb low x && (leb x high && is_left x)) (x + 512) x

abbrev pub mark_clause : ℕ → ℕ → List ℕ → List ℕ
mark_clause low high [] = []
mark_clause low high (x ∷ xs) = let rest = mark_clause low high xs in marked low high x ∷ cond (ends x) xs rest

-- ---- what is read of a clause

-- A code that is left, and its opposite in the same clause.
abbrev pub clashes : List ℕ → ℕ → Bool
clashes clause x = ltb x (last_code + 1) && has (opposite x) clause

abbrev pub always_true : List ℕ → Bool
always_true clause = any (clashes clause) clause

-- The lowest code whose unknown stands behind every existential one that is left in the clause; what is found so far is `low`.
unfoldable pub raised : List ℕ → ℕ → ℕ → ℕ
raised kinds low x = cond (is_left x && (leb low x && not (is_universal kinds x))) (x / 2 * 2 + 2) low

abbrev pub reducible_from : List ℕ → ℕ → List ℕ → ℕ
reducible_from kinds low [] = low
reducible_from kinds low (x ∷ xs) = reducible_from kinds (raised kinds low x) xs

-- The only entry that is left, or 0; `found` stands before.
abbrev pub only : ℕ → List ℕ → ℕ
only found [] = found
only found (x ∷ xs) = let more = only x xs in let same = only found xs in cond (is_left x) (cond (eqb found 0) more 0) same

-- The only entry that is left, if its unknown is existential, or 0.
unfoldable pub unit : List ℕ → List ℕ → ℕ
unit kinds clause = cond (is_universal kinds (only 0 clause)) 0 (only 0 clause)

-- A table with a 1 at each code that is left.
unfoldable pub noted_one : List ℕ → ℕ → List ℕ
noted_one seen x = cond (ltb x (last_code + 1)) (set seen x 1) seen

abbrev pub noted : List ℕ → List ℕ → List ℕ
noted seen [] = seen
noted seen (x ∷ xs) = noted (noted_one seen x) xs

-- A code that is left, and a 1 at its opposite.
unfoldable pub noted_clash : List ℕ → ℕ → Bool
noted_clash seen x = ltb x (last_code + 1) && eqb (get_or seen (opposite x) 0) 1
