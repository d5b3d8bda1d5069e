-- The table that `trim` works in: the codes of the lent literals at their places, with 512 added to what is dropped (Marks). What of it is
-- left, that it is laid out clause by clause, and what a pass over it does. Cited by contracts of private functions alone.
-- Assumes nothing.
use Rattle.std.specs.Prelude.{ℕ, zero, suc, ◌+◌, ◌*◌, ◌-◌, ◌/◌, ◌%◌, ◌≤◌, ◌<◌, ◌≡◌, ◌≢◌, ◌⊎◌, Bool, true, false, cond, ◌&&◌, List, [], ◌∷◌, ◌++◌, map, eqb, leb, ltb, ℤ, pos, negsuc, length, get_or, set, take, drop}
use Rattle.std.proofs.Math.Option.{Option, none, some}
use Rattle.formula.specs.Formula.{max_unknowns, max_entries, Kind, prefix, Clause, clauses}
use Rattle.codes.specs.Codes.{last_code}
use Rattle.trimming_rules.specs.Trimming.{keep, first_of, without_literal, set_true, rule_3, found, rule_4}
use Rattle.trimming_rules.specs.Private.Rounds.{reduced}
use Rattle.formula.specs.Lists.{Every, In}
use Rattle.trimming_marks.specs.Marks.{is_left, mark_clause, always_true, unit}
use Rattle.index.specs.Occurrences.{listed, Names}
use Rattle.index.specs.Index.{code_count, index_of, begin_of, end_of}

-- The literal of a code; of 0 it is the 0 that ends a clause.
unfoldable pub literal_of : ℕ → ℤ
literal_of c = cond (eqb (c % 2) 0) (pos (c / 2)) (negsuc (c / 2 - 1))

-- The literals that are left, and their clauses.
abbrev pub left : List ℕ → List ℤ
left table = map literal_of (keep is_left table)

unfoldable pub clauses_left : List ℕ → List Clause
clauses_left table = clauses (left table)

-- The codes, dropped or not.
abbrev pub codes : List ℕ → List ℕ
codes table = map (λ x. x % 512) table

-- ---- clause by clause

-- An entry other than a clause's end.
pub record Entry (x : ℕ) : Type 0 where
  pub literal : 2 ≤ x % 512
  pub known : x % 512 < last_code + 1
  pub once : x < 1024

-- A clause that stands, some of its entries dropped; one that is dropped whole.
pub data Block : Type 0 where
  standing : List ℕ → Block
  gone : List ℕ → Block

abbrev pub inner : Block → List ℕ
inner (standing c) = c
inner (gone c) = c

-- With its end.
abbrev pub whole : Block → List ℕ
whole (standing c) = c ++ (0 ∷ [])
whole (gone c) = c ++ (512 ∷ [])

abbrev pub Fine : Block → Type 0
Fine (standing c) = Every Entry c
Fine (gone c) = Every (λ x. Entry x × (512 ≤ x)) c

abbrev pub laid : List Block → List ℕ
laid [] = []
laid (b ∷ bs) = whole b ++ laid bs

-- The clauses that are left of it: one or none.
abbrev pub shown : Block → List Clause
shown (standing c) = map literal_of (keep is_left c) ∷ []
shown (gone c) = []

abbrev pub all_shown : List Block → List Clause
all_shown [] = []
all_shown (b ∷ bs) = shown b ++ all_shown bs

-- The table is laid out clause by clause.
pub record Laid (table : List ℕ) : Type 0 where
  pub blocks : List Block
  pub is : table ≡ laid blocks
  pub fine : Every Fine blocks

-- The clauses before a place, and those from it on.
pub record At (table : List ℕ) (s : ℕ) : Type 0 where
  pub done : List Block
  pub todo : List Block
  pub is : table ≡ laid done ++ laid todo
  pub here : s ≡ length (laid done)
  pub fine_done : Every Fine done
  pub fine_todo : Every Fine todo

-- ---- passes

-- A pass makes a change of the clauses that are left; no code but the marks is changed.
pub record Passed (change : List Clause → List Clause) (before after : List ℕ) : Type 0 where
  pub laid_out : Laid after
  pub sized : length after ≡ length before
  pub same_codes : codes after ≡ codes before
  pub changed : clauses_left after ≡ change (clauses_left before)

-- ---- the index

-- The index is the one that is made afresh of what is left.
abbrev pub Indexed : List ℕ → List ℕ → Type 0
Indexed table index = index ≡ index_of table

-- A clause that is left begins at `start`, in a table with its index.
pub record Here (table index : List ℕ) (start : ℕ) : Type 0 where
  pub laid_out : Laid table
  pub few : length table ≤ max_entries
  pub indexed : Indexed table index
  pub stands : Names table 1 start

-- The table with the entries from `low` to `high` of the clause that begins at `start` dropped.
abbrev pub marked_at : ℕ → ℕ → ℕ → List ℕ → List ℕ
marked_at low high start table = take start table ++ mark_clause low high (drop start table)

-- An entry that is left, and from `low` on.
abbrev pub left_from : ℕ → ℕ → Bool
left_from low x = leb low x && is_left x

-- How often a code stands in a clause.
abbrev pub times : ℕ → List ℕ → ℕ
times y [] = 0
times y (x ∷ c) = cond (eqb y x) 1 0 + times y c

-- While the entries from `low` on of a clause are dropped one by one: those before the place `at` are looked at, and of those from `at` on
-- it is known how often each code stands there.
pub record Dropping (low start : ℕ) (table index counts : List ℕ) (at : ℕ) : Type 0 where
  pub xs : List Block
  pub ys : List Block
  pub pre : List ℕ
  pub post : List ℕ
  pub is : table ≡ laid xs ++ (((pre ++ post) ++ (0 ∷ [])) ++ laid ys)
  pub here : start ≡ length (laid xs)
  pub place : at ≡ start + length pre
  pub fine_xs : Every Fine xs
  pub fine_ys : Every Fine ys
  pub fine_pre : Every Entry pre
  pub fine_post : Every Entry post
  pub below : Every (λ y. (y < 512 → y < low)) pre
  pub few : length table ≤ max_entries
  pub indexed : Indexed table index
  pub sized : length counts ≡ last_code + 1
  pub counted : (y : ℕ) → low ≤ y → y < last_code + 1 → get_or counts y 0 ≡ times y post

-- A property of all clauses but those that are named; the first block stands at place o.
abbrev pub AllBut : (ℕ → Block → Type 0) → List ℕ → ℕ → List Block → Type 0
AllBut P names o [] = Unit {0}
AllBut P names o (b ∷ bs) = (In o names ⊎ P o b) × AllBut P names (o + length (whole b)) bs

pub record Except (P : ℕ → Block → Type 0) (names table : List ℕ) : Type 0 where
  pub blocks : List Block
  pub is : table ≡ laid blocks
  pub fine : Every Fine blocks
  pub all : AllBut P names 0 blocks

-- Rule 2 has nothing to drop of a clause.
abbrev pub Irreducible : List ℕ → ℕ → Block → Type 0
Irreducible kinds o b = reduced (prefix kinds) (shown b) ≡ shown b

-- ---- clauses of one entry

-- A property of some clause; the first block stands at place o.
abbrev pub SomeAt : (ℕ → Block → Type 0) → ℕ → List Block → Type 0
SomeAt P o [] = ⊥
SomeAt P o (b ∷ bs) = P o b ⊎ SomeAt P (o + length (whole b)) bs

-- If an existential unknown is the only entry of the clause at place o, its first clause is noted there or before.
abbrev pub UnitKnown : List ℕ → List ℕ → ℕ → Block → Type 0
UnitKnown kinds firsts o b = (unit kinds (inner b) ≡ 0 → ⊥) → get_or firsts (unit kinds (inner b) / 2) 0 ≤ o

-- The clause at place o is the one that is noted of the unknown v, whose only entry it has; and it is none of those named.
pub record FirstUnit (kinds firsts names : List ℕ) (v o : ℕ) (b : Block) : Type 0 where
  pub noted : o ≡ get_or firsts v 0
  pub apart : In o names → ⊥
  pub own : unit kinds (inner b) / 2 ≡ v
  pub some_unit : unit kinds (inner b) ≡ 0 → ⊥

-- The clause at `start` has the only entry x, or x is 0; it is noted if it is the first.
unfoldable pub noted_unit : ℕ → ℕ → List ℕ → List ℕ
noted_unit x start firsts = cond (eqb x 0) firsts (cond (ltb start (get_or firsts (x / 2) 0)) (set firsts (x / 2) start) firsts)

-- Of each existential unknown, the first clause whose only entry it is: exact, but for the clauses that are named and for the unknown `off`. 65,535 is none.
pub record Units (kinds firsts names apart : List ℕ) (off : ℕ) (table : List ℕ) : Type 0 where
  pub blocks : List Block
  pub is : table ≡ laid blocks
  pub fine : Every Fine blocks
  pub complete : AllBut (UnitKnown kinds firsts) names 0 blocks
  pub sound : (v : ℕ) → (v ≡ off → ⊥) → 0 < v → v < max_unknowns + 1 → (get_or firsts v 0 ≡ 65535 → ⊥) → SomeAt (FirstUnit kinds firsts apart v) 0 blocks

-- Named clauses that are left, in a table with its index; all others are irreducible.
pub record Pending (kinds names table index : List ℕ) : Type 0 where
  pub laid_out : Laid table
  pub few : length table ≤ max_entries
  pub indexed : Indexed table index
  pub standing : Every (λ s. In s (listed 1 table)) names
  pub others : Except (Irreducible kinds) names table

-- On the way to a change: it has still to make the same of what is left.
pub record Toward (change : List Clause → List Clause) (before after : List ℕ) : Type 0 where
  pub laid_out : Laid after
  pub sized : length after ≡ length before
  pub same_codes : codes after ≡ codes before
  pub same : change (clauses_left after) ≡ change (clauses_left before)

-- A code's literal is dropped of its clauses, all but the rest.
pub record Cleared (o : ℕ) (before after : List ℕ) (rest : List ℕ) : Type 0 where
  pub toward : Toward (without_literal (literal_of o)) before after
  pub own : listed o after ≡ rest
  pub others : (d : ℕ) → d < code_count → (d ≡ o → ⊥) → listed d after ≡ listed d before
  pub known : (s : ℕ) → In s rest → In s (listed o before)
  pub irreducible : (kinds : List ℕ) → Except (Irreducible kinds) [] before → Except (Irreducible kinds) (listed o before) after
  pub units : (kinds firsts : List ℕ) → Units kinds firsts [] [] (o / 2) before → Units kinds firsts (listed o before) (listed o before) (o / 2) after

-- What is dropped makes a change, and the index is kept; the clauses that are named are left, and all others are as irreducible as before.
pub record Dropped (change : List Clause → List Clause) (off : ℕ) (names before after index : List ℕ) : Type 0 where
  pub passed : Passed change before after
  pub indexed : Indexed after index
  pub standing : Every (λ s. In s (listed 1 after)) names
  pub irreducible : (kinds : List ℕ) → Except (Irreducible kinds) [] before → Except (Irreducible kinds) names after
  pub units : (kinds firsts : List ℕ) → Units kinds firsts [] [] off before → Units kinds firsts names names off after

-- From which code on a clause is dropped by rule 1: all of it, or nothing.
abbrev pub true_from : List ℕ → ℕ
true_from c = cond (always_true c) 0 512

-- A number for a literal, or for none.
abbrev pub literal_or_none : ℕ → Option ℤ
literal_or_none zero = none
literal_or_none (suc c) = some (literal_of (suc c))

-- 0, or a code.
pub record Chosen (c : ℕ) : Type 0 where
  pub small : c < last_code + 1
  pub code : c ≢ 1

-- A code, or 0, picks a literal, or none.
pub record Picked (o : Option ℤ) (c : ℕ) : Type 0 where
  pub chosen : Chosen c
  pub is : literal_or_none c ≡ o

-- A code's list is not empty, by its begin and its end.
abbrev pub lists_some : List ℕ → ℕ → Bool
lists_some index c = ltb (begin_of index c) (end_of index c)

-- The code of the unknown at position k that stands in one sign only, by the two lists.
abbrev pub one_code : Bool → Bool → ℕ → ℕ
one_code true true k = 0
one_code true false k = 2 * k + 2
one_code false true k = 2 * k + 3
one_code false false k = 0

unfoldable pub pure_code : List ℕ → ℕ → ℕ
pure_code index k = one_code (lists_some index (2 * k + 2)) (lists_some index (2 * k + 3)) k

-- The change that makes a code's literal true, if it is one.
abbrev pub made_true : ℕ → List Clause → Option (List Clause)
made_true zero cs = none
made_true (suc c) cs = some (set_true (literal_of (suc c)) cs)

-- The code whose literal is made true in the coming round, or 0 where rules 3 and 4 have no change.
pub record Next (ks : List Kind) (cs : List Clause) (c : ℕ) : Type 0 where
  pub chosen : Chosen c
  pub change : first_of (rule_3 ks cs) (rule_4 ks cs) ≡ made_true c cs

-- The lists that are not empty are those of the codes that the clauses have.
abbrev pub Found : List ℕ → List Clause → Type 0
Found index cs = (c : ℕ) → 2 ≤ c → c < last_code + 1 → lists_some index c ≡ found (literal_of c) cs
