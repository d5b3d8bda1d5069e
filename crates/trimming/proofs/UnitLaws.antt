-- The only entry of a clause, and the lower of two.
-- Assumes nothing.
use Prim.Native.Nat.{ℕ, zero, suc, ◌+◌, ◌≤◌, ◌<◌}
use native.Mathlib.Omega.{arith}
use mathlib.Core.Path.{◌≡◌, refl, sym, ◌∙◌, ap}
use mathlib.Core.Logic.{◌≢◌}
use mathlib.Core.Bool.{Bool, true, false, cond}
use mathlib.Core.List.{List, [], ◌∷◌, ◌++◌, map}
use mathlib.Core.Option.{Option, none, some}
use borrow.Author.Tests.{ne_eqb, le-leb, lt-leb, leb-true, leb-false}
use lib.Dec.{leb, eqb}
use lib.IntN.{ℤ}
use Rattle.formula.specs.Formula.{prefix, Clause}
use Rattle.codes.specs.Codes.{last_code}
use Rattle.trimming_rules.specs.Trimming as Trimming
use Rattle.trimming_rules.specs.Trimming.{keep, lower, lowest_unit}
use Rattle.trimming_rules.proofs.ClauseLaws.{Every}
use Rattle.trimming_marks.specs.Marks.{is_left, is_universal, only, unit}
use Rattle.trimming.specs.Private.Table.{literal_of, Entry, Block, standing, gone, inner, Fine, shown, literal_or_none, Chosen, Picked}
use Rattle.trimming.proofs.CodeLaws.{universal_code}
use Rattle.trimming.proofs.BlockLaws.{left_code, gone_none, entries_of}

-- ---- the only entry

abbrev pub one : List ℕ → ℕ
one [] = 0
one (x ∷ []) = x
one (x ∷ y ∷ xs) = 0

-- With an entry found, the next one that is left ends it.
only_found : (x : ℕ) → x ≢ 0 → (c : List ℕ) → only x c ≡ one (x ∷ keep is_left c)
only_found x other [] = refl
only_found x other (y ∷ c) = go (is_left y) (only_found x other c)
  where
    go : (t : Bool) → only x c ≡ one (x ∷ keep is_left c) →
        cond t (cond (eqb x 0) (only y c) 0) (only x c) ≡ one (x ∷ cond t (y ∷ keep is_left c) (keep is_left c))
    go true later = ap (λ (b : Bool). cond b (only y c) 0) (ne_eqb x 0 other)
    go false later = later

pub only_one : (c : List ℕ) → Every Entry c → only 0 c ≡ one (keep is_left c)
only_one [] all = refl
only_one (x ∷ c) all = go (is_left x) refl (only_one c all.1)
  where
    go : (t : Bool) → is_left x ≡ t → only 0 c ≡ one (keep is_left c) → cond t (only x c) (only 0 c) ≡ one (cond t (x ∷ keep is_left c) (keep is_left c))
    go true l later = only_found x (λ z. let s = (left_code x all.0 l).0 in omega arith) c
    go false l later = later

-- ---- a unit

every_left : (c : List ℕ) → Every Entry c → Every (λ x. (2 ≤ x) × (x < last_code + 1)) (keep is_left c)
every_left [] all = tt
every_left (x ∷ c) all = go (is_left x) refl (every_left c all.1)
  where
    go : (t : Bool) → is_left x ≡ t → Every (λ x. (2 ≤ x) × (x < last_code + 1)) (keep is_left c) →
        Every (λ x. (2 ≤ x) × (x < last_code + 1)) (cond t (x ∷ keep is_left c) (keep is_left c))
    go true l later = (left_code x all.0 l, later)
    go false l later = later

pub nothing_chosen : Chosen 0
nothing_chosen = record { small = omega arith; code = λ e. omega arith }

code_chosen : (x : ℕ) → 2 ≤ x → x < last_code + 1 → Chosen x
code_chosen x two small = record { small = small; code = λ e. omega arith }

pub some_literal : (x : ℕ) → 2 ≤ x → literal_or_none x ≡ some (literal_of x)
some_literal zero two = absurd (omega arith)
some_literal (suc x) two = refl

module _ (kinds : List ℕ) where
  unit_list : (l : List ℕ) → Every (λ x. (2 ≤ x) × (x < last_code + 1)) l →
      Picked (Trimming.unit (prefix kinds) (map literal_of l)) (cond (is_universal kinds (one l)) 0 (one l))
  unit_list [] all = go (is_universal kinds 0)
    where
      go : (t : Bool) → Picked none (cond t 0 0)
      go true = record { chosen = nothing_chosen; is = refl }
      go false = record { chosen = nothing_chosen; is = refl }
  unit_list (x ∷ []) all = rw (universal_code kinds x all.0.0) (go (is_universal kinds x))
    where
      go : (t : Bool) → Picked (cond t none (some (literal_of x))) (cond t 0 x)
      go true = record { chosen = nothing_chosen; is = refl }
      go false = record { chosen = code_chosen x all.0.0 all.0.1; is = some_literal x all.0.0 }
  unit_list (x ∷ y ∷ l) all = go (is_universal kinds 0)
    where
      go : (t : Bool) → Picked none (cond t 0 0)
      go true = record { chosen = nothing_chosen; is = refl }
      go false = record { chosen = nothing_chosen; is = refl }

  unit_clause : (c : List ℕ) → Every Entry c → Picked (Trimming.unit (prefix kinds) (map literal_of (keep is_left c))) (unit kinds c)
  unfolding unit
  unit_clause c all = rw (only_one c all) (unit_list (keep is_left c) (every_left c all))

  pub lower_none : (o : Option ℤ) → lower o none ≡ o
  lower_none none = refl
  lower_none (some z) = refl

  pub unit_block : (b : Block) → Fine b → Picked (lowest_unit (prefix kinds) (shown b)) (unit kinds (inner b))
  unit_block (standing c) f = let u = unit_clause c f in record
      { chosen = u.chosen; is = u.is ∙ sym (lower_none (Trimming.unit (prefix kinds) (map literal_of (keep is_left c)))) }
  unit_block (gone c) f =
      let u = unit_clause c (entries_of (gone c) f) in
      record { chosen = u.chosen; is = u.is ∙ ap (λ (l : List ℕ). Trimming.unit (prefix kinds) (map literal_of l)) (gone_none c f) }

  -- ---- the lower of two

  -- Of three, in whatever order two are compared.
  lower_three : (a b c : Option ℤ) → lower (lower a b) c ≡ lower a (lower b c)
  lower_three none b c = refl
  lower_three (some x) none c = refl
  lower_three (some x) (some y) none = lower_none (lower (some x) (some y))
  lower_three (some x) (some y) (some z) = go (leb (Trimming.position x) (Trimming.position y)) refl (leb (Trimming.position y) (Trimming.position z)) refl
    where
      go : (a : Bool) → leb (Trimming.position x) (Trimming.position y) ≡ a → (b : Bool) → leb (Trimming.position y) (Trimming.position z) ≡ b
          → lower (cond a (some x) (some y)) (some z) ≡ lower (some x) (cond b (some y) (some z))
      go true p true q =
          let h = leb-true (Trimming.position x) (Trimming.position y) p in
          let i = leb-true (Trimming.position y) (Trimming.position z) q in
          ap (λ (t : Bool). cond t (some x) (some z)) (le-leb (Trimming.position x) (Trimming.position z) (omega arith))
          ∙ sym (ap (λ (t : Bool). cond t (some x) (some y)) p)
      go true p false q = refl
      go false p true q =
          ap (λ (t : Bool). cond t (some y) (some z)) q
          ∙ sym (ap (λ (t : Bool). cond t (some x) (some y)) p)
      go false p false q =
          let h = leb-false (Trimming.position x) (Trimming.position y) p in
          let i = leb-false (Trimming.position y) (Trimming.position z) q in
          ap (λ (t : Bool). cond t (some y) (some z)) q
          ∙ sym (ap (λ (t : Bool). cond t (some x) (some z)) (lt-leb (Trimming.position x) (Trimming.position z) (omega arith)))

  pub lowest_append : (xs ys : List Clause) → lowest_unit (prefix kinds) (xs ++ ys) ≡ lower (lowest_unit (prefix kinds) xs) (lowest_unit (prefix kinds) ys)
  lowest_append [] ys = refl
  lowest_append (x ∷ xs) ys =
      ap (lower (Trimming.unit (prefix kinds) x)) (lowest_append xs ys)
      ∙ sym (lower_three (Trimming.unit (prefix kinds) x) (lowest_unit (prefix kinds) xs) (lowest_unit (prefix kinds) ys))
