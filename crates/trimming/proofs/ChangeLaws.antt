-- One clause of a table is changed: what the index becomes.
-- Assumes nothing.
use Prim.Native.Nat.{ℕ, zero, suc, ◌+◌, ◌%◌, ◌≤◌, ◌<◌}
use native.Mathlib.Omega.{arith}
use mathlib.Core.Path.{◌≡◌, refl, sym, ◌∙◌, ap, ap₂}
use mathlib.Core.Bool.{Bool, true, false, cond, ◌||◌}
use mathlib.Core.List.{List, [], ◌∷◌, ◌++◌, append_assoc}
use borrow.Author.Tests.{ne_eqb}
use lib.Dec.{eqb}
use lib.ListN.{length, length-map}
use Rattle.formula.specs.Formula.{max_entries}
use Rattle.trimming_rules.proofs.ClauseLaws.{Every}
use Rattle.index.specs.Occurrences.{listed_under, has_left, listed}
use Rattle.index.specs.Index.{code_count, index_of, without, removed}
use Rattle.trimming.specs.Private.Table.{codes, Entry, Block, standing, whole, Fine, laid, times}
use Rattle.trimming.proofs.BlockLaws.{map_append, every_append, laid_append}
use Rattle.trimming.proofs.IndexLaws.{index_same, index_removed}
use Rattle.trimming.proofs.ListedLaws.{block_has, listed_laid, names_same, names_fewer}

-- ---- a table around one block

abbrev pub around : List Block → Block → List Block → List ℕ
around xs b ys = laid xs ++ (whole b ++ laid ys)

pub laid_around : (xs : List Block) (b : Block) (ys : List Block) → laid (xs ++ (b ∷ ys)) ≡ around xs b ys
laid_around xs b ys = laid_append xs (b ∷ ys)

codes_append : (s t : List ℕ) → codes (s ++ t) ≡ codes s ++ codes t
codes_append s t = map_append (λ x. x % 512) s t

module _ (xs ys : List Block) (b d : Block) (same_codes : codes (whole d) ≡ codes (whole b)) where
  pub around_codes : codes (around xs d ys) ≡ codes (around xs b ys)
  around_codes =
      codes_append (laid xs) (whole d ++ laid ys)
      ∙ ap (λ (l : List ℕ). codes (laid xs) ++ l) (codes_append (whole d) (laid ys) ∙ ap (λ (l : List ℕ). l ++ codes (laid ys)) same_codes ∙ sym
      (codes_append (whole b) (laid ys)))
      ∙ sym (codes_append (laid xs) (whole b ++ laid ys))

  pub as_long : length (whole d) ≡ length (whole b)
  as_long = sym (length-map (whole d) (λ x. x % 512)) ∙ ap length same_codes ∙ length-map (whole b) (λ x. x % 512)

  module _ (fine_xs : Every Fine xs) (fine_ys : Every Fine ys) (fine_b : Fine b) (fine_d : Fine d) where
    lists : (c : ℕ) (e : Block) → Fine e → listed c (around xs e ys) ≡ listed c (laid (xs ++ (e ∷ ys)))
    lists c e f = ap (listed c) (sym (laid_around xs e ys))

    all_fine : (e : Block) → Fine e → Every Fine (xs ++ (e ∷ ys))
    all_fine e f = every_append Fine xs (e ∷ ys) fine_xs (f, fine_ys)

    pub list_same : (c : ℕ) → block_has c d ≡ block_has c b → listed c (around xs d ys) ≡ listed c (around xs b ys)
    list_same c e =
        lists c d fine_d
        ∙ listed_laid c (xs ++ (d ∷ ys)) (all_fine d fine_d)
        ∙ names_same c xs ys b d as_long e
        ∙ sym (listed_laid c (xs ++ (b ∷ ys)) (all_fine b fine_b))
        ∙ sym (lists c b fine_b)

    pub list_fewer : (c : ℕ) → block_has c d ≡ false → listed c (around xs d ys) ≡ without (length (laid xs)) (listed c (around xs b ys))
    list_fewer c own =
        lists c d fine_d
        ∙ listed_laid c (xs ++ (d ∷ ys)) (all_fine d fine_d)
        ∙ names_fewer c xs ys b d as_long own
        ∙ ap (without (length (laid xs))) (sym (listed_laid c (xs ++ (b ∷ ys)) (all_fine b fine_b)) ∙ sym (lists c b fine_b))

    pub same_index : length (around xs b ys) ≤ max_entries → ((c : ℕ) → c < code_count → block_has c d ≡ block_has c b) →
        index_of (around xs d ys) ≡ index_of (around xs b ys)
    same_index few same = index_same (around xs b ys) (around xs d ys) few around_codes (λ c h. list_same c (same c h))

    pub removed_index : (x : ℕ) → x < code_count → length (around xs b ys) ≤ max_entries →
        ((c : ℕ) → c < code_count → (c ≡ x → ⊥) → block_has c d ≡ block_has c b) → block_has x d ≡ false
        → removed (index_of (around xs b ys)) x (length (laid xs)) ≡ index_of (around xs d ys)
    removed_index x small few others own =
        index_removed (around xs b ys) (around xs d ys) few around_codes x small (λ c h other. list_same c (others c h other)) (length (laid xs))
        (list_fewer x own)

-- ---- what a clause has

pub has_append : (c : ℕ) (l m : List ℕ) → has_left c (l ++ m) ≡ (has_left c l || has_left c m)
has_append c [] m = refl
has_append c (x ∷ l) m = ap (λ (b : Bool). eqb c (listed_under x) || b) (has_append c l m) ∙ shift (eqb c (listed_under x)) (has_left c l) (has_left c m)
  where
    shift : (a b c : Bool) → (a || (b || c)) ≡ ((a || b) || c)
    shift true b c = refl
    shift false b c = refl

pub under_itself : (y : ℕ) → 2 ≤ y → listed_under y ≡ y
under_itself zero two = absurd (omega arith)
under_itself (suc y) two = refl

pub entry_two : (y : ℕ) → Entry y → 2 ≤ y
entry_two y e = let l = e.literal in omega arith

has_none : (x : ℕ) (l : List ℕ) → Every Entry l → times x l ≡ 0 → has_left x l ≡ false
has_none x [] all z = refl
has_none x (y ∷ l) all z = go (eqb x y) refl z (has_none x l all.1)
  where
    go : (t : Bool) → eqb x y ≡ t → cond t 1 0 + times x l ≡ 0 → (times x l ≡ 0 → has_left x l ≡ false) → (eqb x (listed_under y) || has_left x l) ≡ false
    go true e z later = absurd (omega arith)
    go false e z later = rw (under_itself y (entry_two y all.0), e) (later (omega arith))

has_some : (x : ℕ) (l : List ℕ) → Every Entry l → 0 < times x l → has_left x l ≡ true
has_some x [] all z = absurd (omega arith)
has_some x (y ∷ l) all z = go (eqb x y) refl z (has_some x l all.1)
  where
    go : (t : Bool) → eqb x y ≡ t → 0 < cond t 1 0 + times x l → (0 < times x l → has_left x l ≡ true) → (eqb x (listed_under y) || has_left x l) ≡ true
    go true e z later = rw (under_itself y (entry_two y all.0), e)
    go false e z later = rw (under_itself y (entry_two y all.0), e) (later (omega arith))

below_none : (x low : ℕ) (l : List ℕ) → low ≤ x → x < 512 → Every Entry l → Every (λ y. (y < 512 → y < low)) l → has_left x l ≡ false
below_none x low [] from small all below = refl
below_none x low (y ∷ l) from small all below =
    rw (under_itself y (entry_two y all.0), ne_eqb x y (λ e. let h = below.0 in let i = h (omega arith) in omega arith))
    (below_none x low l from small all.1 below.1)

-- ---- one entry is dropped

module _ (pre post : List ℕ) (x : ℕ) (entry : Entry x) (small : x < 512) where
  abbrev pub one_before : Block
  one_before = standing (pre ++ (x ∷ post))

  abbrev pub one_after : Block
  one_after = standing (pre ++ ((x + 512) ∷ post))

  has_parts : (c y : ℕ) → has_left c ((pre ++ (y ∷ post)) ++ (0 ∷ [])) ≡ (has_left c pre || (eqb c (listed_under y) || (has_left c post || (eqb c 1 || false))))
  has_parts c y =
      has_append c (pre ++ (y ∷ post)) (0 ∷ [])
      ∙ ap (λ (b : Bool). b || (eqb c 1 || false)) (has_append c pre (y ∷ post))
      ∙ shift (has_left c pre) (eqb c (listed_under y)) (has_left c post) (eqb c 1 || false)
    where
      shift : (p q r s : Bool) → ((p || (q || r)) || s) ≡ (p || (q || (r || s)))
      shift true q r s = refl
      shift false true r s = refl
      shift false false r s = refl

  pub others_kept : (c : ℕ) → c < code_count → (c ≡ x → ⊥) → block_has c one_after ≡ block_has c one_before
  others_kept c h other =
      has_parts c (x + 512)
      ∙ ap (λ (b : Bool). has_left c pre || (b || (has_left c post || (eqb c 1 || false))))
      (ap (eqb c) (under_itself (x + 512) (omega arith)) ∙ ne_eqb c (x + 512) (λ e. omega arith) ∙ sym
      (ap (eqb c) (under_itself x (entry_two x entry)) ∙ ne_eqb c x other))
      ∙ sym (has_parts c x)

  pub own_gone : (low : ℕ) → low ≤ x → Every Entry pre → Every (λ y. (y < 512 → y < low)) pre → Every Entry post → times x post ≡ 0 →
      block_has x one_after ≡ false
  own_gone low from fine_pre below fine_post none =
      let two = entry_two x entry in
      has_parts x (x + 512)
      ∙ ap₂ (λ (p q : Bool). p || (eqb x (listed_under (x + 512)) || (q || (eqb x 1 || false)))) (below_none x low pre from small fine_pre below)
      (has_none x post fine_post none)
      ∙ ap₂ (λ (p q : Bool). p || (q || false)) (ap (eqb x) (under_itself (x + 512) (omega arith)) ∙ ne_eqb x (x + 512) (λ e. omega arith))
      (ne_eqb x 1 (λ e. omega arith))

  pub own_kept : Every Entry post → 0 < times x post → block_has x one_after ≡ block_has x one_before
  own_kept fine_post more =
      has_parts x (x + 512) ∙ true_by (eqb x (listed_under (x + 512))) ∙ sym (has_parts x x ∙ true_by (eqb x (listed_under x)))
    where
      all_true : (p q : Bool) → (p || (q || true)) ≡ true
      all_true true q = refl
      all_true false true = refl
      all_true false false = refl

      true_by : (q : Bool) → (has_left x pre || (q || (has_left x post || (eqb x 1 || false)))) ≡ true
      true_by q = ap (λ (b : Bool). has_left x pre || (q || (b || (eqb x 1 || false)))) (has_some x post fine_post more) ∙ all_true (has_left x pre) q

  pub one_codes : codes (whole one_after) ≡ codes (whole one_before)
  one_codes =
      ap codes (append_assoc pre ((x + 512) ∷ post) (0 ∷ []))
      ∙ codes_append pre ((x + 512) ∷ (post ++ (0 ∷ [])))
      ∙ ap (λ (n : ℕ). codes pre ++ (n ∷ codes (post ++ (0 ∷ [])))) (let e : (x + 512) % 512 ≡ x % 512 = omega arith in e)
      ∙ sym (ap codes (append_assoc pre (x ∷ post) (0 ∷ [])) ∙ codes_append pre (x ∷ (post ++ (0 ∷ []))))

  pub dropped_entry : Entry (x + 512)
  dropped_entry =
      let a = entry.literal in
      let b = entry.known in
      record { literal = omega arith; known = omega arith; once = omega arith }
