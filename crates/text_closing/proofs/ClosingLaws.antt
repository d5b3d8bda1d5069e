-- From what the functions copy to what is written. Assumes nothing.
use Prim.Native.Nat.{ℕ, ◌+◌, ◌-◌, ◌≤◌}
use mathlib.Core.Path.{◌≡◌, refl, sym, ap, ap₂, subst, ◌∙◌}
use mathlib.Core.Bool.{Bool, true, false, false≢true, ◌&&◌}
use mathlib.Core.List.{List, [], ◌∷◌, ◌++◌, map, append_assoc}
use native.Mathlib.Omega.{arith}
use borrow.Author.Tests.{le-leb, leb-true, eq-eqb, eqb-true}
use lib.Dec.{leb, eqb}
use lib.IntN.{ℤ}
use lib.ListN.{length, take, drop, replicate, length-drop, length-replicate, length-append}
use lib.Seq.{take-add, take_at, drop_at, drop-drop, length-take-le}
use Rattle.formula.specs.Formula.{max_unknowns, max_entries}
use Rattle.named.specs.Named.{max_variables, placed}
use Rattle.named.specs.Names.{UpTo}
use Rattle.named.specs.Closing.{closed_kinds}
use Rattle.named.proofs.CauseLaws.{length_map}
use Rattle.named.proofs.NameLaws.{and_both, up_to_append}
use Rattle.text_closing.specs.Written.{free_in, placed_in, are_small, are_tables, tables_fit, all_fit, over, Written}
use Rattle.text_closing.specs.Private.Steps.{ClosedOver}

-- The test of small names.
pub small_up_to : (names : List ℕ) → are_small names ≡ true → UpTo max_variables names
small_up_to [] e = tt
small_up_to (v ∷ vs) e = go (leb v max_variables) refl e (small_up_to vs)
  where
    go : (b : Bool) → leb v max_variables ≡ b → (b && are_small vs) ≡ true → (are_small vs ≡ true → UpTo max_variables vs) → UpTo max_variables (v ∷ vs)
    go true q e more = (leb-true v max_variables q, more e)
    go false q e more = absurd (false≢true e)

pub up_to_small : (names : List ℕ) → UpTo max_variables names → are_small names ≡ true
up_to_small [] u = refl
up_to_small (v ∷ vs) u = rw (le-leb v max_variables u.0, up_to_small vs u.1) refl

-- The names read, in the order in which they are written.
up_to_front : (m : ℕ) (xs ys : List ℕ) → UpTo m (xs ++ ys) → UpTo m xs
up_to_front m [] ys u = tt
up_to_front m (x ∷ xs) ys u = (u.0, up_to_front m xs ys u.1)

up_to_behind : (m : ℕ) (xs ys : List ℕ) → UpTo m (xs ++ ys) → UpTo m ys
up_to_behind m [] ys u = u
up_to_behind m (x ∷ xs) ys u = up_to_behind m xs ys u.1

pub up_to_placed : (bound free : ℕ) (N : List ℕ) → are_small (take (bound + free) N) ≡ true → UpTo max_variables (placed_in bound free N)
up_to_placed bound free N e =
    let u = subst (UpTo max_variables) (take-add bound free N) (small_up_to (take (bound + free) N) e) in
    up_to_append max_variables (free_in bound free N) (take bound N) (up_to_behind max_variables (take bound N) (free_in bound free N) u)
    (up_to_front max_variables (take bound N) (free_in bound free N) u)

placed_small : (bound free : ℕ) (N : List ℕ) → UpTo max_variables (placed_in bound free N) → are_small (take (bound + free) N) ≡ true
placed_small bound free N u =
    up_to_small (take (bound + free) N)
    (subst (UpTo max_variables) (sym (take-add bound free N))
    (up_to_append max_variables (take bound N) (free_in bound free N) (up_to_behind max_variables (free_in bound free N) (take bound N) u)
    (up_to_front max_variables (free_in bound free N) (take bound N) u)))

-- What the tests say.
lengths : (k l n : ℕ) → are_tables k l n ≡ true → (k ≡ max_unknowns) × (l ≡ max_entries) × (n ≡ max_unknowns)
lengths k l n e =
    let p = and_both (eqb k max_unknowns && eqb l max_entries) (eqb n max_unknowns) e in
    let q = and_both (eqb k max_unknowns) (eqb l max_entries) p.0 in
    (eqb-true k max_unknowns q.0, eqb-true l max_entries q.1, eqb-true n max_unknowns p.1)

pub record Sizes (bound free m OK OL ON K L N : ℕ) : Type 0 where
  pub unknowns : bound + free ≤ max_unknowns
  pub entries : m ≤ max_entries
  pub read : (OK ≡ max_unknowns) × (OL ≡ max_entries) × (ON ≡ max_unknowns)
  pub lent : (K ≡ max_unknowns) × (L ≡ max_entries) × (N ≡ max_unknowns)

pub sizes : (bound free m OK OL ON K L N : ℕ) → tables_fit bound free m OK OL ON K L N ≡ true → Sizes bound free m OK OL ON K L N
sizes bound free m OK OL ON K L N e =
    let p = and_both (are_tables OK OL ON && are_tables K L N && leb (bound + free) max_unknowns) (leb m max_entries) e in
    let q = and_both (are_tables OK OL ON && are_tables K L N) (leb (bound + free) max_unknowns) p.0 in
    let r = and_both (are_tables OK OL ON) (are_tables K L N) q.0 in
    record {
      unknowns = leb-true (bound + free) max_unknowns q.1;
      entries = leb-true m max_entries p.1;
      read = lengths OK OL ON r.0;
      lent = lengths K L N r.1;
    }

-- All fits, or all is left.
module _ (bound free m : ℕ) (OK : List ℕ) (OL : List ℤ) (ON K : List ℕ) (L : List ℤ) (N : List ℕ) where
  left : all_fit bound free m OK OL ON K L N ≡ false → Written bound free m OK OL ON K L N K L N
  left e = record { kinds = rw e refl; literals = rw e refl; names = rw e refl }

  pub left_unfit : tables_fit bound free m (length OK) (length OL) (length ON) (length K) (length L) (length N) ≡ false →
      Written bound free m OK OL ON K L N K L N
  unfolding all_fit
  left_unfit e = left (ap (λ (b : Bool). b && are_small (take (bound + free) ON)) e)

  module _ (fit : tables_fit bound free m (length OK) (length OL) (length ON) (length K) (length L) (length N) ≡ true) where
    pub left_large : are_small (take (bound + free) ON) ≡ false → Written bound free m OK OL ON K L N K L N
    unfolding all_fit
    left_large e = left (ap (λ (b : Bool). b && are_small (take (bound + free) ON)) fit ∙ e)

    pub written : {K' : List ℕ} {L' : List ℤ} {N' : List ℕ} → are_small (take (bound + free) ON) ≡ true → ClosedOver bound free m OK OL ON K L N K' L' N'
        → Written bound free m OK OL ON K L N K' L' N'
    unfolding all_fit
    written {K'} {L'} {N'} small x =
        let e : all_fit bound free m OK OL ON K L N ≡ true = ap (λ (b : Bool). b && are_small (take (bound + free) ON)) fit ∙ small in
        record { kinds = rw e x.kinds; literals = rw e x.literals; names = rw e x.names }

-- What a caller goes on with, whose tables fit.
pub closed_so : (bound free m : ℕ) (OK : List ℕ) (OL : List ℤ) (ON K : List ℕ) (L : List ℤ) (N : List ℕ) {K' : List ℕ} {L' : List ℤ} {N' : List ℕ}
    → Sizes bound free m (length OK) (length OL) (length ON) (length K) (length L) (length N) → UpTo max_variables (placed_in bound free ON)
    → Written bound free m OK OL ON K L N K' L' N' → ClosedOver bound free m OK OL ON K L N K' L' N'
unfolding all_fit
closed_so bound free m OK OL ON K L N {K'} {L'} {N'} z u w =
    let e : all_fit bound free m OK OL ON K L N ≡ true = rw (
      eq-eqb (length OK) max_unknowns z.read.0,
      eq-eqb (length OL) max_entries z.read.1,
      eq-eqb (length ON) max_unknowns z.read.2,
      eq-eqb (length K) max_unknowns z.lent.0,
      eq-eqb (length L) max_entries z.lent.1,
      eq-eqb (length N) max_unknowns z.lent.2,
      le-leb (bound + free) max_unknowns z.unknowns,
      le-leb m max_entries z.entries,
      placed_small bound free ON u,
    ) refl in
    record { kinds = w.kinds ∙ rw e refl; literals = w.literals ∙ rw e refl; names = w.names ∙ rw e refl }

-- A table whose front was written in two parts, as slices are put back.
pub two_parts : {A : Type 0} (old a b : List A) (f n k : ℕ) → length a ≡ f → length b ≡ n → k ≡ n
    → take f (a ++ drop f old) ++ (b ++ drop k (drop f (a ++ drop f old))) ≡ over (a ++ b) old
two_parts old a b f n k size_a size_b e =
    let whole : f + n ≡ length (a ++ b) = omega (arith, length-append a b) in
    ap₂ (λ (front behind : List _). front ++ (b ++ behind)) (take_at a (drop f old) f size_a)
    (ap (λ (i : ℕ). drop i (drop f (a ++ drop f old))) e ∙ ap (drop n) (drop_at a (drop f old) f size_a) ∙ drop-drop n f old)
    ∙ sym (append_assoc a b (drop (f + n) old))
    ∙ ap (λ (i : ℕ). (a ++ b) ++ drop i old) whole

-- What is read is written over the front of the tables.
module _ (bound free m : ℕ) (OK : List ℕ) (OL : List ℤ) (ON : List ℕ) (unknowns : bound + free ≤ max_unknowns) (entries : m ≤ max_entries)
    (size_kinds : length OK ≡ max_unknowns) (size_literals : length OL ≡ max_entries) (size_names : length ON ≡ max_unknowns) where
  abbrev all_names : List ℕ
  all_names = placed_in bound free ON

  length_free : length (free_in bound free ON) ≡ free
  length_free = length-take-le free (drop bound ON) (omega (arith, length-drop bound ON))

  pub length_names : length all_names ≡ free + bound
  length_names = length-append (free_in bound free ON) (take bound ON) ∙ ap₂ ◌+◌ length_free (length-take-le bound ON (omega arith))

  -- A table of numbers with a written over its front, and behind it b.
  abbrev pub in_two : List ℕ → List ℕ → List ℕ → List ℕ
  in_two old a b = take free (a ++ drop free old) ++ (b ++ drop (free + bound - free) (drop free (a ++ drop free old)))

  names_written : (N : List ℕ) {a b : List ℕ} → a ≡ take (bound + free - bound) (drop bound ON) → b ≡ take bound ON → in_two N a b ≡ over all_names N
  names_written N e f =
      let width : bound + free - bound ≡ free = omega arith in
      rw (e, f, width)
      (two_parts N (free_in bound free ON) (take bound ON) free bound (free + bound - free) length_free (length-take-le bound ON (omega arith)) (omega arith))

  -- They stand at the front.
  pub names_front : (N : List ℕ) {a b : List ℕ} → a ≡ take (bound + free - bound) (drop bound ON) → b ≡ take bound ON →
      take (free + bound) (in_two N a b) ≡ all_names
  names_front N e f = ap (take (free + bound)) (names_written N e f) ∙ take_at all_names (drop (length all_names) N) (free + bound) length_names

  kinds_written : (K : List ℕ) {a b : List ℕ} → length K ≡ max_unknowns → a ≡ replicate (length (take free K)) 0 → b ≡ take bound OK
      → in_two K a b ≡ over (closed_kinds (free_in bound free ON) (take bound OK)) K
  kinds_written K size e f =
      let width : length (take free K) ≡ length (free_in bound free ON) = length-take-le free K (omega arith) ∙ sym length_free in
      rw (e, f, width)
      (two_parts K (replicate (length (free_in bound free ON)) 0) (take bound OK) free bound (free + bound - free)
      (length-replicate {A = ℕ} (length (free_in bound free ON)) 0 ∙ length_free) (length-take-le bound OK (omega arith)) (omega arith))

  literals_written : (L : List ℤ) {a : List ℤ} (front : List ℕ) → front ≡ all_names → a ≡ map (placed front) (take m OL) →
      a ++ drop m L ≡ over (map (placed all_names) (take m OL)) L
  literals_written L front e f =
      let size : m ≡ length (map (placed all_names) (take m OL)) = omega (
        arith,
        length_map (placed all_names) (take m OL),
        length-take-le m OL
            (omega arith),
      ) in
      rw (f, e) (ap (λ (i : ℕ). map (placed all_names) (take m OL) ++ drop i L) size)

  pub closed_over : (K : List ℕ) (L : List ℤ) (N : List ℕ) {k₁ k₂ n₁ n₂ : List ℕ} {l : List ℤ} → length K ≡ max_unknowns
      → n₁ ≡ take (bound + free - bound) (drop bound ON) → n₂ ≡ take bound ON → k₁ ≡ replicate (length (take free K)) 0 → k₂ ≡ take bound OK
      → l ≡ map (placed (take (free + bound) (in_two N n₁ n₂))) (take m OL)
      → ClosedOver bound free m OK OL ON K L N (in_two K k₁ k₂) (l ++ drop m L) (in_two N n₁ n₂)
  closed_over K L N size names_free names_bound kinds_free kinds_bound literals =
      record {
        kinds = kinds_written K size kinds_free kinds_bound;
        literals = literals_written L (take (free + bound) _) (names_front N names_free names_bound) literals;
        names = names_written N names_free names_bound;
      }
