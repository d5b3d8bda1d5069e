-- What the loops over names and over clauses need.
-- Assumes nothing.
use Prim.Native.Nat.{ℕ, zero, suc, ◌+◌, ◌/◌, ◌%◌, ◌≤◌, ◌<◌}
use native.Mathlib.Omega.{arith}
use mathlib.Core.Path.{◌≡◌, refl, sym, ◌∙◌, ap, ap₂, subst}
use mathlib.Core.Logic.{inl, inr}
use mathlib.Core.Bool.{Bool, true, false, cond, ◌&&◌, true≢false, false≢true}
use mathlib.Core.List.{List, [], ◌∷◌, ◌++◌}
use borrow.Author.Tests.{eq-eqb, ne_eqb, le-leb}
use lib.ListN.{length, get_or, take, drop}
use Rattle.formula.specs.Formula.{max_entries, Clause}
use Rattle.codes.specs.Codes.{last_code}
use Rattle.trimming_rules.proofs.ClauseLaws.{Every, In, every_in, every_from}
use Rattle.trimming_marks.specs.Marks.{ends, mark_clause, first_clause, always_true}
use Rattle.index.specs.Occurrences.{listed, Names}
use Rattle.index.specs.Index.{index_size, code_count, index_of, begin_of, end_of, is_code, all_codes, table_fits, filled, cleared}
use Rattle.index.proofs.IndexLaws as indexes
use Rattle.index.proofs.EditLaws.{Listed, has_is}
use Rattle.trimming_rules.specs.Trimming.{without_literal}
use Rattle.trimming.specs.Private.Table.{literal_of, Entry, Block, standing, gone, inner, whole, Fine, laid, Laid, At, marked_at, Indexed, Here, AllBut}
use Rattle.trimming.specs.Private.Table.{Except, Irreducible, Pending, Cleared, Dropped, true_from}
use Rattle.trimming.proofs.BlockLaws.{every_append, laid_append, entries_of}
use Rattle.trimming.proofs.ListedLaws.{block_has, names_from}
use Rattle.trimming.proofs.IndexLaws.{Read, reads}
use Rattle.trimming.proofs.PassLaws.{Front, front, front_fine, at_clause}
use Rattle.trimming.proofs.MarkLaws.{marked_stays}
use Rattle.trimming.proofs.TrueLaws.{gone_not_true}
use Rattle.trimming.proofs.NamedLaws.{get_or_in, standing_listed, here_named, lists}
use Rattle.trimming.proofs.ThinLaws.{in_names, saved_names, clearing_ends}

-- ---- where a list stands

pub list_bounds : (table : List ℕ) {index : List ℕ} → length table ≤ max_entries → Indexed table index → (c : ℕ) → c < code_count → Listed index c
list_bounds table {index} few indexed c small = subst (λ (i : List ℕ). Listed i c) (sym indexed)
    (has_is (index_of table) c (indexes.index_has table few c small))

pub list_saved : (table : List ℕ) {index : List ℕ} → length table ≤ max_entries → Indexed table index → (c : ℕ) → c < code_count →
    (names : List ℕ) (count : ℕ) → length names ≡ max_entries
    → (begin_of index c + count ≡ end_of index c) × ((k : ℕ) → k < count → get_or names k 0 ≡ get_or index (begin_of index c + k) 0) →
    (take count names ≡ listed c table) × (count ≤ max_entries)
list_saved table {index} few indexed c small names count sized saved =
    let r : Read table index c = subst (λ (i : List ℕ). Read table i c) (sym indexed) (reads table few c small) in
    let b = list_bounds table few indexed c small in
    let e = r.ends in
    let lo = b.from in
    let hi = b.to in
    let s = saved.0 in
    let n : count ≡ length (listed c table) = omega arith in
    (ap (λ (k : ℕ). take k names) n ∙ saved_names names (listed c table) (omega arith) (λ k below. saved.1 k (omega arith) ∙ r.at k below), omega arith)

pub literals_dropped : (table names : List ℕ) {index table' : List ℕ} (code count : ℕ) → 2 ≤ code → code < last_code + 1 → Laid table → Indexed table index →
    length table ≤ max_entries → take count names ≡ listed code table → Cleared code table table' []
    → (index' : List ℕ) → index' ≡ cleared index code → Dropped (without_literal (literal_of code)) (code / 2) (take count names) table table' index'
literals_dropped table names {index} {table'} code count two small l indexed few saved t index' e =
    subst (λ (i : List ℕ). Dropped (without_literal (literal_of code)) (code / 2) (take count names) table table' i) (sym e)
    (subst (λ (n : List ℕ). Dropped (without_literal (literal_of code)) (code / 2) n table table' (cleared index code)) (sym saved)
    (clearing_ends code two small t few l indexed))

-- ---- at first all clauses are named

pub pending_begins : (kinds : List ℕ) {table index : List ℕ} → Laid table → length table ≤ max_entries → Indexed table index → (names : List ℕ) →
    names ≡ listed 1 table → Pending kinds names table index
pending_begins kinds {table} {index} l few indexed names e =
    record {
      laid_out = l;
      few = few;
      indexed = indexed;
      standing = every_from (λ s. In s (listed 1 table)) names (λ s i. subst (In s) e i);
      others = record {
        blocks = l.blocks;
        is = l.is;
        fine = l.fine;
        all = subst (λ (n : List ℕ). AllBut (Irreducible kinds) n 0 l.blocks)
            (sym (e ∙ lists l 1)) (every_block (names_from 1 0 l.blocks) 0 l.blocks (λ x i. i));
      };
    }
  where
    every_block : (names : List ℕ) (o : ℕ) (bs : List Block) → ((x : ℕ) → In x (names_from 1 o bs) → In x names) → AllBut (Irreducible kinds) names o bs
    every_block names o [] known = tt
    every_block names o (standing es ∷ bs) known = (
      inl (known o (subst (λ (t : Bool). In o (cond t (o ∷ names_from 1 (o + length (whole (standing es))) bs)
          (names_from 1 (o + length (whole (standing es))) bs))) (sym (standing_listed es)) (inl refl))),
      every_block names (o + length (whole (standing es))) bs
          (λ x i. known x (subst
          (λ (t : Bool). In x (cond t (o ∷ names_from 1 (o + length (whole (standing es))) bs) (names_from 1 (o + length (whole (standing es))) bs)))
          (sym (standing_listed es)) (inr i))),
    )
    every_block names o (gone es ∷ bs) known = (
      inr refl,
      every_block names (o + length (whole (gone es))) bs
          (λ x i. known x (later (block_has 1 (gone es)) x i)),
    )
      where
        later : (t : Bool) (x : ℕ) → In x (names_from 1 (o + length (whole (gone es))) bs) →
            In x (cond t (o ∷ names_from 1 (o + length (whole (gone es))) bs) (names_from 1 (o + length (whole (gone es))) bs))
        later true x i = inr i
        later false x i = i

-- ---- the index at first

small_code : (x : ℕ) → Entry x → is_code (x % 512) ≡ true
small_code x e = let a = e.literal in let b = e.known in rw (le-leb (x % 512) last_code (omega arith), ne_eqb (x % 512) 1 (λ z. omega arith))

all_append : (s t : List ℕ) → all_codes s ≡ true → all_codes t ≡ true → all_codes (s ++ t) ≡ true
all_append [] t p q = q
all_append (x ∷ s) t p q = go (is_code (x % 512)) p (all_append s t)
  where
    go : (b : Bool) → (b && all_codes s) ≡ true → (all_codes s ≡ true → all_codes t ≡ true → all_codes (s ++ t) ≡ true) → (b && all_codes (s ++ t)) ≡ true
    go true e later = later e q
    go false e later = absurd (false≢true e)

entries_codes : (es : List ℕ) → Every Entry es → all_codes es ≡ true
entries_codes [] all = refl
entries_codes (x ∷ es) all = rw (small_code x all.0) (entries_codes es all.1)

blocks_codes : (bs : List Block) → Every Fine bs → all_codes (laid bs) ≡ true
blocks_codes [] f = refl
blocks_codes (standing es ∷ bs) f = all_append (es ++ (0 ∷ [])) (laid bs) (all_append es (0 ∷ []) (entries_codes es f.0) refl) (blocks_codes bs f.1)
blocks_codes (gone es ∷ bs) f = all_append (es ++ (512 ∷ [])) (laid bs) (all_append es (512 ∷ []) (entries_codes es (entries_of (gone es) f.0)) refl)
    (blocks_codes bs f.1)

pub first_index : (table index : List ℕ) → Laid table → length table ≤ max_entries → length index ≡ index_size → (index' : List ℕ) →
    index' ≡ filled table index → Indexed table index'
unfolding filled table_fits
first_index table index l few sized index' e =
    e ∙ ap (λ (b : Bool). cond b (index_of table) index)
    (ap₂ (λ (a b : Bool). a && b) (ap₂ (λ (a b : Bool). a && b) (le-leb (length table) max_entries few) (eq-eqb (length index) index_size sized))
    (ap all_codes l.is ∙ blocks_codes l.blocks l.fine))

-- ---- an always-true clause is left

unfoldable pub at_laid : {table : List ℕ} {s : ℕ} → At table s → Laid table
at_laid a = record {
  blocks = a.done ++ a.todo;
  is = a.is ∙ sym (laid_append a.done a.todo);
  fine = every_append Fine a.done a.todo
      a.fine_done a.fine_todo;
}

pub true_here : {table index : List ℕ} {s : ℕ} (a : At table s) (inside : s < length table) → Indexed table index → length table ≤ max_entries →
    always_true (first_clause (drop s table)) ≡ true → Here table index s
unfolding at_laid
true_here {table} {index} {s} a inside indexed few true? = go f.b refl (front_fine a inside).0
  where
    f : Front a.todo
    f = front a inside

    go : (b : Block) → f.b ≡ b → Fine f.b → Here table index s
    go (standing es) e fine =
        here_named (at_laid a) few indexed 1 s (omega arith)
        (subst (In s) (sym (lists (at_laid a) 1))
        (subst (λ (l : List Block). In s (names_from 1 0 (a.done ++ l))) (sym (f.splits ∙ ap (λ (b : Block). b ∷ f.bs) e))
        (subst (λ (n : ℕ). In n (names_from 1 0 (a.done ++ (standing es ∷ f.bs)))) (sym a.here)
        (in_names 1 a.done (standing es) f.bs (standing_listed es)))))
    go (gone es) e fine = absurd (true≢false (sym true? ∙ ap always_true (at_clause a inside ∙ ap inner e) ∙ gone_not_true es es (subst Fine e fine)))

none_marked_clause : (l : List ℕ) → mark_clause 512 511 l ≡ l
none_marked_clause [] = refl
none_marked_clause (x ∷ l) = ap₂ ◌∷◌ (marked_stays 512 511 x (λ a b r. omega arith)) (same (ends x) (none_marked_clause l))
  where
    same : (t : Bool) → mark_clause 512 511 l ≡ l → cond t l (mark_clause 512 511 l) ≡ l
    same true later = refl
    same false later = later

take_drop : (n : ℕ) (l : List ℕ) → take n l ++ drop n l ≡ l
take_drop zero l = refl
take_drop (suc n) [] = refl
take_drop (suc n) (x ∷ l) = ap (λ (k : List ℕ). x ∷ k) (take_drop n l)

pub true_dropped_at : (table table' : List ℕ) (s : ℕ) → always_true (first_clause (drop s table)) ≡ true → table' ≡ marked_at 0 511 s table →
    table' ≡ marked_at (true_from (first_clause (drop s table))) 511 s table
true_dropped_at table table' s t e = e ∙ ap (λ (b : Bool). marked_at (cond b 0 512) 511 s table) (sym t)

pub true_kept_at : (table : List ℕ) (s : ℕ) → always_true (first_clause (drop s table)) ≡ false →
    table ≡ marked_at (true_from (first_clause (drop s table))) 511 s table
true_kept_at table s f = sym (ap (λ (b : Bool). marked_at (cond b 0 512) 511 s table) f ∙ ap (λ (l : List ℕ). take s table ++ l)
    (none_marked_clause (drop s table)) ∙ take_drop s table)

-- ---- after a literal is made true

pub pending_again : (kinds : List ℕ) {change : List Clause → List Clause} {off : ℕ} {names before after index : List ℕ} → length before ≤ max_entries →
    Except (Irreducible kinds) [] before → Dropped change off names before after index → Pending kinds names after index
pending_again kinds few irreducible d =
    record {
      laid_out = d.passed.laid_out;
      few = let s = d.passed.sized in omega arith;
      indexed = d.indexed;
      standing = d.standing;
      others = d.irreducible kinds irreducible;
    }

-- ---- the clauses that are named

-- The clause that is named there is left.
pub named_stands : {table : List ℕ} → Laid table → length table ≤ max_entries → (names : List ℕ) (i : ℕ) → i < length names →
    Every (λ s. In s (listed 1 table)) names → Names table 1 (get_or names i 0)
named_stands {table} l few names i below all = (here_named l {index = index_of table} few refl 1 (get_or names i 0) (omega arith)
    (every_in (λ s. In s (listed 1 table)) names (get_or names i 0) all (get_or_in names i below))).stands

pub standing_still : (table' : List ℕ) {kinds names table index : List ℕ} → Pending kinds names table index → listed 1 table' ≡ listed 1 table →
    Every (λ s. In s (listed 1 table')) names
standing_still table' {kinds} {names} {table} {index} p e = every_from (λ s. In s (listed 1 table')) names
    (λ s i. subst (In s) (sym e) (every_in (λ x. In x (listed 1 table)) names s p.standing i))
