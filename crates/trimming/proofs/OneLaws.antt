-- One clause of a table is marked: what that makes of the clauses that are left, of the lists, and of what holds of all clauses but some.
-- Assumes nothing.
use Prim.Native.Nat.{ℕ, ◌+◌, ◌%◌, ◌<◌}
use native.Mathlib.Omega.{arith}
use mathlib.Core.Path.{◌≡◌, refl, sym, ◌∙◌, ap, ap₂, subst}
use mathlib.Core.Logic.{◌⊎◌, inl, inr}
use mathlib.Core.Bool.{true, false}
use mathlib.Core.List.{List, [], ◌∷◌, ◌++◌, map}
use lib.ListN.{length, length-append, length-map}
use Rattle.formula.specs.Formula.{Clause}
use Rattle.trimming_rules.proofs.ClauseLaws.{Every, In}
use Rattle.trimming_marks.specs.Marks.{marked}
use Rattle.index.specs.Occurrences.{listed, begins}
use Rattle.index.specs.Index.{without}
use Rattle.trimming.specs.Private.Table.{codes, clauses_left, Block, whole, Fine, laid, shown, all_shown, Laid, Passed, marked_at, AllBut, Except, Toward}
use Rattle.trimming.proofs.BlockLaws.{every_append, shown_append, laid_clauses}
use Rattle.trimming.proofs.ListedLaws.{block_has, whole_some, Split, splits}
use Rattle.trimming.proofs.ChangeLaws.{around, laid_around, around_codes, list_same, list_fewer}
use Rattle.trimming.proofs.PassLaws.{marked_codes, Local}
use Rattle.trimming.proofs.DropLaws.{marked_around}
use Rattle.trimming.proofs.EndLaws.{every_front}

pub toward_begins : (change : List Clause → List Clause) (table : List ℕ) → Laid table → Toward change table table
toward_begins change table l = record { laid_out = l; sized = refl; same_codes = refl; same = refl }

-- Where nothing is left for the change, it is made.
pub toward_ends : (change : List Clause → List Clause) {before after : List ℕ} → Toward change before after → change (clauses_left after) ≡ clauses_left after →
    Passed change before after
toward_ends change t over = record { laid_out = t.laid_out; sized = t.sized; same_codes = t.same_codes; changed = sym over ∙ t.same }

-- The clause at place s is b, and becomes d.
pub record Marks (table table' : List ℕ) (s low high : ℕ) : Type 0 where
  pub xs : List Block
  pub ys : List Block
  pub b : Block
  pub d : Block
  pub is : table ≡ around xs b ys
  pub here : s ≡ length (laid xs)
  pub fine_xs : Every Fine xs
  pub fine_ys : Every Fine ys
  pub fine_b : Fine b
  pub fine_d : Fine d
  pub made : whole d ≡ map (marked low high) (whole b)
  pub written : table' ≡ marked_at low high s table

module _ {table table' : List ℕ} {s low high : ℕ} (m : Marks table table' s low high) where
  pub is_after : table' ≡ around m.xs m.d m.ys
  is_after =
      m.written ∙ ap (marked_at low high s) m.is
      ∙ marked_around low high s m.xs m.b m.ys m.here m.fine_b
      ∙ ap (λ (l : List ℕ). laid m.xs ++ (l ++ laid m.ys)) (sym m.made)

  block_codes : codes (whole m.d) ≡ codes (whole m.b)
  block_codes = ap codes m.made ∙ marked_codes low high (whole m.b)

  pub after_laid : Laid table'
  after_laid =
      record {
        blocks = m.xs ++ (m.d ∷ m.ys);
        is = is_after ∙ sym (laid_around m.xs m.d m.ys);
        fine = every_append Fine m.xs (m.d ∷ m.ys) m.fine_xs (m.fine_d, m.fine_ys);
      }

  pub after_codes : codes table' ≡ codes table
  after_codes = ap codes is_after ∙ around_codes m.xs m.ys m.b m.d block_codes ∙ ap codes (sym m.is)

  pub after_length : length table' ≡ length table
  after_length = sym (length-map table' (λ x. x % 512)) ∙ ap length after_codes ∙ length-map table (λ x. x % 512)

  shows : (e : Block) → Fine e → clauses_left (around m.xs e m.ys) ≡ all_shown m.xs ++ (shown e ++ all_shown m.ys)
  shows e f =
      ap clauses_left (sym (laid_around m.xs e m.ys))
      ∙ laid_clauses (m.xs ++ (e ∷ m.ys)) (every_append Fine m.xs (e ∷ m.ys) m.fine_xs (f, m.fine_ys))
      ∙ shown_append m.xs (e ∷ m.ys)

  pub after_same : (change : List Clause → List Clause) → Local change → change (shown m.d) ≡ change (shown m.b) →
      change (clauses_left table') ≡ change (clauses_left table)
  after_same change loc e =
      ap change (ap clauses_left is_after ∙ shows m.d m.fine_d)
      ∙ spread m.d
      ∙ ap (λ (cs : List Clause). change (all_shown m.xs) ++ (cs ++ change (all_shown m.ys))) e
      ∙ sym (ap change (ap clauses_left m.is ∙ shows m.b m.fine_b) ∙ spread m.b)
    where
      spread : (e : Block) →
          change (all_shown m.xs ++ (shown e ++ all_shown m.ys)) ≡ change (all_shown m.xs) ++ (change (shown e) ++ change (all_shown m.ys))
      spread e = loc.spread (all_shown m.xs) (shown e ++ all_shown m.ys) ∙ ap (λ (cs : List Clause). change (all_shown m.xs) ++ cs)
          (loc.spread (shown e) (all_shown m.ys))

  pub toward_more : (change : List Clause → List Clause) → Local change → change (shown m.d) ≡ change (shown m.b) → {table₀ : List ℕ} →
      Toward change table₀ table → Toward change table₀ table'
  toward_more change loc e t =
      record {
        laid_out = after_laid;
        sized = after_length ∙ t.sized;
        same_codes = after_codes ∙ t.same_codes;
        same = after_same change loc e ∙ t.same;
      }

  pub after_list : (c : ℕ) → block_has c m.d ≡ block_has c m.b → listed c table' ≡ listed c table
  after_list c e = ap (listed c) is_after ∙ list_same m.xs m.ys m.b m.d block_codes m.fine_xs m.fine_ys m.fine_b m.fine_d c e ∙ ap
      (listed c) (sym m.is)

  pub after_fewer : (c : ℕ) → block_has c m.d ≡ false → listed c table' ≡ without s (listed c table)
  after_fewer c e =
      ap (listed c) is_after
      ∙ list_fewer m.xs m.ys m.b m.d block_codes m.fine_xs m.fine_ys m.fine_b m.fine_d c e
      ∙ ap₂ (λ (n : ℕ) (t : List ℕ). without n (listed c t)) (sym m.here) (sym m.is)

-- ---- what holds of all clauses but those named

-- What one clause becomes where it is marked: again one that has the property, or it is named.
pub record Becomes (P : ℕ → Block → Type 0) (names : List ℕ) (s low high : ℕ) (b : Block) : Type 0 where
  pub after : Block
  pub made : whole after ≡ map (marked low high) (whole b)
  pub fine : Fine after
  pub then : In s names ⊎ P s after

module _ (P : ℕ → Block → Type 0) (names names' : List ℕ) (s : ℕ) (kept : (o : ℕ) → (o ≡ s → ⊥) → In o names → In o names') where
  still : (o : ℕ) (b : Block) → (o ≡ s → ⊥) → In o names ⊎ P o b → In o names' ⊎ P o b
  still o b other (inl i) = inl (kept o other i)
  still o b other (inr p) = inr p

  behind : (o : ℕ) (bs : List Block) → s < o → AllBut P names o bs → AllBut P names' o bs
  behind o [] far all = tt
  behind o (b ∷ bs) far all = (still o b (λ e. omega arith) all.0, behind (o + length (whole b)) bs (omega arith) all.1)

  pub changed : (o : ℕ) (xs : List Block) (b d : Block) (ys : List Block) → s ≡ o + length (laid xs) → length (whole d) ≡ length (whole b) → In s names' ⊎ P s d
      → AllBut P names o (xs ++ (b ∷ ys)) → AllBut P names' o (xs ++ (d ∷ ys))
  changed o [] b d ys here sized then all =
      let same : s ≡ o = here ∙ (let e : o + 0 ≡ o = omega arith in e) in
      let w = whole_some b in (
        subst (λ (n : ℕ). In n names' ⊎ P n d) same then,
        subst (λ (n : ℕ). AllBut P names' (o + n) ys) (sym sized)
            (behind (o + length (whole b)) ys (omega arith) all.1),
      )
  changed o (x ∷ xs) b d ys here sized then all =
      let w = whole_some x in
      let l = length-append (whole x) (laid xs) in
      (still o x (λ e. omega arith) all.0, changed (o + length (whole x)) xs b d ys (omega arith) sized then all.1)

  pub except_changed : (low high : ℕ) {table : List ℕ} → Except P names table → s < length table → begins table s ≡ true → (table' : List ℕ) →
      table' ≡ marked_at low high s table
      → ((xs ys : List Block) (b : Block) → Every Fine xs → Every Fine ys → Fine b → table ≡ around xs b ys → s ≡ length (laid xs) → Becomes P names' s low high
      b) → Except P names' table'
  except_changed low high {table} p inside first table' written does =
      record {
        blocks = t.before ++ (e.after ∷ t.behind);
        is = is_after m ∙ sym (laid_around t.before e.after t.behind);
        fine = every_append Fine t.before (e.after ∷ t.behind) parts.0 (e.fine, parts.1.1);
        all = changed 0 t.before t.block e.after t.behind
            (t.here ∙ (let z : length (laid t.before) ≡ 0 + length (laid t.before) = omega arith in z))
            (ap length e.made ∙ length-map (whole t.block) (marked low high)) e.then (subst (AllBut P names 0) t.is p.all);
      }
    where
      t : Split s p.blocks
      t = splits p.blocks p.fine s (let z = ap length p.is in omega arith) (ap (λ (l : List ℕ). begins l s) (sym p.is) ∙ first)

      parts : Every Fine t.before × Every Fine (t.block ∷ t.behind)
      parts = every_front Fine t.before (t.block ∷ t.behind) (subst (Every Fine) t.is p.fine)

      placed : table ≡ around t.before t.block t.behind
      placed = p.is ∙ ap laid t.is ∙ laid_around t.before t.block t.behind

      e : Becomes P names' s low high t.block
      e = does t.before t.behind t.block parts.0 parts.1.1 parts.1.0 placed t.here

      m : Marks table table' s low high
      m =
          record {
            xs = t.before;
            ys = t.behind;
            b = t.block;
            d = e.after;
            is = placed;
            here = t.here;
            fine_xs = parts.0;
            fine_ys = parts.1.1;
            fine_b = parts.1.0;
            fine_d = e.fine;
            made = e.made;
            written = written;
          }
