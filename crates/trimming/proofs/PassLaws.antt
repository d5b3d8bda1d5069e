-- A pass over the clauses of a table.
-- Assumes nothing.
use Prim.Native.Nat.{ℕ, ◌+◌, ◌%◌, ◌≤◌, ◌<◌}
use native.Mathlib.Omega.{arith}
use mathlib.Core.Path.{◌≡◌, refl, sym, ◌∙◌, ap, ap₂, subst}
use mathlib.Core.Bool.{Bool, true, false, cond, ◌&&◌}
use mathlib.Core.List.{List, [], ◌∷◌, ◌++◌, map, append_assoc, append-nil}
use lib.Dec.{leb}
use lib.ListN.{length, take, drop, length-append, length-map}
use lib.Seq.{take_at, drop_at}
use Rattle.formula.specs.Formula.{Clause}
use Rattle.trimming_rules.proofs.ClauseLaws.{Every}
use Rattle.trimming_marks.specs.Marks.{is_left, first_clause, first_length, marked, mark_clause}
use Rattle.trimming.specs.Private.Table.{clauses_left, codes, Block, standing, gone, inner, whole, Fine, laid, shown, all_shown, Laid, At, Passed}
use Rattle.trimming.proofs.BlockLaws.{map_append, every_append, block_clause, block_length, block_marked, laid_append, shown_append, laid_clauses}

pub record Front (todo : List Block) : Type 0 where
  pub b : Block
  pub bs : List Block
  pub splits : todo ≡ b ∷ bs

module _ {table : List ℕ} {s : ℕ} (a : At table s) where
  pub rest : drop s table ≡ laid a.todo
  rest = ap (drop s) a.is ∙ drop_at (laid a.done) (laid a.todo) s (sym a.here)

  pub before : take s table ≡ laid a.done
  before = ap (take s) a.is ∙ take_at (laid a.done) (laid a.todo) s (sym a.here)

  sum : length table ≡ s + length (laid a.todo)
  sum = ap length a.is ∙ length-append (laid a.done) (laid a.todo) ∙ ap (λ (n : ℕ). n + length (laid a.todo)) (sym a.here)

  some_block : (todo : List Block) → s < length table → length table ≡ s + length (laid todo) → Front todo
  some_block [] inside e = absurd (omega arith)
  some_block (b ∷ bs) inside e = record { b = b; bs = bs; splits = refl }

  pub front : s < length table → Front a.todo
  front inside = some_block a.todo inside sum

  whole_some : (b : Block) → 0 < length (whole b)
  whole_some (standing c) = let e = length-append c (0 ∷ []) in omega arith
  whole_some (gone c) = let e = length-append c (512 ∷ []) in omega arith

  no_block : (todo : List Block) → length table ≤ s → length table ≡ s + length (laid todo) → todo ≡ []
  no_block [] past e = refl
  no_block (b ∷ bs) past e = absurd (let w = whole_some b in let l = length-append (whole b) (laid bs) in omega arith)

  pub over : length table ≤ s → a.todo ≡ []
  over past = no_block a.todo past sum

  module _ (inside : s < length table) where
    abbrev f : Front a.todo
    f = front inside

    pub front_fine : Fine f.b × Every Fine f.bs
    front_fine = subst (Every Fine) f.splits a.fine_todo

    front_rest : drop s table ≡ whole f.b ++ laid f.bs
    front_rest = rest ∙ ap laid f.splits

    pub at_clause : first_clause (drop s table) ≡ inner f.b
    at_clause = ap first_clause front_rest ∙ block_clause (laid f.bs) f.b front_fine.0

    pub at_length : first_length (drop s table) ≡ length (whole f.b)
    at_length = ap first_length front_rest ∙ block_length (laid f.bs) f.b front_fine.0

    pub goes_on : 0 < first_length (drop s table)
    goes_on = rw at_length (whole_some f.b)

    -- The walk goes on behind the clause, which may have been made another one.
    module _ (b' : Block) (fine : Fine b') (sized : length (whole b') ≡ length (whole f.b)) where
      unfoldable pub moved : (table' : List ℕ) (s' : ℕ) → table' ≡ laid a.done ++ (whole b' ++ laid f.bs) → s' ≡ s + first_length (drop s table) →
          At table' s'
      moved table' s' e at =
          record {
            done = a.done ++ (b' ∷ []);
            todo = f.bs;
            is = e ∙ sym (append_assoc (laid a.done) (whole b') (laid f.bs)) ∙ ap (λ (l : List ℕ). l ++ laid f.bs) (sym front_laid);
            here =
                at ∙ ap₂ ◌+◌ a.here (at_length ∙ sym sized)
                ∙ sym (length-append (laid a.done) (whole b'))
                ∙ ap length (sym front_laid);
            fine_done = every_append Fine a.done (b' ∷ []) a.fine_done (fine, tt);
            fine_todo = front_fine.1;
          }
        where
          front_laid : laid (a.done ++ (b' ∷ [])) ≡ laid a.done ++ whole b'
          front_laid = laid_append a.done (b' ∷ []) ∙ ap (λ (l : List ℕ). laid a.done ++ l) (append-nil (whole b'))

unfoldable pub begin : {table : List ℕ} → Laid table → At table 0
begin l = record { done = []; todo = l.blocks; is = l.is; here = refl; fine_done = tt; fine_todo = l.fine }

unfoldable pub finished : {table : List ℕ} {s : ℕ} → (a : At table s) → length table ≤ s → Laid table
finished a past =
    record {
      blocks = a.done;
      is = a.is ∙ ap (λ (l : List Block). laid a.done ++ laid l) (over a past) ∙ append-nil (laid a.done);
      fine = a.fine_done;
    }

-- ---- marks

pub marked_code : (low high x : ℕ) → marked low high x % 512 ≡ x % 512
unfolding marked
marked_code low high x = go (leb low x && (leb x high && is_left x))
  where
    go : (t : Bool) → cond t (x + 512) x % 512 ≡ x % 512
    go true = omega arith
    go false = refl

pub marked_codes : (low high : ℕ) (xs : List ℕ) → codes (map (marked low high) xs) ≡ codes xs
marked_codes low high [] = refl
marked_codes low high (x ∷ xs) = ap₂ ◌∷◌ (marked_code low high x) (marked_codes low high xs)

-- ---- a pass that makes a change of the clauses

-- What is marked of a clause makes the change of it.
pub record Change (change : List Clause → List Clause) (low high : ℕ) (b : Block) : Type 0 where
  pub after : Block
  pub made : whole after ≡ map (marked low high) (whole b)
  pub fine : Fine after
  pub shows : shown after ≡ change (shown b)

pub record Local (change : List Clause → List Clause) : Type 0 where
  pub none : change [] ≡ []
  pub spread : (xs ys : List Clause) → change (xs ++ ys) ≡ change xs ++ change ys

pub record Passing (change : List Clause → List Clause) (table₀ table : List ℕ) (s : ℕ) : Type 0 where
  pub at : At table s
  pub sized : length table ≡ length table₀
  pub same_codes : codes table ≡ codes table₀
  pub so_far : change (clauses_left table₀) ≡ all_shown at.done ++ change (all_shown at.todo)

module _ (change : List Clause → List Clause) (loc : Local change) where
  pub passing_begins : {table : List ℕ} → Laid table → Passing change table table 0
  unfolding begin
  passing_begins {table} l =
      record {
        at = begin l;
        sized = refl;
        same_codes = refl;
        so_far = ap change (ap clauses_left l.is ∙ laid_clauses l.blocks l.fine);
      }

  pub passing_ends : {table₀ table : List ℕ} {s : ℕ} → Passing change table₀ table s → length table ≤ s → Passed change table₀ table
  unfolding finished
  passing_ends {table₀} {table} p past =
      let l = finished p.at past in
      record {
        laid_out = l;
        sized = p.sized;
        same_codes = p.same_codes;
        changed =
            ap clauses_left l.is
            ∙ laid_clauses l.blocks l.fine
            ∙ sym (p.so_far ∙ ap (λ (bs : List Block). all_shown p.at.done ++ change (all_shown bs)) (over p.at past) ∙ ap
            (λ (cs : List Clause). all_shown p.at.done ++ cs) loc.none ∙ append-nil (all_shown p.at.done));
      }

  module _ (low_of high_of : List ℕ → ℕ) (does : (b : Block) → Fine b → Change change (low_of (inner b)) (high_of (inner b)) b) where
    pub passing_more : {table₀ table : List ℕ} {s : ℕ} → Passing change table₀ table s → s < length table
        → (low high s' : ℕ) (table' : List ℕ) → low ≡ low_of (first_clause (drop s table)) → high ≡ high_of (first_clause (drop s table))
        → s' ≡ s + first_length (drop s table) → table' ≡ take s table ++ mark_clause low high (drop s table) → Passing change table₀ table' s'
    unfolding moved
    passing_more {table₀} {table} {s} p inside low high s' table' el eh es et =
        record {
          at = moved a inside d.after d.fine (ap length d.made ∙ length-map (whole b) (marked (low_of (inner b)) (high_of (inner b)))) table' s' now
              es;
          sized = sym (length_codes table') ∙ ap length same ∙ length_codes table ∙ p.sized;
          same_codes = same ∙ p.same_codes;
          so_far =
              p.so_far
              ∙ ap (λ (l : List Block). all_shown a.done ++ change (all_shown l)) f'.splits
              ∙ ap (λ (cs : List Clause). all_shown a.done ++ cs)
              (loc.spread (shown b) (all_shown f'.bs) ∙ ap (λ (cs : List Clause). cs ++ change (all_shown f'.bs)) (sym d.shows))
              ∙ sym (append_assoc (all_shown a.done) (shown d.after) (change (all_shown f'.bs)))
              ∙ ap (λ (cs : List Clause). cs ++ change (all_shown f'.bs))
              (sym (shown_append a.done (d.after ∷ []) ∙ ap (λ (cs : List Clause). all_shown a.done ++ cs) (append-nil (shown d.after))));
        }
      where
        a : At table s
        a = p.at

        f' : Front a.todo
        f' = front a inside

        b : Block
        b = f'.b

        d : Change change (low_of (inner b)) (high_of (inner b)) b
        d = does b (front_fine a inside).0

        length_codes : (t : List ℕ) → length (codes t) ≡ length t
        length_codes t = length-map t (λ x. x % 512)

        marked_front : mark_clause low high (drop s table) ≡ whole d.after ++ laid f'.bs
        marked_front =
            ap₂ (λ (l h : ℕ). mark_clause l h (drop s table)) (el ∙ ap low_of (at_clause a inside)) (eh ∙ ap high_of (at_clause a inside))
            ∙ ap (mark_clause (low_of (inner b)) (high_of (inner b))) (rest a ∙ ap laid f'.splits)
            ∙ block_marked (laid f'.bs) (low_of (inner b)) (high_of (inner b)) b (front_fine a inside).0
            ∙ ap (λ (l : List ℕ). l ++ laid f'.bs) (sym d.made)

        now : table' ≡ laid a.done ++ (whole d.after ++ laid f'.bs)
        now = et ∙ ap₂ ◌++◌ (before a) marked_front

        same : codes table' ≡ codes table
        same =
            ap codes now
            ∙ map_append (λ x. x % 512) (laid a.done) (whole d.after ++ laid f'.bs)
            ∙ ap (λ (l : List ℕ). codes (laid a.done) ++ l)
            (map_append (λ x. x % 512) (whole d.after) (laid f'.bs)
            ∙ ap (λ (l : List ℕ). l ++ codes (laid f'.bs)) (ap codes d.made ∙ marked_codes (low_of (inner b)) (high_of (inner b)) (whole b))
            ∙ sym (map_append (λ x. x % 512) (whole b) (laid f'.bs)))
            ∙ sym (map_append (λ x. x % 512) (laid a.done) (whole b ++ laid f'.bs))
            ∙ ap codes (sym (a.is ∙ ap (λ (l : List Block). laid a.done ++ laid l) f'.splits))
