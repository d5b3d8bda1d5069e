-- A clause that is left, where it stands; and a clause of which the last, its end, is dropped.
-- Assumes nothing.
use Prim.Native.Nat.{ℕ, ◌+◌, ◌%◌, ◌≤◌, ◌<◌}
use native.Mathlib.Omega.{arith}
use mathlib.Core.Path.{◌≡◌, refl, sym, ◌∙◌, ap, ap₂, subst}
use mathlib.Core.Bool.{Bool, true, false, ◌||◌, true≢false}
use mathlib.Core.List.{List, [], ◌∷◌, ◌++◌, map, append_assoc}
use borrow.Author.Tests.{ne_eqb, ltb-true, ltb-false}
use lib.Dec.{ltb}
use lib.ListN.{length, get_or, set, drop, length-append, length-map}
use lib.Seq.{drop_at}
use Rattle.formula.specs.Formula.{max_entries}
use Rattle.codes.specs.Codes.{last_code}
use Rattle.trimming_rules.proofs.ClauseLaws.{Every}
use Rattle.trimming_marks.specs.Marks.{marked, first_clause, first_length}
use Rattle.index.specs.Occurrences.{whole_clause, has_left, begins}
use Rattle.index.specs.Index.{index_of, removed}
use Rattle.trimming.specs.Private.Table.{codes, Entry, Block, standing, gone, whole, Fine, laid, Laid, marked_at, times, Indexed, Here, Dropping}
use Rattle.trimming.proofs.BlockLaws.{map_append, every_map, entries_of, block_clause, block_length}
use Rattle.trimming.proofs.MarkLaws.{marked_stays, marked_goes, all_marked}
use Rattle.trimming.proofs.ListedLaws.{block_has, whole_front, Split, splits}
use Rattle.trimming.proofs.ChangeLaws.{around, laid_around, has_append, under_itself, entry_two, removed_index}
use Rattle.trimming.proofs.DropLaws.{set_middle, marked_around}

pub record Stands (table : List ℕ) (start : ℕ) : Type 0 where
  pub xs : List Block
  pub ys : List Block
  pub es : List ℕ
  pub is : table ≡ around xs (standing es) ys
  pub here : start ≡ length (laid xs)
  pub fine_xs : Every Fine xs
  pub fine_ys : Every Fine ys
  pub fine : Every Entry es

pub every_front : (P : Block → Type 0) (xs ys : List Block) → Every P (xs ++ ys) → Every P xs × Every P ys
every_front P [] ys p = (tt, p)
every_front P (x ∷ xs) ys p = let r = every_front P xs ys p.1 in ((p.0, r.0), r.1)

-- An entry is not listed as a clause's end.
no_end : (es : List ℕ) → Every Entry es → has_left 1 es ≡ false
no_end [] all = refl
no_end (y ∷ es) all = rw (under_itself y (entry_two y all.0), ne_eqb 1 y (λ e. let t = entry_two y all.0 in omega arith)) (no_end es all.1)

pub gone_unlisted : (es : List ℕ) → Every Entry es → block_has 1 (gone es) ≡ false
gone_unlisted es all = has_append 1 es (512 ∷ []) ∙ ap (λ (b : Bool). b || false) (no_end es all)

module _ {table : List ℕ} {start : ℕ} (l : Laid table) where
  pub split_of : start < length table → begins table start ≡ true → Split start l.blocks
  split_of within first = splits l.blocks l.fine start (let e = ap length l.is in omega arith)
      (ap (λ (t : List ℕ). begins t start) (sym l.is) ∙ first)

pub stands : {table index : List ℕ} {start : ℕ} → Here table index start → Stands table start
stands {table} {index} {start} h = go s.block refl
  where
    s : Split start h.laid_out.blocks
    s = split_of h.laid_out h.stands.inside h.stands.first

    parts : Every Fine s.before × Every Fine (s.block ∷ s.behind)
    parts = every_front Fine s.before (s.block ∷ s.behind) (subst (Every Fine) s.is h.laid_out.fine)

    placed : table ≡ around s.before s.block s.behind
    placed = h.laid_out.is ∙ ap laid s.is ∙ laid_around s.before s.block s.behind

    go : (b : Block) → s.block ≡ b → Stands table start
    go (standing es) e =
        record {
          xs = s.before;
          ys = s.behind;
          es = es;
          is = placed ∙ ap (λ (b : Block). around s.before b s.behind) e;
          here = s.here;
          fine_xs = parts.0;
          fine_ys = parts.1.1;
          fine = subst Fine e parts.1.0;
        }
    go (gone es) e =
        let f : Fine (gone es) = subst Fine e parts.1.0 in
        let entries = entries_of (gone es) f in
        absurd (true≢false
        (sym h.stands.has
        ∙ ap (λ (t : List ℕ). has_left 1 (whole_clause (drop start t))) (placed ∙ ap (λ (b : Block). around s.before b s.behind) e)
        ∙ ap (λ (t : List ℕ). has_left 1 (whole_clause t)) (drop_at (laid s.before) (whole (gone es) ++ laid s.behind) start (sym s.here))
        ∙ ap (has_left 1) (whole_front 512 refl (laid s.behind) es entries)
        ∙ gone_unlisted es entries))

-- ---- before the first entry is dropped

pub dropping_begins : {table index : List ℕ} {start : ℕ} → Here table index start → (low : ℕ) (counts : List ℕ)
    → (length counts ≡ last_code + 1) × ((y : ℕ) → y < last_code + 1 → get_or counts y 0 ≡ times y (first_clause (drop start table))) → Dropping low start
    table index counts start
dropping_begins {table} {index} {start} h low counts counted =
    record {
      xs = s.xs;
      ys = s.ys;
      pre = [];
      post = s.es;
      is = s.is;
      here = s.here;
      place = (let e : start ≡ start + 0 = omega arith in e);
      fine_xs = s.fine_xs;
      fine_ys = s.fine_ys;
      fine_pre = tt;
      fine_post = s.fine;
      below = tt;
      few = h.few;
      indexed = h.indexed;
      sized = counted.0;
      counted = λ y from small. counted.1 y small ∙ ap (times y) clause;
    }
  where
    s : Stands table start
    s = stands h

    clause : first_clause (drop start table) ≡ s.es
    clause =
        ap (λ (t : List ℕ). first_clause (drop start t)) s.is
        ∙ ap first_clause (drop_at (laid s.xs) (whole (standing s.es) ++ laid s.ys) start (sym s.here))
        ∙ block_clause (laid s.ys) (standing s.es) s.fine

-- ---- the end is dropped

module _ {table index : List ℕ} {start : ℕ} (h : Here table index start) (table₁ index₁ : List ℕ) (e : table₁ ≡ marked_at 2 511 start table)
    (indexed : Indexed table₁ index₁)
    (at : ℕ) (place : at + 1 ≡ start + first_length (drop start table₁)) where
  s : Stands table start
  s = stands h

  es : List ℕ
  es = map (marked 0 511) s.es

  same_mark : (l : List ℕ) → Every Entry l → map (marked 2 511) l ≡ map (marked 0 511) l
  same_mark [] all = refl
  same_mark (y ∷ l) all = ap₂ ◌∷◌ (one (ltb y 512) refl) (same_mark l all.1)
    where
      one : (t : Bool) → ltb y 512 ≡ t → marked 2 511 y ≡ marked 0 511 y
      one true b =
          let small = ltb-true y 512 b in
          marked_goes 2 511 y (entry_two y all.0) (omega arith) small ∙ sym (marked_goes 0 511 y (omega arith) (omega arith) small)
      one false b =
          let large = ltb-false y 512 b in
          marked_stays 2 511 y (λ p q r. omega arith) ∙ sym (marked_stays 0 511 y (λ p q r. omega arith))

  as_many : length es ≡ length s.es
  unfolding es
  as_many = length-map s.es (marked 0 511)

  fine_es : Every (λ x. Entry x × (512 ≤ x)) es
  unfolding es
  fine_es = all_marked s.es s.fine

  entries : Every Entry es
  entries = every_map (λ x. Entry x × (512 ≤ x)) Entry (λ x p. p.0) es fine_es

  emptied : table₁ ≡ around s.xs (standing es) s.ys
  unfolding es
  emptied =
      e ∙ ap (marked_at 2 511 start) s.is
      ∙ marked_around 2 511 start s.xs (standing s.es) s.ys s.here s.fine
      ∙ ap (λ (l : List ℕ). laid s.xs ++ (l ++ laid s.ys)) (map_append (marked 2 511) s.es (0 ∷ []) ∙ ap₂ ◌++◌ (same_mark s.es s.fine)
      (ap (λ (x : ℕ). x ∷ []) (marked_stays 2 511 0 (λ p q r. omega arith))))

  at_end : at ≡ length (laid s.xs ++ es)
  at_end =
      let a : first_length (drop start table₁) ≡ length (es ++ (0 ∷ [])) =
      ap (λ (t : List ℕ). first_length (drop start t)) emptied
      ∙ ap first_length (drop_at (laid s.xs) (whole (standing es) ++ laid s.ys) start (sym s.here))
      ∙ block_length (laid s.ys) (standing es) entries in
      let b = length-append es (0 ∷ []) in
      let c = length-append (laid s.xs) es in
      let d = s.here in
      omega arith

  shape : (x : ℕ) → laid s.xs ++ ((es ++ (x ∷ [])) ++ laid s.ys) ≡ (laid s.xs ++ es) ++ (x ∷ laid s.ys)
  shape x = ap (λ (l : List ℕ). laid s.xs ++ l) (append_assoc es (x ∷ []) (laid s.ys)) ∙ sym (append_assoc (laid s.xs) es (x ∷ laid s.ys))

  pub end_inside : at < length table₁
  end_inside =
      let a = ap length (emptied ∙ shape 0) ∙ length-append (laid s.xs ++ es) (0 ∷ laid s.ys) in
      let b = at_end in
      omega arith

  ended : set table₁ at 512 ≡ around s.xs (gone es) s.ys
  ended =
      ap₂ (λ (t : List ℕ) (n : ℕ). set t n 512) (emptied ∙ shape 0) at_end
      ∙ set_middle (laid s.xs ++ es) 0 512 (laid s.ys)
      ∙ sym (shape 512)

  pub whole_dropped : set table₁ at 512 ≡ marked_at 0 511 start table
  unfolding es
  whole_dropped =
      ended
      ∙ sym (ap (marked_at 0 511 start) s.is
      ∙ marked_around 0 511 start s.xs (standing s.es) s.ys s.here s.fine
      ∙ ap (λ (l : List ℕ). laid s.xs ++ (l ++ laid s.ys))
      (map_append (marked 0 511) s.es (0 ∷ []) ∙ ap (λ (x : ℕ). map (marked 0 511) s.es ++ (x ∷ []))
      (marked_goes 0 511 0 (omega arith) (omega arith) (omega arith))))

  pub end_forgotten : removed index₁ 1 start ≡ index_of (set table₁ at 512)
  end_forgotten =
      ap₂ (λ (i : List ℕ) (n : ℕ). removed i 1 n) (indexed ∙ ap index_of emptied) s.here
      ∙ removed_index s.xs s.ys (standing es) (gone es) (ap (λ (l : List ℕ). l) ends_same) s.fine_xs s.fine_ys entries fine_es 1 (omega arith) few
      (λ c small other. has_append c es (512 ∷ []) ∙ ap (λ (b : Bool). has_left c es || (b || false)) (ne_eqb c 512 (λ z. omega arith) ∙ sym (ne_eqb c 1 other))
      ∙ sym (has_append c es (0 ∷ [])))
      (gone_unlisted es entries)
      ∙ ap index_of (sym ended)
    where
      ends_same : codes (whole (gone es)) ≡ codes (whole (standing es))
      ends_same = map_append (λ x. x % 512) es (512 ∷ []) ∙ sym (map_append (λ x. x % 512) es (0 ∷ []))

      few : length (around s.xs (standing es) s.ys) ≤ max_entries
      few =
          let a = ap length (sym emptied) in
          let b = ap length s.is in
          let f = h.few in
          let l = length-append (laid s.xs) (whole (standing es) ++ laid s.ys) in
          let m = length-append (whole (standing es)) (laid s.ys) in
          let n = length-append es (0 ∷ []) in
          let o = as_many in
          let l' = length-append (laid s.xs) (whole (standing s.es) ++ laid s.ys) in
          let m' = length-append (whole (standing s.es)) (laid s.ys) in
          let n' = length-append s.es (0 ∷ []) in
          omega arith
