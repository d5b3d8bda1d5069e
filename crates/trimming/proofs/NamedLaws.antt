-- The clauses that the list of a code names, and what becomes of the table where one of them is changed.
-- Assumes nothing.
use Prim.Native.Nat.{ℕ, zero, suc, ◌+◌, ◌≤◌, ◌<◌}
use native.Mathlib.Omega.{arith}
use mathlib.Core.Path.{◌≡◌, refl, sym, ◌∙◌, ap, ap₂, subst}
use mathlib.Core.Logic.{inl, inr}
use mathlib.Core.Bool.{Bool, true, false, cond, ◌||◌, or-false, false≢true}
use mathlib.Core.List.{List, [], ◌∷◌, ◌++◌}
use borrow.Author.Tests.{ne_eqb, ltb-true, ltb-false, le-ltb, lt-ltb}
use lib.Dec.{eqb, ltb}
use lib.ListN.{length, get_or, drop, length-append}
use lib.Seq.{drop_at}
use Rattle.formula.specs.Formula.{max_entries}
use Rattle.codes.specs.Codes.{last_code, has}
use Rattle.trimming_rules.specs.Trimming.{found}
use Rattle.trimming_rules.proofs.ClauseLaws.{Every, In}
use Rattle.index.specs.Occurrences.{whole_clause, has_left, listed, begins, Names}
use Rattle.index.specs.Index.{code_count, begin_of, end_of}
use Rattle.trimming.specs.Private.Table.{literal_of, clauses_left, Entry, Block, standing, gone, inner, whole, Fine, laid, shown, all_shown, Laid}
use Rattle.trimming.specs.Private.Table.{Indexed, Here}
use Rattle.trimming.proofs.BlockLaws.{entries_of, laid_clauses}
use Rattle.trimming.proofs.IndexLaws.{Read, reads}
use Rattle.trimming.proofs.ListedLaws.{block_has, names_from, listed_laid, whole_front, whole_some, begins_at}
use Rattle.trimming.proofs.ChangeLaws.{around, laid_around, has_append, under_itself, entry_two}
use Rattle.trimming.proofs.EndLaws.{every_front}
use Rattle.trimming.proofs.PureLaws.{found_block, found_append}

-- ---- a name of the list

pub record NamedAt (c o s : ℕ) (bs : List Block) : Type 0 where
  pub before : List Block
  pub block : Block
  pub behind : List Block
  pub is : bs ≡ before ++ (block ∷ behind)
  pub here : s ≡ o + length (laid before)
  pub has : block_has c block ≡ true

pub named : (c o s : ℕ) (bs : List Block) → In s (names_from c o bs) → NamedAt c o s bs
named c o s [] i = absurd i
named c o s (b ∷ bs) i = go (block_has c b) refl i (named c (o + length (whole b)) s bs)
  where
    deeper : NamedAt c (o + length (whole b)) s bs → NamedAt c o s (b ∷ bs)
    deeper n =
        record {
          before = b ∷ n.before;
          block = n.block;
          behind = n.behind;
          is = ap (λ (l : List Block). b ∷ l) n.is;
          here = n.here ∙ (let l = length-append (whole b) (laid n.before) in let e : (o + length (whole b)) + length (laid n.before) ≡ o + length
              (whole b ++ laid n.before) = omega arith in e);
          has = n.has;
        }

    go : (t : Bool) → block_has c b ≡ t → In s (cond t (o ∷ names_from c (o + length (whole b)) bs) (names_from c (o + length (whole b)) bs)) →
        (In s (names_from c (o + length (whole b)) bs) → NamedAt c (o + length (whole b)) s bs) → NamedAt c o s (b ∷ bs)
    go true e (inl p) later = record { before = []; block = b; behind = bs; is = refl; here = p ∙ (let z : o ≡ o + 0 = omega arith in z); has = e }
    go true e (inr j) later = deeper (later j)
    go false e j later = deeper (later j)

pub get_or_in : (l : List ℕ) (k : ℕ) → k < length l → In (get_or l k 0) l
get_or_in [] k h = absurd (omega arith)
get_or_in (x ∷ l) zero h = inl refl
get_or_in (x ∷ l) (suc k) h = inr (get_or_in l k (omega arith))

-- A clause that is gone has no code.
pub gone_has_none : (c : ℕ) → c < 512 → (es : List ℕ) → Every (λ x. Entry x × (512 ≤ x)) es → has_left c es ≡ false
gone_has_none c small [] all = refl
gone_has_none c small (y ∷ es) all = rw (under_itself y (entry_two y all.0.0), ne_eqb c y (λ e. let h = all.0.1 in omega arith))
    (gone_has_none c small es all.1)

pub gone_without : (c : ℕ) → c < 512 → (es : List ℕ) → Every (λ x. Entry x × (512 ≤ x)) es → block_has c (gone es) ≡ false
gone_without c small es all = has_append c es (512 ∷ []) ∙ ap₂ (λ (a b : Bool). a || (b || false)) (gone_has_none c small es all)
    (ne_eqb c 512 (λ e. omega arith))

-- What a standing clause has, by its entries.
pub has_entries : (c : ℕ) (es : List ℕ) → Every Entry es → has_left c es ≡ has c es
has_entries c [] all = refl
has_entries c (y ∷ es) all = ap₂ ◌||◌ (ap (eqb c) (under_itself y (entry_two y all.0))) (has_entries c es all.1)

pub standing_has : (c : ℕ) → 2 ≤ c → (es : List ℕ) → Every Entry es → block_has c (standing es) ≡ has c es
standing_has c two es all =
    has_append c es (0 ∷ [])
    ∙ ap (λ (b : Bool). has_left c es || (b || false)) (ne_eqb c 1 (λ e. omega arith))
    ∙ or-false (has_left c es)
    ∙ has_entries c es all

pub has_inner : (c : ℕ) → 2 ≤ c → c < 512 → (b : Block) → Fine b → block_has c b ≡ has c (inner b)
has_inner c two small (standing es) f = standing_has c two es f
has_inner c two small (gone es) f = gone_without c small es f ∙ sym (gone_has_none c small es f) ∙ has_entries c es (entries_of (gone es) f)

-- ---- listed as found

nonempty : List ℕ → Bool
nonempty [] = false
nonempty (x ∷ l) = true

names_found : (c : ℕ) → 2 ≤ c → c < last_code + 1 → (o : ℕ) (bs : List Block) → Every Fine bs →
    nonempty (names_from c o bs) ≡ found (literal_of c) (all_shown bs)
unfolding nonempty
names_found c two small o [] f = refl
names_found c two small o (b ∷ bs) f =
    go (block_has c b) refl (names_found c two small (o + length (whole b)) bs f.1)
    ∙ sym (found_append (literal_of c) (shown b) (all_shown bs) ∙ ap (λ (t : Bool). t || found (literal_of c) (all_shown bs))
    (sym (has_inner c two (omega arith) b f.0 ∙ found_block c two small b f.0)))
  where
    go : (t : Bool) → block_has c b ≡ t → nonempty (names_from c (o + length (whole b)) bs) ≡ found (literal_of c) (all_shown bs)
        → nonempty (cond t (o ∷ names_from c (o + length (whole b)) bs) (names_from c (o + length (whole b)) bs)) ≡ (block_has c b || found (literal_of c)
        (all_shown bs))
    go true e later = sym (ap (λ (t : Bool). t || found (literal_of c) (all_shown bs)) e)
    go false e later = later ∙ sym (ap (λ (t : Bool). t || found (literal_of c) (all_shown bs)) e)

or_true : (b : Bool) → (b || true) ≡ true
or_true true = refl
or_true false = refl

pub standing_listed : (es : List ℕ) → block_has 1 (standing es) ≡ true
standing_listed es = has_append 1 es (0 ∷ []) ∙ or_true (has_left 1 es)

module _ {table : List ℕ} (l : Laid table) where
  pub lists : (c : ℕ) → listed c table ≡ names_from c 0 l.blocks
  lists c = ap (listed c) l.is ∙ listed_laid c l.blocks l.fine

  pub shows : clauses_left table ≡ all_shown l.blocks
  shows = ap clauses_left l.is ∙ laid_clauses l.blocks l.fine

  listed_found : (c : ℕ) → 2 ≤ c → c < last_code + 1 → nonempty (listed c table) ≡ found (literal_of c) (clauses_left table)
  listed_found c two small = ap nonempty (lists c) ∙ names_found c two small 0 l.blocks l.fine ∙ ap (found (literal_of c)) (sym shows)

  pub none_listed : (c : ℕ) → 2 ≤ c → c < last_code + 1 → listed c table ≡ [] → found (literal_of c) (clauses_left table) ≡ false
  unfolding nonempty
  none_listed c two small e = sym (listed_found c two small) ∙ ap nonempty e

  module _ {index : List ℕ} (few : length table ≤ max_entries) (indexed : Indexed table index) where
    pub read : (c : ℕ) → c < code_count → Read table index c
    read c small = subst (λ (i : List ℕ). Read table i c) (sym indexed) (reads table few c small)

    -- A list that is not empty by its begin and end.
    pub list_told : (c : ℕ) → 2 ≤ c → c < last_code + 1 → ltb (begin_of index c) (end_of index c) ≡ found (literal_of c) (clauses_left table)
    unfolding nonempty
    list_told c two small = go (listed c table) refl ∙ listed_found c two small
      where
        go : (names : List ℕ) → listed c table ≡ names → ltb (begin_of index c) (end_of index c) ≡ nonempty (listed c table)
        go [] e = let r = (read c (omega arith)).ends in let n = ap length e in le-ltb (begin_of index c) (end_of index c) (omega arith) ∙ sym (ap nonempty e)
        go (x ∷ names) e = let r = (read c (omega arith)).ends in let n = ap length e in lt-ltb (begin_of index c) (end_of index c) (omega arith) ∙ sym
            (ap nonempty e)

    pub list_empty : (c : ℕ) → c < code_count → ltb (begin_of index c) (end_of index c) ≡ false → listed c table ≡ []
    list_empty c small e = go (listed c table) refl
      where
        go : (names : List ℕ) → listed c table ≡ names → names ≡ []
        go [] p = refl
        go (x ∷ names) p = absurd (let r = (read c small).ends in let n = ap length p in let f = ltb-false (begin_of index c) (end_of index c) e in omega arith)

    pub here_named : (c s : ℕ) → c < last_code + 1 → In s (listed c table) → Here table index s
    here_named c s small i =
        record {
          laid_out = l;
          few = few;
          indexed = indexed;
          stands = go n.block refl;
        }
      where
        n : NamedAt c 0 s l.blocks
        n = named c 0 s l.blocks (subst (In s) (lists c) i)

        placed : table ≡ around n.before n.block n.behind
        placed = l.is ∙ ap laid n.is ∙ laid_around n.before n.block n.behind

        start : s ≡ length (laid n.before)
        start = n.here ∙ (let e : 0 + length (laid n.before) ≡ length (laid n.before) = omega arith in e)

        parts : Every Fine n.before × Every Fine (n.block ∷ n.behind)
        parts = every_front Fine n.before (n.block ∷ n.behind) (subst (Every Fine) n.is l.fine)

        go : (b : Block) → n.block ≡ b → Names table 1 s
        go (standing es) e =
            let f : Fine (standing es) = subst Fine e parts.1.0 in
            record {
              inside =
                  let a = ap length placed ∙ length-append (laid n.before) (whole n.block ++ laid n.behind) in
                  let w = whole_some n.block in
                  let b = length-append (whole n.block) (laid n.behind) in
                  let t = start in
                  omega arith;
              first = ap₂ begins placed start ∙ begins_at n.before (whole n.block ++ laid n.behind);
              has =
                  ap (λ (t : List ℕ). has_left 1 (whole_clause (drop s t))) (placed ∙ ap (λ (b : Block). around n.before b n.behind) e)
                  ∙ ap (λ (t : List ℕ). has_left 1 (whole_clause t)) (drop_at (laid n.before) (whole (standing es) ++ laid n.behind) s (sym start))
                  ∙ ap (has_left 1) (whole_front 0 refl (laid n.behind) es f)
                  ∙ has_append 1 es (0 ∷ [])
                  ∙ or_true (has_left 1 es);
            }
        go (gone es) e = absurd (false≢true (sym (gone_without c (omega arith) es (subst Fine e parts.1.0)) ∙ ap (block_has c) (sym e) ∙ n.has))

    pub first_named : (c : ℕ) → c < code_count → ltb (begin_of index c) (end_of index c) ≡ true → In (get_or index (begin_of index c) 0) (listed c table)
    first_named c small e =
        let r = read c small in
        let b = ltb-true (begin_of index c) (end_of index c) e in
        let n = r.ends in
        subst (λ (s : ℕ). In s (listed c table))
        (sym (ap (λ (k : ℕ). get_or index k 0) (let z : begin_of index c ≡ begin_of index c + 0 = omega arith in z) ∙ r.at 0 (omega arith)))
        (get_or_in (listed c table) 0 (omega arith))
