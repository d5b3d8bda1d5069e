-- The clauses of a literal are dropped, and its opposite elsewhere, by the two lists.
-- Assumes nothing.
use Prim.Native.Nat.{ℕ, suc, ◌+◌, ◌/◌, ◌≤◌, ◌<◌}
use native.Mathlib.Omega.{arith}
use mathlib.Core.Path.{◌≡◌, refl, sym, ◌∙◌, ap, ap₂, subst}
use mathlib.Core.Logic.{◌⊎◌, inl, inr}
use mathlib.Core.Bool.{Bool, true, false, not, cond, ◌&&◌, false≢true}
use mathlib.Core.List.{List, [], ◌∷◌, ◌++◌, map}
use borrow.Author.Tests.{eq-eqb}
use lib.Dec.{eqb, ltb}
use lib.IntN.{ℤ}
use lib.ListN.{length, get_or, take, length-append}
use Rattle.formula.specs.Formula.{max_entries, Clause}
use Rattle.codes.specs.Codes.{last_code, opposite, has}
use Rattle.trimming_rules.specs.Trimming as Trimming
use Rattle.trimming_rules.specs.Trimming.{keep, without_clauses, without_literal, set_true}
use Rattle.trimming_rules.proofs.ClauseLaws.{Every, In, every_from, without_clauses_none, without_literal_none}
use Rattle.trimming_marks.specs.Marks.{is_left, marked}
use Rattle.index.specs.Occurrences.{listed, begins}
use Rattle.index.specs.Index.{code_count, begin_of, end_of, without, cleared}
use Rattle.trimming.specs.Private.Table.{literal_of, clauses_left, Entry, Block, standing, gone, whole, Fine, laid, Laid, marked_at, Indexed, Here}
use Rattle.trimming.specs.Private.Table.{AllBut, Except, Irreducible, UnitKnown, Units, Toward, Cleared, Dropped}
use Rattle.trimming.proofs.NotedLaws.{gone_unit, units_changed, no_unit, units_named}
use Rattle.trimming.proofs.CodeLaws.{opposite_literal, opposite_half}
use Rattle.trimming.proofs.BlockLaws.{map_append, keep_append, every_append}
use Rattle.trimming.proofs.ListedLaws.{block_has, names_from, names_append, whole_some, begins_at}
use Rattle.trimming.proofs.IndexLaws.{index_cleared}
use Rattle.trimming.proofs.ChangeLaws.{around, laid_around}
use Rattle.trimming.proofs.PassLaws.{Local}
use Rattle.trimming.proofs.MarkLaws.{marked_goes, marked_stays, gone_stays, all_marked, marked_entries, has_literal, keep_keep, every_all}
use Rattle.trimming.proofs.SetLaws.{kept_literals_of, marked_none_has, marked_other_has}
use Rattle.trimming.proofs.EndLaws.{every_front}
use Rattle.trimming.proofs.NamedLaws.{NamedAt, named, gone_without, standing_has, standing_listed, none_listed, list_empty, here_named, first_named}
use Rattle.trimming.proofs.NamedLaws.{lists}
use Rattle.trimming.proofs.OneLaws.{toward_begins, toward_ends, toward_more, Marks, after_length, after_list, after_fewer, Becomes, except_changed}

-- ---- a clause that a code's list names

pub record Spot (table : List ℕ) (c s : ℕ) : Type 0 where
  pub xs : List Block
  pub ys : List Block
  pub es : List ℕ
  pub is : table ≡ around xs (standing es) ys
  pub here : s ≡ length (laid xs)
  pub fine_xs : Every Fine xs
  pub fine_ys : Every Fine ys
  pub fine : Every Entry es
  pub has : has c es ≡ true

pub spot : {table : List ℕ} → Laid table → (c s : ℕ) → 2 ≤ c → c < last_code + 1 → In s (listed c table) → Spot table c s
spot {table} l c s two small i = go n.block refl
  where
    n : NamedAt c 0 s l.blocks
    n = named c 0 s l.blocks (subst (In s) (lists l c) i)

    placed : table ≡ around n.before n.block n.behind
    placed = l.is ∙ ap laid n.is ∙ laid_around n.before n.block n.behind

    parts : Every Fine n.before × Every Fine (n.block ∷ n.behind)
    parts = every_front Fine n.before (n.block ∷ n.behind) (subst (Every Fine) n.is l.fine)

    go : (b : Block) → n.block ≡ b → Spot table c s
    go (standing es) e =
        let f : Fine (standing es) = subst Fine e parts.1.0 in
        record {
          xs = n.before;
          ys = n.behind;
          es = es;
          is = placed ∙ ap (λ (b : Block). around n.before b n.behind) e;
          here = n.here ∙ (let z : 0 + length (laid n.before) ≡ length (laid n.before) = omega arith in z);
          fine_xs = parts.0;
          fine_ys = parts.1.1;
          fine = f;
          has = sym (standing_has c two es f) ∙ ap (block_has c) (sym e) ∙ n.has;
        }
    go (gone es) e = absurd (false≢true (sym (gone_without c (omega arith) es (subst Fine e parts.1.0)) ∙ ap (block_has c) (sym e) ∙ n.has))

module _ {table : List ℕ} {c s : ℕ} (p : Spot table c s) where
  pub spot_inside : s < length table
  spot_inside =
      let a = ap length p.is ∙ length-append (laid p.xs) (whole (standing p.es) ++ laid p.ys) in
      let b = length-append (whole (standing p.es)) (laid p.ys) in
      let w = whole_some (standing p.es) in
      let h = p.here in
      omega arith

  pub spot_begins : begins table s ≡ true
  spot_begins = ap₂ begins p.is p.here ∙ begins_at p.xs (whole (standing p.es) ++ laid p.ys)

  -- The clause is dropped.
  module _ (table' : List ℕ) (e : table' ≡ marked_at 0 511 s table) where
    unfoldable pub goes : Marks table table' s 0 511
    goes =
        record {
          xs = p.xs;
          ys = p.ys;
          b = standing p.es;
          d = gone (map (marked 0 511) p.es);
          is = p.is;
          here = p.here;
          fine_xs = p.fine_xs;
          fine_ys = p.fine_ys;
          fine_b = p.fine;
          fine_d = all_marked p.es p.fine;
          made = sym (map_append (marked 0 511) p.es (0 ∷ []) ∙ ap (λ (x : ℕ). map (marked 0 511) p.es ++ (x ∷ []))
              (marked_goes 0 511 0 (omega arith) (omega arith) (omega arith)));
          written = e;
        }

    pub goes_from_list : c < 512 → listed c table' ≡ without s (listed c table)
    unfolding goes
    goes_from_list small = after_fewer goes c (gone_without c small (map (marked 0 511) p.es) (all_marked p.es p.fine))

  -- Its places of one code are dropped.
  module _ (o : ℕ) (two : 2 ≤ o) (small : o < last_code + 1) (table' : List ℕ) (e : table' ≡ marked_at o o s table) where
    unfoldable pub loses : Marks table table' s o o
    loses =
        record {
          xs = p.xs;
          ys = p.ys;
          b = standing p.es;
          d = standing (map (marked o o) p.es);
          is = p.is;
          here = p.here;
          fine_xs = p.fine_xs;
          fine_ys = p.fine_ys;
          fine_b = p.fine;
          fine_d = marked_entries o o p.es p.fine;
          made = sym (map_append (marked o o) p.es (0 ∷ []) ∙ ap (λ (x : ℕ). map (marked o o) p.es ++ (x ∷ []))
              (marked_stays o o 0 (λ a b r. omega arith)));
          written = e;
        }

    pub loses_own : listed o table' ≡ without s (listed o table)
    unfolding loses
    loses_own = after_fewer loses o (standing_has o two (map (marked o o) p.es) (marked_entries o o p.es p.fine) ∙ marked_none_has o two small p.es)

    pub loses_no_other : (d : ℕ) → d < code_count → (d ≡ o → ⊥) → listed d table' ≡ listed d table
    unfolding loses
    loses_no_other d below other = after_list loses d (marked_other_has o two small d below other p.es p.fine)

without_in : (s : ℕ) (l : List ℕ) → In s l → suc (length (without s l)) ≡ length l
without_in s [] i = absurd i
without_in s (x ∷ l) (inl e) = rw (eq-eqb s x e)
without_in s (x ∷ l) (inr i) = go (eqb s x) (without_in s l i)
  where
    go : (t : Bool) → suc (length (without s l)) ≡ length l → suc (length (cond t l (x ∷ without s l))) ≡ suc (length l)
    go true later = refl
    go false later = ap suc later

-- ---- the clauses of a literal

pub clauses_local : (z : ℤ) → Local (without_clauses z)
clauses_local z = record { none = refl; spread = λ xs ys. keep_append (λ c. not (Trimming.has z c)) xs ys }

module _ (code : ℕ) (two : 2 ≤ code) (small : code < last_code + 1) where
  pub record Thinning (table₀ table index : List ℕ) : Type 0 where
    pub toward : Toward (without_clauses (literal_of code)) table₀ table
    pub few : length table ≤ max_entries
    pub indexed : Indexed table index
    pub irreducible : (kinds : List ℕ) → Except (Irreducible kinds) [] table₀ → Except (Irreducible kinds) [] table
    pub units : (kinds firsts : List ℕ) → Units kinds firsts [] [] (code / 2) table₀ → Units kinds firsts [] [] (code / 2) table

  pub thinning_begins : (table index : List ℕ) → Laid table → length table ≤ max_entries → Indexed table index → Thinning table table index
  thinning_begins table index l few indexed =
      record {
        toward = toward_begins (without_clauses (literal_of code)) table l;
        few = few;
        indexed = indexed;
        irreducible = λ kinds p. p;
        units = λ kinds firsts u. u;
      }

  module _ {table₀ table index : List ℕ} (t : Thinning table₀ table index) where
    pub next_here : (start : ℕ) → ltb (begin_of index code) (end_of index code) ≡ true → start ≡ get_or index (begin_of index code) 0 → Here table index start
    next_here start more e =
        subst (Here table index) (sym e)
        (here_named t.toward.laid_out t.few t.indexed code (get_or index (begin_of index code) 0) small
        (first_named t.toward.laid_out t.few t.indexed code (omega arith) more))

    module _ (start : ℕ) (more : ltb (begin_of index code) (end_of index code) ≡ true) (es : start ≡ get_or index (begin_of index code) 0)
        (table' index' : List ℕ)
        (e : table' ≡ marked_at 0 511 start table) (indexed' : Indexed table' index') where
      in_list : In start (listed code table)
      in_list = subst (λ (s : ℕ). In s (listed code table)) (sym es) (first_named t.toward.laid_out t.few t.indexed code (omega arith) more)

      p : Spot table code start
      p = spot t.toward.laid_out code start two small in_list

      pub thinning_more : Thinning table₀ table' index'
      unfolding p goes
      thinning_more =
          record {
            toward = toward_more (goes p table' e) (without_clauses (literal_of code)) (clauses_local (literal_of code)) shown_none t.toward;
            few = let a = after_length (goes p table' e) in let f = t.few in omega arith;
            indexed = indexed';
            irreducible = λ kinds all. except_changed (Irreducible kinds) [] [] start (λ o other i. i) 0 511 (t.irreducible kinds all) (spot_inside p)
                (spot_begins p) table' e (λ xs ys b fx fy fb is here. becomes kinds xs ys b fx fy fb is here);
            units = λ kinds firsts u. units_changed kinds firsts [] [] [] [] (code / 2) start 0 511 (t.units kinds firsts u) (spot_inside p) (spot_begins p)
                (λ o other i. i) (λ o i. i) table' e (λ xs ys b fx fy fb is here. no_unit_left kinds firsts b fb)
                (λ xs ys b fx fy fb is here v other f. no_unit kinds firsts [] code two small xs ys b fx fy fb is start here in_list v other f);
          }
        where
          shown_none : without_clauses (literal_of code) [] ≡ without_clauses (literal_of code) (map literal_of (keep is_left p.es) ∷ [])
          shown_none =
              sym (ap (λ (b : Bool). cond (not b) (map literal_of (keep is_left p.es) ∷ []) []) (has_literal code two small p.es p.fine ∙ p.has))

          becomes : (kinds : List ℕ) (xs ys : List Block) (b : Block) → Every Fine xs → Every Fine ys → Fine b → table ≡ around xs b ys →
              start ≡ length (laid xs) → Becomes (Irreducible kinds) [] start 0 511 b
          becomes kinds xs ys (standing cl) fx fy fb is here =
              record {
                after = gone (map (marked 0 511) cl);
                made = sym (map_append (marked 0 511) cl (0 ∷ []) ∙ ap (λ (x : ℕ). map (marked 0 511) cl ++ (x ∷ []))
                    (marked_goes 0 511 0 (omega arith) (omega arith) (omega arith)));
                fine = all_marked cl fb;
                then = inr refl;
              }
          becomes kinds xs ys (gone cl) fx fy fb is here =
              record {
                after = gone cl;
                made = sym (map_append (marked 0 511) cl (512 ∷ []) ∙ ap₂ ◌++◌ (gone_stays 0 511 cl fb)
                    (ap (λ (x : ℕ). x ∷ []) (marked_stays 0 511 512 (λ a b r. omega arith))));
                fine = fb;
                then = inr refl;
              }

          no_unit_left : (kinds firsts : List ℕ) (b : Block) → Fine b → Becomes (UnitKnown kinds firsts) [] start 0 511 b
          no_unit_left kinds firsts (standing cl) fb =
              record {
                after = gone (map (marked 0 511) cl);
                made = sym (map_append (marked 0 511) cl (0 ∷ []) ∙ ap (λ (x : ℕ). map (marked 0 511) cl ++ (x ∷ []))
                    (marked_goes 0 511 0 (omega arith) (omega arith) (omega arith)));
                fine = all_marked cl fb;
                then = inr (λ some_unit. absurd (some_unit (gone_unit kinds (map (marked 0 511) cl) (all_marked cl fb))));
              }
          no_unit_left kinds firsts (gone cl) fb =
              record {
                after = gone cl;
                made = sym (map_append (marked 0 511) cl (512 ∷ []) ∙ ap₂ ◌++◌ (gone_stays 0 511 cl fb)
                    (ap (λ (x : ℕ). x ∷ []) (marked_stays 0 511 512 (λ a b r. omega arith))));
                fine = fb;
                then = inr (λ some_unit. absurd (some_unit (gone_unit kinds cl fb)));
              }

      pub thinning_less : length (listed code table') < length (listed code table)
      unfolding p
      thinning_less = let a = ap length (goes_from_list p table' e (omega arith)) in let b = without_in start (listed code table) in_list in omega arith

    pub thinning_ends : ltb (begin_of index code) (end_of index code) ≡ false → Dropped (without_clauses (literal_of code)) (code / 2) [] table₀ table index ×
        (listed code table ≡ [])
    thinning_ends over = (
      record {
        passed = toward_ends (without_clauses (literal_of code)) t.toward (without_clauses_none (literal_of code) (clauses_left table)
            (none_listed t.toward.laid_out code two small (list_empty t.toward.laid_out t.few t.indexed code (omega arith) over)));
        indexed = t.indexed;
        standing = tt;
        irreducible = t.irreducible;
        units = t.units;
      },
      list_empty t.toward.laid_out t.few t.indexed code (omega arith) over,
    )

-- ---- the places of a literal

pub literal_local : (z : ℤ) → Local (without_literal z)
literal_local z = record { none = refl; spread = λ xs ys. map_append (keep (λ y. not (Trimming.same z y))) xs ys }

and_same : (b : Bool) → b ≡ (b && b)
and_same true = refl
and_same false = refl

pub all_but_more : (P : ℕ → Block → Type 0) (names names' : List ℕ) → ((o : ℕ) → In o names → In o names') → (o : ℕ) (bs : List Block) → AllBut P names o bs →
    AllBut P names' o bs
all_but_more P names names' more o [] all = tt
all_but_more P names names' more o (b ∷ bs) all = (still all.0, all_but_more P names names' more (o + length (whole b)) bs all.1)
  where
    still : In o names ⊎ P o b → In o names' ⊎ P o b
    still (inl i) = inl (more o i)
    still (inr p) = inr p

pub except_more : (P : ℕ → Block → Type 0) {names names' table : List ℕ} → ((o : ℕ) → In o names → In o names') → Except P names table → Except P names' table
except_more P {names} {names'} more p = record { blocks = p.blocks; is = p.is; fine = p.fine; all = all_but_more P names names' more 0 p.blocks p.all }

-- A clause that has a code is left.
pub in_names : (c : ℕ) (xs : List Block) (b : Block) (ys : List Block) → block_has c b ≡ true → In (length (laid xs)) (names_from c 0 (xs ++ (b ∷ ys)))
in_names c xs b ys h =
    subst (In (length (laid xs))) (sym (names_append c 0 xs (b ∷ ys)))
    (later (names_from c 0 xs) (cond (block_has c b) ((0 + length (laid xs)) ∷ names_from c ((0 + length (laid xs)) + length (whole b)) ys)
    (names_from c ((0 + length (laid xs)) + length (whole b)) ys))
    (subst (λ (t : Bool). In (length (laid xs)) (cond t ((0 + length (laid xs)) ∷ names_from c ((0 + length (laid xs)) + length (whole b)) ys)
    (names_from c ((0 + length (laid xs)) + length (whole b)) ys))) (sym h) (inl (let e : length (laid xs) ≡ 0 + length (laid xs) = omega arith in e))))
  where
    later : (l m : List ℕ) → In (length (laid xs)) m → In (length (laid xs)) (l ++ m)
    later [] m i = i
    later (x ∷ l) m i = inr (later l m i)

pub listed_standing : {table : List ℕ} → Laid table → (c s : ℕ) → 2 ≤ c → c < last_code + 1 → In s (listed c table) → In s (listed 1 table)
listed_standing {table} l c s two small i =
    let p = spot l c s two small i in
    let whole_table : Laid table = record {
      blocks = p.xs ++ (standing p.es ∷ p.ys);
      is = p.is ∙ sym (laid_around p.xs (standing p.es) p.ys);
      fine = every_append Fine p.xs (standing p.es ∷ p.ys) p.fine_xs (p.fine, p.fine_ys);
    } in
    subst (In s) (sym (lists whole_table 1))
    (subst (λ (n : ℕ). In n (names_from 1 0 (p.xs ++ (standing p.es ∷ p.ys)))) (sym p.here)
    (in_names 1 p.xs (standing p.es) p.ys (standing_listed p.es)))

pub without_front : (s : ℕ) (l : List ℕ) → without s (s ∷ l) ≡ l
without_front s l = rw (eq-eqb s s refl)

module _ (o : ℕ) (two : 2 ≤ o) (small : o < last_code + 1) where
  pub clearing_begins : (table : List ℕ) → Laid table → Cleared o table table (listed o table)
  clearing_begins table l =
      record {
        toward = toward_begins (without_literal (literal_of o)) table l;
        own = refl;
        others = λ d h other. refl;
        known = λ s i. i;
        irreducible = λ kinds p. except_more (Irreducible kinds) (λ x i. absurd i) p;
        units = λ kinds firsts u. units_named kinds firsts o two small u;
      }

  module _ {table₀ table : List ℕ} {start : ℕ} {rest : List ℕ} (t : Cleared o table₀ table (start ∷ rest)) where
    q : Spot table o start
    q = spot t.toward.laid_out o start two small (subst (In start) (sym t.own) (inl refl))

    pub clearing_more : (table' : List ℕ) → table' ≡ marked_at o o start table → Cleared o table₀ table' rest
    unfolding q loses
    clearing_more table' e =
        record {
          toward = toward_more (loses q o two small table' e) (without_literal (literal_of o)) (literal_local (literal_of o)) shown_same t.toward;
          own = loses_own q o two small table' e ∙ ap (without start) t.own ∙ without_front start rest;
          others = λ d h other. loses_no_other q o two small table' e d h other ∙ t.others d h other;
          known = λ s i. t.known s (inr i);
          irreducible = λ kinds all. except_changed (Irreducible kinds) (listed o table₀) (listed o table₀) start (λ n other i. i) o o
              (t.irreducible kinds all) (spot_inside q) (spot_begins q) table' e (λ xs ys b fx fy fb is here. becomes kinds b fb);
          units = λ kinds firsts u. units_changed kinds firsts (listed o table₀) (listed o table₀) (listed o table₀) (listed o table₀) (o / 2) start o o
              (t.units kinds firsts u) (spot_inside q) (spot_begins q) (λ n other i. i) (λ n i. i) table' e
              (λ xs ys b fx fy fb is here. named_still kinds firsts b fb) (λ xs ys b fx fy fb is here v other f. f.apart (t.known start (inl refl)));
        }
      where
        shown_same : without_literal (literal_of o) (map literal_of (keep is_left (map (marked o o) q.es)) ∷ []) ≡ without_literal (literal_of o)
            (map literal_of (keep is_left q.es) ∷ [])
        shown_same =
            ap (λ (c : Clause). keep (λ y. not (Trimming.same (literal_of o) y)) c ∷ []) (kept_literals_of o two small q.es q.fine)
            ∙ ap (λ (c : Clause). c ∷ [])
            (sym (keep_keep (λ y. not (Trimming.same (literal_of o) y)) (λ y. not (Trimming.same (literal_of o) y)) (λ y. not (Trimming.same (literal_of o) y))
            (map literal_of (keep is_left q.es))
            (every_all (λ y. not (Trimming.same (literal_of o) y) ≡ (not (Trimming.same (literal_of o) y) && not (Trimming.same (literal_of o) y)))
            (λ y. and_same (not (Trimming.same (literal_of o) y))) (map literal_of (keep is_left q.es)))))

        becomes : (kinds : List ℕ) (b : Block) → Fine b → Becomes (Irreducible kinds) (listed o table₀) start o o b
        becomes kinds (standing cl) fb =
            record {
              after = standing (map (marked o o) cl);
              made = sym (map_append (marked o o) cl (0 ∷ []) ∙ ap (λ (x : ℕ). map (marked o o) cl ++ (x ∷ [])) (marked_stays o o 0 (λ a b r. omega arith)));
              fine = marked_entries o o cl fb;
              then = inl (t.known start (inl refl));
            }
        becomes kinds (gone cl) fb =
            record {
              after = gone cl;
              made = sym (map_append (marked o o) cl (512 ∷ []) ∙ ap₂ ◌++◌ (gone_stays o o cl fb)
                  (ap (λ (x : ℕ). x ∷ []) (marked_stays o o 512 (λ a b r. omega arith))));
              fine = fb;
              then = inl (t.known start (inl refl));
            }

        named_still : (kinds firsts : List ℕ) (b : Block) → Fine b → Becomes (UnitKnown kinds firsts) (listed o table₀) start o o b
        named_still kinds firsts (standing cl) fb =
            record {
              after = standing (map (marked o o) cl);
              made = sym (map_append (marked o o) cl (0 ∷ []) ∙ ap (λ (x : ℕ). map (marked o o) cl ++ (x ∷ [])) (marked_stays o o 0 (λ a b r. omega arith)));
              fine = marked_entries o o cl fb;
              then = inl (t.known start (inl refl));
            }
        named_still kinds firsts (gone cl) fb =
            record {
              after = gone cl;
              made = sym (map_append (marked o o) cl (512 ∷ []) ∙ ap₂ ◌++◌ (gone_stays o o cl fb)
                  (ap (λ (x : ℕ). x ∷ []) (marked_stays o o 512 (λ a b r. omega arith))));
              fine = fb;
              then = inl (t.known start (inl refl));
            }

  pub clearing_ends : {table₀ table index : List ℕ} → Cleared o table₀ table [] → length table₀ ≤ max_entries → Laid table₀ → Indexed table₀ index →
      Dropped (without_literal (literal_of o)) (o / 2) (listed o table₀) table₀ table (cleared index o)
  clearing_ends {table₀} {table} {index} t few l indexed =
      record {
        passed = toward_ends (without_literal (literal_of o)) t.toward
            (without_literal_none (literal_of o) (clauses_left table) (none_listed t.toward.laid_out o two small t.own));
        indexed = ap (λ (i : List ℕ). cleared i o) indexed ∙ index_cleared table₀ table few t.toward.same_codes o (omega arith) t.others t.own;
        standing = every_from (λ s. In s (listed 1 table)) (listed o table₀) (λ s i. subst (In s) (sym (t.others 1 (omega arith) (λ e. omega arith)))
            (listed_standing l o s two small i));
        irreducible = t.irreducible;
        units = t.units;
      }

-- ---- both

pub both_dropped : (code : ℕ) → 2 ≤ code → (opp : ℕ) → opp ≡ opposite code → {names table₀ table₁ table₂ index₁ index₂ : List ℕ} →
    Dropped (without_clauses (literal_of code)) (code / 2) [] table₀ table₁ index₁
    → Dropped (without_literal (literal_of opp)) (opp / 2) names table₁ table₂ index₂ → Dropped (set_true (literal_of code)) (code / 2) names table₀ table₂
    index₂
both_dropped code two opp e {names} {table₀} {table₁} {table₂} a b =
    record {
      passed =
          record {
            laid_out = b.passed.laid_out;
            sized = b.passed.sized ∙ a.passed.sized;
            same_codes = b.passed.same_codes ∙ a.passed.same_codes;
            changed =
                b.passed.changed
                ∙ ap (without_literal (literal_of opp)) a.passed.changed
                ∙ ap (λ (z : ℤ). without_literal z (without_clauses (literal_of code) (clauses_left table₀)))
                (ap literal_of e ∙ sym (opposite_literal code two));
          };
      indexed = b.indexed;
      standing = b.standing;
      irreducible = λ kinds all. b.irreducible kinds (a.irreducible kinds all);
      units = λ kinds firsts u. subst (λ (n : ℕ). Units kinds firsts names names n table₂) half
          (b.units kinds firsts (subst (λ (n : ℕ). Units kinds firsts [] [] n table₁) (sym half) (a.units kinds firsts u)));
    }
  where
    half : opp / 2 ≡ code / 2
    half = ap (λ (n : ℕ). n / 2) e ∙ opposite_half code two

-- ---- names that are saved

pub saved_names : (names l : List ℕ) → length l ≤ length names → ((k : ℕ) → k < length l → get_or names k 0 ≡ get_or l k 0) → take (length l) names ≡ l
saved_names names [] h same = refl
saved_names [] (x ∷ l) h same = absurd (omega arith)
saved_names (n ∷ names) (x ∷ l) h same = ap₂ ◌∷◌ (same 0 (omega arith)) (saved_names names l (omega arith) (λ k below. same (suc k) (omega arith)))
