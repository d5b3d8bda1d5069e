-- The first clauses of one entry are noted, forgotten and asked.
-- Assumes nothing.
use Prim.Native.Nat.{ℕ, zero, suc, ◌+◌, ◌*◌, ◌/◌, ◌%◌, ◌≤◌, ◌<◌, min}
use native.Mathlib.Omega.{arith}
use mathlib.Core.Path.{◌≡◌, refl, sym, ◌∙◌, ap, ap₂, subst}
use mathlib.Core.Logic.{◌⊎◌, inl, inr}
use mathlib.Core.Bool.{Bool, true, false, cond, ◌||◌, true≢false}
use mathlib.Core.List.{List, [], ◌∷◌, ◌++◌, append_assoc, append-nil}
use mathlib.Core.Option.{Option, none, some}
use borrow.Author.Tests.{eq-eqb, ne_eqb, eqb-true, eqb-false, ltb-true, ltb-false, le-leb, lt-leb}
use lib.Dec.{eqb, ltb, leb}
use lib.IntN.{ℤ}
use lib.ListN.{length, get_or, set, drop, replicate, length-append, length-set, get_or-replicate}
use lib.Seq.{get_or-set_same, get_or-set_other, drop_at}
use Rattle.std.proofs.lemmas.List.{set-get_or}
use Rattle.formula.specs.Formula.{max_unknowns, max_entries, prefix}
use Rattle.formula.specs.Causes.{any}
use Rattle.codes.specs.Codes.{last_code, opposite, has}
use Rattle.trimming_rules.specs.Trimming as Trimming
use Rattle.trimming_rules.specs.Trimming.{keep, lower, lowest_unit}
use Rattle.trimming_rules.proofs.ClauseLaws.{Every, In}
use Rattle.trimming_marks.specs.Marks.{is_left, first_clause, unit}
use Rattle.index.specs.Occurrences.{listed, begins, Names}
use Rattle.trimming.specs.Private.Table.{literal_of, clauses_left, Entry, Block, standing, gone, inner, whole, Fine, laid, shown, all_shown, Laid}
use Rattle.trimming.specs.Private.Table.{literal_or_none, Picked, AllBut, SomeAt, UnitKnown, FirstUnit, noted_unit, Units}
use Rattle.trimming.proofs.CodeLaws.{Form, even, odd, form, opposite_even, opposite_odd, position_code}
use Rattle.trimming.proofs.BlockLaws.{entries_of, block_clause, laid_append, laid_clauses, shown_append}
use Rattle.trimming.proofs.ListedLaws.{block_has, names_from, whole_some, Split, splits}
use Rattle.trimming.proofs.ChangeLaws.{around, laid_around}
use Rattle.trimming.proofs.UnitLaws.{one, only_one, unit_block, lowest_append, nothing_chosen, some_literal}
use Rattle.trimming.proofs.EndLaws.{every_front}
use Rattle.trimming.proofs.NamedLaws.{has_inner, lists, standing_listed}
use Rattle.trimming.proofs.NotedLaws.{unit_only, gone_unit, SomeSplit, some_split, some_at, some_later}

-- ---- an unknown is set

one_in : (l : List ℕ) → (one l ≡ 0 → ⊥) → any (eqb (one l)) l ≡ true
one_in [] never = absurd (never refl)
one_in (y ∷ []) never = ap (λ (b : Bool). b || false) (eq-eqb y y refl)
one_in (y ∷ z ∷ l) never = absurd (never refl)

kept_in : (x : ℕ) (c : List ℕ) → any (eqb x) (keep is_left c) ≡ true → any (eqb x) c ≡ true
kept_in x [] h = h
kept_in x (y ∷ c) h = go (is_left y) (eqb x y) h (kept_in x c)
  where
    go : (l t : Bool) → any (eqb x) (cond l (y ∷ keep is_left c) (keep is_left c)) ≡ true → (any (eqb x) (keep is_left c) ≡ true → any (eqb x) c ≡ true) →
        (eqb x y || any (eqb x) c) ≡ true
    go true t h later = first (eqb x y) h later
      where
        first : (b : Bool) → (b || any (eqb x) (keep is_left c)) ≡ true → (any (eqb x) (keep is_left c) ≡ true → any (eqb x) c ≡ true) →
            (b || any (eqb x) c) ≡ true
        first true h later = refl
        first false h later = later h
    go false t h later = second (eqb x y) (later h)
      where
        second : (b : Bool) → any (eqb x) c ≡ true → (b || any (eqb x) c) ≡ true
        second true h = refl
        second false h = h

unit_stands : (kinds c : List ℕ) → Every Entry c → (unit kinds c ≡ 0 → ⊥) → has (unit kinds c) c ≡ true
unit_stands kinds c all some_unit =
    let e = unit_only kinds c some_unit ∙ only_one c all in
    ap (λ (x : ℕ). any (eqb x) c) e ∙ kept_in (one (keep is_left c)) c (one_in (keep is_left c) (λ z. some_unit (e ∙ z)))

unit_small : (kinds : List ℕ) (b : Block) → Fine b → (unit kinds (inner b) ≡ 0 → ⊥) → (2 ≤ unit kinds (inner b)) × (unit kinds (inner b) < last_code + 1)
unit_small kinds b f some_unit = let p = (unit_block kinds b f).chosen in (two p.code, p.small)
  where
    two : (unit kinds (inner b) ≡ 1 → ⊥) → 2 ≤ unit kinds (inner b)
    two other = least (unit kinds (inner b)) some_unit other
      where
        least : (n : ℕ) → (n ≡ 0 → ⊥) → (n ≡ 1 → ⊥) → 2 ≤ n
        least n a b = omega arith

half_same : (c u : ℕ) → 2 ≤ c → u / 2 ≡ c / 2 → (u ≡ c) ⊎ (u ≡ opposite c)
half_same c u two e = go (form c two) e
  where
    go : {c : ℕ} → Form c → u / 2 ≡ c / 2 → (u ≡ c) ⊎ (u ≡ opposite c)
    go (even v) e = by (eqb (u % 2) 0) refl
      where
        by : (t : Bool) → eqb (u % 2) 0 ≡ t → (u ≡ 2 * suc v) ⊎ (u ≡ opposite (2 * suc v))
        by true p = let q = eqb-true (u % 2) 0 p in inl (omega arith)
        by false p = let q = eqb-false (u % 2) 0 p in inr (odd_one q ∙ sym (opposite_even v))
          where
            odd_one : (u % 2 ≡ 0 → ⊥) → u ≡ 2 * suc v + 1
            odd_one never = omega arith
    go (odd v) e = by (eqb (u % 2) 0) refl
      where
        by : (t : Bool) → eqb (u % 2) 0 ≡ t → (u ≡ 2 * suc v + 1) ⊎ (u ≡ opposite (2 * suc v + 1))
        by true p = let q = eqb-true (u % 2) 0 p in inr ((let z : u ≡ 2 * suc v = omega arith in z) ∙ sym (opposite_odd v))
        by false p = let q = eqb-false (u % 2) 0 p in inl (odd_one q)
          where
            odd_one : (u % 2 ≡ 0 → ⊥) → u ≡ 2 * suc v + 1
            odd_one never = omega arith

none_has : (c o : ℕ) (bs : List Block) → names_from c o bs ≡ [] → Every (λ b. block_has c b ≡ false) bs
none_has c o [] e = tt
none_has c o (b ∷ bs) e = go (block_has c b) refl e (none_has c (o + length (whole b)) bs)
  where
    go : (t : Bool) → block_has c b ≡ t → cond t (o ∷ names_from c (o + length (whole b)) bs) (names_from c (o + length (whole b)) bs) ≡ [] →
        (names_from c (o + length (whole b)) bs ≡ [] → Every (λ b. block_has c b ≡ false) bs) → Every (λ b. block_has c b ≡ false) (b ∷ bs)
    go true p e later = absurd (let z : ◌≡◌ {A = ℕ} 1 0 = ap (λ (l : List ℕ). count l) e in omega arith)
      where
        count : List ℕ → ℕ
        count [] = 0
        count (x ∷ l) = 1
    go false p e later = (p, later e)

module _ (kinds firsts names : List ℕ) (code : ℕ) (two : 2 ≤ code) (small : code < last_code + 1) (sized : length firsts ≡ max_unknowns + 1) {table : List ℕ}
  where
    pub units_off : Units kinds firsts names names (code / 2) table → listed code table ≡ [] → listed (opposite code) table ≡ [] →
        (opposite code < last_code + 1) → (2 ≤ opposite code) → Units kinds (set firsts (code / 2) 65535) names names 0 table
    units_off u own opp opp_small opp_two =
        record {
          blocks = u.blocks;
          is = u.is;
          fine = u.fine;
          complete = all_other 0 u.blocks u.fine (none_has code 0 u.blocks (sym (lists l code) ∙ own))
              (none_has (opposite code) 0 u.blocks (sym (lists l (opposite code)) ∙ opp)) u.complete;
          sound = λ v other positive below some_IsFirst. by v positive below (eqb v (code / 2)) refl some_IsFirst;
        }
      where
        l : Laid table
        l = record { blocks = u.blocks; is = u.is; fine = u.fine }

        half_below : code / 2 < max_unknowns + 1
        half_below = omega arith

        known_still : (o : ℕ) (b : Block) → Fine b → block_has code b ≡ false → block_has (opposite code) b ≡ false → UnitKnown kinds firsts o b →
            UnitKnown kinds (set firsts (code / 2) 65535) o b
        known_still o b f a c known some_unit =
            subst (λ (n : ℕ). n ≤ o) (sym (get_or-set_other firsts (code / 2) (unit kinds (inner b) / 2) 65535 0 other)) (known some_unit)
          where
            clash : (d : ℕ) → 2 ≤ d → d < last_code + 1 → unit kinds (inner b) ≡ d → block_has d b ≡ false → ⊥
            clash d low high e none? = true≢false (sym (unit_stands kinds (inner b) (entries_of b f) some_unit) ∙ ap (λ (x : ℕ). has x (inner b)) e ∙ sym
                (has_inner d low (omega arith) b f) ∙ none?)

            other : unit kinds (inner b) / 2 ≡ code / 2 → ⊥
            other e = either (half_same code (unit kinds (inner b)) two e)
              where
                either : (unit kinds (inner b) ≡ code) ⊎ (unit kinds (inner b) ≡ opposite code) → ⊥
                either (inl p) = clash code two small p a
                either (inr p) = clash (opposite code) opp_two opp_small p c

        all_other : (o : ℕ) (bs : List Block) → Every Fine bs → Every (λ b. block_has code b ≡ false) bs → Every (λ b. block_has (opposite code) b ≡ false) bs →
            AllBut (UnitKnown kinds firsts) names o bs → AllBut (UnitKnown kinds (set firsts (code / 2) 65535)) names o bs
        all_other o [] f a c all = tt
        all_other o (b ∷ bs) f a c all = (still all.0, all_other (o + length (whole b)) bs f.1 a.1 c.1 all.1)
          where
            still : In o names ⊎ UnitKnown kinds firsts o b → In o names ⊎ UnitKnown kinds (set firsts (code / 2) 65535) o b
            still (inl i) = inl i
            still (inr known) = inr (known_still o b f.0 a.0 c.0 known)

        by : (v : ℕ) → 0 < v → v < max_unknowns + 1 → (t : Bool) → eqb v (code / 2) ≡ t → (get_or (set firsts (code / 2) 65535) v 0 ≡ 65535 → ⊥) →
            SomeAt (FirstUnit kinds (set firsts (code / 2) 65535) names v) 0 u.blocks
        by v positive below true e some_IsFirst = absurd
            (some_IsFirst (ap (λ (n : ℕ). get_or (set firsts (code / 2) 65535) n 0) (eqb-true v (code / 2) e) ∙ get_or-set_same firsts (code / 2) 65535 0
            (let h = half_below in omega arith)))
        by v positive below false e some_IsFirst =
            let same = get_or-set_other firsts (code / 2) v 65535 0 (eqb-false v (code / 2) e) in
            some_later (FirstUnit kinds firsts names v) (FirstUnit kinds (set firsts (code / 2) 65535) names v)
            (λ o b f. record { noted = f.noted ∙ sym same; apart = f.apart; own = f.own; some_unit = f.some_unit })
            0 u.blocks (u.sound v (eqb-false v (code / 2) e) positive below (λ z. some_IsFirst (same ∙ z)))

-- ---- a clause is noted

module _ (kinds firsts : List ℕ) (start : ℕ) (table : List ℕ) where
  abbrev x : ℕ
  x = unit kinds (first_clause (drop start table))

  noted_lower : (w : ℕ) → get_or (noted_unit x start firsts) w 0 ≤ get_or firsts w 0
  unfolding noted_unit
  noted_lower w = go (eqb x 0) (ltb start (get_or firsts (x / 2) 0)) refl
    where
      go : (t l : Bool) → ltb start (get_or firsts (x / 2) 0) ≡ l → get_or (cond t firsts (cond l (set firsts (x / 2) start) firsts)) w 0 ≤ get_or firsts w 0
      go true l e = omega arith
      go false false e = omega arith
      go false true e = here (eqb w (x / 2)) refl (ltb (x / 2) (length firsts)) refl
        where
          past : (l : List ℕ) (k : ℕ) (v : ℕ) → length l ≤ k → set l k v ≡ l
          past [] k v h = refl
          past (y ∷ l) zero v h = absurd (omega arith)
          past (y ∷ l) (suc k) v h = ap (λ (m : List ℕ). y ∷ m) (past l k v (omega arith))

          here : (t : Bool) → eqb w (x / 2) ≡ t → (i : Bool) → ltb (x / 2) (length firsts) ≡ i → get_or (set firsts (x / 2) start) w 0 ≤ get_or firsts w 0
          here true p true i =
              let same = eqb-true w (x / 2) p in
              let a = ltb-true start (get_or firsts (x / 2) 0) e in
              subst (λ (n : ℕ). get_or (set firsts (x / 2) start) n 0 ≤ get_or firsts n 0) (sym same)
              (subst (λ (n : ℕ). n ≤ get_or firsts (x / 2) 0) (sym (get_or-set_same firsts (x / 2) start 0 (ltb-true (x / 2) (length firsts) i))) (omega arith))
          here true p false i = subst (λ (l : List ℕ). get_or l w 0 ≤ get_or firsts w 0) (sym (past firsts (x / 2) start (ltb-false (x / 2) (length firsts) i)))
              (omega arith)
          here false p i j = subst (λ (n : ℕ). n ≤ get_or firsts w 0) (sym (get_or-set_other firsts (x / 2) w start 0 (eqb-false w (x / 2) p))) (omega arith)

  noted_own : length firsts ≡ max_unknowns + 1 → x < last_code + 1 → (x ≡ 0 → ⊥) → get_or (noted_unit x start firsts) (x / 2) 0 ≤ start
  unfolding noted_unit
  noted_own sized small some_unit = rw (ne_eqb x 0 some_unit) (go (ltb start (get_or firsts (x / 2) 0)) refl)
    where
      go : (l : Bool) → ltb start (get_or firsts (x / 2) 0) ≡ l → get_or (cond l (set firsts (x / 2) start) firsts) (x / 2) 0 ≤ start
      go true e = subst (λ (n : ℕ). n ≤ start) (sym (get_or-set_same firsts (x / 2) start 0 (omega arith))) (omega arith)
      go false e = ltb-false start (get_or firsts (x / 2) 0) e

  -- What is noted of an unknown is as before, or it is this clause.
  noted_which : (v : ℕ) → length firsts ≡ max_unknowns + 1 → x < last_code + 1 → (get_or (noted_unit x start firsts) v 0 ≡ get_or firsts v 0) ⊎ ((v ≡ x / 2) ×
      (x ≡ 0 → ⊥) × (get_or (noted_unit x start firsts) v 0 ≡ start))
  unfolding noted_unit
  noted_which v sized small = go (eqb x 0) refl (ltb start (get_or firsts (x / 2) 0)) (eqb v (x / 2)) refl
    where
      go : (t : Bool) → eqb x 0 ≡ t → (l e : Bool) → eqb v (x / 2) ≡ e
          → (get_or (cond t firsts (cond l (set firsts (x / 2) start) firsts)) v 0 ≡ get_or firsts v 0) ⊎
          ((v ≡ x / 2) × (x ≡ 0 → ⊥) × (get_or (cond t firsts (cond l (set firsts (x / 2) start) firsts)) v 0 ≡ start))
      go true p l e q = inl refl
      go false p false e q = inl refl
      go false p true true q = let same = eqb-true v (x / 2) q in inr (
        same,
        eqb-false x 0 p,
        ap (λ (n : ℕ). get_or (set firsts (x / 2) start) n 0) same ∙
            get_or-set_same firsts (x / 2) start 0 (omega arith),
      )
      go false p true false q = inl (get_or-set_other firsts (x / 2) v start 0 (eqb-false v (x / 2) q))

  pub noted_length : length (noted_unit x start firsts) ≡ length firsts
  unfolding noted_unit
  noted_length = go (eqb x 0) (ltb start (get_or firsts (x / 2) 0))
    where
      go : (t l : Bool) → length (cond t firsts (cond l (set firsts (x / 2) start) firsts)) ≡ length firsts
      go true l = refl
      go false true = length-set firsts (x / 2) start
      go false false = refl

  pub units_noted : (rest : List ℕ) → length firsts ≡ max_unknowns + 1 → x < last_code + 1 → start < length table → begins table start ≡ true →
      Units kinds firsts (start ∷ rest) [] 0 table → Units kinds (noted_unit x start firsts) rest [] 0 table
  units_noted rest sized small inside first u =
      record {
        blocks = u.blocks;
        is = u.is;
        fine = u.fine;
        complete = walk [] u.blocks u.is u.fine 0 refl u.complete;
        sound = λ v other positive below some_IsFirst. by v other positive below some_IsFirst (noted_which v sized small);
      }
    where
      t : Split start u.blocks
      t = splits u.blocks u.fine start (let z = ap length u.is in omega arith) (ap (λ (l : List ℕ). begins l start) (sym u.is) ∙ first)

      clause_at : (xs ys : List Block) (b : Block) → Fine b → table ≡ laid xs ++ (whole b ++ laid ys) → start ≡ length (laid xs) →
          first_clause (drop start table) ≡ inner b
      clause_at xs ys b f is here =
          ap (λ (l : List ℕ). first_clause (drop start l)) is
          ∙ ap first_clause (drop_at (laid xs) (whole b ++ laid ys) start (sym here))
          ∙ block_clause (laid ys) b f

      walk : (xs bs : List Block) → table ≡ laid xs ++ laid bs → Every Fine bs → (o : ℕ) → o ≡ length (laid xs) →
          AllBut (UnitKnown kinds firsts) (start ∷ rest) o bs → AllBut (UnitKnown kinds (noted_unit x start firsts)) rest o bs
      walk xs [] is f o here all = tt
      walk xs (b ∷ bs) is f o here all = (
        one_block all.0,
        walk (xs ++ (b ∷ [])) bs further f.1 (o + length (whole b)) place all.1,
      )
        where
          joined : laid (xs ++ (b ∷ [])) ≡ laid xs ++ whole b
          joined = laid_append xs (b ∷ []) ∙ ap (λ (l : List ℕ). laid xs ++ l) (append-nil (whole b))

          further : table ≡ laid (xs ++ (b ∷ [])) ++ laid bs
          further = is ∙ sym (append_assoc (laid xs) (whole b) (laid bs)) ∙ ap (λ (l : List ℕ). l ++ laid bs) (sym joined)

          place : o + length (whole b) ≡ length (laid (xs ++ (b ∷ [])))
          place = ap (λ (n : ℕ). n + length (whole b)) here ∙ sym (length-append (laid xs) (whole b)) ∙ ap length (sym joined)

          one_block : In o (start ∷ rest) ⊎ UnitKnown kinds firsts o b → In o rest ⊎ UnitKnown kinds (noted_unit x start firsts) o b
          one_block (inl (inr i)) = inl i
          one_block (inr known) = inr (λ some_unit. let a = known some_unit in let c = noted_lower (unit kinds (inner b) / 2) in omega arith)
          one_block (inl (inl e)) =
              let same : x ≡ unit kinds (inner b) = ap (unit kinds) (clause_at xs bs b f.0 is (sym e ∙ here)) in
              inr (λ some_unit. subst (λ (n : ℕ). get_or (noted_unit x start firsts) (n / 2) 0 ≤ o) same
              (subst (λ (n : ℕ). get_or (noted_unit x start firsts) (x / 2) 0 ≤ n) (sym e) (noted_own sized small (λ z. some_unit (sym same ∙ z)))))

      by : (v : ℕ) → (v ≡ 0 → ⊥) → 0 < v → v < max_unknowns + 1 → (get_or (noted_unit x start firsts) v 0 ≡ 65535 → ⊥)
          → (get_or (noted_unit x start firsts) v 0 ≡ get_or firsts v 0) ⊎ ((v ≡ x / 2) × (x ≡ 0 → ⊥) × (get_or (noted_unit x start firsts) v 0 ≡ start)) →
          SomeAt
          (FirstUnit kinds (noted_unit x start firsts) [] v) 0 u.blocks
      by v other positive below some_IsFirst (inl same) =
          some_later (FirstUnit kinds firsts [] v) (FirstUnit kinds (noted_unit x start firsts) [] v)
          (λ o b f. record { noted = f.noted ∙ sym same; apart = f.apart; own = f.own; some_unit = f.some_unit })
          0 u.blocks (u.sound v other positive below (λ z. some_IsFirst (same ∙ z)))
      by v other positive below some_IsFirst (inr here) =
          let parts = every_front Fine t.before (t.block ∷ t.behind) (subst (Every Fine) t.is u.fine) in
          let same : x ≡ unit kinds (inner t.block) = ap (unit kinds) (clause_at t.before t.behind t.block parts.1.0
          (u.is ∙ ap laid t.is ∙ laid_around t.before t.block t.behind) t.here) in
          subst (SomeAt (FirstUnit kinds (noted_unit x start firsts) [] v) 0) (sym t.is)
          (some_at (FirstUnit kinds (noted_unit x start firsts) [] v) 0 t.before t.block t.behind
          (record {
            noted = (let z : 0 + length (laid t.before) ≡ length (laid t.before) = omega arith in z) ∙ sym t.here ∙ sym here.2;
            apart = λ i. i;
            own = ap (λ (n : ℕ). n / 2) (sym same) ∙ sym here.0;
            some_unit = λ z. here.1 (same ∙ z);
          }))

-- ---- the lowest of them

pub data AtLeast (m : ℕ) : Option ℤ → Type 0 where
  nothing : AtLeast m none
  something : (z : ℤ) → m ≤ suc (Trimming.position z) → AtLeast m (some z)

lower_at_least : (m : ℕ) {a b : Option ℤ} → AtLeast m a → AtLeast m b → AtLeast m (lower a b)
lower_at_least m nothing q = q
lower_at_least m (something z p) nothing = something z p
lower_at_least m (something z p) (something y q) = go (leb (Trimming.position z) (Trimming.position y))
  where
    go : (t : Bool) → AtLeast m (cond t (some z) (some y))
    go true = something z p
    go false = something y q

all_but_append : (P : ℕ → Block → Type 0) (names : List ℕ) (o : ℕ) (xs ys : List Block) → AllBut P names o (xs ++ ys) → AllBut P names o xs ×
    AllBut P names (o + length (laid xs)) ys
all_but_append P names o [] ys all = (tt, subst (λ (n : ℕ). AllBut P names n ys) (let e : o ≡ o + 0 = omega arith in e) all)
all_but_append P names o (x ∷ xs) ys all =
    let r = all_but_append P names (o + length (whole x)) xs ys all.1 in (
      (all.0, r.0),
      subst (λ (n : ℕ). AllBut P names n ys) (let l = length-append (whole x) (laid xs) in let e : (o + length (whole x)) + length
          (laid xs) ≡ o + length (whole x ++ laid xs) = omega arith in e) r.1,
    )

module _ (kinds firsts : List ℕ) where
  block_at_least : (m : ℕ) (b : Block) → Fine b → ((unit kinds (inner b) ≡ 0 → ⊥) → m ≤ unit kinds (inner b) / 2) →
      AtLeast m (lowest_unit (prefix kinds) (shown b))
  block_at_least m b f h = go (unit kinds (inner b)) refl
    where
      go : (u : ℕ) → unit kinds (inner b) ≡ u → AtLeast m (lowest_unit (prefix kinds) (shown b))
      go zero e = subst (AtLeast m) (sym (ap literal_or_none e) ∙ (unit_block kinds b f).is) nothing
      go (suc u) e =
          let some_unit : unit kinds (inner b) ≡ 0 → ⊥ = λ z. let q : suc u ≡ 0 = sym e ∙ z in omega arith in
          let s = unit_small kinds b f some_unit in
          let k = position_code (suc u) (let q = s.0 in omega (arith, e)) in
          let n = h some_unit in
          subst (AtLeast m) (sym (ap literal_or_none e) ∙ (unit_block kinds b f).is) (something (literal_of (suc u)) (omega (arith, e)))

  blocks_at_least : (m limit : ℕ) → ((w : ℕ) → 0 < w → w < m → limit ≤ get_or firsts w 0) → (o : ℕ) (bs : List Block) → Every Fine bs →
      o + length (laid bs) ≤ limit → AllBut (UnitKnown kinds firsts) [] o bs → AtLeast m (lowest_unit (prefix kinds) (all_shown bs))
  blocks_at_least m limit high o [] f within all = nothing
  blocks_at_least m limit high o (b ∷ bs) f within all =
      subst (AtLeast m) (sym (lowest_append kinds (shown b) (all_shown bs)))
      (lower_at_least m (block_at_least m b f.0 (own all.0))
      (blocks_at_least m limit high (o + length (whole b)) bs f.1 (let l = length-append (whole b) (laid bs) in omega arith) all.1))
    where
      own : In o [] ⊎ UnitKnown kinds firsts o b → (unit kinds (inner b) ≡ 0 → ⊥) → m ≤ unit kinds (inner b) / 2
      own (inl i) some_unit = absurd i
      own (inr known) some_unit = go (ltb (unit kinds (inner b) / 2) m) refl
        where
          go : (t : Bool) → ltb (unit kinds (inner b) / 2) m ≡ t → m ≤ unit kinds (inner b) / 2
          go false e = ltb-false (unit kinds (inner b) / 2) m e
          go true e =
              absurd
              (let a = known some_unit in
              let s = (unit_small kinds b f.0 some_unit).0 in
              let c = high (unit kinds (inner b) / 2) (omega arith) (ltb-true (unit kinds (inner b) / 2) m e) in
              let w = whole_some b in
              let l = length-append (whole b) (laid bs) in
              omega arith)

  lower_first : (v : ℕ) (z : ℤ) → suc (Trimming.position z) ≡ v → {a b : Option ℤ} → AtLeast (v + 1) a → AtLeast v b → lower a (lower (some z) b) ≡ some z
  lower_first v z own {a} {b} p q = ap (lower a) (behind q) ∙ before p
    where
      behind : {b : Option ℤ} → AtLeast v b → lower (some z) b ≡ some z
      behind nothing = refl
      behind (something y h) = ap (λ (t : Bool). cond t (some z) (some y)) (le-leb (Trimming.position z) (Trimming.position y) (omega arith))

      before : {a : Option ℤ} → AtLeast (v + 1) a → lower a (some z) ≡ some z
      before nothing = refl
      before (something y h) = ap (λ (t : Bool). cond t (some y) (some z)) (lt-leb (Trimming.position y) (Trimming.position z) (omega arith))

  module _ {table : List ℕ} (u : Units kinds firsts [] [] 0 table) (few : length table ≤ max_entries) where
    all_clauses : clauses_left table ≡ all_shown u.blocks
    all_clauses = ap clauses_left u.is ∙ laid_clauses u.blocks u.fine

    pub unit_found : (v : ℕ) → 0 < v → v < max_unknowns + 1 → ((w : ℕ) → 0 < w → w < v → get_or firsts w 0 ≡ 65535) → (get_or firsts v 0 ≡ 65535 → ⊥) →
        (c : ℕ) →
        c ≡ unit kinds (first_clause (drop (get_or firsts v 0) table)) → Picked (lowest_unit (prefix kinds) (clauses_left table)) c
    unit_found v from below lower_none_noted some_IsFirst c e =
        record {
          chosen = record { small = small_c; code = λ z. omega (arith, two_c) };
          is = some_literal c two_c ∙ sym
              (ap (lowest_unit (prefix kinds)) (all_clauses ∙ ap all_shown p.is) ∙ lowest);
        }
      where
        p : SomeSplit (FirstUnit kinds firsts [] v) 0 u.blocks
        p = some_split (FirstUnit kinds firsts [] v) 0 u.blocks (u.sound v (λ z. omega arith) from below some_IsFirst)

        parts : Every Fine p.before × Every Fine (p.block ∷ p.behind)
        parts = every_front Fine p.before (p.block ∷ p.behind) (subst (Every Fine) p.is u.fine)

        placed : table ≡ around p.before p.block p.behind
        placed = u.is ∙ ap laid p.is ∙ laid_around p.before p.block p.behind

        here : get_or firsts v 0 ≡ length (laid p.before)
        here = sym p.holds.noted ∙ (let z : 0 + length (laid p.before) ≡ length (laid p.before) = omega arith in z)

        c_is : c ≡ unit kinds (inner p.block)
        c_is =
            e ∙ ap (λ (t : List ℕ). unit kinds (first_clause (drop (get_or firsts v 0) t))) placed
            ∙ ap (λ (t : List ℕ). unit kinds (first_clause t)) (drop_at (laid p.before) (whole p.block ++ laid p.behind) (get_or firsts v 0) (sym here))
            ∙ ap (unit kinds) (block_clause (laid p.behind) p.block parts.1.0)

        bounds : (2 ≤ unit kinds (inner p.block)) × (unit kinds (inner p.block) < last_code + 1)
        bounds = unit_small kinds p.block parts.1.0 p.holds.some_unit

        two_c : 2 ≤ c
        two_c = let b = bounds.0 in let q = c_is in omega arith

        small_c : c < last_code + 1
        small_c = let b = bounds.1 in let q = c_is in omega arith

        own : suc (Trimming.position (literal_of c)) ≡ v
        own = position_code c two_c ∙ ap (λ (n : ℕ). n / 2) c_is ∙ p.holds.own

        total : length table ≡ length (laid p.before) + length (whole p.block ++ laid p.behind)
        total = ap length placed ∙ length-append (laid p.before) (whole p.block ++ laid p.behind)

        both : AllBut (UnitKnown kinds firsts) [] 0 p.before × AllBut (UnitKnown kinds firsts) [] (0 + length (laid p.before)) (p.block ∷ p.behind)
        both = all_but_append (UnitKnown kinds firsts) [] 0 p.before (p.block ∷ p.behind)
            (subst (AllBut (UnitKnown kinds firsts) [] 0) p.is u.complete)

        high_before : (w : ℕ) → 0 < w → w < v + 1 → length (laid p.before) ≤ get_or firsts w 0
        high_before w positive up_to_lem = go (eqb w v) refl
          where
            go : (t : Bool) → eqb w v ≡ t → length (laid p.before) ≤ get_or firsts w 0
            go true q = let same = eqb-true w v q in subst (λ (n : ℕ). length (laid p.before) ≤ get_or firsts n 0) (sym same) (let h = here in omega arith)
            go false q =
                let f = lower_none_noted w positive (apart (eqb-false w v q)) in
                let t = total in
                omega arith
              where
                apart : (w ≡ v → ⊥) → w < v
                apart never = omega arith

        before_higher : AtLeast (v + 1) (lowest_unit (prefix kinds) (all_shown p.before))
        before_higher = blocks_at_least (v + 1) (length (laid p.before)) high_before 0 p.before parts.0 (omega arith) both.0

        behind_higher : AtLeast v (lowest_unit (prefix kinds) (all_shown p.behind))
        behind_higher =
            blocks_at_least v max_entries (λ w positive under. let f = lower_none_noted w positive under in omega arith)
            ((0 + length (laid p.before)) + length (whole p.block)) p.behind parts.1.1
            (let t = total in let l = length-append (whole p.block) (laid p.behind) in omega arith) both.1.1

        block_unit : lowest_unit (prefix kinds) (shown p.block) ≡ some (literal_of c)
        block_unit = sym (unit_block kinds p.block parts.1.0).is ∙ ap literal_or_none (sym c_is) ∙ some_literal c two_c

        lowest : lowest_unit (prefix kinds) (all_shown (p.before ++ (p.block ∷ p.behind))) ≡ some (literal_of c)
        lowest =
            ap (lowest_unit (prefix kinds)) (shown_append p.before (p.block ∷ p.behind))
            ∙ lowest_append kinds (all_shown p.before) (shown p.block ++ all_shown p.behind)
            ∙ ap (lower (lowest_unit (prefix kinds) (all_shown p.before))) (lowest_append kinds (shown p.block) (all_shown p.behind) ∙ ap
            (λ (o : Option ℤ). lower o (lowest_unit (prefix kinds) (all_shown p.behind))) block_unit)
            ∙ lower_first v (literal_of c) own before_higher behind_higher

    no_units : (o : ℕ) (bs : List Block) → ((w : ℕ) → 0 < w → w < max_unknowns + 1 → get_or firsts w 0 ≡ 65535) → Every Fine bs →
        o + length (laid bs) ≤ max_entries → AllBut (UnitKnown kinds firsts) [] o bs → lowest_unit (prefix kinds) (all_shown bs) ≡ none
    no_units o [] all_none f within all = refl
    no_units o (b ∷ bs) all_none f within all =
        lowest_append kinds (shown b) (all_shown bs)
        ∙ ap₂ lower (own (unit kinds (inner b)) refl all.0)
        (no_units (o + length (whole b)) bs all_none f.1 (let l = length-append (whole b) (laid bs) in omega arith) all.1)
      where
        own : (n : ℕ) → unit kinds (inner b) ≡ n → In o [] ⊎ UnitKnown kinds firsts o b → lowest_unit (prefix kinds) (shown b) ≡ none
        own zero e k = sym (unit_block kinds b f.0).is ∙ ap literal_or_none e
        own (suc n) e (inl i) = absurd i
        own (suc n) e (inr known) =
            absurd
            (let some_unit : unit kinds (inner b) ≡ 0 → ⊥ = λ z. let q : suc n ≡ 0 = sym e ∙ z in omega arith in
            let s = unit_small kinds b f.0 some_unit in
            let a = known some_unit in
            let h = all_none (unit kinds (inner b) / 2) (let x = s.0 in omega arith) (let x = s.1 in omega arith) in
            let l = length-append (whole b) (laid bs) in
            omega arith)

    pub unit_nowhere : ((w : ℕ) → 0 < w → w < max_unknowns + 1 → get_or firsts w 0 ≡ 65535) → Picked (lowest_unit (prefix kinds) (clauses_left table)) 0
    unit_nowhere all_none =
        record {
          chosen = nothing_chosen;
          is = sym (ap (lowest_unit (prefix kinds)) all_clauses ∙ no_units 0 u.blocks all_none u.fine
              (let e = ap length u.is in omega arith) u.complete);
        }

-- ---- at first nothing is noted

pub units_begin : (kinds firsts : List ℕ) → ((v : ℕ) → v < max_unknowns + 1 → get_or firsts v 0 ≡ 65535) → {table : List ℕ} → Laid table → (names : List ℕ) →
    names ≡ listed 1 table → Units kinds firsts names names 0 table
units_begin kinds firsts all_none {table} l names e =
    record {
      blocks = l.blocks;
      is = l.is;
      fine = l.fine;
      complete = subst (λ (n : List ℕ). AllBut (UnitKnown kinds firsts) n 0 l.blocks) (sym (e ∙ lists l 1))
          (every_block (names_from 1 0 l.blocks) 0 l.blocks l.fine (λ x i. i));
      sound = λ v other positive below some_IsFirst. absurd (some_IsFirst (all_none v below));
    }
  where
    every_block : (names : List ℕ) (o : ℕ) (bs : List Block) → Every Fine bs → ((x : ℕ) → In x (names_from 1 o bs) → In x names) →
        AllBut (UnitKnown kinds firsts) names o bs
    every_block names o [] f known = tt
    every_block names o (standing es ∷ bs) f known = (
      inl (known o (subst (λ (t : Bool). In o (cond t (o ∷ names_from 1 (o + length (whole (standing es))) bs)
          (names_from 1 (o + length (whole (standing es))) bs))) (sym (standing_listed es)) (inl refl))),
      every_block names (o + length (whole (standing es))) bs f.1
          (λ x i. known x (subst
          (λ (t : Bool). In x (cond t (o ∷ names_from 1 (o + length (whole (standing es))) bs) (names_from 1 (o + length (whole (standing es))) bs)))
          (sym (standing_listed es)) (inr i))),
    )
    every_block names o (gone es ∷ bs) f known = (
      inr (λ some_unit. absurd (some_unit (gone_unit kinds es f.0))),
      every_block names
          (o + length (whole (gone es))) bs f.1 (λ x i. known x (later (block_has 1 (gone es)) x i)),
    )
      where
        later : (t : Bool) (x : ℕ) → In x (names_from 1 (o + length (whole (gone es))) bs) →
            In x (cond t (o ∷ names_from 1 (o + length (whole (gone es))) bs) (names_from 1 (o + length (whole (gone es))) bs))
        later true x i = inr i
        later false x i = i

-- The clauses that are named are apart of those noted; once they are reduced they may be noted too.
pub units_joined : (kinds firsts names : List ℕ) {table : List ℕ} → Units kinds firsts names names 0 table → Units kinds firsts names [] 0 table
units_joined kinds firsts names u =
    record {
      blocks = u.blocks;
      is = u.is;
      fine = u.fine;
      complete = u.complete;
      sound = λ v other positive below some_IsFirst.
          some_later (FirstUnit kinds firsts names v) (FirstUnit kinds firsts [] v)
          (λ o b f. record { noted = f.noted; apart = λ i. i; own = f.own; some_unit = f.some_unit }) 0 u.blocks
          (u.sound v other positive below some_IsFirst);
    }

-- The only entry of a clause that is left is a code.
pub code_small : (kinds : List ℕ) {table : List ℕ} → Laid table → {start : ℕ} → Names table 1 start →
    unit kinds (first_clause (drop start table)) < last_code + 1
code_small kinds {table} l {start} n =
    let t = splits l.blocks l.fine start (let z = ap length l.is in let i = n.inside in omega arith)
    (ap (λ (k : List ℕ). begins k start) (sym l.is) ∙ n.first) in
    let parts = every_front Fine t.before (t.block ∷ t.behind) (subst (Every Fine) t.is l.fine) in
    let e : first_clause (drop start table) ≡ inner t.block =
    ap (λ (k : List ℕ). first_clause (drop start k)) (l.is ∙ ap laid t.is ∙ laid_around t.before t.block t.behind)
    ∙ ap first_clause (drop_at (laid t.before) (whole t.block ++ laid t.behind) start (sym t.here))
    ∙ block_clause (laid t.behind) t.block parts.1.0 in
    subst (λ (k : List ℕ). unit kinds k < last_code + 1) (sym e) (unit_block kinds t.block parts.1.0).chosen.small

pub none_noted : (firsts : List ℕ) → firsts ≡ replicate (max_unknowns + 1) 65535 → (v : ℕ) → v < max_unknowns + 1 → get_or firsts v 0 ≡ 65535
none_noted firsts e v below = ap (λ (l : List ℕ). get_or l v 0) e ∙ get_or-replicate {A = ℕ} (max_unknowns + 1) v 65535 0 below

-- All that is noted is exact, also but for one unknown.
pub units_all : (kinds : List ℕ) (code : ℕ) {firsts table : List ℕ} → Units kinds firsts [] [] 0 table → Units kinds firsts [] [] (code / 2) table
units_all kinds code u = record {
  blocks = u.blocks;
  is = u.is;
  fine = u.fine;
  complete = u.complete;
  sound = λ v other positive below some_IsFirst. u.sound
      v (λ z. omega arith) positive below some_IsFirst;
}

module _ (code start : ℕ) (firsts : List ℕ) where
  pub noted_none : code ≡ 0 → firsts ≡ noted_unit code start firsts
  unfolding noted_unit
  noted_none e = sym (ap (λ (b : Bool). cond b firsts (cond (ltb start (get_or firsts (code / 2) 0)) (set firsts (code / 2) start) firsts)) (eq-eqb code 0 e))

  pub noted_least : (code ≡ 0 → ⊥) → set firsts (code / 2) (min (get_or firsts (code / 2) 0) start) ≡ noted_unit code start firsts
  unfolding noted_unit
  noted_least e =
      by (ltb start (get_or firsts (code / 2) 0)) refl
      ∙ sym (ap (λ (b : Bool). cond b firsts (cond (ltb start (get_or firsts (code / 2) 0)) (set firsts (code / 2) start) firsts)) (ne_eqb code 0 e))
    where
      by : (b : Bool) → ltb start (get_or firsts (code / 2) 0) ≡ b → set firsts (code / 2) (min (get_or firsts (code / 2) 0) start) ≡ cond b
          (set firsts (code / 2) start) firsts
      by true t = let h = ltb-true start (get_or firsts (code / 2) 0) t in ap (λ (k : ℕ). set firsts (code / 2) k) (omega (arith, h))
      by false t =
          let h = ltb-false start (get_or firsts (code / 2) 0) t in
          ap (λ (k : ℕ). set firsts (code / 2) k) (omega (arith, h)) ∙ set-get_or firsts (code / 2) 0
