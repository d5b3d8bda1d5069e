-- The first clause of each unknown that is a clause's only entry, through what is dropped.
-- Assumes nothing.
use Prim.Native.Nat.{ℕ, ◌+◌, ◌/◌, ◌≤◌, ◌<◌}
use native.Mathlib.Omega.{arith}
use mathlib.Core.Path.{◌≡◌, refl, sym, ◌∙◌, ap, subst}
use mathlib.Core.Logic.{◌⊎◌, inl, inr}
use mathlib.Core.Bool.{Bool, true, false, cond, ◌||◌, false≢true}
use mathlib.Core.List.{List, [], ◌∷◌, ◌++◌}
use borrow.Author.Tests.{eqb-true, ltb-false}
use lib.Dec.{eqb}
use lib.ListN.{length, length-append, length-map}
use Rattle.formula.specs.Causes.{any}
use Rattle.codes.specs.Codes.{last_code, has}
use Rattle.trimming_rules.specs.Trimming.{keep}
use Rattle.trimming_rules.proofs.ClauseLaws.{Every, In}
use Rattle.trimming_marks.specs.Marks.{is_left, is_universal, marked, only, unit}
use Rattle.index.specs.Occurrences.{listed, begins}
use Rattle.trimming.specs.Private.Table.{Entry, Block, gone, inner, whole, Fine, laid, Laid, marked_at, AllBut, SomeAt, UnitKnown, FirstUnit, Units}
use Rattle.trimming.proofs.BlockLaws.{every_append, entries_of, gone_none}
use Rattle.trimming.proofs.ListedLaws.{block_has, names_from, names_append, names_above, names_below, whole_some, Split, splits}
use Rattle.trimming.proofs.ChangeLaws.{around, laid_around}
use Rattle.trimming.proofs.UnitLaws.{one, only_one}
use Rattle.trimming.proofs.EndLaws.{every_front}
use Rattle.trimming.proofs.NamedLaws.{has_inner, lists}
use Rattle.trimming.proofs.OneLaws.{Marks, is_after, Becomes, changed}

-- ---- the only entry

module _ (kinds : List ℕ) where
  pub unit_only : (c : List ℕ) → (unit kinds c ≡ 0 → ⊥) → unit kinds c ≡ only 0 c
  unfolding unit
  unit_only c some_unit = go (is_universal kinds (only 0 c)) some_unit
    where
      go : (t : Bool) → (cond t 0 (only 0 c) ≡ 0 → ⊥) → cond t 0 (only 0 c) ≡ only 0 c
      go true never = absurd (never refl)
      go false never = refl

  -- A code that stands in a clause of one entry is that entry.
  has_keep : (x : ℕ) → x < 512 → (c : List ℕ) → has x c ≡ true → any (eqb x) (keep is_left c) ≡ true
  has_keep x small [] h = h
  has_keep x small (y ∷ c) h = go (eqb x y) refl (is_left y) refl h (has_keep x small c)
    where
      go : (t : Bool) → eqb x y ≡ t → (l : Bool) → is_left y ≡ l → (t || has x c) ≡ true → (has x c ≡ true → any (eqb x) (keep is_left c) ≡ true) →
          any (eqb x) (cond l (y ∷ keep is_left c) (keep is_left c)) ≡ true
      go true e true l h later = ap (λ (b : Bool). b || any (eqb x) (keep is_left c)) e
      go true e false l h later = absurd (let s = ltb-false y 512 l in let q = eqb-true x y e in omega arith)
      go false e true l h later = ap (λ (b : Bool). b || any (eqb x) (keep is_left c)) e ∙ later h
      go false e false l h later = later h

  in_one : (x : ℕ) (l : List ℕ) → (one l ≡ 0 → ⊥) → any (eqb x) l ≡ true → x ≡ one l
  in_one x [] never h = absurd (never refl)
  in_one x (y ∷ []) never h = go (eqb x y) refl h
    where
      go : (t : Bool) → eqb x y ≡ t → (t || false) ≡ true → x ≡ y
      go true e h = eqb-true x y e
      go false e h = absurd (false≢true h)
  in_one x (y ∷ z ∷ l) never h = absurd (never refl)

  pub unit_has : (x : ℕ) → x < 512 → (c : List ℕ) → Every Entry c → (unit kinds c ≡ 0 → ⊥) → has x c ≡ true → x ≡ unit kinds c
  unit_has x small c all some_unit h =
      let u = unit_only c some_unit in
      let o = only_one c all in
      in_one x (keep is_left c) (λ z. some_unit (u ∙ o ∙ z)) (has_keep x small c h) ∙ sym (u ∙ o)

  pub gone_unit : (es : List ℕ) → Every (λ x. Entry x × (512 ≤ x)) es → unit kinds es ≡ 0
  unfolding unit
  gone_unit es f = ap (λ (n : ℕ). cond (is_universal kinds n) 0 n) (only_one es (entries_of (gone es) f) ∙ ap one (gone_none es f)) ∙ go (is_universal kinds 0)
    where
      go : (t : Bool) → ◌≡◌ {A = ℕ} (cond t 0 0) 0
      go true = refl
      go false = refl

-- ---- some clause, through a change of another

module _ (P Q : ℕ → Block → Type 0) (same : (o : ℕ) (b : Block) → P o b → Q o b) where
  pub some_later : (o : ℕ) (bs : List Block) → SomeAt P o bs → SomeAt Q o bs
  some_later o (b ∷ bs) (inl p) = inl (same o b p)
  some_later o (b ∷ bs) (inr i) = inr (some_later (o + length (whole b)) bs i)
  some_later o [] x' = elim x' [ ]

  some_changed : (o : ℕ) (xs : List Block) (b d : Block) (ys : List Block) → length (whole d) ≡ length (whole b) → (P (o + length (laid xs)) b → ⊥) →
      SomeAt P o (xs ++ (b ∷ ys)) → SomeAt Q o (xs ++ (d ∷ ys))
  some_changed o [] b d ys sized never (inl p) = absurd (never (subst (λ (n : ℕ). P n b) (let e : o ≡ o + 0 = omega arith in e) p))
  some_changed o [] b d ys sized never (inr i) = inr (subst (λ (n : ℕ). SomeAt Q (o + n) ys) (sym sized) (some_later (o + length (whole b)) ys i))
  some_changed o (x ∷ xs) b d ys sized never (inl p) = inl (same o x p)
  some_changed o (x ∷ xs) b d ys sized never (inr i) =
      inr (some_changed (o + length (whole x)) xs b d ys sized
      (λ p. never (subst (λ (n : ℕ). P n b) (let l = length-append (whole x) (laid xs) in let e : (o + length (whole x)) + length (laid xs) ≡ o + length
      (whole x ++ laid xs) = omega arith in e) p)) i)

pub record SomeSplit (P : ℕ → Block → Type 0) (o : ℕ) (bs : List Block) : Type 0 where
  pub before : List Block
  pub block : Block
  pub behind : List Block
  pub is : bs ≡ before ++ (block ∷ behind)
  pub holds : P (o + length (laid before)) block

pub some_split : (P : ℕ → Block → Type 0) (o : ℕ) (bs : List Block) → SomeAt P o bs → SomeSplit P o bs
some_split P o (b ∷ bs) (inl p) = record {
  before = [];
  block = b;
  behind = bs;
  is = refl;
  holds = subst (λ (n : ℕ). P n b)
      (let e : o ≡ o + 0 = omega arith in e) p;
}
some_split P o [] x' = elim x' [ ]
some_split P o (b ∷ bs) (inr i) =
    let s = some_split P (o + length (whole b)) bs i in
    record {
      before = b ∷ s.before;
      block = s.block;
      behind = s.behind;
      is = ap (λ (l : List Block). b ∷ l) s.is;
      holds = subst (λ (n : ℕ). P n s.block) (let l = length-append (whole b) (laid s.before) in let e : (o + length (whole b)) + length
          (laid s.before) ≡ o + length (whole b ++ laid s.before) = omega arith in e) s.holds;
    }

pub some_at : (P : ℕ → Block → Type 0) (o : ℕ) (xs : List Block) (b : Block) (ys : List Block) → P (o + length (laid xs)) b → SomeAt P o (xs ++ (b ∷ ys))
some_at P o [] b ys p = inl (subst (λ (n : ℕ). P n b) (let e : o + 0 ≡ o = omega arith in e) p)
some_at P o (x ∷ xs) b ys p = inr
    (some_at P (o + length (whole x)) xs b ys
    (subst (λ (n : ℕ). P n b) (let l = length-append (whole x) (laid xs) in let e : o + length (whole x ++ laid xs) ≡ (o + length (whole x)) + length
    (laid xs) = omega arith in e) p))

-- A name of a list is the place of a clause that has the code.
every_not : (P : ℕ → Type 0) (s : ℕ) (l : List ℕ) → Every P l → (P s → ⊥) → In s l → ⊥
every_not P s (x ∷ l) all never (inl e) = never (subst P (sym e) all.0)
every_not P s (x ∷ l) all never (inr i) = every_not P s l all.1 never i
every_not P s [] all never x3 = elim x3 [ ]

pub in_has : (c : ℕ) (xs : List Block) (b : Block) (ys : List Block) → In (length (laid xs)) (names_from c 0 (xs ++ (b ∷ ys))) → block_has c b ≡ true
in_has c xs b ys i = split (names_from c 0 xs) (names_below c 0 (length (laid xs)) xs (omega arith))
    (subst (In (length (laid xs))) (names_append c 0 xs (b ∷ ys)) i)
  where
    here : (t : Bool) → block_has c b ≡ t →
        In (length (laid xs)) (cond t ((0 + length (laid xs)) ∷ names_from c ((0 + length (laid xs)) + length (whole b)) ys)
        (names_from c ((0 + length (laid xs)) + length (whole b)) ys)) → block_has c b ≡ true
    here true e i = e
    here false e i = absurd (every_not (λ n. length (laid xs) + 1 ≤ n) (length (laid xs)) (names_from c ((0 + length (laid xs)) + length (whole b)) ys)
        (names_above c ((0 + length (laid xs)) + length (whole b)) (length (laid xs) + 1) ys (let w = whole_some b in omega arith)) (λ h. omega arith) i)

    split : (l : List ℕ) → Every (λ x. x < length (laid xs)) l →
        In (length (laid xs)) (l ++ cond (block_has c b) ((0 + length (laid xs)) ∷ names_from c ((0 + length (laid xs)) + length (whole b)) ys)
        (names_from c ((0 + length (laid xs)) + length (whole b)) ys)) → block_has c b ≡ true
    split [] all i = here (block_has c b) refl i
    split (x ∷ l) all (inl e) = absurd (let h = all.0 in omega arith)
    split (x ∷ l) all (inr i) = split l all.1 i

-- ---- one clause is marked

module _ (kinds firsts names names' apart apart' : List ℕ) (off s low high : ℕ) {table : List ℕ} (u : Units kinds firsts names apart off table)
    (inside : s < length table) (first : begins table s ≡ true)
    (kept : (o : ℕ) → (o ≡ s → ⊥) → In o names → In o names') (still : (o : ℕ) → In o apart' →
    In o apart) (table' : List ℕ) (written : table' ≡ marked_at low high s table) where
  t : Split s u.blocks
  t = splits u.blocks u.fine s (let z = ap length u.is in omega arith) (ap (λ (l : List ℕ). begins l s) (sym u.is) ∙ first)

  parts : Every Fine t.before × Every Fine (t.block ∷ t.behind)
  parts = every_front Fine t.before (t.block ∷ t.behind) (subst (Every Fine) t.is u.fine)

  placed : table ≡ around t.before t.block t.behind
  placed = u.is ∙ ap laid t.is ∙ laid_around t.before t.block t.behind

  pub units_changed : ((xs ys : List Block) (b : Block) → Every Fine xs → Every Fine ys → Fine b → table ≡ around xs b ys → s ≡ length (laid xs) →
      Becomes (UnitKnown kinds firsts) names' s low high b)
      → ((xs ys : List Block) (b : Block) → Every Fine xs → Every Fine ys → Fine b → table ≡ around xs b ys → s ≡ length (laid xs) → (v : ℕ) → (v ≡ off → ⊥) →
      FirstUnit kinds firsts apart v s b → ⊥) → Units kinds firsts names' apart' off table'
  units_changed does never =
      record {
        blocks = t.before ++ (e.after ∷ t.behind);
        is = is_after m ∙ sym (laid_around t.before e.after t.behind);
        fine = every_append Fine t.before (e.after ∷ t.behind) parts.0 (e.fine, parts.1.1);
        complete = changed (UnitKnown kinds firsts) names names' s kept 0 t.before t.block e.after t.behind at_zero sized e.then
            (subst (AllBut (UnitKnown kinds firsts) names 0) t.is u.complete);
        sound = λ v other positive small some_IsFirst.
            some_changed (FirstUnit kinds firsts apart v) (FirstUnit kinds firsts apart' v)
            (λ o b f. record { noted = f.noted; apart = λ i. f.apart (still o i); own = f.own; some_unit = f.some_unit })
            0 t.before t.block e.after t.behind sized
            (λ f. never t.before t.behind t.block parts.0 parts.1.1 parts.1.0 placed t.here v other
            (subst (λ (n : ℕ). FirstUnit kinds firsts apart v n t.block) (sym at_zero) f))
            (subst (SomeAt (FirstUnit kinds firsts apart v) 0) t.is (u.sound v other positive small some_IsFirst));
      }
    where
      e : Becomes (UnitKnown kinds firsts) names' s low high t.block
      e = does t.before t.behind t.block parts.0 parts.1.1 parts.1.0 placed t.here

      sized : length (whole e.after) ≡ length (whole t.block)
      sized = ap length e.made ∙ length-map (whole t.block) (marked low high)

      at_zero : s ≡ 0 + length (laid t.before)
      at_zero = t.here ∙ (let z : length (laid t.before) ≡ 0 + length (laid t.before) = omega arith in z)

      m : Marks table table' s low high
      m =
          record {
            xs = t.before;
            ys = t.behind;
            b = t.block;
            d = e.after;
            is = placed;
            here = t.here;
            fine_xs = parts.0;
            fine_ys = parts.1.1;
            fine_b = parts.1.0;
            fine_d = e.fine;
            made = e.made;
            written = written;
          }

-- ---- a clause of one entry has no other code

module _ (kinds firsts apart : List ℕ) (c : ℕ) (two : 2 ≤ c) (small : c < last_code + 1) {table : List ℕ} where
  pub no_unit : (xs ys : List Block) (b : Block) → Every Fine xs → Every Fine ys → Fine b → table ≡ around xs b ys → (s : ℕ) → s ≡ length (laid xs) →
      In s (listed c table) → (v : ℕ) → (v ≡ c / 2 → ⊥) → FirstUnit kinds firsts apart v s b → ⊥
  no_unit xs ys b fx fy f is s here i v other u =
      let l : Laid table = record { blocks = xs ++ (b ∷ ys); is = is ∙ sym (laid_around xs b ys); fine = every_append Fine xs (b ∷ ys) fx (f, fy) } in
      let h = in_has c xs b ys (subst (λ (n : ℕ). In n (names_from c 0 (xs ++ (b ∷ ys)))) here (subst (In s) (listed_table l) i)) in
      let e = unit_has kinds c (omega arith) (inner b) (entries_of b f) u.some_unit (sym (has_inner c two (omega arith) b f) ∙ h) in
      other (sym u.own ∙ ap (λ (n : ℕ). n / 2) (sym e))
    where
      listed_table : (l : Laid table) → listed c table ≡ names_from c 0 l.blocks
      listed_table l = lists l c

-- The places of a literal are named before they are dropped.
pub units_named : (kinds firsts : List ℕ) (c : ℕ) → 2 ≤ c → c < last_code + 1 → {table : List ℕ} → Units kinds firsts [] [] (c / 2) table →
    Units kinds firsts (listed c table) (listed c table) (c / 2) table
units_named kinds firsts c two small {table} u =
    record {
      blocks = u.blocks;
      is = u.is;
      fine = u.fine;
      complete = more 0 u.blocks u.complete;
      sound = λ v other positive below some_IsFirst.
          let p = some_split (FirstUnit kinds firsts [] v) 0 u.blocks (u.sound v other positive below some_IsFirst) in
          subst (SomeAt (FirstUnit kinds firsts (listed c table) v) 0) (sym p.is)
          (some_at (FirstUnit kinds firsts (listed c table) v) 0 p.before p.block p.behind (named_apart v other p));
    }
  where
    more : (o : ℕ) (bs : List Block) → AllBut (UnitKnown kinds firsts) [] o bs → AllBut (UnitKnown kinds firsts) (listed c table) o bs
    more o [] all = tt
    more o (b ∷ bs) all = (still all.0, more (o + length (whole b)) bs all.1)
      where
        still : In o [] ⊎ UnitKnown kinds firsts o b → In o (listed c table) ⊎ UnitKnown kinds firsts o b
        still (inl i) = absurd i
        still (inr q) = inr q

    named_apart : (v : ℕ) → (v ≡ c / 2 → ⊥) → (p : SomeSplit (FirstUnit kinds firsts [] v) 0 u.blocks) →
        FirstUnit kinds firsts (listed c table) v (0 + length (laid p.before)) p.block
    named_apart v other p =
        let f = p.holds in
        let parts = every_front Fine p.before (p.block ∷ p.behind) (subst (Every Fine) p.is u.fine) in
        record {
          noted = f.noted;
          apart = λ i. no_unit kinds firsts [] c two small p.before p.behind p.block parts.0 parts.1.1 parts.1.0
              (u.is ∙ ap laid p.is ∙ laid_around p.before p.block p.behind) (0 + length (laid p.before))
              (let z : 0 + length (laid p.before) ≡ length (laid p.before) = omega arith in z) i v other f;
          own = f.own;
          some_unit = f.some_unit;
        }
