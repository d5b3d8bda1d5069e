-- A formula's tables: what is made of an accepted formula, what of tables is tested, and what a search over them gives. Assumes nothing.
use Prim.Native.Nat.{ℕ, zero, suc, ◌-◌, ◌/◌, ◌≤◌, ◌<◌}
use Rattle.std.specs.Prelude.{Result, Ok, Err}
use Rattle.cause.specs.declared.Cause.{Cause}
use Rattle.cause.specs.declared.Cause.TheVariants.{Kinds, Literals}
use Rattle.cause.specs.Cause.{refused_if, caused}
use mathlib.Core.Path.{◌≡◌, refl, sym, ◌∙◌, ap, ap₂, subst}
use mathlib.Core.Bool.{Bool, true, false, not, ◌&&◌, and-eq-true_iff, and-false, true≢false}
use mathlib.Core.List.{List, [], ◌∷◌}
use native.Mathlib.Omega.{arith}
use native.Mathlib.Decide.{dec_lt}
use borrow.Author.Tests.{ltb-false, lt-ltb, le-ltb, eq-eqb, ne_eqb, eqb-true, not-true}
use lib.Dec.{eqb, ltb, leb-suc-zero}
use lib.IntN.{ℤ, pos, nat_abs}
use lib.ListN.{length, get_or, take, get_or-eq_default}
use Rattle.formula.specs.Formula.{max_unknowns, max_entries, prefix}
use Rattle.formula.specs.Causes.{any, beyond, cause_1, cause_2, cause_3, checked, sizes, count}
use Rattle.formula.specs.declared.Formula.{Formula}
use Rattle.formula.proofs.Accepted.{Accepted, accepted, accepting, accepted_sizes}
use Rattle.formula.proofs.Any.{any_none, none_any, or_none}
use Rattle.expansion.specs.OtherSide.{side_of, other}
use Rattle.codes.specs.Codes.{last_code, encoding, refused, used as entries_used, filled as codes_filled}
use Rattle.codes.specs.Private.Clauses.{Coded, Names, Encoded}
use Rattle.codes.proofs.EncodeLaws.{accepted as encodable, encoding_length, encoding_encoded, used_part}
use Rattle.index.specs.Index.{index_size, index_of, filled as index_filled}
use Rattle.index.proofs.IndexLaws.{index_laid}
use Rattle.engine.specs.Private.Terms.{ListedIn}
use Rattle.engine.specs.declared.search.Search.{Search}
use Rattle.engine.specs.Private.Prepared.{Prepared, Prepares, no_code, tables_fit, later_cause, cause_over, SearchedOver}
use Rattle.engine.specs.Private.Whole.{side_kind, Tables, TablesOf, Answered}
use Rattle.engine.proofs.search.CallLaws.{lists}
use Rattle.engine.proofs.search.WholeLaws.{accepted_ended}
use Rattle.engine.proofs.search.OutcomeLaws.{answered_searched}

-- ---- what is made

module _ (kinds : List ℕ) (literals : List ℤ) (of : Accepted kinds literals) where
  names : Names max_unknowns literals
  names i lt = omega (arith, of.within i, of.few_unknowns)

  encoded : Encoded literals (encoding literals)
  encoded = encoding_encoded literals (accepted_ended kinds literals of)

  codes_few : length (encoding literals) ≤ max_entries
  codes_few = omega (arith, encoding_length literals, of.few_entries)

  codes_coded : Coded max_unknowns (encoding literals)
  codes_coded = encoded.coded max_unknowns names

  tables_made : (codes index : List ℕ) (used : ℕ) (codes_then index_then : List ℕ) → length codes ≡ max_entries → length index ≡ index_size
      → used ≡ entries_used literals (length codes) → codes_then ≡ codes_filled literals codes → index_then ≡ index_filled (take used codes_then) index
      → (take used codes_then ≡ encoding literals) × (index_then ≡ index_of (take used codes_then))
  tables_made codes index used codes_then index_then room place e f g = (
    made,
    lists (take used codes_then) index (subst (λ (l : List ℕ). length l ≤ max_entries) (sym made) codes_few)
        (subst (λ (l : List ℕ). Coded max_unknowns l) (sym made) codes_coded) place g,
  )
    where
      made : take used codes_then ≡ encoding literals
      made = ap₂ {C = List ℕ} take e f ∙ used_part literals codes (encodable literals (length codes) (omega (arith, room, of.few_entries)) names)

module _ (kinds : List ℕ) (literals : List ℤ) (codes index terms : List ℕ) (used : ℕ) (codes_then index_then terms_then : List ℕ) where
  pub prepares : used ≡ entries_used literals (length codes) → codes_then ≡ codes_filled literals codes → index_then ≡ index_filled (take used codes_then) index
      → length terms_then ≡ length terms → ListedIn kinds (take used codes_then) terms_then
      → Prepares kinds literals codes index terms used codes_then index_then terms_then
  prepares e f g same told = record {
    entries = e;
    coded = f;
    listed = g;
    terms_listed = told;
    prepared = λ passes room place size.
        let of = accepted kinds literals passes in
        let made = tables_made kinds literals of codes index used codes_then index_then room place e f g in
        let few : length (take used codes_then) ≤ max_entries = subst (λ (l : List ℕ). length l ≤ max_entries) (sym made.0) (codes_few kinds literals of) in
        record { accepted = passes; coded = made.0; listed = made.1; terms_sized = same ∙ size; terms_listed = told few (same ∙ size) };
  }

-- No more entries are used than there are places.
not_longer : (literals : List ℤ) (places : ℕ) → refused literals places ≡ false → length literals ≤ places
unfolding refused
not_longer literals places e = ltb-false places (length literals) (or_none (ltb places (length literals)) (any (beyond max_unknowns) literals) e).0

pub used_within : (literals : List ℤ) (places : ℕ) → entries_used literals places ≤ places
used_within literals places = go (refused literals places) refl
  where
    go : (b : Bool) → refused literals places ≡ b → entries_used literals places ≤ places
    go true e = rw e (omega arith)
    go false e = rw e (omega (arith, encoding_length literals, not_longer literals places e))

-- An accepted formula has its own sizes.
pub passes : (kinds : List ℕ) (literals : List ℤ) {f : Formula} → checked kinds literals ≡ Ok f → checked kinds literals ≡ Ok (sizes kinds literals)
passes kinds literals e = e ∙ ap Ok (accepted_sizes kinds literals e)

-- ---- what is tested

pub other_one : (c : ℕ) {x : ℕ} → x ≡ c → x ≡ 1 → true ≡ no_code c
other_one c same is = sym (rw (eq-eqb c 1 (sym same ∙ is)))

pub other_above : (c : ℕ) {x : ℕ} → x ≡ c → (x ≡ 1 → ⊥) → ltb last_code x ≡ no_code c
other_above c same not_1 = ap (ltb last_code) same ∙ sym (rw (ne_eqb c 1 (λ e. not_1 (same ∙ e))))

code_known : (c : ℕ) → no_code c ≡ false → 0 < c → (2 ≤ c) × (c / 2 - 1 < max_unknowns)
code_known c e some =
    let both = or_none (eqb c 1) (ltb last_code c) e in
    let high : c ≤ last_code = ltb-false last_code c both.1 in
    let other : c ≡ 1 → ⊥ = λ is. true≢false (sym (eq-eqb c 1 is) ∙ both.0) in
    go c some high other
  where
    go : (x : ℕ) → 0 < x → x ≤ last_code → (x ≡ 1 → ⊥) → (2 ≤ x) × (x / 2 - 1 < max_unknowns)
    go zero a b n = absurd (omega arith)
    go (suc zero) a b n = absurd (n refl)
    go (suc (suc x)) a b n = (omega arith, omega arith)

known_code : (c : ℕ) → (0 < c → (2 ≤ c) × (c / 2 - 1 < max_unknowns)) → no_code c ≡ false
known_code zero h = refl
known_code (suc c) h =
    let p = h (omega arith) in
    rw (ne_eqb (suc c) 1 (λ e. omega (arith, p.0)), le-ltb last_code (suc c) (omega (arith, p.1)))

module _ (codes : List ℕ) where
  all_coded : any no_code codes ≡ false → Coded max_unknowns codes
  all_coded none e lt some = code_known (get_or codes e 0) (any_none no_code 0 refl codes none e) some

  coded_all : Coded max_unknowns codes → any no_code codes ≡ false
  coded_all coded = none_any no_code 0 codes (λ e. known_code (get_or codes e 0) (λ some. coded e (inside e some) some))
    where
      inside : (e : ℕ) → 0 < get_or codes e 0 → e < length codes
      inside e some = by_place (dec_lt e (length codes))
        where
          by_place : Dec (e < length codes) → e < length codes
          by_place (yes h) = h
          by_place (no h) = absurd (omega (arith, get_or-eq_default codes 0 {n = e} (omega arith)))

  module _ (places : ℕ) where
    pub fit_long : max_entries < length codes → false ≡ tables_fit codes places
    unfolding tables_fit
    fit_long h = sym (rw (lt-ltb max_entries (length codes) h))

    pub fit_other_size : (places ≡ index_size → ⊥) → false ≡ tables_fit codes places
    unfolding tables_fit
    fit_other_size n = sym (rw (ne_eqb places index_size n) (and-false (not (ltb max_entries (length codes)))))

    pub fit_tested : length codes ≤ max_entries → places ≡ index_size → (found : Bool) → found ≡ any no_code codes → not found ≡ tables_fit codes places
    unfolding tables_fit
    fit_tested few size found e = sym (rw (le-ltb max_entries (length codes) few, eq-eqb places index_size size, ← e))

    module _ (fits : tables_fit codes places ≡ true) where
      fit_parts : (not (ltb max_entries (length codes)) ≡ true) × (eqb places index_size && not (any no_code codes) ≡ true)
      unfolding tables_fit
      fit_parts = (and-eq-true_iff (not (ltb max_entries (length codes))) (eqb places index_size && not (any no_code codes))).0 fits

      fit_few : length codes ≤ max_entries
      fit_few = ltb-false max_entries (length codes) (not-true (ltb max_entries (length codes)) fit_parts.0)

      fit_size : places ≡ index_size
      fit_size = eqb-true places index_size ((and-eq-true_iff (eqb places index_size) (not (any no_code codes))).0 fit_parts.1).0

      fit_coded : Coded max_unknowns codes
      fit_coded = all_coded (not-true (any no_code codes) ((and-eq-true_iff (eqb places index_size) (not (any no_code codes))).0 fit_parts.1).1)

-- ---- the prefix alone

-- One empty clause.
abbrev pub one : List ℤ
one = pos 0 ∷ []

module _ (kinds : List ℕ) where
  checked_one : checked kinds one ≡ refused_if (cause_1 kinds) Kinds (Ok (sizes kinds one))
  unfolding checked cause_2 cause_3
  checked_one = rw (leb-suc-zero (length kinds))

  -- what is refused has cause 1, and no formula with these kinds is accepted
  one_refused : (c : Cause) → checked kinds one ≡ Err c → (cause_1 kinds ≡ true) × (c ≡ Kinds)
  one_refused c e = go (cause_1 kinds) (sym checked_one ∙ e)
    where
      go : (b : Bool) → refused_if b Kinds (Ok (sizes kinds one)) ≡ Err c → (b ≡ true) × (c ≡ Kinds)
      go true q = (refl, let z : Kinds ≡ c = cc in sym z)
      go false q = absurd (let z : ◌≡◌ {A = ℕ} 0 1 = cc in omega arith)

  one_passed : (f : Formula) → checked kinds one ≡ Ok f → cause_1 kinds ≡ false
  one_passed f e = go (cause_1 kinds) (sym checked_one ∙ e)
    where
      go : (b : Bool) → refused_if b Kinds (Ok (sizes kinds one)) ≡ Ok f → b ≡ false
      go true q = absurd (let z : ◌≡◌ {A = ℕ} 0 1 = cc in omega arith)
      go false q = refl

  one_accepted : (literals : List ℤ) → Accepted kinds literals → (c : Cause) → checked kinds one ≡ Err c → ⊥
  one_accepted literals of c e = let z : ◌≡◌ {A = Result Formula Cause} (Ok (sizes kinds one)) (Err c) = sym (accepting kinds one with_one) ∙ e in let y : ◌≡◌
      {A = ℕ} 0 1 = cc in omega
      arith
    where
      zero_there : (i : ℕ) → nat_abs (get_or one i (pos 0)) ≤ length kinds
      zero_there zero = omega arith
      zero_there (suc i) = omega arith

      with_one : Accepted kinds one
      with_one = record {
        few_unknowns = of.few_unknowns;
        kinds_known = of.kinds_known;
        few_entries = omega arith;
        few_clauses = omega arith;
        clauses_are_zeros = refl;
        last_is_zero = refl;
        within = zero_there;
      }

-- ---- what is answered over tables

pub tables_lent : (kinds codes index : List ℕ) (f : Formula) → checked kinds one ≡ Ok f → tables_fit codes (length index) ≡ true → Tables kinds codes index
tables_lent kinds codes index f passed fits = record {
  few_unknowns = (accepted kinds one passed).few_unknowns;
  entries = fit_few codes (length index) fits;
  coded = fit_coded codes (length index) fits;
  index_lent = fit_size codes (length index) fits;
}

module _ (kinds codes index terms : List ℕ) where
  tables_of : (literals : List ℤ) → Prepared kinds literals codes index terms → TablesOf kinds literals codes index terms
  tables_of literals p = record {
    accepted = accepted kinds literals p.accepted;
    encoded = subst (λ (l : List ℕ). Encoded literals l) (sym p.coded) (encoded kinds literals (accepted kinds literals p.accepted));
    listed = p.listed;
    terms_sized = p.terms_sized;
    terms_listed = p.terms_listed;
  }

  prepared_fit : (literals : List ℤ) → Prepared kinds literals codes index terms → tables_fit codes (length index) ≡ true
  prepared_fit literals p =
      let of = accepted kinds literals p.accepted in
      let few : length codes ≤ max_entries = subst (λ (l : List ℕ). length l ≤ max_entries) (sym p.coded) (codes_few kinds literals of) in
      let known : Coded max_unknowns codes = subst (λ (l : List ℕ). Coded max_unknowns l) (sym p.coded) (codes_coded kinds literals of) in
      sym (fit_tested codes (length index) few (ap length p.listed ∙ (index_laid codes few).sized) false (sym (coded_all codes known)))

  module _ (preferences own : List ℕ) (known : ℕ) (rows : List ℕ) (lent : ℕ) (universal? : Bool) (w : List ℕ) where
    cause_of_kinds : cause_1 kinds ≡ true → cause_over kinds codes index rows lent universal? w ≡ 1
    unfolding cause_over
    cause_of_kinds e = rw e

    cause_of_tables : cause_1 kinds ≡ false → tables_fit codes (length index) ≡ false → cause_over kinds codes index rows lent universal? w ≡ 2
    unfolding cause_over
    cause_of_tables e f = rw (e, f)

    pub over_refused_kinds : (c : Cause) → checked kinds one ≡ Err c →
        SearchedOver kinds codes index terms preferences own known rows lent universal? w (Err c) w
    over_refused_kinds c e = record {
      prepared = λ literals p _. absurd (one_accepted kinds literals (accepted kinds literals p.accepted) c e);
      refused = λ _. (ap Err ((one_refused kinds c e).1 ∙ sym (ap caused (cause_of_kinds (one_refused kinds c e).0))), refl);
    }

    module _ (f : Formula) (passed : checked kinds one ≡ Ok f) where
      pub over_refused_tables : tables_fit codes (length index) ≡ false →
          SearchedOver kinds codes index terms preferences own known rows lent universal? w (Err Literals) w
      over_refused_tables unfit = record {
        prepared = λ literals p _. absurd (true≢false (sym (prepared_fit literals p) ∙ unfit));
        refused = λ _. (sym (ap (λ (n : ℕ). Err (caused n)) (cause_of_tables (one_passed kinds f passed) unfit)), refl);
      }

      module _ (fits : tables_fit codes (length index) ≡ true) (others side : ℕ) (same_side : side_kind side ≡ side_of universal?)
          (others_known : others ≡ count (other (side_kind side)) (prefix kinds)) where
        later : cause_over kinds codes index rows lent universal? w ≡ later_cause rows lent others w
        unfolding cause_over
        later = rw (one_passed kinds f passed, fits, ← same_side, ← others_known)

        pub over_answered : (u : List ℕ) (r : Result Search Cause) → Answered kinds codes index terms preferences own known rows lent others side w u r →
            SearchedOver kinds codes index terms preferences own known rows lent universal? w r u
        over_answered u r a = record {
          prepared = λ literals p leads. answered_searched kinds literals preferences rows lent universal? w (sizes kinds literals) p.accepted others side
              same_side others_known codes index terms own known (tables_of literals p) leads u r a;
          refused = λ cause. let q = a.refused (λ z. cause (later ∙ z)) in (q.0 ∙ ap (λ (n : ℕ). Err (caused n)) (sym later), q.1);
        }
