-- The causes in order, and the outcome: what is answered over an accepted formula's tables is the outcome of the whole. Assumes nothing.
use Prim.Native.Nat.{ℕ, zero, suc, ◌+◌, ◌-◌, ◌*◌, ◌%◌, ◌≤◌, ◌<◌}
use Rattle.std.specs.Prelude.{Result, Ok, Err}
use Rattle.cause.specs.declared.Cause.{Cause}
use Rattle.cause.specs.Cause.{number as number_of, caused, told, unless_cause}
use Rattle.cause.proofs.Numbers.{from_1, caused_number, Known, known_cond, known_told, unless_number}
use mathlib.Core.Path.{◌≡◌, refl, sym, ◌∙◌, ap, subst}
use mathlib.Core.Bool.{Bool, true, false, not, cond, ◌&&◌, and-eq-true_iff}
use mathlib.Core.List.{List, [], ◌∷◌}
use mathlib.Core.Option.{Option, none, some}
use native.Mathlib.Omega.{arith}
use borrow.Author.Tests.{eq-eqb, ne_eqb, lt-ltb, le-ltb, leb-true}
use lib.Dec.{eqb, leb, ltb}
use lib.IntN.{ℤ}
use lib.ListN.{length, length-map}
use Rattle.formula.specs.Formula.{Kind, existential, universal, kind_of, prefix, clauses, max_rows, work_size}
use Rattle.formula.specs.Meaning.{matrix}
use Rattle.formula.specs.Causes.{count, checked}
use Rattle.formula.specs.declared.Formula.{Formula}
use Rattle.formula.proofs.Accepted.{accepted_sizes}
use Rattle.preference.specs.Preference.{prefer}
use Rattle.rows.specs.Table.{rows_of, room, table_fits}
use Rattle.rows.specs.Stray.{stray_rows}
use Rattle.expansion.specs.OtherSide.{side_of, other}
use Rattle.expansion.specs.Play.{Row}
use Rattle.expansion.specs.Model.{search}
use Rattle.expansion.proofs.Booleans.{never_both}
use Rattle.expansion.proofs.Right.{search_right}
use Rattle.engine.specs.declared.search.Search.{Search}
use Rattle.engine.specs.declared.search.Search.TheVariants.{Found, NoModel}
use Rattle.engine.specs.Search.{lent_rows, cause, found, answer, left, outcome, work_after, number, outcome_number, Searched}
use Rattle.engine.specs.Private.Prepared.{later_cause, LastLeads, KnownLeads}
use Rattle.engine.specs.Private.Whole.{side_kind, TablesOf, FoundIs, Finds, Answered}

-- ---- the causes behind the formula's

module _ (rows : List ℕ) (lent others : ℕ) (work : List ℕ) where
  pub cause_table : table_fits rows ≡ false → later_cause rows lent others work ≡ 4
  unfolding later_cause
  cause_table e = rw e

  module _ (fits : table_fits rows ≡ true) where
    pub cause_area : (length work ≡ work_size → ⊥) → later_cause rows lent others work ≡ 5
    unfolding later_cause
    cause_area n = rw (fits, ne_eqb (length work) work_size n)

    module _ (area : length work ≡ work_size) where
      pub cause_count : room rows < lent → later_cause rows lent others work ≡ 7
      unfolding later_cause
      cause_count lt = rw (fits, eq-eqb (length work) work_size area, lt-ltb (room rows) lent lt)

      module _ (inside : lent ≤ room rows) where
        pub cause_stray : stray_rows others lent rows ≡ true → later_cause rows lent others work ≡ 8
        unfolding later_cause
        cause_stray e = rw (fits, eq-eqb (length work) work_size area, le-ltb (room rows) lent inside, e)

        pub no_cause : stray_rows others lent rows ≡ false → later_cause rows lent others work ≡ 0
        unfolding later_cause
        no_cause e = rw (fits, eq-eqb (length work) work_size area, le-ltb (room rows) lent inside, e)

pub fits_few : (rows : List ℕ) → table_fits rows ≡ true → room rows ≤ max_rows
unfolding table_fits
fits_few rows e =
    let a : leb 16 (length rows) && leb (length rows) (max_rows * 16) ≡ true = ((and-eq-true_iff (leb 16 (length rows) && leb (length rows) (max_rows * 16))
    (eqb (length rows % 16) 0)).0 e).0 in
    let b : leb (length rows) (max_rows * 16) ≡ true = ((and-eq-true_iff (leb 16 (length rows)) (leb (length rows) (max_rows * 16))).0 a).1 in
    let c : length rows ≤ max_rows * 16 = leb-true (length rows) (max_rows * 16) b in
    omega arith

-- ---- answers over tables that fit

module _ (kinds codes index terms preferences own : List ℕ) (known : ℕ) (rows : List ℕ) (lent others side : ℕ) (w : List ℕ) where
  pub answered_refused : (c : Cause) → later_cause rows lent others w ≡ number_of c →
      Answered kinds codes index terms preferences own known rows lent others side w w (Err c)
  answered_refused c e = record {
    refused = λ f. (sym (ap (λ (n : ℕ). Err (caused n)) e ∙ ap Err (caused_number c)), refl);
    answered = λ z. absurd (omega (arith, from_1 c));
  }

  pub answered_found : (u : List ℕ) (b : Bool) → later_cause rows lent others w ≡ 0 →
      Finds kinds codes index terms preferences own known rows lent others side b u → b ≡ true →
      Answered kinds codes index terms preferences own known rows lent others side w u (Ok Found)
  answered_found u b z found_is e = record {
    refused = λ f. absurd (f z);
    answered = λ q literals of leads. go (search (prefer preferences) (side_kind side) (prefix kinds) (matrix (clauses literals)) (rows_of others lent rows))
        (found_is literals of leads);
  }
    where
      go : (o : Option (List Row)) → FoundIs o b u → (◌≡◌ {A = Result Search Cause} (Ok Found) (Ok (answer o))) × (u ≡ left o)
      go none f = absurd (never_both e f.0)
      go (some ys) f = (refl, f.1)

  pub answered_none : (u : List ℕ) (b : Bool) → later_cause rows lent others w ≡ 0 →
      Finds kinds codes index terms preferences own known rows lent others side b u → b ≡ false →
      Answered kinds codes index terms preferences own known rows lent others side w u (Ok NoModel)
  answered_none u b z found_is e = record {
    refused = λ f. absurd (f z);
    answered = λ q literals of leads. go (search (prefer preferences) (side_kind side) (prefix kinds) (matrix (clauses literals)) (rows_of others lent rows))
        (found_is literals of leads);
  }
    where
      go : (o : Option (List Row)) → FoundIs o b u → (◌≡◌ {A = Result Search Cause} (Ok NoModel) (Ok (answer o))) × (u ≡ left o)
      go none f = (refl, f.1)
      go (some ys) f = absurd (never_both f.0 e)

-- ---- the formula's causes

module _ (kinds : List ℕ) (literals : List ℤ) (preferences rows : List ℕ) (lent : ℕ) (universal? : Bool) (w : List ℕ) where
  -- each cause's number is one's own
  known_cause : Known (cause kinds literals rows lent universal? w)
  unfolding cause
  known_cause =
      known_cond (eqb (told (checked kinds literals)) 0)
      (known_cond (not (table_fits rows)) {n = 4} refl
      (known_cond (not (eqb (length w) work_size)) {n = 5} refl
      (known_cond (ltb (room rows) lent) {n = 7} refl
      (known_cond (stray_rows (count (other (side_of universal?)) (prefix kinds)) lent rows) {n = 8} {m = 0} refl refl))))
      (known_told (checked kinds literals))

  number_so : outcome_number kinds literals preferences rows lent universal? w ≡ number (outcome kinds literals preferences rows lent universal? w)
  unfolding outcome outcome_number
  number_so = go (eqb (cause kinds literals rows lent universal? w) 0) known_cause
    where
      go : (b : Bool) → told {A = ℕ} (cond b (Ok 0) (Err (caused (cause kinds literals rows lent universal? w)))) ≡ cause kinds literals rows lent universal? w
          → cond b (number (Ok (answer (found kinds literals preferences rows lent universal?)))) (cause kinds literals rows lent universal? w)
          ≡ number (cond b (Ok (answer (found kinds literals preferences rows lent universal?))) (Err (caused (cause kinds literals rows lent universal? w))))
      go true known = refl
      go false known = sym known

  searched : (r : Result Search Cause) (u : List ℕ) → r ≡ outcome kinds literals preferences rows lent universal? w →
      u ≡ work_after kinds literals preferences rows lent universal? w
      → Searched kinds literals preferences rows lent universal? w r u
  searched r u e f =
      record {
        returned = e;
        numbered = ap number e ∙ sym number_so;
        area = f;
        right = search_right (prefer preferences) (side_of universal?) (prefix kinds) (matrix (clauses literals)) (lent_rows kinds rows lent universal?);
      }

  -- a cause of the formula's is the cause
  cause_first : (c : Cause) → checked kinds literals ≡ Err c → cause kinds literals rows lent universal? w ≡ number_of c
  unfolding cause
  cause_first c e = rw e (rw (ne_eqb (number_of c) 0 (λ z. omega (arith, from_1 c))))

  refused_outcome : (c : Cause) → checked kinds literals ≡ Err c → Err c ≡ outcome kinds literals preferences rows lent universal? w
  unfolding outcome
  refused_outcome c e =
      let answered = answer (found kinds literals preferences rows lent universal?) in
      sym (ap (λ (n : ℕ). unless_cause n answered) (cause_first c e) ∙ unless_number c answered)

  refused_work : (c : Cause) → checked kinds literals ≡ Err c → w ≡ work_after kinds literals preferences rows lent universal? w
  unfolding work_after
  refused_work c e = sym (rw (cause_first c e, ne_eqb (number_of c) 0 (λ z. omega (arith, from_1 c))))

  pub refused_searched : (c : Cause) → checked kinds literals ≡ Err c → Searched kinds literals preferences rows lent universal? w (Err c) w
  refused_searched c e = searched (Err c) w (refused_outcome c e) (refused_work c e)

  module _ (f : Formula) (passed : checked kinds literals ≡ Ok f) (others side : ℕ) (same_side : side_kind side ≡ side_of universal?)
      (others_known : others ≡ count (other (side_kind side)) (prefix kinds))
      (codes index terms own : List ℕ) (known : ℕ) (of : TablesOf kinds literals codes index terms)
      (leads : KnownLeads kinds literals preferences own known rows lent universal?) where
    others_same : count (other (side_of universal?)) (prefix kinds) ≡ others
    others_same = ap (λ (s : Kind). count (other s) (prefix kinds)) (sym same_side) ∙ sym others_known

    cause_later : cause kinds literals rows lent universal? w ≡ later_cause rows lent others w
    unfolding cause later_cause
    cause_later = rw (passed, others_same)

    found_same : found kinds literals preferences rows lent universal? ≡ search (prefer preferences) (side_kind side) (prefix kinds) (matrix (clauses literals))
        (rows_of others lent rows)
    unfolding found lent_rows
    found_same = rw (others_same, ← same_side)

    leads_same : LastLeads kinds literals preferences own known (side_kind side) (rows_of others lent rows)
    unfolding lent_rows
    leads_same =
        subst (λ (s : Kind). LastLeads kinds literals preferences own known s (rows_of others lent rows)) (sym same_side)
        (subst (λ (n : ℕ). LastLeads kinds literals preferences own known (side_of universal?) (rows_of n lent rows)) others_same leads)

    answered_outcome : (u : List ℕ) (r : Result Search Cause) → Answered kinds codes index terms preferences own known rows lent others side w u r →
        r ≡ outcome kinds literals preferences rows lent universal? w
    unfolding outcome
    answered_outcome u r a = go (later_cause rows lent others w) refl
      where
        go : (n : ℕ) → later_cause rows lent others w ≡ n →
            r ≡ unless_cause (cause kinds literals rows lent universal? w) (answer (found kinds literals preferences rows lent universal?))
        go zero e = (a.answered e literals of leads_same).0 ∙ sym (rw (cause_later, e, found_same))
        go (suc n) e = (a.refused (λ z. omega arith)).0 ∙ sym (rw (cause_later, e, ne_eqb (suc n) 0 (λ z. omega arith)))

    answered_work : (u : List ℕ) (r : Result Search Cause) → Answered kinds codes index terms preferences own known rows lent others side w u r →
        u ≡ work_after kinds literals preferences rows lent universal? w
    unfolding work_after
    answered_work u r a = go (later_cause rows lent others w) refl
      where
        go : (n : ℕ) → later_cause rows lent others w ≡ n →
            u ≡ cond (eqb (cause kinds literals rows lent universal? w) 0) (left (found kinds literals preferences rows lent universal?)) w
        go zero e = (a.answered e literals of leads_same).1 ∙ sym (rw (cause_later, e, found_same))
        go (suc n) e = (a.refused (λ z. omega arith)).1 ∙ sym (rw (cause_later, e, ne_eqb (suc n) 0 (λ z. omega arith)))

    pub answered_searched : (u : List ℕ) (r : Result Search Cause) → Answered kinds codes index terms preferences own known rows lent others side w u r
        → Searched kinds literals preferences rows lent universal? w r u
    answered_searched u r a = searched r u (answered_outcome u r a) (answered_work u r a)

-- ---- the numbers of unknowns

count_both : (ks : List Kind) → count universal ks + count existential ks ≡ length ks
count_both [] = refl
count_both (existential ∷ ks) = let r : count universal ks + count existential ks ≡ length ks = count_both ks in omega arith
count_both (universal ∷ ks) = let r : count universal ks + count existential ks ≡ length ks = count_both ks in omega arith

module _ (kinds : List ℕ) (literals : List ℤ) (f : Formula) (passed : checked kinds literals ≡ Ok f) where
  universals_known : f.universals ≡ count universal (prefix kinds)
  universals_known = ap (λ (x : Formula). x.universals) (accepted_sizes kinds literals passed)

  pub universals_most : f.universals ≤ length kinds
  universals_most =
      let a : f.universals ≡ count universal (prefix kinds) = universals_known in
      let b : count universal (prefix kinds) + count existential (prefix kinds) ≡ length (prefix kinds) = count_both (prefix kinds) in
      let c : length (prefix kinds) ≡ length kinds = length-map kinds kind_of in
      omega arith

  pub others_existential : f.universals ≡ count (other (side_kind 0)) (prefix kinds)
  others_existential = universals_known

  pub others_universal : length kinds - f.universals ≡ count (other (side_kind 1)) (prefix kinds)
  others_universal =
      let a : f.universals ≡ count universal (prefix kinds) = universals_known in
      let b : count universal (prefix kinds) + count existential (prefix kinds) ≡ length (prefix kinds) = count_both (prefix kinds) in
      let c : length (prefix kinds) ≡ length kinds = length-map kinds kind_of in
      omega arith
