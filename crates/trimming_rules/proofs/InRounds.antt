-- The changes, made one at a time with a fresh start after each, come to the same as the rounds.
-- Assumes nothing.
use Prim.Native.Nat.{ℕ, zero, suc, ◌≤◌, ◌<◌}
use native.Mathlib.Omega.{arith}
use mathlib.Core.Path.{◌≡◌, refl, sym, ◌∙◌, ap, ap₂, subst}
use mathlib.Core.Logic.{◌⊎◌, inl, inr}
use mathlib.Core.Bool.{Bool, true, false, not, cond, ◌&&◌, ◌||◌, false≢true}
use mathlib.Core.List.{List, [], ◌∷◌, ◌++◌}
use mathlib.Core.Option.{Option, none, some}
use lib.IntN.{ℤ, neg_ℤ}
use Rattle.formula.specs.Formula.{Kind, existential, universal, Clause}
use Rattle.formula.specs.Causes.{any}
use Rattle.trimming_rules.specs.Trimming.{has, is_universal, kind_at, keep, behind, first_of, without_first, always_true, rule_1, follows, reducible}
use Rattle.trimming_rules.specs.Trimming.{rule_2, lowest_unit, without_clauses, without_literal, set_true, if_some, rule_3, lowest_pure, dropped, rule_4}
use Rattle.trimming_rules.specs.Trimming.{step, from_step, steps}
use Rattle.trimming_rules.specs.Private.Rounds.{untrue, reduced_clause, reduced, rounds}
use Rattle.trimming_rules.proofs.ClauseLaws.{Every, In, every_in, every_from, in_any, any_in, has_in, in_has, keep_in, true_or_false, never_both}
use Rattle.trimming_rules.proofs.RuleLaws.{none_not_some, some_is}
use Rattle.trimming_rules.proofs.StepLaws.{size, step_less, steps_still, keep_fewer}

-- ---- what the changes end in

pub steps_enough : (m l : ℕ) (ks : List Kind) (cs : List Clause) → size cs ≤ m → size cs ≤ l → steps m ks cs ≡ steps l ks cs
steps_enough zero zero ks cs p q = refl
steps_enough zero (suc l) ks cs p q = go (step ks cs) refl
  where
    go : (o : Option (List Clause)) → step ks cs ≡ o → cs ≡ from_step o (steps l ks) cs
    go none e = refl
    go (some ds) e = absurd (let f = (step_less ks 0 cs ds e).falls in omega arith)
steps_enough (suc m) zero ks cs p q = go (step ks cs) refl
  where
    go : (o : Option (List Clause)) → step ks cs ≡ o → from_step o (steps m ks) cs ≡ cs
    go none e = refl
    go (some ds) e = absurd (let f = (step_less ks 0 cs ds e).falls in omega arith)
steps_enough (suc m) (suc l) ks cs p q = go (step ks cs) refl (λ ds. steps_enough m l ks ds)
  where
    go : (o : Option (List Clause)) → step ks cs ≡ o → ((ds : List Clause) → size ds ≤ m → size ds ≤ l → steps m ks ds ≡ steps l ks ds) →
        from_step o (steps m ks) cs ≡ from_step o (steps l ks) cs
    go none e later = refl
    go (some ds) e later = let f = (step_less ks 0 cs ds e).falls in later ds (omega arith) (omega arith)

abbrev pub settled : List Kind → List Clause → List Clause
settled ks cs = steps (size cs) ks cs

-- A change leads to the same end.
pub settled_step : (ks : List Kind) (cs ds : List Clause) → step ks cs ≡ some ds → settled ks cs ≡ settled ks ds
settled_step ks cs ds e =
    let f = (step_less ks 0 cs ds e).falls in
    steps_enough (size cs) (suc (size cs)) ks cs (omega arith) (omega arith)
    ∙ ap (λ o. from_step o (steps (size cs) ks) cs) e
    ∙ steps_enough (size cs) (size ds) ks ds (omega arith) (omega arith)

pub settled_none : (ks : List Kind) (cs : List Clause) → step ks cs ≡ none → settled ks cs ≡ cs
settled_none ks cs e = steps_still (size cs) ks cs e

-- ---- always-true clauses

abbrev pub Untrue : Clause → Type 0
Untrue c = always_true c ≡ false

append_nil : {A : Type 0} (xs : List A) → xs ++ [] ≡ xs
append_nil [] = refl
append_nil (x ∷ xs) = ap (λ l. x ∷ l) (append_nil xs)

append_one : {A : Type 0} (xs : List A) (a : A) (ys : List A) → (xs ++ (a ∷ [])) ++ ys ≡ xs ++ (a ∷ ys)
append_one [] a ys = refl
append_one (x ∷ xs) a ys = ap (λ l. x ∷ l) (append_one xs a ys)

every_append : {A : Type 0} (Q : A → Type 0) (xs ys : List A) → Every Q xs → Every Q ys → Every Q (xs ++ ys)
every_append Q [] ys p q = q
every_append Q (x ∷ xs) ys p q = (p.0, every_append Q xs ys p.1 q)

-- A test that fails in front passes over it.
without_past : {A : Type 0} (test : A → Bool) (xs : List A) (a : A) (ys : List A) → Every (λ x. test x ≡ false) xs → test a ≡ true →
    without_first test (xs ++ (a ∷ ys)) ≡ some (xs ++ ys)
without_past test [] a ys fails passes = rw passes
without_past test (x ∷ xs) a ys fails passes = rw fails.0 (ap (behind x) (without_past test xs a ys fails.1 passes))

without_none : {A : Type 0} (test : A → Bool) (xs : List A) → Every (λ x. test x ≡ false) xs → without_first test xs ≡ none
without_none test [] fails = refl
without_none test (x ∷ xs) fails = rw fails.0 (ap (behind x) (without_none test xs fails.1))

step_1 : (ks : List Kind) (cs ds : List Clause) → rule_1 cs ≡ some ds → step ks cs ≡ some ds
unfolding step
step_1 ks cs ds e = ap (λ o. first_of o (first_of (rule_2 ks cs) (first_of (rule_3 ks cs) (rule_4 ks cs)))) e

step_2 : (ks : List Kind) (cs ds : List Clause) → rule_1 cs ≡ none → rule_2 ks cs ≡ some ds → step ks cs ≡ some ds
unfolding step
step_2 ks cs ds p e = ap₂ (λ a b. first_of a (first_of b (first_of (rule_3 ks cs) (rule_4 ks cs)))) p e

step_later : (ks : List Kind) (cs : List Clause) → rule_1 cs ≡ none → rule_2 ks cs ≡ none → step ks cs ≡ first_of (rule_3 ks cs) (rule_4 ks cs)
unfolding step
step_later ks cs p e = ap₂ (λ a b. first_of a (first_of b (first_of (rule_3 ks cs) (rule_4 ks cs)))) p e

untrue_past : (ks : List Kind) (done cs : List Clause) → Every Untrue done → settled ks (done ++ cs) ≡ settled ks (done ++ untrue cs)
untrue_past ks done [] known = refl
untrue_past ks done (c ∷ cs) known = go (always_true c) refl (untrue_past ks done cs known) (λ more. untrue_past ks (done ++ (c ∷ [])) cs more)
  where
    go : (t : Bool) → always_true c ≡ t → settled ks (done ++ cs) ≡ settled ks (done ++ untrue cs)
        → (Every Untrue (done ++ (c ∷ [])) → settled ks ((done ++ (c ∷ [])) ++ cs) ≡ settled ks ((done ++ (c ∷ [])) ++ untrue cs))
        → settled ks (done ++ (c ∷ cs)) ≡ settled ks (done ++ cond (not t) (c ∷ untrue cs) (untrue cs))
    go true p later deeper = settled_step ks (done ++ (c ∷ cs)) (done ++ cs)
        (step_1 ks (done ++ (c ∷ cs)) (done ++ cs) (without_past always_true done c cs known p)) ∙ later
    go false p later deeper =
        ap (settled ks) (sym (append_one done c cs))
        ∙ deeper (every_append Untrue done (c ∷ []) known (p, tt))
        ∙ ap (settled ks) (append_one done c (untrue cs))

pub settled_untrue : (ks : List Kind) (cs : List Clause) → settled ks cs ≡ settled ks (untrue cs)
settled_untrue ks cs = untrue_past ks [] cs tt

pub all_untrue : (cs : List Clause) → Every Untrue (untrue cs)
all_untrue cs = every_from Untrue (untrue cs) (λ c i. turn (always_true c) (keep_in (λ d. not (always_true d)) cs c i).1)
  where
    turn : (b : Bool) → not b ≡ true → b ≡ false
    turn true e = absurd (false≢true e)
    turn false e = refl

-- A clause with fewer literals is no more true.
pub untrue_part : (c d : Clause) → ((y : ℤ) → In y d → In y c) → Untrue c → Untrue d
untrue_part c d part u = go (true_or_false (always_true d))
  where
    go : (always_true d ≡ true) ⊎ (always_true d ≡ false) → always_true d ≡ false
    go (inr f) = f
    go (inl t) =
        let i = any_in (λ z. has (neg_ℤ z) d) d t in
        absurd (never_both (in_any (λ z. has (neg_ℤ z) c) c i.0 (part i.0 i.1)
        (in_has (neg_ℤ i.0) c (part (neg_ℤ i.0) (has_in (neg_ℤ i.0) d i.2)))) u)

-- ---- reduction

abbrev Irreducible : List Kind → Clause → Type 0
Irreducible ks c = without_first (reducible ks c) c ≡ none

rule_2_past : (ks : List Kind) (done : List Clause) (c d : Clause) (cs : List Clause) → Every (Irreducible ks) done → without_first (reducible ks c) c ≡ some d
    → rule_2 ks (done ++ (c ∷ cs)) ≡ some (done ++ (d ∷ cs))
rule_2_past ks [] c d cs known e = rw e
rule_2_past ks (x ∷ done) c d cs known e = rw known.0 (ap (behind x) (rule_2_past ks done c d cs known.1 e))

rule_2_none : (ks : List Kind) (cs : List Clause) → Every (Irreducible ks) cs → rule_2 ks cs ≡ none
rule_2_none ks [] known = refl
rule_2_none ks (c ∷ cs) known = rw known.0 (ap (behind c) (rule_2_none ks cs known.1))

-- A universal literal follows nothing.
universal_follows_none : (ks : List Kind) (z y : ℤ) → is_universal (kind_at ks z) ≡ true → follows ks y z ≡ false
universal_follows_none ks z y e = rw e

any_skip : (test : ℤ → Bool) (p : Clause) (z : ℤ) (q : Clause) → test z ≡ false → any test (p ++ (z ∷ q)) ≡ any test (p ++ q)
any_skip test [] z q f = rw f
any_skip test (x ∷ p) z q f = ap (λ b. test x || b) (any_skip test p z q f)

-- So what is dropped leaves the others as they were.
reducible_skip : (ks : List Kind) (p : Clause) (z : ℤ) (q : Clause) → is_universal (kind_at ks z) ≡ true → (y : ℤ) →
    reducible ks (p ++ (z ∷ q)) y ≡ reducible ks (p ++ q) y
reducible_skip ks p z q u y = ap (λ b. is_universal (kind_at ks y) && not b) (any_skip (follows ks y) p z q (universal_follows_none ks z y u))

in_skip : (p : Clause) (z : ℤ) (q : Clause) (y : ℤ) → In y (p ++ q) → In y (p ++ (z ∷ q))
in_skip [] z q y i = inr i
in_skip (x ∷ p) z q y (inl e) = inl e
in_skip (x ∷ p) z q y (inr i) = inr (in_skip p z q y i)

first_true : (a b : Bool) → (a && b) ≡ true → a ≡ true
first_true true b e = refl
first_true false b e = absurd (false≢true e)

-- One clause, whose literals in p stay; `test` says which of the others go.
module _ (ks : List Kind) (done rest : List Clause) (known : Every Untrue done) (still : Every (Irreducible ks) done) (later : Every Untrue rest)
    (test : ℤ → Bool) where
  -- what one clause comes to
  pub record Finished (p q : Clause) : Type 0 where
    pub same : settled ks (done ++ ((p ++ q) ∷ rest)) ≡ settled ks (done ++ ((p ++ keep (λ z. not (test z)) q) ∷ rest))
    pub untrue : Untrue (p ++ keep (λ z. not (test z)) q)
    pub irreducible : Irreducible ks (p ++ keep (λ z. not (test z)) q)

  finish : (p q : Clause) → ((y : ℤ) → reducible ks (p ++ q) y ≡ test y) → Every (λ y. test y ≡ false) p → Untrue (p ++ q) → Finished p q
  finish p [] agree stays u =
      record {
        same = refl;
        untrue = u;
        irreducible = without_none (reducible ks (p ++ [])) (p ++ []) (every_from (λ y. reducible ks (p ++ []) y ≡ false) (p ++ [])
            (λ y i. agree y ∙ every_in (λ y. test y ≡ false) p y stays (subst (λ (l : Clause). In y l) (append_nil p) i)));
      }
  finish p (z ∷ q) agree stays u = go (test z) refl (finish p q) (finish (p ++ (z ∷ [])) q)
    where
      go : (t : Bool) → test z ≡ t
          → (((y : ℤ) → reducible ks (p ++ q) y ≡ test y) → Every (λ y. test y ≡ false) p → Untrue (p ++ q) → Finished p q)
          → (((y : ℤ) → reducible ks ((p ++ (z ∷ [])) ++ q) y ≡ test y) → Every (λ y. test y ≡ false) (p ++ (z ∷ [])) → Untrue ((p ++ (z ∷ [])) ++ q) → Finished
          (p ++ (z ∷ [])) q)
          → Finished p (z ∷ q)
      go true e dropped kept =
          let own : is_universal (kind_at ks z) ≡ true = first_true (is_universal (kind_at ks z)) (not (any (follows ks z) (p ++ (z ∷ q)))) (agree z ∙ e) in
          let less : Untrue (p ++ q) = untrue_part (p ++ (z ∷ q)) (p ++ q) (in_skip p z q) u in
          let f = dropped (λ y. sym (reducible_skip ks p z q own y) ∙ agree y) stays less in
          let fails : Every (λ y. reducible ks (p ++ (z ∷ q)) y ≡ false) p = every_from (λ y. reducible ks (p ++ (z ∷ q)) y ≡ false) p
          (λ y i. agree y ∙ every_in (λ y. test y ≡ false) p y stays i) in
          let change : step ks (done ++ ((p ++ (z ∷ q)) ∷ rest)) ≡ some (done ++ ((p ++ q) ∷ rest)) =
          step_2 ks (done ++ ((p ++ (z ∷ q)) ∷ rest)) (done ++ ((p ++ q) ∷ rest))
          (without_none always_true (done ++ ((p ++ (z ∷ q)) ∷ rest)) (every_append Untrue done ((p ++ (z ∷ q)) ∷ rest) known (u, later)))
          (rule_2_past ks done (p ++ (z ∷ q)) (p ++ q) rest still (without_past (reducible ks (p ++ (z ∷ q))) p z q fails (agree z ∙ e))) in
          let tail : keep (λ z. not (test z)) (z ∷ q) ≡ keep (λ z. not (test z)) q = rw e refl in
          record {
            same = settled_step ks (done ++ ((p ++ (z ∷ q)) ∷ rest)) (done ++ ((p ++ q) ∷ rest)) change ∙ f.same ∙ ap
                (λ l. settled ks (done ++ ((p ++ l) ∷ rest))) (sym tail);
            untrue = ap (λ l. always_true (p ++ l)) tail ∙ f.untrue;
            irreducible = ap (λ l. without_first (reducible ks (p ++ l)) (p ++ l)) tail ∙ f.irreducible;
          }
      go false e dropped kept =
          let whole : (p ++ (z ∷ [])) ++ q ≡ p ++ (z ∷ q) = append_one p z q in
          let f = kept (λ y. ap (λ l. reducible ks l y) whole ∙ agree y) (every_append (λ y. test y ≡ false) p (z ∷ []) stays (e, tt))
          (ap always_true whole ∙ u) in
          let tail : (p ++ (z ∷ [])) ++ keep (λ z. not (test z)) q ≡ p ++ keep (λ z. not (test z)) (z ∷ q) = append_one p z (keep (λ z. not (test z)) q) ∙ ap
          (λ l. p ++ l) (sym (rw e refl)) in
          record {
            same = ap (λ l. settled ks (done ++ (l ∷ rest))) (sym whole) ∙ f.same ∙ ap (λ l. settled ks (done ++ (l ∷ rest))) tail;
            untrue = ap always_true (sym tail) ∙ f.untrue;
            irreducible = ap (λ l. without_first (reducible ks l) l) (sym tail) ∙ f.irreducible;
          }

-- All clauses.
pub record Reduced (ks : List Kind) (done cs : List Clause) : Type 0 where
  pub same : settled ks (done ++ cs) ≡ settled ks (done ++ reduced ks cs)
  pub untrue : Every Untrue (done ++ reduced ks cs)
  pub irreducible : Every (Irreducible ks) (done ++ reduced ks cs)

pub reduce_all : (ks : List Kind) (done cs : List Clause) → Every Untrue done → Every (Irreducible ks) done → Every Untrue cs → Reduced ks done cs
reduce_all ks done [] known still all =
    record {
      same = refl;
      untrue = every_append Untrue done [] known tt;
      irreducible = every_append (Irreducible ks) done [] still tt;
    }
reduce_all ks done (c ∷ cs) known still all =
    let f = finish ks done cs known still all.1 (reducible ks c) [] c (λ y. refl) tt all.0 in
    let d : Clause = reduced_clause ks c in
    let r = reduce_all ks (done ++ (d ∷ [])) cs (every_append Untrue done (d ∷ []) known (f.untrue, tt))
    (every_append (Irreducible ks) done (d ∷ []) still (f.irreducible, tt)) all.1 in
    let whole : (done ++ (d ∷ [])) ++ reduced ks cs ≡ done ++ (d ∷ reduced ks cs) = append_one done d (reduced ks cs) in
    record {
      same = f.same ∙ ap (settled ks) (sym (append_one done d cs)) ∙ r.same ∙ ap (settled ks) whole;
      untrue = subst (Every Untrue) whole r.untrue;
      irreducible = subst (Every (Irreducible ks)) whole r.irreducible;
    }

-- ---- setting an unknown makes no clause always true

untrue_clauses : (z : ℤ) (cs : List Clause) → Every Untrue cs → Every Untrue (without_clauses z cs)
untrue_clauses z cs all = every_from Untrue (without_clauses z cs) (λ c i. every_in Untrue cs c all (keep_in (λ d. not (has z d)) cs c i).0)

untrue_literal : (z : ℤ) (cs : List Clause) → Every Untrue cs → Every Untrue (without_literal z cs)
untrue_literal z [] all = tt
untrue_literal z (c ∷ cs) all = (
  untrue_part c (keep (λ y. not (Rattle.trimming_rules.specs.Trimming.same z y)) c)
      (λ y i. (keep_in (λ y. not (Rattle.trimming_rules.specs.Trimming.same z y)) c y i).0) all.0,
  untrue_literal z cs all.1,
)

untrue_set : (ks : List Kind) (cs ds : List Clause) → Every Untrue cs → first_of (rule_3 ks cs) (rule_4 ks cs) ≡ some ds → Every Untrue ds
untrue_set ks cs ds all e = unit_or_pure (lowest_unit ks cs) refl e
  where
    by_kind : (k : Kind) (z : ℤ) → Every Untrue (dropped k z cs)
    by_kind existential z = untrue_clauses z cs all
    by_kind universal z = untrue_literal z cs all

    by_pure : (o : Option ℤ) → if_some (λ z. dropped (kind_at ks z) z cs) o ≡ some ds → Every Untrue ds
    by_pure none e = absurd (none_not_some e)
    by_pure (some z) e = subst (Every Untrue) (some_is (dropped (kind_at ks z) z cs) ds e) (by_kind (kind_at ks z) z)

    unit_or_pure : (o : Option ℤ) → lowest_unit ks cs ≡ o → first_of (if_some (λ z. set_true z cs) o) (rule_4 ks cs) ≡ some ds → Every Untrue ds
    unit_or_pure none p e = by_pure (lowest_pure zero ks cs) e
    unit_or_pure (some z) p e = subst (Every Untrue) (some_is (set_true z cs) ds e) (untrue_literal (neg_ℤ z) (without_clauses z cs) (untrue_clauses z cs all))

-- ---- the rounds

reduced_size : (ks : List Kind) (cs : List Clause) → size (reduced ks cs) ≤ size cs
reduced_size ks [] = omega arith
reduced_size ks (c ∷ cs) = let a = keep_fewer (λ z. not (reducible ks c z)) c in let b = reduced_size ks cs in omega arith

pub settled_rounds : (m : ℕ) (ks : List Kind) (cs : List Clause) → size cs < m → Every Untrue cs → settled ks cs ≡ rounds m ks cs
settled_rounds zero ks cs few all = absurd (omega arith)
settled_rounds (suc m) ks cs few all = go (first_of (rule_3 ks ds) (rule_4 ks ds)) refl (settled_rounds m ks)
  where
    ds : List Clause
    ds = reduced ks cs

    r : Reduced ks [] cs
    r = reduce_all ks [] cs tt tt all

    no_1 : rule_1 (reduced ks cs) ≡ none
    no_1 = without_none always_true (reduced ks cs) r.untrue

    no_2 : rule_2 ks (reduced ks cs) ≡ none
    no_2 = rule_2_none ks (reduced ks cs) r.irreducible

    go : (o : Option (List Clause)) → first_of (rule_3 ks (reduced ks cs)) (rule_4 ks (reduced ks cs)) ≡ o
        → ((es : List Clause) → size es < m → Every Untrue es → settled ks es ≡ rounds m ks es)
        → settled ks cs ≡ from_step (first_of (rule_3 ks (reduced ks cs)) (rule_4 ks (reduced ks cs))) (rounds m ks) (reduced ks cs)
    go none e later = r.same ∙ settled_none ks (reduced ks cs) (step_later ks (reduced ks cs) no_1 no_2 ∙ e) ∙ sym
        (ap (λ o. from_step o (rounds m ks) (reduced ks cs)) e)
    go (some es) e later =
        let s = step_later ks (reduced ks cs) no_1 no_2 ∙ e in
        r.same
        ∙ settled_step ks (reduced ks cs) es s
        ∙ later es (let f = (step_less ks 0 (reduced ks cs) es s).falls in let g = reduced_size ks cs in omega arith)
        (untrue_set ks (reduced ks cs) es r.untrue e)
        ∙ sym (ap (λ o. from_step o (rounds m ks) (reduced ks cs)) e)

-- The changes one at a time, and the rounds.
pub in_rounds : (m : ℕ) (ks : List Kind) (cs : List Clause) → size cs < m → settled ks cs ≡ rounds m ks (untrue cs)
in_rounds m ks cs few = settled_untrue ks cs ∙ settled_rounds m ks (untrue cs) (let f = untrue_size cs in omega arith) (all_untrue cs)
  where
    untrue_size : (cs : List Clause) → size (untrue cs) ≤ size cs
    untrue_size [] = omega arith
    untrue_size (c ∷ cs) = go (always_true c) (untrue_size cs)
      where
        go : (t : Bool) → size (untrue cs) ≤ size cs → size (cond (not t) (c ∷ untrue cs) (untrue cs)) ≤ size (c ∷ cs)
        go true le = omega arith
        go false le = omega arith
