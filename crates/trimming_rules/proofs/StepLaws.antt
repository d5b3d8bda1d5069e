-- What one change does to the sizes: fewer entries, no more clauses, no new names. So the changes end, and what they end in is changed no more.
-- Assumes nothing.
use Prim.Native.Nat.{ℕ, zero, suc, ◌+◌, ◌≤◌, ◌<◌}
use native.Mathlib.Omega.{arith}
use mathlib.Core.Path.{◌≡◌, refl, sym, ◌∙◌, ap, subst}
use mathlib.Core.Logic.{inl, inr}
use mathlib.Core.Bool.{Bool, true, false, not, cond}
use mathlib.Core.List.{List, [], ◌∷◌}
use mathlib.Core.Option.{Option, none, some}
use lib.IntN.{ℤ, pos, neg_ℤ}
use lib.ListN.{length, length-append}
use Rattle.formula.specs.Formula.{Kind, existential, universal, Clause}
use Rattle.formula.specs.Meaning.{matrix, meaning}
use Rattle.trimming_rules.specs.Trimming.{same, has, kind_at, keep, behind, first_of, without_first, always_true, rule_1, reducible, in_front, rule_2}
use Rattle.trimming_rules.specs.Trimming.{lowest_unit, without_clauses, without_literal, set_true, if_some, rule_3, lowest_pure, dropped, rule_4, step}
use Rattle.trimming_rules.specs.Trimming.{from_step, steps, entries}
use Rattle.trimming_rules.proofs.ClauseLaws.{Named, Every, In, every_in, every_from, any_in, has_in, in_has, same_itself, keep_in, without_in}
use Rattle.trimming_rules.proofs.ClauseLaws.{never_both}
use Rattle.trimming_rules.proofs.RuleLaws.{Within, none_not_some, some_is, unit_stands, PureOf, pure_stands, By, by_1, by_2, by_3, by_4, step_by}
use Rattle.trimming_rules.proofs.RuleLaws.{step_kept}

-- The number of entries, zeros included.
abbrev pub size : List Clause → ℕ
size [] = 0
size (c ∷ cs) = suc (length c + size cs)

pub length_entries : (cs : List Clause) → length (entries cs) ≡ size cs
length_entries [] = refl
length_entries (c ∷ cs) = let e = length-append c (pos 0 ∷ entries cs) in let f = length_entries cs in omega arith

-- ---- lists with fewer elements

module _ {A : Type 0} where
  pub keep_fewer : (test : A → Bool) (xs : List A) → length (keep test xs) ≤ length xs
  keep_fewer test [] = omega arith
  keep_fewer test (x ∷ xs) = go (test x) (keep_fewer test xs)
    where
      go : (t : Bool) → length (keep test xs) ≤ length xs → length (cond t (x ∷ keep test xs) (keep test xs)) ≤ suc (length xs)
      go true le = omega arith
      go false le = omega arith

  pub keep_less : (test : A → Bool) (xs : List A) (a : A) → In a xs → test a ≡ false → length (keep test xs) < length xs
  keep_less test (x ∷ xs) a i f = go (test x) refl i (keep_fewer test xs) (keep_less test xs a)
    where
      go : (t : Bool) → test x ≡ t → In a (x ∷ xs) → length (keep test xs) ≤ length xs → (In a xs → test a ≡ false → length (keep test xs) < length xs)
          → length (cond t (x ∷ keep test xs) (keep test xs)) < suc (length xs)
      go true p (inl e) le later = absurd (never_both p (ap test (sym e) ∙ f))
      go true p (inr j) le later = let l = later j f in omega arith
      go false p i le later = omega arith
  keep_less test [] a i f = elim i [ ]

  pub without_less : (test : A → Bool) (xs ys : List A) → without_first test xs ≡ some ys → length xs ≡ suc (length ys)
  without_less test [] ys e = absurd (none_not_some e)
  without_less test (x ∷ xs) ys e = go (test x) e (without_first test xs) refl (without_less test xs)
    where
      go : (t : Bool) → cond t (some xs) (behind x (without_first test xs)) ≡ some ys → (o : Option (List A)) → without_first test xs ≡ o
          → ((zs : List A) → without_first test xs ≡ some zs → length xs ≡ suc (length zs)) → suc (length xs) ≡ suc (length ys)
      go true e o f later = ap (λ (l : List A). suc (length l)) (some_is xs ys e)
      go false e none f later = absurd (none_not_some (sym (ap (behind x) f) ∙ e))
      go false e (some zs) f later = ap suc (later zs f) ∙ ap (λ (l : List A). suc (length l)) (some_is (x ∷ zs) ys (sym (ap (behind x) f) ∙ e))

-- ---- what a change leaves

-- Fewer entries, no more clauses, no new names.
pub record Less (n : ℕ) (cs ds : List Clause) : Type 0 where
  pub falls : size ds < size cs
  pub clauses : length ds ≤ length cs
  pub within : Within n cs → Within n ds

pub record NoMore (n : ℕ) (cs ds : List Clause) : Type 0 where
  pub falls : size ds ≤ size cs
  pub clauses : length ds ≤ length cs
  pub within : Within n cs → Within n ds

without_size : (test : Clause → Bool) (cs ds : List Clause) → without_first test cs ≡ some ds → size ds < size cs
without_size test [] ds e = absurd (none_not_some e)
without_size test (c ∷ cs) ds e = go (test c) e (without_first test cs) refl (without_size test cs)
  where
    go : (t : Bool) → cond t (some cs) (behind c (without_first test cs)) ≡ some ds → (o : Option (List Clause)) → without_first test cs ≡ o
        → ((rest : List Clause) → without_first test cs ≡ some rest → size rest < size cs) → size ds < suc (length c + size cs)
    go true e o f later = let s = ap size (some_is cs ds e) in omega arith
    go false e none f later = absurd (none_not_some (sym (ap (behind c) f) ∙ e))
    go false e (some rest) f later = let s = ap size (some_is (c ∷ rest) ds (sym (ap (behind c) f) ∙ e)) in let l = later rest f in omega arith

less_1 : (n : ℕ) (cs ds : List Clause) → rule_1 cs ≡ some ds → Less n cs ds
less_1 n cs ds e =
    record {
      falls = without_size always_true cs ds e;
      clauses = let l = without_less always_true cs ds e in omega arith;
      within = λ w. every_from (Every (Named n)) ds (λ c i. every_in (Every (Named n)) cs c w (without_in always_true cs ds e c i));
    }

less_2 : (ks : List Kind) (n : ℕ) (cs ds : List Clause) → rule_2 ks cs ≡ some ds → Less n cs ds
less_2 ks n [] ds e = absurd (none_not_some e)
less_2 ks n (c ∷ cs) ds e = go (without_first (reducible ks c) c) refl e (rule_2 ks cs) refl (less_2 ks n cs)
  where
    go : (o : Option Clause) → without_first (reducible ks c) c ≡ o → first_of (in_front cs o) (behind c (rule_2 ks cs)) ≡ some ds →
        (l : Option (List Clause)) → rule_2 ks cs ≡ l
        → ((rest : List Clause) → rule_2 ks cs ≡ some rest → Less n cs rest) → Less n (c ∷ cs) ds
    go (some d) p e l f later =
        subst (Less n (c ∷ cs)) (some_is (d ∷ cs) ds e)
        (record {
          falls = let l = without_less (reducible ks c) c d p in omega arith;
          clauses = omega arith;
          within = λ w. (every_from (Named n) d (λ z i. every_in (Named n) c z w.0 (without_in (reducible ks c) c d p z i)), w.1);
        })
    go none p e none f later = absurd (none_not_some (sym (ap (behind c) f) ∙ e))
    go none p e (some rest) f later =
        let l = later rest f in
        subst (Less n (c ∷ cs)) (some_is (c ∷ rest) ds (sym (ap (behind c) f) ∙ e))
        (record {
          falls = let h = l.falls in omega arith;
          clauses = let h = l.clauses in omega arith;
          within = λ w. (w.0, l.within w.1);
        })

without_clauses_more : (n : ℕ) (z : ℤ) (cs : List Clause) → NoMore n cs (without_clauses z cs)
without_clauses_more n z [] = record { falls = omega arith; clauses = omega arith; within = λ w. w }
without_clauses_more n z (c ∷ cs) = go (has z c) (without_clauses_more n z cs)
  where
    go : (h : Bool) → NoMore n cs (without_clauses z cs) → NoMore n (c ∷ cs) (cond (not h) (c ∷ without_clauses z cs) (without_clauses z cs))
    go true l = record { falls = let h = l.falls in omega arith; clauses = let h = l.clauses in omega arith; within = λ w. l.within w.1 }
    go false l = record { falls = let h = l.falls in omega arith; clauses = let h = l.clauses in omega arith; within = λ w. (w.0, l.within w.1) }

without_literal_more : (n : ℕ) (z : ℤ) (cs : List Clause) → NoMore n cs (without_literal z cs)
without_literal_more n z [] = record { falls = omega arith; clauses = omega arith; within = λ w. w }
without_literal_more n z (c ∷ cs) =
    let l = without_literal_more n z cs in
    let k = keep_fewer (λ y. not (same z y)) c in
    record {
      falls = let h = l.falls in omega arith;
      clauses = let h = l.clauses in omega arith;
      within = λ w. (
        every_from (Named n) (keep (λ y. not (same z y)) c) (λ y i. every_in (Named n) c y w.0 (keep_in (λ y. not (same z y)) c y i).0),
        l.within w.1,
      );
    }

without_clauses_falls : (z : ℤ) (cs : List Clause) (c : Clause) → In c cs → has z c ≡ true → size (without_clauses z cs) < size cs
without_clauses_falls z (d ∷ cs) c i h = go (has z d) refl i (without_clauses_more 0 z cs).falls (without_clauses_falls z cs c)
  where
    go : (t : Bool) → has z d ≡ t → In c (d ∷ cs) → size (without_clauses z cs) ≤ size cs → (In c cs → has z c ≡ true → size (without_clauses z cs) < size cs)
        → size (cond (not t) (d ∷ without_clauses z cs) (without_clauses z cs)) < size (d ∷ cs)
    go true p i le later = omega arith
    go false p (inl e) le later = absurd (never_both (sym (ap (has z) e) ∙ h) p)
    go false p (inr j) le later = let l = later j h in omega arith
without_clauses_falls z [] c i h = elim i [ ]

without_literal_falls : (z : ℤ) (cs : List Clause) (c : Clause) → In c cs → has z c ≡ true → size (without_literal z cs) < size cs
without_literal_falls z (d ∷ cs) c (inl e) h =
    let k = keep_less (λ y. not (same z y)) d z (has_in z d (sym (ap (has z) e) ∙ h)) (ap not (same_itself z)) in
    let l = (without_literal_more 0 z cs).falls in
    omega arith
without_literal_falls z (d ∷ cs) c (inr j) h =
    let k = keep_fewer (λ y. not (same z y)) d in
    let l = without_literal_falls z cs c j h in
    omega arith
without_literal_falls z [] c x'' h = elim x'' [ ]

set_true_less : (n : ℕ) (z : ℤ) (cs : List Clause) (c : Clause) → In c cs → has z c ≡ true → Less n cs (set_true z cs)
set_true_less n z cs c i h =
    let a = without_clauses_more n z cs in
    let b = without_literal_more n (neg_ℤ z) (without_clauses z cs) in
    record {
      falls = let p = without_clauses_falls z cs c i h in let q = b.falls in omega arith;
      clauses = let p = a.clauses in let q = b.clauses in omega arith;
      within = λ w. b.within (a.within w);
    }

less_3 : (ks : List Kind) (n : ℕ) (cs ds : List Clause) → rule_3 ks cs ≡ some ds → Less n cs ds
less_3 ks n cs ds e = go (lowest_unit ks cs) refl e
  where
    go : (o : Option ℤ) → lowest_unit ks cs ≡ o → if_some (λ z. set_true z cs) o ≡ some ds → Less n cs ds
    go none p e = absurd (none_not_some e)
    go (some z) p e =
        subst (Less n cs) (some_is (set_true z cs) ds e)
        (set_true_less n z cs (z ∷ []) (unit_stands ks cs z p).stands (in_has z (z ∷ []) (inl refl)))

less_4 : (ks : List Kind) (n : ℕ) (cs ds : List Clause) → rule_4 ks cs ≡ some ds → Less n cs ds
less_4 ks n cs ds e = go (lowest_pure zero ks cs) refl e
  where
    by_kind : (z : ℤ) → PureOf ks cs z → (k : Kind) → Less n cs (dropped k z cs)
    by_kind z p existential =
        let i = any_in (has z) cs p.stands in
        let l = without_clauses_more n z cs in
        record { falls = without_clauses_falls z cs i.0 i.1 i.2; clauses = l.clauses; within = l.within }
    by_kind z p universal =
        let i = any_in (has z) cs p.stands in
        let l = without_literal_more n z cs in
        record { falls = without_literal_falls z cs i.0 i.1 i.2; clauses = l.clauses; within = l.within }

    go : (o : Option ℤ) → lowest_pure zero ks cs ≡ o → if_some (λ z. dropped (kind_at ks z) z cs) o ≡ some ds → Less n cs ds
    go none p e = absurd (none_not_some e)
    go (some z) p e = subst (Less n cs) (some_is (dropped (kind_at ks z) z cs) ds e) (by_kind z (pure_stands ks cs z p) (kind_at ks z))

pub step_less : (ks : List Kind) (n : ℕ) (cs ds : List Clause) → step ks cs ≡ some ds → Less n cs ds
step_less ks n cs ds e = go (step_by ks cs ds e)
  where
    go : By ks cs ds → Less n cs ds
    go (by_1 p) = less_1 n cs ds p
    go (by_2 q p) = less_2 ks n cs ds p
    go (by_3 p) = less_3 ks n cs ds p
    go (by_4 p) = less_4 ks n cs ds p

-- ---- all changes

pub steps_more : (m : ℕ) (ks : List Kind) (n : ℕ) (cs : List Clause) → NoMore n cs (steps m ks cs)
steps_more zero ks n cs = record { falls = omega arith; clauses = omega arith; within = λ w. w }
steps_more (suc m) ks n cs = go (step ks cs) refl (steps_more m ks n)
  where
    go : (o : Option (List Clause)) → step ks cs ≡ o → ((ds : List Clause) → NoMore n ds (steps m ks ds)) → NoMore n cs (from_step o (steps m ks) cs)
    go none p later = record { falls = omega arith; clauses = omega arith; within = λ w. w }
    go (some ds) p later =
        let a = step_less ks n cs ds p in
        let b = later ds in
        record {
          falls = let p = a.falls in let q = b.falls in omega arith;
          clauses = let p = a.clauses in let q = b.clauses in omega arith;
          within = λ w. b.within (a.within w);
        }

pub steps_kept : (m : ℕ) (ks : List Kind) (cs : List Clause) → Within (length ks) cs → meaning ks (matrix cs) ≡ meaning ks (matrix (steps m ks cs))
steps_kept zero ks cs w = refl
steps_kept (suc m) ks cs w = go (step ks cs) refl (steps_kept m ks)
  where
    go : (o : Option (List Clause)) → step ks cs ≡ o →
        ((ds : List Clause) → Within (length ks) ds → meaning ks (matrix ds) ≡ meaning ks (matrix (steps m ks ds)))
        → meaning ks (matrix cs) ≡ meaning ks (matrix (from_step o (steps m ks) cs))
    go none p later = refl
    go (some ds) p later = step_kept ks cs ds w p ∙ later ds ((step_less ks (length ks) cs ds p).within w)

-- As many changes as there are entries are enough.
pub steps_end : (m : ℕ) (ks : List Kind) (cs : List Clause) → size cs ≤ m → step ks (steps m ks cs) ≡ none
steps_end zero ks cs le = nothing (step ks cs) refl
  where
    nothing : (o : Option (List Clause)) → step ks cs ≡ o → o ≡ none
    nothing none p = refl
    nothing (some ds) p = absurd (let l = (step_less ks 0 cs ds p).falls in omega arith)
steps_end (suc m) ks cs le = go (step ks cs) refl (steps_end m ks)
  where
    go : (o : Option (List Clause)) → step ks cs ≡ o → ((ds : List Clause) → size ds ≤ m → step ks (steps m ks ds) ≡ none) →
        step ks (from_step o (steps m ks) cs) ≡ none
    go none p later = p
    go (some ds) p later = later ds (let l = (step_less ks 0 cs ds p).falls in omega arith)

-- Where no change applies, none is made.
pub steps_still : (m : ℕ) (ks : List Kind) (cs : List Clause) → step ks cs ≡ none → steps m ks cs ≡ cs
steps_still zero ks cs e = refl
steps_still (suc m) ks cs e = ap (λ o. from_step o (steps m ks) cs) e
