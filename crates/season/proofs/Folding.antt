-- Adding the studies one by one, from the first, gives the page over all of them. Assumes nothing.
use Prim.Native.Nat.{ℕ, suc, ◌+◌, ◌^◌, ◌<◌, ◌≤◌, max}
use native.Mathlib.Omega.{arith}
use native.Mathlib.Nat.{add-zero, zero-add, add_assoc, max-eq_left, max-eq_right, max-le}
use mathlib.Core.Path.{◌≡◌, refl, sym, ap, ◌∙◌}
use mathlib.Core.Bool.{Bool, true, false, cond, ◌||◌}
use mathlib.Core.List.{List, [], ◌∷◌}
use lib.Dec.{eqb, ltb, leb}
use lib.ListN.{length}
use borrow.Author.Tests.{lt-ltb, le-ltb, lt-leb, eq-eqb, ne_eqb, ltb-true, ltb-false}
use Rattle.season.specs.declared.Study.{Study}
use Rattle.season.specs.declared.tally.Tally.{Tally}
use Rattle.formula.specs.Causes.{any}
use Rattle.formula.specs.Meaning.{bit}
use Rattle.season.specs.Season.{sum, max_studies, max_answer, max_fee, most, first_with, summary}
use Rattle.season.specs.Private.Tally.{fresh, one_more, added, closed, leads, Room}
use Rattle.season.proofs.Fits.{bit_small}

abbrev pub with_study : Tally → Study → Tally
with_study t s = added t s.answer s.rounds s.fee

abbrev pub fold : Tally → List Study → Tally
fold t [] = t
fold t (s ∷ ss) = fold (with_study t s) ss

-- ---- below 4,096 a study is added
added_below : (t : Tally) (a r f : ℕ) → t.studies < max_studies → added t a r f ≡ one_more t a r f
unfolding added
added_below t a r f h = rw (lt-leb max_studies t.studies h)

abbrev more : Tally → Study → Tally
more t s = one_more t s.answer s.rounds s.fee

-- a field that grows by what each study has
fold_sum : (f : Tally → ℕ) (g : Study → ℕ) → ((t : Tally) (s : Study) → f (more t s) ≡ f t + g s)
    → (t : Tally) (ss : List Study) → t.studies + length ss ≤ max_studies → f (fold t ss) ≡ f t + sum g ss
fold_sum f g law t [] h = sym (add-zero (f t))
fold_sum f g law t (s ∷ ss) h =
    rw (added_below t s.answer s.rounds s.fee (omega arith))
    (fold_sum f g law (more t s) ss (omega arith) ∙ ap (λ (x : ℕ). x + sum g ss) (law t s) ∙ add_assoc (f t) (g s) (sum g ss))

or_assoc : (a b c : Bool) → ((a || b) || c) ≡ (a || (b || c))
or_assoc true b c = refl
or_assoc false b c = refl

or_false : (a : Bool) → a ≡ (a || false)
or_false true = refl
or_false false = refl

-- a flag that is set by some study
fold_any : (f : Tally → Bool) (g : Study → Bool) → ((t : Tally) (s : Study) → f (more t s) ≡ (f t || g s))
    → (t : Tally) (ss : List Study) → t.studies + length ss ≤ max_studies → f (fold t ss) ≡ (f t || any g ss)
fold_any f g law t [] h = or_false (f t)
fold_any f g law t (s ∷ ss) h =
    rw (added_below t s.answer s.rounds s.fee (omega arith))
    (fold_any f g law (more t s) ss (omega arith) ∙ ap (λ (x : Bool). x || any g ss) (law t s) ∙ or_assoc (f t) (g s) (any g ss))

length_sum : (ss : List Study) → sum (λ _. 1) ss ≡ length ss
length_sum [] = refl
length_sum (s ∷ ss) = omega (arith, length_sum ss)

max_left : (a b : ℕ) → b ≤ a → max a b ≡ a
max_left a b h = max-eq_left h

max_right : (a b : ℕ) → a ≤ b → max a b ≡ b
max_right a b h = max-eq_right h

-- ---- the most rounds and the first study that has them
-- after at least one study: `first` is not 0
pub record Led (t u : Tally) (ss : List Study) : Type 0 where
  pub most_is : u.most ≡ max t.most (most ss)
  pub first_is : u.first ≡ cond (ltb t.most (most ss)) (t.studies + first_with (most ss) ss) t.first

-- the first study with the most rounds, where a later one has more than the study at the front
first_later : (s : Study) (ss : List Study) → s.rounds < most ss → first_with (most (s ∷ ss)) (s ∷ ss) ≡ suc (first_with (most ss) ss)
first_later s ss h = ap (λ (r : ℕ). first_with r (s ∷ ss)) (max_right s.rounds (most ss) (omega arith)) ∙ rw (ne_eqb s.rounds (most ss) (λ q. omega arith))

module _ (t : Tally) (s : Study) (ss : List Study) (u : Tally) where
  -- the study s leads
  ahead : t.most < s.rounds → (v : Tally) → v.most ≡ s.rounds → v.first ≡ t.studies + 1 → v.studies ≡ t.studies + 1 → Led v u ss → Led t u (s ∷ ss)
  ahead h v em ef es l = elim' (ltb s.rounds (most ss)) refl
    where
      elim' : (b : Bool) → ltb s.rounds (most ss) ≡ b → Led t u (s ∷ ss)
      elim' true e =
          let lt : s.rounds < most ss = ltb-true _ _ e in
          record {
            most_is = l.most_is ∙ rw (em, max_right s.rounds (most ss) (omega arith), max_right t.most (most ss) (omega arith));
            first_is = l.first_is ∙ rw (
              first_later s ss lt,
              em,
              e,
              max_right s.rounds (most ss) (omega arith),
              lt-ltb t.most (most ss) (omega arith),
            ) (omega arith);
          }
      elim' false e =
          let le : most ss ≤ s.rounds = ltb-false _ _ e in
          record {
            most_is = l.most_is ∙ rw (em, max_left s.rounds (most ss) le, max_right t.most s.rounds (omega arith));
            first_is = l.first_is ∙ rw (em, e, max_left s.rounds (most ss) le, lt-ltb t.most s.rounds h, eq-eqb s.rounds s.rounds refl) ef;
          }

  -- it doesn't
  behind : s.rounds ≤ t.most → (v : Tally) → v.most ≡ t.most → v.first ≡ t.first → v.studies ≡ t.studies + 1 → Led v u ss → Led t u (s ∷ ss)
  behind h v em ef es l = elim' (ltb t.most (most ss)) refl
    where
      elim' : (b : Bool) → ltb t.most (most ss) ≡ b → Led t u (s ∷ ss)
      elim' true e =
          let lt : t.most < most ss = ltb-true _ _ e in
          record {
            most_is = l.most_is ∙ rw (em, max_right s.rounds (most ss) (omega arith));
            first_is = l.first_is ∙ rw (
              first_later s ss (omega arith),
              em,
              e,
              max_right s.rounds (most ss) (omega arith),
              lt-ltb t.most (most ss) lt,
            ) (omega arith);
          }
      elim' false e =
          let le : most ss ≤ t.most = ltb-false _ _ e in
          record {
            most_is = l.most_is ∙ rw (em, max_left t.most (most ss) le, max_left t.most (max s.rounds (most ss)) (max-le h le));
            first_is = l.first_is ∙ rw (em, e, le-ltb t.most (max s.rounds (most ss)) (max-le h le)) ef;
          }

led_nil : (t : Tally) → Led t t []
led_nil t = record { most_is = sym (max_left t.most 0 (omega arith)); first_is = rw (le-ltb t.most 0 (omega arith)) }

-- what a study does to the lead, once there is one
abbrev leading : Tally → Study → Bool
leading t s = leads t.first t.most s.rounds

lead_step : (t : Tally) (s : Study) (ss : List Study) (u : Tally) → 0 < t.first → (0 < (more t s).first → Led (more t s) u ss) → Led t u (s ∷ ss)
lead_step t s ss u g later = cases (ltb t.most s.rounds) refl
  where
    no_zero : eqb t.first 0 ≡ false
    no_zero = ne_eqb t.first 0 (λ q. omega arith)

    cases : (b : Bool) → ltb t.most s.rounds ≡ b → Led t u (s ∷ ss)
    cases true e =
        let le : leading t s ≡ true = rw (no_zero, e) in
        ahead t s ss u (ltb-true _ _ e) (more t s) (rw le) (rw le) refl (later (rw le (omega arith)))
    cases false e =
        let le : leading t s ≡ false = rw (no_zero, e) in
        behind t s ss u (ltb-false _ _ e) (more t s) (rw le) (rw le) refl (later (rw le g))

fold_led : (t : Tally) (ss : List Study) → 0 < t.first → t.studies + length ss ≤ max_studies → Led t (fold t ss) ss
fold_led t [] g h = led_nil t
fold_led t (s ∷ ss) g h =
    rw (added_below t s.answer s.rounds s.fee (omega arith)) (lead_step t s ss (fold (more t s) ss) g (λ g'. fold_led (more t s) ss g' (omega arith)))

-- from the start
module _ (s : Study) (ss : List Study) (h : suc (length ss) ≤ max_studies) where
  begun : with_study fresh s ≡ more fresh s
  begun = added_below fresh s.answer s.rounds s.fee (omega arith)

  led : Led (more fresh s) (fold (more fresh s) ss) ss
  led = fold_led (more fresh s) ss (omega arith) (omega arith)

fold_most : (ss : List Study) → length ss ≤ max_studies → (fold fresh ss).most ≡ most ss
fold_most [] h = refl
fold_most (s ∷ ss) h = ap (λ (t : Tally). (fold t ss).most) (begun s ss h) ∙ (led s ss h).most_is

first_of : (s : Study) (ss : List Study) → cond (ltb s.rounds (most ss)) (1 + first_with (most ss) ss) 1 ≡ first_with (max s.rounds (most ss)) (s ∷ ss)
first_of s ss = cases (ltb s.rounds (most ss)) refl
  where
    cases : (b : Bool) → ltb s.rounds (most ss) ≡ b → cond b (1 + first_with (most ss) ss) 1 ≡ first_with (max s.rounds (most ss)) (s ∷ ss)
    cases true e =
        let lt : s.rounds < most ss = ltb-true _ _ e in
        omega (arith, first_later s ss lt)
    cases false e = rw (max_left s.rounds (most ss) (ltb-false _ _ e), eq-eqb s.rounds s.rounds refl)

fold_first : (ss : List Study) → length ss ≤ max_studies → (fold fresh ss).first ≡ first_with (most ss) ss
fold_first [] h = refl
fold_first (s ∷ ss) h = ap (λ (t : Tally). (fold t ss).first) (begun s ss h) ∙ (led s ss h).first_is ∙ first_of s ss

-- ---- the page
module _ (ss : List Study) (h : length ss ≤ max_studies) where
  abbrev done : Tally
  done = fold fresh ss

  grown : (f : Tally → ℕ) (g : Study → ℕ) → ((t : Tally) (s : Study) → f (more t s) ≡ f t + g s) → f fresh ≡ 0 → f done ≡ sum g ss
  grown f g law z = fold_sum f g law fresh ss (omega arith) ∙ ap (λ (x : ℕ). x + sum g ss) z ∙ zero-add (sum g ss)

  pub summed : closed done (length ss) ≡ summary ss
  unfolding closed summary
  summed =
      rw (
        fold_any (λ t. t.bad_answer) (λ s. ltb max_answer s.answer) (λ t s. refl) fresh ss (omega arith),
        fold_any (λ t. t.bad_fee) (λ s. ltb max_fee s.fee) (λ t s. refl) fresh ss (omega arith),
        grown (λ t. t.studies) (λ _. 1) (λ t s. refl) refl,
        length_sum ss,
        grown (λ t. t.answer_0) (λ s. bit (eqb s.answer 0)) (λ t s. refl) refl,
        grown (λ t. t.answer_1) (λ s. bit (eqb s.answer 1)) (λ t s. refl) refl,
        grown (λ t. t.answer_2) (λ s. bit (eqb s.answer 2)) (λ t s. refl) refl,
        grown (λ t. t.answer_3) (λ s. bit (eqb s.answer 3)) (λ t s. refl) refl,
        grown (λ t. t.answer_4) (λ s. bit (eqb s.answer 4)) (λ t s. refl) refl,
        grown (λ t. t.rounds) (λ s. s.rounds) (λ t s. refl) refl,
        grown (λ t. t.fees) (λ s. s.fee) (λ t s. refl) refl,
        fold_most ss h,
        fold_first ss h,
      )

too_many : (ss : List Study) → max_studies < length ss → closed (fold fresh ss) (length ss) ≡ summary ss
unfolding closed summary
too_many ss h = rw (lt-ltb max_studies (length ss) h)

-- What is added up over the whole table, closed, is the summary.
pub fold_summary : (ss : List Study) → closed (fold fresh ss) (length ss) ≡ summary ss
fold_summary ss = cases (ltb max_studies (length ss)) refl
  where
    cases : (b : Bool) → ltb max_studies (length ss) ≡ b → closed (fold fresh ss) (length ss) ≡ summary ss
    cases true e = too_many ss (ltb-true _ _ e)
    cases false e = summed ss (ltb-false _ _ e)

room_more : (t : Tally) (a r f : ℕ) → Room t → r < 2 ^ 32 → f < 2 ^ 32 → Room (one_more t a r f)
room_more t a r f m hr hf = record {
  answer_0 = omega (arith, m.answer_0, bit_small (eqb a 0));
  answer_1 = omega (arith, m.answer_1, bit_small (eqb a 1));
  answer_2 = omega (arith, m.answer_2, bit_small (eqb a 2));
  answer_3 = omega (arith, m.answer_3, bit_small (eqb a 3));
  answer_4 = omega (arith, m.answer_4, bit_small (eqb a 4));
  rounds = omega (arith, m.rounds);
  fees = omega (arith, m.fees);
}

pub room_added : (t : Tally) (a r f : ℕ) → Room t → r < 2 ^ 32 → f < 2 ^ 32 → Room (added t a r f)
unfolding added
room_added t a r f m hr hf = cases (leb max_studies t.studies)
  where
    cases : (b : Bool) → Room (cond b t (one_more t a r f))
    cases true = m
    cases false = room_more t a r f m hr hf
