-- What neither of the causes 21 and 22 says of two columns, and what makes each of them apply. Assumes nothing.
use Prim.Native.Nat.{ℕ, ◌≤◌, ◌<◌}
use mathlib.Core.Path.{◌≡◌, refl, sym, ◌∙◌}
use mathlib.Core.Bool.{Bool, true, false, not, ◌||◌, or-true}
use mathlib.Core.List.{List}
use borrow.Author.Tests.{ltb-false, lt-ltb, le-ltb, eqb-true, eq-eqb, ne_eqb, not-false}
use lib.Dec.{eqb, ltb}
use lib.ListN.{length, get_or}
use Rattle.formula.specs.Causes.{any}
use Rattle.formula.proofs.Any.{or_none, any_none}
use Rattle.fee.specs.Bands.{max_bands, max_price, cause_21, cause_22, rises, Loads}
use Rattle.fee.specs.ByBands.{Summable}

module _ (firsts prices : List ℕ) where
  pub unlike : (length firsts ≡ length prices → ⊥) → true ≡ cause_21 firsts prices
  unfolding cause_21
  unlike h = rw (ne_eqb (length firsts) (length prices) h)

  pub none : length firsts ≡ 0 → true ≡ cause_21 firsts prices
  unfolding cause_21
  none h = sym (simp (eq-eqb (length firsts) 0 h, or-true))

  pub many : max_bands < length firsts → true ≡ cause_21 firsts prices
  unfolding cause_21
  many h = sym (simp (lt-ltb max_bands (length firsts) h, or-true))

  pub late : (get_or firsts 0 0 ≡ 1 → ⊥) → true ≡ cause_21 firsts prices
  unfolding cause_21
  late h = sym (simp (ne_eqb (get_or firsts 0 0) 1 h, or-true))

  pub table : length firsts ≡ length prices → (length firsts ≡ 0 → ⊥) → length firsts ≤ max_bands → get_or firsts 0 0 ≡ 1 → false ≡ cause_21 firsts prices
  unfolding cause_21
  table even some few first =
      rw (eq-eqb (length firsts) (length prices) even, ne_eqb (length firsts) 0 some, le-ltb max_bands (length firsts) few, eq-eqb (get_or firsts 0 0) 1 first)

  pub falling : rises firsts ≡ false → cause_22 firsts prices ≡ true
  unfolding cause_22
  falling h = rw h

  pub dear : any (ltb max_price) prices ≡ true → cause_22 firsts prices ≡ true
  unfolding cause_22
  dear h = simp (h, or-true)

  -- Neither applies, as the three tests find it.
  pub loads : {no_table rising dearer : Bool} → no_table ≡ cause_21 firsts prices → no_table ≡ false → rising ≡ rises firsts → rising ≡ true
      → dearer ≡ any (ltb max_price) prices → dearer ≡ false → Loads firsts prices
  unfolding cause_22
  loads is_table table is_rising rising is_dearer cheap = record { no_21 = sym is_table ∙ table; no_22 = rw (sym is_rising ∙ rising, sym is_dearer ∙ cheap) }

-- The same of two columns that loading accepts, one by one.
module _ {firsts prices : List ℕ} (l : Loads firsts prices) where
  pub are_even : length firsts ≡ length prices
  unfolding cause_21
  are_even = eqb-true (length firsts) (length prices)
      (not-false (eqb (length firsts) (length prices)) (or_none (not (eqb (length firsts) (length prices))) _ l.no_21).0)

  after_even : (eqb (length firsts) 0 || (ltb max_bands (length firsts) || not (eqb (get_or firsts 0 0) 1))) ≡ false
  unfolding cause_21
  after_even = (or_none (not (eqb (length firsts) (length prices))) _ l.no_21).1

  after_some : (ltb max_bands (length firsts) || not (eqb (get_or firsts 0 0) 1)) ≡ false
  after_some = (or_none (eqb (length firsts) 0) _ after_even).1

  pub are_few : length firsts ≤ max_bands
  are_few = ltb-false max_bands (length firsts) (or_none (ltb max_bands (length firsts)) _ after_some).0

  pub first_is_1 : get_or firsts 0 0 ≡ 1
  first_is_1 = eqb-true (get_or firsts 0 0) 1 (not-false (eqb (get_or firsts 0 0) 1) (or_none (ltb max_bands (length firsts)) _ after_some).1)

  pub are_rising : rises firsts ≡ true
  unfolding cause_22
  are_rising = not-false (rises firsts) (or_none (not (rises firsts)) _ l.no_22).0

  pub none_dearer : any (ltb max_price) prices ≡ false
  unfolding cause_22
  none_dearer = (or_none (not (rises firsts)) _ l.no_22).1

  pub summable : Summable firsts prices
  summable =
      record {
        even = are_even;
        few = are_few;
        cheap = λ i. ltb-false max_price (get_or prices i 0) (any_none (ltb max_price) 0 refl prices none_dearer i);
      }
