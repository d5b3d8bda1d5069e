-- What holds of every table of bands that loading accepts, and of the built-in bands. Assumes nothing.
use Prim.Native.Nat.{ℕ, zero, suc, ◌*◌, ◌^◌, ◌≤◌, ◌<◌}
use native.Mathlib.Omega.{arith}
use native.Mathlib.Nat.{suc-mul, suc-ne-zero, suc_inj}
use mathlib.Core.Path.{◌≡◌, refl, ap, ◌∙◌}
use mathlib.Core.Bool.{Bool, true, false, cond}
use mathlib.Core.List.{List, [], ◌∷◌}
use borrow.Author.Tests.{leb-true, leb-false, lt-leb, le-leb, ltb-false}
use lib.Dec.{leb, ltb}
use lib.ListN.{length, get_or}
use Rattle.formula.specs.Causes.{any}
use Rattle.formula.proofs.Any.{or_none}
use Rattle.fee.specs.Fee.{price, total, fee_on, cause, answer, charged}
use Rattle.fee.specs.Bands.{max_price, last_price, price_with, cause_21, rises, cause_22, Loads, charged_with}
use Rattle.fee.specs.ByBands.{by_bands}
use Rattle.fee.specs.BandsRight.{LastBegun, BandsRight, built_in_firsts, built_in_prices, BuiltInLoaded}
use Rattle.fee.proofs.BandLaws.{rise_here, rise_later, none_begun, by_round}
use Rattle.fee.proofs.LoadLaws.{are_even, first_is_1, are_rising, none_dearer}

-- Where first rounds rise, none is below the first.
from_first : (f : ℕ) (fs : List ℕ) → rises (f ∷ fs) ≡ true → (j : ℕ) → j < length (f ∷ fs) → f ≤ get_or (f ∷ fs) j 0
from_first f fs e zero h = omega arith
from_first f [] e (suc j) h = absurd (omega arith)
from_first f (g ∷ gs) e (suc j) h = let l : f < g = rise_here f g gs e in omega (arith, from_first g gs (rise_later f g gs e) j (omega arith))

module _ (r : ℕ) where
  -- The first band is the last that has begun ..
  at_first : (so_far f p : ℕ) (fs ps : List ℕ) → f ≤ r → ((j : ℕ) → j < length fs → r < get_or fs j 0) → last_price p fs ps r ≡ p
      → LastBegun (f ∷ fs) (p ∷ ps) r (last_price so_far (f ∷ fs) (p ∷ ps) r)
  at_first so_far f p fs ps begun later none =
      record { place = 0; in_table = omega arith; begun = begun; last = after; costs = rw (le-leb f r begun) none }
    where
      after : (j : ℕ) → 0 < j → j < length (f ∷ fs) → r < get_or (f ∷ fs) j 0
      after zero h g = absurd (omega arith)
      after (suc j) h g = later j (omega arith)

  -- .. or it is one of the others.
  behind : (f p : ℕ) (fs ps : List ℕ) (cost : ℕ) → LastBegun fs ps r cost → LastBegun (f ∷ fs) (p ∷ ps) r cost
  behind f p fs ps cost b =
      record { place = suc b.place; in_table = omega (arith, b.in_table); begun = b.begun; last = after; costs = b.costs }
    where
      after : (j : ℕ) → suc b.place < j → j < length (f ∷ fs) → r < get_or (f ∷ fs) j 0
      after zero h g = absurd (omega arith)
      after (suc j) h g = b.last j (omega arith) (omega arith)

  begun_band : (so_far f p : ℕ) (fs ps : List ℕ) → f ≤ r → rises (f ∷ fs) ≡ true → length fs ≡ length ps
      → LastBegun (f ∷ fs) (p ∷ ps) r (last_price so_far (f ∷ fs) (p ∷ ps) r)
  begun_band so_far f p [] ps begun e n = at_first so_far f p [] ps begun (λ j h. absurd (omega arith)) refl
  begun_band so_far f p (g ∷ gs) [] begun e n = absurd (suc-ne-zero (length gs) n)
  begun_band so_far f p (g ∷ gs) (x ∷ xs) begun e n = by_next (leb g r) refl (begun_band p g x gs xs)
    where
      by_next : (b : Bool) → leb g r ≡ b
          → (g ≤ r → rises (g ∷ gs) ≡ true → length gs ≡ length xs → LastBegun (g ∷ gs) (x ∷ xs) r (last_price p (g ∷ gs) (x ∷ xs) r))
          → LastBegun (f ∷ g ∷ gs) (p ∷ x ∷ xs) r (last_price so_far (f ∷ g ∷ gs) (p ∷ x ∷ xs) r)
      by_next true h band = rw (le-leb f r begun) (behind f p (g ∷ gs) (x ∷ xs) (last_price p (g ∷ gs) (x ∷ xs) r)
          (band (leb-true _ _ h) (rise_later f g gs e) (suc_inj n)))
      by_next false h band =
          let m : r < g = leb-false _ _ h in
          at_first so_far f p (g ∷ gs) (x ∷ xs) begun
          (λ j below. omega (arith, from_first g gs (rise_later f g gs e) j below))
          (none_begun p r g gs (x ∷ xs) m (rise_later f g gs e))

  either_at_most : (b : Bool) (x y : ℕ) → x ≤ max_price → y ≤ max_price → cond b x y ≤ max_price
  either_at_most true x y h g = h
  either_at_most false x y h g = g

  last_at_most : (so_far : ℕ) (fs ps : List ℕ) → so_far ≤ max_price → any (ltb max_price) ps ≡ false → last_price so_far fs ps r ≤ max_price
  last_at_most so_far [] ps h none = h
  last_at_most so_far (f ∷ fs) [] h none = h
  last_at_most so_far (f ∷ fs) (p ∷ ps) h none =
      let parts = or_none (ltb max_price p) (any (ltb max_price) ps) none in
      last_at_most (cond (leb f r) p so_far) fs ps (either_at_most (leb f r) p so_far (ltb-false max_price p parts.0) h) parts.1

module _ (firsts prices : List ℕ) (l : Loads firsts prices) where
  banded : (fs ps : List ℕ) → length fs ≡ length ps → get_or fs 0 0 ≡ 1 → rises fs ≡ true → (r : ℕ) → 1 ≤ r → LastBegun fs ps r (price_with fs ps r)
  banded [] ps n first e r h = absurd (omega arith)
  banded (f ∷ fs) [] n first e r h = absurd (suc-ne-zero (length fs) n)
  banded (f ∷ fs) (p ∷ ps) n first e r h = begun_band r 0 f p fs ps (omega arith) e (suc_inj n)

  summed : (fs ps : List ℕ) → length fs ≡ length ps → get_or fs 0 0 ≡ 1 → rises fs ≡ true → (r : ℕ) → by_bands r fs ps ≡ total (price_with fs ps) r
  summed [] ps n first e r = absurd (omega arith)
  summed (f ∷ fs) [] n first e r = absurd (suc-ne-zero (length fs) n)
  summed (f ∷ fs) (p ∷ ps) n first e r = by_round f p fs ps first e (suc_inj n) r

  pub bands_right : BandsRight firsts prices
  bands_right =
      record {
        has_band = banded firsts prices (are_even l) (first_is_1 l) (are_rising l);
        at_most = λ r. last_at_most r 0 firsts prices (omega arith) (none_dearer l);
        plain_sum = summed firsts prices (are_even l) (first_is_1 l) (are_rising l);
      }

-- Where no round is over `most`, so many rounds cost at most that many times it.
total_at_most : (price : ℕ → ℕ) (most : ℕ) → ((r : ℕ) → price r ≤ most) → (rounds : ℕ) → total price rounds ≤ rounds * most
total_at_most price most each zero = omega arith
total_at_most price most each (suc rounds) = rw (suc-mul rounds most) (omega (arith, total_at_most price most each rounds, each (suc rounds)))

-- What the code adds up for 32-bit rounds leaves room for the rise.
pub sum_small : (firsts prices : List ℕ) → Loads firsts prices → (rounds : ℕ) → rounds < 2 ^ 32 → by_bands rounds firsts prices < 2 ^ 50
sum_small firsts prices l rounds h =
    let right = bands_right firsts prices l in
    omega (arith, right.plain_sum rounds, total_at_most (price_with firsts prices) max_price right.at_most rounds)

-- ---- the built-in bands

same_price : (r : ℕ) → 1 ≤ r → price_with built_in_firsts built_in_prices r ≡ price r
unfolding price
same_price r from_1 = in_third (leb 65 r) refl
  where
    in_second : r ≤ 64 → (b : Bool) → leb 9 r ≡ b → ◌≡◌ {A = ℕ} (cond b 250 (cond (leb 1 r) 400 0)) (cond (leb r 8) 400 (cond (leb r 64) 250 120))
    in_second l true h = let m : 9 ≤ r = leb-true _ _ h in rw (lt-leb r 8 (omega arith), le-leb r 64 l)
    in_second l false h = let m : r < 9 = leb-false _ _ h in rw (le-leb 1 r from_1, le-leb r 8 (omega arith))

    in_third : (b : Bool) → leb 65 r ≡ b → ◌≡◌ {A = ℕ} (cond b 120 (cond (leb 9 r) 250 (cond (leb 1 r) 400 0))) (cond (leb r 8) 400 (cond (leb r 64) 250 120))
    in_third true h = let m : 65 ≤ r = leb-true _ _ h in rw (lt-leb r 8 (omega arith), lt-leb r 64 (omega arith))
    in_third false h = let m : r < 65 = leb-false _ _ h in in_second (omega arith) (leb 9 r) refl

same_total : (p q : ℕ → ℕ) → ((r : ℕ) → 1 ≤ r → p r ≡ q r) → (rounds : ℕ) → total p rounds ≡ total q rounds
same_total p q e zero = refl
same_total p q e (suc rounds) = rw (same_total p q e rounds, e (suc rounds) (omega arith))

pub built_in_loads : Loads built_in_firsts built_in_prices
unfolding cause_21 cause_22
built_in_loads = record { no_21 = refl; no_22 = refl }

-- What the code adds up for the built-in bands is the sum of their prices.
pub built_in_sum : (rounds : ℕ) → by_bands rounds built_in_firsts built_in_prices ≡ total price rounds
built_in_sum rounds =
    (bands_right built_in_firsts built_in_prices built_in_loads).plain_sum rounds
    ∙ same_total (price_with built_in_firsts built_in_prices) price same_price rounds

pub built_in_loaded : BuiltInLoaded
unfolding charged_with charged cause_21 cause_22
built_in_loaded =
    record {
      loads = built_in_loads;
      same_price = same_price;
      same_charge =
          λ kinds rounds.
          ap (λ (sum : ℕ). answer (cause kinds) (fee_on sum kinds)) (same_total (price_with built_in_firsts built_in_prices) price same_price rounds);
    }
