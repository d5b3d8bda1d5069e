-- Counts of a list's entries, over what lies behind them: what an update makes of them. Assumes nothing.
use Rattle.std.proofs.Common.{◌≡◌, ℕ, zero, suc, ◌+◌, ◌≤◌, Bool, List, [], ◌∷◌, ◌++◌, map, length, drop, sym, refl, ap, ◌∙◌, subst, append_assoc, suc-add, zero-add, arith, length-append, length-drop, drop-drop}
use mathlib.Core.Option.{some}
use lib.ListN.{get_elem?, length-map}
use Rattle.rows.specs.Table.{zeroed}
use Rattle.rows.specs.Access.{zeroed_from}
use Rattle.rows.proofs.ZeroedLaws.{zeroed_over, given_up_behind}
use Rattle.counts.specs.Counts.{one_more, counted_up, filled, updated}
use Rattle.counts.proofs.CountLaws.{filled_none}

-- Filled with 0 is zeroed.
filled_zero : (from to : ℕ) (l : List ℕ) → filled from to 0 l ≡ zeroed_from from to l
filled_zero zero zero l = refl
filled_zero (suc from) zero l = refl
filled_zero zero (suc to) [] = refl
filled_zero (suc from) (suc to) [] = refl
filled_zero zero (suc to) (x ∷ l) = ap (λ (r : List ℕ). 0 ∷ r) (filled_zero zero to l)
filled_zero (suc from) (suc to) (x ∷ l) = ap (λ (r : List ℕ). x ∷ r) (filled_zero from to l)

map_append : {A : Type 0} (g : A → ℕ) (t more : List A) → map g (t ++ more) ≡ map g t ++ map g more
map_append g [] more = refl
map_append g (x ∷ t) more = ap (λ (r : List ℕ). g x ∷ r) (map_append g t more)

filled_behind : (value : ℕ) (a : List ℕ) (n : ℕ) (l : List ℕ) → filled (length a) (length a + n) value (a ++ l) ≡ a ++ filled zero n value l
filled_behind value [] n l = ap (λ (m : ℕ). filled zero m value l) (zero-add n)
filled_behind value (y ∷ a) n l =
    ap (λ (m : ℕ). filled (suc (length a)) m value (y ∷ (a ++ l))) (suc-add (length a) n) ∙ ap (λ (r : List ℕ). y ∷ r) (filled_behind value a n l)

-- The counts of all entries.
abbrev pub tallied : {A : Type 0} → (A → ℕ) → List A → List ℕ → List ℕ
tallied g t base = map g t ++ drop (length t) base

module _ {A : Type 0} (g : A → ℕ) where
  -- Each entry is counted by its test.
  counted_entries : (came : ℕ → Bool) (h : A → ℕ) (t : List A) (rest : List ℕ) → ((i : ℕ) (x : A) → get_elem? t i ≡ some x → one_more (came i) (h x) ≡ g x)
      → counted_up came (length t) (map h t ++ rest) ≡ map g t ++ rest
  counted_entries came h [] rest each = refl
  counted_entries came h (x ∷ t) rest each =
      let first = each zero x refl in
      let later = counted_entries (λ i. came (suc i)) h t rest (λ i y e. each (suc i) y e) in
      λ d. first d ∷ later d

  -- Entries with the value that is filled in.
  filled_entries : (value : ℕ) (more : List A) (l : List ℕ) → ((i : ℕ) (x : A) → get_elem? more i ≡ some x → g x ≡ value) → length more ≤ length l
      → filled zero (length more) value l ≡ map g more ++ drop (length more) l
  filled_entries value [] l each fits = refl
  filled_entries value (x ∷ more) [] each fits = absurd (omega arith)
  filled_entries value (x ∷ more) (z ∷ l) each fits =
      let first : value ≡ g x = sym (each zero x refl) in
      let later = filled_entries value more l (λ i y e. each (suc i) y e) (omega arith) in
      λ d. first d ∷ later d

  module _ (came : ℕ → Bool) (h : A → ℕ) (t : List A) (base : List ℕ) where
    -- No entry was added.
    pub updated_standing : ((i : ℕ) (x : A) → get_elem? t i ≡ some x → one_more (came i) (h x) ≡ g x)
        → updated came (length t) (length t) (length t) (tallied h t base) ≡ tallied g t base
    unfolding updated
    updated_standing each =
        filled_none (length t) (length t) 0 _ (omega arith)
        ∙ filled_none (length t) (length t) 1 _ (omega arith)
        ∙ counted_entries came h t (drop (length t) base) each

    -- Entries were added.
    pub updated_grown : (more : List A) → length (t ++ more) ≤ length base
        → ((i : ℕ) (x : A) → get_elem? t i ≡ some x → one_more (came i) (h x) ≡ g x) → ((i : ℕ) (x : A) → get_elem? more i ≡ some x → g x ≡ 1)
        → updated came (length t) (length (t ++ more)) (length t) (tallied h t base) ≡ tallied g (t ++ more) base
    unfolding updated
    updated_grown more fits each added =
        let counted = map g t in
        let rest = drop (length t) base in
        let as_long : length t ≡ length counted = sym (length-map t g) in
        let total : length (t ++ more) ≡ length counted + length more = omega (arith, length-append t more) in
        let behind : length more ≤ length rest = omega (arith, length-append t more, length-drop (length t) base) in
        filled_none (length (t ++ more)) (length t) 0 _ (omega (arith, length-append t more))
        ∙ ap (filled (length t) (length (t ++ more)) 1) (counted_entries came h t rest each)
        ∙ (λ d. filled (as_long d) (total d) 1 (counted ++ rest))
        ∙ filled_behind 1 counted (length more) rest
        ∙ ap (λ (r : List ℕ). counted ++ r) (filled_entries 1 more rest added behind)
        ∙ sym (append_assoc counted (map g more) (drop (length more) rest))
        ∙ ap (λ (r : List ℕ). r ++ drop (length more) rest) (sym (map_append g t more))
        ∙ ap (λ (r : List ℕ). map g (t ++ more) ++ r) (drop-drop (length more) (length t) base ∙ ap (λ (n : ℕ). drop n base) (sym (length-append t more)))

    -- The entries are others, each of them new; the places that they leave free were found zero.
    pub updated_cleared : (u : List A) → length u ≤ length base → length t ≤ length base → zeroed (length t) base ≡ base
        → ((i : ℕ) (x : A) → get_elem? u i ≡ some x → g x ≡ 1) → updated came 0 (length u) (length t) (tallied h t base) ≡ tallied g u base
    unfolding updated
    updated_cleared u fits old_fits blank added =
        let before = tallied h t base in
        let as_long : length before ≡ length base =
        omega (arith, length-append (map h t) (drop (length t) base), length-map t h, length-drop (length t) base) in
        let new_long : length (map g u) ≡ length u = length-map u g in
        let old_long : length (map h t) ≡ length t = length-map t h in
        ap (filled (length u) (length t) 0) (filled_entries 1 u before added (omega arith))
        ∙ filled_zero (length u) (length t) (map g u ++ drop (length u) before)
        ∙ subst (λ (n : ℕ). zeroed_from n (length t) (map g u ++ drop n before) ≡ map g u ++ drop n (zeroed (length t) before)) new_long
        (given_up_behind (map g u) before (length t))
        ∙ ap (λ (r : List ℕ). map g u ++ drop (length u) r) (all_zero old_long)
      where
        all_zero : length (map h t) ≡ length t → zeroed (length t) (map h t ++ drop (length t) base) ≡ base
        all_zero e =
            subst (λ (n : ℕ). zeroed n (map h t ++ drop n base) ≡ zeroed n base) e (zeroed_over (map h t) base (omega arith)) ∙ blank
