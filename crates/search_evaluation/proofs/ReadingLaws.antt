-- Codes read one after the other, where entry e is the next one: what the codes left make of what is known is what all codes make.
-- Assumes nothing.
use Prim.Native.Nat.{ℕ, zero, suc, ◌+◌, ◌<◌}
use mathlib.Core.Path.{◌≡◌, refl, sym, ap, ◌∙◌}
use mathlib.Core.Bool.{Bool, true, false}
use mathlib.Core.List.{List, [], ◌∷◌}
use native.Mathlib.Numerals.{add-one}
use lib.ListN.{length, get_or, drop}
use lib.Seq.{drop-cons}
use Rattle.search_evaluation.specs.Evaluation.{is_set, is_true, is_satisfied, shown_with, look_on, unsatisfied_on, next_unsatisfied_on, matrix_on}

-- ---- the next code

module _ {A : Type 0} (on : List ℕ → A) (codes : List ℕ) (e : ℕ) where
  module _ (c : ℕ) (inside : e < length codes) (is : c ≡ get_or codes e 0) where
    next : on (c ∷ drop (e + 1) codes) ≡ on (drop e codes)
    next = ap on (ap (λ (x : ℕ). x ∷ drop (e + 1) codes) is ∙ ap (λ (n : ℕ). get_or codes e 0 ∷ drop n codes) (add-one e) ∙ sym (drop-cons codes e 0 inside))

    -- what a literal makes, for one that is not known to be a successor
    literal : (with : ℕ → List ℕ → A) → ((x : ℕ) (cs : List ℕ) → with (suc x) cs ≡ on (suc x ∷ cs)) → (c ≡ 0 → ⊥)
        → with c (drop (e + 1) codes) ≡ on (drop e codes)
    literal with is_with other = by_code c other ∙ next
      where
        by_code : (x : ℕ) → (x ≡ 0 → ⊥) → with x (drop (e + 1) codes) ≡ on (x ∷ drop (e + 1) codes)
        by_code zero n = absurd (n refl)
        by_code (suc x) n = is_with x (drop (e + 1) codes)

-- ---- what a clause shows

module _ (set truth : ℕ → Bool) where
  shown_one : (s t : Bool) (c : ℕ) → shown_with s t 1 c ≡ 1
  shown_one true true c = refl
  shown_one true false c = refl
  shown_one false t c = refl

  -- 1 stays
  pub look_one : (cs : List ℕ) → look_on set truth 1 cs ≡ 1
  look_one [] = refl
  look_one (zero ∷ cs) = refl
  look_one (suc c ∷ cs) =
      ap (λ (n : ℕ). look_on set truth n cs) (shown_one (set (suc c)) (truth (suc c)) (suc c)) ∙ look_one cs

shown_second : (t : Bool) (shown c : ℕ) → (shown ≡ 0 → ⊥) → shown_with false t shown c ≡ 1
shown_second t zero c n = absurd (n refl)
shown_second t (suc shown) c n = refl

abbrev look_whole : List ℕ → List ℕ → ℕ → ℕ → ℕ
look_whole codes w i start = look_on (is_set w i) (is_true w i) 0 (drop start codes)

pub record Looking (codes w : List ℕ) (i start shown e : ℕ) : Type 0 where
  pub left : look_on (is_set w i) (is_true w i) shown (drop e codes) ≡ look_whole codes w i start

module _ {codes w : List ℕ} {i start shown e : ℕ} (so_far : Looking codes w i start shown e) where
  module _ {c : ℕ} (inside : e < length codes) (is : c ≡ get_or codes e 0) where
    module _ (other : c ≡ 0 → ⊥) where
      looking_literal : (s t : Bool) (n : ℕ) → is_set w i c ≡ s → is_true w i c ≡ t → shown_with s t shown c ≡ n → Looking codes w i start n (e + 1)
      looking_literal s t n is_s is_t is_n = record {
        left =
            sym (ap (λ (m : ℕ). look_on (is_set w i) (is_true w i) m (drop (e + 1) codes)) (ap (λ (b : Bool). shown_with b (is_true w i c) shown c) is_s ∙ ap
            (λ (b : Bool). shown_with s b shown c) is_t ∙ is_n))
            ∙ literal (look_on (is_set w i) (is_true w i) shown) codes e c inside is
            (λ x cs. look_on (is_set w i) (is_true w i) (shown_with (is_set w i x) (is_true w i x) shown x) cs) (λ x cs. refl) other
            ∙ so_far.left;
      }

      looked_one : Looking codes w i start 1 (e + 1) → 1 ≡ look_whole codes w i start
      looked_one l = sym (look_one (is_set w i) (is_true w i) (drop (e + 1) codes)) ∙ l.left

      pub looked_true : is_set w i c ≡ true → is_true w i c ≡ true → 1 ≡ look_whole codes w i start
      looked_true s t = looked_one (looking_literal true true 1 s t refl)

      pub looked_second : is_set w i c ≡ false → (shown ≡ 0 → ⊥) → 1 ≡ look_whole codes w i start
      looked_second s n = looked_one (looking_literal false (is_true w i c) 1 s refl (shown_second (is_true w i c) shown c n))

-- ---- whether a clause lives

abbrev unsatisfied_whole : List ℕ → List ℕ → ℕ → ℕ → Bool
unsatisfied_whole codes w i start = unsatisfied_on (is_satisfied w i) (drop start codes)

pub record Living (codes w : List ℕ) (i start e : ℕ) : Type 0 where
  pub left : unsatisfied_on (is_satisfied w i) (drop e codes) ≡ unsatisfied_whole codes w i start

-- ---- the next clause that lives

abbrev seek_whole : List ℕ → List ℕ → ℕ → ℕ → ℕ
seek_whole codes w i from = next_unsatisfied_on (is_satisfied w i) from false from (drop from codes)

pub record Seeking (codes w : List ℕ) (i from start : ℕ) (hit : Bool) (e : ℕ) : Type 0 where
  pub left : next_unsatisfied_on (is_satisfied w i) start hit e (drop e codes) ≡ seek_whole codes w i from

-- ---- the matrix

abbrev matrix_whole : List ℕ → List ℕ → ℕ → Bool
matrix_whole codes w i = matrix_on (is_true w i) false codes

pub record Matching (codes w : List ℕ) (i : ℕ) (met : Bool) (e : ℕ) : Type 0 where
  pub left : matrix_on (is_true w i) met (drop e codes) ≡ matrix_whole codes w i
