-- A file of over two million bytes is refused by its map and its length, and so is its front. Assumes nothing.
use Prim.Native.Nat.{ℕ, zero, suc, ◌+◌, ◌*◌, ◌≤◌, ◌<◌}
use native.Mathlib.Omega.{arith}
use mathlib.Core.Path.{◌≡◌, refl, ap, ◌∙◌}
use mathlib.Core.Bool.{Bool, true, false, cond, true≢false}
use mathlib.Core.List.{List, [], ◌∷◌}
use borrow.Author.Tests.{leb-true, leb-false, ne_eqb}
use lib.Dec.{eqb, leb, ltb}
use lib.ListN.{length, get_or, take, drop}
use lib.Seq.{length-take-le, get_or-drop}
use Rattle.text.specs.Reading.{Result, taken, refused}
use Rattle.witness.specs.File.{if_stands, word, has, universal_at, universal_count, existential_at, existential_count, end_of, record_of, content_cause, file_cause}
use Rattle.judgement.specs.Finding.{on_formula, on_text, finding_of}
use Rattle.vulzhenn_judge.specs.Cut.{taken_in, CutRight}

abbrev Bytes : List ℕ → Type 0
Bytes f = (i : ℕ) → get_or f i 0 < 256

-- The front of a list.
all_of : (n : ℕ) (l : List ℕ) → length l ≤ n → take n l ≡ l
all_of zero [] short = refl
all_of (suc n) [] short = refl
all_of zero (x ∷ l) short = absurd (omega arith)
all_of (suc n) (x ∷ l) short = ap (λ (r : List ℕ). x ∷ r) (all_of n l (omega arith))

front_bytes : (n : ℕ) (l : List ℕ) → Bytes l → Bytes (take n l)
front_bytes zero l bytes i = omega arith
front_bytes (suc n) [] bytes i = omega arith
front_bytes (suc n) (x ∷ l) bytes zero = bytes zero
front_bytes (suc n) (x ∷ l) bytes (suc i) = front_bytes n l (λ j. bytes (suc j)) i

front_first : (n : ℕ) (l : List ℕ) → 1 ≤ n → get_or (take n l) 0 0 ≡ get_or l 0 0
front_first zero l some = absurd (omega arith)
front_first (suc n) [] some = refl
front_first (suc n) (x ∷ l) some = refl

-- Where the fields end at the most.
most : (b : Bool) (n : ℕ) → if_stands b n ≤ n
most true n = omega arith
most false n = omega arith

ends : (a b c d e : Bool) (u s : ℕ) → u ≤ 65535 → s ≤ 65535
    → 1 + if_stands a 1 + if_stands b 4 + if_stands c (2 + 16 * u) + if_stands d (2 + 16 * s) + if_stands e 2 < taken_in
ends a b c d e u s few fewer = omega (arith, most a 1, most b 4, most c (2 + 16 * u), most d (2 + 16 * s), most e 2)

module _ (f : List ℕ) (bytes : Bytes f) where
  byte_at : (at i : ℕ) → get_or (drop at f) i 0 < 256
  byte_at at i = rw (get_or-drop at f i 0) (bytes (at + i))

  count_most : (b : Bool) (at : ℕ) → if_stands b (word (drop at f)) ≤ 65535
  count_most true at = omega (arith, byte_at at 0, byte_at at 1)
  count_most false at = omega arith

  end_most : end_of f < taken_in
  end_most =
      ends (has 0 f) (has 1 f) (has 2 f) (has 3 f) (has 4 f) (universal_count f) (existential_count f) (count_most (has 2 f) (universal_at f))
      (count_most (has 3 f) (existential_at f))

  -- A file that is longer.
  long_cause : taken_in ≤ length f → file_cause f ≡ cond (ltb 31 (get_or f 0 0)) 17 18
  unfolding file_cause
  long_cause long =
      go (eqb (length f) 0) (ltb 31 (get_or f 0 0)) (eqb (length f) (end_of f)) (content_cause (record_of f)) (ne_eqb (length f) 0 (λ e. omega arith))
      (ne_eqb (length f) (end_of f) (λ e. omega (arith, e, end_most)))
    where
      go : (a b c : Bool) (content : ℕ) → a ≡ false → c ≡ false → cond a 18 (cond b 17 (cond c content 18)) ≡ cond b 17 18
      go true b c content e g = absurd (true≢false e)
      go false true c content e g = refl
      go false false true content e g = absurd (true≢false g)
      go false false false content e g = refl

some_cause : (b : Bool) → eqb (cond b 17 18) 0 ≡ false
some_cause true = refl
some_cause false = refl

refused_so : (r : Result) (f g work : List ℕ) (c : ℕ) → file_cause f ≡ c → file_cause g ≡ c → eqb c 0 ≡ false → (on_text r f work).finding ≡ (on_text r g work).finding
unfolding on_formula
refused_so (refused number line) f g work c e d some = refl
refused_so (taken s) f g work c e d some = rw (e, d, some) refl

-- So many bytes are enough.
front_same : (n : ℕ) → taken_in ≤ n → (r : Result) (f work : List ℕ) → Bytes f → (on_text r (take n f) work).finding ≡ (on_text r f work).finding
front_same n enough r f work bytes = go (leb (length f) n) refl
  where
    go : (b : Bool) → leb (length f) n ≡ b → (on_text r (take n f) work).finding ≡ (on_text r f work).finding
    go true e = ap (λ (l : List ℕ). (on_text r l work).finding) (all_of n f (leb-true (length f) n e))
    go false e =
        let long = leb-false (length f) n e in
        let size = length-take-le n f (omega arith) in
        refused_so r (take n f) f work (cond (ltb 31 (get_or f 0 0)) 17 18)
        (long_cause (take n f) (front_bytes n f bytes) (omega (arith, size)) ∙ ap (λ (k : ℕ). cond (ltb 31 k) 17 18) (front_first n f (omega arith)))
        (long_cause f bytes (omega arith))
        (some_cause (ltb 31 (get_or f 0 0)))

pub cut_right : CutRight
unfolding finding_of
cut_right reading f work bytes = front_same taken_in (omega arith) reading f work bytes
