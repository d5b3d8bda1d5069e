-- What the shape of a gate line says. Assumes nothing.
use native.Mathlib.Omega.{arith}
use mathlib.Core.Path.{◌≡◌, refl, ap₂}
use mathlib.Core.Bool.{Bool, true, false, cond, ◌&&◌, ◌||◌, false≢true}
use mathlib.Core.List.{List, [], ◌∷◌}
use mathlib.Core.Logic.{◌⊎◌, inl, inr}
use borrow.Author.Tests.{leb-true, eqb-true}
use lib.Dec.{eqb, leb, ltb}
use lib.ListN.{length}
use Rattle.lines.specs.Lines.{Bytes, words, first, rest, second, same}
use Rattle.lines.specs.Numbers.{number, no_number, is_zero, is_name, is_literal}
use Rattle.lines.specs.Shapes.{is_trimmed, closed_by_zero, and_word, or_word, xor_word, leads, is_led, is_prefix, has_three, three_if, is_gate}
use Rattle.named.specs.CircuitRight.{Fits}
use Rattle.named.proofs.NameLaws.{and_both}
use Rattle.text_gates.specs.GateLine.{literal_of, inputs_of, function_of}

-- Its name is not 0, and `^` has two inputs.
pub name_some : (w : Bytes) → is_name w ≡ true → number w ≡ 0 → ⊥
name_some w e none = let one = leb-true 1 (number w) (and_both (leb 1 (number w)) (ltb (number w) no_number) e).0 in omega arith

two_inputs : (ws : List Bytes) → closed_by_zero is_literal ws ≡ true → has_three ws ≡ true → length (inputs_of ws) ≡ 2
two_inputs [] shape three = absurd (false≢true shape)
two_inputs (a ∷ []) shape three = absurd (false≢true three)
two_inputs (a ∷ b ∷ []) shape three = absurd (false≢true three)
two_inputs (a ∷ b ∷ c ∷ d ∷ ws) shape three = absurd (false≢true three)
two_inputs (a ∷ b ∷ c ∷ []) shape three = go (is_zero a) (is_literal a) (is_zero b) (is_literal b) (is_zero c) (is_literal c) refl refl refl shape
  where
    go : (p p' q q' r r' : Bool) → is_zero a ≡ p → is_zero b ≡ q → is_zero c ≡ r
        → cond p false (p' && cond q false (q' && cond r true (r' && false))) ≡ true
        → length (cond p [] (literal_of a ∷ cond q [] (literal_of b ∷ cond r [] (literal_of c ∷ [])))) ≡ 2
    go true p' q q' r r' ea eb ec e = absurd (false≢true e)
    go false p' true q' r r' ea eb ec e = absurd (false≢true (and_both p' false e).1)
    go false p' false q' true r' ea eb ec e = refl
    go false p' false q' false r' ea eb ec e = absurd
        (false≢true (and_both r' false (and_both q' (r' && false) (and_both p' (q' && (r' && false)) e).1).1).1)

same_word : (w x : Bytes) → same w x ≡ true → w ≡ x
same_word [] [] e = refl
same_word [] (y ∷ ys) e = absurd (false≢true e)
same_word (x ∷ xs) [] e = absurd (false≢true e)
same_word (x ∷ xs) (y ∷ ys) e =
    let both = and_both (eqb x y) (same xs ys) e in
    ap₂ ◌∷◌ (eqb-true x y both.0) (same_word xs ys both.1)

-- Each gate line has the word of one function, and no prefix line has.
one_function : (w : Bytes) → leads true w ≡ true → (same w and_word ≡ true) ⊎ ((same w or_word ≡ true) ⊎ (same w xor_word ≡ true))
one_function w e = go (same w and_word) (same w or_word) (same w xor_word) e
  where
    go : (a b c : Bool) → (a || (b || c)) ≡ true → (a ≡ true) ⊎ ((b ≡ true) ⊎ (c ≡ true))
    go true b c e = inl refl
    go false true c e = inr (inl refl)
    go false false c e = inr (inr e)

not_a_kind : (w : Bytes) → leads true w ≡ true → leads false w ≡ false
not_a_kind w e = go (one_function w e)
  where
    go : (same w and_word ≡ true) ⊎ ((same w or_word ≡ true) ⊎ (same w xor_word ≡ true)) → leads false w ≡ false
    go (inl is) = rw (same_word w and_word is) refl
    go (inr (inl is)) = rw (same_word w or_word is) refl
    go (inr (inr is)) = rw (same_word w xor_word is) refl

fitting : (w : Bytes) (ws : List Bytes) → leads true w ≡ true → closed_by_zero is_literal ws ≡ true → three_if (same w xor_word) ws ≡ true
    → Fits (function_of w) (inputs_of ws)
fitting w ws lead shape three = go (one_function w lead)
  where
    go : (same w and_word ≡ true) ⊎ ((same w or_word ≡ true) ⊎ (same w xor_word ≡ true)) → Fits (function_of w) (inputs_of ws)
    go (inl is) = rw is tt
    go (inr (inl is)) = rw (same_word w or_word is) tt
    go (inr (inr is)) = rw (same_word w xor_word is) (two_inputs ws shape (rw is at three))

-- The facts of a gate line.
pub record Shaped (line : Bytes) : Type 0 where
  pub named : number (second (words line)) ≡ 0 → ⊥
  pub fits : Fits (function_of (first (words line))) (inputs_of (rest (rest (words line))))
  pub no_prefix : is_prefix line ≡ false

pub gate_shaped : (line : Bytes) → is_gate line ≡ true → Shaped line
unfolding is_gate is_led
gate_shaped line e =
    let ws = words line in
    let both = and_both (is_led true line) (three_if (same (first ws) xor_word) (rest (rest ws))) e in
    let led = and_both (is_trimmed line && leads true (first ws) && is_name (second ws)) (closed_by_zero is_literal (rest (rest ws))) both.0 in
    let named = and_both (is_trimmed line && leads true (first ws)) (is_name (second ws)) led.0 in
    let lead = and_both (is_trimmed line) (leads true (first ws)) named.0 in
    record {
      named = name_some (second ws) named.1;
      fits = fitting (first ws) (rest (rest ws)) lead.1 led.1 both.1;
      no_prefix = rw (lead.0, not_a_kind (first ws) lead.1) refl;
    }
