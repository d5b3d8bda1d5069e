-- The words of the p line, from a place before it. Assumes nothing.
use Prim.Native.Nat.{ℕ, ◌+◌, ◌-◌, ◌≤◌, ◌<◌}
use mathlib.Core.Path.{◌≡◌, refl, ap, sym, ◌∙◌}
use mathlib.Core.Bool.{true, false}
use native.Mathlib.Omega.{arith}
use lib.ListN.{length, take, drop, length-drop, drop_of_length-le}
use lib.Seq.{take_all}
use Rattle.lines.specs.Lines.{Bytes, lines, words}
use Rattle.lines.specs.Shapes.{is_comment}
use Rattle.lines.specs.Places.{before}
use Rattle.lines.proofs.LineLaws.{lines_line, lines_rest, lines_none}
use Rattle.text.specs.Form.{p_words}

module _ (text : Bytes) (at end : ℕ) (e : end ≡ at + before 10 (drop at text)) where
  pub width : end - at ≡ before 10 (drop at text)
  width = omega arith

  front : words (take (end - at) (drop at text)) ≡ words (take (before 10 (drop at text)) (drop at text))
  front = ap (λ (n : ℕ). words (take n (drop at text))) width

  -- The line from `at` on is no comment, is the last and has no end, or there is none.
  pub words_line : end < length text → is_comment (take (end - at) (drop at text)) ≡ false
      → p_words (lines (drop at text)) ≡ words (take (before 10 (drop at text)) (drop at text))
  words_line inside other = rw (lines_line text at end e inside, other) front

  pub words_rest : at < length text → end ≡ length text → p_words (lines (drop at text)) ≡ words (take (before 10 (drop at text)) (drop at text))
  words_rest some k =
      let all : take (end - at) (drop at text) ≡ drop at text = take_all (end - at) (drop at text) (omega (arith, length-drop at text)) in
      rw (lines_rest text at end e some k) (sym (ap words all) ∙ front)

  pub words_comment : end < length text → is_comment (take (end - at) (drop at text)) ≡ true
      → p_words (lines (drop at text)) ≡ p_words (lines (drop (end + 1) text))
  words_comment inside comment = rw (lines_line text at end e inside, comment) refl

pub words_none : (text : Bytes) (at : ℕ) → length text ≤ at → p_words (lines (drop at text)) ≡ words (take (before 10 (drop at text)) (drop at text))
unfolding words
words_none text at h = rw (lines_none text at h, drop_of_length-le text {i = at} h) refl
