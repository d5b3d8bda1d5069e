-- The first line of a text from a place on. Assumes nothing.
use Prim.Native.Nat.{ℕ, suc, ◌+◌, ◌-◌, ◌≤◌, ◌<◌}
use mathlib.Core.Path.{◌≡◌, refl}
use mathlib.Core.Bool.{Bool, true, false}
use mathlib.Core.List.{[], ◌∷◌}
use native.Mathlib.Nat.{add-zero}
use native.Mathlib.Numerals.{add-one}
use native.Mathlib.Omega.{arith}
use borrow.Author.Tests.{eqb-true}
use lib.Dec.{eqb}
use lib.ListN.{length, get_or, take, drop, length-drop, drop_of_length-le}
use lib.Seq.{drop-cons, get_or-drop, take_all}
use Rattle.lines.specs.Lines.{Bytes, pieces, ended, unended, as_lines, remainder, lines}
use Rattle.lines.specs.Shapes.{is_comment}
use Rattle.lines.specs.Places.{before, more_if_not}
use Rattle.lines.proofs.Pieces.{after, pieces_first, pieces_from}

-- A piece with others behind it is a line.
as_lines_cons : (p : Bytes) (xs : Bytes) → as_lines (p ∷ pieces 10 xs) ≡ ended p ∷ as_lines (pieces 10 xs)
as_lines_cons p xs = rw (pieces_first 10 xs) refl

remainder_filled : (p : Bytes) → 0 < length p → remainder p ≡ unended p ∷ []
remainder_filled [] h = absurd (omega (arith, h))
remainder_filled (x ∷ xs) h = refl

module _ (text : Bytes) (at end : ℕ) (e : end ≡ at + before 10 (drop at text)) where
  width : end - at ≡ before 10 (drop at text)
  width = omega arith

  pieces_here : pieces 10 (drop at text) ≡ take (end - at) (drop at text) ∷ after 10 (drop end text)
  pieces_here = pieces_from 10 text at end e

  pub lines_line : end < length text → lines (drop at text) ≡ ended (take (end - at) (drop at text)) ∷ lines (drop (end + 1) text)
  unfolding lines
  lines_line h = rw (pieces_here, add-one, drop-cons text end 0 h) (as_lines_cons (take (end - at) (drop at text)) (drop (suc end) text))

  pub lines_rest : at < length text → end ≡ length text → lines (drop at text) ≡ unended (drop at text) ∷ []
  unfolding lines
  lines_rest h k =
      let all : take (end - at) (drop at text) ≡ drop at text = take_all (end - at) (drop at text) (omega (arith, length-drop at text)) in
      let none : drop end text ≡ [] = drop_of_length-le text {i = end} (omega arith) in
      rw (pieces_here, all, none) (remainder_filled (drop at text) (omega (arith, length-drop at text)))

pub lines_none : (text : Bytes) (at : ℕ) → length text ≤ at → lines (drop at text) ≡ []
unfolding lines
lines_none text at h = rw (drop_of_length-le text h) refl

-- A line is a comment if its first byte in the text is c, which is no LF.
comment_front : (l : Bytes) → is_comment (take (before 10 l) l) ≡ eqb (get_or l 0 0) 99
unfolding is_comment
comment_front [] = refl
comment_front (x ∷ xs) = go (eqb x 10) refl
  where
    go : (t : Bool) → eqb x 10 ≡ t → eqb (get_or (take (more_if_not t (before 10 xs)) (x ∷ xs)) 0 0) 99 ≡ eqb x 99
    go true e = rw (eqb-true x 10 e) refl
    go false e = refl

pub comment_first : (text : Bytes) (at end : ℕ) → end ≡ at + before 10 (drop at text)
    → is_comment (take (end - at) (drop at text)) ≡ eqb (get_or text at 0) 99
comment_first text at end e =
    let front : get_or (drop at text) 0 0 ≡ get_or text at 0 = rw (get_or-drop, add-zero) refl in
    rw (width text at end e, ← front) (comment_front (drop at text))
