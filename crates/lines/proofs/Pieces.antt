-- The first piece of a list of bytes, and the first word of a line. Assumes nothing.
use Prim.Native.Nat.{ℕ, ◌+◌, ◌-◌, ◌≤◌, ◌<◌, min}
use mathlib.Core.Path.{◌≡◌, refl, ap, sym, ◌∙◌}
use mathlib.Core.Bool.{Bool, true, false}
use mathlib.Core.List.{List, [], ◌∷◌}
use native.Mathlib.Omega.{arith}
use native.Mathlib.Decide.{dec_lt}
use lib.Dec.{eqb}
use lib.ListN.{length, take, drop, length-take, length-drop, drop_of_length-le}
use lib.Seq.{drop-drop}
use Rattle.lines.specs.Lines.{Bytes, onto, in_front, pieces, keep, filled, words, first, rest}
use Rattle.lines.specs.Places.{before, more_if_not, spaces, more_if, Next}
use Rattle.lines.proofs.Spans.{before_le, spaces_le}

-- The pieces after the first: none where the list ends, else those behind the byte that parts.
abbrev pub after : ℕ → Bytes → List Bytes
after b [] = []
after b (x ∷ xs) = pieces b xs

pub pieces_first : (b : ℕ) (l : Bytes) → pieces b l ≡ take (before b l) l ∷ after b (drop (before b l) l)
pieces_first b [] = refl
pieces_first b (x ∷ xs) = go (eqb x b) (pieces_first b xs)
  where
    go : (t : Bool) → pieces b xs ≡ take (before b xs) xs ∷ after b (drop (before b xs) xs)
        → in_front t x (pieces b xs) ≡ take (more_if_not t (before b xs)) (x ∷ xs) ∷ after b (drop (more_if_not t (before b xs)) (x ∷ xs))
    go true ih = refl
    go false ih = ap (onto x) ih

-- The first piece from a place on, up to the first b.
pub pieces_from : (b : ℕ) (l : Bytes) (at end : ℕ) → end ≡ at + before b (drop at l) → pieces b (drop at l) ≡ take (end - at) (drop at l) ∷ after b (drop end l)
pieces_from b l at end e =
    let width : end - at ≡ before b (drop at l) = omega arith in
    pieces_first b (drop at l) ∙ rw (width, drop-drop, e) refl

filled_after : (l : Bytes) → filled (after 32 (drop (before 32 l) l)) ≡ words (drop (before 32 l) l)
unfolding words
filled_after [] = refl
filled_after (x ∷ xs) = go (eqb x 32) refl (filled_after xs)
  where
    go : (t : Bool) → eqb x 32 ≡ t → filled (after 32 (drop (before 32 xs) xs)) ≡ filled (pieces 32 (drop (before 32 xs) xs))
        → filled (after 32 (drop (more_if_not t (before 32 xs)) (x ∷ xs))) ≡ filled (pieces 32 (drop (more_if_not t (before 32 xs)) (x ∷ xs)))
    go true e ih = rw e refl
    go false e ih = ih

words_first : (l : Bytes) → words l ≡ keep (take (before 32 l) l) (words (drop (before 32 l) l))
unfolding words
words_first l = ap filled (pieces_first 32 l) ∙ ap (keep (take (before 32 l) l)) (filled_after l)

words_spaces : (l : Bytes) → words (drop (spaces l) l) ≡ words l
unfolding words
words_spaces [] = refl
words_spaces (x ∷ xs) = go (eqb x 32) refl (words_spaces xs)
  where
    go : (t : Bool) → eqb x 32 ≡ t → filled (pieces 32 (drop (spaces xs) xs)) ≡ filled (pieces 32 xs)
        → filled (pieces 32 (drop (more_if t (spaces xs)) (x ∷ xs))) ≡ filled (pieces 32 (x ∷ xs))
    go true e ih = rw e ih
    go false e ih = refl

-- A word that starts where the spaces end is empty only at the end of the line.
nothing_left : (l : Bytes) → before 32 (drop (spaces l) l) ≡ 0 → drop (spaces l) l ≡ []
nothing_left [] h = refl
nothing_left (x ∷ xs) h = go (eqb x 32) refl (nothing_left xs) h
  where
    go : (t : Bool) → eqb x 32 ≡ t → (before 32 (drop (spaces xs) xs) ≡ 0 → drop (spaces xs) xs ≡ [])
        → before 32 (drop (more_if t (spaces xs)) (x ∷ xs)) ≡ 0 → drop (more_if t (spaces xs)) (x ∷ xs) ≡ []
    go true e ih h = ih h
    go false e ih h = let k : more_if_not false (before 32 xs) ≡ 0 = rw e at h in absurd (omega (arith, k))

keep_filled : (t : Bytes) (ws : List Bytes) → 0 < length t → keep t ws ≡ t ∷ ws
keep_filled [] ws h = absurd (omega (arith, h))
keep_filled (x ∷ xs) ws h = refl

-- Past the end of a line nothing is left.
drop_min : (i : ℕ) (l : Bytes) → drop (min i (length l)) l ≡ drop i l
drop_min i l = go (dec_lt i (length l))
  where
    go : Dec (i < length l) → drop (min i (length l)) l ≡ drop i l
    go (yes h) = let e : min i (length l) ≡ i = omega arith in rw e refl
    go (no h) = drop_of_length-le l {i = min i (length l)} (omega arith) ∙ sym (drop_of_length-le l {i = i} (omega arith))

module _ (line : Bytes) (i start end : ℕ) (s : start ≡ min i (length line) + spaces (drop i line)) (e : end ≡ start + before 32 (drop start line)) where
  start_le : start ≤ length line
  start_le = omega (arith, spaces_le (drop i line), length-drop i line)

  end_le : end ≤ length line
  end_le = omega (arith, before_le 32 (drop start line), length-drop start line, start_le)

  at_start : drop start line ≡ drop (spaces (drop i line)) (drop i line)
  at_start = ap (λ n. drop n line) s ∙ sym (drop-drop (spaces (drop i line)) (min i (length line)) line) ∙ ap (drop (spaces (drop i line))) (drop_min i line)

  same_words : words (drop i line) ≡ words (drop start line)
  same_words = rw at_start (sym (words_spaces (drop i line)))

  width : end - start ≡ before 32 (drop start line)
  width = omega arith

  split : words (drop i line) ≡ keep (take (end - start) (drop start line)) (words (drop end line))
  split = same_words ∙ words_first (drop start line) ∙ rw (width, drop-drop, e) refl

  no_word : start ≡ end → words (drop i line) ≡ []
  unfolding words
  no_word h =
      let empty : before 32 (drop start line) ≡ 0 = omega arith in
      same_words ∙ ap words (at_start ∙ nothing_left (drop i line) (rw at_start at empty))

  a_word : start < end → words (drop i line) ≡ take (end - start) (drop start line) ∷ words (drop end line)
  a_word h = split ∙ keep_filled (take (end - start) (drop start line)) (words (drop end line)) (simp (length-take, length-drop) (omega (arith, end_le)))

  at_end : start ≡ end → words (drop end line) ≡ []
  at_end h = rw (← h) (sym same_words ∙ no_word h)

  first_is : Dec (start < end) → take (end - start) (drop start line) ≡ first (words (drop i line))
  first_is (yes h) = rw (a_word h) refl
  first_is (no h) = let z : end - start ≡ 0 = omega arith in rw (no_word (omega arith), z) refl

  rest_is : Dec (start < end) → words (drop end line) ≡ rest (words (drop i line))
  rest_is (yes h) = rw (a_word h) refl
  rest_is (no h) = rw (no_word (omega arith)) (at_end (omega arith))

  pub next_word : Next line i start end
  next_word =
      record {
        starts = s;
        ends = e;
        ordered = omega arith;
        within = end_le;
        word = first_is (dec_lt start end);
        others = rest_is (dec_lt start end);
        none = no_word;
        some = a_word;
        onward = λ h. omega (arith, end_le);
      }

pub words_none : (line : Bytes) (i : ℕ) → length line ≤ i → words (drop i line) ≡ []
unfolding words
words_none line i h = rw (drop_of_length-le line h) refl
