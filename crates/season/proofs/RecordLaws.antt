-- The lines and pieces of a text, as they are read from the left. Assumes nothing.
use Prim.Native.Nat.{ℕ, zero, suc, ◌+◌, ◌-◌, ◌≤◌, ◌<◌}
use mathlib.Core.Path.{◌≡◌, refl, sym, ap, subst, ◌∙◌}
use Rattle.std.specs.Prelude.{Some, None, Result, Ok, Err}
use mathlib.Core.Bool.{Bool, true, false, cond, ◌&&◌}
use mathlib.Core.List.{List, [], ◌∷◌, ◌++◌, append_assoc, append-nil}
use native.Mathlib.Numerals.{add-one}
use native.Mathlib.Omega.{arith}
use native.Mathlib.Decide.{dec_lt}
use borrow.Author.Tests.{ne_eqb}
use lib.Dec.{eqb}
use lib.ListN.{length, take, drop, set, length-set, length-drop, drop_of_length-le}
use lib.Seq.{drop-cons, take-suc-set}
use Rattle.std.specs.Option.{is_some}
use Rattle.lines.specs.Lines.{Bytes, Line, lines, pieces}
use Rattle.lines.specs.Places.{before}
use Rattle.lines.proofs.Spans.{before_le}
use Rattle.lines.proofs.Pieces.{after, pieces_first, pieces_from}
use Rattle.lines.proofs.LineLaws.{lines_line, lines_rest, lines_none}
use Rattle.season.specs.declared.Study.{Study}
use Rattle.season.specs.Season.{max_studies}
use Rattle.season.specs.Text.{number, is_number, three_numbers, study, is_record, record_of, records, other_line}
use Rattle.season.specs.Private.Steps.{Parted, PartedAt, field, line_read, checked}

-- ---- the pieces of a line
-- What is found from inside a list on is found within it.
pub found_within : (b : ℕ) (l : Bytes) (i : ℕ) → i ≤ length l → i + before b (drop i l) ≤ length l
found_within b l i h = omega (arith, before_le b (drop i l), length-drop i l)

after_end : (l : Bytes) (i : ℕ) → i ≡ length l → after 32 (drop i l) ≡ []
after_end l i h = rw (drop_of_length-le l {i = i} (omega arith)) refl

after_more : (l : Bytes) (i : ℕ) → i < length l → after 32 (drop i l) ≡ pieces 32 (drop (i + 1) l)
after_more l i h = rw (add-one, drop-cons l i 0 h) refl

module _ (line : Bytes) (a : ℕ) (ea : a ≡ 0 + before 32 (drop 0 line)) where
  first_piece : pieces 32 line ≡ take a line ∷ after 32 (drop a line)
  first_piece = let e : before 32 line ≡ a = omega arith in rw (← e) (pieces_first 32 line)

  pub parted_none : a ≡ length line → Parted line None
  parted_none h = rw (first_piece, after_end line a h) refl

  module _ (b : ℕ) (eb : b ≡ a + 1 + before 32 (drop (a + 1) line)) (ha : a < length line) where
    second_piece : pieces 32 line ≡ take a line ∷ take (b - (a + 1)) (drop (a + 1) line) ∷ after 32 (drop b line)
    second_piece = rw (first_piece, after_more line a ha, pieces_from 32 line (a + 1) b eb) refl

    pub parted_once : b ≡ length line → Parted line None
    parted_once h = rw (second_piece, after_end line b h) refl

    module _ (c : ℕ) (ec : c ≡ b + 1 + before 32 (drop (b + 1) line)) (hb : b < length line) where
      third_piece : pieces 32 line ≡ take a line ∷ take (b - (a + 1)) (drop (a + 1) line) ∷ take (c - (b + 1)) (drop (b + 1) line) ∷ after 32 (drop c line)
      third_piece = rw (second_piece, after_more line b hb, pieces_from 32 line (b + 1) c ec) refl

      pub parted : c ≡ length line → Parted line (Some (a, b))
      parted h =
          record {
            ordered = omega arith;
            within = hb;
            parts = third_piece ∙ rw (after_end line c h, h) refl;
          }

      pub parted_on : c < length line → Parted line None
      parted_on h =
          let rest = drop (c + 1) line in
          let four : length (pieces 32 line) ≡ 4 + length (after 32 (drop (before 32 rest) rest)) = rw (third_piece, after_more line c h, pieces_first 32 rest)
          (omega arith) in
          ne_eqb (length (pieces 32 line)) 3 (λ e. omega arith)

-- ---- the study of a line
some_none : {A : Type 0} {a : A} → Some a ≡ None → ⊥
some_none {A} e = let z : ◌≡◌ {A = ℕ} 0 1 = cc in omega arith

pub no_number : (w : Bytes) → field w ≡ None → is_number w ≡ false
no_number w = cases (is_number w)
  where
    cases : (b : Bool) → cond b (Some (number w)) None ≡ None → b ≡ false
    cases true e = absurd (some_none e)
    cases false e = refl

pub a_number : (w : Bytes) {n : ℕ} → field w ≡ Some n → (is_number w ≡ true) × (number w ≡ n)
a_number w {n} = cases (is_number w)
  where
    cases : (b : Bool) → cond b (Some (number w)) None ≡ Some n → (b ≡ true) × (number w ≡ n)
    cases true e = (refl, cc)
    cases false e = absurd (some_none (sym e))

module _ (line : Bytes) where
  unread : three_numbers (pieces 32 line) ≡ false → None ≡ line_read line
  unfolding line_read
  unread e = rw e

  pub unparted : Parted line None → None ≡ line_read line
  unparted e = unread (rw e)

  pub line_good_read : three_numbers (pieces 32 line) ≡ true → line_read line ≡ Some (study (pieces 32 line))
  unfolding line_read
  line_good_read e = rw e

  pub is_read : is_some (line_read line) ≡ three_numbers (pieces 32 line)
  unfolding line_read
  is_read = cases (three_numbers (pieces 32 line))
    where
      cases : (b : Bool) → is_some (cond b (Some (study (pieces 32 line))) None) ≡ b
      cases true = refl
      cases false = refl

  -- Its pieces are read one by one.
  module _ {a b : ℕ} (P : PartedAt line a b) where
    abbrev first_part : Bytes
    first_part = take a line

    abbrev second_part : Bytes
    second_part = take (b - (a + 1)) (drop (a + 1) line)

    abbrev third_part : Bytes
    third_part = take (length line - (b + 1)) (drop (b + 1) line)

    by_parts : three_numbers (pieces 32 line) ≡ (is_number first_part && is_number second_part && is_number third_part)
    by_parts = rw P.parts refl

    pub no_first : is_number first_part ≡ false → None ≡ line_read line
    no_first e = unread (by_parts ∙ rw e)

    pub no_second : is_number first_part ≡ true → is_number second_part ≡ false → None ≡ line_read line
    no_second e f = unread (by_parts ∙ rw (e, f))

    pub no_third : is_number first_part ≡ true → is_number second_part ≡ true → is_number third_part ≡ false → None ≡ line_read line
    no_third e f g = unread (by_parts ∙ rw (e, f, g))

    pub all_read : is_number first_part ≡ true → is_number second_part ≡ true → is_number third_part ≡ true →
        Some (study (first_part ∷ second_part ∷ third_part ∷ [])) ≡ line_read line
    all_read e f g = ap (λ ps. Some (study ps)) (sym P.parts) ∙ sym (line_good_read (by_parts ∙ rw (e, f, g)))

-- ---- the lines of a text
abbrev line_from : Bytes → ℕ → ℕ → Bytes
line_from text at end = take (end - at) (drop at text)

module _ (text : Bytes) (at end : ℕ) (e : end ≡ at + before 10 (drop at text)) where
  pub other_unended : (k : ℕ) → at < length text → end ≡ length text → other_line k (lines (drop at text)) ≡ k
  unfolding is_record
  other_unended k h g = rw (lines_rest text at end e h g) refl

  module _ (h : end < length text) where
    pub other_here : (k : ℕ) → three_numbers (pieces 32 (line_from text at end)) ≡ false → other_line k (lines (drop at text)) ≡ k
    unfolding is_record
    other_here k bad = rw (lines_line text at end e h, bad) refl

    pub other_past : (k : ℕ) → three_numbers (pieces 32 (line_from text at end)) ≡ true →
        other_line k (lines (drop at text)) ≡ other_line (suc k) (lines (drop (end + 1) text))
    unfolding is_record
    other_past k good = rw (lines_line text at end e h, good) refl

    pub length_past : length (lines (drop at text)) ≡ suc (length (lines (drop (end + 1) text)))
    length_past = rw (lines_line text at end e h) refl

    pub records_past : records (lines (drop at text)) ≡ study (pieces 32 (line_from text at end)) ∷ records (lines (drop (end + 1) text))
    unfolding record_of
    records_past = rw (lines_line text at end e h) refl

  -- Where no other line stands from a place on, the line there has its LF and is a record.
  module _ (k : ℕ) (inside : at < length text) (none : other_line (suc k) (lines (drop at text)) ≡ 0) where
    pub is_ended : end < length text
    is_ended = cases (dec_lt end (length text))
      where
        cases : Dec (end < length text) → end < length text
        cases (yes h) = h
        cases (no h) = absurd (omega (arith, other_unended (suc k) inside (omega (arith, found_within 10 text at (omega arith)))))

    pub is_good : three_numbers (pieces 32 (line_from text at end)) ≡ true
    is_good = cases (three_numbers (pieces 32 (line_from text at end))) refl
      where
        cases : (t : Bool) → three_numbers (pieces 32 (line_from text at end)) ≡ t → t ≡ true
        cases true q = refl
        cases false q = absurd (omega (arith, other_here is_ended (suc k) q))

-- ---- the records, row by row
-- The lines before a place are the first rows, and no other line stands from there on.
pub record Filling (text : Bytes) (rows : List Study) (at i : ℕ) : Type 0 where
  pub size : length rows ≡ max_studies
  pub within : at ≤ length text
  pub none : other_line (suc i) (lines (drop at text)) ≡ 0
  pub counted : length (lines text) ≡ i + length (lines (drop at text))
  pub filled : take i rows ++ records (lines (drop at text)) ≡ records (lines text)

module _ {text : Bytes} {rows : List Study} {at i : ℕ} (F : Filling text rows at i) where
  module _ (inside : at < length text) (end : ℕ) (e : end ≡ at + before 10 (drop at text)) where
    pub line_ends : end < length text
    line_ends = is_ended text at end e i inside F.none

    pub line_good : three_numbers (pieces 32 (line_from text at end)) ≡ true
    line_good = is_good text at end e i inside F.none

    pub row_free : length (lines text) ≤ max_studies → i < max_studies
    row_free h = omega (arith, F.counted, length_past text at end e line_ends)

    pub row_filled : length (lines text) ≤ max_studies → (s : Study) → s ≡ study (pieces 32 (line_from text at end)) →
        Filling text (set rows i s) (end + 1) (i + 1)
    row_filled h s q = record {
      size = length-set rows i s ∙ F.size;
      within = omega (arith, line_ends);
      none = ap (λ k. other_line k (lines (drop (end + 1) text))) (ap suc (add-one i)) ∙ sym (other_past text at end e line_ends (suc i) line_good) ∙ F.none;
      counted = omega (arith, F.counted, length_past text at end e line_ends);
      filled =
          let more = ap (λ s. take i rows ++ (s ∷ records (lines (drop (end + 1) text)))) q ∙ ap (λ l. take i rows ++ l)
          (sym (records_past text at end e line_ends)) ∙ F.filled in
          rw (add-one, take-suc-set rows i s (omega (arith, F.size, row_free h)), append_assoc) more;
    }

  pub all_filled : length text ≤ at → take (length (lines text)) rows ≡ records (lines text)
  all_filled h =
      let past = lines_none text at h in
      let count : i ≡ length (lines text) = omega (arith, F.counted, ap length past) in
      rw (← count) (sym (append-nil (take i rows)) ∙ ap (λ ls. take i rows ++ records ls) (sym past) ∙ F.filled)

pub records_length : (ls : List Line) → length (records ls) ≡ length ls
records_length [] = refl
records_length (l ∷ ls) = ap suc (records_length ls)

-- ---- what the test of all lines says
module _ (ls : List Line) where
  abbrev Told : ℕ → Result ℕ ℕ → Type 0
  Told other (Ok n) = (other ≡ 0) × (length ls ≡ n)
  Told other (Err k) = (other ≡ k) × (k ≡ 0 → ⊥)

  told : Told (other_line 1 ls) (checked ls)
  unfolding checked
  told = cases (other_line 1 ls)
    where
      cases : (other : ℕ) → Told other (cond (eqb other 0) (Ok (length ls)) (Err other))
      cases zero = (refl, refl)
      cases (suc k) = rw (ne_eqb (suc k) 0 (λ z. omega arith)) (refl, λ z. omega arith)

  pub all_checked : {n : ℕ} → checked ls ≡ Ok n → (other_line 1 ls ≡ 0) × (length ls ≡ n)
  all_checked e = subst (Told (other_line 1 ls)) e told

  pub other_checked : {k : ℕ} → checked ls ≡ Err k → (other_line 1 ls ≡ k) × (k ≡ 0 → ⊥)
  other_checked e = subst (Told (other_line 1 ls)) e told

  pub no_other : other_line 1 ls ≡ 0 → Ok (length ls) ≡ checked ls
  unfolding checked
  no_other e = rw e

  pub some_other : (k : ℕ) → other_line 1 ls ≡ k + 1 → Err (k + 1) ≡ checked ls
  unfolding checked
  some_other k e = rw (e, ne_eqb (k + 1) 0 (λ z. omega arith))
