-- What is read of a text that stands in a buffer: its own bytes, or, where it is longer than the buffer, cause 9 at line 0. Assumes nothing.
use Prim.Native.Nat.{ℕ, suc, ◌≤◌, ◌<◌}
use native.Mathlib.Omega.{arith}
use mathlib.Core.Path.{◌≡◌, sym, ap, subst, ◌∙◌}
use mathlib.Core.Bool.{Bool, false, cond, ◌&&◌}
use mathlib.Core.List.{List}
use lib.Dec.{leb, eqb}
use lib.IntN.{ℤ}
use lib.ListN.{length, take, length-replicate}
use lib.Seq.{take_all}
use borrow.Author.Tests.{lt-ltb, le-ltb}
use Rattle.formula.specs.Formula.{max_unknowns, max_entries}
use Rattle.lines.specs.Lines.{Bytes, lines}
use Rattle.text.specs.Reading.{Reading, max_bytes, scan, stopped, after_comments, refused, result_of, read_as, ReadSo}
use Rattle.text.specs.declared.Form.{Form}
use Rattle.text.specs.Form.{has_gates}
use Rattle.text.specs.Offered.{too_long, offered}

too_long_by_one : leb (length too_long) max_bytes ≡ false
unfolding too_long
too_long_by_one = ap (λ (n : ℕ). leb n max_bytes) (length-replicate {A = ℕ} (suc max_bytes) 0)

-- Whatever the tables' lengths are.
pub too_long_stops : (gates : Bool) (k l m : ℕ) → scan gates too_long k l m ≡ stopped 9 0
unfolding scan
too_long_stops gates k l m =
    ap (λ (b : Bool).
    cond (b && eqb k max_unknowns && eqb l max_entries && eqb m max_unknowns) (after_comments gates 1 (lines too_long)) (stopped 9 0))
    too_long_by_one

pub too_long_refused : (gates : Bool) → read_as gates too_long ≡ refused 9 0
too_long_refused gates = ap result_of (too_long_stops gates max_unknowns max_entries max_unknowns)

module _ (buffer : Bytes) (n : ℕ) where
  pub offered_inside : n ≤ length buffer → offered buffer n ≡ take n buffer
  unfolding offered
  offered_inside h = ap (λ (b : Bool). cond b too_long (take n buffer)) (le-ltb (length buffer) n h)

  pub offered_past : length buffer < n → offered buffer n ≡ too_long
  unfolding offered
  offered_past h = ap (λ (b : Bool). cond b too_long (take n buffer)) (lt-ltb (length buffer) n h)

  pub past_stops : length buffer < n → (gates : Bool) (k l m : ℕ) → scan gates (offered buffer n) k l m ≡ stopped 9 0
  past_stops h gates k l m = ap (λ (text : Bytes). scan gates text k l m) (offered_past h) ∙ too_long_stops gates k l m

  -- What is read of its own bytes is read of the text that is offered.
  pub inside_read : n ≤ length buffer → (gates : Bool) (k l m : ℕ) {r : Reading} {K N K' N' : List ℕ} {L L' : List ℤ}
      → ReadSo (result_of (scan gates (take n buffer) k l m)) r K L N K' L' N'
      → ReadSo (result_of (scan gates (offered buffer n) k l m)) r K L N K' L' N'
  inside_read h gates k l m {r} {K} {N} {K'} {N'} {L} {L'} d =
      subst (λ (text : Bytes). ReadSo (result_of (scan gates text k l m)) r K L N K' L' N') (sym (offered_inside h)) d

  -- In the form that was found in its own bytes.
  pub form_read_so : n ≤ length buffer → (form : Form) {gates : Bool} → gates ≡ has_gates form (take n buffer)
      → (k l m : ℕ) {r : Reading} {K N K' N' : List ℕ} {L L' : List ℤ}
      → ReadSo (result_of (scan gates (take n buffer) k l m)) r K L N K' L' N'
      → ReadSo (result_of (scan (has_gates form (offered buffer n)) (offered buffer n) k l m)) r K L N K' L' N'
  form_read_so h form {gates} e k l m {r} {K} {N} {K'} {N'} {L} {L'} d =
      let found : gates ≡ has_gates form (offered buffer n) = e ∙ ap (has_gates form) (sym (offered_inside h)) in
      subst (λ (b : Bool). ReadSo (result_of (scan b (offered buffer n) k l m)) r K L N K' L' N') found (inside_read h gates k l m d)

-- A text that fills its buffer is offered as it stands.
pub offered_whole : (text : Bytes) → offered text (length text) ≡ text
offered_whole text = offered_inside text (length text) (omega arith) ∙ take_all (length text) text (omega arith)

-- What holds of it as it is offered holds of it.
pub of_whole : (P : Bytes → Type 0) (text : Bytes) → P (offered text (length text)) → P text
of_whole P text h = subst P (offered_whole text) h
