-- The literals at the places that are left, copied one after the other.
-- Assumes nothing.
use Prim.Native.Nat.{ℕ, ◌+◌, ◌%◌, ◌≤◌, ◌<◌}
use native.Mathlib.Omega.{arith}
use native.Mathlib.Numerals.{add-one}
use mathlib.Core.Path.{◌≡◌, sym, ◌∙◌, ap}
use mathlib.Core.Bool.{Bool, true, false, cond}
use mathlib.Core.List.{List, [], ◌∷◌, ◌++◌, map, append-nil}
use borrow.Author.Tests.{ltb-true}
use lib.IntN.{ℤ, pos}
use lib.ListN.{length, get_or, take, drop, set, length-append, length-map, get_or-map}
use lib.Seq.{take_all, take-suc, length-take-le, append_snoc, set_at}
use Rattle.formula.proofs.Places.{drop_front}
use Rattle.codes.specs.Codes.{code_of}
use Rattle.trimming_rules.specs.Trimming.{keep}
use Rattle.trimming_rules.proofs.StepLaws.{keep_fewer}
use Rattle.trimming_marks.specs.Marks.{is_left}
use Rattle.trimming.specs.Private.Table.{literal_of, left, codes}
use Rattle.trimming.proofs.CodeLaws.{literal_code}
use Rattle.trimming.proofs.BlockLaws.{left_append}

module _ (literals : List ℤ) (table : List ℕ) (same : codes table ≡ map code_of literals) where
  pub as_many : length table ≡ length literals
  as_many = sym (length-map table (λ x. x % 512)) ∙ ap length same ∙ length-map literals code_of

  literal_there : (i : ℕ) → is_left (get_or table i 0) ≡ true → literal_of (get_or table i 0) ≡ get_or literals i (pos 0)
  literal_there i l =
      let small = ltb-true (get_or table i 0) 512 l in
      ap literal_of
      ((let e : get_or table i 0 ≡ get_or table i 0 % 512 = omega arith in e)
      ∙ sym (get_or-map (λ x. x % 512) table i 0)
      ∙ ap (λ (k : List ℕ). get_or k i 0) same
      ∙ get_or-map code_of literals i (pos 0))
      ∙ literal_code (get_or literals i (pos 0))

  module _ (output₀ : List ℤ) (room : length literals ≤ length output₀) where
    pub record Copied (output : List ℤ) (to i : ℕ) : Type 0 where
      pub inside : i ≤ length literals
      pub counted : to ≡ length (left (take i table))
      pub is : output ≡ left (take i table) ++ drop to output₀

    module _ {output : List ℤ} {to i : ℕ} (p : Copied output to i) where
      pub fewer : to ≤ i
      fewer =
          let a = length-map (keep is_left (take i table)) literal_of in
          let b = keep_fewer is_left (take i table) in
          let e = length-take-le i table (let m = as_many in let h = p.inside in omega arith) in
          let f = p.counted in
          omega arith

      module _ (below : i < length literals) where
        one_more : left (take (i + 1) table) ≡ left (take i table) ++ left (get_or table i 0 ∷ [])
        one_more =
            ap (λ (n : ℕ). left (take n table)) (add-one i)
            ∙ ap left (take-suc table i 0 (let m = as_many in omega arith))
            ∙ left_append (take i table) (get_or table i 0 ∷ [])

        left_one : (t : Bool) → is_left (get_or table i 0) ≡ t → left (get_or table i 0 ∷ []) ≡ cond t (literal_of (get_or table i 0) ∷ []) []
        left_one true e = ap (λ (b : Bool). map literal_of (cond b (get_or table i 0 ∷ []) [])) e
        left_one false e = ap (λ (b : Bool). map literal_of (cond b (get_or table i 0 ∷ []) [])) e

        pub copied_one : is_left (get_or table i 0) ≡ true → (z : ℤ) → z ≡ get_or literals i (pos 0) → Copied (set output to z) (to + 1) (i + 1)
        copied_one l z e =
            record {
              inside = omega arith;
              counted = sym (ap length one_is ∙ length-append (left (take i table)) (z ∷ []) ∙ ap (λ (n : ℕ). n + 1) (sym p.counted));
              is =
                  ap (λ (k : List ℤ). set k to z)
                  (p.is ∙ ap (λ (k : List ℤ). left (take i table) ++ k) (drop_front output₀ to (pos 0) (let f = fewer in omega arith)))
                  ∙ set_at (left (take i table)) (get_or output₀ to (pos 0)) (drop (to + 1) output₀) z to (sym p.counted)
                  ∙ sym (append_snoc (left (take i table)) z (drop (to + 1) output₀))
                  ∙ ap (λ (k : List ℤ). k ++ drop (to + 1) output₀) (sym one_is);
            }
          where
            one_is : left (take (i + 1) table) ≡ left (take i table) ++ (z ∷ [])
            one_is = one_more ∙ ap (λ (k : List ℤ). left (take i table) ++ k) (left_one true l ∙ ap (λ (y : ℤ). y ∷ []) (literal_there i l ∙ sym e))

        pub passed_one : is_left (get_or table i 0) ≡ false → Copied output to (i + 1)
        passed_one l =
            record {
              inside = omega arith;
              counted = p.counted ∙ ap length (sym none_is);
              is = p.is ∙ ap (λ (k : List ℤ). k ++ drop to output₀) (sym none_is);
            }
          where
            none_is : left (take (i + 1) table) ≡ left (take i table)
            none_is = one_more ∙ ap (λ (k : List ℤ). left (take i table) ++ k) (left_one false l) ∙ append-nil (left (take i table))

      pub copied_all : length literals ≤ i → (to ≡ length (left table)) × (output ≡ left table ++ drop to output₀)
      copied_all past =
          let e = take_all i table (let m = as_many in omega arith) in
          (p.counted ∙ ap (λ (k : List ℕ). length (left k)) e, p.is ∙ ap (λ (k : List ℕ). left k ++ drop to output₀) e)
