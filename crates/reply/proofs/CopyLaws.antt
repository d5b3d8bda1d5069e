-- Bits copied to an empty row, one after the other. Assumes nothing.
use Prim.Native.Nat.{ℕ, ◌+◌, ◌<◌}
use native.Mathlib.Decide.{dec_lt, ℕ_discrete}
use native.Mathlib.Omega.{arith}
use mathlib.Core.Path.{◌≡◌, refl, sym, ap, ◌∙◌}
use mathlib.Core.Bool.{Bool, true, false, cond, ◌&&◌, ◌||◌, or-false}
use mathlib.Core.List.{List}
use lib.Dec.{ltb}
use lib.ListN.{length}
use borrow.Author.Tests.{lt-ltb, le-ltb, eq-eqb, ne_eqb}
use Rattle.rows.specs.Row.{bit_of}
use Rattle.rows.specs.Stray.{row_bits}
use Rattle.rows.specs.Table.{row_at, room}
use Rattle.rows.specs.Access.{bit_set}
use Rattle.rows.proofs.WriteLaws.{length_bit_set, bit_of_bit_set}
use Rattle.reply.specs.Private.Fitting.{Copied}
use Rattle.reply.proofs.BitLaws.{other_rows}

or_true : (b : Bool) → b || true ≡ true
or_true true = refl
or_true false = refl

-- A place other than k is below k + 1 exactly if it is below k.
same_below : (p k : ℕ) → (p ≡ k → ⊥) → ltb p k ≡ ltb p (k + 1)
same_below p k other = go (dec_lt p k)
  where
    go : Dec (p < k) → ltb p k ≡ ltb p (k + 1)
    go (yes h) = lt-ltb p k h ∙ sym (lt-ltb p (k + 1) (omega arith))
    go (no h) = le-ltb p k (omega arith) ∙ sym (le-ltb p (k + 1) (omega arith))

module _ (bits : ℕ → Bool) (from : ℕ) (before : List ℕ) (to : ℕ) where
  module _ (k : ℕ) (now : List ℕ) (done : Copied bits from k before to now) (into : to < room before) (own : k < row_bits) where
    abbrev one_more : Bool → List ℕ
    one_more v = cond v (bit_set now to k) now

    into_now : to < room now
    into_now = let size = done.size in omega arith

    size_more : (v : Bool) → length (one_more v) ≡ length before
    size_more true = length_bit_set now to k into_now own ∙ done.size
    size_more false = done.size

    others_more : (v : Bool) (j : ℕ) → (j ≡ to → ⊥) → row_at (one_more v) j ≡ row_at before j
    others_more true j other = other_rows now to k into_now own j other ∙ done.others j other
    others_more false j other = done.others j other

    -- The bit that is set, or not.
    here : (v : Bool) → v ≡ bits (from + k) → bit_of (row_at (one_more v) to) k ≡ ltb k (k + 1) && bits (from + k)
    here true value =
        bit_of_bit_set now to k into_now own k own
        ∙ ap (λ (b : Bool). bit_of (row_at now to) k || b) (eq-eqb k k refl)
        ∙ or_true (bit_of (row_at now to) k)
        ∙ value
        ∙ ap (λ (b : Bool). b && bits (from + k)) (sym (lt-ltb k (k + 1) (omega arith)))
    here false value =
        done.copied k own
        ∙ ap (λ (b : Bool). b && bits (from + k)) (le-ltb k k (omega arith))
        ∙ value
        ∙ ap (λ (b : Bool). b && bits (from + k)) (sym (lt-ltb k (k + 1) (omega arith)))

    -- The others stay.
    there : (v : Bool) (p : ℕ) → p < row_bits → (p ≡ k → ⊥) → bit_of (row_at (one_more v) to) p ≡ ltb p (k + 1) && bits (from + p)
    there true p below other =
        bit_of_bit_set now to k into_now own p below
        ∙ ap (λ (b : Bool). bit_of (row_at now to) p || b) (ne_eqb k p (λ same. other (sym same)))
        ∙ or-false (bit_of (row_at now to) p)
        ∙ done.copied p below
        ∙ ap (λ (b : Bool). b && bits (from + p)) (same_below p k other)
    there false p below other = done.copied p below ∙ ap (λ (b : Bool). b && bits (from + p)) (same_below p k other)

    pub one_copied : (v : Bool) (now' : List ℕ) → v ≡ bits (from + k) → now' ≡ one_more v → Copied bits from (k + 1) before to now'
    one_copied v now' value stored =
        record {
          size = ap length stored ∙ size_more v;
          others = λ j other. ap (λ (t : List ℕ). row_at t j) stored ∙ others_more v j other;
          copied = λ p below. ap (λ (t : List ℕ). bit_of (row_at t to) p) stored ∙ go p below (ℕ_discrete p k);
        }
      where
        go : (p : ℕ) → p < row_bits → Dec (p ≡ k) → bit_of (row_at (one_more v) to) p ≡ ltb p (k + 1) && bits (from + p)
        go p below (yes e) =
            ap (bit_of (row_at (one_more v) to)) e ∙ here v value ∙ ap (λ (q : ℕ). ltb q (k + 1) && bits (from + q)) (sym e)
        go p below (no other) = there v p below other
