-- A formula is accepted exactly if `Accepted` (specs/Private/Accepted.antt) holds of it.
-- Assumes nothing.
use Prim.Native.Nat.{ℕ, zero, suc, ◌-◌, ◌≤◌}
use native.Mathlib.Omega.{arith}
use mathlib.Core.Path.{◌≡◌, refl, sym}
use mathlib.Core.Bool.{Bool, true, false, not, ◌||◌, true≢false, false≢true}
use mathlib.Core.List.{List}
use borrow.Author.Tests.{ltb-false, le-ltb, not-false}
use lib.Dec.{ltb, leb-suc-zero}
use lib.IntN.{ℤ, pos, negsuc, nat_abs}
use lib.ListN.{length, get_or}
use Rattle.std.specs.Prelude.{Result, Ok}
use Rattle.cause.specs.declared.Cause.{Cause}
use Rattle.cause.specs.declared.Cause.TheVariants.{Kinds, Literals, Beyond}
use Rattle.cause.specs.Cause.{refused_if}
use Rattle.formula.specs.declared.Formula.{Formula}
use Rattle.formula.specs.Formula.{max_unknowns, max_clauses, max_entries}
use Rattle.formula.specs.Causes.{any, other_kind, cause_1, zeros, is_zero, ended, cause_2, beyond, cause_3, sizes, checked}
pub use Rattle.formula.specs.Private.Accepted.{Accepted}
use Rattle.formula.proofs.Any.{or_none, any_none, none_any}
use Rattle.formula.proofs.Quantifiers.{kind_below}
use Rattle.formula.proofs.Clauses.{length_clauses}
use Rattle.formula.proofs.Order.{no_cause_1, no_cause_2, none_refused}

kind_known : (k : ℕ) → other_kind k ≡ false → k ≤ 1
kind_known zero e = omega arith
kind_known (suc zero) e = omega arith
kind_known (suc (suc k)) e = absurd (true≢false e)

zero_known : (z : ℤ) → is_zero z ≡ true → z ≡ pos 0
zero_known (pos zero) e = refl
zero_known (pos (suc v)) e = absurd (false≢true e)
zero_known (negsuc v) e = absurd (false≢true e)

passed : (refused : Bool) (cause : Cause) (otherwise : Result Formula Cause) (f : Formula) → refused_if refused cause otherwise ≡ Ok f → (refused ≡ false) ×
    (otherwise ≡ Ok f)
passed false cause otherwise f e = (refl, e)
passed true cause otherwise f e = absurd (let z : ◌≡◌ {A = ℕ} 0 1 = cc in omega arith)

module _ (kinds : List ℕ) (literals : List ℤ) where
  none_applies : (f : Formula) → checked kinds literals ≡ Ok f → (cause_1 kinds ≡ false) × (cause_2 literals ≡ false) ×
      (cause_3 (length kinds) literals ≡ false) × (◌≡◌ {A = Result Formula Cause} (Ok (sizes kinds literals)) (Ok f))
  unfolding checked
  none_applies f e =
      let one = passed (cause_1 kinds) Kinds
      (refused_if (cause_2 literals) Literals (refused_if (cause_3 (length kinds) literals) Beyond (Ok (sizes kinds literals)))) f e
      in
      let two = passed (cause_2 literals) Literals (refused_if (cause_3 (length kinds) literals) Beyond (Ok (sizes kinds literals))) f one.1 in
      let three = passed (cause_3 (length kinds) literals) Beyond (Ok (sizes kinds literals)) f two.1 in
      (one.0, two.0, three.0, three.1)

  pub accepted_sizes : {f : Formula} → checked kinds literals ≡ Ok f → f ≡ sizes kinds literals
  accepted_sizes {f} e = let same = (none_applies f e).3 in cc

  pub accepted : {f : Formula} → checked kinds literals ≡ Ok f → Accepted kinds literals
  unfolding cause_1 cause_2 cause_3
  accepted {f} e =
      let none = none_applies f e in
      let one = or_none (ltb max_unknowns (length kinds)) (any other_kind kinds) none.0 in
      let two = or_none (ltb max_entries (length literals)) (ltb max_clauses (zeros literals) || not (ended literals)) none.1 in
      let rest = or_none (ltb max_clauses (zeros literals)) (not (ended literals)) two.1 in
      let end = not-false (ended literals) rest.1 in
      record {
        few_unknowns = ltb-false max_unknowns (length kinds) one.0;
        kinds_known = λ k. kind_known (get_or kinds k 0) (any_none other_kind 0 refl kinds one.1 k);
        few_entries = ltb-false max_entries (length literals) two.0;
        few_clauses = ltb-false max_clauses (zeros literals) rest.0;
        clauses_are_zeros = length_clauses literals end;
        last_is_zero = zero_known (get_or literals (length literals - 1) (pos 0)) end;
        within = λ i. ltb-false (length kinds) (nat_abs (get_or literals i (pos 0))) (any_none (beyond (length kinds)) (pos 0) (leb-suc-zero (length kinds))
            literals none.2 i);
      }

  -- And nothing else is asked.
  pub accepting : Accepted kinds literals → checked kinds literals ≡ Ok (sizes kinds literals)
  unfolding cause_3
  accepting a =
      sym
      (none_refused kinds literals
      (no_cause_1 kinds a.few_unknowns (none_any other_kind 0 kinds (λ k. kind_below (get_or kinds k 0) (a.kinds_known k))))
      (no_cause_2 literals a.few_entries a.few_clauses (rw a.last_is_zero))
      (none_any (beyond (length kinds)) (pos 0) literals (λ i. le-ltb (length kinds) (nat_abs (get_or literals i (pos 0))) (a.within i))))
