-- The formulas of cases are accepted if the formula is. Assumes nothing.
use Prim.Native.Nat.{ℕ, zero, suc}
use native.Mathlib.Omega.{arith}
use mathlib.Core.Path.{◌≡◌, refl, ap}
use mathlib.Core.Bool.{Bool}
use mathlib.Core.List.{List, [], ◌∷◌}
use lib.IntN.{ℤ}
use Rattle.formula.specs.Causes.{checked, number as cause_number}
use Rattle.formula.specs.Meaning.{verdict}
use Rattle.formula.proofs.Accepted.{accepted}
use Rattle.trimming_rules.proofs.Carried.{proved}
use Rattle.case_rules.specs.Restricted.{IsAccepted, restricted}
use Rattle.case_rules.proofs.Proved.{restricted_right}
use Rattle.study.specs.declared.Setting.{Setting}
use Rattle.study.specs.Study.{formula_of}
use Rattle.study.proofs.CauseLaws.{accepted_by_number}
use Rattle.case_study.specs.Cases.{half}

pub number_none : (kinds : List ℕ) (literals : List ℤ) → IsAccepted kinds literals → cause_number (checked kinds literals) ≡ 0
number_none kinds literals a = ap cause_number a

pub trimmed_accepted : (n : ℕ) (kinds : List ℕ) (literals : List ℤ) → IsAccepted kinds literals → IsAccepted kinds (formula_of n kinds literals)
trimmed_accepted zero kinds literals a = a
trimmed_accepted (suc n) kinds literals a = accepted_by_number kinds (formula_of (suc n) kinds literals) (proved kinds literals (accepted kinds literals a)).accepted_again

pub trimmed_verdict : (n : ℕ) (kinds : List ℕ) (literals : List ℤ) → IsAccepted kinds literals → verdict kinds (formula_of n kinds literals) ≡ verdict kinds literals
trimmed_verdict zero kinds literals a = refl
trimmed_verdict (suc n) kinds literals a = (proved kinds literals (accepted kinds literals a)).verdict_kept

module _ (kind : ℕ) (kinds : List ℕ) (literals : List ℤ) (a : IsAccepted (kind ∷ kinds) literals) (v : Bool) where
  pub case_accepted : IsAccepted kinds (restricted (v ∷ []) literals)
  case_accepted = (restricted_right (v ∷ []) (kind ∷ kinds) literals).accepted_again (omega arith) a

  pub half_accepted : (s : Setting) → IsAccepted kinds (half s kinds literals v)
  half_accepted s = trimmed_accepted s.trim kinds (restricted (v ∷ []) literals) case_accepted

  pub half_verdict : (s : Setting) → verdict kinds (half s kinds literals v) ≡ verdict kinds (restricted (v ∷ []) literals)
  half_verdict s = trimmed_verdict s.trim kinds (restricted (v ∷ []) literals) case_accepted
