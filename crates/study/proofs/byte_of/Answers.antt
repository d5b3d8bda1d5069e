-- `study::byte_of` meets its contract. Assumes nothing.
use Prim.Native.Nat.{ℕ, ◌≤◌, ◌<◌}
use native.Mathlib.Omega.{arith}
use borrow.Author.Rules.{rules}
use borrow.Author.Tests.{ltb-true, ltb-false}
use mathlib.Core.Path.{◌≡◌, refl, ap}
use mathlib.Core.Bool.{Bool, true, false, cond}
use mathlib.Core.List.{List, [], ◌∷◌}
use lib.Dec.{ltb}
use lib.ListN.{get_or}
use Rattle.study.specs.Study.{house, preferences_of}
use Rattle.study.proofs.byte_of.Goals as goal

-- The byte that is lent, or 0 where none is.
byte_is : (p r : ℕ) → (p < house → r ≡ p) → (house ≤ p → r ≡ 0) → r ≡ get_or (preferences_of p) 0 0
unfolding preferences_of
byte_is p r low high = by (ltb p house) refl
  where
    by : (b : Bool) → ltb p house ≡ b → r ≡ get_or (cond b (p ∷ []) []) 0 0
    by true e = low (ltb-true p house e)
    by false e = high (ltb-false p house e)

pub returns-clause-value : goal.returns-clause-value
returns-clause-value c = byte_is c.args.preference c.unwrap_or.result (λ h. search rules) (λ h. search rules)
