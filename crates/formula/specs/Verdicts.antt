-- The verdicts of 01's worked formulas, K1 to K5, K12 and K13: they fix the meaning before anything else is measured against it.
-- Assumes nothing.
use Rattle.std.specs.Prelude.{◌≡◌, true, false, [], ◌∷◌, pos, negsuc}
use Rattle.formula.specs.Meaning.{verdict}

pub record VerdictsRight : Type 0 where
  -- 'K1 that formula: true': `a 1 0`, `e 2 0`, `1 2 0`, `-1 -2 0`.
  pub k1 : verdict (1 ∷ 0 ∷ []) (pos 1 ∷ pos 2 ∷ pos 0 ∷ negsuc 0 ∷ negsuc 1 ∷ pos 0 ∷ []) ≡ true
  -- 'K2 prefix `e 2 0`, `a 1 0`: false.' The unknown that the text names 2 is now the first.
  pub k2 : verdict (0 ∷ 1 ∷ []) (pos 2 ∷ pos 1 ∷ pos 0 ∷ negsuc 1 ∷ negsuc 0 ∷ pos 0 ∷ []) ≡ false
  -- 'K3 n 0, no clause: true.'
  pub k3 : verdict [] [] ≡ true
  -- 'K4 n 0, one empty clause: false.'
  pub k4 : verdict [] (pos 0 ∷ []) ≡ false
  -- 'K5 one universal, clause 1: false.'
  pub k5 : verdict (1 ∷ []) (pos 1 ∷ pos 0 ∷ []) ≡ false
  -- 'K12 (example 4 of 000) kinds 1, 0, 1, 0, clauses 1 2 4, -1 -2 4, 3 -4: true.'
  pub k12 : verdict (1 ∷ 0 ∷ 1 ∷ 0 ∷ []) (pos 1 ∷ pos 2 ∷ pos 4 ∷ pos 0 ∷ negsuc 0 ∷ negsuc 1 ∷ pos 4 ∷ pos 0 ∷ pos 3 ∷ negsuc 3 ∷ pos 0 ∷ []) ≡ true
  -- 'K13 one universal, clause 1 -1: true.'
  pub k13 : verdict (1 ∷ []) (pos 1 ∷ negsuc 0 ∷ pos 0 ∷ []) ≡ true
