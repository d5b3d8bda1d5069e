-- What holds of a reading of either form. Assumes nothing.
use Prim.Native.Nat.{ℕ, ◌+◌, ◌≤◌}
use native.Mathlib.Omega.{arith}
use mathlib.Core.Path.{◌≡◌, subst}
use mathlib.Core.Bool.{Bool, true, false}
use mathlib.Core.Logic.{inl, inr}
use Rattle.formula.specs.Formula.{max_unknowns, max_entries}
use Rattle.lines.specs.Lines.{Bytes}
use Rattle.named.specs.Names.{In}
use Rattle.text.specs.Reading.{max_bytes, Read, taken, refused, read, read_gates, gates_causes, read_as}
use Rattle.text.proofs.TextLaws.{Results, Passes, read_passes, refused_line, gates_refused_line}
use Rattle.text.proofs.GatesPass.{GatesResults, gates_pass}

pub reading_passes : (gates : Bool) (text : Bytes) (r : Read) → read_as gates text ≡ taken r → Passes r
unfolding read read_gates
reading_passes false text r e = subst (Results Passes) e (read_passes text max_unknowns max_entries max_unknowns)
reading_passes true text r e = (subst GatesResults e (gates_pass text max_unknowns max_entries max_unknowns)).passes

pub reading_line : (gates : Bool) (text : Bytes) (n line : ℕ) → read_as gates text ≡ refused n line → line ≤ 2 + max_bytes
unfolding read read_gates
reading_line false text n line e = refused_line text max_unknowns max_entries max_unknowns n line e
reading_line true text n line e = gates_refused_line text max_unknowns max_entries max_unknowns n line e

-- The numbers of causes.
pub gates_small : (n : ℕ) → In n gates_causes → n ≤ 20
gates_small n (inl e) = omega (arith, e)
gates_small n (inr (inl e)) = omega (arith, e)
gates_small n (inr (inr (inl e))) = omega (arith, e)
gates_small n (inr (inr (inr (inl e)))) = omega (arith, e)
gates_small n (inr (inr (inr (inr (inl e))))) = omega (arith, e)
gates_small n (inr (inr (inr (inr (inr (inl e)))))) = omega (arith, e)
gates_small n (inr (inr (inr (inr (inr (inr (inl e))))))) = omega (arith, e)
gates_small n (inr (inr (inr (inr (inr (inr (inr i))))))) = absurd i

pub reading_number : (gates : Bool) (text : Bytes) (n line : ℕ) → read_as gates text ≡ refused n line → n ≤ 20
unfolding read read_gates
reading_number false text n line e = omega (arith, (subst (Results Passes) e (read_passes text max_unknowns max_entries max_unknowns)).to_14)
reading_number true text n line e = gates_small n (subst GatesResults e (gates_pass text max_unknowns max_entries max_unknowns))
