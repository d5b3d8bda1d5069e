-- The numbers that a run returns: 0 to 4, or 100 plus a cause from 1 to 6. Assumes nothing.
use Prim.Native.Nat.{ℕ, ◌+◌, ◌≤◌}
use Rattle.std.specs.Prelude.{Ok}
use native.Mathlib.Omega.{arith}
use mathlib.Core.Path.{◌≡◌, refl}
use mathlib.Core.Bool.{Bool, true, false, cond, not}
use lib.Dec.{eqb}
use lib.ListN.{length}
use Rattle.formula.specs.Formula.{work_size}
use Rattle.cause.specs.declared.Cause.TheVariants.{Kinds, Literals, Beyond}
use Rattle.cause.specs.Cause.{refused_if}
use Rattle.formula.specs.Causes.{cause_1, cause_2, cause_3, checked, sizes, number as cause_number}
use Rattle.formula.specs.declared.Formula.{Formula}
use Rattle.rounds.specs.Run.{Answer, is_false, is_true, spent, no_room_universal, no_room_existential, number}
use Rattle.engine.specs.Outcome.{Given, tables_fit, tables_counted, cause, accepted, reached, named, returned}
use Rattle.engine.specs.Numbers.{one_number}
use Rattle.door.specs.Door.{run_number}

pub number_named : (a : Answer) → one_number (named a) ≡ number a
number_named is_false = refl
number_named is_true = refl
number_named spent = refl
number_named no_room_universal = refl
number_named no_room_existential = refl

pub number_small : (a : Answer) → number a ≤ 4
number_small is_false = omega arith
number_small is_true = omega arith
number_small spent = omega arith
number_small no_room_universal = omega arith
number_small no_room_existential = omega arith

pub number_1 : (a : Answer) → number a ≡ 1 → a ≡ is_true
number_1 is_false e = absurd (omega arith)
number_1 is_true e = refl
number_1 spent e = absurd (omega arith)
number_1 no_room_universal e = absurd (omega arith)
number_1 no_room_existential e = absurd (omega arith)

pub number_0 : (a : Answer) → number a ≡ 0 → a ≡ is_false
number_0 is_false e = refl
number_0 is_true e = absurd (omega arith)
number_0 spent e = absurd (omega arith)
number_0 no_room_universal e = absurd (omega arith)
number_0 no_room_existential e = absurd (omega arith)

pub number_2 : (a : Answer) → number a ≡ 2 → a ≡ spent
number_2 is_false e = absurd (omega arith)
number_2 is_true e = absurd (omega arith)
number_2 spent e = refl
number_2 no_room_universal e = absurd (omega arith)
number_2 no_room_existential e = absurd (omega arith)

formula_cause_small : (a b c : Bool) (f : Formula) → cause_number (refused_if a Kinds (refused_if b Literals (refused_if c Beyond (Ok f)))) ≤ 3
formula_cause_small true b c f = omega arith
formula_cause_small false true c f = omega arith
formula_cause_small false false true f = omega arith
formula_cause_small false false false f = omega arith

first_cause_small : (n : ℕ) → n ≤ 3 → (a b c d e : Bool) → cond a (cond b 4 (cond c 16 (cond d 5 (cond e 6 0)))) n ≤ 16
first_cause_small n few false b c d e = omega arith
first_cause_small n few true true c d e = omega arith
first_cause_small n few true false true d e = omega arith
first_cause_small n few true false false true e = omega arith
first_cause_small n few true false false false true = omega arith
first_cause_small n few true false false false false = omega arith

module _ (g : Given) where
  pub cause_small : cause g ≤ 16
  unfolding cause checked
  cause_small =
      first_cause_small (cause_number (checked g.kinds g.literals))
      (formula_cause_small (cause_1 g.kinds) (cause_2 g.literals) (cause_3 (length g.kinds) g.literals) (sizes g.kinds g.literals))
      (eqb (cause_number (checked g.kinds g.literals)) 0)
      (not (tables_fit g.found.universal_rows g.found.universal_marks g.found.existential_rows g.found.existential_marks))
      (not (tables_counted g.found.universal_rows g.found.universal_counts g.found.existential_rows g.found.existential_counts))
      (not (eqb (length g.found.work) work_size)) (eqb g.limit 0)

  pub run_numbered : (b : Bool) → accepted g ≡ b → run_number g ≡ cond b (number (reached g).answer) (100 + cause g)
  unfolding returned
  run_numbered true e = rw e (number_named (reached g).answer)
  run_numbered false e = rw e refl

  pub run_number_small : run_number g ≤ 116
  run_number_small = go (accepted g) refl
    where
      go : (b : Bool) → accepted g ≡ b → run_number g ≤ 116
      go true e = omega (arith, run_numbered true e, number_small (reached g).answer)
      go false e = omega (arith, run_numbered false e, cause_small)
