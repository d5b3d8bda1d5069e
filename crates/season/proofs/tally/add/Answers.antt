-- `season::tally::add` meets its contract. Assumes nothing.
use borrow.Author.Tests.{le-leb, lt-leb}
use native.Mathlib.Omega.{arith}
use Prim.Native.Nat.{ℕ}
use mathlib.Core.Path.{◌≡◌}
use mathlib.Core.Bool.{Bool, true, false}
use mir.Val.{bool_byte}
use lib.Dec.{eqb}
use Rattle.formula.specs.Meaning.{bit}
use Rattle.season.specs.Season.{max_studies}
use Rattle.season.specs.Private.Tally.{added}
use Rattle.season.proofs.tally.add.Goals as goal

pub returns-then-t-ge-STUDIES : goal.returns-then-t-ge-STUDIES
unfolding added
returns-then-t-ge-STUDIES c = rw (le-leb max_studies c.args.t.studies (omega (arith, c.if-t-ge-STUDIES.true)))

one_if : {n : ℕ} (b : Bool) → n ≡ bool_byte b → n ≡ bit b
one_if true e = e
one_if false e = e

pub returns : goal.returns
unfolding added
returns c =
    rw (
      lt-leb max_studies c.args.t.studies
          (omega (arith, c.if-t-ge-STUDIES.false)),
      one_if (eqb c.args.answer 0) c.from.ensures,
      one_if (eqb c.args.answer 1) c.from-2.ensures,
      one_if (eqb c.args.answer 2) c.from-3.ensures,
      one_if (eqb c.args.answer 3) c.from-4.ensures,
      one_if (eqb c.args.answer 4) c.from-5.ensures,
      c.from-6.ensures,
      c.from-7.ensures,
      c.choose.ensures,
      c.choose-2.ensures,
      c.is_ahead-ahead.ensures,
      c.or_above.ensures,
      c.or_above-2.ensures,
    )
