-- `formula::is_ended` meets its contract. Assumes nothing.
use native.Mathlib.Omega.{arith}
use borrow.Author.Rules.{sfits_of}
use mathlib.Core.Path.{sym}
use Prim.Native.Nat.{◌-◌}
use lib.IntN.{pos}
use lib.ListN.{length, get_or}
use Rattle.formula.proofs.Entries.{is_zero_bits, ended_empty}
use Rattle.formula.proofs.is_ended.Goals as goal

pub returns-then-entries-eq0 : goal.returns-then-entries-eq0
returns-then-entries-eq0 c = sym (ended_empty c.args.literals.now (omega (arith, c.if-entries-eq0.true)))

pub returns : goal.returns
returns c =
    let l = c.args.literals.now in
    is_zero_bits (get_or l (length l - 1) (pos 0)) (sfits_of c.result-1.given)
