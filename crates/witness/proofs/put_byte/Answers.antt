-- `witness::put_byte` meets its contract. Assumes nothing.
use Prim.Native.Nat.{◌+◌, ◌≤◌}
use mathlib.Core.Path.{subst}
use mathlib.Core.Bool.{Bool}
use mathlib.Core.List.{[], ◌∷◌}
use native.Mathlib.Omega.{arith}
use lib.ListN.{length}
use Rattle.witness.specs.File.{if_stands}
use Rattle.witness.proofs.PutLaws.{put_there, put_absent, put_one}
use Rattle.witness.proofs.put_byte.Goals as goal

pub bounds-out-at : goal.bounds-out-at
bounds-out-at c =
    let at_entry_lem = c.args in
    let room = subst (λ (t : Bool). at_entry_lem.at + if_stands t 1 ≤ length at_entry_lem.out.now) c.if-there.true c.requires in
    omega (arith, room)

pub returns-then-there : goal.returns-then-there
returns-then-there c =
    let at_entry_lem = c.args in
    let room = subst (λ (t : Bool). at_entry_lem.at + if_stands t 1 ≤ length at_entry_lem.out.now) c.if-there.true c.requires in
    put_there at_entry_lem.there c.if-there.true (put_one at_entry_lem.out.now at_entry_lem.at at_entry_lem.value (omega (arith, room)))

pub returns : goal.returns
returns c =
    let at_entry_lem = c.args in
    put_absent at_entry_lem.out.now at_entry_lem.at (at_entry_lem.value ∷ []) at_entry_lem.there c.if-there.false
