-- `forecast::shared` meets its contract. The loop's invariant: the bytes passed are equal. Assumes nothing.
use Prim.Native.Nat.{◌+◌, ◌*◌}
use native.Mathlib.Omega.{arith}
use Rattle.forecast.proofs.StartLaws.{shared_whole, shared_bytes}
use Rattle.forecast.proofs.shared.Goals as goal

pub returns-then-rows-x : goal.returns-then-rows-x
returns-then-rows-x c =
    let p = c.loop-p.p in
    let known = c.shared_slice_known-1.given in
    shared_bytes c.args.rows.now c.args.i c.args.j c.requires.0 c.requires.1 p c.loop-p.invariant.1 c.alike_bits.result (omega arith)
    (known (16 * c.args.i + p)).fits (known (16 * c.args.j + p)).fits c.if-rows-x.true c.alike_bits.ensures

pub returns : goal.returns
returns c = shared_whole c.args.rows.now c.args.i c.args.j c.requires.0 c.requires.1 c.loop-p.p c.loop-p.invariant.1 (omega arith)
