-- `rows::same_row` meets its contract. The loop's invariant: whether the bytes passed are equal. Assumes nothing.
use mathlib.Core.Path.{◌≡◌, refl, ap, ◌∙◌}
use mathlib.Core.Bool.{Bool, ◌&&◌}
use Prim.Native.Nat.{ℕ, ◌+◌}
use native.Mathlib.Omega.{arith}
use lib.Dec.{eqb}
use lib.ListN.{get_or, take, drop}
use Rattle.rows.specs.Access.{same_bytes}
use Rattle.rows.proofs.FindLaws.{same_parts_more}
use Rattle.rows.proofs.same_row.Goals as goal

pub loop-p-init : goal.loop-p-init
loop-p-init c = (omega arith, refl)

pub overflow_add-x : goal.overflow_add-x
overflow_add-x c = omega arith

pub bounds-a-x : goal.bounds-a-x
bounds-a-x c = omega arith

pub overflow_add-y : goal.overflow_add-y
overflow_add-y c = omega arith

pub bounds-b-y : goal.bounds-b-y
bounds-b-y c = omega arith

pub overflow_step-p : goal.overflow_step-p
overflow_step-p c = omega arith

pub loop-p-smaller : goal.loop-p-smaller
loop-p-smaller c = omega arith

pub loop-p-preserved : goal.loop-p-preserved
loop-p-preserved c =
    let loop = c.loop-p in
    let given = c.args in
    let a = given.a.now in
    let b = given.b.now in
    let p = loop.p in (
      omega arith,
      c.and_same-same.ensures
          ∙ ap (λ (v : Bool). v && eqb (get_or a (given.x + p) 0) (get_or b (given.y + p) 0)) loop.invariant.1
          ∙ same_parts_more a given.x b given.y p (omega arith) (omega arith),
    )

pub returns : goal.returns
returns c =
    let given = c.args in
    let all : c.loop-p.p ≡ 16 = omega arith in
    c.loop-p.invariant.1 ∙ ap (λ (n : ℕ). same_bytes (take n (drop given.x given.a.now)) (take n (drop given.y given.b.now))) all
