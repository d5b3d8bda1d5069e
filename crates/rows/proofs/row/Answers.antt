-- `rows::row` meets its contract. Assumes nothing.
use mathlib.Core.Path.{◌≡◌, refl, ap}
use Prim.Native.Nat.{ℕ, ◌+◌, ◌-◌, ◌*◌}
use native.Mathlib.Omega.{arith}
use lib.ListN.{take, drop}
use borrow.Author.Tests.{lt-ltb, le-ltb}
use Rattle.rows.specs.Access.{handed_back, handed_start}
use Rattle.rows.proofs.TableLaws.{inside_true, inside_false, row_at_inside, row_at_outside}
use Rattle.rows.proofs.row.Goals as goal

pub returns-then-count-place : goal.returns-then-count-place
unfolding handed_back handed_start
returns-then-count-place c =
    let over = le-ltb c.args.place c.args.count (omega arith) in record {
      result_value = rw over;
      own = (refl, rw over (omega arith));
    }

pub returns-then-rows-place : goal.returns-then-rows-place
unfolding handed_back handed_start
returns-then-rows-place c =
    let given = c.args in
    let below = lt-ltb given.place given.count (omega arith) in
    let out = inside_false given.rows.now given.place c.if-rows-place.true in record {
      result_value = rw (below, row_at_outside given.rows.now given.place c.if-rows-place.true);
      own = (refl, rw (below, out) (omega arith));
    }

pub returns : goal.returns
unfolding handed_back handed_start
returns c =
    let given = c.args in
    let width : 16 * given.place + 16 - 16 * given.place ≡ 16 = omega arith in
    let below = lt-ltb given.place given.count (omega arith) in
    let here = inside_true given.rows.now given.place (omega (arith, c.if-rows-place.false)) in record {
      result_value = rw (below, row_at_inside given.rows.now given.place c.if-rows-place.false)
          (ap (λ (n : ℕ). take n (drop (16 * given.place) given.rows.now)) width);
      own = (refl, rw (below, here) (omega arith));
    }
