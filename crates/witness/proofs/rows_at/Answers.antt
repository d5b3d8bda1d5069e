-- `witness::rows_at` meets its contract. Assumes nothing.
use Prim.Native.Nat.{ℕ, ◌+◌, ◌*◌, ◌-◌, ◌≤◌}
use mathlib.Core.Path.{◌≡◌, refl, sym, ap, ◌∙◌, subst}
use mathlib.Core.Bool.{Bool}
use mathlib.Core.List.{List}
use native.Mathlib.Omega.{arith}
use lib.ListN.{length, take, drop}
use Rattle.witness.specs.File.{part, if_stands}
use Rattle.witness.proofs.rows_at.Goals as goal

pub slice_bounds-result-end : goal.slice_bounds-result-end
slice_bounds-result-end c =
    let at_entry_lem = c.args in
    let room : at_entry_lem.at + (2 + 16 * at_entry_lem.count) ≤ length at_entry_lem.file.now = subst
    (λ (t : Bool). at_entry_lem.at + if_stands t (2 + 16 * at_entry_lem.count) ≤ length at_entry_lem.file.now) c.if-there.true c.requires in
    omega (arith, room)

pub returns-then-there : goal.returns-then-there
returns-then-there c =
    let given = c.args in
    let rows : ℕ → List ℕ = λ n. take n (drop (given.at + 2) given.file.now) in
    let bytes : given.at + 2 + 16 * given.count - (given.at + 2) ≡ 16 * given.count = omega arith in record {
      own = (refl, rw c.if-there.true (omega arith));
      result_value = ap rows bytes ∙ sym (ap (λ (t : Bool). part t (rows (16 * given.count))) c.if-there.true);
    }

pub returns : goal.returns
returns c = record {
  own = (refl, rw c.if-there.false (omega arith));
  result_value = rw c.if-there.false;
}
