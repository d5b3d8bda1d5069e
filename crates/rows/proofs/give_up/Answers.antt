-- `rows::give_up` meets its contract. Assumes nothing.
use mathlib.Core.Path.{sym, ap, ◌∙◌}
use Prim.Native.Nat.{ℕ, ◌*◌, ◌≤◌}
use lib.ListN.{length}
use borrow.Author.Rules.{rules}
use native.Mathlib.Omega.{arith}
use Rattle.rows.specs.Access.{zeroed_from, places_below, rows_given_up, marks_given_up}
use Rattle.rows.proofs.ZeroedLaws.{zeroed_from_none, part_zeroed}
use Rattle.rows.proofs.give_up.Goals as goal

-- No place is left to be given up.
pub returns-then-end-from : goal.returns-then-end-from
unfolding rows_given_up marks_given_up
returns-then-end-from c =
    let given = c.args in
    let none = c.places_below-end.ensures in record {
      rows_after = sym (zeroed_from_none (16 * given.from) (16 * places_below given.rows.now given.marks.now given.to) given.rows.now (omega arith));
      marks_after = sym (zeroed_from_none given.from (places_below given.rows.now given.marks.now given.to) given.marks.now (omega arith));
    }

pub returns : goal.returns
unfolding rows_given_up marks_given_up
returns c =
    let given = c.args in
    let end = c.places_below-end in
    let within : 16 * end.result ≤ length given.rows.now = omega (arith, end.ensures) in record {
      rows_after = part_zeroed (16 * given.from) (16 * end.result) given.rows.now c.fill.new.self (omega arith) within (c.fill.ensures.after (search rules))
          ∙ ap (λ (n : ℕ). zeroed_from (16 * given.from) (16 * n) given.rows.now) end.ensures;
      marks_after = part_zeroed given.from end.result given.marks.now c.fill-2.new.self (omega arith) (omega (arith, end.ensures))
          (c.fill-2.ensures.after (search rules))
          ∙ ap (λ (n : ℕ). zeroed_from given.from n given.marks.now) end.ensures;
    }
