-- `growth::all_fit` meets its contract. Assumes nothing.
use Prim.Native.Nat.{ℕ, ◌+◌, ◌-◌, ◌≤◌, ◌<◌}
use native.Mathlib.Omega.{arith}
use native.Mathlib.Decide.{dec_lt}
use mathlib.Core.Path.{◌≡◌, sym, ap, ◌∙◌}
use lib.Dec.{leb}
use borrow.Author.Tests.{le-leb, lt-leb}
use Rattle.rows.specs.Table.{room}
use Rattle.growth.specs.Growth.{is_new, count_below}
use Rattle.growth.proofs.all_fit.Goals as goal

-- What is left of the room is tested instead of the sum, which might not be a usize.
sum_fits : (n added place : ℕ) → n ≤ place → leb added (place - n) ≡ leb (n + added) place
sum_fits n added place h = by_test (dec_lt (place - n) added)
  where
    by_test : Dec (place - n < added) → leb added (place - n) ≡ leb (n + added) place
    by_test (yes over) = lt-leb added (place - n) over ∙ sym (lt-leb (n + added) place (omega arith))
    by_test (no fits) = le-leb added (place - n) (omega arith) ∙ sym (le-leb (n + added) place (omega arith))

pub returns-then-room-count : goal.returns-then-room-count
returns-then-room-count c =
    let given = c.args in
    let added = count_below given.number (λ j. is_new given.rows.now given.count given.yielded.now j) in
    sym (lt-leb (given.count + added) (room given.rows.now) (omega arith))

pub returns : goal.returns
returns c =
    let given = c.args in
    ap (λ (added : ℕ). leb added (room given.rows.now - given.count)) c.count_new-added.ensures
    ∙ sum_fits given.count (count_below given.number (λ j. is_new given.rows.now given.count given.yielded.now j)) (room given.rows.now)
    (omega arith)
