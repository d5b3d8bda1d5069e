-- Bounds of a run: its counts, its rows and its rounds. Assumes nothing.
use Prim.Native.Nat.{ℕ, suc, ◌^◌, ◌≤◌}
use native.Mathlib.Omega.{arith}
use mathlib.Core.Path.{◌≡◌}
use lib.ListN.{length}
use Rattle.formula.specs.Formula.{Kind, existential, universal}
use Rattle.formula.specs.Causes.{count}
use Rattle.expansion.specs.Play.{Row}
use Rattle.expansion.proofs.Membership.{In}
use Rattle.rounds.specs.Run.{rows, spent, Lent, run}
use Rattle.rounds.specs.Claim.{table}
use Rattle.rounds.specs.GivenUp.{room}
use Rattle.rounds.proofs.GrowthLaws.{length_at_most}
use Rattle.rounds.proofs.RunLaws.{run_reached}

module _ (l : Lent) (limit : ℕ) where
  -- Each row has a value for each unknown of its side.
  pub row_length : (side : Kind) (x : Row) → In x (rows (table side (run l limit))) → length x ≡ count side l.ks
  row_length side = ((run_reached l limit).held side).sized

  -- A table holds no more rows than there are, and no more than it has room for.
  pub count_most : (side : Kind) → length (table side (run l limit)) ≤ 2 ^ count side l.ks
  count_most side =
      let held = (run_reached l limit).held side in
      length_at_most l side (table side (run l limit)) held.distinct held.sized

  pub count_in_room : (side : Kind) → 1 ≤ room side l → length (table side (run l limit)) ≤ room side l
  count_in_room side = ((run_reached l limit).held side).fits

  -- So the number of the round that follows a finished one fits its mark: 257 rounds are the most with 256 existential rows.
  pub next_round_in_room : 1 ≤ l.room_s → (run l limit).answer ≡ spent → limit ≤ l.room_s
  next_round_in_room some_room e = omega (arith, ((run_reached l limit).ongoing e).count_s, count_in_room existential some_room)

  -- And a run that never clears has one universal row more than finished rounds: with 256 of them it is never spent at a limit of 256 or more.
  pub spent_below_room : 1 ≤ l.room_a → l.clear_every ≡ 0 → (run l limit).answer ≡ spent → suc limit ≤ l.room_a
  spent_below_room some_room never e = omega (arith, ((run_reached l limit).ongoing e).count_a never, count_in_room universal some_room)
