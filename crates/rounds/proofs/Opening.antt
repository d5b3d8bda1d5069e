-- The opening keeps the verdict, for every run. Assumes nothing.
use Prim.Native.Nat.{ℕ}
use Rattle.rounds.specs.Run.{Lent, run}
use Rattle.rounds.specs.Opening.{Opens}
use Rattle.rounds.proofs.RunLaws.{run_reached}

pub opening_right : (l : Lent) (limit : ℕ) → Opens l (run l limit)
opening_right l limit = (run_reached l limit).opened
