-- Adding the records that are left to what has been added gives what adding all of them gives.
use Rattle.std.proofs.Common.{◌≡◌, drop}
use Rattle.season.specs.Private.Tally.{fresh, Room}
use Rattle.season.proofs.Folding.{fold}
use Rattle.season.proofs.summarize.Given as goal

abbrev pub invariant-loop-s : goal.invariant-loop-s
invariant-loop-s l = record {
  same : fold l.t (drop l.s-index l.studies) ≡ fold fresh l.studies;
  room : Room l.t;
}
