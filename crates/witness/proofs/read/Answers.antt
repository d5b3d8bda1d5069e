-- `witness::read` meets its contract. Assumes nothing.
use mathlib.Core.Path.{ap, ◌∙◌}
use Rattle.witness.specs.File.{reading_number}
use Rattle.witness.proofs.RoundTrip.{round_trip}
use Rattle.witness.proofs.NumberLaws.{reading_numbered}
use borrow.Author.Rules.{rules}
use Rattle.witness.proofs.read.Goals as goal

pub returns-in_err-file_cause-clause-value : goal.returns-in_err-file_cause-clause-value
returns-in_err-file_cause-clause-value c = search rules

pub returns-in_err-file_cause-clause-numbered : goal.returns-in_err-file_cause-clause-numbered
returns-in_err-file_cause-clause-numbered c = ap reading_number (returns-in_err-file_cause-clause-value c) ∙ reading_numbered c.args.file.now

pub returns-in_err-file_cause-clause-round_trip : goal.returns-in_err-file_cause-clause-round_trip
returns-in_err-file_cause-clause-round_trip c = round_trip

pub returns-clause-round_trip : goal.returns-clause-round_trip
returns-clause-round_trip c = round_trip
