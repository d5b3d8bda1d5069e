-- A new name is inserted and marked. Assumes nothing.
use Rattle.text.proofs.InsertLaws.{placed_new}
use Rattle.text.proofs.names.place.Goals as goal

pub returns : goal.returns
returns c = rw c.if-new.true (placed_new c.args.bound c.args.free c.args.name c.args.names.now c.insert.new.names c.args.places.now (c.requires.1 c.if-new.true) c.requires.3 c.insert.ensures c.requires.2)
