-- A side by a flag, and the other side. Assumes nothing.
use Rattle.std.specs.Prelude.{Bool, true, false}
use Rattle.formula.specs.Formula.{Kind, existential, universal}

-- A side by a flag: true for the universal one.
abbrev pub side_of : Bool → Kind
side_of false = existential
side_of true = universal

-- The side that looks for a model over the other's rows.
abbrev pub other : Kind → Kind
other existential = universal
other universal = existential
