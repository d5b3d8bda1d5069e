-- An answer as one number, for callers that take no more: 'the answer number .. or 100 plus the refusal number'.
-- Assumes nothing.
use Rattle.std.specs.Prelude.{ℕ, ◌+◌}
use Rattle.engine.specs.declared.run.Answer.{Answer}
use Rattle.engine.specs.declared.run.Answer.TheVariants.{False, True, Spent, NoRoomUniversal, NoRoomExistential, Refused}

abbrev pub one_number : Answer → ℕ
one_number False = 0
one_number True = 1
one_number Spent = 2
one_number NoRoomUniversal = 3
one_number NoRoomExistential = 4
one_number (Refused cause) = 100 + cause
