-- The causes' numbers, the cause of a number, and answers that a cause refuses. Assumes nothing.
use Rattle.std.specs.Prelude.{ℕ, Bool, true, false, cond, eqb, Result, Ok, Err}
use Rattle.cause.specs.declared.Cause.{Cause}
use Rattle.cause.specs.declared.Cause.TheVariants.{Kinds, Literals, Beyond, Rows, Work, Limit, Count, StrayBit, TooLong, Shape, Range, BoundTwice, Sizes}
use Rattle.cause.specs.declared.Cause.TheVariants.{Output, Counts, Map, Length, Input, GateTwice, Bands, Prices, Studies, Answer, Fee, Settings, Values}

-- 13 is no cause's.
abbrev pub number : Cause → ℕ
number Kinds = 1
number Literals = 2
number Beyond = 3
number Rows = 4
number Work = 5
number Limit = 6
number Count = 7
number StrayBit = 8
number TooLong = 9
number Shape = 10
number Range = 11
number BoundTwice = 12
number Sizes = 14
number Output = 15
number Counts = 16
number Map = 17
number Length = 18
number Input = 19
number GateTwice = 20
number Bands = 21
number Prices = 22
number Studies = 23
number Answer = 24
number Fee = 25
number Settings = 26
number Values = 27

-- The cause that has a number. It is asked of the causes' numbers alone.
abbrev pub caused : ℕ → Cause
caused n =
    cond (eqb n 1) Kinds
    (cond (eqb n 2) Literals
    (cond (eqb n 3) Beyond
    (cond (eqb n 4) Rows
    (cond (eqb n 5) Work
    (cond (eqb n 6) Limit
    (cond (eqb n 7) Count
    (cond (eqb n 8) StrayBit
    (cond (eqb n 9) TooLong
    (cond (eqb n 10) Shape
    (cond (eqb n 11) Range
    (cond (eqb n 12) BoundTwice
    (cond (eqb n 14) Sizes
    (cond (eqb n 15) Output
    (cond (eqb n 16) Counts
    (cond (eqb n 17) Map
    (cond (eqb n 18) Length
    (cond (eqb n 19) Input
    (cond (eqb n 20) GateTwice
    (cond (eqb n 21) Bands
    (cond (eqb n 22) Prices
    (cond (eqb n 23) Studies
    (cond (eqb n 24) Answer
    (cond (eqb n 25) Fee
    (cond (eqb n 26) Settings Values))))))))))))))))))))))))

-- A refusal where the cause applies.
abbrev pub refused_if : {A : Type 0} → Bool → Cause → Result A Cause → Result A Cause
refused_if true cause otherwise = Err cause
refused_if false cause otherwise = otherwise

-- The number that is told of an answer: 0 where it is one, else the cause's.
abbrev pub told : {A : Type 0} → Result A Cause → ℕ
told (Ok answer) = 0
told (Err cause) = number cause

-- An answer, unless a cause applies, which has this number; 0 is none's.
abbrev pub unless_cause : {A : Type 0} → ℕ → A → Result A Cause
unless_cause n answer = cond (eqb n 0) (Ok answer) (Err (caused n))
