-- Laws of the causes' numbers. Assumes nothing.
use Rattle.std.specs.Prelude.{ℕ, ◌≡◌, ◌≤◌, Bool, true, false, cond, eqb}
use Rattle.std.specs.Prelude.{Result, Ok, Err}
use mathlib.Core.Path.{refl, ap}
use borrow.Author.Tests.{ne_eqb}
use native.Mathlib.Omega.{arith}
use Rattle.cause.specs.declared.Cause.{Cause}
use Rattle.cause.specs.declared.Cause.TheVariants.{Kinds, Literals, Beyond, Rows, Work, Limit, Count, StrayBit, TooLong, Shape, Range, BoundTwice, Sizes}
use Rattle.cause.specs.declared.Cause.TheVariants.{Output, Counts, Map, Length, Input, GateTwice, Bands, Prices, Studies, Answer, Fee, Settings, Values}
use Rattle.cause.specs.Cause.{number, caused, told, unless_cause}

-- No cause has the number 0.
pub from_1 : (c : Cause) → 1 ≤ number c
from_1 Kinds = omega arith
from_1 Literals = omega arith
from_1 Beyond = omega arith
from_1 Rows = omega arith
from_1 Work = omega arith
from_1 Limit = omega arith
from_1 Count = omega arith
from_1 StrayBit = omega arith
from_1 TooLong = omega arith
from_1 Shape = omega arith
from_1 Range = omega arith
from_1 BoundTwice = omega arith
from_1 Sizes = omega arith
from_1 Output = omega arith
from_1 Counts = omega arith
from_1 Map = omega arith
from_1 Length = omega arith
from_1 Input = omega arith
from_1 GateTwice = omega arith
from_1 Bands = omega arith
from_1 Prices = omega arith
from_1 Studies = omega arith
from_1 Answer = omega arith
from_1 Fee = omega arith
from_1 Settings = omega arith
from_1 Values = omega arith

-- The cause of a cause's number is that cause.
pub caused_number : (c : Cause) → caused (number c) ≡ c
caused_number Kinds = refl
caused_number Literals = refl
caused_number Beyond = refl
caused_number Rows = refl
caused_number Work = refl
caused_number Limit = refl
caused_number Count = refl
caused_number StrayBit = refl
caused_number TooLong = refl
caused_number Shape = refl
caused_number Range = refl
caused_number BoundTwice = refl
caused_number Sizes = refl
caused_number Output = refl
caused_number Counts = refl
caused_number Map = refl
caused_number Length = refl
caused_number Input = refl
caused_number GateTwice = refl
caused_number Bands = refl
caused_number Prices = refl
caused_number Studies = refl
caused_number Answer = refl
caused_number Fee = refl
caused_number Settings = refl
caused_number Values = refl

-- Refused by a cause's number is refused by that cause.
pub unless_number : {A : Type 0} (c : Cause) (answer : A) → unless_cause (number c) answer ≡ Err c
unless_number c answer = rw (ne_eqb (number c) 0 (λ z. omega (arith, from_1 c)), caused_number c)

-- A number that is told as it is: 0, or that of the cause which it names.
abbrev pub Known : ℕ → Type 0
Known n = told {A = ℕ} (unless_cause n 0) ≡ n

pub known_cond : (b : Bool) {n m : ℕ} → Known n → Known m → Known (cond b n m)
known_cond true n m = n
known_cond false n m = m

-- So is what is told.
pub known_told : {A : Type 0} (answer : Result A Cause) → Known (told answer)
known_told (Ok answer) = refl
known_told (Err c) = ap (told {A = ℕ}) (unless_number c 0)

-- What is answered unless a cause applies is told by that cause's number.
pub told_unless : {A : Type 0} (n : ℕ) (answer : A) → Known n → told (unless_cause n answer) ≡ n
told_unless {A} n answer = by (eqb n 0)
  where
    by : (b : Bool) → told {A = ℕ} (cond b (Ok 0) (Err (caused n))) ≡ n → told {A = A} (cond b (Ok answer) (Err (caused n))) ≡ n
    by true known = known
    by false known = known
