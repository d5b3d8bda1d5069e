-- The order of the causes in `closed`. Assumes nothing.
use Prim.Native.Nat.{ℕ, ◌<◌, ◌≤◌}
use Rattle.std.specs.Prelude.{Err, Result}
use Rattle.cause.specs.declared.Cause.{Cause}
use Rattle.cause.specs.declared.Cause.TheVariants.{Studies}
use Rattle.cause.specs.Cause.{refused_if}
use Rattle.season.specs.declared.Sheet.{Sheet}
use mathlib.Core.Path.{◌≡◌}
use mathlib.Core.Bool.{Bool, true, false}
use lib.Dec.{ltb}
use borrow.Author.Tests.{lt-ltb, le-ltb}
use Rattle.season.specs.Season.{max_studies}

pub first_cause : (n : ℕ) (x : Result Sheet Cause) → max_studies < n → Err Studies ≡ refused_if (ltb max_studies n) Studies x
first_cause n x h = rw (lt-ltb max_studies n h)

pub later : (n : ℕ) (x y : Result Sheet Cause) → n ≤ max_studies → x ≡ y → x ≡ refused_if (ltb max_studies n) Studies y
later n x y h e = rw (le-ltb max_studies n h) e

pub here : (b : Bool) (k : Cause) (x : Result Sheet Cause) → b ≡ true → Err k ≡ refused_if b k x
here b k x e = rw e

pub next : (b : Bool) (k : Cause) (x y : Result Sheet Cause) → b ≡ false → x ≡ y → x ≡ refused_if b k y
next b k x y e f = rw e f
