-- A read adds its bytes to those that stand at the buffer's front. Assumes nothing.
use Rattle.std.proofs.Common.{◌≡◌, ℕ, ◌+◌, ◌≤◌, List, ◌++◌, Option, None, Some, length, take, rules, sym, ap, ◌∙◌, subst, take_at, drop_at, length-take-le}
use Rattle.std.proofs.Common.{append_assoc}
use mathlib.Core.Path.{ap₂}
use lib.Seq.{take-add, take-append-le}
use Rattle.std.specs.Io.KnownBytes.{Consumes}
use Rattle.streams.proofs.read_full.Goals as goal

-- known bytes that go one after the other
both_gone : (a b c : Option (List ℕ)) (bs cs : List ℕ) → Consumes a b bs → Consumes b c cs → Consumes a c (bs ++ cs)
both_gone None b c bs cs p q = tt
both_gone (Some x) None c bs cs p q = absurd p
both_gone (Some x) (Some y) None bs cs p q = absurd q
both_gone (Some x) (Some y) (Some z) bs cs p q = p ∙ ap (λ l. bs ++ l) q ∙ sym (append_assoc bs cs z)

-- the front of a buffer, and n bytes more behind its first a
put_behind : (a n : ℕ) (xs ys zs : List ℕ) → a ≤ length xs → n ≤ length ys → take (a + n) (take a xs ++ (ys ++ zs)) ≡ take a xs ++ take n ys
put_behind a n xs ys zs h k =
    let size = length-take-le a xs h in
    take-add a n (take a xs ++ (ys ++ zs))
    ∙ ap₂ ◌++◌ (take_at (take a xs) (ys ++ zs) a size) (ap (take n) (drop_at (take a xs) (ys ++ zs) a size) ∙ take-append-le n ys zs k)

pub loop-done-preserved : goal.loop-done-preserved
loop-done-preserved g c =
    let loop = c.loop-done in
    let joined = put_behind loop.done c.in_ok-n.n loop.buf c.read_once.new.buf _ loop.invariant.1 c.in_ok-n.ensures.bound in
    (search rules, search rules, subst (Consumes _ _) (sym joined) (both_gone _ _ _ _ _ loop.invariant.2 c.in_ok-n.ensures.bytes.0))
