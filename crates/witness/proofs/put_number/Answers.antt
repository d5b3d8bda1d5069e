-- `witness::put_number` meets its contract. Assumes nothing.
use Prim.Native.Nat.{ℕ, ◌+◌, ◌%◌, ◌≤◌}
use mathlib.Core.Path.{◌≡◌, ap, ◌∙◌, subst}
use mathlib.Core.Bool.{Bool}
use mathlib.Core.List.{List, [], ◌∷◌}
use native.Mathlib.Omega.{arith}
use lib.ListN.{length}
use Rattle.buffer.specs.Buffer.{appended, place_behind}
use Rattle.witness.specs.File.{if_stands, two_bytes}
use Rattle.witness.proofs.PutLaws.{put_there, put_appended}
use Rattle.witness.proofs.put_number.Goals as goal

pub returns-then-there : goal.returns-then-there
returns-then-there c =
    let given = c.args in
    let room = subst (λ (t : Bool). given.at + if_stands t 2 ≤ length given.out.now) c.if-there.true c.requires in
    let bytes : c.to_le_bytes.result ≡ two_bytes given.number =
    c.to_le_bytes.ensures ∙ ap (λ (k : ℕ). given.number % 256 ∷ k ∷ []) (omega (arith, c.ranges.number.fits)) in
    put_there given.there c.if-there.true
    (put_appended given.out.now c.append.new.out given.at c.append.result (two_bytes given.number) room
    (c.append.ensures.value ∙ ap (λ (l : List ℕ). place_behind given.out.now given.at l) bytes)
    (c.append.ensures.out_after ∙ ap (λ (l : List ℕ). appended given.out.now given.at l) bytes))
