-- `report::append` meets its contract: the part fits, so the buffer is the definition's with the part in it.
-- Assumes nothing.
use mathlib.Core.Path.{◌≡◌, ◌∙◌, ap}
use mathlib.Core.List.{◌++◌}
use Prim.Native.Nat.{◌+◌}
use native.Mathlib.Omega.{arith}
use lib.ListN.{length, take, drop, length-append, length-take}
use lib.Seq.{take_at}
use borrow.Author.Rules.{rules}
use Rattle.buffer.proofs.Laws.{appended_fits, behind_fits}
use Rattle.report.proofs.append.Goals as goal

pub returns : goal.returns
returns c =
    let append_call = c.append in
    let pre = c.requires in
    let given = c.args in
    let out = given.out.now in
    let part = given.part.now in
    let at = given.at in
    let place : append_call.result ≡ at + length part = append_call.ensures.value ∙ behind_fits out at part pre in
    let whole = append_call.ensures.out_after ∙ appended_fits out at part pre in
    let head : length (take at out ++ part) ≡ at + length part = simp (length-append, length-take) (omega (arith, pre)) in record {
      value = place;
      out_after = rw place (whole);
      out_after_2 = rw place (ap (take (at + length part)) whole ∙ take_at (take at out ++ part) (drop (at + length part) out) (at + length part) head);
    }
