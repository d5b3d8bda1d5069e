-- `account::append` meets its contract: the part fits. Assumes nothing.
use mathlib.Core.Path.{◌≡◌, ap, ◌∙◌}
use mathlib.Core.List.{◌++◌}
use Prim.Native.Nat.{◌+◌}
use native.Mathlib.Omega.{arith}
use lib.ListN.{length, take, drop, length-append, length-take}
use lib.Seq.{take_at}
use Rattle.buffer.proofs.Laws.{appended_fits, behind_fits}
use Rattle.account.proofs.append.Goals as goal

pub returns : goal.returns
returns c =
    let text = c.args.text.now in
    let part = c.args.part.now in
    let at = c.args.at in
    let place : c.append.result ≡ at + length part = c.append.ensures.value ∙ behind_fits text at part c.requires in
    let whole = c.append.ensures.out_after ∙ appended_fits text at part c.requires in
    let head : length (take at text ++ part) ≡ at + length part = simp (length-append, length-take) (omega (arith, c.requires)) in record {
      value = place;
      text_after = rw place (ap (take (at + length part)) whole ∙ take_at (take at text ++ part) (drop (at + length part) text) (at + length part) head);
    }
