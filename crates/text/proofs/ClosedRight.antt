-- What is read of a text is true exactly if some values of the names bound nowhere make the text's own blocks and clauses true. Assumes nothing.
use Prim.Native.Nat.{ℕ}
use mathlib.Core.Path.{◌≡◌, refl, subst}
use native.Mathlib.Omega.{arith}
use Rattle.formula.specs.Formula.{max_unknowns, max_entries}
use Rattle.lines.specs.Lines.{Bytes}
use Rattle.named.proofs.ClosingRight.{closing_right}
use Rattle.text.specs.Reading.{State, Scan, whole, stopped, closed, Read, taken, result_of, read, text_scan}
use Rattle.text.specs.ClosedRight.{Closed, ClosedRight}
use Rattle.text.proofs.KeptLaws.{Whole}
use Rattle.text.proofs.ScanLaws.{Scans}
use Rattle.text.proofs.TextLaws.{OfText, scan_whole}

state_closed : (text : Bytes) (s : State) (r : Read) → text_scan text ≡ whole s → taken (closed s) ≡ taken r → Closed text r
unfolding closed
state_closed text s r e f =
    let K = (subst (Scans OfText Whole) e (scan_whole text max_unknowns max_entries max_unknowns)).kept in
    let c = closing_right s.free s.kinds s.names s.entries K.as_many K.placeable.different K.placeable.known in
    let g : closed s ≡ r = cc in
    subst (Closed text) g
    (record {
      own = s;
      scanned = e;
      read_so = refl;
      stands = K.stands;
      different = K.placeable.different;
      known = K.placeable.known;
      rising = K.rising;
      only_if = c.only_if;
      for_some = c.for_some;
    })

pub closed_right : (text : Bytes) → ClosedRight text
unfolding read
closed_right text r e = go (text_scan text) refl e
  where
    go : (x : Scan) → text_scan text ≡ x → result_of x ≡ taken r → Closed text r
    go (whole s) f e = state_closed text s r f e
    go (stopped n line) f e = let z : ◌≡◌ {A = ℕ} 0 1 = cc in absurd (omega arith)
