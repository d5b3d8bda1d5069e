-- From the lines of a text to what is returned and written. Assumes nothing.
use Prim.Native.Nat.{ℕ, zero, suc, ◌+◌}
use mathlib.Core.Path.{◌≡◌, refl, sym, ap, subst, ◌∙◌}
use mathlib.Core.Bool.{Bool, true, false}
use mathlib.Core.List.{List, map}
use native.Mathlib.Omega.{arith}
use lib.IntN.{ℤ}
use lib.ListN.{length, take}
use lib.Seq.{length-take-le}
use Rattle.lines.specs.Lines.{Bytes, lines}
use Rattle.formula.specs.Formula.{max_unknowns, max_entries}
use Rattle.named.specs.Named.{placed}
use Rattle.named.specs.Closing.{closed_kinds}
use Rattle.named.proofs.CauseLaws.{length_map, as_many_closed}
use Rattle.text.specs.declared.body.Counts.{Counts}
use Rattle.std.specs.Prelude.{Ok, Err}
use Rattle.cause.specs.declared.Cause.{Cause}
use Rattle.cause.specs.Cause.{number}
use Rattle.cause.proofs.Numbers.{caused_number}
use Rattle.text.specs.Reading.{Scan, whole, stopped, closed, taken, result_of, scan, ReadSo}
use Rattle.text.specs.Private.Steps.{free_in, placed_in, outcome, settled, held, Sized, Placeable}
use Rattle.text_closing.specs.Written.{Written}
use Rattle.text_closing.proofs.ClosingLaws.{closed_so}
use Rattle.text.proofs.InsertLaws.{length_placed}
use Rattle.text.proofs.KeptLaws.{Whole}
use Rattle.text.proofs.ScanLaws.{Scans}
use Rattle.text.proofs.TextLaws.{OfText, scan_whole}
use Rattle.text.proofs.GatesRight.{Any, AllEnded, scan_ended}

-- A refusal leaves the tables.
pub refused_whole : {x : Scan} {cause : Cause} {line : ℕ} {K : List ℕ} {L : List ℤ} {N : List ℕ} → x ≡ stopped (number cause) line
    → ReadSo (result_of x) (Err (record { cause = cause; line = line })) K L N K L N
refused_whole {cause = cause} {line = line} e = rw e
    (record {
      returns = ap (λ (c : Cause). Err (record { cause = c; line = line })) (sym (caused_number cause));
      numbered = refl;
      writes_kinds = refl;
      writes_literals = refl;
      writes_names = refl;
      fitting = tt;
    })

pub outcome_refused : (c : Counts) (K N : List ℕ) (L : List ℤ) → (c.cause ≡ 0 → ⊥) → outcome c K N L ≡ stopped c.cause c.line
unfolding outcome
outcome_refused c K N L h = go c.cause h
  where
    go : (k : ℕ) → (k ≡ 0 → ⊥) → settled k c.line (held c K N L) ≡ stopped k c.line
    go zero h = absurd (h refl)
    go (suc k) h = refl

pub outcome_taken : (c : Counts) (K N : List ℕ) (L : List ℤ) → c.cause ≡ 0 → outcome c K N L ≡ whole (held c K N L)
unfolding outcome
outcome_taken c K N L h = rw h refl

-- The names of a text whose lines are all read have positions.
pub scan_placeable : (gates : Bool) (text : Bytes) (kinds literals names : ℕ) (c : Counts) (K N : List ℕ) (L : List ℤ) →
    scan gates text kinds literals names ≡ whole (held c K N L)
    → Placeable (placed_in c.bound c.free N) (take c.entries L)
unfolding held
scan_placeable false text kinds literals names c K N L e = (subst (Scans OfText Whole) e (scan_whole text kinds literals names)).kept.placeable
scan_placeable true text kinds literals names c K N L e = (subst (Scans Any (AllEnded (lines text))) e (scan_ended text kinds literals names)).placeable

-- What is taken is written over the front of the tables.
module _ (c : Counts) (OK ON : List ℕ) (OL : List ℤ) (sized : Sized c OK ON OL) where
  abbrev names : List ℕ
  names = placed_in c.bound c.free ON

  length_names : length names ≡ c.free + c.bound
  length_names = length_placed c.bound c.free ON (omega (arith, sized.names, sized.unknowns)) ∙ omega arith

  length_literals : length (map (placed names) (take c.entries OL)) ≡ c.entries
  length_literals = length_map (placed names) (take c.entries OL) ∙ length-take-le c.entries OL (omega (arith, sized.literals, sized.entries))

  length_kinds : length (closed_kinds (free_in c.bound c.free ON) (take c.bound OK)) ≡ length names
  length_kinds =
      as_many_closed (free_in c.bound c.free ON) (take c.bound OK) (take c.bound ON)
      (length-take-le c.bound OK (omega (arith, sized.kinds, sized.unknowns)) ∙ sym (length-take-le c.bound ON (omega (arith, sized.names, sized.unknowns))))

  pub taken_whole : (K : List ℕ) (L : List ℤ) (N : List ℕ) {K' : List ℕ} {L' : List ℤ} {N' : List ℕ}
      → (length K ≡ max_unknowns) × (length L ≡ max_entries) × (length N ≡ max_unknowns) → Placeable names (take c.entries OL)
      → Written c.bound c.free c.entries OK OL ON K L N K' L' N'
      → ReadSo (taken (closed (held c OK ON OL)))
      (Ok (record { unknowns = c.free + c.bound; entries = c.entries; variables = c.variables; clauses = c.clauses })) K L N K' L' N'
  unfolding held closed
  taken_whole K L N lent placeable w =
      let over = closed_so c.bound c.free c.entries OK OL ON K L N
      (record { unknowns = sized.unknowns; entries = sized.entries; read = (sized.kinds, sized.literals, sized.names); lent = lent }) placeable.small w in
      record {
        returns = rw (length_names, length_literals) refl;
        numbered = refl;
        writes_kinds = over.kinds;
        writes_literals = over.literals;
        writes_names = over.names;
        fitting = (length_kinds, omega (arith, length_names, sized.unknowns), omega (arith, length_literals, sized.entries));
      }
