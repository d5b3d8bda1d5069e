-- What is printed for a text, case by case as the code tests it. Assumes nothing.
use Prim.Native.Nat.{ℕ, zero, suc, ◌≤◌, ◌<◌}
use Rattle.std.specs.Prelude.{Ok, Err}
use mathlib.Core.Path.{◌≡◌, refl, ◌∙◌}
use native.Mathlib.Omega.{arith}
use borrow.Author.Tests.{lt-ltb, le-ltb}
use lib.ListN.{length}
use Rattle.lines.specs.Lines.{Bytes, lines}
use Rattle.report.specs.Report.{refusal_line}
use Rattle.season.specs.Season.{max_studies, summary}
use Rattle.season.specs.Text.{records, summary_lines, unless_other, max_bytes, printed}
use Rattle.season.specs.Private.Steps.{checked}
use Rattle.season.proofs.RecordLaws.{records_length, all_checked, other_checked}

unless_some : (k : ℕ) (page : Bytes) → (k ≡ 0 → ⊥) → unless_other k page ≡ refusal_line 10 k
unless_some zero page h = absurd (h refl)
unless_some (suc k) page h = refl

module _ (text : Bytes) where
  pub printed_long : max_bytes < length text → printed text ≡ refusal_line 9 0
  unfolding printed
  printed_long h = rw (lt-ltb max_bytes (length text) h) refl

  module _ (short : length text ≤ max_bytes) where
    pub printed_other : {k : ℕ} → checked (lines text) ≡ Err k → printed text ≡ refusal_line 10 k
    unfolding printed
    printed_other {k} e =
        let other = other_checked (lines text) e in
        rw (le-ltb max_bytes (length text) short, other.0) (unless_some k _ other.1)

    pub printed_page : {n : ℕ} → checked (lines text) ≡ Ok n → printed text ≡ summary_lines (summary (records (lines text)))
    unfolding printed
    printed_page e = rw (le-ltb max_bytes (length text) short, (all_checked (lines text) e).0) refl

    pub printed_many : {n : ℕ} → checked (lines text) ≡ Ok n → max_studies < n → printed text ≡ refusal_line 23 0
    unfolding summary summary_lines
    printed_many {n} e many =
        printed_page e
        ∙ rw (records_length (lines text), lt-ltb max_studies (length (lines text)) (omega (arith, (all_checked (lines text) e).1))) refl
