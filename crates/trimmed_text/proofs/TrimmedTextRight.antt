-- The trimmed text is read as the trimmed formula, and trimming twice is trimming once. Assumes nothing.
use Prim.Native.Nat.{ℕ, ◌≤◌}
use native.Mathlib.Omega.{arith}
use mathlib.Core.Path.{◌≡◌, refl, sym, ap, subst, ◌∙◌}
use mathlib.Core.List.{List, []}
use lib.IntN.{ℤ}
use lib.ListN.{length}
use Rattle.formula.specs.Formula.{max_unknowns, max_entries}
use Rattle.lines.specs.Lines.{Bytes, lines}
use Rattle.report.specs.Report.{refusal_line}
use Rattle.report.proofs.Lengths.{refusal_most}
use Rattle.text.specs.Reading.{scan, Read, Result, taken, refused, read, text_read}
use Rattle.text.proofs.TextLaws.{Results, Passes, read_passes, refused_line}
use Rattle.trimming_rules.specs.Trimming.{trimmed}
use Rattle.trimming_rules.specs.Proved.{Proved}
use Rattle.trimming_rules.proofs.Carried.{proved}
use Rattle.writing.specs.Writing.{written}
use Rattle.writing.specs.WritingRight.{Writable, again}
use Rattle.writing.proofs.WritingRight.{accepted_so, writing_right, read_writable}
use Rattle.trimmed_text.specs.TrimmedText.{text_of, lines_of, trimmed_text, said}
use Rattle.trimmed_text.specs.TrimmedTextRight.{Trimmed, TrimmedTextRight}

module _ (kinds : List ℕ) (literals : List ℤ) (names : List ℕ) (variables : ℕ) (w : Writable kinds literals names variables) where
  pub holds : Proved kinds literals
  holds = proved kinds literals (accepted_so kinds literals w.accepted)

  -- What is left can be written too.
  pub left_writable : Writable kinds (trimmed kinds literals) names variables
  left_writable =
      record {
        accepted = holds.accepted_again;
        a_name_each = w.a_name_each;
        different = w.different;
        in_range = w.in_range;
        few_variables = w.few_variables;
      }

module _ (text : Bytes) where
  -- A text that is taken.
  module _ (r : Read) (e : text_read text ≡ taken r) where
    w : Writable r.kinds r.literals r.names r.variables
    w = read_writable text r e

    is_written : trimmed_text text ≡ written r.kinds (trimmed r.kinds r.literals) r.names r.variables
    unfolding trimmed_text
    is_written = ap text_of e

    silent : said text ≡ []
    unfolding said
    silent = ap lines_of e

    read_again : text_read (trimmed_text text) ≡ taken (again r.kinds (trimmed r.kinds r.literals) r.names r.variables)
    read_again =
        ap text_read is_written
        ∙ (writing_right r.kinds (trimmed r.kinds r.literals) r.names r.variables).read_again (left_writable r.kinds r.literals r.names r.variables w)

    once : trimmed_text (trimmed_text text) ≡ trimmed_text text
    unfolding trimmed_text
    once =
        ap text_of read_again
        ∙ ap (λ (zs : List ℤ). written r.kinds zs r.names r.variables) (holds r.kinds r.literals r.names r.variables w).twice_is_once
        ∙ sym is_written

    short : length (trimmed_text text) ≤ 58651
    short =
        subst (λ (bytes : Bytes). length bytes ≤ 58651) (sym is_written)
        ((writing_right r.kinds (trimmed r.kinds r.literals) r.names r.variables).short (left_writable r.kinds r.literals r.names r.variables w))

    taken_so : Trimmed text r
    taken_so = record { read_again = read_again; same_verdict = (holds r.kinds r.literals r.names r.variables w).verdict_kept; silent = silent }

  -- A text that is refused.
  module _ (n line : ℕ) (e : text_read text ≡ refused n line) where
    nothing : trimmed_text text ≡ []
    unfolding trimmed_text
    nothing = ap text_of e

    its_line : said text ≡ refusal_line n line
    unfolding said
    its_line = ap lines_of e

    line_most : length (said text) ≤ 32
    line_most =
        let of_text = subst (Results Passes) e (read_passes text max_unknowns max_entries max_unknowns) in
        let small = refused_line text max_unknowns max_entries max_unknowns n line e in
        subst (λ (bytes : Bytes). length bytes ≤ 32) (sym its_line) (refusal_most n line (omega (arith, of_text.to_14)) (omega arith)).most

-- The empty text is refused.
empty_refused : trimmed_text [] ≡ []
unfolding trimmed_text read scan lines
empty_refused = refl

pub trimmed_text_right : (text : Bytes) → TrimmedTextRight text
trimmed_text_right text = go (text_read text) refl
  where
    go : (x : Result) → text_read text ≡ x → TrimmedTextRight text
    go (taken r) e =
        record {
          if_taken = taken_so text;
          if_refused = λ n line f. record { nothing = nothing text n line f; its_line = its_line text n line f };
          twice_is_once = once text r e;
          text_short = short text r e;
          line_short = let empty = ap length (silent text r e) in omega arith;
        }
    go (refused n line) e =
        record {
          if_taken = taken_so text;
          if_refused = λ m k f. record { nothing = nothing text m k f; its_line = its_line text m k f };
          twice_is_once = ap trimmed_text (nothing text n line e) ∙ empty_refused ∙ sym (nothing text n line e);
          text_short = let empty = ap length (nothing text n line e) in omega arith;
          line_short = line_most text n line e;
        }
