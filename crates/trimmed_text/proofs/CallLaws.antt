-- From what `read`, `trim` and `write` promise to what `trim_text` does. Assumes nothing.
use Prim.Native.Nat.{ℕ, ◌+◌, ◌≤◌}
use Rattle.std.specs.Prelude.{Result as Answer, Err, Ok}
use Rattle.cause.specs.declared.Cause.{Cause}
use native.Mathlib.Omega.{arith}
use mathlib.Core.Path.{◌≡◌, refl, sym, ap, subst, ◌∙◌}
use mathlib.Core.List.{List, [], ◌++◌}
use borrow.Author.Tests.{eq-eqb, le-ltb}
use lib.Dec.{leb-zero}
use lib.IntN.{ℤ}
use lib.ListN.{length, take, drop, length-append}
use lib.Seq.{take_at}
use Rattle.formula.specs.Causes.{checked, number}
use Rattle.formula.specs.Formula.{max_unknowns, max_entries}
use Rattle.lines.specs.Lines.{Bytes}
use Rattle.report.specs.Report.{refusal_line, put, put_count}
use Rattle.text.specs.declared.Taken.{Taken}
use Rattle.text.specs.Reading.{max_bytes, max_variables, Reading, Read, Result, taken, refused, ReadSo, text_read}
use Rattle.text.proofs.TextLaws.{refused_line}
use Rattle.text.proofs.FrontLaws.{Front}
use Rattle.trimming.specs.Outcome.{formula_cause, cause, outcome, output_after}
use Rattle.trimming_rules.specs.Trimming.{trimmed}
use Rattle.writing.specs.Writing.{written}
use Rattle.writing.specs.WritingRight.{Writable}
use Rattle.writing.proofs.WritingRight.{read_writable}
use Rattle.writer.specs.Output.{output}
use Rattle.trimmed_text.specs.TrimmedText.{text_of, trimmed_text, said, Delivered}
use Rattle.trimmed_text.proofs.TrimmedTextRight.{left_writable, trimmed_text_right}

-- ---- the names that were read

pub record Names (r : Read) (unknowns : ℕ) (names : List ℕ) : Type 0 where
  pub there : unknowns ≤ length names
  pub front : take unknowns names ≡ r.names

names_of : (r : Read) {outcome : Reading} {K : List ℕ} {L : List ℤ} {N K' : List ℕ} {L' : List ℤ} {N' : List ℕ} {t : Taken}
    → ReadSo (taken r) outcome K L N K' L' N' → outcome ≡ Ok t → Names r t.unknowns N'
names_of r {N = N} {N' = N'} {t = t} so is =
    let many : t.unknowns ≡ length r.names = cc so.returns in
    record {
      there = omega (arith, ap length so.writes_names, length-append r.names (drop (length r.names) N));
      front = ap (take t.unknowns) so.writes_names ∙ take_at r.names (drop (length r.names) N) t.unknowns (sym many);
    }

pub names_read : {result : Result} {outcome : Reading} {K : List ℕ} {L : List ℤ} {N K' : List ℕ} {L' : List ℤ} {N' : List ℕ} {t : Taken} (r : Read) → result ≡ taken r
    → ReadSo result outcome K L N K' L' N' → outcome ≡ Ok t → Names r t.unknowns N'
names_read {outcome = outcome} {K = K} {L = L} {N = N} {K' = K'} {L' = L'} {N' = N'} r same so is =
    names_of r (subst (λ (x : Result). ReadSo x outcome K L N K' L' N') same so) is

-- ---- a text that is taken

module _ (text : Bytes) {u e v c : ℕ} {kinds : List ℕ} {literals : List ℤ} {names : List ℕ} (f : Front (text_read text) u e v c kinds literals) (n : Names f.formula u names) where
  pub front_writable : Writable (take u kinds) (take e literals) (take u names) v
  front_writable = rw (f.kinds_front, f.literals_front, n.front, f.variables_so) (read_writable text f.formula f.whole)

  pub front_text : written (take u kinds) (trimmed (take u kinds) (take e literals)) (take u names) v ≡ trimmed_text text
  unfolding trimmed_text
  front_text = rw (f.kinds_front, f.literals_front, n.front, f.variables_so) (ap text_of (sym f.whole))

-- ---- trimming

module _ (kinds : List ℕ) (literals left : List ℤ) (fine : number (checked kinds literals) ≡ 0) (room : length literals ≤ length left) where
  no_cause : cause kinds literals left ≡ 0
  unfolding cause
  no_cause = rw (eq-eqb (formula_cause kinds literals) 0 fine, le-ltb (length left) (length literals) room) refl

  entries_so : outcome kinds literals left ≡ Ok (length (trimmed kinds literals))
  unfolding outcome
  entries_so = rw (eq-eqb (cause kinds literals left) 0 no_cause) refl

  left_so : output_after kinds literals left ≡ trimmed kinds literals ++ drop (length (trimmed kinds literals)) left
  unfolding output_after
  left_so = rw (eq-eqb (cause kinds literals left) 0 no_cause) refl

  module _ {r : Answer ℕ Cause} {after : List ℤ} (returned : r ≡ outcome kinds literals left) (leaves : after ≡ output_after kinds literals left) where
    pub trimmed_entries : (n : ℕ) → r ≡ Ok n → (n ≤ length after) × (take n after ≡ trimmed kinds literals)
    trimmed_entries n e =
        let many : n ≡ length (trimmed kinds literals) = cc entries_so in
        let whole = leaves ∙ left_so in (
          omega (arith, ap length whole, length-append (trimmed kinds literals) (drop (length (trimmed kinds literals)) left)),
          ap (take n) whole ∙ take_at (trimmed kinds literals) (drop (length (trimmed kinds literals)) left) n (sym many),
        )

    pub never_refused : (c : Cause) → r ≡ Err c → ⊥
    never_refused c e = let z : ◌≡◌ {A = ℕ} 0 1 = cc entries_so in omega arith

-- ---- writing

pub writable_output : (kinds : List ℕ) (literals : List ℤ) (names : List ℕ) (variables : ℕ) → Writable kinds literals names variables
    → output kinds literals names variables ≡ written kinds literals names variables
unfolding output
writable_output kinds literals names variables w = rw (eq-eqb (length names) (length kinds) w.a_name_each, eq-eqb (number (checked kinds literals)) 0 w.accepted) refl

pub nothing_put : (bytes buffer : Bytes) → bytes ≡ [] → (0 ≡ put_count bytes buffer) × (buffer ≡ put bytes buffer)
unfolding put put_count
nothing_put bytes buffer e = (rw (e, leb-zero (length buffer)) refl, rw (e, leb-zero (length buffer)) refl)

pub left_output : (kinds : List ℕ) (literals : List ℤ) (names : List ℕ) (variables : ℕ) {left : List ℤ} → Writable kinds literals names variables → left ≡ trimmed kinds literals
    → output kinds left names variables ≡ written kinds (trimmed kinds literals) names variables
left_output kinds literals names variables w e =
    ap (λ (zs : List ℤ). output kinds zs names variables) e ∙ writable_output kinds (trimmed kinds literals) names variables (left_writable kinds literals names variables w)

-- ---- what is delivered

module _ (text : Bytes) where
  pub line_small : {n line : ℕ} → text_read text ≡ refused n line → line ≤ 2 + max_bytes
  line_small {n} {line} e = refused_line text max_unknowns max_entries max_unknowns n line e

  pub variables_small : {u e v c : ℕ} {kinds : List ℕ} {literals : List ℤ} → Front (text_read text) u e v c kinds literals → v ≤ max_variables
  variables_small f = omega (arith, f.variables_so, (read_writable text f.formula f.whole).few_variables)

  module _ (out lines : Bytes) where
    pub refusal_delivered : {n m line count : ℕ} {after : Bytes} → text_read text ≡ refused n line → m ≡ n → count ≡ put_count (refusal_line m line) lines → after ≡ put (refusal_line m line) lines
        → Delivered text out lines (record { text = 0; lines = count }) out after
    refusal_delivered {n} {line = line} e told counted written =
        let r = (trimmed_text_right text).if_refused n line e in
        let none = nothing_put (trimmed_text text) out r.nothing in
        record {
          text_counted = none.0;
          text_written = none.1;
          lines_counted = counted ∙ ap (λ (k : ℕ). put_count (refusal_line k line) lines) told ∙ ap (λ (bytes : Bytes). put_count bytes lines) (sym r.its_line);
          lines_written = written ∙ ap (λ (k : ℕ). put (refusal_line k line) lines) told ∙ ap (λ (bytes : Bytes). put bytes lines) (sym r.its_line);
        }

    pub text_delivered : {count : ℕ} {after bytes : Bytes} (r : Read) → text_read text ≡ taken r → bytes ≡ trimmed_text text → count ≡ put_count bytes out → after ≡ put bytes out
        → Delivered text out lines (record { text = count; lines = 0 }) after lines
    text_delivered r e same counted written =
        let none = nothing_put (said text) lines ((trimmed_text_right text).if_taken r e).silent in
        record {
          text_counted = counted ∙ ap (λ (b : Bytes). put_count b out) same;
          text_written = written ∙ ap (λ (b : Bytes). put b out) same;
          lines_counted = none.0;
          lines_written = none.1;
        }
