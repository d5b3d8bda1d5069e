-- From what `read_as` and `put_lines` promise to what is printed, and to the area at exit. Assumes nothing.
use Prim.Native.Nat.{ℕ, ◌≤◌, ◌<◌}
use native.Mathlib.Omega.{arith}
use mathlib.Core.Path.{◌≡◌, refl, sym, ap, subst, ◌∙◌}
use mathlib.Core.Bool.{Bool, cond}
use mathlib.Core.List.{List, [], ◌++◌}
use lib.Dec.{leb-zero}
use lib.IntN.{ℤ}
use lib.ListN.{length, take, drop, take-append-drop}
use borrow.Author.Tests.{lt-ltb, le-ltb}
use Rattle.formula.specs.Formula.{work_size}
use Rattle.std.specs.Prelude.{Ok, Err}
use Rattle.text.specs.Reading.{Reading, Result, refused, read_as, ReadSo}
use Rattle.text.specs.Offered.{offered}
use Rattle.text.proofs.OfferedLaws.{too_long_refused, offered_inside, offered_past}
use Rattle.text.proofs.FrontLaws.{read_refused, read_taken}
use Rattle.report.specs.Report.{refusal_line, put, put_count}
use Rattle.answer.specs.Printed.{shown, printed_as}
use Rattle.answer.specs.Within.{printed_in, used, area_after, Puts}
use Rattle.answer.specs.Private.Steps.{ReadUsable, lines_of, work_after}
use Rattle.answer.proofs.AnswerLaws.{refused_printed, line_small, front_passes, variables_small, clauses_small, taken_printed}

-- The same lines and the same area under other names.
pub puts_as : {lines lines' left left' out : List ℕ} {count : ℕ} {out' area' : List ℕ} → lines ≡ lines' → left ≡ left' → Puts lines left out count out' area' → Puts lines' left' out count out' area'
puts_as {out = out} same left_same p =
    record {
      counted = p.counted ∙ ap (λ (l : List ℕ). put_count l out) same;
      written = p.written ∙ ap (λ (l : List ℕ). put l out) same;
      left_so = p.left_so ∙ left_same;
    }

-- What `put_lines` is given, and what it promises, in a case of the reading.
module _ (kinds : List ℕ) (literals : List ℤ) {reading case : Reading} (e : reading ≡ case) where
  pub case_usable : ReadUsable reading kinds literals → ReadUsable case kinds literals
  case_usable = subst (λ (r : Reading). ReadUsable r kinds literals) e

  pub case_puts : (work : List ℕ) {out : List ℕ} {count : ℕ} {out' work' : List ℕ} → Puts (lines_of case kinds literals) (work_after case work) out count out' work'
      → Puts (lines_of reading kinds literals) (work_after reading work) out count out' work'
  case_puts work = puts_as (ap (λ (r : Reading). lines_of r kinds literals) (sym e)) (ap (λ (r : Reading). work_after r work) (sym e))

-- What `read_as` wrote can be used, and its lines are those of the text.
module _ (gates : Bool) (text : List ℕ) {reading : Reading} {K : List ℕ} {L : List ℤ} {N K' : List ℕ} {L' : List ℤ} {N' : List ℕ} (so : ReadSo (read_as gates text) reading K L N K' L' N') where
  pub reading_usable : ReadUsable reading K' L'
  reading_usable = go reading refl
    where
      go : (r : Reading) → reading ≡ r → ReadUsable r K' L'
      go (Err r) e = omega (arith, line_small gates text (read_refused so e))
      go (Ok t) e =
          let f = read_taken so e in
          record {
            kinds_there = f.kinds_there;
            literals_there = f.literals_there;
            accepted = front_passes gates text f;
            variables_fit = omega (arith, variables_small gates text f);
            clauses_fit = omega (arith, clauses_small gates text f);
          }

  pub lines_printed : lines_of reading K' L' ≡ printed_as gates text
  lines_printed = go reading refl
    where
      go : (r : Reading) → reading ≡ r → lines_of r K' L' ≡ printed_as gates text
      go (Err r) e = refused_printed gates text (read_refused so e)
      go (Ok t) e = taken_printed gates text (read_taken so e)

  area_used : (area : List ℕ) → work_after reading (take work_size area) ++ drop work_size area ≡ used (read_as gates text) area
  area_used area = go reading refl
    where
      go : (r : Reading) → reading ≡ r → work_after r (take work_size area) ++ drop work_size area ≡ used (read_as gates text) area
      go (Err r) e = take-append-drop work_size area ∙ ap (λ (t : Result). used t area) (sym (read_refused so e))
      go (Ok t) e = ap (λ (t : Result). used t area) (sym (read_taken so e).whole)

-- An area that is shorter than a work area, and one that is not.
module _ (area : List ℕ) where
  pub short_puts : (lines : List ℕ) (reading : Result) (out : List ℕ) → length area < work_size → Puts (printed_in area lines) (area_after reading area) out 0 out area
  unfolding printed_in area_after put put_count
  short_puts lines reading out short =
      let is_short = lt-ltb (length area) work_size short in
      puts_as
      (sym (ap (λ (b : Bool). cond b [] lines) is_short))
      (sym (ap (λ (b : Bool). cond b area (used reading area)) is_short))
      record {
        counted = sym (ap (λ (b : Bool). cond b 0 0) (leb-zero (length out)));
        written = sym (ap (λ (b : Bool). cond b ([] ++ drop 0 out) out) (leb-zero (length out)));
        left_so = refl;
      }

  -- A text that is longer than the area.
  pub past_puts : (gates : Bool) (asked : ℕ) → work_size ≤ length area → length area < asked
      → {out : List ℕ} {count : ℕ} {out' : List ℕ} → count ≡ put_count (refusal_line 9 0) out → out' ≡ put (refusal_line 9 0) out
      → Puts (printed_in area (printed_as gates (offered area asked))) (area_after (read_as gates (offered area asked)) area) out count out' area
  unfolding printed_in area_after printed_as
  past_puts gates asked room past counted written =
      let wide = le-ltb (length area) work_size room in
      let read_so : read_as gates (offered area asked) ≡ refused 9 0 = ap (λ (t : List ℕ). read_as gates t) (offered_past area asked past) ∙ too_long_refused gates in
      puts_as
      (sym (ap shown read_so) ∙ sym (ap (λ (b : Bool). cond b [] (printed_as gates (offered area asked))) wide))
      (sym (ap (λ (r : Result). used r area) read_so) ∙ sym (ap (λ (b : Bool). cond b area (used (read_as gates (offered area asked)) area)) wide))
      record { counted = counted; written = written; left_so = refl }

  pub within_puts : (gates : Bool) (asked : ℕ) → work_size ≤ length area → asked ≤ length area
      → {reading : Reading} {K : List ℕ} {L : List ℤ} {N K' : List ℕ} {L' : List ℤ} {N' : List ℕ} → ReadSo (read_as gates (take asked area)) reading K L N K' L' N'
      → {out : List ℕ} {count : ℕ} {out' work' : List ℕ} → Puts (lines_of reading K' L') (work_after reading (take work_size area)) out count out' work'
      → Puts (printed_in area (printed_as gates (offered area asked))) (area_after (read_as gates (offered area asked)) area) out count out' (work' ++ drop work_size area)
  unfolding printed_in area_after
  within_puts gates asked room inside so p =
      let wide = le-ltb (length area) work_size room in
      let same = sym (offered_inside area asked inside) in
      puts_as
      (lines_printed gates (take asked area) so ∙ ap (λ (t : List ℕ). printed_as gates t) same
      ∙ sym (ap (λ (b : Bool). cond b [] (printed_as gates (offered area asked))) wide))
      (area_used gates (take asked area) so area ∙ ap (λ (t : List ℕ). used (read_as gates t) area) same
      ∙ sym (ap (λ (b : Bool). cond b area (used (read_as gates (offered area asked)) area)) wide))
      record { counted = p.counted; written = p.written; left_so = ap (λ (w : List ℕ). w ++ drop work_size area) p.left_so }
