-- The causes as the code tests them, and what is put at the start of a buffer. Assumes nothing.
use Prim.Native.Nat.{ℕ, zero, suc, ◌+◌, ◌*◌, ◌%◌, ◌≤◌, ◌<◌}
use Rattle.std.specs.Prelude.{Err, Ok, Result}
use Rattle.cause.specs.declared.Cause.{Cause}
use Rattle.cause.specs.Cause.{number as number_of}
use Rattle.cause.proofs.Numbers.{from_1}
use native.Mathlib.Omega.{arith}
use mathlib.Core.Path.{◌≡◌, refl, sym, ap, ◌∙◌}
use mathlib.Core.Bool.{Bool, true, false, not, cond, ◌||◌, ◌&&◌, and-false, true≢false}
use mathlib.Core.List.{List, [], ◌∷◌}
use borrow.Author.Tests.{eq-eqb, ne_eqb, lt-ltb, le-ltb, leb-true}
use lib.Dec.{eqb, ltb, leb, leb-zero}
use lib.IntN.{ℤ}
use lib.ListN.{length, take, replicate, length-replicate}
use Rattle.formula.specs.Formula.{existential, universal, prefix, work_size, max_rows}
use Rattle.formula.specs.Causes.{checked, number, count}
use Rattle.formula.specs.declared.Formula.{Formula}
use Rattle.formula.proofs.Accepted.{accepted_sizes}
use Rattle.rows.specs.Stray.{stray_rows}
use Rattle.rows.specs.Table.{room, table_fits}
use Rattle.judge.specs.Judge.{width, other_claim}
use Rattle.judge.specs.Judge as Judge
use Rattle.buffer.specs.Buffer.{appended, place_behind}
use Rattle.lines.specs.Lines.{Bytes}
use Rattle.report.specs.Report.{put, put_count}
use Rattle.numerals.proofs.DigitLaws.{and_both}
use Rattle.writer.specs.Private.Steps.{Put}
use Rattle.cnf_text.specs.Output.{cause, part_of}
use Rattle.cnf_text.specs.Private.Walk.{width_of, later_cause, part_bytes}

-- ---- the causes of the claim and the rows

other_above : (claim : ℕ) → 1 < claim → other_claim claim ≡ true
other_above zero h = absurd (omega arith)
other_above (suc zero) h = absurd (omega arith)
other_above (suc (suc claim)) h = refl

either_below : (claim : ℕ) → claim ≤ 1 → other_claim claim ≡ false
either_below zero h = refl
either_below (suc zero) h = refl
either_below (suc (suc claim)) h = absurd (omega arith)

module _ (w claim : ℕ) (rows : List ℕ) where
  pub cause_4 : table_fits rows ≡ false → 4 ≡ later_cause w claim rows
  cause_4 e = rw e refl

  module _ (fits : table_fits rows ≡ true) where
    pub cause_7 : 1 < claim → 7 ≡ later_cause w claim rows
    cause_7 h = rw (fits, other_above claim h) refl

    pub cause_8 : claim ≤ 1 → stray_rows w (room rows) rows ≡ true → 8 ≡ later_cause w claim rows
    cause_8 h e = rw (fits, either_below claim h, e) refl

    pub cause_none : claim ≤ 1 → stray_rows w (room rows) rows ≡ false → 0 ≡ later_cause w claim rows
    cause_none h e = rw (fits, either_below claim h, e) refl

-- ---- the formula's

counts_sum : (kinds : List ℕ) → count existential (prefix kinds) + count universal (prefix kinds) ≡ length kinds
counts_sum [] = refl
counts_sum (zero ∷ kinds) = omega (arith, counts_sum kinds)
counts_sum (suc k ∷ kinds) = omega (arith, counts_sum kinds)

pub few_universals : (kinds : List ℕ) → count universal (prefix kinds) ≤ length kinds
few_universals kinds = omega (arith, counts_sum kinds)

width_is : (kinds : List ℕ) (claim : ℕ) → width_of (length kinds) (count universal (prefix kinds)) claim ≡ width kinds claim
unfolding width
width_is kinds zero = refl
width_is kinds (suc claim) = rw (ne_eqb (suc claim) 0 (λ e. omega arith)) (omega (arith, counts_sum kinds))

or_none : (b : Bool) → b || false ≡ b
or_none true = refl
or_none false = refl

module _ (kinds : List ℕ) (literals : List ℤ) (claim : ℕ) (rows : List ℕ) where
  not_zero : (c : Cause) → eqb (number_of c) 0 ≡ false
  not_zero c = ne_eqb (number_of c) 0 (λ z. omega (arith, from_1 c))

  pub cause_refused : (c : Cause) → checked kinds literals ≡ Err c → number_of c ≡ cause kinds literals claim rows
  unfolding cause Judge.cause
  cause_refused c e = rw (e, not_zero c) refl

  -- The judge's causes behind the formula's, by what they test.
  abbrev by_tests : Bool → Bool → ℕ
  by_tests full no_claim =
      cond (not (table_fits rows)) 4 (cond (not full) 5 (cond no_claim 7 (cond (stray_rows (width kinds claim) (room rows) rows) 8 0)))

  judge_accepted : (f : Formula) (work : List ℕ) → checked kinds literals ≡ Ok f → length work ≡ work_size
      → later_cause (width kinds claim) claim rows ≡ Judge.cause kinds literals claim rows (room rows) work
  unfolding Judge.cause
  judge_accepted f work e long =
      let full : eqb (length work) work_size ≡ true = eq-eqb (length work) work_size long in
      let tested = other_claim claim || ltb (room rows) (room rows) in
      let only : tested ≡ other_claim claim =
      ap (λ (b : Bool). other_claim claim || b) (le-ltb (room rows) (room rows) (omega arith)) ∙ or_none (other_claim claim) in
      sym (ap (λ (b : Bool). by_tests b tested) full ∙ ap (λ (b : Bool). by_tests true b) only)
      ∙ sym (ap (λ (k : (Result Formula Cause)). cond (eqb (number k) 0) (by_tests (eqb (length work) work_size) tested) (number k)) e)

  pub cause_accepted : (f : Formula) → checked kinds literals ≡ Ok f → later_cause (width_of f.unknowns f.universals claim) claim rows ≡ cause kinds literals claim rows
  unfolding cause
  cause_accepted f e =
      ap (λ (g : Formula). later_cause (width_of g.unknowns g.universals claim) claim rows) (accepted_sizes kinds literals e)
      ∙ ap (λ (w : ℕ). later_cause w claim rows) (width_is kinds claim)
      ∙ judge_accepted f (replicate work_size 0) e (length-replicate {A = ℕ} work_size 0)

  module _ (i : ℕ) where
    pub part_refused : (c : Cause) → checked kinds literals ≡ Err c → part_of kinds literals claim rows i ≡ []
    unfolding part_of
    part_refused c e = rw (← cause_refused c e, not_zero c) refl

    pub part_caused : {n : ℕ} (f : Formula) → checked kinds literals ≡ Ok f → n ≡ later_cause (width_of f.unknowns f.universals claim) claim rows → (n ≡ 0 → ⊥)
        → part_of kinds literals claim rows i ≡ []
    unfolding part_of
    part_caused {n} f e g other = rw (← cause_accepted f e, ← g, ne_eqb n 0 other) refl

    pub part_past : room rows ≤ i → part_of kinds literals claim rows i ≡ []
    unfolding part_of
    part_past past = rw (le-ltb i (room rows) past, and-false (eqb (cause kinds literals claim rows) 0)) refl

    pub part_there : {n : ℕ} (f : Formula) → checked kinds literals ≡ Ok f → n ≡ later_cause (width_of f.unknowns f.universals claim) claim rows → n ≡ 0 → i < room rows
        → part_of kinds literals claim rows i ≡ part_bytes kinds literals claim rows i
    unfolding part_of
    part_there {n} f e g none inside = rw (← cause_accepted f e, ← g, eq-eqb n 0 none, lt-ltb i (room rows) inside) refl

-- What holds if there is none of the later causes.
either_is : (claim : ℕ) → other_claim claim ≡ false → claim ≤ 1
either_is zero e = omega arith
either_is (suc zero) e = omega arith
either_is (suc (suc claim)) e = absurd (true≢false e)

few_rows : (rows : List ℕ) → table_fits rows ≡ true → room rows ≤ 256
unfolding table_fits
few_rows rows e =
    let both = and_both (leb 16 (length rows) && leb (length rows) (max_rows * 16)) (eqb (length rows % 16) 0) e in
    let sized = leb-true (length rows) (max_rows * 16) (and_both (leb 16 (length rows)) (leb (length rows) (max_rows * 16)) both.0).1 in
    omega arith

pub claim_is : (w claim : ℕ) (rows : List ℕ) {n : ℕ} → n ≡ later_cause w claim rows → n ≡ 0 → (claim ≤ 1) × (room rows ≤ 256)
claim_is w claim rows {n} e none = go (table_fits rows) (other_claim claim) refl refl (sym e ∙ none)
  where
    go : (b c : Bool) → table_fits rows ≡ b → other_claim claim ≡ c
        → ◌≡◌ {A = ℕ} (cond (not b) 4 (cond c 7 (cond (stray_rows w (room rows) rows) 8 0))) 0 → (claim ≤ 1) × (room rows ≤ 256)
    go false c f g h = absurd (omega arith)
    go true true f g h = absurd (omega arith)
    go true false f g h = (either_is claim g, few_rows rows f)

-- ---- at the start of a buffer

pub put_empty : {bytes : Bytes} (out : Bytes) → bytes ≡ [] → (0 ≡ put_count bytes out) × (out ≡ put bytes out)
unfolding put put_count
put_empty out e = (rw (e, leb-zero (length out)) refl, rw (e, leb-zero (length out)) refl)

pub put_whole : {bytes all : Bytes} (out : Bytes) {end r : ℕ} {text before after : Bytes} → bytes ≡ all → Put all 0 before end text
    → r ≡ place_behind out 0 (take end text) → after ≡ appended out 0 (take end text) → (r ≡ put_count bytes out) × (after ≡ put bytes out)
unfolding put put_count appended place_behind
put_whole {bytes} out {end} {r} {text} {before} {after} e p counted placed =
    let whole : take end text ≡ bytes = p.stands ∙ sym e in
    let from_zero : 0 + length bytes ≡ length bytes = omega arith in
    (counted ∙ rw (whole, from_zero) refl, placed ∙ rw (whole, from_zero) refl)
