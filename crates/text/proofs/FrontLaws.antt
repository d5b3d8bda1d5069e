-- From what `read` promises to what its caller goes on with: the refusal, or the formula at the front of the tables. Assumes nothing.
use Prim.Native.Nat.{ℕ, ◌≤◌}
use native.Mathlib.Omega.{arith}
use mathlib.Core.Path.{◌≡◌, refl, sym, ap, ◌∙◌}
use mathlib.Core.List.{List}
use lib.IntN.{ℤ}
use lib.ListN.{length, take, drop, length-append}
use lib.Seq.{take_at}
use Rattle.std.specs.Prelude.{Ok, Err}
use Rattle.cause.specs.Cause.{number}
use Rattle.text.specs.declared.Taken.{Taken}
use Rattle.text.specs.declared.Refusal.{Refusal}
use Rattle.text.specs.Reading.{Reading, number_of, cause_of, Read, Result, taken, refused, returned, over, ReadSo}

-- The reader returned a refusal.
result_refused : (result : Result) (r : Refusal) → Err r ≡ returned result → number r.cause ≡ cause_of result → result ≡ refused (number r.cause) r.line
result_refused (taken read) r e n = let z : ◌≡◌ {A = ℕ} 0 1 = cc in absurd (omega arith)
result_refused (refused told at) r e n = let line : r.line ≡ at = cc in rw (n, line)

pub read_refused : {result : Result} {outcome : Reading} {K : List ℕ} {L : List ℤ} {N K' : List ℕ} {L' : List ℤ} {N' : List ℕ} {r : Refusal}
    → ReadSo result outcome K L N K' L' N' → outcome ≡ Err r → result ≡ refused (number r.cause) r.line
read_refused {result} {r = r} so e = result_refused result r (sym e ∙ so.returns) (sym (ap number_of e) ∙ so.numbered)

-- The reader took the text: the formula stands at the front of the tables, and V and C are returned.
pub record Front (result : Result) (unknowns entries variables clauses : ℕ) (kinds : List ℕ) (literals : List ℤ) : Type 0 where
  pub formula : Read
  pub whole : result ≡ taken formula
  pub kinds_there : unknowns ≤ length kinds
  pub literals_there : entries ≤ length literals
  pub kinds_front : take unknowns kinds ≡ formula.kinds
  pub literals_front : take entries literals ≡ formula.literals
  pub variables_so : variables ≡ formula.variables
  pub clauses_so : clauses ≡ formula.clauses

over_there : {A : Type 0} (new old table : List A) (n : ℕ) → table ≡ over new old → n ≡ length new → n ≤ length table
over_there new old table n e same = omega (arith, ap length e, length-append new (drop (length new) old))

over_front : {A : Type 0} (new old table : List A) (n : ℕ) → table ≡ over new old → n ≡ length new → take n table ≡ new
over_front new old table n e same = ap (take n) e ∙ take_at new (drop (length new) old) n (sym same)

front_of : (result : Result) {K : List ℕ} {L : List ℤ} {N K' : List ℕ} {L' : List ℤ} {N' : List ℕ} {outcome : Reading} {t : Taken}
    → ReadSo result outcome K L N K' L' N' → outcome ≡ Ok t → Front result t.unknowns t.entries t.variables t.clauses K' L'
front_of (refused n line) so is = let z : ◌≡◌ {A = ℕ} 0 1 = cc so.returns in absurd (omega arith)
front_of (taken r) {K = K} {L = L} {K' = K'} {L' = L'} {t = t} so is =
    let names : t.unknowns ≡ length r.names = cc so.returns in
    let entries : t.entries ≡ length r.literals = cc so.returns in
    let kinds : t.unknowns ≡ length r.kinds = omega (arith, so.fitting.0) in
    record {
      formula = r;
      whole = refl;
      kinds_there = over_there r.kinds K K' t.unknowns so.writes_kinds kinds;
      literals_there = over_there r.literals L L' t.entries so.writes_literals entries;
      kinds_front = over_front r.kinds K K' t.unknowns so.writes_kinds kinds;
      literals_front = over_front r.literals L L' t.entries so.writes_literals entries;
      variables_so = cc so.returns;
      clauses_so = cc so.returns;
    }

pub read_taken : {result : Result} {K : List ℕ} {L : List ℤ} {N K' : List ℕ} {L' : List ℤ} {N' : List ℕ} {outcome : Reading} {t : Taken}
    → ReadSo result outcome K L N K' L' N' → outcome ≡ Ok t → Front result t.unknowns t.entries t.variables t.clauses K' L'
read_taken {result} so is = front_of result so is
