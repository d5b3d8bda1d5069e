-- What `run` returns and leaves, cause by cause and after an answer. Assumes nothing.
use Prim.Native.Nat.{ℕ, ◌*◌, ◌≤◌}
use Rattle.std.specs.Prelude.{Err, Ok, Result}
use Rattle.cause.specs.declared.Cause.{Cause}
use Rattle.cause.specs.declared.Cause.TheVariants.{Rows, Work, Limit, Counts}
use Rattle.cause.specs.Cause.{number as number_of_cause, told}
use Rattle.cause.proofs.Numbers.{from_1}
use native.Mathlib.Omega.{arith}
use mathlib.Core.Path.{◌≡◌, refl, sym, ap, ◌∙◌}
use mathlib.Core.Bool.{Bool, true, false, not, cond, true≢false}
use mathlib.Core.List.{List, [], ◌++◌}
use lib.Dec.{eqb}
use lib.IntN.{ℤ}
use lib.ListN.{length, take, drop, replicate, length-map}
use lib.Seq.{take_at}
use borrow.Author.Tests.{eq-eqb, ne_eqb}
use Rattle.formula.specs.Formula.{work_size, Kind, existential, universal, prefix}
use Rattle.rows.specs.Table.{zeroed}
use Rattle.rows.proofs.ZeroedLaws.{drop_zeroed}
use Rattle.formula.specs.Meaning.{meaning, verdict}
use Rattle.rows.specs.Row.{row_of}
use Rattle.rows.specs.Stray.{row_bits}
use Rattle.rows.proofs.RowLaws.{row_of_bytes_of}
use Rattle.rounds.specs.Opening.{opening, opening_length, set_to}
use Rattle.rounds.proofs.Blocks.{block_at_most}
use Rattle.engine.proofs.run.ExtendLaws.{few_unknowns}
use Rattle.formula.specs.Causes.{checked, number as cause_number}
use Rattle.formula.proofs.Accepted.{accepted_sizes}
use Rattle.formula.specs.declared.Formula.{Formula}
use Rattle.engine.specs.declared.run.End.{End}
use Rattle.engine.specs.declared.run.Outcome.{Outcome}
use Rattle.rounds.specs.Run.{Entry, is_false, is_true, spent, no_room_universal, no_room_existential, number, highest, Answer as RunAnswer}
use Rattle.rounds.specs.Claim.{table, Claim}
use Rattle.rounds.specs.Counts.{came, counts}
use Rattle.engine.specs.declared.run.Answer.TheVariants.{False, True}
use Rattle.engine.specs.Outcome.{Areas, areas, Given, given, lent, tables_fit, tables_counted, cause, accepted, reached, named, number_of, reported}
use Rattle.engine.specs.Outcome.{refusal, returned, written, after, left}
use Rattle.engine.specs.Ended.{row_part, mark_part, count_part, count_of, TableRight, Ended}
use Rattle.engine.specs.Private.Growing.{Passes, with_opening, ShowsRun, FirstCause}
use Rattle.engine.specs.Private.Counting.{CountsShow}
use Rattle.engine.proofs.run.ClearingLaws.{rows_if_never, marks_if_never}
use Rattle.engine.proofs.run.TableClaim.{table_right}
use Rattle.engine.proofs.run.OpeningLaws.{opening_read}
use Rattle.engine.proofs.run.ByRounds.{left_by_rounds}
use Rattle.rounds.proofs.Claim.{claim}
use Rattle.rounds.proofs.Highest.{highest_if_never}
use Rattle.rounds.proofs.Verdict.{verdict_right}
use Rattle.rounds.proofs.Opening.{opening_right}
use Rattle.rounds.proofs.CountsLaws.{counts_right}

-- The number is that of the definition's answer.
pub number_named : (a : RunAnswer) → number_of (named a) ≡ number a
number_named is_false = refl
number_named is_true = refl
number_named spent = refl
number_named no_room_universal = refl
number_named no_room_existential = refl

numbered_so : (g : Given) (r : Outcome) → r ≡ returned g → number_of r.answer ≡ cond (accepted g) (number (reached g).answer) (cause g)
unfolding returned
numbered_so g r e = ap (λ (o : Outcome). number_of o.answer) e ∙ by_test (accepted g)
  where
    by_test : (b : Bool) →
        number_of (cond b (reported (prefix g.kinds) (reached g)) (refusal (cause g))).answer ≡ cond b (number (reached g).answer) (cause g)
    by_test true = number_named (reached g).answer
    by_test false = refl

-- A cause that applies.
pub refused_so : (g : Given) (n : ℕ) (r : Outcome) → cause g ≡ n → 1 ≤ n → r ≡ refusal n → Ended g r g.found
unfolding returned left
refused_so g n r e some_cause is =
    let not_0 : accepted g ≡ false = ne_eqb (cause g) 0 (omega arith) in
    let value : r ≡ returned g = is ∙ ap refusal (sym e) ∙ sym (ap (λ (b : Bool). cond b (reported (prefix g.kinds) (reached g)) (refusal (cause g))) not_0)
    in
    record {
      returned_so = value;
      numbered = numbered_so g r value;
      left_so = sym (ap (λ (b : Bool). cond b (after g g.limit) g.found) not_0);
      by_rounds = λ yes_0. absurd (true≢false (sym yes_0 ∙ not_0));
      as_found = λ yes_0. absurd (true≢false (sym yes_0 ∙ not_0));
      only_true = λ h. let z : ◌≡◌ {A = ℕ} 0 1 = cc (sym h ∙ ap (λ (o : Outcome). o.answer) is) in absurd (omega arith);
      only_false = λ h. let z : ◌≡◌ {A = ℕ} 0 1 = cc (sym h ∙ ap (λ (o : Outcome). o.answer) is) in absurd (omega arith);
      claim = λ yes_0. absurd (true≢false (sym yes_0 ∙ not_0));
      opened = λ yes_0. absurd (true≢false (sym yes_0 ∙ not_0));
      opened_bytes = λ yes_0. absurd (true≢false (sym yes_0 ∙ not_0));
      tables = λ yes_0. absurd (true≢false (sym yes_0 ∙ not_0));
      counts_read = λ yes_0. absurd (true≢false (sym yes_0 ∙ not_0));
      counted = λ yes_0. absurd (true≢false (sym yes_0 ∙ not_0));
    }

-- The cause depends neither on the preferences nor on how often the universal table is cleared.
pub same_cause : (kinds : List ℕ) (literals : List ℤ) (preferences : List ℕ) (found : Areas) (limit clear_every : ℕ)
    → cause (given kinds literals [] found limit 0) ≡ cause (given kinds literals preferences found limit clear_every)
unfolding cause
same_cause kinds literals preferences found limit clear_every = refl

-- Where no cause applies the formula passes.
passes_if_none : (g : Given) → cause g ≡ 0 → Passes g.kinds g.literals
unfolding cause checked
passes_if_none g none = go (checked g.kinds g.literals) refl _ none
  where
    go : (c : (Result Formula Cause)) → checked g.kinds g.literals ≡ c → (later : ℕ) → cond (eqb (cause_number c) 0) later (cause_number c) ≡ 0
        → Passes g.kinds g.literals
    go (Ok f) e later z = e ∙ ap Ok (accepted_sizes g.kinds g.literals e)
    go (Err c) e later z =
        let n = number_of_cause c in
        let same : n ≡ 0 = sym (ap (λ (b : Bool). cond b later n) (ne_eqb n 0 (λ none. omega (arith, from_1 c)))) ∙ z in
        absurd (omega (arith, from_1 c))

-- The answers that name a verdict.
named_true : (a : RunAnswer) → named a ≡ True → a ≡ is_true
named_true is_false e = let z : ◌≡◌ {A = ℕ} 0 1 = cc in absurd (omega arith)
named_true is_true e = refl
named_true spent e = let z : ◌≡◌ {A = ℕ} 0 1 = cc in absurd (omega arith)
named_true no_room_universal e = let z : ◌≡◌ {A = ℕ} 0 1 = cc in absurd (omega arith)
named_true no_room_existential e = let z : ◌≡◌ {A = ℕ} 0 1 = cc in absurd (omega arith)

named_false : (a : RunAnswer) → named a ≡ False → a ≡ is_false
named_false is_false e = refl
named_false is_true e = let z : ◌≡◌ {A = ℕ} 0 1 = cc in absurd (omega arith)
named_false spent e = let z : ◌≡◌ {A = ℕ} 0 1 = cc in absurd (omega arith)
named_false no_room_universal e = let z : ◌≡◌ {A = ℕ} 0 1 = cc in absurd (omega arith)
named_false no_room_existential e = let z : ◌≡◌ {A = ℕ} 0 1 = cc in absurd (omega arith)

-- A table that is never cleared has reached over no more places than it has rows.
pub after_if_never : (g : Given) → g.clear_every ≡ 0 → after g g.limit ≡ written (lent g) g.limit g.found
after_if_never g never =
    let same : highest (lent g) g.limit ≡ length (reached g).A = highest_if_never (lent g) g.limit never in
    let on_rows = rows_if_never (reached g).A (highest (lent g) g.limit) g.found.universal_rows same in
    let on_marks = marks_if_never (reached g).A (highest (lent g) g.limit) g.found.universal_marks same in
    let on_counts = drop_zeroed (highest (lent g) g.limit) (length (reached g).A) g.found.universal_counts (omega arith) in
    let all = written (lent g) g.limit g.found in
    λ d.
    areas (on_rows d) (on_marks d) (counts (lent g) universal g.limit ++ on_counts d) all.existential_rows all.existential_marks
    all.existential_counts
    all.work

-- The counts below a table's count.
counts_back : (g : Given) (side : Kind) → take (length (table side (reached g))) (count_part side (after g g.limit)) ≡ counts (lent g) side g.limit
unfolding counts
counts_back g existential =
    take_at (counts (lent g) existential g.limit) _ (length (reached g).S)
    (length-map (reached g).S (λ (x : Entry). came (lent g) existential g.limit x.row))
counts_back g universal =
    take_at (counts (lent g) universal g.limit) _ (length (reached g).A)
    (length-map (reached g).A (λ (x : Entry). came (lent g) universal g.limit x.row))

-- The block is no longer than a row.
opening_few : (kinds : List ℕ) (literals : List ℤ) → Passes kinds literals → (a : RunAnswer) → opening_length a (prefix kinds) ≤ row_bits
opening_few kinds literals passes is_true = omega (arith, block_at_most existential (prefix kinds), few_unknowns kinds literals passes existential)
opening_few kinds literals passes is_false = omega (arith, block_at_most universal (prefix kinds), few_unknowns kinds literals passes universal)
opening_few kinds literals passes spent = omega arith
opening_few kinds literals passes no_room_universal = omega arith
opening_few kinds literals passes no_room_existential = omega arith

-- No cause applies.
pub answered_so : (g : Given) → cause g ≡ 0 → 1 ≤ g.limit → (end : End) (r : Outcome) (AR AM Ac SR SM SC W W' : List ℕ)
    → ShowsRun g end AR AM SR SM W → CountsShow g g.limit Ac SC
    → W' ≡ replicate (length W) 0 → r ≡ with_opening end g.kinds AR SR → Ended g r (areas AR AM Ac SR SM SC W')
unfolding returned left verdict
answered_so g no_cause some_limit end r AR AM Ac SR SM SC W W' shows counted clear is =
    let yes_0 : accepted g ≡ true = eq-eqb (cause g) 0 no_cause in
    let passes = passes_if_none g no_cause in
    let opens = opening_right (lent g) g.limit in
    let told : r ≡ reported (prefix g.kinds) (reached g) =
    is
    ∙ (λ d. with_opening (shows.as_returned d) g.kinds (shows.both.holds_a.in_rows.in_bytes d) (shows.both.holds_s.in_rows.in_bytes d))
    ∙ opening_read g.kinds g.literals passes (zeroed (16 * highest (lent g) g.limit) g.found.universal_rows) g.found.existential_rows
    (reached g) opens.whole in
    let value : r ≡ returned g = told ∙ sym (ap (λ (b : Bool). cond b (reported (prefix g.kinds) (reached g)) (refusal (cause g))) yes_0) in
    let answer_is : r.answer ≡ named (reached g).answer = ap (λ (o : Outcome). o.answer) told in
    let held_a = shows.both.holds_a in
    let held_s = shows.both.holds_s in
    let zero_work : W' ≡ replicate work_size 0 = clear ∙ ap (λ (n : ℕ). replicate n 0) shows.work_long in
    let holds = claim (lent g) g.limit some_limit in
    let block_is : r.block ≡ opening_length (reached g).answer (prefix g.kinds) = ap (λ (o : Outcome). o.block) told in
    let values_are : row_of r.block r.opening ≡ opening (prefix g.kinds) (reached g) =
    ap (λ (o : Outcome). row_of o.block o.opening) told
    ∙ row_of_bytes_of (opening_length (reached g).answer (prefix g.kinds)) (opening (prefix g.kinds) (reached g)) opens.whole
    (opening_few g.kinds g.literals passes (reached g).answer) in
    let left_so : areas AR AM Ac SR SM SC W' ≡ after g g.limit =
    λ d.
    areas (held_a.in_rows.in_bytes d) (held_a.in_marks d) (counted.counts_a d) (held_s.in_rows.in_bytes d) (held_s.in_marks d) (counted.counts_s d)
    (zero_work d) in
    record {
      returned_so = value;
      numbered = numbered_so g r value;
      left_so = left_so ∙ sym (ap (λ (b : Bool). cond b (after g g.limit) g.found) yes_0);
      by_rounds = λ _. left_so ∙ left_by_rounds g passes no_cause g.limit;
      as_found = λ _ never. left_so ∙ after_if_never g never;
      only_true = λ h. (verdict_right (lent g) g.limit).only_true (named_true (reached g).answer (sym answer_is ∙ h));
      only_false = λ h. (verdict_right (lent g) g.limit).only_false (named_false (reached g).answer (sym answer_is ∙ h));
      claim = λ _. holds;
      opened = λ _. opens;
      opened_bytes = λ _. (λ d. meaning (drop (block_is d) (prefix g.kinds)) (set_to (values_are d) (lent g).phi)) ∙ opens.same_verdict;
      tables = λ _. both told passes holds;
      counts_read = λ _. read told;
      counted = λ _. counts_right (lent g) g.limit;
    }
  where
    both : r ≡ reported (prefix g.kinds) (reached g) → Passes g.kinds g.literals → Claim (lent g) g.limit → (side : Kind)
        → TableRight g side (row_part side (areas AR AM Ac SR SM SC W')) (mark_part side (areas AR AM Ac SR SM SC W')) (count_of side r)
    both told passes holds universal =
        table_right g passes holds universal (zeroed (highest (lent g) g.limit) g.found.universal_marks) AR AM r.universal
        shows.both.holds_a.in_rows.in_bytes shows.both.holds_a.in_marks
        (ap (λ (o : Outcome). o.universal) told)
    both told passes holds existential =
        table_right g passes holds existential g.found.existential_marks SR SM r.existential shows.both.holds_s.in_rows.in_bytes
        shows.both.holds_s.in_marks
        (ap (λ (o : Outcome). o.existential) told)

    read : r ≡ reported (prefix g.kinds) (reached g) → (side : Kind)
        → take (count_of side r) (count_part side (areas AR AM Ac SR SM SC W')) ≡ counts (lent g) side g.limit
    read told universal = (λ d. take (told d).universal (counted.counts_a d)) ∙ counts_back g universal
    read told existential = (λ d. take (told d).existential (counted.counts_s d)) ∙ counts_back g existential

-- ---- the first cause

applies : (g : Given) (c : Cause) → number_of_cause c ≡ cause g → FirstCause g (Err c)
applies g c e =
    record {
      first = e;
      ready = λ u is. absurd (let z : ◌≡◌ {A = ℕ} 0 1 = cc in omega arith);
      some_limit = λ u is. absurd (let z : ◌≡◌ {A = ℕ} 0 1 = cc in omega arith);
    }

module _ (kinds : List ℕ) (literals : List ℤ) (A a_marks a_counts S s_marks s_counts work : List ℕ) (limit : ℕ) where
  abbrev g : Given
  g = given kinds literals [] (areas A a_marks a_counts S s_marks s_counts work) limit 0

  abbrev sized : ℕ
  sized = cond (not (eqb (length work) work_size)) 5 (cond (eqb limit 0) 6 0)

  abbrev counted : ℕ
  counted = cond (not (tables_counted A a_counts S s_counts)) 16 sized

  abbrev later : ℕ
  later = cond (not (tables_fit A a_marks S s_marks)) 4 counted

  -- The formula's cause comes first; without one it is a later cause or none.
  formula_cause : (c : Cause) → checked kinds literals ≡ Err c → cause g ≡ number_of_cause c
  unfolding cause
  formula_cause c e =
      ap (λ (r : (Result Formula Cause)). cond (eqb (cause_number r) 0) later (cause_number r)) e
      ∙ ap (λ (b : Bool). cond b later (number_of_cause c)) (ne_eqb (number_of_cause c) 0 (λ none. omega (arith, from_1 c)))

  later_cause : (f : Formula) → checked kinds literals ≡ Ok f → cause g ≡ later
  unfolding cause
  later_cause f e = ap (λ (c : (Result Formula Cause)). cond (eqb (cause_number c) 0) later (cause_number c)) e

  pub formula_refused : (c : Cause) → checked kinds literals ≡ Err c → FirstCause g (Err c)
  formula_refused c e = applies g c (sym (formula_cause c e))

  module _ (f : Formula) (passes : checked kinds literals ≡ Ok f) where
    pub tables_refused : tables_fit A a_marks S s_marks ≡ false → FirstCause g (Err Rows)
    tables_refused e = applies g Rows (sym (later_cause f passes ∙ ap (λ (b : Bool). cond (not b) 4 counted) e))

    module _ (fit : tables_fit A a_marks S s_marks ≡ true) where
      counted_cause : cause g ≡ counted
      counted_cause = later_cause f passes ∙ ap (λ (b : Bool). cond (not b) 4 counted) fit

      pub counts_refused : tables_counted A a_counts S s_counts ≡ false → FirstCause g (Err Counts)
      counts_refused e = applies g Counts (sym (counted_cause ∙ ap (λ (b : Bool). cond (not b) 16 sized) e))

      module _ (one_a_row : tables_counted A a_counts S s_counts ≡ true) where
        sized_cause : cause g ≡ sized
        sized_cause = counted_cause ∙ ap (λ (b : Bool). cond (not b) 16 sized) one_a_row

        pub work_refused : (length work ≡ work_size → ⊥) → FirstCause g (Err Work)
        work_refused differ =
            applies g Work
            (sym (sized_cause ∙ ap (λ (b : Bool). cond (not b) 5 (cond (eqb limit 0) 6 0)) (ne_eqb (length work) work_size differ)))

        module _ (long : length work ≡ work_size) where
          limit_cause : cause g ≡ cond (eqb limit 0) 6 0
          limit_cause = sized_cause ∙ ap (λ (b : Bool). cond (not b) 5 (cond (eqb limit 0) 6 0)) (eq-eqb (length work) work_size long)

          pub limit_refused : limit ≡ 0 → FirstCause g (Err Limit)
          limit_refused e = applies g Limit (sym (limit_cause ∙ ap (λ (b : Bool). cond b 6 0) (eq-eqb limit 0 e)))

          pub none_applies : (limit ≡ 0 → ⊥) → FirstCause g (Ok f.universals)
          none_applies some_limit =
              let sizes_are = accepted_sizes kinds literals passes in
              record {
                first = sym (limit_cause ∙ ap (λ (b : Bool). cond b 6 0) (ne_eqb limit 0 some_limit));
                ready =
                    λ u is.
                    record {
                      passes = passes ∙ ap Ok sizes_are;
                      tables = fit;
                      counts = one_a_row;
                      work_long = long;
                      counted = (let same : f.universals ≡ u = cc in sym same) ∙ ap (λ (s : Formula). s.universals) sizes_are;
                    };
                some_limit = λ _ _. omega arith;
              }
