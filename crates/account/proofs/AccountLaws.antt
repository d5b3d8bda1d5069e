-- From what the reader, the run and the writers promise to what is told. Assumes nothing.
use Prim.Native.Nat.{ℕ, ◌+◌, ◌-◌, ◌*◌, ◌≤◌}
use Rattle.std.specs.Prelude.{Result as Answered, Err, Ok}
use Rattle.cause.specs.declared.Cause.{Cause}
use native.Mathlib.Nat.{zero-add}
use native.Mathlib.Omega.{arith}
use mathlib.Core.Path.{◌≡◌, refl, sym, ap, ap₂, subst, ◌∙◌}
use mathlib.Core.Bool.{Bool, true, cond, not}
use mathlib.Core.List.{List, [], ◌∷◌, ◌++◌}
use lib.Dec.{eqb, leb}
use lib.IntN.{ℤ}
use lib.ListN.{length, take, drop, replicate, length-replicate, length-take, length-map, length-append}
use lib.Seq.{take_all, take_at, length-take-le}
use Rattle.formula.specs.Formula.{work_size, max_unknowns, max_rows, Kind, kind_of, universal, existential, prefix}
use Rattle.formula.specs.Causes.{count, checked, sizes}
use Rattle.formula.specs.declared.Formula.{Formula}
use Rattle.formula.proofs.Accepted.{accepted, accepted_sizes}
use Rattle.rows.specs.Stray.{row_bits}
use Rattle.rows.specs.Row.{row_of, bytes_of}
use Rattle.rows.specs.Table.{row_at, rows_of}
use Rattle.rows.proofs.RowLaws.{length_bytes_of, row_of_bytes_of}
use Rattle.rows.proofs.TableLaws.{row_at_inside, length_rows_of}
use Rattle.rounds.specs.Run.{Answer, is_false, is_true, spent, no_room_universal, no_room_existential, Outcome}
use Rattle.rounds.specs.Opening.{block, opening, opening_length}
use Rattle.rounds.proofs.Bounds.{count_in_room}
use Rattle.rounds.proofs.Opening.{opening_right}
use Rattle.engine.specs.declared.run.Outcome.{Outcome as Returned}
use Rattle.engine.specs.Outcome.{areas, Given, accepted as passed, cause, number_of, reported}
use Rattle.engine.specs.Ended.{Ended}
use Rattle.engine.proofs.run.OutcomeLaws.{number_named}
use Rattle.text.specs.Reading.{Reading, Read, Result, taken, refused, ReadSo}
use Rattle.text.specs.declared.Taken.{Taken}
use Rattle.text.proofs.FrontLaws.{Front}
use Rattle.buffer.specs.Buffer.{appended, place_behind}
use Rattle.report.specs.Report.{ascii, decimal, result_lines, refusal_line, put, put_count}
use Rattle.decision.specs.Decision.{handed_on, own_lent}
use Rattle.decision.proofs.DecisionLaws.{cause_so, returned_so}
use Rattle.answer.specs.Printed.{round_limit, settled}
use Rattle.account.specs.Account.{each, prefix_line, value_line, row_lines, head_lines, lines, facts, shown, Delivered}
use Rattle.account.specs.Private.Steps.{joined, Accepts, told, Tables}
use Rattle.account.proofs.ListLaws.{length_joined, joined_back}
use Rattle.account.proofs.RoomLaws.{longest, refusal_most, result_most, Fronted, fronted}

-- Bytes put at the start of a buffer.
pub delivered_so : (bytes part out : List ℕ) {r : ℕ} {out_then : List ℕ} → part ≡ bytes → r ≡ place_behind out 0 part → out_then ≡ appended out 0 part
    → length bytes ≤ 106496 → Delivered bytes out r out_then
unfolding put put_count place_behind appended
delivered_so bytes part out same counted written short =
    let n : 0 + length bytes ≡ length bytes = zero-add (length bytes) in
    record {
      counted = counted ∙ ap (place_behind out 0) same ∙ ap (λ (k : ℕ). cond (leb k (length out)) k 0) n;
      written = written ∙ ap (appended out 0) same ∙ ap (λ (k : ℕ). cond (leb k (length out)) (bytes ++ drop k out) out) n;
      short = short;
    }

-- The first r bytes of a table.
pub delivered_short : {bytes out_then : List ℕ} {n : ℕ} (r : ℕ) (text out : List ℕ) → take r text ≡ bytes → n ≡ place_behind out 0 (take r text)
    → out_then ≡ appended out 0 (take r text) → r ≤ longest → Delivered bytes out n out_then
delivered_short {bytes} r text out same counted written few =
    delivered_so bytes (take r text) out same counted written (subst (λ (l : List ℕ). length l ≤ longest) same (omega (arith, few, length-take r text)))

pub delivered_as : {bytes told out : List ℕ} {r : ℕ} {out_then : List ℕ} → bytes ≡ told → Delivered bytes out r out_then → Delivered told out r out_then
delivered_as {out = out} {r = r} {out_then = out_then} same d = subst (λ (l : List ℕ). Delivered l out r out_then) same d

-- The unknowns of both kinds are all.
count_both : (ks : List Kind) → count universal ks + count existential ks ≡ length ks
count_both [] = refl
count_both (existential ∷ ks) = let r : count universal ks + count existential ks ≡ length ks = count_both ks in omega arith
count_both (universal ∷ ks) = let r : count universal ks + count existential ks ≡ length ks = count_both ks in omega arith

-- The first block is a part of the prefix.
block_within : (side : Kind) (ks : List Kind) → block side ks ≤ length ks
block_within existential [] = omega arith
block_within existential (existential ∷ ks) = let r = block_within existential ks in omega arith
block_within existential (universal ∷ ks) = omega arith
block_within universal [] = omega arith
block_within universal (existential ∷ ks) = omega arith
block_within universal (universal ∷ ks) = let r = block_within universal ks in omega arith

opening_within : (a : Answer) (ks : List Kind) → opening_length a ks ≤ length ks
opening_within is_true ks = block_within existential ks
opening_within is_false ks = block_within universal ks
opening_within spent ks = omega arith
opening_within no_room_universal ks = omega arith
opening_within no_room_existential ks = omega arith

-- The row that holds some values holds them.
row_back : (values : List Bool) (m : ℕ) → length values ≡ m → m ≤ row_bits → row_of m (row_at (bytes_of values) 0) ≡ values
row_back values m wide few =
    let width = length_bytes_of values in
    ap (row_of m) (row_at_inside (bytes_of values) 0 (omega arith) ∙ take_all 16 (bytes_of values) (omega arith)) ∙ row_of_bytes_of m values wide few

-- As many rows are read as are counted.
told_many : (m n : ℕ) (t marks : List ℕ) → n ≤ length marks → length (joined (rows_of m n t) (take n marks)) ≡ n
told_many m n t marks there =
    length_joined (rows_of m n t) (take n marks) (length_rows_of m n t ∙ sym (length-take-le n marks there)) ∙ length_rows_of m n t

-- All lines, where the front's and each side's stand one behind the other.
pub lines_written : (kinds names : List ℕ) (universals variables clauses : ℕ) (end : Returned) (A a_marks a_counts S s_marks s_counts : List ℕ)
    → end.universal ≤ length a_marks → end.existential ≤ length s_marks → {front half whole : List ℕ}
    → front
    ≡ head_lines (number_of end.answer) variables clauses end.round end.universal end.existential
    ++ each prefix_line kinds names
    ++ each value_line (row_of end.block (row_at end.opening 0)) names
    → half
    ≡ front
    ++ row_lines (ascii "universal ") (joined (rows_of universals (length (take end.universal a_marks)) A) (take end.universal a_marks)) (take end.universal a_counts)
    → whole
    ≡ half
    ++ row_lines (ascii "existential ") (joined (rows_of (length kinds - universals) (length (take end.existential s_marks)) S) (take end.existential s_marks)) (take end.existential s_counts)
    → whole ≡ lines (told kinds names universals variables clauses end A a_marks a_counts S s_marks s_counts)
unfolding lines
lines_written kinds names universals variables clauses end A a_marks a_counts S s_marks s_counts a s front_so half_so whole_so =
    let universal_rows : ℕ → List ℕ = λ (n : ℕ). row_lines (ascii "universal ") (joined (rows_of universals n A) (take end.universal a_marks)) (take end.universal a_counts) in
    let existential_rows : ℕ → List ℕ = λ (n : ℕ). row_lines (ascii "existential ") (joined (rows_of (length kinds - universals) n S) (take end.existential s_marks)) (take end.existential s_counts) in
    let head : ℕ → ℕ → List ℕ = λ (u e : ℕ).
    head_lines (number_of end.answer) variables clauses end.round u e ++ each prefix_line kinds names ++ each value_line (row_of end.block (row_at end.opening 0)) names in
    whole_so
    ∙ ap₂ (λ (l : List ℕ) (n : ℕ). l ++ existential_rows n)
    (half_so ∙ ap₂ (λ (l : List ℕ) (n : ℕ). l ++ universal_rows n)
    (front_so ∙ ap₂ head (sym (told_many universals end.universal A a_marks a)) (sym (told_many (length kinds - universals) end.existential S s_marks s)))
    (length-take-le end.universal a_marks a))
    (length-take-le end.existential s_marks s)

-- What a run over tables of its own returned and left.
module _ (kinds : List ℕ) (literals : List ℤ) (names : List ℕ) (universals : ℕ) (asks : Accepts kinds literals names) (counted : universals ≡ count universal (prefix kinds)) where
  abbrev g : Given
  g = handed_on kinds literals (replicate work_size 0) round_limit

  abbrev o : Outcome
  o = settled kinds literals

  whole : eqb (length (replicate {A = ℕ} work_size 0)) work_size ≡ true
  whole = ap (λ (n : ℕ). eqb n work_size) (length-replicate {A = ℕ} work_size 0)

  passes : passed g ≡ true
  passes =
      let none : cause g ≡ 0 = cause_so kinds literals (replicate work_size 0) round_limit asks.passes ∙ ap (λ (b : Bool). cond (not b) 5 (cond (eqb round_limit 0) 6 0)) whole in
      ap (λ (n : ℕ). eqb n 0) none

  few : length kinds ≤ max_unknowns
  few = (accepted kinds literals asks.passes).few_unknowns

  module _ {r : Returned} {A a_marks a_counts S s_marks s_counts work : List ℕ} (e : Ended g r (areas A a_marks a_counts S s_marks s_counts work)) where
    reported_so : r ≡ reported (prefix kinds) o
    reported_so = e.returned_so ∙ returned_so kinds literals (replicate work_size 0) round_limit asks.passes whole refl

    block_few : r.block ≤ length kinds
    block_few =
        subst (λ (x : Returned). x.block ≤ length kinds) (sym reported_so) (omega (arith, opening_within o.answer (prefix kinds), length-map kinds kind_of))

    opening_so : row_of r.block (row_at r.opening 0) ≡ opening (prefix kinds) o
    opening_so =
        ap (λ (x : Returned). row_of x.block (row_at x.opening 0)) reported_so
        ∙ row_back (opening (prefix kinds) o) (opening_length o.answer (prefix kinds)) (opening_right (own_lent kinds literals) round_limit).whole
        (omega (arith, few, opening_within o.answer (prefix kinds), length-map kinds kind_of))

    existentials : length kinds - universals ≡ count existential (prefix kinds)
    existentials = omega (arith, counted, count_both (prefix kinds), length-map kinds kind_of)

    a_so : joined (rows_of universals r.universal A) (take r.universal a_marks) ≡ o.A
    a_so =
        ap₂ joined (ap (λ (m : ℕ). rows_of m r.universal A) (counted) ∙ (e.tables passes universal).rows_read) (e.tables passes universal).marks_read
        ∙ joined_back o.A

    s_so : joined (rows_of (length kinds - universals) r.existential S) (take r.existential s_marks) ≡ o.S
    s_so =
        ap₂ joined (ap (λ (m : ℕ). rows_of m r.existential S) existentials ∙ (e.tables passes existential).rows_read) (e.tables passes existential).marks_read
        ∙ joined_back o.S

    pub told_so : (variables clauses : ℕ) → told kinds names universals variables clauses r A a_marks a_counts S s_marks s_counts ≡ facts kinds literals names variables clauses
    told_so variables clauses =
        let answer_so = ap (λ (x : Returned). number_of x.answer) reported_so ∙ number_named o.answer in
        let round_so = ap (λ (x : Returned). x.round) reported_so in
        λ d.
        record {
          answer = answer_so d;
          variables = variables;
          clauses = clauses;
          round = round_so d;
          kinds = kinds;
          names = names;
          opening = opening_so d;
          A = a_so d;
          a_counts = e.counts_read passes universal d;
          S = s_so d;
          s_counts = e.counts_read passes existential d;
        }

    pub tables_so : length A ≡ 16 * max_rows → length a_marks ≡ max_rows → length a_counts ≡ max_rows → length S ≡ 16 * max_rows → length s_marks ≡ max_rows → length s_counts ≡ max_rows
        → Tables kinds names universals r A a_marks a_counts S s_marks s_counts
    tables_so a b c d f h =
        let l = own_lent kinds literals in
        record {
          as_many = asks.as_many;
          few = few;
          fewer = omega (arith, counted, count_both (prefix kinds), length-map kinds kind_of);
          first = block_few;
          few_a = subst (λ (x : Returned). x.universal ≤ max_rows) (sym reported_so) (count_in_room l round_limit universal (omega arith));
          few_s = subst (λ (x : Returned). x.existential ≤ max_rows) (sym reported_so) (count_in_room l round_limit existential (omega arith));
          rows_a = a;
          marks_a = b;
          counts_a = c;
          rows_s = d;
          marks_s = f;
          counts_s = h;
        }

-- A refusal.
pub refusal_delivered : {result : Result} {n m line : ℕ} (out : List ℕ) {r : ℕ} {out_then : List ℕ} → result ≡ refused n line → m ≡ n
    → r ≡ put_count (refusal_line m line) out → out_then ≡ put (refusal_line m line) out → Delivered (shown result) out r out_then
refusal_delivered {m = m} {line = line} out e told counted written =
    delivered_as (ap (λ (k : ℕ). refusal_line k line) told ∙ ap shown (sym e))
    (record { counted = counted; written = written; short = omega (arith, (refusal_most m line).most) })

-- 01's two lines at the start of a text, and the answer's number behind them.
module _ (answer variables clauses rounds A S : ℕ) (text : List ℕ) {two : ℕ} {text₁ : List ℕ} (counted : two ≡ put_count (result_lines answer variables clauses rounds A S) text)
    (written : text₁ ≡ put (result_lines answer variables clauses rounds A S) text) (room : 192 ≤ length text) where
  whole_front : Fronted (result_lines answer variables clauses rounds A S) two text₁
  whole_front = fronted (result_lines answer variables clauses rounds A S) text counted written (omega (arith, room, (result_most answer variables clauses rounds A S).most))

  pub two_few : two ≤ 145
  two_few = omega (arith, whole_front.many, (result_most answer variables clauses rounds A S).most)

  pub head_so : {front whole : List ℕ} → front ≡ take two text₁ ++ ascii "c answer " ++ decimal answer → whole ≡ front ++ ascii "\n" → whole ≡ head_lines answer variables clauses rounds A S
  unfolding head_lines
  head_so front_so whole_so =
      whole_so ∙ ap (λ (l : List ℕ). l ++ ascii "\n") front_so ∙ ap (λ (l : List ℕ). l ++ ascii "c answer " ++ decimal answer ++ ascii "\n") whole_front.front

-- The universal unknowns of a formula that `check` accepts.
pub universals_so : (kinds : List ℕ) (literals : List ℤ) {f : Formula} → checked kinds literals ≡ Ok f → f.universals ≡ count universal (prefix kinds)
universals_so kinds literals e = ap (λ (x : Formula). x.universals) (accepted_sizes kinds literals e)

pub never_refused : {x : Answered Formula Cause} {f : Formula} {c : Cause} → x ≡ Ok f → x ≡ Err c → ⊥
never_refused a b = let z : ◌≡◌ {A = ℕ} 0 1 = cc (a, b) in omega arith

-- The names at the front of their table, where the text was taken: one for each kind.
pub record Named (result : Result) (unknowns : ℕ) (kinds names : List ℕ) (r : Read) : Type 0 where
  pub there : unknowns ≤ length names
  pub front : take unknowns names ≡ r.names
  pub as_many : length (take unknowns names) ≡ length (take unknowns kinds)

pub names_so : (result : Result) {K : List ℕ} {L : List ℤ} {N K' : List ℕ} {L' : List ℤ} {N' : List ℕ} {outcome : Reading} {t : Taken}
    → ReadSo result outcome K L N K' L' N' → outcome ≡ Ok t → (f : Front result t.unknowns t.entries t.variables t.clauses K' L')
    → Named result t.unknowns K' N' f.formula
names_so (refused n line) so is f = let z : ◌≡◌ {A = ℕ} 0 1 = cc f.whole in absurd (omega arith)
names_so (taken q) {N = N} {K' = K'} {N' = N'} {t = t} so is f =
    let many : t.unknowns ≡ length q.names = cc so.returns in
    let same : q ≡ f.formula = cc f.whole in
    let there : t.unknowns ≤ length N' = omega (arith, many, ap length so.writes_names, length-append q.names (drop (length q.names) N)) in
    record {
      there = there;
      front = ap (take t.unknowns) so.writes_names ∙ take_at q.names (drop (length q.names) N) t.unknowns (sym many) ∙ ap (λ (x : Read). x.names) same;
      as_many = length-take-le t.unknowns N' there ∙ sym (length-take-le t.unknowns K' f.kinds_there);
    }

pub accepts_front : {result : Result} {u e v c : ℕ} {kinds : List ℕ} {literals : List ℤ} (names : List ℕ) (f : Front result u e v c kinds literals) → Named result u kinds names f.formula
    → checked (take u kinds) (take e literals) ≡ Ok (sizes (take u kinds) (take e literals)) → Accepts (take u kinds) (take e literals) (take u names)
accepts_front names f n passes = record { passes = passes; as_many = n.as_many }

pub taken_lines : {result : Result} {u e v c : ℕ} {kinds : List ℕ} {literals : List ℤ} (names : List ℕ) (f : Front result u e v c kinds literals) → Named result u kinds names f.formula
    → lines (facts (take u kinds) (take e literals) (take u names) v c) ≡ shown result
taken_lines names f n = rw (f.kinds_front, f.literals_front, n.front, f.variables_so, f.clauses_so) (ap shown (sym f.whole))
