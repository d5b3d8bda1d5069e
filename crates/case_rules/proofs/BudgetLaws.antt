-- The decision with a budget is right where it answers, and keeps to it. Assumes nothing.
use Prim.Native.Nat.{ℕ, zero, suc, ◌+◌, ◌≤◌}
use native.Mathlib.Omega.{arith}
use mathlib.Core.Path.{◌≡◌, refl, sym, ap, ◌∙◌}
use mathlib.Core.Bool.{Bool, true, false, false≢true}
use mathlib.Core.List.{List, [], ◌∷◌, ◌++◌}
use mathlib.Core.Option.{Option, none, some, none-ne-some}
use lib.IntN.{ℤ}
use lib.ListN.{length}
use Rattle.formula.specs.Formula.{Kind, existential, universal, kind_of, prefix, clauses}
use Rattle.formula.specs.Meaning.{matrix, meaning, verdict}
use Rattle.formula.proofs.Accepted.{Accepted, accepted}
use Rattle.rounds.specs.Opening.{set_to}
use Rattle.case_rules.specs.Restricted.{IsAccepted, restricted}
use Rattle.case_rules.specs.ByCases.{by_kind, Study, RightStudy, EndsStudy, some_by_kind}
use Rattle.case_rules.specs.Budget.{Asked, asked, enough, with_second, both_cases, unless_answered, within_budget}
use Rattle.case_rules.specs.Budget.{asked_behind, asked_about, most_studies}
use Rattle.case_rules.proofs.RestrictedLaws.{meaning_by_next}
use Rattle.case_rules.proofs.ByCasesLaws.{moved, one_longer, study_meaning, tells_by_kind, Answered, answered_by_kind, at_end}

-- An answer is right.
abbrev Tells : Option Bool → Bool → Type 0
Tells o m = (v : Bool) → o ≡ some v → m ≡ v

-- What is enough stays the answer, whatever the second case gives.
enough_stays : (k : Kind) (o p : Option Bool) → enough k o ≡ true → some_by_kind k o p ≡ o
enough_stays k none p e = absurd (false≢true e)
enough_stays existential (some true) p e = refl
enough_stays existential (some false) p e = absurd (false≢true e)
enough_stays universal (some true) p e = absurd (false≢true e)
enough_stays universal (some false) p e = refl

module _ (k : Kind) (first : Asked) (second : ℕ → Asked) where
  tells_both : (m n : Bool) → Tells first.answer m → ((left : ℕ) → Tells (second left).answer n) → Tells (both_cases k first second).answer (by_kind k m n)
  tells_both m n h g = go (enough k first.answer) refl
    where
      go : (b : Bool) → enough k first.answer ≡ b → Tells (with_second b k first second).answer (by_kind k m n)
      go true e v f = tells_by_kind k first.answer none m n h (λ w z. absurd (none-ne-some w z)) v (enough_stays k first.answer none e ∙ f)
      go false e v f = tells_by_kind k first.answer (second first.left).answer m n h (g first.left) v f

  both_kept : (budget : ℕ) → first.left ≤ budget → ((left : ℕ) → (second left).left ≤ left) → (both_cases k first second).left ≤ budget
  both_kept budget h g = go (enough k first.answer)
    where
      go : (b : Bool) → (with_second b k first second).left ≤ budget
      go true = h
      go false = omega (arith, g first.left)

tells_unless : (o : Option Bool) (left : ℕ) (by_cases : ℕ → Asked) (m : Bool) → Tells o m → ((rest : ℕ) → Tells (by_cases rest).answer m)
    → Tells (unless_answered o left by_cases).answer m
tells_unless none left by_cases m h g = g left
tells_unless (some w) left by_cases m h g = h

tells_within : (budget : ℕ) (o : Option Bool) (by_cases : ℕ → Asked) (m : Bool) → Tells o m → ((rest : ℕ) → Tells (by_cases rest).answer m)
    → Tells (within_budget budget o by_cases).answer m
tells_within zero o by_cases m h g = λ v e. absurd (none-ne-some v e)
tells_within (suc left) o by_cases m h g = tells_unless o left by_cases m h g

kept_unless : (o : Option Bool) (left : ℕ) (by_cases : ℕ → Asked) → ((rest : ℕ) → (by_cases rest).left ≤ rest) → (unless_answered o left by_cases).left ≤ left
kept_unless none left by_cases g = g left
kept_unless (some w) left by_cases g = omega arith

kept_within : (budget : ℕ) (o : Option Bool) (by_cases : ℕ → Asked) → ((rest : ℕ) → (by_cases rest).left ≤ rest) →
    (within_budget budget o by_cases).left ≤ budget
kept_within zero o by_cases g = omega arith
kept_within (suc left) o by_cases g = omega (arith, kept_unless o left by_cases g)

asked_meaning : (study : Study) → RightStudy study → (literals : List ℤ) (front : List ℕ) (path : List Bool) (kinds : List ℕ) → length front ≡ length path
    → Accepted (front ++ kinds) literals
    → (budget : ℕ) → Tells (asked_behind study literals path kinds budget).answer (meaning (prefix kinds) (set_to path (matrix (clauses literals))))
asked_meaning study right literals front path [] l a budget =
    tells_within budget (study path [] (restricted path literals)) (λ left. asked none left) (meaning [] (set_to path (matrix (clauses literals))))
    (study_meaning study right literals front path [] l a) (λ rest v e. absurd (none-ne-some v e))
asked_meaning study right literals front path (k ∷ kinds) l a budget =
    let phi = matrix (clauses literals) in
    let at : Bool → ℕ → Asked = λ v left. asked_behind study literals (path ++ (v ∷ [])) kinds left in
    let worth : Bool → Bool = λ v. meaning (prefix kinds) (set_to (path ++ (v ∷ [])) phi) in
    let case : (v : Bool) (left : ℕ) → Tells (at v left).answer (worth v) =
    λ v left.
    asked_meaning study right literals (front ++ (k ∷ [])) (path ++ (v ∷ [])) kinds (one_longer front k path v l) (moved front k kinds literals a)
    left in
    tells_within budget (study path (k ∷ kinds) (restricted path literals)) _ (meaning (prefix (k ∷ kinds)) (set_to path phi))
    (study_meaning study right literals front path (k ∷ kinds) l a)
    (λ rest v e. meaning_by_next path (kind_of k) (prefix kinds) phi
    ∙ tells_both (kind_of k) (at true rest) (at false) (worth true) (worth false) (case true rest) (case false) v e)

asked_kept : (study : Study) (literals : List ℤ) (path : List Bool) (kinds : List ℕ) (budget : ℕ) →
    (asked_behind study literals path kinds budget).left ≤ budget
asked_kept study literals path [] budget = kept_within budget (study path [] (restricted path literals)) (λ left. asked none left) (λ rest. omega arith)
asked_kept study literals path (k ∷ kinds) budget =
    let at : Bool → ℕ → Asked = λ v left. asked_behind study literals (path ++ (v ∷ [])) kinds left in
    kept_within budget (study path (k ∷ kinds) (restricted path literals)) _
    (λ rest. both_kept (kind_of k) (at true rest) (at false) rest
    (asked_kept study literals (path ++ (true ∷ [])) kinds rest) (λ left. asked_kept study literals (path ++ (false ∷ [])) kinds left))

-- ---- with enough studies there is an answer

pub some_study : (n : ℕ) → 1 ≤ most_studies n
some_study zero = omega arith
some_study (suc n) = omega arith

-- No more studies are made than there can be.
few_unless : (o : Option Bool) (left m : ℕ) (by_cases : ℕ → Asked) → 1 ≤ m → ((rest : ℕ) → suc rest ≤ (by_cases rest).left + m)
    → suc left ≤ (unless_answered o left by_cases).left + m
few_unless none left m by_cases one g = g left
few_unless (some v) left m by_cases one g = omega arith

few_within : (budget : ℕ) (o : Option Bool) (m : ℕ) (by_cases : ℕ → Asked) → 1 ≤ m → ((rest : ℕ) → suc rest ≤ (by_cases rest).left + m)
    → budget ≤ (within_budget budget o by_cases).left + m
few_within zero o m by_cases one g = omega arith
few_within (suc left) o m by_cases one g = few_unless o left m by_cases one g

few_both : (k : Kind) (first : Asked) (second : ℕ → Asked) (m left : ℕ) → left ≤ first.left + m → ((rest : ℕ) → rest ≤ (second rest).left + m)
    → suc left ≤ (both_cases k first second).left + suc (m + m)
few_both k first second m left h g = go (enough k first.answer)
  where
    go : (b : Bool) → suc left ≤ (with_second b k first second).left + suc (m + m)
    go true = omega arith
    go false = omega (arith, g first.left)

asked_few : (study : Study) (literals : List ℤ) (path : List Bool) (kinds : List ℕ) (budget : ℕ)
    → budget ≤ (asked_behind study literals path kinds budget).left + most_studies (length kinds)
asked_few study literals path [] budget =
    few_within budget (study path [] (restricted path literals)) 1 (λ left. asked none left) (omega arith) (λ rest. omega arith)
asked_few study literals path (k ∷ kinds) budget =
    let at : Bool → ℕ → Asked = λ v left. asked_behind study literals (path ++ (v ∷ [])) kinds left in
    few_within budget (study path (k ∷ kinds) (restricted path literals)) (most_studies (suc (length kinds))) _ (some_study (suc (length kinds)))
    (λ rest. few_both (kind_of k) (at true rest) (at false) (most_studies (length kinds)) rest
    (asked_few study literals (path ++ (true ∷ [])) kinds rest) (λ r. asked_few study literals (path ++ (false ∷ [])) kinds r))

answered_both : (k : Kind) (first : Asked) (second : ℕ → Asked) → Answered first.answer → Answered (second first.left).answer
    → Answered (both_cases k first second).answer
answered_both k first second h g = go (enough k first.answer)
  where
    go : (b : Bool) → Answered (with_second b k first second).answer
    go true = h
    go false = answered_by_kind k first.answer (second first.left).answer h g

answered_unless : (o : Option Bool) (left : ℕ) (by_cases : ℕ → Asked) → (o ≡ none → Answered (by_cases left).answer)
    → Answered (unless_answered o left by_cases).answer
answered_unless none left by_cases g = g refl
answered_unless (some v) left by_cases g = (v, refl)

answered_within : (budget : ℕ) (o : Option Bool) (by_cases : ℕ → Asked) → 1 ≤ budget
    → ((left : ℕ) → budget ≡ suc left → o ≡ none → Answered (by_cases left).answer) → Answered (within_budget budget o by_cases).answer
answered_within zero o by_cases some_left g = absurd (omega arith)
answered_within (suc left) o by_cases some_left g = answered_unless o left by_cases (g left refl)

module _ (study : Study) (ends : EndsStudy study) (literals : List ℤ) where
  asked_answered : (front : List ℕ) (path : List Bool) (kinds : List ℕ) → length front ≡ length path → Accepted (front ++ kinds) literals
      → (budget : ℕ) → most_studies (length kinds) ≤ budget → Answered (asked_behind study literals path kinds budget).answer
  asked_answered front path [] l a budget room =
      let there = at_end study ends literals front path l a in
      answered_within budget (study path [] (restricted path literals)) (λ left. asked none left) room
      (λ left e z. absurd (none-ne-some there.0 (sym z ∙ there.1)))
  asked_answered front path (k ∷ kinds) l a budget room =
      let at : Bool → ℕ → Asked = λ v left. asked_behind study literals (path ++ (v ∷ [])) kinds left in
      let case : (v : Bool) (left : ℕ) → most_studies (length kinds) ≤ left → Answered (at v left).answer =
      λ v left. asked_answered (front ++ (k ∷ [])) (path ++ (v ∷ [])) kinds (one_longer front k path v l) (moved front k kinds literals a) left in
      let few = asked_few study literals (path ++ (true ∷ [])) kinds in
      answered_within budget (study path (k ∷ kinds) (restricted path literals)) _ (omega arith)
      (λ left e z.
      answered_both (kind_of k) (at true left) (at false) (case true left (omega arith)) (case false (at true left).left (omega (arith, few left))))

pub asked_enough : (study : Study) → RightStudy study → EndsStudy study → (budget : ℕ) (kinds : List ℕ) (literals : List ℤ) → IsAccepted kinds literals
    → most_studies (length kinds) ≤ budget → (asked_about study budget kinds literals).answer ≡ some (verdict kinds literals)
unfolding asked_about verdict
asked_enough study right ends budget kinds literals a room =
    let answer = asked_answered study ends literals [] [] kinds refl (accepted kinds literals a) budget room in
    let same = asked_meaning study right literals [] [] kinds refl (accepted kinds literals a) budget answer.0 answer.1 in
    answer.1 ∙ sym (ap some same)

-- Where there is an answer it is the verdict, and no more studies are left than there were.
pub asked_right : (study : Study) → RightStudy study → (budget : ℕ) (kinds : List ℕ) (literals : List ℤ) (v : Bool) → IsAccepted kinds literals
    → (asked_about study budget kinds literals).answer ≡ some v → verdict kinds literals ≡ v
unfolding asked_about verdict
asked_right study right budget kinds literals v a e = asked_meaning study right literals [] [] kinds refl (accepted kinds literals a) budget v e

pub asked_left : (study : Study) (budget : ℕ) (kinds : List ℕ) (literals : List ℤ) → (asked_about study budget kinds literals).left ≤ budget
unfolding asked_about
asked_left study budget kinds literals = asked_kept study literals [] kinds budget
