-- The number that stands for each case of an answer, and what a run reports.
-- Assumes nothing.
use Rattle.std.specs.Prelude.{ℕ, ◌+◌, ◌≡◌, Bool, true, false, cond, List, eqb, Err, Ok, Result}
use Rattle.cause.specs.declared.Cause.{Cause}
use Rattle.cause.specs.Cause.{number}
use Rattle.engine.specs.declared.search.Search.{Search}
use Rattle.engine.specs.declared.search.Search.TheVariants.{Found, NoModel}
use Rattle.judge.specs.declared.Judgement.{Judgement}
use Rattle.judge.specs.declared.Judgement.TheVariants.{NotBorneOut, Accepted}
use Rattle.engine.specs.declared.run.Outcome.{Outcome}
use Rattle.engine.specs.Numbers.{one_number}
use Rattle.season.specs.declared.Sheet.{Sheet}

-- A search: 0 for no model, 1 for found, 100 plus the number of a refusal.
abbrev pub search_number : Result Search Cause → ℕ
search_number (Ok NoModel) = 0
search_number (Ok Found) = 1
search_number (Err cause) = 100 + number cause

-- A judgement: 0 for not borne out, 1 for accepted, 100 plus the number of a refusal.
abbrev pub judge_number : Result Judgement Cause → ℕ
judge_number (Ok NotBorneOut) = 0
judge_number (Ok Accepted) = 1
judge_number (Err cause) = 100 + number cause

-- A charge: 0 for cents, 100 plus the number of a refusal.
abbrev pub charge_number : Result ℕ Cause → ℕ
charge_number (Ok amount) = 0
charge_number (Err cause) = 100 + number cause

-- A trimming: 0 for trimmed, 100 plus the number of a refusal.
abbrev pub trim_number : Result ℕ Cause → ℕ
trim_number (Ok used) = 0
trim_number (Err cause) = 100 + number cause

-- A value: 1 for true.
abbrev pub value_number : Bool → ℕ
value_number false = 0
value_number true = 1

-- What a run returns: the number of its answer, the round and the counts, the opening and the length of its block.
pub record Reported (o : Outcome) (answer round universal existential : ℕ) (opening : List ℕ) (block : ℕ) : Type 0 where
  pub numbered : answer ≡ one_number o.answer
  pub round_reached : round ≡ o.round
  pub universals : universal ≡ o.universal
  pub existentials : existential ≡ o.existential
  pub opened : opening ≡ o.opening
  pub block_long : block ≡ o.block

-- A season's page by number: 1 the studies, 2 to 6 those with answers 0 to 4, 7 the rounds, 8 the fees, 9 the most rounds, 10 the first study
-- that has them. Number 0 is 100 plus the number of a refusal. Whatever is not there is 0.
abbrev pub page_number : Sheet → ℕ → ℕ
page_number s which =
    cond (eqb which 1) s.studies (cond (eqb which 2) s.answer_0 (cond (eqb which 3) s.answer_1 (cond (eqb which 4) s.answer_2 (cond (eqb which 5) s.answer_3
    (cond (eqb which 6) s.answer_4 (cond (eqb which 7) s.rounds (cond (eqb which 8) s.fees (cond (eqb which 9) s.most (cond (eqb which 10) s.first 0)))))))))

unfoldable pub season_number : Result Sheet Cause → ℕ → ℕ
season_number (Ok s) which = page_number s which
season_number (Err cause) which = cond (eqb which 0) (100 + number cause) 0
