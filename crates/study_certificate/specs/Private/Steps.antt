-- What private functions ask of each other. Assumes nothing.
use Rattle.std.specs.Prelude.{ℕ, ◌<◌, List}
use Rattle.rounds.specs.Run.{Outcome}
use Rattle.certificate.specs.Private.Steps.{Ran}
use Rattle.study.specs.declared.Studied.{Studied}
use Rattle.study.specs.Study.{max_settings}

-- A study whose last run came to an outcome, as it was returned and as its rows were left.
pub record Ready (r : Studied) (universal existential : List ℕ) : Type 0 where
  pub end : Outcome
  pub ran : Ran end r.outcome universal existential
  pub in_list : r.setting < max_settings
