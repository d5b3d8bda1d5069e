-- What the private functions that add up promise; no public contract rests on it. Assumes nothing.
use Rattle.std.specs.Prelude.{ℕ, ◌+◌, ◌*◌, ◌≤◌, Bool, false, cond, ◌||◌, eqb, leb, ltb, Ok, Result}
use Rattle.cause.specs.declared.Cause.{Cause}
use Rattle.cause.specs.declared.Cause.TheVariants.{Studies, Answer, Fee}
use Rattle.cause.specs.Cause.{refused_if}
use Rattle.season.specs.declared.Sheet.{Sheet}
use Rattle.season.specs.declared.tally.Tally.{Tally}
use Rattle.formula.specs.Meaning.{bit}
use Rattle.season.specs.Season.{max_studies, max_answer, max_fee}

-- Nothing has been added.
abbrev pub fresh : Tally
fresh = record {
  studies = 0;
  answer_0 = 0;
  answer_1 = 0;
  answer_2 = 0;
  answer_3 = 0;
  answer_4 = 0;
  rounds = 0;
  fees = 0;
  most = 0;
  first = 0;
  bad_answer = false;
  bad_fee = false;
}

-- Whether rounds are more than the most so far, or the first ones.
abbrev pub leads : ℕ → ℕ → ℕ → Bool
leads first most rounds = eqb first 0 || ltb most rounds

abbrev pub one_more : Tally → ℕ → ℕ → ℕ → Tally
one_more t answer rounds fee = record {
  studies = t.studies + 1;
  answer_0 = t.answer_0 + bit (eqb answer 0);
  answer_1 = t.answer_1 + bit (eqb answer 1);
  answer_2 = t.answer_2 + bit (eqb answer 2);
  answer_3 = t.answer_3 + bit (eqb answer 3);
  answer_4 = t.answer_4 + bit (eqb answer 4);
  rounds = t.rounds + rounds;
  fees = t.fees + fee;
  most = cond (leads t.first t.most rounds) rounds t.most;
  first = cond (leads t.first t.most rounds) (t.studies + 1) t.first;
  bad_answer = t.bad_answer || ltb max_answer answer;
  bad_fee = t.bad_fee || ltb max_fee fee;
}

-- The tally with one study more; past 4,096 nothing is added.
unfoldable pub added : Tally → ℕ → ℕ → ℕ → Tally
added t answer rounds fee = cond (leb max_studies t.studies) t (one_more t answer rounds fee)

-- No sum of a tally can wrap when a study is added to it.
pub record Room (t : Tally) : Type 0 where
  pub answer_0 : t.answer_0 ≤ t.studies
  pub answer_1 : t.answer_1 ≤ t.studies
  pub answer_2 : t.answer_2 ≤ t.studies
  pub answer_3 : t.answer_3 ≤ t.studies
  pub answer_4 : t.answer_4 ≤ t.studies
  pub rounds : t.rounds ≤ t.studies * 4294967295
  pub fees : t.fees ≤ t.studies * 4294967295

-- The page that a tally over a table of this length gives, or the first cause that applies.
unfoldable pub closed : Tally → ℕ → Result Sheet Cause
closed t length =
    refused_if (ltb max_studies length) Studies
    (refused_if t.bad_answer Answer
    (refused_if t.bad_fee Fee
    (Ok record {
      studies = t.studies;
      answer_0 = t.answer_0;
      answer_1 = t.answer_1;
      answer_2 = t.answer_2;
      answer_3 = t.answer_3;
      answer_4 = t.answer_4;
      rounds = t.rounds;
      fees = t.fees;
      most = t.most;
      first = t.first;
    })))
