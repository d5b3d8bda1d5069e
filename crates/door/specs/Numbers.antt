-- What the door's number says: 01's causes, the work area and demand 2, as the bid tool sees them.
-- Assumes nothing.
use Rattle.std.specs.Prelude.{ℕ, ◌+◌, ◌≤◌, ◌≡◌, ◌≢◌, Bool, true, false, not, cond, List, eqb, length, replicate}
use Rattle.formula.specs.Formula.{max_rows, work_size}
use Rattle.formula.specs.Meaning.{verdict}
use Rattle.rounds.specs.Run.{spent, number}
use Rattle.engine.specs.Outcome.{reached}
use Rattle.text.specs.Reading.{Read, taken, refused, text_read}
use Rattle.decision.specs.Decision.{handed_on}
use Rattle.door.specs.Door.{answer, work_after}

-- The text was taken, and its formula has this value.
pub record Verdict (text : List ℕ) (value : Bool) : Type 0 where
  pub formula : Read
  pub read_so : text_read text ≡ taken formula
  pub right : verdict formula.kinds formula.literals ≡ value

pub record NumbersRight (text work : List ℕ) (limit : ℕ) : Type 0 where
  -- '100 plus the refusal number .. the text's faults come before 5 and 6': a text that is refused has one of the numbers 109 to 112
  -- and 114. No text has 113.
  pub of_text : (n line : ℕ) → text_read text ≡ refused n line → (answer text work limit ≡ 100 + n) × (9 ≤ n) × (n ≤ 14) × (n ≡ 13 → ⊥)
  -- A text that is taken is refused for 5 and 6 alone, in that order: none of causes 1 to 4 applies to what the reader and the door make.
  pub of_run : (r : Read) → text_read text ≡ taken r
      → answer text work limit
      ≡ cond (not (eqb (length work) work_size)) 105
      (cond (eqb limit 0) 106 (number (reached (handed_on r.kinds r.literals work limit)).answer))
  -- With 256 rows a side no more than 255 rounds are ever finished: from a limit of 256 on the answer is never spent.
  pub never_spent : max_rows ≤ limit → answer text work limit ≢ number spent
  -- 'Zero after an answer'; a refusal leaves it as found.
  pub zero_after : answer text work limit ≤ 4 → work_after text work limit ≡ replicate work_size 0
  pub as_found : 100 ≤ answer text work limit → work_after text work limit ≡ work
  -- 'The verdict is this value of the whole formula, 1 for true and 0 for false.'
  pub only_true : answer text work limit ≡ 1 → Verdict text true
  pub only_false : answer text work limit ≡ 0 → Verdict text false
