-- `buffer::append` meets its contract: the definition's two cases are those that the code tests.
-- Assumes nothing.
use mathlib.Core.Path.{refl, sym, ◌∙◌}
use lib.ListN.{length}
use lib.Seq.{take-length}
use Rattle.std.proofs.lemmas.Slice.{put_mid-paste}
use native.Mathlib.Omega.{arith}
use Rattle.buffer.proofs.Laws.{appended_fits, behind_fits, appended_short, behind_short}
use Rattle.buffer.proofs.append.Goals as goal

pub returns-then-out-part : goal.returns-then-out-part
returns-then-out-part c =
    let given = c.args in record {
      value = sym (behind_short given.out.now given.at given.part.now (omega arith));
      out_after = sym (appended_short given.out.now given.at given.part.now (omega arith));
    }

pub returns-then-out-part-2 : goal.returns-then-out-part-2
returns-then-out-part-2 c =
    let given = c.args in record {
      value = sym (behind_short given.out.now given.at given.part.now (omega arith));
      out_after = sym (appended_short given.out.now given.at given.part.now (omega arith));
    }

pub returns-clause-value : goal.returns-clause-value
returns-clause-value c =
    let given = c.args in sym (behind_fits given.out.now given.at given.part.now (omega arith))

pub returns-clause-out_after : goal.returns-clause-out_after
returns-clause-out_after c =
    let given = c.args in
    let part = given.part.now in
    put_mid-paste given.at _ given.out.now _ part (length part) c.copy_from_slice.ensures.after (omega arith) refl
    ∙ simp take-length (sym (appended_fits given.out.now given.at part (omega arith)))
