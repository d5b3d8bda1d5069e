-- By the decision's answer. Assumes nothing.
use mathlib.Core.Path.{refl}
use mathlib.Core.List.{[]}
use Rattle.witness_writing.proofs.WriteLaws.{nothing_put}
use Rattle.witness_writing.proofs.WitnessRight.{witness_right, told_put}
use Rattle.witness_writing.proofs.write.Goals as goal

pub returns-in-True : goal.returns-in-True
returns-in-True c =
    let side_call = c.write_side in
    let given = c.args in
    let U = given.universal_rows.now in
    let E = given.existential_rows.now in
    let done = told_put given.decision U E given.file.now c.in-True.is side_call.ensures.value side_call.ensures.file_after in record {
      counted = done.0;
      written = done.1;
      proved = witness_right;
    }

pub returns-in-False : goal.returns-in-False
returns-in-False c =
    let side_call = c.write_side-in-False in
    let given = c.args in
    let U = given.universal_rows.now in
    let E = given.existential_rows.now in
    let done = told_put given.decision U E given.file.now c.in-False.is side_call.ensures.value side_call.ensures.file_after in record {
      counted = done.0;
      written = done.1;
      proved = witness_right;
    }

pub returns-in-Spent : goal.returns-in-Spent
returns-in-Spent c =
    let given = c.args in
    let U = given.universal_rows.now in
    let E = given.existential_rows.now in
    let none = nothing_put [] given.file.now refl in
    let done = told_put given.decision U E given.file.now c.in-Spent.is none.0 none.1 in record {
      counted = done.0;
      written = done.1;
      proved = witness_right;
    }

pub returns-in-NoRoomUniversal : goal.returns-in-NoRoomUniversal
returns-in-NoRoomUniversal c =
    let given = c.args in
    let U = given.universal_rows.now in
    let E = given.existential_rows.now in
    let none = nothing_put [] given.file.now refl in
    let done = told_put given.decision U E given.file.now c.in-NoRoomUniversal.is none.0 none.1 in record {
      counted = done.0;
      written = done.1;
      proved = witness_right;
    }

pub returns-in-NoRoomExistential : goal.returns-in-NoRoomExistential
returns-in-NoRoomExistential c =
    let given = c.args in
    let U = given.universal_rows.now in
    let E = given.existential_rows.now in
    let none = nothing_put [] given.file.now refl in
    let done = told_put given.decision U E given.file.now c.in-NoRoomExistential.is none.0 none.1 in record {
      counted = done.0;
      written = done.1;
      proved = witness_right;
    }

pub returns-in-Refused : goal.returns-in-Refused
returns-in-Refused c =
    let given = c.args in
    let U = given.universal_rows.now in
    let E = given.existential_rows.now in
    let none = nothing_put [] given.file.now refl in
    let done = told_put given.decision U E given.file.now c.in-Refused.is none.0 none.1 in record {
      counted = done.0;
      written = done.1;
      proved = witness_right;
    }
