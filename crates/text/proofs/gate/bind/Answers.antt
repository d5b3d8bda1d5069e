-- `gate::bind` meets its contract. Assumes nothing.
use native.Mathlib.Numerals.{add-one}
use native.Mathlib.Omega.{arith}
use lib.ListN.{length-set}
use lib.Seq.{take-suc-set}
use Rattle.text.proofs.Places.{marked_more}
use Rattle.text.proofs.gate.bind.Goals as goal

pub returns : goal.returns
returns c =
    let given = c.args in
    record {
      kinds = simp length-set c.requires.2;
      names = simp length-set c.requires.3;
      kinds_more = rw (add-one given.n) (take-suc-set given.kinds.now given.n 0 (omega (arith, c.requires.2)));
      names_more = rw (add-one given.n) (take-suc-set given.names.now given.n given.v (omega (arith, c.requires.3)));
      marked = λ m. marked_more given.names.now given.n given.v m (omega (arith, c.requires.3)) c.requires.0;
    }
