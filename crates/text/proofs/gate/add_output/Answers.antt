-- O's clause is put or refused, at the p line. Assumes nothing.
use Prim.Native.Nat.{ℕ}
use Rattle.std.specs.Prelude.{Result, Bool, List, [], ◌∷◌, ℤ, pos, length}
use mathlib.Core.Path.{refl, subst}
use Rattle.cause.specs.declared.Cause.{Cause}
use Rattle.cause.specs.Cause.{told}
use Rattle.named.specs.Named.{signed}
use Rattle.text_gates.specs.declared.Put.{Put}
use Rattle.text_gates.specs.GateLine.{marked, output_cause, PutSo, entries_after, made_after}
use Rattle.text.proofs.GateLineRead.{output_added}
use Rattle.text.proofs.gate.add_output.Goals as goal

-- What is said of O's clause, whether it is put or not.
abbrev Said : (b : Bool) (v made m : ℕ) (P : List ℕ) (L L' : List ℤ) → Result Put Cause → Type 0
Said b v made m P L L' r = PutSo (output_cause (marked P) v made m (length L)) (signed b v ∷ pos 0 ∷ []) 1 made m L (told r) (entries_after m r)
    (made_after made r) L'

pub returns-in-Ok : goal.returns-in-Ok
returns-in-Ok c =
    let given = c.args in
    let put = subst (Said given.negative given.v given.c.made given.c.entries given.places.now given.literals.now c.put_output.new.literals) c.in-Ok.is
    c.put_output.ensures.put in
    output_added given.c _ given.negative given.v given.line given.places.now given.literals.now _ c.requires.3 c.requires.0 c.requires.1 c.requires.2 put refl
    refl refl refl refl refl refl refl refl

pub returns-in-Err : goal.returns-in-Err
returns-in-Err c =
    let given = c.args in
    let put = subst (Said given.negative given.v given.c.made given.c.entries given.places.now given.literals.now c.put_output.new.literals) c.in-Err.is
    c.put_output.ensures.put in
    output_added given.c _ given.negative given.v given.line given.places.now given.literals.now _ c.requires.3 c.requires.0 c.requires.1 c.requires.2 put
    c.number.ensures refl refl refl refl refl refl refl refl
