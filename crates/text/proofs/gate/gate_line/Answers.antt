-- A gate line: its number, its name, its clauses; then the name is bound. Assumes nothing.
use Prim.Native.Nat.{ℕ}
use Rattle.std.specs.Prelude.{Result, List, ℤ}
use mathlib.Core.Path.{refl, ap, subst, ◌∙◌}
use Rattle.cause.specs.declared.Cause.{Cause}
use Rattle.cause.specs.Cause.{told}
use Rattle.text_gates.specs.declared.Put.{Put}
use Rattle.text_gates.specs.GateLine.{entries_after, made_after}
use Rattle.text_gates.proofs.GateLineLaws.{some_cause}
use borrow.Author.Tests.{le-ltb}
use Rattle.lines.specs.Lines.{words}
use Rattle.lines.specs.Numbers.{number}
use Rattle.lines.proofs.ShapeLaws.{taken_word}
use Rattle.text.specs.Reading.{gate_line}
use Rattle.text.specs.Private.Steps.{held, ClausesPut}
use Rattle.text.proofs.BodyLaws.{resized}
use Rattle.text.proofs.GateStateLaws.{line_put}
use Rattle.text.proofs.GateLineRead.{name_refused, clauses_faulty, gate_read}
use Rattle.text.proofs.gate.gate_line.Goals as goal

pub returns-then-c : goal.returns-then-c
unfolding gate_line held
returns-then-c c = record {
  sized = resized refl refl refl refl refl refl c.requires.0;
  marked = c.requires.1;
  line = refl;
  free = λ _. refl;
  right = rw (le-ltb c.args.c.clauses_read c.args.c.clauses c.if-c.true) refl;
}

pub returns-then-cause-ne0 : goal.returns-then-cause-ne0
returns-then-cause-ne0 c =
    let given = c.args in
    let q0 = taken_word {ws = words given.line.now} c.next-word.ensures refl in
    let value = c.number-v.ensures ∙ ap number (taken_word c.next-name.ensures q0.1).0 in
    name_refused given.c _ given.kinds.now given.names.now given.places.now given.literals.now (words given.line.now) c.requires.0 c.requires.1 c.requires.2
    c.if-c.false value c.gate_cause-cause.ensures c.if-cause-ne0.true refl refl refl refl refl refl refl refl refl

-- What is said of the clauses, whether they are put or not.
abbrev Said : (line : List ℕ) (v made m : ℕ) (P : List ℕ) (L L' : List ℤ) → Result Put Cause → Type 0
Said line v made m P L L' r = ClausesPut line v made m P L (told r) (entries_after m r) (made_after made r) L'

pub returns-in-Err : goal.returns-in-Err
returns-in-Err c =
    let given = c.args in
    let q0 = taken_word {ws = words given.line.now} c.next-word.ensures refl in
    let value = c.number-v.ensures ∙ ap number (taken_word c.next-name.ensures q0.1).0 in
    let put = subst (Said given.line.now c.number-v.result given.c.made given.c.entries given.places.now given.literals.now c.put_line.new.literals) c.in-Err.is
    (line_put given.line.now c.number-v.result given.c.made given.c.entries given.places.now given.literals.now c.requires.3 c.requires.0.literals
    c.requires.0.entries c.requires.0.made c.put_line.ensures.put) in
    clauses_faulty given.c _ given.kinds.now given.names.now given.places.now given.literals.now c.put_line.new.literals given.line.now c.requires.0
    c.requires.1 c.requires.2 c.if-c.false value c.gate_cause-cause.ensures c.if-cause-ne0.false put (some_cause c.in-Err.cause) refl refl refl refl refl
    refl refl c.number.ensures refl

pub returns : goal.returns
returns c =
    let given = c.args in
    let q0 = taken_word {ws = words given.line.now} c.next-word.ensures refl in
    let value = c.number-v.ensures ∙ ap number (taken_word c.next-name.ensures q0.1).0 in
    let put = subst (Said given.line.now c.number-v.result given.c.made given.c.entries given.places.now given.literals.now c.put_line.new.literals) c.in-Ok.is
    (line_put given.line.now c.number-v.result given.c.made given.c.entries given.places.now given.literals.now c.requires.3 c.requires.0.literals
    c.requires.0.entries c.requires.0.made c.put_line.ensures.put) in
    gate_read given.c _ given.kinds.now given.names.now given.places.now given.literals.now c.bind.new.kinds c.bind.new.names c.bind.new.places
    c.put_line.new.literals given.line.now c.requires.0 c.requires.1 c.requires.2 c.if-c.false value c.gate_cause-cause.ensures c.if-cause-ne0.false put
    refl c.bind.ensures refl refl refl refl refl refl refl refl refl
