-- The limits are tested, then the clauses are put. Assumes nothing.
use Prim.Native.Nat.{◌+◌}
use mathlib.Core.Path.{refl, ap, ◌∙◌}
use native.Mathlib.Omega.{arith}
use lib.ListN.{length, take}
use mir.Syntax.{w32}
use mir.Facts.{to_z-of_z}
use Rattle.gates.specs.declared.Function.{Function}
use Rattle.gates.specs.Put.{place_behind, laid}
use Rattle.text_gates.specs.GateLine.{function_of}
use Rattle.text_gates.specs.Private.Steps.{clause_count}
use Rattle.text_gates.proofs.GateLineLaws.{put_wide, put_over, put_full, put_done, put_entries}
use Rattle.text_gates.proofs.put_gate.Goals as goal

pub returns-then-count-ge-CLAUSES : goal.returns-then-count-ge-CLAUSES
returns-then-count-ge-CLAUSES c =
    let given = c.args in
    put_wide (function_of given.word.now) given.v given.inputs.now given.count given.made given.m given.literals.now c.if-count-ge-CLAUSES.true

pub returns-then-all-gt-CLAUSES : goal.returns-then-all-gt-CLAUSES
returns-then-all-gt-CLAUSES c =
    let given = c.args in
    put_over (function_of given.word.now) given.v given.inputs.now given.count given.made given.m given.literals.now
    (given.made + c.clause_count.result)
    (ap (λ n. given.made + n) (c.clause_count.ensures ∙ ap (λ (f : Function). clause_count f given.count)
    c.function_of.ensures)) c.if-all-gt-CLAUSES.true

pub returns-then-end-m : goal.returns-then-end-m
returns-then-end-m c =
    let put_call = c.put-end in
    let function_of2_call = c.function_of-2 in
    let clause_count_call = c.clause_count in
    let given = c.args in
    let f = function_of given.word.now in
    let made = put_entries f function_of2_call.result given.v given.count given.inputs.now function_of2_call.ensures (omega arith)
    c.requires.1 _ (to_z-of_z {w = w32} (record { sfits = c.from.type_inv }) ∙ c.from.ensures)
    (take given.count given.inputs.now) refl in
    put_full (function_of given.word.now) given.v given.inputs.now given.count given.made given.m given.literals.now
    c.if-count-ge-CLAUSES.false (given.made + clause_count_call.result)
    (ap (λ n. given.made + n) (clause_count_call.ensures ∙ ap (λ (f : Function). clause_count f given.count)
    c.function_of.ensures)) c.if-all-gt-CLAUSES.false put_call.result
    put_call.new.entries
    (put_call.ensures.value ∙ ap (place_behind (length given.literals.now) given.m) made)
    (put_call.ensures.entries_after ∙ ap (laid given.literals.now given.m) made) c.if-end-m.true

pub returns : goal.returns
returns c =
    let put_call = c.put-end in
    let function_of2_call = c.function_of-2 in
    let clause_count_call = c.clause_count in
    let given = c.args in
    let f = function_of given.word.now in
    let made = put_entries f function_of2_call.result given.v given.count given.inputs.now function_of2_call.ensures (omega arith)
    c.requires.1 _ (to_z-of_z {w = w32} (record { sfits = c.from.type_inv }) ∙ c.from.ensures)
    (take given.count given.inputs.now) refl in
    put_done (function_of given.word.now) given.v given.inputs.now given.count given.made given.m given.literals.now
    c.if-count-ge-CLAUSES.false (given.made + clause_count_call.result)
    (ap (λ n. given.made + n) (clause_count_call.ensures ∙ ap (λ (f : Function). clause_count f given.count)
    c.function_of.ensures)) c.if-all-gt-CLAUSES.false put_call.result
    put_call.new.entries
    (put_call.ensures.value ∙ ap (place_behind (length given.literals.now) given.m) made)
    (put_call.ensures.entries_after ∙ ap (laid given.literals.now given.m) made) c.if-end-m.false
