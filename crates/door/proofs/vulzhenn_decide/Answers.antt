-- `door::vulzhenn_decide` meets its contract, from what `read` promises of the tables and `decide` of their fronts. Assumes nothing.
use Prim.Native.Nat.{ℕ, ◌+◌}
use mathlib.Core.Path.{sym, ap, ◌∙◌}
use native.Mathlib.Omega.{arith}
use lib.Seq.{length-take-le}
use Rattle.text.proofs.FrontLaws.{read_refused, read_taken}
use Rattle.door.proofs.DoorLaws.{refused_of_text, refused_back, decided_back}
use Rattle.door.proofs.Numbers.{with_numbers}
use Rattle.door.proofs.vulzhenn_decide.Goals as goal

pub overflow_add-result : goal.overflow_add-result
overflow_add-result c =
    let q = c.args in
    omega (arith, c.number.ensures, (refused_of_text q.text.now _ _ (read_refused c.read.ensures.written c.in-Err.is)).to_14)

pub slice_bounds-kinds-end : goal.slice_bounds-kinds-end
slice_bounds-kinds-end c = (read_taken c.read.ensures.written c.in-Ok.is).kinds_there

pub slice_bounds-decide-end : goal.slice_bounds-decide-end
slice_bounds-decide-end c = sym (length-take-le c.in-Ok.field-0.unknowns c.read.new.kinds (read_taken c.read.ensures.written c.in-Ok.is).kinds_there)

pub slice_bounds-literals-end : goal.slice_bounds-literals-end
slice_bounds-literals-end c = (read_taken c.read.ensures.written c.in-Ok.is).literals_there

pub slice_bounds-decide-end-in-Ok : goal.slice_bounds-decide-end-in-Ok
slice_bounds-decide-end-in-Ok c = sym (length-take-le c.in-Ok.field-0.entries c.read.new.literals (read_taken c.read.ensures.written c.in-Ok.is).literals_there)

pub returns-in-Err : goal.returns-in-Err
returns-in-Err c =
    let q = c.args in
    let both = with_numbers q.text.now q.work.now q.limit
    (refused_back q.text.now q.work.now q.limit _ _ (read_refused c.read.ensures.written c.in-Err.is)) in
    record { answered = ap (λ (n : ℕ). 100 + n) c.number.ensures ∙ both.0; left = both.1.0; right = both.1.1 }

pub returns-in-Ok : goal.returns-in-Ok
returns-in-Ok c =
    let q = c.args in
    let both = with_numbers q.text.now q.work.now q.limit
    (decided_back q.text.now q.work.now q.limit (read_taken c.read.ensures.written c.in-Ok.is) (c.decide.ensures.value, c.decide.ensures.work_after)) in
    record { answered = both.0; left = both.1.0; right = both.1.1 }
