-- `codes::encode_clause` meets its contract. The loop's invariant: the codes written are those of the clause so far, and only
-- they are marked as seen. Assumes nothing.
use Prim.Native.Nat.{◌+◌, ◌≤◌, ◌<◌}
use mathlib.Core.Path.{◌≡◌, ◌∙◌}
use lib.IntN.{pos}
use native.Mathlib.Omega.{arith}
use lib.ListN.{length, get_or}
use Rattle.codes.specs.Codes.{last_code, code_of}
use Rattle.codes.proofs.Words.{bits}
use Rattle.codes.proofs.ReadLaws.{code_below, opposite_below, none_so_far, out_of_entries, more_seen, more_added, clause_ended, clause_true}
use Rattle.codes.proofs.encode_clause.Goals as goal
use Rattle.codes.proofs.encode_clause.Goals.{After-from-c, At-loop-i, Start, then-seen-c-ne1, else-seen-c-ne1}

room : (c : Start) → c.args.start ≤ length c.args.codes.now
room c = omega (arith, c.requires)

-- There is room for another code.
room_left : (c : At-loop-i) → c.loop-i.i < length c.args.literals.now → c.loop-i.to < length c.loop-i.codes
room_left c below = omega (arith, c.loop-i.invariant.fits, c.loop-i.invariant.kept, c.requires)

is_code : (c : After-from-c) → c.from-c.result ≡ code_of (get_or c.args.literals.now c.loop-i.i (pos 0))
is_code c =
    c.from-c.ensures ∙ c.code_of-code.ensures
    ∙ bits code_of (get_or c.args.literals.now c.loop-i.i (pos 0)) (omega arith)

small : (c : After-from-c) → c.from-c.result < last_code + 1
small c = rw (is_code c) (code_below (get_or c.args.literals.now c.loop-i.i (pos 0)) (c.requires.names c.loop-i.i c.loop-i-test.true))

pub loop-i-init : goal.loop-i-init
loop-i-init c = none_so_far c.args.literals.now c.args.from c.args.start c.args.codes.now c.requires.literals_in_bounds.1 c.requires.literals_in_bounds.2

pub returns-then-c-eq0 : goal.returns-then-c-eq0
returns-then-c-eq0 c = clause_ended c.loop-i.invariant (room (goal.at.returns-then-c-eq0 c).Start) c.loop-i-test.true c.from-c.result
    (is_code (goal.at.returns-then-c-eq0 c).After-from-c) c.if-c-eq0.true (room_left (goal.at.returns-then-c-eq0 c).At-loop-i c.loop-i-test.true)

pub bounds-seen-opposite : goal.bounds-seen-opposite
bounds-seen-opposite c = rw c.opposite.ensures (opposite_below c.from-c.result (small (goal.at.bounds-seen-opposite c).After-from-c))

pub returns-then-seen-opposite-eq1 : goal.returns-then-seen-opposite-eq1
returns-then-seen-opposite-eq1 c =
    clause_true c.loop-i.invariant (room (goal.at.returns-then-seen-opposite-eq1 c).Start) c.loop-i-test.true c.from-c.result
    (is_code (goal.at.returns-then-seen-opposite-eq1 c).After-from-c)
    c.if-c-eq0.false (small (goal.at.returns-then-seen-opposite-eq1 c).After-from-c) c.opposite.result c.opposite.ensures
    (omega arith) c.past_clause.result c.past_clause.ensures

pub loop-i-preserved : goal.loop-i-preserved
loop-i-preserved c =
    let at = goal.at.loop-i-preserved c in
    let is = is_code at.After-from-c in
    let below = small at.After-from-c in
    elim c.if-seen-c-ne1.branch [
      | then-seen-c-ne1 w ↦ rw (w.codes-is, w.seen-is, w.to-is)
          (more_added c.loop-i.invariant (room at.Start) c.loop-i-test.true c.from-c.result is c.if-c-eq0.false below c.opposite.result
          c.opposite.ensures c.if-seen-opposite-eq1.false (λ one. omega (arith, w.if-seen-c-ne1.true)) w.add.new.codes w.add.auto.codes
          (rw c.from-c.ensures w.add.ensures))
      | else-seen-c-ne1 w ↦ rw (w.codes-is, w.seen-is, w.to-is)
          (more_seen c.loop-i.invariant (room at.Start) c.loop-i-test.true c.from-c.result is c.if-c-eq0.false below c.opposite.result
          c.opposite.ensures c.if-seen-opposite-eq1.false (omega (arith, w.if-seen-c-ne1.false)))
    ]

pub returns : goal.returns
returns c =
    let last : c.loop-i.i ≡ length c.args.literals.now = omega (arith, c.loop-i.invariant.inside, c.loop-i-test.false) in
    rw last at (out_of_entries c.loop-i.invariant (room (goal.at.returns c).Start) c.loop-i-test.false c.requires.literals_in_bounds.2)
