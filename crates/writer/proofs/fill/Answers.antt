-- `writer::fill` meets its contract: all parts fit. Assumes nothing.
use Prim.Native.Nat.{ℕ}
use mathlib.Core.List.{◌++◌}
use mathlib.Core.Path.{ap}
use native.Mathlib.Omega.{arith}
use Rattle.writer.proofs.OutputLaws.{parts_fit}
use Rattle.writer.proofs.PutLaws.{put_then, put_as}
use Rattle.writing.specs.Writing.{p_line, prefix_lines, clause_lines, written}
use Rattle.writer.proofs.fill.Goals as goal

pub put_p_line-a-requires : goal.put_p_line-a-requires
put_p_line-a-requires c =
    let given = c.args in
    let pre = c.requires in
    omega (
      arith,
      parts_fit given.kinds.now given.literals.now given.names.now given.variables given.clauses pre.0 pre.2
          c.ranges.variables.fits (λ i. omega (arith, c.shared_slice_known-2-1.given i)),
      pre.3,
    )

pub put_prefix-b-requires : goal.put_prefix-b-requires
put_prefix-b-requires c =
    let put_p_line_call = c.put_p_line-a in
    let given = c.args in
    let pre = c.requires in
    let first = put_p_line_call.ensures.ends in (
      pre.1,
      omega (
        arith,
        parts_fit given.kinds.now given.literals.now given.names.now given.variables given.clauses pre.0 pre.2
            c.ranges.variables.fits (λ i. omega (arith, c.shared_slice_known-2-1.given i)),
        pre.3,
        put_p_line_call.auto.text,
      ),
    )

pub put_clauses-requires : goal.put_clauses-requires
put_clauses-requires c =
    let put_prefix_call = c.put_prefix-b in
    let put_p_line_call = c.put_p_line-a in
    let given = c.args in
    let pre = c.requires in
    let first = put_p_line_call.ensures.ends in
    let second = put_prefix_call.ensures.ends in (
      λ i. omega (arith, pre.0.within i, pre.1),
      omega (
        arith,
        parts_fit given.kinds.now given.literals.now given.names.now given.variables
            given.clauses pre.0 pre.2 c.ranges.variables.fits
            (λ i. omega (arith, c.shared_slice_known-2-1.given i)),
        pre.3,
        put_p_line_call.auto.text,
        put_prefix_call.auto.text,
      ),
    )

pub returns : goal.returns
unfolding written
returns c =
    let given = c.args in
    put_as (ap (λ (n : ℕ). p_line given.variables n ++ prefix_lines given.kinds.now given.names.now ++ clause_lines given.names.now
    given.literals.now) c.requires.2)
    (put_then (put_then c.put_p_line-a.ensures
    c.put_prefix-b.ensures) c.put_clauses.ensures)
