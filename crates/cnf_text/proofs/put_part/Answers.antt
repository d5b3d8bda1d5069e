-- `cnf_text::put_part` meets its contract. Assumes nothing.
use native.Mathlib.Omega.{arith}
use mathlib.Core.Path.{sym}
use Rattle.cnf_text.proofs.PlaceLaws.{zeros_low}
use Rattle.cnf_text.proofs.PartLaws.{part_put, first_most, times_fit}
use Rattle.cnf_text.proofs.put_part.Goals as goal

pub place-requires : goal.place-requires
place-requires c = (c.requires.0.few_unknowns, omega arith, zeros_low 128, omega (arith, c.requires.3, c.requires.4))

pub overflow_mul-first : goal.overflow_mul-first
overflow_mul-first c = omega (arith, c.requires.4)

pub overflow_mul-first-2 : goal.overflow_mul-first-2
overflow_mul-first-2 c = omega (arith, times_fit _ c.args.clauses c.args.i c.requires.4 (omega (arith, c.requires.0.few_clauses, c.requires.1)) c.requires.3)

pub overflow_add-first : goal.overflow_add-first
overflow_add-first c = omega (arith, first_most _ c.args.clauses c.args.i c.requires.4 (omega (arith, c.requires.0.few_clauses, c.requires.1)) c.requires.3)

pub slice_bounds-put_lines-end : goal.slice_bounds-put_lines-end
slice_bounds-put_lines-end c = sym c.place.ensures.1

pub put_lines-requires : goal.put_lines-requires
put_lines-requires c = (λ p. omega (arith, c.requires.0.within p, c.requires.0.few_unknowns, c.place.ensures.1), c.place.ensures.2, first_most _ c.args.clauses c.args.i c.requires.4 (omega (arith, c.requires.0.few_clauses, c.requires.1)) c.requires.3, omega (arith, c.requires.0.few_entries, c.requires.5), c.requires.0.few_entries)

pub returns : goal.returns
returns c = part_put c.args.kinds.now c.args.literals.now c.args.claim c.args.rows.now c.requires.0 c.requires.2 c.args.i c.requires.3 c.args.clauses c.requires.1 _ c.place.ensures.0 c.put_lines.ensures
