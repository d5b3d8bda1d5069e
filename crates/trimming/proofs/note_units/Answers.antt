-- `trimming::note_units` meets its contract. The loop's invariant: all clauses of one entry but those still named are noted.
-- Assumes nothing.
use Prim.Native.Nat.{ℕ, ◌+◌, ◌<◌}
use native.Mathlib.Omega.{arith}
use mathlib.Core.Path.{sym, ◌∙◌, ap, subst}
use mathlib.Core.List.{List, []}
use lib.ListN.{length, get_or, drop}
use Rattle.formula.proofs.Places.{drop_front}
use Rattle.codes.specs.Codes.{last_code}
use Rattle.trimming.specs.Private.Table.{Units, noted_unit}
use Rattle.trimming.proofs.LoopLaws.{named_stands}
use Rattle.trimming.proofs.FirstLaws.{units_noted, noted_length, code_small}
use Rattle.trimming.proofs.note_units.Goals as goal

pub note_unit-requires : goal.note_unit-requires
note_unit-requires c =
    let loop = c.loop-name in
    let pre = c.requires in
    let s = named_stands pre.0 pre.1 c.args.names.now loop.name-index c.loop-name-test.true pre.2 in (
      subst (λ (n : ℕ). n < last_code + 1) (sym c.unit-code.ensures) (code_small c.args.kinds.now pre.0 s),
      omega (arith, s.inside, pre.1),
      loop.invariant.1,
    )

pub loop-name-preserved : goal.loop-name-preserved
loop-name-preserved c =
    let loop = c.loop-name in
    let pre = c.requires in
    let kinds = c.args.kinds.now in
    let names = c.args.names.now in
    let table = c.args.table.now in
    let i = loop.name-index in
    let s = named_stands pre.0 pre.1 names i c.loop-name-test.true pre.2 in
    let f = c.note_unit.ensures ∙ ap (λ (x : ℕ). noted_unit x (get_or names i 0) loop.firsts) c.unit-code.ensures in (
      subst (λ (l : List ℕ). Units kinds l (drop (i + 1) names) [] 0 table) (sym f)
          (units_noted kinds loop.firsts (get_or names i 0) table (drop (i + 1) names) loop.invariant.1 (code_small kinds pre.0 s) s.inside s.first
          (subst (λ (l : List ℕ). Units kinds loop.firsts l [] 0 table) (drop_front names i 0 c.loop-name-test.true) loop.invariant.0)),
      ap length f ∙ noted_length kinds loop.firsts (get_or names i 0) table ∙ loop.invariant.1,
    )
