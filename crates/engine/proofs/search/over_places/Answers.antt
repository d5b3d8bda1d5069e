-- `over_places` meets its contract. Assumes nothing.
use Prim.Native.Nat.{ℕ}
use mathlib.Core.Path.{sym, ap, ◌∙◌, subst}
use mathlib.Core.Bool.{Bool, true≢false}
use mathlib.Core.List.{List}
use lib.ListN.{replicate}
use Rattle.search_cells.specs.Steps.{rows_filled}
use Rattle.engine.specs.Private.Whole.{OverCells}
use Rattle.engine.proofs.search.over_places.Goals as goal

pub over_cells-requires : goal.over_cells-requires
over_cells-requires c =
    let pre = c.requires in
    record {
      tables = pre.tables;
      side_fits = pre.side_fits;
      some_row = pre.some_row;
      few = pre.few;
      inside = pre.inside;
      met = pre.met;
      area = c.fill.auto.work ∙ pre.area;
    }

pub shape_of-work-then-over_cells : goal.shape_of-work-then-over_cells
shape_of-work-then-over_cells c = c.pack.auto.work ∙
    c.over_cells.auto.work ∙
    c.fill.auto.work

pub returns-then-over_cells : goal.returns-then-over_cells
returns-then-over_cells c =
    let over_cells_call = c.over_cells in
    let fill_call = c.fill in
    let given = c.args in
    let kinds = given.kinds.now in
    let place = given.place.now in
    let side = given.side in
    record {
      searched = over_cells_call.new.work;
      sized = over_cells_call.auto.work ∙
          fill_call.auto.work;
      decided = subst (λ (b : Bool). OverCells kinds given.codes.now given.index.now given.terms.now
          given.preferences.now given.own.now given.known place side (rows_filled kinds given.rows.now place side given.work.now)
          over_cells_call.new.work b) c.if-over_cells.true
          (subst (λ (w : List ℕ). OverCells kinds given.codes.now given.index.now given.terms.now given.preferences.now given.own.now
          given.known place side w over_cells_call.new.work over_cells_call.result) fill_call.ensures
          over_cells_call.ensures);
      yields = λ e. c.pack.ensures;
      clears = λ e. absurd (true≢false e);
    }

pub shape_of-work-else-over_cells : goal.shape_of-work-else-over_cells
shape_of-work-else-over_cells c = c.clear.auto.area ∙
    c.over_cells.auto.work ∙
    c.fill.auto.work

pub returns-else-over_cells : goal.returns-else-over_cells
returns-else-over_cells c =
    let over_cells_call = c.over_cells in
    let fill_call = c.fill in
    let given = c.args in
    let kinds = given.kinds.now in
    let place = given.place.now in
    let side = given.side in
    record {
      searched = over_cells_call.new.work;
      sized = over_cells_call.auto.work ∙
          fill_call.auto.work;
      decided = subst (λ (b : Bool). OverCells kinds given.codes.now given.index.now given.terms.now
          given.preferences.now given.own.now given.known place side (rows_filled kinds given.rows.now place side given.work.now)
          over_cells_call.new.work b) c.if-over_cells.false
          (subst (λ (w : List ℕ). OverCells kinds given.codes.now given.index.now given.terms.now given.preferences.now given.own.now
          given.known place side w over_cells_call.new.work over_cells_call.result) fill_call.ensures
          over_cells_call.ensures);
      yields = λ e. absurd (true≢false (sym e));
      clears = λ e. c.clear.ensures ∙ ap (λ (n : ℕ). replicate n 0)
          (over_cells_call.auto.work ∙ fill_call.auto.work);
    }
