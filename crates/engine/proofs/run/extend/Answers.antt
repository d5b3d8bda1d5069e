-- `run::extend` meets its contract. Assumes nothing.
use mathlib.Core.Path.{ap, ◌∙◌}
use Rattle.engine.specs.Private.Growing.{step_of}
use Rattle.engine.proofs.run.ExtendLaws.{no_model_extended, model_extended}
use Rattle.engine.proofs.run.CountingLaws.{packs}
use Rattle.engine.proofs.run.extend.Goals as goal

pub returns-then-not-finds : goal.returns-then-not-finds
returns-then-not-finds c =
    let finds_call = c.finds in
    let given = c.args in record {
      over = λ literals of led from t from_found found found_marks passes counted counted_t held held_t long.
          no_model_extended given.kinds.now literals given.preferences.now given.others.now given.other_count given.universal
          given.work.now from from_found passes counted held long
          given.mark given.rows.now given.marks.now given.count t found found_marks counted_t held_t
          _ _ (finds_call.ensures.over literals of led) (finds_call.ensures.over_2 literals of led) c.if-not-finds.true;
      over_2 = λ literals of led. packs given.kinds.now literals given.preferences.now given.others.now given.other_count given.universal
          given.work.now _ (finds_call.ensures.over_2 literals of led);
    }

pub returns : goal.returns
returns c =
    let grow_call = c.grow-growth in
    let finds_call = c.finds in
    let given = c.args in record {
      over = λ literals of led from t from_found found found_marks passes counted counted_t held held_t long.
          model_extended given.kinds.now literals given.preferences.now given.others.now given.other_count given.universal given.work.now
          from from_found passes counted held long
          given.mark given.rows.now given.marks.now given.count t found found_marks counted_t held_t
          _ _ (finds_call.ensures.over literals of led) (finds_call.ensures.over_2 literals of led) c.if-not-finds.false
          _ _ _ (c.after_growth.ensures ∙ ap step_of grow_call.ensures.value) grow_call.ensures.rows_after
          grow_call.ensures.marks_after;
      over_2 = λ literals of led. packs given.kinds.now literals given.preferences.now given.others.now given.other_count given.universal
          given.work.now _ (finds_call.ensures.over_2 literals of led);
    }
