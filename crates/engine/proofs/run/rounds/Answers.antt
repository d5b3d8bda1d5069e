-- `run::rounds` meets its contract. The loop's invariant: for the tables as they were lent, the rounds made so far are finished, and the
-- tables and their counts hold what they made. Assumes nothing.
use Prim.Native.Nat.{ℕ}
use mathlib.Core.Path.{◌≡◌, ap, ◌∙◌}
use native.Mathlib.Omega.{arith}
use lib.ListN.{length-replicate}
use Rattle.formula.specs.Formula.{max_entries}
use Rattle.engine.specs.declared.run.Answer.TheVariants.{Spent}
use Rattle.engine.specs.declared.run.Step.TheVariants.{NoModel, NoRoom}
use Rattle.engine.specs.Private.Prepared.{index_size, table_size}
use Rattle.engine.specs.Outcome.{areas, given}
use Rattle.engine.specs.Private.Growing.{said}
use Rattle.engine.proofs.run.LoopLaws.{fresh_going, number_in_marks, run_stopped, run_stopped_back, round_made, run_spent}
use Rattle.engine.proofs.run.RoundCounts.{fresh_counts, counts_stopped, counts_stopped_back, counts_made, counts_spent}
use Rattle.engine.proofs.run.FirstBlockLaws.{known_s, known_a}
use Rattle.engine.proofs.run.rounds.Goals as goal

pub loop-made-init : goal.loop-made-init
loop-made-init c =
    let q = c.args in
    λ a_found a_marks_found a_counts_found on_rows on_marks on_counts ready. (
      fresh_going (given q.kinds.now q.literals.now q.preferences.now (areas a_found a_marks_found a_counts_found q.existential_rows.now
          q.existential_marks.now q.existential_counts.now q.work.now) q.limit q.clear_every) c.start-start.result q.universals _ _
          q.work.now c.start-start.ensures ready on_rows on_marks,
      fresh_counts (given q.kinds.now q.literals.now q.preferences.now (areas a_found a_marks_found a_counts_found q.existential_rows.now
          q.existential_marks.now q.existential_counts.now q.work.now) q.limit q.clear_every) c.start-start.result q.universals
          q.work.now c.start-start.ensures ready _ on_counts,
    )

pub overflow_cast-mark : goal.overflow_cast-mark
overflow_cast-mark c =
    let q = c.args in
    let loop = c.loop-made in
    let running = loop.invariant q.universal_rows.now q.universal_marks.now q.universal_counts.now c.write_start.ensures.rows_after
    c.write_start.ensures.marks_after c.fill.ensures c.requires in
    let small = number_in_marks (given q.kinds.now q.literals.now q.preferences.now (areas q.universal_rows.now q.universal_marks.now q.universal_counts.now
    q.existential_rows.now q.existential_marks.now q.existential_counts.now q.work.now) q.limit q.clear_every)
    loop.made loop.universal loop.existential _ _ _ _ _ running.0 in
    omega arith

pub returns-in-NoModel-clause-shows_run : goal.returns-in-NoModel-clause-shows_run
returns-in-NoModel-clause-shows_run c =
    let q = c.args in
    let pre = c.requires in
    let loop = c.loop-made in
    let half = c.existential_half in
    let g = given q.kinds.now q.literals.now q.preferences.now (areas q.universal_rows.now q.universal_marks.now q.universal_counts.now
    q.existential_rows.now q.existential_marks.now q.existential_counts.now q.work.now) q.limit q.clear_every in
    let running = loop.invariant q.universal_rows.now q.universal_marks.now q.universal_counts.now c.write_start.ensures.rows_after
    c.write_start.ensures.marks_after c.fill.ensures pre in
    let of = c.prepare-used.ensures.prepared pre.passes (length-replicate {A = ℕ} max_entries 0)
    (length-replicate {A = ℕ} index_size 0) (length-replicate {A = ℕ} table_size 0) in
    let known = known_s g loop.made loop.universal loop.existential _ _ _ _ _ running.0 _ c.kept_rows-known.ensures in
    let first_half = half.ensures.over q.literals.now of known in
    run_stopped g loop.made loop.universal loop.existential _ _ _ _ _ running.0 half.result _ _ _ first_half c.loop-made-test.true
    NoModel c.in-NoModel.is (λ k e. cc) _ c.ended.ensures

pub returns-in-NoModel-clause-counts_show : goal.returns-in-NoModel-clause-counts_show
returns-in-NoModel-clause-counts_show c =
    let q = c.args in
    let pre = c.requires in
    let loop = c.loop-made in
    let half = c.existential_half in
    let g = given q.kinds.now q.literals.now q.preferences.now (areas q.universal_rows.now q.universal_marks.now q.universal_counts.now
    q.existential_rows.now q.existential_marks.now q.existential_counts.now q.work.now) q.limit q.clear_every in
    let running = loop.invariant q.universal_rows.now q.universal_marks.now q.universal_counts.now c.write_start.ensures.rows_after
    c.write_start.ensures.marks_after c.fill.ensures pre in
    let of = c.prepare-used.ensures.prepared pre.passes (length-replicate {A = ℕ} max_entries 0)
    (length-replicate {A = ℕ} index_size 0) (length-replicate {A = ℕ} table_size 0) in
    let known = known_s g loop.made loop.universal loop.existential _ _ _ _ _ running.0 _ c.kept_rows-known.ensures in
    let first_half = half.ensures.over q.literals.now of known in
    let is = c.in-NoModel.is in
    counts_stopped g loop.made loop.universal loop.existential _ _ _ _ _ running.0 _ _ running.1 pre half.result _ _ _ _ first_half
    (half.ensures.over_2 q.literals.now of known) c.loop-made-test.true (λ k e. cc)

pub returns-in-NoRoom-clause-shows_run : goal.returns-in-NoRoom-clause-shows_run
returns-in-NoRoom-clause-shows_run c =
    let q = c.args in
    let pre = c.requires in
    let loop = c.loop-made in
    let half = c.existential_half in
    let g = given q.kinds.now q.literals.now q.preferences.now (areas q.universal_rows.now q.universal_marks.now q.universal_counts.now
    q.existential_rows.now q.existential_marks.now q.existential_counts.now q.work.now) q.limit q.clear_every in
    let running = loop.invariant q.universal_rows.now q.universal_marks.now q.universal_counts.now c.write_start.ensures.rows_after
    c.write_start.ensures.marks_after c.fill.ensures pre in
    let of = c.prepare-used.ensures.prepared pre.passes (length-replicate {A = ℕ} max_entries 0)
    (length-replicate {A = ℕ} index_size 0) (length-replicate {A = ℕ} table_size 0) in
    let known = known_s g loop.made loop.universal loop.existential _ _ _ _ _ running.0 _ c.kept_rows-known.ensures in
    let first_half = half.ensures.over q.literals.now of known in
    run_stopped g loop.made loop.universal loop.existential _ _ _ _ _ running.0 half.result _ _ _ first_half c.loop-made-test.true
    NoRoom c.in-NoRoom.is (λ k e. cc) _ c.ended-in-NoRoom.ensures

pub returns-in-NoRoom-clause-counts_show : goal.returns-in-NoRoom-clause-counts_show
returns-in-NoRoom-clause-counts_show c =
    let q = c.args in
    let pre = c.requires in
    let loop = c.loop-made in
    let half = c.existential_half in
    let g = given q.kinds.now q.literals.now q.preferences.now (areas q.universal_rows.now q.universal_marks.now q.universal_counts.now
    q.existential_rows.now q.existential_marks.now q.existential_counts.now q.work.now) q.limit q.clear_every in
    let running = loop.invariant q.universal_rows.now q.universal_marks.now q.universal_counts.now c.write_start.ensures.rows_after
    c.write_start.ensures.marks_after c.fill.ensures pre in
    let of = c.prepare-used.ensures.prepared pre.passes (length-replicate {A = ℕ} max_entries 0)
    (length-replicate {A = ℕ} index_size 0) (length-replicate {A = ℕ} table_size 0) in
    let known = known_s g loop.made loop.universal loop.existential _ _ _ _ _ running.0 _ c.kept_rows-known.ensures in
    let first_half = half.ensures.over q.literals.now of known in
    let is = c.in-NoRoom.is in
    counts_stopped g loop.made loop.universal loop.existential _ _ _ _ _ running.0 _ _ running.1 pre half.result _ _ _ _ first_half
    (half.ensures.over_2 q.literals.now of known) c.loop-made-test.true (λ k e. cc)

pub returns-in-NoModel-universal_half-clause-shows_run : goal.returns-in-NoModel-universal_half-clause-shows_run
returns-in-NoModel-universal_half-clause-shows_run c =
    let q = c.args in
    let pre = c.requires in
    let loop = c.loop-made in
    let half = c.existential_half in
    let g = given q.kinds.now q.literals.now q.preferences.now (areas q.universal_rows.now q.universal_marks.now q.universal_counts.now
    q.existential_rows.now q.existential_marks.now q.existential_counts.now q.work.now) q.limit q.clear_every in
    let running = loop.invariant q.universal_rows.now q.universal_marks.now q.universal_counts.now c.write_start.ensures.rows_after
    c.write_start.ensures.marks_after c.fill.ensures pre in
    let of = c.prepare-used.ensures.prepared pre.passes (length-replicate {A = ℕ} max_entries 0)
    (length-replicate {A = ℕ} index_size 0) (length-replicate {A = ℕ} table_size 0) in
    let known = known_s g loop.made loop.universal loop.existential _ _ _ _ _ running.0 _ c.kept_rows-known.ensures in
    let first_half = half.ensures.over q.literals.now of known in
    let back = c.universal_half in
    let known_back = known_a g loop.made loop.universal loop.existential _ _ _ _ _ running.0 half.result _ _ _ first_half c.loop-made-test.true
    _ c.in-Grown.is in
    run_stopped_back g loop.made loop.universal loop.existential _ _ _ _ _ running.0 half.result _ _ _ first_half c.loop-made-test.true
    _ c.in-Grown.is back.result _ _ _ (back.ensures.over q.literals.now of known_back) NoModel c.in-NoModel-universal_half.is (λ k e. cc) _
    c.ended-in-NoModel-universal_half.ensures

pub returns-in-NoModel-universal_half-clause-counts_show : goal.returns-in-NoModel-universal_half-clause-counts_show
returns-in-NoModel-universal_half-clause-counts_show c =
    let q = c.args in
    let pre = c.requires in
    let loop = c.loop-made in
    let half = c.existential_half in
    let g = given q.kinds.now q.literals.now q.preferences.now (areas q.universal_rows.now q.universal_marks.now q.universal_counts.now
    q.existential_rows.now q.existential_marks.now q.existential_counts.now q.work.now) q.limit q.clear_every in
    let running = loop.invariant q.universal_rows.now q.universal_marks.now q.universal_counts.now c.write_start.ensures.rows_after
    c.write_start.ensures.marks_after c.fill.ensures pre in
    let of = c.prepare-used.ensures.prepared pre.passes (length-replicate {A = ℕ} max_entries 0)
    (length-replicate {A = ℕ} index_size 0) (length-replicate {A = ℕ} table_size 0) in
    let known = known_s g loop.made loop.universal loop.existential _ _ _ _ _ running.0 _ c.kept_rows-known.ensures in
    let first_half = half.ensures.over q.literals.now of known in
    let back = c.universal_half in
    let known_back = known_a g loop.made loop.universal loop.existential _ _ _ _ _ running.0 half.result _ _ _ first_half c.loop-made-test.true
    _ c.in-Grown.is in
    let is = c.in-NoModel-universal_half.is in
    counts_stopped_back g loop.made loop.universal loop.existential _ _ _ _ _ running.0 _ _ running.1 pre half.result _ _ _ _ first_half
    (half.ensures.over_2 q.literals.now of known) c.loop-made-test.true _ c.in-Grown.is back.result _ _ _ _
    (back.ensures.over q.literals.now of known_back) (back.ensures.over_2 q.literals.now of known_back) (λ k e. cc)

pub returns-in-NoRoom-universal_half-clause-shows_run : goal.returns-in-NoRoom-universal_half-clause-shows_run
returns-in-NoRoom-universal_half-clause-shows_run c =
    let q = c.args in
    let pre = c.requires in
    let loop = c.loop-made in
    let half = c.existential_half in
    let g = given q.kinds.now q.literals.now q.preferences.now (areas q.universal_rows.now q.universal_marks.now q.universal_counts.now
    q.existential_rows.now q.existential_marks.now q.existential_counts.now q.work.now) q.limit q.clear_every in
    let running = loop.invariant q.universal_rows.now q.universal_marks.now q.universal_counts.now c.write_start.ensures.rows_after
    c.write_start.ensures.marks_after c.fill.ensures pre in
    let of = c.prepare-used.ensures.prepared pre.passes (length-replicate {A = ℕ} max_entries 0)
    (length-replicate {A = ℕ} index_size 0) (length-replicate {A = ℕ} table_size 0) in
    let known = known_s g loop.made loop.universal loop.existential _ _ _ _ _ running.0 _ c.kept_rows-known.ensures in
    let first_half = half.ensures.over q.literals.now of known in
    let back = c.universal_half in
    let known_back = known_a g loop.made loop.universal loop.existential _ _ _ _ _ running.0 half.result _ _ _ first_half c.loop-made-test.true
    _ c.in-Grown.is in
    run_stopped_back g loop.made loop.universal loop.existential _ _ _ _ _ running.0 half.result _ _ _ first_half c.loop-made-test.true
    _ c.in-Grown.is back.result _ _ _ (back.ensures.over q.literals.now of known_back) NoRoom c.in-NoRoom-universal_half.is (λ k e. cc) _
    c.ended-in-NoRoom-universal_half.ensures

pub returns-in-NoRoom-universal_half-clause-counts_show : goal.returns-in-NoRoom-universal_half-clause-counts_show
returns-in-NoRoom-universal_half-clause-counts_show c =
    let q = c.args in
    let pre = c.requires in
    let loop = c.loop-made in
    let half = c.existential_half in
    let g = given q.kinds.now q.literals.now q.preferences.now (areas q.universal_rows.now q.universal_marks.now q.universal_counts.now
    q.existential_rows.now q.existential_marks.now q.existential_counts.now q.work.now) q.limit q.clear_every in
    let running = loop.invariant q.universal_rows.now q.universal_marks.now q.universal_counts.now c.write_start.ensures.rows_after
    c.write_start.ensures.marks_after c.fill.ensures pre in
    let of = c.prepare-used.ensures.prepared pre.passes (length-replicate {A = ℕ} max_entries 0)
    (length-replicate {A = ℕ} index_size 0) (length-replicate {A = ℕ} table_size 0) in
    let known = known_s g loop.made loop.universal loop.existential _ _ _ _ _ running.0 _ c.kept_rows-known.ensures in
    let first_half = half.ensures.over q.literals.now of known in
    let back = c.universal_half in
    let known_back = known_a g loop.made loop.universal loop.existential _ _ _ _ _ running.0 half.result _ _ _ first_half c.loop-made-test.true
    _ c.in-Grown.is in
    let is = c.in-NoRoom-universal_half.is in
    counts_stopped_back g loop.made loop.universal loop.existential _ _ _ _ _ running.0 _ _ running.1 pre half.result _ _ _ _ first_half
    (half.ensures.over_2 q.literals.now of known) c.loop-made-test.true _ c.in-Grown.is back.result _ _ _ _
    (back.ensures.over q.literals.now of known_back) (back.ensures.over_2 q.literals.now of known_back) (λ k e. cc)

pub loop-made-preserved : goal.loop-made-preserved
loop-made-preserved c =
    let q = c.args in
    let loop = c.loop-made in
    let half = c.existential_half in
    let back = c.universal_half in
    let of = c.prepare-used.ensures.prepared c.requires.passes (length-replicate {A = ℕ} max_entries 0)
    (length-replicate {A = ℕ} index_size 0) (length-replicate {A = ℕ} table_size 0) in
    λ a_found a_marks_found a_counts_found on_rows on_marks on_counts ready.
    let g = given q.kinds.now q.literals.now q.preferences.now (areas a_found a_marks_found a_counts_found q.existential_rows.now
    q.existential_marks.now q.existential_counts.now q.work.now) q.limit q.clear_every in
    let running = loop.invariant a_found a_marks_found a_counts_found on_rows on_marks on_counts ready in
    let known = known_s g loop.made loop.universal loop.existential _ _ _ _ _ running.0 _ c.kept_rows-known.ensures in
    let first_half = half.ensures.over q.literals.now of known in
    let known_back = known_a g loop.made loop.universal loop.existential _ _ _ _ _ running.0 half.result _ _ _ first_half
    c.loop-made-test.true _ c.in-Grown.is in (
      round_made g loop.made loop.universal loop.existential _ _ _ _ _ running.0 half.result _ _ _ first_half c.loop-made-test.true
          _ c.in-Grown.is back.result _ _ _ (back.ensures.over q.literals.now of known_back) _ c.in-Grown-universal_half.is,
      counts_made g loop.made loop.universal loop.existential _ _ _ _ _ running.0 _ _ running.1 ready half.result _ _ _ _
          first_half (half.ensures.over_2 q.literals.now of known) c.loop-made-test.true _ c.in-Grown.is back.result _ _
          _ _ (back.ensures.over q.literals.now of known_back) (back.ensures.over_2 q.literals.now of known_back),
    )

pub returns : goal.returns
returns c =
    let q = c.args in
    let pre = c.requires in
    let loop = c.loop-made in
    let g = given q.kinds.now q.literals.now q.preferences.now (areas q.universal_rows.now q.universal_marks.now q.universal_counts.now
    q.existential_rows.now q.existential_marks.now q.existential_counts.now q.work.now) q.limit q.clear_every in
    let running = loop.invariant q.universal_rows.now q.universal_marks.now q.universal_counts.now c.write_start.ensures.rows_after
    c.write_start.ensures.marks_after c.fill.ensures pre in
    let past : q.limit ≡ loop.made = omega (arith, c.loop-made-test.false, running.0.to_limit) in record {
      shows_run = run_spent g loop.made loop.universal loop.existential _ _ _ _ _ running.0 c.loop-made-test.false _
          (c.ended-2.ensures ∙ ap (λ (n : ℕ). said Spent n loop.universal loop.existential) past);
      counts_show = counts_spent g loop.made loop.universal loop.existential _ _ _ _ _ running.0 _ _ running.1 pre c.loop-made-test.false;
    }
