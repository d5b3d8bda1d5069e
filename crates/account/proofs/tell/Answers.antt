-- `account::tell` meets its contract: the lines that are delivered stand one behind the other. Assumes nothing.
use Prim.Native.Nat.{ℕ}
use mathlib.Core.Path.{sym, ◌∙◌}
use lib.Dec.{lit≤}
use lib.ListN.{length-replicate}
use lib.Seq.{length-take-le}
use Rattle.account.proofs.AccountLaws.{delivered_short, lines_written}
use Rattle.account.proofs.RoomLaws.{longest, front_fits, few_of, rest_few, inside, side_so, side_ends, one_side, both_sides, all_lines}
use Rattle.account.proofs.tell.Goals as goal

pub slice_bounds-front_lines-end : goal.slice_bounds-front_lines-end
slice_bounds-front_lines-end c = sym (length-replicate {A = ℕ} longest 0)

pub front_lines-front-requires : goal.front_lines-front-requires
front_lines-front-requires c = (c.requires.as_many, c.requires.few, c.requires.first, c.requires.few_a, c.requires.few_s, front_fits)

pub side-half-requires : goal.side-half-requires
side-half-requires c = side_so _ _ _ _ _ c.args.end.universal c.args.universal_marks.now c.args.universal_counts.now (few_of c.requires.fewer c.requires.few)
    (lit≤ tt) c.requires.few_a c.requires.rows_a c.requires.marks_a c.requires.counts_a
    (one_side c.front_lines-front.ensures.upper_bound (c.front_lines-front.auto.text ∙ length-replicate {A = ℕ} longest 0))

pub overflow_sub-kinds : goal.overflow_sub-kinds
overflow_sub-kinds c = c.requires.fewer

pub side-whole-requires : goal.side-whole-requires
side-whole-requires c = side_so _ _ _ _ _ c.args.end.existential c.args.existential_marks.now c.args.existential_counts.now
    (rest_few c.args.universals c.requires.few) (lit≤ tt) c.requires.few_s c.requires.rows_s c.requires.marks_s c.requires.counts_s
    (both_sides c.front_lines-front.ensures.upper_bound (side_ends c.front_lines-front.result c.args.end.universal c.args.universal_marks.now c.requires.few_a
    c.requires.marks_a c.side-half.ensures.upper_bound) (c.side-half.auto.text ∙ c.front_lines-front.auto.text ∙ length-replicate {A = ℕ} longest 0))

pub slice_bounds-text-end : goal.slice_bounds-text-end
slice_bounds-text-end c = inside
    (all_lines c.front_lines-front.ensures.upper_bound (side_ends c.front_lines-front.result c.args.end.universal c.args.universal_marks.now c.requires.few_a
    c.requires.marks_a c.side-half.ensures.upper_bound) (side_ends c.side-half.result c.args.end.existential c.args.existential_marks.now c.requires.few_s
    c.requires.marks_s c.side-whole.ensures.upper_bound)) (c.side-whole.auto.text ∙ c.side-half.auto.text ∙ c.front_lines-front.auto.text ∙ length-replicate
    {A = ℕ} longest 0)

pub slice_bounds-append-end : goal.slice_bounds-append-end
slice_bounds-append-end c = sym
    (length-take-le c.side-whole.result c.side-whole.new.text
    (inside (all_lines c.front_lines-front.ensures.upper_bound (side_ends c.front_lines-front.result c.args.end.universal c.args.universal_marks.now
    c.requires.few_a c.requires.marks_a c.side-half.ensures.upper_bound) (side_ends c.side-half.result c.args.end.existential c.args.existential_marks.now
    c.requires.few_s c.requires.marks_s c.side-whole.ensures.upper_bound)) (c.side-whole.auto.text ∙ c.side-half.auto.text ∙ c.front_lines-front.auto.text ∙
    length-replicate {A = ℕ} longest 0)))

pub shape_of-out : goal.shape_of-out
shape_of-out c = c.append.auto.out

pub returns : goal.returns
returns c = let bytes_so = lines_written c.args.kinds.now c.args.names.now c.args.universals c.args.variables c.args.clauses c.args.end c.args.universal.now
    c.args.universal_marks.now c.args.universal_counts.now c.args.existential.now c.args.existential_marks.now c.args.existential_counts.now
    (inside c.requires.few_a c.requires.marks_a) (inside c.requires.few_s c.requires.marks_s) c.front_lines-front.ensures.text_after
    c.side-half.ensures.text_after c.side-whole.ensures.text_after in delivered_short c.side-whole.result c.side-whole.new.text c.args.out.now bytes_so
    c.append.ensures.value c.append.ensures.out_after
    (all_lines c.front_lines-front.ensures.upper_bound (side_ends c.front_lines-front.result c.args.end.universal c.args.universal_marks.now c.requires.few_a
    c.requires.marks_a c.side-half.ensures.upper_bound) (side_ends c.side-half.result c.args.end.existential c.args.existential_marks.now c.requires.few_s
    c.requires.marks_s c.side-whole.ensures.upper_bound))
