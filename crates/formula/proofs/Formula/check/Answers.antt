-- `formula::Formula::check` meets its contract: the tests stand in the order of the causes.
-- Assumes nothing.
use native.Mathlib.Omega.{arith}
use mathlib.Core.Path.{◌≡◌, sym, ◌∙◌}
use mathlib.Core.Bool.{false}
use Rattle.formula.specs.Causes.{cause_1, cause_2, cause_3}
use Rattle.formula.proofs.Order.{cause_1_many, cause_1_other, no_cause_1, cause_2_many, cause_2_zeros, cause_2_last, no_cause_2, cause_3_lowest}
use Rattle.formula.proofs.Order.{refused_1, refused_2, refused_3, none_refused, numbered}
use Rattle.formula.proofs.Formula.check.Goals as goal
use Rattle.formula.proofs.Formula.check.Goals.{Else-has_other_kind, Else-not-is_ended}

pub returns-then-unknowns-gt-UNKNOWNS : goal.returns-then-unknowns-gt-UNKNOWNS
returns-then-unknowns-gt-UNKNOWNS c =
    let both = numbered _ _ (refused_1 _ _ (cause_1_many _ (omega (arith, c.if-unknowns-gt-UNKNOWNS.true)))) in
    record { value = both.0; numbered = both.1 }

pub returns-then-has_other_kind : goal.returns-then-has_other_kind
returns-then-has_other_kind c =
    let both = numbered _ _ (refused_1 _ _ (cause_1_other _ (sym c.has_other_kind.ensures ∙ c.if-has_other_kind.true))) in
    record { value = both.0; numbered = both.1 }

-- Past the first two tests the kinds are not refused.
kinds_pass : (c : Else-has_other_kind) → cause_1 c.args.kinds.now ≡ false
kinds_pass c = no_cause_1 _ (omega (arith, c.if-unknowns-gt-UNKNOWNS.false)) (sym c.has_other_kind.ensures ∙ c.if-has_other_kind.false)

pub returns-then-entries-gt-ENTRIES : goal.returns-then-entries-gt-ENTRIES
returns-then-entries-gt-ENTRIES c =
    let both = numbered _ _ (refused_2 _ _ (kinds_pass (goal.at.returns-then-entries-gt-ENTRIES c).Else-has_other_kind) (cause_2_many _ (omega (arith, c.if-entries-gt-ENTRIES.true)))) in
    record { value = both.0; numbered = both.1 }

pub returns-then-clauses-gt-CLAUSES : goal.returns-then-clauses-gt-CLAUSES
returns-then-clauses-gt-CLAUSES c =
    let both = numbered _ _
    (refused_2 _ _ (kinds_pass (goal.at.returns-then-clauses-gt-CLAUSES c).Else-has_other_kind) (cause_2_zeros _ (omega (arith, c.count_zeros-clauses.ensures, c.if-clauses-gt-CLAUSES.true)))) in
    record { value = both.0; numbered = both.1 }

pub returns-then-not-is_ended : goal.returns-then-not-is_ended
returns-then-not-is_ended c =
    let both = numbered _ _ (refused_2 _ _ (kinds_pass (goal.at.returns-then-not-is_ended c).Else-has_other_kind)
    (cause_2_last _ (sym c.is_ended.ensures ∙ c.if-not-is_ended.true))) in
    record { value = both.0; numbered = both.1 }

-- Past the next three the entries are within the limits and end in 0.
entries_pass : (c : Else-not-is_ended) → cause_2 c.args.literals.now ≡ false
entries_pass c =
    no_cause_2 _
    (omega (arith, c.if-entries-gt-ENTRIES.false))
    (omega (arith, c.count_zeros-clauses.ensures, c.if-clauses-gt-CLAUSES.false))
    (sym c.is_ended.ensures ∙ c.if-not-is_ended.false)

pub returns-then-has_lowest : goal.returns-then-has_lowest
returns-then-has_lowest c =
    let both = numbered _ _
    (refused_3 _ _ (kinds_pass (goal.at.returns-then-has_lowest c).Else-has_other_kind) (entries_pass (goal.at.returns-then-has_lowest c).Else-not-is_ended)
    (cause_3_lowest _ _ (omega (arith, c.if-unknowns-gt-UNKNOWNS.false)) (sym c.has_lowest.ensures ∙ c.if-has_lowest.true))) in
    record { value = both.0; numbered = both.1 }

pub has_beyond-requires : goal.has_beyond-requires
has_beyond-requires c = sym c.has_lowest.ensures ∙ c.if-has_lowest.false

pub returns-then-has_beyond : goal.returns-then-has_beyond
unfolding cause_3
returns-then-has_beyond c =
    let both = numbered _ _ (refused_3 _ _ (kinds_pass (goal.at.returns-then-has_beyond c).Else-has_other_kind) (entries_pass (goal.at.returns-then-has_beyond c).Else-not-is_ended)
    (sym c.has_beyond.ensures ∙ c.if-has_beyond.true)) in
    record { value = both.0; numbered = both.1 }

pub returns-clause-value : goal.returns-clause-value
unfolding cause_3
returns-clause-value c = rw (c.count_universals.ensures, c.count_zeros-clauses.ensures) (numbered _ _ (none_refused _ _ (kinds_pass (goal.at.returns-clause-value c).Else-has_other_kind) (entries_pass (goal.at.returns-clause-value c).Else-not-is_ended)
    (sym c.has_beyond.ensures ∙ c.if-has_beyond.false))).0

pub returns-clause-numbered : goal.returns-clause-numbered
unfolding cause_3
returns-clause-numbered c =
    (numbered _ _ (none_refused _ _ (kinds_pass (goal.at.returns-clause-numbered c).Else-has_other_kind) (entries_pass (goal.at.returns-clause-numbered c).Else-not-is_ended)
    (sym c.has_beyond.ensures ∙ c.if-has_beyond.false))).1
