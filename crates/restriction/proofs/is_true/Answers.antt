-- `restriction::is_true` meets its contract.
-- Assumes nothing.
use Prim.Native.Nat.{◌-◌}
use mathlib.Core.Path.{sym, ap, ◌∙◌}
use mathlib.Core.Bool.{Bool, true, false}
use lib.ListN.{get_or}
use Rattle.case_rules.specs.Restricted.{standing}
use Rattle.restriction.specs.Outcome.{values_of}
use Rattle.restriction.specs.Private.Walk.{meets}
use Rattle.restriction.proofs.EntryLaws.{meets_known, meets_behind, value_positive, value_negative}
use Rattle.restriction.proofs.is_true.Goals as goal

pub returns-then-negative : goal.returns-then-negative
returns-then-negative c =
    let values = c.args.values.now in
    let v = c.args.name - 1 in
    let by_sign_lem = ap (λ (s : Bool). meets s (standing (values_of values) v)) c.if-negative.true in
    sym (by_sign_lem ∙ meets_known true values v c.if-v-values.true ∙ value_negative (get_or values v 0))

pub returns-else-negative : goal.returns-else-negative
returns-else-negative c =
    let values = c.args.values.now in
    let v = c.args.name - 1 in
    let by_sign_lem = ap (λ (s : Bool). meets s (standing (values_of values) v)) c.if-negative.false in
    sym (by_sign_lem ∙ meets_known false values v c.if-v-values.true ∙ value_positive (get_or values v 0))

pub returns-else-v-values : goal.returns-else-v-values
returns-else-v-values c = sym (meets_behind c.args.negative c.args.values.now (c.args.name - 1) c.if-v-values.false)
