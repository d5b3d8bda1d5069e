-- `gates::put` meets its contract. Assumes nothing.
use mathlib.Core.Path.{sym, ap, ◌∙◌}
use lib.ListN.{length}
use Rattle.formula.proofs.Opposite.{nat_abs_other}
use Rattle.gates.specs.Put.{place_behind, laid}
use Rattle.gates.proofs.FunctionLaws.{own_lowest, input_lowest, and_entries, or_entries, xor_entries}
use Rattle.gates.proofs.SetLaws.{put_none}
use Rattle.gates.proofs.put.Goals as goal

pub returns-then-literal-eq-LOWEST : goal.returns-then-literal-eq-LOWEST
returns-then-literal-eq-LOWEST c =
    let given = c.args in
    let both = put_none given.entries.now given.at _ (own_lowest given.function given.literal given.inputs.now c.if-literal-eq-LOWEST.true) in
    record { value = both.0; entries_after = both.1 }

pub returns-then-has_lowest : goal.returns-then-has_lowest
returns-then-has_lowest c =
    let given = c.args in
    let both = put_none given.entries.now given.at _ (input_lowest given.function given.literal given.inputs.now
    (sym c.has_lowest.ensures ∙ c.if-has_lowest.true)) in
    record { value = both.0; entries_after = both.1 }

pub returns-in-And : goal.returns-in-And
returns-in-And c =
    let if1 = c.if-literal-eq-LOWEST in
    let fits = c.ranges in
    let given = c.args in
    let made = and_entries given.function given.literal given.inputs.now fits.literal if1.false
    (nat_abs_other given.literal fits.literal if1.false) (sym c.has_lowest.ensures ∙
    c.if-has_lowest.false) c.in-And.is in record {
      value = c.gather.ensures.value ∙ ap (place_behind (length given.entries.now) given.at) made;
      entries_after = c.gather.ensures.entries_after ∙ ap
          (laid given.entries.now given.at) made;
    }

pub returns-in-Or : goal.returns-in-Or
returns-in-Or c =
    let if1 = c.if-literal-eq-LOWEST in
    let fits = c.ranges in
    let given = c.args in
    let made = or_entries given.function given.literal given.inputs.now fits.literal if1.false
    (nat_abs_other given.literal fits.literal if1.false) (sym c.has_lowest.ensures ∙
    c.if-has_lowest.false) c.in-Or.is in record {
      value = c.gather-in-Or.ensures.value ∙ ap (place_behind (length given.entries.now) given.at) made;
      entries_after = c.gather-in-Or.ensures.entries_after ∙ ap
          (laid given.entries.now given.at) made;
    }

pub returns-in-Xor : goal.returns-in-Xor
returns-in-Xor c =
    let if1 = c.if-literal-eq-LOWEST in
    let fits = c.ranges in
    let given = c.args in
    let made = xor_entries given.function given.literal given.inputs.now fits.literal if1.false
    (nat_abs_other given.literal fits.literal if1.false) (sym c.has_lowest.ensures ∙
    c.if-has_lowest.false) c.in-Xor.is in record {
      value = c.differ.ensures.value ∙ ap (place_behind (length given.entries.now) given.at) made;
      entries_after = c.differ.ensures.entries_after ∙ ap
          (laid given.entries.now given.at) made;
    }
