-- `fee::fee_with` meets its contract. Assumes nothing.
use native.Mathlib.Omega.{arith}
use mathlib.Core.Path.{refl, sym, ◌∙◌}
use Rattle.fee.proofs.LoadLaws.{falling, dear, loads, summable}
use Rattle.fee.proofs.BandsRight.{bands_right, sum_small}
use Rattle.fee.proofs.AnswerLaws.{refused_21, refused_22, charged_with_so}
use Rattle.fee.proofs.FeesRight.{fees_right}
use Rattle.fee.proofs.fee_with.Goals as goal

pub returns-then-is_no_table : goal.returns-then-is_no_table
returns-then-is_no_table c =
    let q = c.args in
    let none = sym c.is_no_table.ensures ∙ c.if-is_no_table.true in record {
      charged_with = refused_21 q.firsts.now q.prices.now q.kinds.now q.rounds none refl;
      proved = fees_right;
    }

pub returns-then-not-rises : goal.returns-then-not-rises
returns-then-not-rises c =
    let q = c.args in
    let table = sym c.is_no_table.ensures ∙ c.if-is_no_table.false in
    let fall = falling q.firsts.now q.prices.now (sym c.rises.ensures ∙ c.if-not-rises.true) in record {
      charged_with = refused_22 q.firsts.now q.prices.now q.kinds.now q.rounds table fall refl;
      proved = fees_right;
    }

pub returns-then-has_dearer : goal.returns-then-has_dearer
returns-then-has_dearer c =
    let q = c.args in
    let table = sym c.is_no_table.ensures ∙ c.if-is_no_table.false in
    let dearer = dear q.firsts.now q.prices.now (sym c.has_dearer.ensures ∙ c.if-has_dearer.true) in record {
      charged_with = refused_22 q.firsts.now q.prices.now q.kinds.now q.rounds table dearer refl;
      proved = fees_right;
    }

pub sum-requires : goal.sum-requires
sum-requires c =
    let q = c.args in
    summable (loads q.firsts.now q.prices.now c.is_no_table.ensures
    c.if-is_no_table.false c.rises.ensures c.if-not-rises.false
    c.has_dearer.ensures c.if-has_dearer.false)

pub fee_on-requires : goal.fee_on-requires
fee_on-requires c =
    let q = c.args in
    omega (
      arith,
      c.sum.ensures,
      sum_small q.firsts.now q.prices.now
          (loads q.firsts.now q.prices.now c.is_no_table.ensures
          c.if-is_no_table.false c.rises.ensures c.if-not-rises.false
          c.has_dearer.ensures c.if-has_dearer.false) q.rounds (omega arith),
    )

pub returns : goal.returns
returns c =
    let q = c.args in
    let firsts = q.firsts.now in
    let prices = q.prices.now in
    let table = c.is_no_table.ensures in
    let l = loads firsts prices table c.if-is_no_table.false c.rises.ensures c.if-not-rises.false
    c.has_dearer.ensures c.if-has_dearer.false in
    let summed = c.sum.ensures ∙ (bands_right firsts prices l).plain_sum q.rounds in record {
      charged_with = charged_with_so firsts prices q.kinds.now q.rounds c.sum.result l summed c.fee_on.ensures;
      proved = fees_right;
    }
