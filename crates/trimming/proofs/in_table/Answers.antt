-- `trimming::in_table` meets its contract.
-- Assumes nothing.
use native.Mathlib.Omega.{arith}
use mathlib.Core.Path.{refl, ◌∙◌, ap}
use mathlib.Core.List.{◌++◌}
use lib.ListN.{length, drop}
use Rattle.trimming.proofs.TrimLaws.{filled_codes, codes_laid, same_codes_left, left_trimmed}
use Rattle.trimming.proofs.in_table.Goals as goal

pub with_index-requires : goal.with_index-requires
with_index-requires c =
    let encode_entries_call = c.encode_entries in
    let given = c.args in
    let pre = c.requires in (
      codes_laid given.kinds.now given.literals.now pre.0 encode_entries_call.new.codes
          (encode_entries_call.ensures ∙ filled_codes given.kinds.now given.literals.now pre.0 given.table.now pre.2),
      pre.0.few_unknowns,
      omega (arith, encode_entries_call.auto.codes, pre.2, pre.0.few_entries),
      refl,
    )

pub copy_left-requires : goal.copy_left-requires
copy_left-requires c =
    let with_index_call = c.with_index in
    let encode_entries_call = c.encode_entries in
    let given = c.args in
    let pre = c.requires in (
      same_codes_left given.kinds.now given.literals.now pre.0 encode_entries_call.new.codes with_index_call.new.table
          (encode_entries_call.ensures ∙ filled_codes given.kinds.now given.literals.now pre.0 given.table.now pre.2)
          with_index_call.ensures,
      pre.1,
    )

pub returns : goal.returns
returns c =
    let with_index_call = c.with_index in
    let encode_entries_call = c.encode_entries in
    let given = c.args in
    let pre = c.requires in
    let kinds = given.kinds.now in
    let literals = given.literals.now in record {
      value = c.copy_left.ensures.value ∙ ap length (left_trimmed kinds literals pre.0 encode_entries_call.new.codes with_index_call.new.table
          (encode_entries_call.ensures ∙ filled_codes kinds literals pre.0 given.table.now pre.2) with_index_call.ensures);
      output_after = c.copy_left.ensures.output_after ∙ ap (λ l. l ++ drop c.copy_left.result given.output.now)
          (left_trimmed kinds literals pre.0 encode_entries_call.new.codes with_index_call.new.table
          (encode_entries_call.ensures ∙ filled_codes kinds literals pre.0 given.table.now pre.2) with_index_call.ensures);
    }
