-- `trimmed_text::put_trimmed` meets its contract. Assumes nothing.
use lib.Seq.{length-take-le}
use mathlib.Core.Path.{sym, ap, ◌∙◌}
use Rattle.report.specs.Report.{put, put_count}
use Rattle.trimmed_text.proofs.CallLaws.{left_output}
use Rattle.writing.proofs.WritingRight.{accepted_so}
use Rattle.trimmed_text.proofs.put_trimmed.Goals as goal

pub trim-entries-requires : goal.trim-entries-requires
trim-entries-requires c = (c.requires.accepted, (accepted_so c.args.kinds.now c.args.literals.now c.requires.accepted).few_entries)

pub slice_bounds-write-end : goal.slice_bounds-write-end
slice_bounds-write-end c = sym (length-take-le _ _ c.trim-entries.ensures.upper_bound)

pub returns : goal.returns
returns c = let so = left_output c.args.kinds.now c.args.literals.now c.args.names.now c.args.variables c.requires c.trim-entries.ensures.left_after in record {
  value = c.write.ensures.counted ∙ ap (λ bytes. put_count bytes c.args.out.now) so;
  out_after = c.write.ensures.written ∙ ap (λ bytes. put bytes c.args.out.now) so;
}
