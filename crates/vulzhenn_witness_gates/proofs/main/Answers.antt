-- What is written lies in the buffers: the call says how many bytes of each it wrote. Assumes nothing.
use mathlib.Core.Path.{sym}
use lib.Seq.{length-take-le}
use Rattle.report.proofs.Lengths.{within}
use Rattle.vulzhenn_witness_gates.proofs.main.Goals as goal

pub slice_bounds-file-end : goal.slice_bounds-file-end
slice_bounds-file-end c = within _ _ c.certify_gates-counts.ensures.delivered.file_counted c.certify_gates-counts.ensures.delivered.file_written

pub slice_bounds-write_all-end : goal.slice_bounds-write_all-end
slice_bounds-write_all-end c = sym (length-take-le _ _ (within _ _ c.certify_gates-counts.ensures.delivered.file_counted c.certify_gates-counts.ensures.delivered.file_written))

pub slice_bounds-lines-end : goal.slice_bounds-lines-end
slice_bounds-lines-end c = within _ _ c.certify_gates-counts.ensures.delivered.lines_counted c.certify_gates-counts.ensures.delivered.lines_written

pub slice_bounds-write_all-end-2 : goal.slice_bounds-write_all-end-2
slice_bounds-write_all-end-2 c = sym (length-take-le _ _ (within _ _ c.certify_gates-counts.ensures.delivered.lines_counted c.certify_gates-counts.ensures.delivered.lines_written))
