-- What is written lies in the buffer: `put_finding` says how many bytes of it it wrote. Assumes nothing.
use mathlib.Core.Path.{sym}
use lib.Seq.{length-take-le}
use Rattle.report.proofs.Lengths.{within}
use Rattle.vulzhenn_judge.proofs.print_finding.Goals as goal

pub slice_bounds-out-end : goal.slice_bounds-out-end
slice_bounds-out-end c = within _ _ c.put_finding-count.ensures.value c.put_finding-count.ensures.out_after

pub slice_bounds-write_all-end : goal.slice_bounds-write_all-end
slice_bounds-write_all-end c = sym (length-take-le _ _ (within _ _ c.put_finding-count.ensures.value c.put_finding-count.ensures.out_after))
