-- Each buffer is lent whole. -- No answer is searched for, since a search would write out the two million zeros of the file's buffer. Assumes nothing.
use Prim.Native.Nat.{ℕ}
use mathlib.Core.Path.{sym, ◌∙◌}
use lib.ListN.{length-replicate}
use Rattle.vulzhenn_judge.proofs.main.Goals as goal

pub slice_bounds-print_finding-end : goal.slice_bounds-print_finding-end
slice_bounds-print_finding-end c = sym (c.read_text.auto.buf ∙ length-replicate {A = ℕ} 65536 0)

pub slice_bounds-print_finding-end-2 : goal.slice_bounds-print_finding-end-2
slice_bounds-print_finding-end-2 c = sym (length-replicate {A = ℕ} 2097133 0)
