-- `report::deliver` meets its contract: the definition's two cases are the two that the code tests. Assumes nothing.
use mathlib.Core.Path.{◌≡◌, sym}
use native.Mathlib.Omega.{arith}
use lib.ListN.{length}
use borrow.Author.Rules.{rules}
use Rattle.report.proofs.Laws.{put_fits, put_count_fits, put_short, put_count_short}
use Rattle.report.proofs.deliver.Goals as goal

pub returns-then-out-text : goal.returns-then-out-text
returns-then-out-text c =
    let given = c.args in
    let text = given.text.now in
    let out = given.out.now in record {
      value = sym (put_count_short text out (omega arith));
      out_after = sym (put_short text out (omega arith));
    }

pub returns : goal.returns
returns c =
    let given = c.args in
    let text = given.text.now in
    let out = given.out.now in
    let all : c.append.result ≡ length text = omega arith in record {
      value = omega (arith, put_count_fits text out (omega arith));
      out_after = rw (put_fits text out (omega arith), ← all) c.append.ensures.out_after;
    }
