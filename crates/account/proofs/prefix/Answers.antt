-- `account::prefix` meets its contract. Assumes nothing.
use Prim.Native.Nat.{ℕ}
use native.Mathlib.Omega.{arith}
use mathlib.Core.Path.{ap₂, ◌∙◌}
use mathlib.Core.List.{◌++◌}
use borrow.Author.Rules.{rules}
use lib.ListN.{length, take}
use Rattle.std.proofs.lemmas.List.{length_push}
use Rattle.std.proofs.lemmas.Slice.Zip.{zip_turn, zip_end}
use Rattle.account.specs.Account.{prefix_line}
use Rattle.account.proofs.LineLaws.{prefix_next, prefix_all}
use Rattle.account.proofs.prefix.Goals as goal

pub loop-kind-preserved : goal.loop-kind-preserved
loop-kind-preserved c =
    let q = c.args in
    let turn = c.loop-kind in
    let here = zip_turn q.kinds.now q.names.now turn.yielded c.into_iter-kind-iterator.result turn.kind-iterator c.next.new.self c.next.result (search rules)
    (search rules) turn.yielded_by _ c.in-Some.is c.next.ensures.steps in
    let more = length_push turn.yielded (c.in-Some.kind, c.in-Some.name) in
    let line = c.kind_line-end.ensures.text_after ∙ ap₂ (λ (k n : ℕ). take turn.end turn.text ++ prefix_line k n) (here.2 0) (here.3 0) in
    rw more (omega arith, prefix_next (take q.at q.text.now) q.kinds.now q.names.now c.requires.0 (length turn.yielded) here.0 line turn.invariant.1)

pub returns : goal.returns
returns c =
    let q = c.args in
    let turn = c.loop-kind in
    let all = zip_end q.kinds.now q.names.now turn.yielded c.into_iter-kind-iterator.result turn.kind-iterator c.next.new.self c.next.result (search rules)
    (search rules) turn.yielded_by c.in-None.is c.next.ensures.steps in
    record {
      upper_bound = omega (arith, all, c.requires.0);
      text_after = turn.invariant.1 ∙ prefix_all (take q.at q.text.now) q.kinds.now q.names.now c.requires.0 (length turn.yielded)
          (omega (arith, all, c.requires.0));
    }
