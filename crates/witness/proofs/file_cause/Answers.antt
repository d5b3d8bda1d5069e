-- `witness::file_cause` meets its contract: the definition's tests are the code's, in their order.
-- Assumes nothing.
use Prim.Native.Nat.{ℕ}
use Rattle.cause.specs.Cause.{unless_cause}
use mathlib.Core.Path.{sym, ap, ◌∙◌}
use native.Mathlib.Omega.{arith}
use lib.ListN.{length, get_or}
use borrow.Author.Tests.{eq-eqb, ne_eqb, lt-ltb, le-ltb}
use Rattle.witness.specs.declared.Record.{Record}
use Rattle.witness.specs.File.{end_of, record_of, content_cause, file_cause}
use Rattle.witness.proofs.TestLaws.{stop, pass}
use Rattle.witness.proofs.file_cause.Goals as goal

pub returns-then-is_empty : goal.returns-then-is_empty
unfolding file_cause
returns-then-is_empty c = ap (λ (n : ℕ). unless_cause n tt) (sym (stop _ (sym c.is_empty.ensures ∙ c.if-is_empty.true)))

pub returns-then-record-gt-MAP : goal.returns-then-record-gt-MAP
unfolding file_cause record_of
returns-then-record-gt-MAP c =
    let f = c.args.file.now in
    let map = ap (λ (r : Record). r.map) c.requires.1 in
    let some = sym c.is_empty.ensures ∙ c.if-is_empty.false in
    ap (λ (n : ℕ). unless_cause n tt) (sym (pass 18 some ∙ stop _ (lt-ltb 31 (get_or f 0 0) (omega (arith, map, c.if-record-gt-MAP.true)))))

pub returns-then-file-end : goal.returns-then-file-end
unfolding file_cause record_of
returns-then-file-end c =
    let f = c.args.file.now in
    let given = c.requires in
    let map = ap (λ (r : Record). r.map) given.1 in
    let some = sym c.is_empty.ensures ∙ c.if-is_empty.false in
    let known = le-ltb 31 (get_or f 0 0) (omega (arith, map, c.if-record-gt-MAP.false)) in
    let not_whole = ne_eqb (length f) (end_of f) (λ e. c.if-file-end.true (e ∙ sym given.0)) in
    ap (λ (n : ℕ). unless_cause n tt) (sym (pass 18 some ∙ pass 17 known ∙ pass (content_cause (record_of f)) not_whole))

pub returns : goal.returns
unfolding file_cause record_of
returns c =
    let f = c.args.file.now in
    let given = c.requires in
    let map = ap (λ (r : Record). r.map) given.1 in
    let some = sym c.is_empty.ensures ∙ c.if-is_empty.false in
    let known = le-ltb 31 (get_or f 0 0) (omega (arith, map, c.if-record-gt-MAP.false)) in
    let whole = eq-eqb (length f) (end_of f) (omega (arith, given.0, c.if-file-end.false)) in
    c.content_cause.ensures
    ∙ ap (λ (n : ℕ). unless_cause n tt) (ap content_cause given.1 ∙ sym (pass 18 some ∙ pass 17 known ∙ stop 18 whole))
