-- `witness::write_cause` meets its contract: the definition's tests are the code's, in their order.
-- Assumes nothing.
use Prim.Native.Nat.{ℕ}
use Rattle.std.specs.Result.{is_err}
use Rattle.cause.specs.Cause.{unless_cause}
use mathlib.Core.Path.{◌≡◌, sym, ap, ◌∙◌}
use native.Mathlib.Omega.{arith}
use borrow.Author.Tests.{lt-ltb, le-ltb}
use Rattle.witness.specs.File.{content_cause, size, write_cause}
use Rattle.witness.proofs.TestLaws.{stop, pass, content_passed, write_content}
use Rattle.witness.proofs.NumberLaws.{no_cause, some_cause}
use borrow.Author.Rules.{rules}
use Rattle.witness.proofs.write_cause.Goals as goal

pub returns-then-record-gt-MAP : goal.returns-then-record-gt-MAP
unfolding write_cause
returns-then-record-gt-MAP c = ap (λ (n : ℕ). unless_cause n tt) (sym (stop _ (lt-ltb 31 c.args.«record».map c.if-record-gt-MAP.true)))

pub returns-then-room-size_of : goal.returns-then-room-size_of
unfolding write_cause
returns-then-room-size_of c =
    let given = c.args in
    let known = le-ltb 31 given.«record».map c.if-record-gt-MAP.false in
    ap (λ (n : ℕ). unless_cause n tt)
    (sym (pass 17 known ∙ stop _ (lt-ltb given.room (size given.«record») (omega (arith, c.if-room-size_of.true, c.size_of.ensures)))))

pub returns-in_err-content_cause : goal.returns-in_err-content_cause
returns-in_err-content_cause c =
    let given = c.args in
    let r = given.«record» in
    let known = le-ltb 31 r.map c.if-record-gt-MAP.false in
    let room = le-ltb given.room (size r) (omega (arith, c.if-room-size_of.false, c.size_of.ensures)) in
    let same : c.from_residual.result ≡ c.content_cause.result = search rules in
    let wrong = some_cause (content_cause r) tt (sym (ap is_err (sym c.in_err-content_cause.was ∙ c.content_cause.ensures))) in
    same ∙ c.content_cause.ensures
    ∙ ap (λ (n : ℕ). unless_cause n tt) (sym (write_content r given.universal.now given.existential.now given.room known room wrong))

pub returns-then-lent_too_few : goal.returns-then-lent_too_few
unfolding write_cause
returns-then-lent_too_few c =
    let given = c.args in
    let r = given.«record» in
    let known = le-ltb 31 r.map c.if-record-gt-MAP.false in
    let room = le-ltb given.room (size r) (omega (arith, c.if-room-size_of.false, c.size_of.ensures)) in
    let content = content_passed r (no_cause (content_cause r) tt (sym (ap is_err (sym c.in_ok-content_cause.was ∙ c.content_cause.ensures)))) in
    ap (λ (n : ℕ). unless_cause n tt)
    (sym (pass 17 known ∙ pass 18 room ∙ pass 7 content.0 ∙ pass 4 content.1 ∙ stop 0 (sym c.lent_too_few.ensures ∙ c.if-lent_too_few.true)))

pub returns : goal.returns
unfolding write_cause
returns c =
    let given = c.args in
    let r = given.«record» in
    let known = le-ltb 31 r.map c.if-record-gt-MAP.false in
    let room = le-ltb given.room (size r) (omega (arith, c.if-room-size_of.false, c.size_of.ensures)) in
    let content = content_passed r (no_cause (content_cause r) tt (sym (ap is_err (sym c.in_ok-content_cause.was ∙ c.content_cause.ensures)))) in
    ap (λ (n : ℕ). unless_cause n tt)
    (sym (pass 17 known ∙ pass 18 room ∙ pass 7 content.0 ∙ pass 4 content.1 ∙ pass 4 (sym c.lent_too_few.ensures ∙ c.if-lent_too_few.false)))
