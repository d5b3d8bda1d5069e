-- `reply::row_fits` meets its contract. Assumes nothing.
use Prim.Native.Nat.{ℕ}
use native.Mathlib.Omega.{arith}
use mathlib.Core.Path.{◌≡◌, sym, ap, ◌∙◌}
use mathlib.Core.Bool.{true, false}
use borrow.Author.Rules.{rules}
use lib.ListN.{length, length-map}
use Rattle.std.proofs.lemmas.List.{length_push}
use Rattle.std.proofs.lemmas.Slice.Zip.{zip_turn, zip_end}
use Rattle.formula.specs.Formula.{kind_of}
use Rattle.rows.specs.Row.{bit_of}
use Rattle.rows.specs.Table.{row_at}
use Rattle.judge.specs.Judge.{claims_true}
use Rattle.restriction.specs.Outcome.{value_of, values_of}
use Rattle.case_rules.specs.Casebook.{offered}
use Rattle.reply.specs.Private.Fitting.{one_if, agrees as agreeing}
use Rattle.reply.proofs.FitLaws.{one_if_is, one_if_most, fits_end, fits_differs, fits_agrees}
use Rattle.reply.proofs.row_fits.Goals as goal

pub returns-then-not-agrees : goal.returns-then-not-agrees
returns-then-not-agrees c =
    let given = c.args in
    let turn = c.loop-kind in
    let claim = claims_true given.claim in
    let here = zip_turn given.kinds.now given.moves.now turn.yielded c.into_iter-kind-iterator.result turn.kind-iterator c.next.new.self c.next.result
    (search rules) (search rules) turn.yielded_by _ c.in-Some.is c.next.ensures.steps in
    let no : c.agrees.result ≡ false = search rules in
    sym
    (turn.invariant.1
    ∙ fits_differs claim (bit_of (row_at given.rows.now given.i)) given.kinds.now given.moves.now (length turn.yielded) turn.bit here.1 c.requires.1
    (c.is_winners-own.ensures ∙ ap (λ (k : ℕ). offered claim (kind_of k)) (here.2 0)) c.bit.ensures
    (c.agrees.ensures ∙ ap (λ (v : ℕ). agreeing c.is_winners-own.result (value_of v) c.bit.result) (here.3 0))
    no)

pub loop-kind-preserved : goal.loop-kind-preserved
loop-kind-preserved c =
    let given = c.args in
    let turn = c.loop-kind in
    let claim = claims_true given.claim in
    let here = zip_turn given.kinds.now given.moves.now turn.yielded c.into_iter-kind-iterator.result turn.kind-iterator c.next.new.self c.next.result
    (search rules) (search rules) turn.yielded_by _ c.in-Some.is c.next.ensures.steps in
    let yes : c.agrees.result ≡ true = search rules in
    let one : c.from-bit.result ≡ one_if c.is_winners-own.result = c.from-bit.ensures ∙ one_if_is c.is_winners-own.result in
    let most = one_if_most c.is_winners-own.result in
    let more = length_push turn.yielded (c.in-Some.kind, c.in-Some.value) in
    rw more (
      omega arith,
      turn.invariant.1
          ∙ fits_agrees claim (bit_of (row_at given.rows.now given.i)) given.kinds.now given.moves.now (length turn.yielded) turn.bit here.1 c.requires.1
          (c.is_winners-own.ensures ∙ ap (λ (k : ℕ). offered claim (kind_of k)) (here.2 0)) c.bit.ensures
          (c.agrees.ensures ∙ ap (λ (v : ℕ). agreeing c.is_winners-own.result (value_of v) c.bit.result) (here.3 0))
          yes c.from-bit.result one,
    )

pub returns : goal.returns
returns c =
    let given = c.args in
    let turn = c.loop-kind in
    let all = zip_end given.kinds.now given.moves.now turn.yielded c.into_iter-kind-iterator.result turn.kind-iterator c.next.new.self c.next.result
    (search rules) (search rules) turn.yielded_by c.in-None.is c.next.ensures.steps in
    sym
    (turn.invariant.1
    ∙ fits_end (claims_true given.claim) (bit_of (row_at given.rows.now given.i)) given.kinds.now (values_of given.moves.now) (length turn.yielded) turn.bit
    (omega (arith, all, c.requires.1, length-map given.moves.now value_of)))
