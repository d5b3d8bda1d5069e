-- `witness::layout_of` meets its contract: each place is the one before it and a field's width. Assumes nothing.
use Prim.Native.Nat.{ℕ, ◌+◌, ◌*◌}
use mathlib.Core.Path.{◌≡◌, ap, ap₂, ◌∙◌}
use mathlib.Core.Bool.{Bool}
use native.Mathlib.Omega.{arith}
use lib.ListN.{drop}
use Rattle.witness.specs.File.{stands, has, if_stands, word, universal_at, universal_count, existential_at, existential_count}
use Rattle.witness.proofs.layout_of.Goals as goal

pub returns : goal.returns
returns c =
    let width_call = c.width-sizes in
    let byte_call = c.byte-map in
    let width2_call = c.width in
    let rows_width_call = c.rows_width in
    let rows_width2_call = c.rows_width-2 in
    let f = c.args.file.now in
    let claim : width_call.result ≡ if_stands (has 0 f) 1 = width_call.ensures.value ∙ ap (λ (t : Bool). if_stands t 1)
    (c.stands.ensures ∙ ap (stands 0) byte_call.ensures) in
    let sizes : width2_call.result ≡ if_stands (has 1 f) 4 = width2_call.ensures.value ∙ ap (λ (t : Bool). if_stands t 4)
    (c.stands-2.ensures ∙ ap (stands 1) byte_call.ensures) in
    let at_universal : 1 + width_call.result + width2_call.result ≡ universal_at f = omega (arith, claim, sizes) in
    let universal : rows_width_call.result ≡ if_stands (has 2 f) (2 + 16 * universal_count f) =
    rows_width_call.ensures.value ∙ ap₂ (λ (t : Bool) (k : ℕ). if_stands t (2 + 16 * if_stands t (word (drop k f))))
    (c.stands-3.ensures ∙ ap (stands 2) byte_call.ensures) at_universal in
    let at_existential : 1 + width_call.result + width2_call.result + rows_width_call.result ≡ existential_at f = omega (arith, at_universal, universal) in
    let existential : rows_width2_call.result ≡ if_stands (has 3 f) (2 + 16 * existential_count f) =
    rows_width2_call.ensures.value ∙ ap₂ (λ (t : Bool) (k : ℕ). if_stands t (2 + 16 * if_stands t (word (drop k f))))
    (c.stands-4.ensures ∙ ap (stands 3) byte_call.ensures) at_existential in
    let rounds : c.width-2.result ≡ if_stands (has 4 f) 2 = c.width-2.ensures.value ∙ ap (λ (t : Bool). if_stands t 2)
    (c.stands-5.ensures ∙ ap (stands 4) byte_call.ensures) in
    record {
      sizes = omega (arith, claim);
      universal = at_universal;
      existential = at_existential;
      rounds = omega (arith, at_existential, existential);
      end = omega (arith, at_existential, existential, rounds);
      near = omega (
        arith,
        at_existential,
        existential,
        width_call.ensures.upper_bound,
        width2_call.ensures.upper_bound,
        rows_width_call.ensures.upper_bound,
        rows_width2_call.ensures.upper_bound,
      );
    }
