-- `witness::size_of` meets its contract. Assumes nothing.
use Prim.Native.Nat.{◌+◌, ◌*◌}
use mathlib.Core.Path.{◌≡◌, ap, ◌∙◌}
use mathlib.Core.Bool.{Bool}
use native.Mathlib.Omega.{arith}
use Rattle.witness.specs.File.{stands, if_stands}
use Rattle.witness.proofs.size_of.Goals as goal

pub returns : goal.returns
returns c =
    let width_call = c.width-front in
    let width2_call = c.width in
    let width3_call = c.width-2 in
    let width4_call = c.width-3 in
    let r = c.args.«record» in
    let claim : width_call.result ≡ if_stands (stands 0 r.map) 1 = width_call.ensures.value ∙ ap (λ (t : Bool). if_stands t 1)
    c.stands.ensures in
    let sizes : width2_call.result ≡ if_stands (stands 1 r.map) 4 = width2_call.ensures.value ∙ ap (λ (t : Bool). if_stands t 4)
    c.stands-2.ensures in
    let universal : width3_call.result ≡ if_stands (stands 2 r.map) (2 + 16 * r.universal) = width3_call.ensures.value ∙ ap
    (λ (t : Bool). if_stands t (2 + 16 * r.universal)) c.stands-3.ensures in
    let existential : width4_call.result ≡ if_stands (stands 3 r.map) (2 + 16 * r.existential) = width4_call.ensures.value ∙ ap
    (λ (t : Bool). if_stands t (2 + 16 * r.existential)) c.stands-4.ensures in
    let rounds : c.width-4.result ≡ if_stands (stands 4 r.map) 2 = c.width-4.ensures.value ∙ ap (λ (t : Bool). if_stands t 2) c.stands-5.ensures in
    omega (arith, claim, sizes, universal, existential, rounds)
