-- `witness::put_head` meets its contract: the map and the fields before the rows, one behind the other. Assumes nothing.
use Prim.Native.Nat.{◌≤◌}
use mathlib.Core.Path.{ap, subst}
use mathlib.Core.Bool.{Bool}
use mathlib.Core.List.{[], ◌∷◌, ◌++◌}
use native.Mathlib.Omega.{arith}
use lib.ListN.{length}
use Rattle.witness.specs.File.{stands, part, if_stands, two_bytes}
use Rattle.witness.specs.Private.Steps.{Put}
use Rattle.witness.proofs.PutLaws.{length_part, four, put_both}
use Rattle.witness.proofs.put_head.Goals as goal

pub put_byte-b-requires : goal.put_byte-b-requires
put_byte-b-requires c =
    let put_byte_call = c.put_byte-a in
    let r = c.args.«record» in
    omega (arith, c.requires, put_byte_call.ensures.place, put_byte_call.auto.out, ap (λ (t : Bool). if_stands t 1) c.stands.ensures)

pub put_number-c-requires : goal.put_number-c-requires
put_number-c-requires c =
    let put_byte_call = c.put_byte-a in
    let put_byte2_call = c.put_byte-b in
    let stands_call = c.stands in
    let r = c.args.«record» in
    omega (
      arith,
      c.requires,
      four (stands 1 r.map),
      put_byte_call.ensures.place,
      put_byte_call.auto.out,
      put_byte2_call.ensures.place,
      put_byte2_call.auto.out,
      length_part stands_call.result (r.claim ∷ []),
      ap (λ (t : Bool). if_stands t 1) stands_call.ensures,
      ap (λ (t : Bool). if_stands t 2) c.stands-2.ensures,
    )

pub put_number-requires : goal.put_number-requires
put_number-requires c =
    let put_byte_call = c.put_byte-a in
    let put_byte2_call = c.put_byte-b in
    let put_number_call = c.put_number-c in
    let stands_call = c.stands in
    let stands2_call = c.stands-2 in
    let r = c.args.«record» in
    omega (
      arith,
      c.requires,
      four (stands 1 r.map),
      put_byte_call.ensures.place,
      put_byte_call.auto.out,
      put_byte2_call.ensures.place,
      put_byte2_call.auto.out,
      put_number_call.ensures.place,
      put_number_call.auto.out,
      length_part stands_call.result (r.claim ∷ []),
      length_part stands2_call.result (two_bytes r.unknowns),
      ap (λ (t : Bool). if_stands t 1) stands_call.ensures,
      ap (λ (t : Bool). if_stands t 2) stands2_call.ensures,
      ap (λ (t : Bool). if_stands t 2) c.stands-3.ensures,
    )

pub returns : goal.returns
returns c =
    let at_entry_lem = c.args in
    let put_byte_call = c.put_byte-a in
    let put_byte2_call = c.put_byte-b in
    let put_number_call = c.put_number-c in
    let put_number2_call = c.put_number in
    let r = at_entry_lem.«record» in
    let a = at_entry_lem.out.now in
    let b = put_byte_call.new.out in
    let d = put_byte2_call.new.out in
    let e = put_number_call.new.out in
    let f = put_number2_call.new.out in
    let claim : Put b d put_byte_call.result put_byte2_call.result (part (stands 0 r.map) (r.claim ∷ [])) = subst
    (λ (t : Bool). Put b d put_byte_call.result put_byte2_call.result (part t (r.claim ∷ [])))
    c.stands.ensures put_byte2_call.ensures in
    let unknowns : Put d e put_byte2_call.result put_number_call.result (part (stands 1 r.map) (two_bytes r.unknowns)) = subst
    (λ (t : Bool). Put d e put_byte2_call.result put_number_call.result (part t (two_bytes r.unknowns))) c.stands-2.ensures
    put_number_call.ensures in
    let clauses : Put e f put_number_call.result put_number2_call.result (part (stands 1 r.map) (two_bytes r.clauses)) = subst
    (λ (t : Bool). Put e f put_number_call.result put_number2_call.result (part t (two_bytes r.clauses)))
    c.stands-3.ensures put_number2_call.ensures in
    let end : put_number2_call.result ≤ length a = omega (
      arith,
      c.requires,
      four (stands 1 r.map),
      put_byte_call.ensures.place,
      claim.place,
      unknowns.place,
      clauses.place,
      length_part (stands 0 r.map) (r.claim ∷ []),
      length_part (stands 1 r.map) (two_bytes r.unknowns),
      length_part
          (stands 1 r.map) (two_bytes r.clauses),
    ) in
    let two = put_both d e f put_byte2_call.result put_number_call.result put_number2_call.result (part (stands 1 r.map) (two_bytes r.unknowns))
    (part (stands 1 r.map) (two_bytes r.clauses)) unknowns clauses (omega (arith, end, put_byte_call.auto.out, put_byte2_call.auto.out)) in
    let three = put_both b d f put_byte_call.result put_byte2_call.result put_number2_call.result (part (stands 0 r.map) (r.claim ∷ []))
    (part (stands 1 r.map) (two_bytes r.unknowns) ++ part (stands 1 r.map) (two_bytes r.clauses)) claim two
    (omega (arith, end, put_byte_call.auto.out)) in
    put_both a b f 0 put_byte_call.result put_number2_call.result (r.map ∷ [])
    (part (stands 0 r.map) (r.claim ∷ []) ++ (part (stands 1 r.map) (two_bytes r.unknowns) ++ part (stands 1 r.map) (two_bytes r.clauses)))
    put_byte_call.ensures three end
