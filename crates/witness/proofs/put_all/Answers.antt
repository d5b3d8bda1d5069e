-- `witness::put_all` meets its contract: the head, the two sides' rows and the rounds, one behind the other. Assumes nothing.
use Prim.Native.Nat.{◌+◌, ◌*◌, ◌≤◌}
use mathlib.Core.Path.{sym, ap, subst, ◌∙◌}
use mathlib.Core.Bool.{Bool}
use mathlib.Core.List.{◌++◌}
use native.Mathlib.Omega.{arith}
use lib.ListN.{length}
use Rattle.witness.specs.File.{stands, part, if_stands, two_bytes, rows_field}
use Rattle.witness.specs.Private.Steps.{Put, head}
use Rattle.witness.proofs.PutLaws.{length_part, length_head, length_rows_field, put_both}
use Rattle.witness.proofs.put_all.Goals as goal

pub put_head-a-requires : goal.put_head-a-requires
put_head-a-requires c = omega (arith, c.requires.size_fits)

pub put_rows-b-requires : goal.put_rows-b-requires
put_rows-b-requires c =
    let required = c.requires in
    let put_head_call = c.put_head-a in
    let r = c.args.«record» in (
      omega (
        arith,
        required.size_fits,
        length_head r,
        put_head_call.ensures.place,
        put_head_call.auto.out,
        ap
            (λ (t : Bool). if_stands t (2 + 16 * r.universal)) c.stands.ensures,
      ),
      λ e. required.universal_lent (sym c.stands.ensures ∙ e),
    )

pub put_rows-c-requires : goal.put_rows-c-requires
put_rows-c-requires c =
    let at_entry_lem = c.args in
    let put_head_call = c.put_head-a in
    let put_rows_call = c.put_rows-b in
    let required = c.requires in
    let r = at_entry_lem.«record» in
    let first : Put put_head_call.new.out put_rows_call.new.out put_head_call.result put_rows_call.result
    (part (stands 2 r.map) (rows_field r.universal at_entry_lem.universal.now)) = subst
    (λ (t : Bool). Put put_head_call.new.out put_rows_call.new.out put_head_call.result put_rows_call.result
    (part t (rows_field r.universal at_entry_lem.universal.now))) c.stands.ensures
    put_rows_call.ensures in (
      omega (
        arith,
        required.size_fits,
        length_head r,
        put_head_call.ensures.place,
        put_head_call.auto.out,
        first.place,
        put_rows_call.auto.out,
        length_rows_field (stands 2 r.map) r.universal at_entry_lem.universal.now required.universal_lent,
        ap
            (λ (t : Bool). if_stands t (2 + 16 * r.existential)) c.stands-2.ensures,
      ),
      λ e. required.existential_lent (sym c.stands-2.ensures ∙ e),
    )

pub put_number-requires : goal.put_number-requires
put_number-requires c =
    let at_entry_lem = c.args in
    let put_head_call = c.put_head-a in
    let put_rows_call = c.put_rows-b in
    let put_rows2_call = c.put_rows-c in
    let required = c.requires in
    let r = at_entry_lem.«record» in
    let first : Put put_head_call.new.out put_rows_call.new.out put_head_call.result put_rows_call.result
    (part (stands 2 r.map) (rows_field r.universal at_entry_lem.universal.now)) = subst
    (λ (t : Bool). Put put_head_call.new.out put_rows_call.new.out put_head_call.result put_rows_call.result
    (part t (rows_field r.universal at_entry_lem.universal.now))) c.stands.ensures put_rows_call.ensures in
    let second : Put put_rows_call.new.out put_rows2_call.new.out put_rows_call.result put_rows2_call.result
    (part (stands 3 r.map) (rows_field r.existential at_entry_lem.existential.now)) = subst
    (λ (t : Bool). Put put_rows_call.new.out put_rows2_call.new.out put_rows_call.result put_rows2_call.result
    (part t (rows_field r.existential at_entry_lem.existential.now))) c.stands-2.ensures
    put_rows2_call.ensures in
    omega (
      arith,
      required.size_fits,
      length_head r,
      put_head_call.ensures.place,
      put_head_call.auto.out,
      first.place,
      put_rows_call.auto.out,
      second.place,
      put_rows2_call.auto.out,
      length_rows_field (stands 2 r.map) r.universal at_entry_lem.universal.now required.universal_lent,
      length_rows_field (stands 3 r.map) r.existential at_entry_lem.existential.now required.existential_lent,
      ap (λ (t : Bool). if_stands t 2)
          c.stands-3.ensures,
    )

pub returns : goal.returns
returns c =
    let at_entry_lem = c.args in
    let put_head_call = c.put_head-a in
    let put_rows_call = c.put_rows-b in
    let put_rows2_call = c.put_rows-c in
    let put_number_call = c.put_number in
    let required = c.requires in
    let r = at_entry_lem.«record» in
    let a = at_entry_lem.out.now in
    let b = put_head_call.new.out in
    let d = put_rows_call.new.out in
    let e = put_rows2_call.new.out in
    let f = put_number_call.new.out in
    let rows_1 = part (stands 2 r.map) (rows_field r.universal at_entry_lem.universal.now) in
    let rows_2 = part (stands 3 r.map) (rows_field r.existential at_entry_lem.existential.now) in
    let last = part (stands 4 r.map) (two_bytes r.rounds) in
    let first : Put b d put_head_call.result put_rows_call.result rows_1 = subst (λ (t : Bool). Put b d put_head_call.result put_rows_call.result
    (part t (rows_field r.universal at_entry_lem.universal.now))) c.stands.ensures
    put_rows_call.ensures in
    let second : Put d e put_rows_call.result put_rows2_call.result rows_2 = subst (λ (t : Bool). Put d e put_rows_call.result put_rows2_call.result
    (part t (rows_field r.existential at_entry_lem.existential.now))) c.stands-2.ensures put_rows2_call.ensures in
    let rounds : Put e f put_rows2_call.result put_number_call.result last = subst
    (λ (t : Bool). Put e f put_rows2_call.result put_number_call.result (part t (two_bytes r.rounds)))
    c.stands-3.ensures put_number_call.ensures in
    let end : put_number_call.result ≤ length a = omega (
      arith,
      required.size_fits,
      length_head r,
      put_head_call.ensures.place,
      first.place,
      second.place,
      rounds.place,
      length_rows_field (stands 2 r.map)
          r.universal at_entry_lem.universal.now required.universal_lent,
      length_rows_field (stands 3 r.map) r.existential
          at_entry_lem.existential.now required.existential_lent,
      length_part (stands 4 r.map) (two_bytes r.rounds),
    ) in
    let two = put_both d e f put_rows_call.result put_rows2_call.result put_number_call.result rows_2 last second rounds
    (omega (arith, end, put_head_call.auto.out, put_rows_call.auto.out)) in
    let three = put_both b d f put_head_call.result put_rows_call.result put_number_call.result rows_1 (rows_2 ++ last) first two
    (omega (arith, end, put_head_call.auto.out)) in
    put_both a b f 0 put_head_call.result put_number_call.result (head r) (rows_1 ++ (rows_2 ++ last)) put_head_call.ensures three end
