-- `witness::record_of` meets its contract, field by field. Assumes nothing.
use Prim.Native.Nat.{ℕ, ◌+◌}
use mathlib.Core.Path.{ap, ap₂, ◌∙◌}
use mathlib.Core.Bool.{Bool}
use lib.ListN.{get_or, drop}
use Rattle.witness.specs.File.{stands, if_stands, word, record_of}
use Rattle.witness.proofs.RecordLaws.{same_record}
use Rattle.witness.proofs.record_of.Goals as goal

pub returns : goal.returns
unfolding record_of
returns c =
    let at_entry_lem = c.args in
    let f = at_entry_lem.file.now in
    let at = at_entry_lem.at in
    let given = c.requires in
    let field : Bool → ℕ → ℕ = λ t k. if_stands t (word (drop k f)) in
    let map = c.byte-map.ensures in
    same_record map
    (c.claim_of.ensures ∙ ap (λ (t : Bool). if_stands t (get_or f 1 0)) (c.stands.ensures ∙ ap (stands 0) map))
    (c.number.ensures ∙ ap₂ field (c.stands-2.ensures ∙ ap (stands 1) map) given.sizes)
    (c.number-2.ensures ∙ ap₂ field (c.stands-3.ensures ∙ ap (stands 1) map)
    (ap (λ (k : ℕ). k + 2) given.sizes))
    (c.number-3.ensures ∙ ap₂ field (c.stands-4.ensures ∙ ap (stands 2) map)
    given.universal)
    (c.number-4.ensures ∙ ap₂ field (c.stands-5.ensures ∙ ap (stands 3) map) given.existential)
    (c.number-5.ensures ∙ ap₂ field (c.stands-6.ensures ∙ ap (stands 4) map) given.rounds)
