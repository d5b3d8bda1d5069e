-- `growth::grow` meets its contract. Assumes nothing.
use Prim.Native.Nat.{ℕ}
use Rattle.std.specs.Prelude.{None, Some}
use mathlib.Core.Path.{◌≡◌, sym, ap, ◌∙◌}
use mathlib.Core.Bool.{Bool, true, false, cond}
use mathlib.Core.List.{List}
use Rattle.growth.specs.Growth.{all_fit, Bytes, bytes, with_new_rows, grown, growth, Numbered}
use Rattle.growth.proofs.grow.Goals as goal

module _ (table marks : List ℕ) (n : ℕ) (yielded : List ℕ) (number mark : ℕ) where
  abbrev before : Bytes
  before = bytes table marks n

  abbrev after : Bytes
  after = with_new_rows yielded mark number before

  no_room_numbered : all_fit table n yielded number ≡ false → Numbered table marks n yielded number mark None
  no_room_numbered e =
      record {
        all_or_none = sym e;
        counted = sym (ap (λ (v : Bool). (cond v after before).number) e);
        universal_number = sym (ap (λ (v : Bool). cond v None (Some 3)) e);
        existential_number = sym (ap (λ (v : Bool). cond v None (Some 4)) e);
      }

  grown_numbered : all_fit table n yielded number ≡ true → (end : ℕ) → end ≡ after.number → Numbered table marks n yielded number mark (Some end)
  grown_numbered e end counted =
      record {
        all_or_none = sym e;
        counted = counted ∙ sym (ap (λ (v : Bool). (cond v after before).number) e);
        universal_number = sym (ap (λ (v : Bool). cond v None (Some 3)) e);
        existential_number = sym (ap (λ (v : Bool). cond v None (Some 4)) e);
      }

  none_added : all_fit table n yielded number ≡ false
      → (None ≡ growth table marks n yielded number mark)
      × ((table ≡ (grown table marks n yielded number mark).row_part)
      × ((marks ≡ (grown table marks n yielded number mark).mark_part)
      × Numbered table marks n yielded number mark None))
  none_added e = (
    sym (ap (λ (v : Bool). cond v (Some after.number) None) e),
    (
      sym (ap (λ (v : Bool). (cond v after before).row_part) e),
      (sym (ap (λ (v : Bool). (cond v after before).mark_part) e), no_room_numbered e),
    ),
  )

  all_added : all_fit table n yielded number ≡ true → (R M : List ℕ) (end : ℕ) → bytes R M end ≡ after
      → (Some end ≡ growth table marks n yielded number mark)
      × ((R ≡ (grown table marks n yielded number mark).row_part)
      × ((M ≡ (grown table marks n yielded number mark).mark_part)
      × Numbered table marks n yielded number mark (Some end)))
  all_added e R M end made = (
    ap (λ (b : Bytes). Some b.number) made ∙ sym (ap (λ (v : Bool). cond v (Some after.number) None) e),
    (
      ap (λ (b : Bytes). b.row_part) made ∙ sym (ap (λ (v : Bool). (cond v after before).row_part) e),
      (
        ap (λ (b : Bytes). b.mark_part) made ∙ sym (ap (λ (v : Bool). (cond v after before).mark_part) e),
        grown_numbered e end (ap (λ (b : Bytes). b.number) made),
      ),
    ),
  )

pub returns-then-not-all_fit : goal.returns-then-not-all_fit
returns-then-not-all_fit c =
    let given = c.args in
    let both = none_added given.rows.now given.marks.now given.count given.yielded.now given.number given.mark
    (sym c.all_fit.ensures ∙ c.if-not-all_fit.true) in
    record { value = both.0; rows_after = both.1.0; marks_after = both.1.1.0; numbered = both.1.1.1 }

pub returns : goal.returns
returns c =
    let given = c.args in
    let both = all_added given.rows.now given.marks.now given.count given.yielded.now given.number given.mark
    (sym c.all_fit.ensures ∙ c.if-not-all_fit.false)
    _ _ _ c.append_new-end.ensures in
    record { value = both.0; rows_after = both.1.0; marks_after = both.1.1.0; numbered = both.1.1.1 }
