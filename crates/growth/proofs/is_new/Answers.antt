-- `growth::is_new` meets its contract. Assumes nothing.
use Prim.Native.Nat.{ℕ}
use mathlib.Core.Bool.{Bool, true, ◌&&◌}
use mathlib.Core.List.{List}
use Rattle.rows.specs.Access.{first_place}
use Rattle.growth.specs.Growth.{is_absent, is_new}
use mathlib.Core.Path.{◌≡◌, sym, ap, ◌∙◌}
use Rattle.growth.proofs.is_new.Goals as goal

pub returns-then-is_absent : goal.returns-then-is_absent
unfolding is_new
returns-then-is_absent c =
    c.is_absent-then-is_absent.ensures ∙ ap (λ (v : Bool). v && is_absent (first_place yielded j yielded j)) (sym first)
  where
    yielded : List ℕ
    yielded = c.args.yielded.now

    j : ℕ
    j = c.args.j

    first : is_absent (first_place c.args.rows.now c.args.count yielded
        j) ≡ true
    first = sym c.is_absent.ensures ∙ c.if-is_absent.true

pub returns-else-is_absent : goal.returns-else-is_absent
unfolding is_new
returns-else-is_absent c =
    let given = c.args in
    ap (λ (v : Bool). v && is_absent (first_place given.yielded.now given.j given.yielded.now given.j))
    (sym c.if-is_absent.false ∙ c.is_absent.ensures)
