-- `counts::update` meets its contract. Assumes nothing.
use Rattle.std.proofs.Common.{◌≡◌, ℕ, Bool, List, ap, ◌∙◌}
use Rattle.counts.specs.Counts.{was_yielded, counted_up, filled, updated}
use Rattle.counts.proofs.update.Goals as goal

-- The three parts, one after the other.
in_parts : (came : ℕ → Bool) (stand end old : ℕ) (l counted added left : List ℕ) → counted ≡ counted_up came stand l → added ≡ filled stand end 1 counted
    → left ≡ filled end old 0 added → left ≡ updated came stand end old l
unfolding updated
in_parts came stand end old l counted added left a b e = e ∙ ap (filled end old 0) (b ∙ ap (filled stand end 1) a)

pub returns : goal.returns
returns c =
    let given = c.args in
    in_parts (was_yielded given.rows.now given.yielded.now given.number) given.stand given.end given.old given.counts.now _ _ _
    c.count_up.ensures c.fill.ensures c.fill-2.ensures
