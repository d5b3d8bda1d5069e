-- `counts::count_up` meets its contract. The loop's invariant: it is counted up to the place. Assumes nothing.
use Rattle.std.proofs.Common.{◌≡◌, ℕ, Bool, List, get_or, set, ap, ◌∙◌, arith, length-set}
use Rattle.counts.specs.Counts.{was_yielded, one_more, counted_up}
use Rattle.counts.proofs.CountLaws.{counted_up_there, counted_up_next, counted_up_most}
use Rattle.counts.proofs.count_up.Goals as goal

-- The count that is read is the one that was lent.
counted : (came : ℕ → Bool) (i : ℕ) (counts₀ counts : List ℕ) (n : ℕ) (yes_no : Bool) → counts ≡ counted_up came i counts₀ →
    n ≡ one_more yes_no (get_or counts i 0)
    → yes_no ≡ came i → n ≡ one_more (came i) (get_or counts₀ i 0)
counted came i counts₀ counts n yes_no inv is told =
    is
    ∙ ap (λ (v : Bool). one_more v (get_or counts i 0)) told
    ∙ ap (λ (l : List ℕ). one_more (came i) (get_or l i 0)) inv
    ∙ ap (one_more (came i)) (counted_up_there came i counts₀)

pub loop-i-preserved : goal.loop-i-preserved
loop-i-preserved c =
    let given = c.args in
    let loop = c.loop-i in
    let came = was_yielded given.rows.now given.yielded.now given.number in (
      ap (λ (l : List ℕ). set l loop.i c.one_more.result) loop.invariant.0
          ∙ ap (λ (n : ℕ). set (counted_up came loop.i given.counts.now) loop.i n) (counted came loop.i given.counts.now loop.counts _ _
          loop.invariant.0 c.one_more.ensures c.is_yielded-came.ensures)
          ∙ counted_up_next came loop.i given.counts.now (omega arith),
      omega arith,
      length-set loop.counts loop.i c.one_more.result ∙ loop.invariant.2,
    )

pub returns : goal.returns
returns c =
    let given = c.args in
    let loop = c.loop-i in
    loop.invariant.0 ∙ counted_up_most (was_yielded given.rows.now given.yielded.now given.number) given.stand loop.i given.counts.now
    (omega arith)
