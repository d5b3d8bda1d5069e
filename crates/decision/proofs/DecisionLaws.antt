-- The run over 256 rows a side: which causes are left, and what is returned where none applies. Assumes nothing.
use Prim.Native.Nat.{ℕ}
use Rattle.std.specs.Prelude.{Ok}
use mathlib.Core.Path.{◌≡◌, refl, ap, ◌∙◌}
use mathlib.Core.Bool.{true, false, not, cond}
use mathlib.Core.List.{List}
use lib.Dec.{eqb}
use lib.IntN.{ℤ}
use lib.ListN.{length}
use Rattle.formula.specs.Causes.{checked, sizes}
use Rattle.rows.specs.Table.{table_fits}
use Rattle.formula.specs.Formula.{work_size, prefix}
use Rattle.rounds.specs.Run.{run}
use Rattle.engine.specs.declared.run.Outcome.{Outcome}
use Rattle.engine.specs.Outcome.{Areas, areas, Given, side_fits, tables_fit, tables_counted, cause, reported, returned}
use Rattle.engine.specs.Ended.{Ended}
use Rattle.decision.specs.Decision.{own_rows, own_marks, own_counts, handed_on, own_lent, Decided}

own_rows_fit : tables_fit own_rows own_marks own_rows own_marks ≡ true
unfolding tables_fit side_fits table_fits
own_rows_fit = refl

own_rows_counted : tables_counted own_rows own_counts own_rows own_counts ≡ true
unfolding tables_counted
own_rows_counted = refl

module _ (kinds : List ℕ) (literals : List ℤ) (work : List ℕ) (limit : ℕ) where
  module _ (passes : checked kinds literals ≡ Ok (sizes kinds literals)) where
    -- Of a formula that passes, causes 5 and 6 are left.
    pub cause_so : cause (handed_on kinds literals work limit) ≡ cond (not (eqb (length work) work_size)) 5 (cond (eqb limit 0) 6 0)
    unfolding cause
    cause_so = rw (passes, own_rows_fit, own_rows_counted) refl

    pub returned_so : eqb (length work) work_size ≡ true → eqb limit 0 ≡ false
        → returned (handed_on kinds literals work limit) ≡ reported (prefix kinds) (run (own_lent kinds literals) limit)
    unfolding returned
    returned_so whole some =
        let none : cause (handed_on kinds literals work limit) ≡ 0 = cause_so ∙ (rw (whole, some) refl) in
        rw none refl

-- Of what `run` promises, what `decide_rows` hands on ..
pub ended_so : {g : Given} {r : Outcome} {universal universal_marks universal_counts existential existential_marks existential_counts work : List ℕ}
    → Ended g r (areas universal universal_marks universal_counts existential existential_marks existential_counts work)
    → Decided g r universal existential work
ended_so e =
    record {
      returned_so = e.returned_so;
      universal_so = ap (λ (a : Areas). a.universal_rows) e.left_so;
      existential_so = ap (λ (a : Areas). a.existential_rows) e.left_so;
      work_so = ap (λ (a : Areas). a.work) e.left_so;
    }
