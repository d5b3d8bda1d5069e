-- `rows::stray_in_row` meets its contract. The loop's invariant: the bytes passed behind the byte of bit m are zero. Assumes nothing.
use mathlib.Core.Path.{◌≡◌, sym, ap, ◌∙◌}
use mathlib.Core.Bool.{true, not-eq-not}
use mathlib.Core.List.{List}
use Prim.Native.Nat.{ℕ, ◌+◌, ◌*◌, ◌/◌, ◌%◌, ◌^◌, ◌≤◌, ◌<◌}
use native.Mathlib.Nat.{div-one}
use native.Mathlib.Omega.{arith}
use lib.ListN.{get_or, take, drop}
use borrow.Author.Count.{below_more}
use Rattle.rows.specs.Stray.{stray}
use Rattle.rows.proofs.RowLaws.{none_stray, byte_beyond, none_stray_bytes}
use Rattle.rows.proofs.TableLaws.{get_d_part}
use Rattle.rows.proofs.stray_in_row.Goals as goal

-- A byte that is not zero from its bit s on has a stray bit, if that bit is at or beyond m.
stray_found : (t : List ℕ) (x m p s : ℕ) → p < 16 → s ≤ 8 → m ≤ 8 * p + s → get_or t (x + p) 0 < 256 → (get_or t (x + p) 0 / 2 ^ s ≡ 0 → ⊥)
    → stray m (take 16 (drop x t)) ≡ true
stray_found t x m p s hp hs beyond below found =
    let same : get_or (take 16 (drop x t)) p 0 ≡ get_or t (x + p) 0 = get_d_part t x p hp in
    (not-eq-not {b = true}).0
    (λ e. found (ap (λ (y : ℕ). y / 2 ^ s) (sym same) ∙ byte_beyond m (take 16 (drop x t)) p s e (omega arith) hp hs beyond))

pub returns-then-m-ge-BITS : goal.returns-then-m-ge-BITS
returns-then-m-ge-BITS c =
    let given = c.args in
    sym (none_stray given.m (take 16 (drop given.x given.rows.now)) (λ k low high. absurd (omega arith)))

pub overflow_cast-shift : goal.overflow_cast-shift
overflow_cast-shift c = omega arith

pub overflow_add-x : goal.overflow_add-x
overflow_add-x c = omega arith

pub bounds-rows-x : goal.bounds-rows-x
bounds-rows-x c = omega arith

pub overflow_shr-rows : goal.overflow_shr-rows
overflow_shr-rows c = omega arith

pub returns-then-rows-x-ne0 : goal.returns-then-rows-x-ne0
returns-then-rows-x-ne0 c =
    let given = c.args in
    sym
    (stray_found given.rows.now given.x given.m (given.m / 8) (given.m % 8) (omega arith) (omega arith) (omega arith)
    (c.shared_slice_known-1.given (given.x + given.m / 8)).fits c.if-rows-x-ne0.true)

pub overflow_step-p : goal.overflow_step-p
overflow_step-p c = omega arith

pub loop-p-init : goal.loop-p-init
loop-p-init c = (omega arith, omega arith, λ q h beyond. absurd (omega arith))

pub overflow_add-x-in-loop-p : goal.overflow_add-x-in-loop-p
overflow_add-x-in-loop-p c = omega arith

pub bounds-rows-x-in-loop-p : goal.bounds-rows-x-in-loop-p
bounds-rows-x-in-loop-p c = omega arith

pub returns-then-rows-x-ne0-2 : goal.returns-then-rows-x-ne0-2
returns-then-rows-x-ne0-2 c =
    let loop = c.loop-p in
    let given = c.args in
    sym
    (stray_found given.rows.now given.x given.m loop.p 0 (omega arith) (omega arith) (omega arith)
    (c.shared_slice_known-1.given (given.x + loop.p)).fits
    (λ e. c.if-rows-x-ne0-2.true (sym (div-one _) ∙ e)))

pub overflow_step-p-in-loop-p : goal.overflow_step-p-in-loop-p
overflow_step-p-in-loop-p c = omega arith

pub loop-p-smaller : goal.loop-p-smaller
loop-p-smaller c = omega arith

pub loop-p-preserved : goal.loop-p-preserved
loop-p-preserved c = (omega arith, omega arith, below_more _ _ c.loop-p.invariant.2 (λ beyond. c.if-rows-x-ne0-2.false))

pub returns : goal.returns
returns c =
    let given = c.args in
    sym
    (none_stray_bytes given.m (take 16 (drop given.x given.rows.now))
    (ap (λ (y : ℕ). y / 2 ^ (given.m % 8)) (get_d_part given.rows.now given.x (given.m / 8) (omega arith)) ∙ c.if-rows-x-ne0.false)
    (λ p h beyond. get_d_part given.rows.now given.x p h ∙ c.loop-p.invariant.2 p (omega arith) beyond))
