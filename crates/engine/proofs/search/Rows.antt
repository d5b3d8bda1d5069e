-- The sorted rows: neighbours that do not part before a position agree before it, and so do all rows between them; rows that part do not agree.
-- Assumes nothing.
use Prim.Native.Nat.{ℕ, zero, suc, ◌+◌, ◌-◌, ◌≤◌, ◌<◌}
use mathlib.Core.Path.{◌≡◌, refl, sym, subst}
use mathlib.Core.List.{List}
use native.Mathlib.Omega.{arith}
use native.Mathlib.Nat.{add-zero}
use lib.ListN.{length, get_or}
use Rattle.expansion.proofs.Cuts.{Problem, Agree, agree_trans, agree_sym}
use Rattle.engine.specs.Private.Steps.{Fits}

module _ (P : Problem) (kinds differences codes : List ℕ) (side : ℕ) (F : Fits P kinds differences codes side) where
  neighbours : (k i : ℕ) → i + 1 < length differences → k ≤ length kinds → k ≤ get_or differences (i + 1) 0 → Agree P i (i + 1) k
  neighbours k i lt lk h = (F.differ i k lt lk).0 h

  -- rows between which no neighbours part before k agree before k
  pub agree_run : (k i d : ℕ) → i + d < length differences → k ≤ length kinds → ((h : ℕ) → i < h → h ≤ i + d → k ≤ get_or differences h 0) → Agree P i (i + d) k
  agree_run k i zero lt lk shared = subst (λ (x : ℕ). Agree P i x k) (sym (add-zero i)) (λ l ll o. refl)
  agree_run k i (suc d) lt lk shared =
      subst (λ (x : ℕ). Agree P i x k) (let e : i + d + 1 ≡ i + suc d = omega arith in e)
      (agree_trans P i (i + d) (i + d + 1) k (agree_run k i d (omega arith) lk (λ h a b. shared h a (omega arith)))
      (neighbours k (i + d) (omega arith) lk (shared (i + d + 1) (omega arith) (omega arith))))

  pub agree_between : (k i h : ℕ) → i ≤ h → h < length differences → k ≤ length kinds → ((g : ℕ) → i < g → g ≤ h → k ≤ get_or differences g 0) → Agree P i h k
  agree_between k i h le lt lk shared =
      subst (λ (x : ℕ). Agree P i x k) (let e : i + (h - i) ≡ h = omega arith in e) (agree_run k i (h - i) (omega arith) lk (λ g a b. shared g a (omega arith)))

  pub agree_group : (k lo hi : ℕ) → hi ≤ length differences → k ≤ length kinds → ((g : ℕ) → lo < g → g < hi → k ≤ get_or differences g 0) → (i h : ℕ) → lo ≤
      i → i < hi →
      lo ≤ h → h < hi → Agree P i h k
  agree_group k lo hi lt lk shared i h p q r s =
      agree_trans P i lo h k
      (agree_sym P lo i k (agree_between k lo i p (omega arith) lk (λ g a b. shared g a (omega arith))))
      (agree_between k lo h r (omega arith) lk (λ g a b. shared g a (omega arith)))

  -- neighbours that part before k do not agree before k, and no row on one side agrees with one on the other
  pub parted_apart : (k i h m : ℕ) → i < m → m ≤ h → h < length differences → k ≤ length kinds → get_or differences m 0 < k → Agree P i h k → ⊥
  parted_apart k i h zero im mh lt lk parted a = omega arith
  parted_apart k i h (suc m) im mh lt lk parted a =
      let left : Agree P i m k = F.together i m h k (omega arith) (omega arith) lt lk a in
      let right : Agree P i (suc m) k = F.together i (suc m) h k (omega arith) (omega arith) lt lk a in
      let both : Agree P m (m + 1) k = agree_trans P m i (m + 1) k (agree_sym P i m k left)
      (subst (λ (x : ℕ). Agree P i x k) (let e : suc m ≡ m + 1 = omega arith in e) right) in
      let stays : k ≤ get_or differences (m + 1) 0 = (F.differ m k (omega arith) lk).1 both in
      let here : get_or differences (m + 1) 0 < k = subst (λ (x : ℕ). get_or differences x 0 < k) (let e : suc m ≡ m + 1 = omega arith in e) parted in
      omega arith
