-- The walk `first_passing` over the lists of m values finds the first one that passes the test, or none if none passes.
-- Assumes nothing.
use Prim.Native.Nat.{ℕ, zero, suc, ◌<◌}
use native.Mathlib.Omega.{arith}
use mathlib.Core.Path.{◌≡◌, refl, ap, subst}
use mathlib.Core.Bool.{Bool, true, false, not, cond}
use mathlib.Core.List.{List, [], ◌∷◌}
use mathlib.Core.Option.{Option, none, some}
use mathlib.Core.Logic.{inl, inr}
use lib.ListN.{length, get_or}
use Rattle.expansion.specs.Model.{first_passing, with_front, or_else}
use Rattle.expansion.specs.Order.{PartsAt, Leads, IsFirst}
use Rattle.expansion.proofs.Booleans.{never_both}

-- A common first value changes nothing.
parts_behind : (prefer : ℕ → Bool) (v : Bool) (vs ws : List Bool) (i : ℕ) → PartsAt (λ j. prefer (suc j)) vs ws i
    → PartsAt prefer (v ∷ vs) (v ∷ ws) (suc i)
parts_behind prefer v vs ws i p = record { agree = agree; preferred = p.preferred; unlike = p.unlike }
  where
    agree : (j : ℕ) → j < suc i → get_or (v ∷ vs) j false ≡ get_or (v ∷ ws) j false
    agree zero h = refl
    agree (suc j) h = p.agree j (omega arith)

leads_behind : (prefer : ℕ → Bool) (v : Bool) (vs ws : List Bool) → Leads (λ j. prefer (suc j)) vs ws → Leads prefer (v ∷ vs) (v ∷ ws)
leads_behind prefer v vs ws (inl e) = inl (ap {B = List Bool} (λ l. v ∷ l) e)
leads_behind prefer v vs ws (inr p) = inr (suc p.0, parts_behind prefer v vs ws p.0 p.1)

parts_now : (prefer : ℕ → Bool) (vs ws : List Bool) → PartsAt prefer (prefer zero ∷ vs) (not (prefer zero) ∷ ws) zero
parts_now prefer vs ws = record { agree = λ j h. absurd (omega arith); preferred = refl; unlike = refl }

-- What the walk owes for each outcome.
abbrev Owed : (ℕ → Bool) → ℕ → (List Bool → Bool) → Option (List Bool) → Type 0
Owed prefer m test none = (ws : List Bool) → length ws ≡ m → test ws ≡ false
Owed prefer m test (some vs) = IsFirst prefer m test vs

only_empty : (C : List Bool → Type 0) → C [] → (ws : List Bool) → length ws ≡ zero → C ws
only_empty C c [] h = c
only_empty C c (w ∷ ws) h = absurd (omega arith)

owed_at_end : (prefer : ℕ → Bool) (test : List Bool → Bool) (b : Bool) → test [] ≡ b → Owed prefer zero test (cond b (some []) none)
owed_at_end prefer test true e = record { sized = refl; passes = e; leads = only_empty (λ ws. test ws ≡ true → Leads prefer [] ws) (λ t. inl refl) }
owed_at_end prefer test false e = only_empty (λ ws. test ws ≡ false) e

-- A list of m + 1 values begins with the value p or with the other one.
begins : (p : Bool) (m : ℕ) (C : List Bool → Type 0)
    → ((ws : List Bool) → length ws ≡ m → C (p ∷ ws))
    → ((ws : List Bool) → length ws ≡ m → C (not p ∷ ws))
    → (ws : List Bool) → length ws ≡ suc m → C ws
begins p m C f g [] h = absurd (omega arith)
begins true m C f g (true ∷ ws) h = f ws (omega arith)
begins true m C f g (false ∷ ws) h = g ws (omega arith)
begins false m C f g (true ∷ ws) h = g ws (omega arith)
begins false m C f g (false ∷ ws) h = f ws (omega arith)

-- One value more in front.
module _ (prefer : ℕ → Bool) (m : ℕ) (test : List Bool → Bool) where
  abbrev OwedBehind : Bool → Option (List Bool) → Type 0
  OwedBehind v o = Owed (λ i. prefer (suc i)) m (λ vs. test (v ∷ vs)) o

  owed_in_front : (a b : Option (List Bool)) → OwedBehind (prefer zero) a → OwedBehind (not (prefer zero)) b
      → Owed prefer (suc m) test (or_else (with_front (prefer zero) a) (with_front (not (prefer zero)) b))
  owed_in_front none none p q = begins (prefer zero) m (λ ws. test ws ≡ false) p q
  owed_in_front none (some vs) p q =
      record {
        sized = ap suc q.sized;
        passes = q.passes;
        leads =
            begins (prefer zero) m (λ ws. test ws ≡ true → Leads prefer (not (prefer zero) ∷ vs) ws)
            (λ ws h t. absurd (never_both t (p ws h)))
            (λ ws h t. leads_behind prefer (not (prefer zero)) vs ws (q.leads ws h t));
      }
  owed_in_front (some vs) b p q =
      record {
        sized = ap suc p.sized;
        passes = p.passes;
        leads =
            begins (prefer zero) m (λ ws. test ws ≡ true → Leads prefer (prefer zero ∷ vs) ws)
            (λ ws h t. leads_behind prefer (prefer zero) vs ws (p.leads ws h t))
            (λ ws h t. inr (zero, parts_now prefer vs ws));
      }

walk : (m : ℕ) (prefer : ℕ → Bool) (test : List Bool → Bool) → Owed prefer m test (first_passing m prefer test)
walk zero prefer test = owed_at_end prefer test (test []) refl
walk (suc m) prefer test =
    let p = prefer zero in
    let rest : ℕ → Bool = λ i. prefer (suc i) in
    let begun : Bool → List Bool → Bool = λ v vs. test (v ∷ vs) in
    let first : Bool → Option (List Bool) = λ v. first_passing m rest (begun v) in
    owed_in_front prefer m test (first p) (first (not p)) (walk m rest (begun p)) (walk m rest (begun (not p)))

-- What the walk returns has m values, passes, and leads every other list of m values that passes.
pub walk_first : (m : ℕ) (prefer : ℕ → Bool) (test : List Bool → Bool) (vs : List Bool) → first_passing m prefer test ≡ some vs
    → IsFirst prefer m test vs
walk_first m prefer test vs e = subst (Owed prefer m test) e (walk m prefer test)

-- It returns none only if no list of m values passes.
pub walk_none : (m : ℕ) (prefer : ℕ → Bool) (test : List Bool → Bool) → first_passing m prefer test ≡ none → (ws : List Bool)
    → length ws ≡ m → test ws ≡ false
walk_none m prefer test e = subst (Owed prefer m test) e (walk m prefer test)
