-- 01's 'The judge', about the definition of `accepted`, for every claim, prefix, matrix and list of rows:
-- an accepted claim is the meaning of the formula (`accepted_verdict`); a claim is 'accepted exactly if no model over those rows exists', a
-- model being any strategy that wins over them (`accepted_exactly`); 'zero rows are never accepted' (`zero_rows_never`).
-- Assumes nothing.
use mathlib.Core.Path.{◌≡◌, refl, ap}
use mathlib.Core.Bool.{Bool, true, false, true≢false, false≢true}
use mathlib.Core.List.{List, []}
use mathlib.Core.Option.{Option, none, some}
use mathlib.Core.Logic.{◌↔◌}
use borrow.Author.Tests.{not-false}
use Rattle.formula.specs.Formula.{Kind}
use Rattle.formula.specs.Meaning.{meaning}
use Rattle.expansion.specs.Side.{flags, goal}
use Rattle.expansion.specs.OtherSide.{side_of}
use Rattle.expansion.specs.Play.{Row, Strategy}
use Rattle.expansion.specs.Model.{wins, search}
use Rattle.expansion.specs.Judge.{is_none, accepted}
use Rattle.expansion.proofs.Booleans.{false_if_not_true}
use Rattle.expansion.proofs.Game.{reaches}
use Rattle.expansion.proofs.Soundness.{no_strategy_no_meaning}
use Rattle.expansion.proofs.Verdict.{search_none}

is_none_true : (o : Option (List Row)) → is_none o ≡ true → o ≡ none
is_none_true none e = refl
is_none_true (some yielded) e = absurd (false≢true e)

pub accepted_exactly : (claim : Bool) (ks : List Kind) (phi : List Bool → Bool) (rows : List Row)
    → (accepted claim ks phi rows ≡ true) ↔ ((σ : Strategy) → wins (flags (side_of claim) ks) (goal (side_of claim) phi) σ rows ≡ false)
unfolding accepted
accepted_exactly claim ks phi rows =
    let found = search (λ i. false) (side_of claim) ks phi rows in
    let exactly = search_none (λ i. false) (side_of claim) ks phi rows in
    (λ e. exactly.0 (is_none_true found e), λ loses. ap is_none (exactly.1 loses))

claim_of : (claim : Bool) (ks : List Kind) (phi : List Bool → Bool) → reaches (side_of claim) ks phi ≡ false → meaning ks phi ≡ claim
claim_of false ks phi e = e
claim_of true ks phi e = not-false (meaning ks phi) e

pub accepted_verdict : (claim : Bool) (ks : List Kind) (phi : List Bool → Bool) (rows : List Row) → accepted claim ks phi rows ≡ true
    → meaning ks phi ≡ claim
accepted_verdict claim ks phi rows e =
    claim_of claim ks phi (no_strategy_no_meaning (side_of claim) ks phi rows ((accepted_exactly claim ks phi rows).0 e))

pub zero_rows_never : (claim : Bool) (ks : List Kind) (phi : List Bool → Bool) → accepted claim ks phi [] ≡ false
zero_rows_never claim ks phi =
    false_if_not_true (accepted claim ks phi []) (λ e. true≢false ((accepted_exactly claim ks phi []).0 e (λ k r. false)))
