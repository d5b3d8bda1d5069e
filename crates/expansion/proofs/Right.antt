-- What 01 says of a search and of the judge holds. Assumes nothing.
use Prim.Native.Nat.{ℕ}
use mathlib.Core.Path.{◌≡◌, refl, sym, ◌∙◌}
use mathlib.Core.Bool.{Bool, false}
use mathlib.Core.List.{List}
use mathlib.Core.Option.{Option, none, some, none-ne-some}
use lib.ListN.{length, length-map}
use Rattle.formula.specs.Formula.{Kind}
use Rattle.expansion.specs.Side.{flags, goal}
use Rattle.expansion.specs.OtherSide.{side_of}
use Rattle.expansion.specs.Play.{Row}
use Rattle.expansion.specs.Copies.{copies}
use Rattle.expansion.specs.Model.{is_model, first_model, yields, yielded, search}
use Rattle.expansion.specs.Order.{IsFirst}
use Rattle.expansion.specs.Right.{NoModel, SearchRight, JudgeRight}
use Rattle.expansion.proofs.FirstModel.{values_of, is_model_of_values, first_is_first}
use Rattle.expansion.proofs.Walk.{walk_none}
use Rattle.expansion.proofs.Verdict.{yielded_none, search_none}
use Rattle.expansion.proofs.Judged.{accepted_exactly, accepted_verdict, zero_rows_never}

module _ (prefer : ℕ → Bool) (side : Kind) (ks : List Kind) (phi : List Bool → Bool) (rows : List Row) where
  first : (new : List Row) → search prefer side ks phi rows ≡ some new
      → (vs : List Bool)
      × IsFirst prefer (length (copies (flags side ks) rows)) (is_model (flags side ks) (goal side phi) rows) vs
      × (new ≡ yields (flags side ks) rows vs)
  unfolding search
  first new e = go (first_model prefer (flags side ks) (goal side phi) rows) refl e
    where
      go : (o : Option (List Bool)) → first_model prefer (flags side ks) (goal side phi) rows ≡ o → yielded (flags side ks) rows o ≡ some new
          → (vs : List Bool)
          × IsFirst prefer (length (copies (flags side ks) rows)) (is_model (flags side ks) (goal side phi) rows) vs
          × (new ≡ yields (flags side ks) rows vs)
      go none f h = absurd (none-ne-some new h)
      go (some vs) f h = (vs, first_is_first prefer (flags side ks) (goal side phi) rows vs f, cc)

  to_none : search prefer side ks phi rows ≡ none → NoModel side ks phi rows
  unfolding search first_model
  to_none e vs h =
      walk_none (length (copies (flags side ks) rows)) prefer (is_model (flags side ks) (goal side phi) rows)
      (yielded_none (flags side ks) rows (first_model prefer (flags side ks) (goal side phi) rows) e) vs h

  from_none : NoModel side ks phi rows → search prefer side ks phi rows ≡ none
  from_none none_is =
      (search_none prefer side ks phi rows).1
      (λ σ. sym (is_model_of_values (flags side ks) (goal side phi) rows σ)
      ∙ none_is (values_of (flags side ks) rows σ) (length-map (copies (flags side ks) rows) _))

  pub search_right : SearchRight prefer side ks phi rows
  search_right = record { first = first; none_exactly = (to_none, from_none) }

pub judge_right : (claim : Bool) (ks : List Kind) (phi : List Bool → Bool) (rows : List Row) → JudgeRight claim ks phi rows
judge_right claim ks phi rows =
    let exactly = accepted_exactly claim ks phi rows in
    let by_search = search_none (λ i. false) (side_of claim) ks phi rows in
    let by_model = (search_right (λ i. false) (side_of claim) ks phi rows).none_exactly in
    record {
      exactly = (λ e. by_model.0 (by_search.1 (exactly.0 e)), λ n. exactly.1 (by_search.0 (by_model.1 n)));
      zero_rows = zero_rows_never claim ks phi;
      verdict = accepted_verdict claim ks phi rows;
    }
