-- Any run of rounds is a right study, whatever it is lent besides the formula. Assumes nothing.
use Prim.Native.Nat.{ℕ}
use mathlib.Core.Path.{◌≡◌, refl, ◌∙◌}
use mathlib.Core.Bool.{Bool, true, false}
use mathlib.Core.List.{List}
use mathlib.Core.Option.{some, none-ne-some}
use Rattle.formula.specs.Meaning.{verdict}
use Rattle.rounds.specs.Run.{Answer, is_false, is_true, spent, no_room_universal, no_room_existential, run}
use Rattle.rounds.proofs.Verdict.{verdict_right}
use Rattle.case_rules.specs.RunStudy.{answer_as, lent_at, RunRight}

module _ (prefer : List Bool → ℕ → Bool) (room_a room_s clear_every limit : List Bool → ℕ) where
  pub run_right : RunRight prefer room_a room_s clear_every limit
  unfolding verdict
  run_right path kinds literals v accepted e =
      let l = lent_at prefer room_a room_s clear_every limit path kinds literals in
      let right = verdict_right l (limit path) in
      go (run l (limit path)).answer right.only_true right.only_false e
    where
      go : (a : Answer) → (a ≡ is_true → verdict kinds literals ≡ true) → (a ≡ is_false → verdict kinds literals ≡ false)
          → answer_as a ≡ some v → verdict kinds literals ≡ v
      go is_true t f e = let same : true ≡ v = cc in t refl ∙ same
      go is_false t f e = let same : false ≡ v = cc in f refl ∙ same
      go spent t f e = absurd (none-ne-some v e)
      go no_room_universal t f e = absurd (none-ne-some v e)
      go no_room_existential t f e = absurd (none-ne-some v e)
