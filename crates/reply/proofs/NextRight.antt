-- Replies that are followed win the game. Assumes nothing.
use Prim.Native.Nat.{ℕ, zero, suc}
use Rattle.std.specs.Prelude.{Result, Ok, Err}
use Rattle.cause.specs.declared.Cause.{Cause}
use Rattle.cause.specs.Cause.{caused, told}
use native.Mathlib.Omega.{arith}
use mathlib.Core.Path.{◌≡◌, refl, sym, ap, ◌∙◌}
use mathlib.Core.Bool.{Bool, true, false, cond}
use mathlib.Core.List.{List, [], ◌∷◌}
use mathlib.Core.Logic.{◌⊎◌, inl, inr}
use mathlib.Core.Option.{Option, none, some}
use lib.Dec.{eqb}
use lib.IntN.{ℤ}
use lib.ListN.{length, get_or, take, length-map}
use borrow.Author.Tests.{eqb-true}
use Rattle.judge.specs.Judge as Judge
use Rattle.judge.specs.Judge.{claims_true, lent_rows}
use Rattle.restriction.specs.Outcome.{value_of, values_of}
use Rattle.reply_rules.specs.Position.{Turn, winners, others, none_left, turn, reply_value, Follows}
use Rattle.reply_rules.specs.GameRight.{Judged, GameRight}
use Rattle.reply_rules.proofs.GameRight.{game_right}
use Rattle.reply.specs.declared.Next.{Next}
use Rattle.reply.specs.declared.Next.TheVariants.{Value, OthersTurn, NotBorneOut}
use Rattle.reply.specs.Next.{cause, at_turn, answered, next}
use Rattle.reply.specs.NextRight.{Followed, NextRight}
use Rattle.reply.proofs.CauseLaws.{not_refused_lent}
use Rattle.reply.proofs.JudgeLaws.{short_values}
use Rattle.reply.proofs.NextLaws.{told_cause}

different : {A : Type 0} → ◌≡◌ {A = ℕ} 0 1 → A
different e = absurd (omega arith)

-- ---- what an answer says

valued : (t : Turn) (o : Option Bool) (v : Bool) → at_turn t o ≡ Value v → (t ≡ winners) × (o ≡ some v)
valued winners (some w) v e = (refl, cc)
valued winners none v e = different cc
valued others o v e = different cc
valued none_left o v e = different cc

no_winner : (t : Turn) (o : Option Bool) → at_turn t o ≡ OthersTurn → t ≡ winners → ⊥
no_winner winners (some w) e w' = different cc
no_winner winners none e w' = different cc
no_winner others o e w' = different cc
no_winner none_left o e w' = different cc

unborne : (t : Turn) (o : Option Bool) → at_turn t o ≡ NotBorneOut → (t ≡ winners) × (o ≡ none)
unborne winners (some w) e = different cc
unborne winners none e = (refl, refl)
unborne others o e = different cc
unborne none_left o e = different cc

take_values : (d : ℕ) (moves : List ℕ) → values_of (take d moves) ≡ take d (values_of moves)
take_values zero moves = refl
take_values (suc d) [] = refl
take_values (suc d) (b ∷ moves) = ap (λ (l : List Bool). value_of b ∷ l) (take_values d moves)

module _ (kinds : List ℕ) (literals : List ℤ) (claim : ℕ) (rows : List ℕ) (count : ℕ) where
  abbrev side : Bool
  side = claims_true claim

  abbrev given : List (List Bool)
  given = lent_rows kinds claim rows count

  abbrev asked : List ℕ → Result Next Cause
  asked moves = next kinds literals claim rows count moves

  -- An answer that is no refusal comes from no cause.
  by_cause : (b : Bool) (c : Cause) (x r : Next) → cond b (Ok x) (Err c) ≡ Ok r → (b ≡ true) × (x ≡ r)
  by_cause true c x r e = (refl, cc)
  by_cause false c x r e = different cc

  unrefused : (moves : List ℕ) (r : Next) → asked moves ≡ Ok r
      → (cause kinds literals claim rows count moves ≡ 0) × (answered kinds literals claim rows count moves ≡ r)
  unfolding next
  unrefused moves r e =
      let n = cause kinds literals claim rows count moves in
      let both = by_cause (eqb n 0) (caused n) (answered kinds literals claim rows count moves) r e in
      (eqb-true n 0 both.0, both.1)

  game : GameRight side kinds literals given
  game = game_right side kinds literals given

  judged_so : Judge.borne_out kinds literals claim rows count ≡ true → Judged side kinds literals given
  unfolding Judge.borne_out
  judged_so e = e

  value_said : (moves : List ℕ) (v : Bool) → asked moves ≡ Ok (Value v) → reply_value side kinds literals given (values_of moves) ≡ some v
  value_said moves v e =
      (valued (turn side kinds (values_of moves)) (reply_value side kinds literals given (values_of moves)) v
      (unrefused moves (Value v) e).1).1

  -- The moves follow the replies, as values.
  follows : (moves : List ℕ) → Followed kinds literals claim rows count moves → Follows side kinds literals given (values_of moves)
  follows moves followed d below own = go (followed d (omega (arith, length-map moves value_of)))
    where
      go : (asked (take d moves) ≡ Ok OthersTurn) ⊎ (asked (take d moves) ≡ Ok (Value (get_or (values_of moves) d false)))
          → reply_value side kinds literals given (take d (values_of moves)) ≡ some (get_or (values_of moves) d false)
      go (inl e) =
          absurd
          (no_winner (turn side kinds (values_of (take d moves))) (reply_value side kinds literals given (values_of (take d moves)))
          (unrefused (take d moves) OthersTurn e).1 (ap (turn side kinds) (take_values d moves) ∙ own))
      go (inr e) =
          ap (reply_value side kinds literals given) (sym (take_values d moves)) ∙ value_said (take d moves) (get_or (values_of moves) d false) e

  never_without : Judge.borne_out kinds literals claim rows count ≡ true → (moves : List ℕ) → Followed kinds literals claim rows count moves
      → asked moves ≡ Ok NotBorneOut → ⊥
  never_without judged moves followed e =
      let fine = unrefused moves NotBorneOut e in
      let good = (not_refused_lent kinds literals claim rows count moves fine.0).1 in
      let so = unborne (turn side kinds (values_of moves)) (reply_value side kinds literals given (values_of moves)) fine.1 in
      let held = game.stays (judged_so judged) (values_of moves) (short_values (length kinds) moves good) (follows moves followed) in
      let found = game.found (values_of moves) so.0 held in
      both_ways found.0 (sym so.1 ∙ found.1)
    where
      both_ways : (v : Bool) → none ≡ some v → ⊥
      both_ways v e = different cc

  next_right : NextRight kinds literals claim rows count
  next_right =
      record {
        kept = λ moves v e. game.kept (values_of moves) v (value_said moves v e);
        never_without = never_without;
        won = λ judged moves whole followed.
            game.won (judged_so judged) (values_of moves) (length-map moves value_of ∙ whole) (follows moves followed);
      }

-- What `next_move` promises of what it answers.
pub promised : (kinds : List ℕ) (literals : List ℤ) (claim : ℕ) (rows : List ℕ) (count : ℕ) (moves : List ℕ) {r : Result Next Cause}
    → r ≡ next kinds literals claim rows count moves
    → (r ≡ next kinds literals claim rows count moves) × ((told r ≡ cause kinds literals claim rows count moves) × NextRight kinds literals claim rows count)
promised kinds literals claim rows count moves e = (e, (told_cause kinds literals claim rows count moves e, next_right kinds literals claim rows count))
