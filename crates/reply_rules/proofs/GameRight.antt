-- Replies from rows keep what is borne out, so they win the game. Assumes nothing.
use Prim.Native.Nat.{ℕ, zero, suc, ◌≤◌, ◌<◌}
use native.Mathlib.Omega.{arith}
use mathlib.Core.Path.{◌≡◌, refl, sym, ap, subst, ◌∙◌}
use mathlib.Core.Bool.{Bool, true, false, cond}
use mathlib.Core.List.{List, [], ◌∷◌, ◌++◌, append-nil}
use mathlib.Core.Option.{Option, none, some}
use lib.IntN.{ℤ}
use lib.ListN.{length, get_or, take, drop, length-drop}
use lib.Seq.{take-suc, take-length, drop-length, length-take-le}
use Rattle.formula.specs.Formula.{kind_of, prefix, clauses}
use Rattle.formula.specs.Meaning.{matrix, meaning, verdict}
use Rattle.expansion.specs.Play.{Row}
use Rattle.expansion.proofs.Judged.{accepted_verdict}
use Rattle.case_rules.specs.Restricted.{restricted, kinds_behind}
use Rattle.case_rules.specs.Casebook.{offered}
use Rattle.case_rules.proofs.RestrictedLaws.{restricted_matrix}
use Rattle.reply_rules.specs.Position.{Turn, winners, others, none_left, turn, turn_at, fitting, borne_out, first_held, reply_value, Follows}
use Rattle.reply_rules.specs.GameRight.{Judged, GameRight}
use Rattle.reply_rules.proofs.PositionLaws.{at_start, borne_any, borne_other, few_fitting}

different : {A : Type 0} → ◌≡◌ {A = ℕ} 0 1 → A
different e = absurd (omega arith)

-- The value that is held.
is_held : (a b v : Bool) → first_held a b ≡ some v → cond v a b ≡ true
is_held true b true e = refl
is_held true b false e = different cc
is_held false true true e = different cc
is_held false true false e = refl
is_held false false v e = different cc

module _ (claim : Bool) (kinds : List ℕ) (literals : List ℤ) (rows : List Row) where
  abbrev borne : List Bool → Bool
  borne vs = borne_out claim kinds literals rows vs

  -- The reply leaves a position that is borne out.
  pub reply_borne : (vs : List Bool) (v : Bool) → reply_value claim kinds literals rows vs ≡ some v → borne (vs ++ (v ∷ [])) ≡ true
  reply_borne vs true e = is_held (borne (vs ++ (true ∷ []))) (borne (vs ++ (false ∷ []))) true e
  reply_borne vs false e = is_held (borne (vs ++ (true ∷ []))) (borne (vs ++ (false ∷ []))) false e

  borne_verdict : (vs : List Bool) → borne vs ≡ true → verdict (kinds_behind vs kinds) (restricted vs literals) ≡ claim
  unfolding borne_out verdict
  borne_verdict vs e =
      accepted_verdict claim (prefix (kinds_behind vs kinds)) (matrix (clauses (restricted vs literals))) (fitting claim (prefix kinds) vs rows) e

  reply_found : (vs : List Bool) → turn claim kinds vs ≡ winners → borne vs ≡ true → (v : Bool) × (reply_value claim kinds literals rows vs ≡ some v)
  reply_found vs t e = go (kinds_behind vs kinds) refl t
    where
      held : (b : Bool) → borne (vs ++ (true ∷ [])) ≡ b → (b ≡ false → borne (vs ++ (false ∷ [])) ≡ true)
          → (v : Bool) × (reply_value claim kinds literals rows vs ≡ some v)
      held true h other = (true, ap (λ (b : Bool). first_held b (borne (vs ++ (false ∷ [])))) h)
      held false h other =
          (false, ap (λ (b : Bool). first_held b (borne (vs ++ (false ∷ [])))) h ∙ ap (first_held false) (other refl))

      own : (k : ℕ) (left : List ℕ) → kinds_behind vs kinds ≡ k ∷ left → (o : Bool) → offered claim (kind_of k) ≡ o → cond o winners others ≡ winners
          → (v : Bool) × (reply_value claim kinds literals rows vs ≡ some v)
      own k left there true o t =
          held (borne (vs ++ (true ∷ []))) refl (λ refused. borne_other claim kinds literals rows vs k left there o e refused)
      own k left there false o t = different cc

      go : (ns : List ℕ) → kinds_behind vs kinds ≡ ns → turn_at claim ns ≡ winners → (v : Bool) × (reply_value claim kinds literals rows vs ≡ some v)
      go [] there t = different cc
      go (k ∷ left) there t = own k left there (offered claim (kind_of k)) refl t

  -- One move: the winner's is the reply, the other side's is any.
  borne_move : (vs : List Bool) (v : Bool) → length vs < length kinds → (turn claim kinds vs ≡ winners → reply_value claim kinds literals rows vs ≡ some v)
      → borne vs ≡ true → borne (vs ++ (v ∷ [])) ≡ true
  borne_move vs v more replied e = go (kinds_behind vs kinds) refl
    where
      own : (k : ℕ) (left : List ℕ) → kinds_behind vs kinds ≡ k ∷ left → (o : Bool) → offered claim (kind_of k) ≡ o → borne (vs ++ (v ∷ [])) ≡ true
      own k left there true o =
          reply_borne vs v (replied (ap (turn_at claim) there ∙ ap (λ (b : Bool). cond b winners others) o))
      own k left there false o = borne_any claim kinds literals rows vs k left there o v e

      go : (ns : List ℕ) → kinds_behind vs kinds ≡ ns → borne (vs ++ (v ∷ [])) ≡ true
      go [] there = absurd (let size = ap length there in omega (arith, length-drop (length vs) kinds, more))
      go (k ∷ left) there = own k left there (offered claim (kind_of k)) refl

  module _ (judged : Judged claim kinds literals rows) (vs : List Bool) (short : length vs ≤ length kinds) (follows : Follows claim kinds literals rows vs) where
    borne_at : (d : ℕ) → d ≤ length vs → borne (take d vs) ≡ true
    borne_at zero h = at_start claim kinds literals rows judged
    borne_at (suc d) h =
        let below : d < length vs = omega arith in
        ap borne (take-suc vs d false below)
        ∙ borne_move (take d vs) (get_or vs d false) (omega (arith, short, length-take-le d vs (omega arith))) (follows d below) (borne_at d (omega arith))

    pub borne_behind : borne vs ≡ true
    borne_behind = ap borne (sym (take-length vs)) ∙ borne_at (length vs) (omega arith)

  at_end : (vs : List Bool) → length vs ≡ length kinds → borne vs ≡ true → matrix (clauses literals) vs ≡ claim
  unfolding verdict
  at_end vs whole e =
      let none : kinds_behind vs kinds ≡ [] = ap (λ (n : ℕ). drop n kinds) whole ∙ drop-length kinds in
      ap (matrix (clauses literals)) (sym (append-nil vs))
      ∙ sym (ap (λ (psi : List Bool → Bool). psi []) (restricted_matrix vs literals))
      ∙ ap (λ (ns : List ℕ). meaning (prefix ns) (matrix (clauses (restricted vs literals)))) (sym none)
      ∙ borne_verdict vs e

  pub game_right : GameRight claim kinds literals rows
  game_right =
      record {
        kept = λ vs v e. borne_verdict (vs ++ (v ∷ [])) (reply_borne vs v e);
        found = reply_found;
        stays = borne_behind;
        won = λ judged vs whole follows. at_end vs whole (borne_behind judged vs (omega arith) follows);
        few = λ vs. few_fitting claim (prefix kinds) vs rows;
      }
