-- What is returned, case by case. Assumes nothing.
use Prim.Native.Nat.{ℕ, zero, suc, ◌≤◌, ◌<◌}
use Rattle.std.specs.Prelude.{Result, Ok, Err}
use Rattle.cause.specs.declared.Cause.{Cause}
use Rattle.cause.specs.Cause.{told, unless_cause}
use Rattle.cause.proofs.Numbers.{told_unless}
use native.Mathlib.Omega.{arith}
use mathlib.Core.Path.{◌≡◌, refl, sym, ap, ◌∙◌}
use mathlib.Core.Bool.{Bool, true, false, cond, ◌||◌}
use mathlib.Core.List.{List, [], ◌∷◌, ◌++◌}
use mathlib.Core.Option.{Option}
use lib.IntN.{ℤ}
use lib.ListN.{length, get_or, drop, length-map, length-append}
use lib.Seq.{drop-cons, drop-length}
use Rattle.formula.specs.Formula.{kind_of, max_unknowns, max_entries}
use Rattle.formula.specs.Causes.{any, other_kind}
use Rattle.formula.proofs.Accepted.{accepted}
use Rattle.formula.proofs.Any.{or_none}
use Rattle.judge.specs.Judge.{claims_true, lent_rows}
use Rattle.restriction.specs.Outcome.{value_of, values_of, wrong_values}
use Rattle.restriction.proofs.OutcomeLaws.{few_values, as_many_or_fewer}
use Rattle.case_rules.specs.Restricted.{kinds_behind}
use Rattle.case_rules.specs.Casebook.{offered}
use Rattle.reply_rules.specs.Position.{Turn, winners, others, turn, turn_at, borne_out, first_held, reply_value}
use Rattle.reply.specs.declared.Next.{Next}
use Rattle.reply.specs.declared.Next.TheVariants.{Value, OthersTurn, Done, NotBorneOut}
use Rattle.reply.specs.Private.Fitting.{Lent}
use Rattle.reply.specs.Next.{cause, as_value, at_turn, answered, next}
use Rattle.reply.proofs.CauseLaws.{refused_alike, known_cause}

module _ (kinds : List ℕ) (literals : List ℤ) (claim : ℕ) (rows : List ℕ) (count : ℕ) (moves : List ℕ) where
  abbrev the_cause : ℕ
  the_cause = cause kinds literals claim rows count moves

  abbrev replied : Option Bool
  replied = reply_value (claims_true claim) kinds literals (lent_rows kinds claim rows count) (values_of moves)

  pub is_refused : {c : Cause} → unless_cause the_cause (tt {0}) ≡ Err c → Err c ≡ next kinds literals claim rows count moves
  unfolding next
  is_refused = refused_alike the_cause the_cause (tt {0}) (answered kinds literals claim rows count moves) (λ some. refl)

  -- What is told is the cause's number.
  pub told_cause : {r : Result Next Cause} → r ≡ next kinds literals claim rows count moves → told r ≡ the_cause
  unfolding next
  told_cause e = ap told e ∙ told_unless the_cause (answered kinds literals claim rows count moves) (known_cause kinds literals claim rows count moves)

  behind_moves : kinds_behind (values_of moves) kinds ≡ drop (length moves) kinds
  behind_moves = ap (λ (n : ℕ). drop n kinds) (length-map moves value_of)

  -- The next unknown, by its kind.
  pub turn_next : length moves < length kinds
      → turn (claims_true claim) kinds (values_of moves) ≡ cond (offered (claims_true claim) (kind_of (get_or kinds (length moves) 0))) winners others
  turn_next more = ap (turn_at (claims_true claim)) (behind_moves ∙ drop-cons kinds (length moves) 0 more)

  module _ (none_applies : the_cause ≡ 0) where
    is_answered : next kinds literals claim rows count moves ≡ Ok (answered kinds literals claim rows count moves)
    unfolding next
    is_answered = ap (λ (m : ℕ). unless_cause m (answered kinds literals claim rows count moves)) none_applies

    pub is_done : length moves ≡ length kinds → Ok Done ≡ next kinds literals claim rows count moves
    is_done whole =
        sym
        (is_answered
        ∙ ap (λ (t : Turn). Ok (at_turn t replied))
        (ap (turn_at (claims_true claim)) (behind_moves ∙ ap (λ (n : ℕ). drop n kinds) whole ∙ drop-length kinds)))

    module _ (more : length moves < length kinds) where
      by_kind : (o : Bool) → offered (claims_true claim) (kind_of (get_or kinds (length moves) 0)) ≡ o
          → Ok (at_turn (cond o winners others) replied) ≡ next kinds literals claim rows count moves
      by_kind o e =
          sym (is_answered ∙ ap (λ (t : Turn). Ok (at_turn t replied)) (turn_next more ∙ ap (λ (b : Bool). cond b winners others) e))

      pub is_others : offered (claims_true claim) (kind_of (get_or kinds (length moves) 0)) ≡ false → Ok OthersTurn ≡ next kinds literals claim rows count moves
      is_others other = by_kind false other

      module _ (own : offered (claims_true claim) (kind_of (get_or kinds (length moves) 0)) ≡ true) (first : Bool)
          (first_is : first ≡ borne_out (claims_true claim) kinds literals (lent_rows kinds claim rows count) (values_of moves ++ (true ∷ []))) where
        abbrev second : Bool
        second = borne_out (claims_true claim) kinds literals (lent_rows kinds claim rows count) (values_of moves ++ (false ∷ []))

        by_first : (b : Bool) → first ≡ b → Ok (as_value (first_held b second)) ≡ next kinds literals claim rows count moves
        by_first b e = ap (λ (x : Bool). Ok (as_value (first_held x second))) (sym e ∙ first_is) ∙ by_kind true own

        pub is_true : first ≡ true → Ok (Value true) ≡ next kinds literals claim rows count moves
        is_true e = by_first true e

        module _ (refused : first ≡ false) (last : Bool) (last_is : last ≡ second) where
          by_last : (b : Bool) → last ≡ b → Ok (as_value (first_held false b)) ≡ next kinds literals claim rows count moves
          by_last b e = ap (λ (x : Bool). Ok (as_value (first_held false x))) (sym e ∙ last_is) ∙ by_first false refused

          pub is_false : last ≡ true → Ok (Value false) ≡ next kinds literals claim rows count moves
          is_false e = by_last true e

          pub is_neither : last ≡ false → Ok NotBorneOut ≡ next kinds literals claim rows count moves
          is_neither e = by_last false e

-- Moves that are not wrong, and not as many as the unknowns.
pub still_more : (unknowns : ℕ) (moves : List ℕ) → wrong_values unknowns moves ≡ false → (length moves ≡ unknowns → ⊥) → length moves < unknowns
still_more unknowns moves good other = let few = few_values unknowns moves good in omega (arith, few, other)

-- ---- one move more

few_of : (kinds : List ℕ) (literals : List ℤ) (claim : ℕ) (rows : List ℕ) (count : ℕ) → Lent kinds literals claim rows count → length kinds ≤ max_unknowns
few_of kinds literals claim rows count lent = (accepted kinds literals lent.formula).few_unknowns

any_more : (moves : List ℕ) (value : ℕ) → any other_kind moves ≡ false → value ≤ 1 → any other_kind (moves ++ (value ∷ [])) ≡ false
any_more [] zero e h = refl
any_more [] (suc zero) e h = refl
any_more [] (suc (suc n)) e h = absurd (omega arith)
any_more (b ∷ moves) value e h =
    let parts = or_none (other_kind b) (any other_kind moves) e in
    ap (λ (x : Bool). x || any other_kind (moves ++ (value ∷ []))) parts.0 ∙ any_more moves value parts.1 h

module _ (kinds : List ℕ) (literals : List ℤ) (claim : ℕ) (rows : List ℕ) (count : ℕ) (moves : List ℕ) (value : ℕ) (lent : Lent kinds literals claim rows count)
    (good : wrong_values (length kinds) moves ≡ false) (more : length moves < length kinds) where
  pub longer_room : length moves < max_unknowns
  longer_room = let few = few_of kinds literals claim rows count lent in omega arith

  module _ (low : value ≤ 1) (longer : List ℕ) (is : longer ≡ moves ++ (value ∷ [])) where
    pub longer_good : wrong_values (length kinds) longer ≡ false
    longer_good =
        let none = sym (as_many_or_fewer (length kinds) moves (omega arith)) ∙ good in
        ap (wrong_values (length kinds)) is
        ∙ as_many_or_fewer (length kinds) (moves ++ (value ∷ [])) (omega (arith, more, length-append moves (value ∷ [])))
        ∙ any_more moves value none low

-- ---- what the parts that are lent on need

module _ (kinds : List ℕ) (literals : List ℤ) (claim : ℕ) (rows : List ℕ) (count : ℕ) (moves : List ℕ) (lent : Lent kinds literals claim rows count)
    (good : wrong_values (length kinds) moves ≡ false) where
  pub moves_few : length moves ≤ length kinds
  moves_few = few_values (length kinds) moves good

  pub kinds_few : length kinds ≤ max_unknowns
  kinds_few = few_of kinds literals claim rows count lent

  pub literals_few : length literals ≤ max_entries
  literals_few = (accepted kinds literals lent.formula).few_entries
