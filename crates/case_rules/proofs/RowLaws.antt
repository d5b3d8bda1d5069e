-- Rows of cases put together: where no model is over the rows of the cases, none is over all of them. Assumes nothing.
use Prim.Native.Nat.{ℕ, zero}
use mathlib.Core.Path.{◌≡◌, refl, sym, ap, ◌∙◌}
use mathlib.Core.Bool.{Bool, true, false, not, ◌&&◌, false≢true, and_assoc}
use mathlib.Core.List.{List, [], ◌∷◌, ◌++◌}
use mathlib.Core.Option.{none}
use Rattle.formula.specs.Formula.{Kind, existential, universal}
use Rattle.formula.specs.Meaning.{after}
use Rattle.expansion.specs.Side.{own, flags, goal}
use Rattle.expansion.specs.OtherSide.{side_of}
use Rattle.expansion.specs.Play.{Row, Strategy, past_own, past_row, play}
use Rattle.expansion.specs.Model.{wins, search}
use Rattle.expansion.specs.Judge.{accepted}
use Rattle.expansion.proofs.Verdict.{search_none}
use Rattle.expansion.proofs.Judged.{accepted_exactly}
use Rattle.case_rules.specs.Casebook.{offered, with_value, together}

-- ---- tests

and_false_first : (a b : Bool) → a ≡ false → a && b ≡ false
and_false_first a b e = ap (λ (x : Bool). x && b) e

and_false_second : (a b : Bool) → b ≡ false → a && b ≡ false
and_false_second true b e = e
and_false_second false b e = refl

-- ---- what wins over rows

-- Over more rows a strategy wins if it wins over both parts.
wins_append : (ts : List Bool) (psi : List Bool → Bool) (σ : Strategy) (rows others : List Row)
    → wins ts psi σ (rows ++ others) ≡ wins ts psi σ rows && wins ts psi σ others
wins_append ts psi σ [] others = refl
wins_append ts psi σ (r ∷ rows) others =
    ap (λ (b : Bool). psi (play ts σ r) && b) (wins_append ts psi σ rows others)
    ∙ sym (and_assoc (psi (play ts σ r)) (wins ts psi σ rows) (wins ts psi σ others))

-- An own unknown in front has one copy, and so one value.
wins_own : (ts : List Bool) (psi : List Bool → Bool) (σ : Strategy) (rows : List Row)
    → wins (true ∷ ts) psi σ rows ≡ wins ts (after (σ zero []) psi) (past_own σ) rows
wins_own ts psi σ [] = refl
wins_own ts psi σ (r ∷ rows) = ap (λ (b : Bool). psi (play (true ∷ ts) σ r) && b) (wins_own ts psi σ rows)

-- Over rows that begin with v a strategy plays as what is left of it behind v.
wins_with_value : (v : Bool) (ts : List Bool) (psi : List Bool → Bool) (σ : Strategy) (rows : List Row)
    → wins (false ∷ ts) psi σ (with_value v rows) ≡ wins ts (after v psi) (past_row v σ) rows
wins_with_value v ts psi σ [] = refl
wins_with_value v ts psi σ (r ∷ rows) = ap (λ (b : Bool). psi (v ∷ play ts (past_row v σ) r) && b) (wins_with_value v ts psi σ rows)

-- No strategy wins over the rows.
abbrev pub NoneWins : List Bool → (List Bool → Bool) → List Row → Type 0
NoneWins ts psi rows = (σ : Strategy) → wins ts psi σ rows ≡ false

pub none_wins_before : (ts : List Bool) (psi : List Bool → Bool) (rows others : List Row) → NoneWins ts psi rows → NoneWins ts psi (rows ++ others)
none_wins_before ts psi rows others loses σ = wins_append ts psi σ rows others ∙ and_false_first (wins ts psi σ rows) (wins ts psi σ others) (loses σ)

pub none_wins_behind : (ts : List Bool) (psi : List Bool → Bool) (rows others : List Row) → NoneWins ts psi others → NoneWins ts psi (rows ++ others)
none_wins_behind ts psi rows others loses σ = wins_append ts psi σ rows others ∙ and_false_second (wins ts psi σ rows) (wins ts psi σ others) (loses σ)

-- An own unknown: whichever value it has, no strategy wins over the rows of that case.
pub none_wins_own : (ts : List Bool) (psi : List Bool → Bool) (rows others : List Row) → NoneWins ts (after true psi) rows
    → NoneWins ts (after false psi) others
    → NoneWins (true ∷ ts) psi (rows ++ others)
none_wins_own ts psi rows others loses loses_too σ = wins_own ts psi σ (rows ++ others) ∙ go (σ zero [])
  where
    go : (v : Bool) → wins ts (after v psi) (past_own σ) (rows ++ others) ≡ false
    go true = none_wins_before ts (after true psi) rows others loses (past_own σ)
    go false = none_wins_behind ts (after false psi) rows others loses_too (past_own σ)

-- One of the rows' own: one value is enough.
pub none_wins_with_value : (v : Bool) (ts : List Bool) (psi : List Bool → Bool) (rows : List Row) → NoneWins ts (after v psi) rows
    → NoneWins (false ∷ ts) psi (with_value v rows)
none_wins_with_value v ts psi rows loses σ = wins_with_value v ts psi σ rows ∙ loses (past_row v σ)

-- ---- the same of a side

-- No strategy of the side wins over the rows.
abbrev pub Loses : Kind → List Kind → (List Bool → Bool) → List Row → Type 0
Loses side ks phi rows = NoneWins (flags side ks) (goal side phi) rows

-- The goal of a case is the case of the goal.
set_goal : (side : Kind) (v : Bool) (ks : List Kind) (phi : List Bool → Bool) (rows : List Row) → Loses side ks (after v phi) rows
    → NoneWins (flags side ks) (after v (goal side phi)) rows
set_goal existential v ks phi rows loses = loses
set_goal universal v ks phi rows loses = loses

-- An own unknown of the side in front: the rows of both cases.
pub loses_both : (side k : Kind) (ks : List Kind) (phi : List Bool → Bool) (rows others : List Row) → own side k ≡ true
    → Loses side ks (after true phi) rows → Loses side ks (after false phi) others → Loses side (k ∷ ks) phi (rows ++ others)
loses_both side k ks phi rows others is_own loses loses_too =
    rw is_own (none_wins_own (flags side ks) (goal side phi) rows others (set_goal side true ks phi rows loses) (set_goal side false ks phi others loses_too))

-- An unknown of the rows' side in front: the rows of one case, with the value in front.
pub loses_one : (side k : Kind) (v : Bool) (ks : List Kind) (phi : List Bool → Bool) (rows : List Row) → own side k ≡ false
    → Loses side ks (after v phi) rows → Loses side (k ∷ ks) phi (with_value v rows)
loses_one side k v ks phi rows not_own loses = rw not_own (none_wins_with_value v (flags side ks) (goal side phi) rows (set_goal side v ks phi rows loses))

-- ---- the same of a search and of the judge

-- The searching side's own unknown in front: no model over the rows of both cases, so none over all of them, with any preferences.
pub search_both : (prefer at_true at_false : ℕ → Bool) (side k : Kind) (ks : List Kind) (phi : List Bool → Bool) (rows others : List Row) → own side k ≡ true
    → search at_true side ks (after true phi) rows ≡ none → search at_false side ks (after false phi) others ≡ none
    → search prefer side (k ∷ ks) phi (rows ++ others) ≡ none
search_both prefer at_true at_false side k ks phi rows others is_own e f =
    (search_none prefer side (k ∷ ks) phi (rows ++ others)).1
    (loses_both side k ks phi rows others is_own
    ((search_none at_true side ks (after true phi) rows).0 e) ((search_none at_false side ks (after false phi) others).0 f))

-- An unknown of the rows' side in front: no model over the rows of one case, so none over these rows with the case's value in front.
pub search_one : (prefer at_value : ℕ → Bool) (side k : Kind) (v : Bool) (ks : List Kind) (phi : List Bool → Bool) (rows : List Row) → own side k ≡ false
    → search at_value side ks (after v phi) rows ≡ none → search prefer side (k ∷ ks) phi (with_value v rows) ≡ none
search_one prefer at_value side k v ks phi rows not_own e =
    (search_none prefer side (k ∷ ks) phi (with_value v rows)).1
    (loses_one side k v ks phi rows not_own ((search_none at_value side ks (after v phi) rows).0 e))

own_if_not_offered : (claim : Bool) (k : Kind) → offered claim k ≡ false → own (side_of claim) k ≡ true
own_if_not_offered claim k e = go (own (side_of claim) k) e
  where
    go : (b : Bool) → not b ≡ false → b ≡ true
    go true e = refl
    go false e = absurd (false≢true (sym e))

not_own_if_offered : (claim : Bool) (k : Kind) → offered claim k ≡ true → own (side_of claim) k ≡ false
not_own_if_offered claim k e = go (own (side_of claim) k) e
  where
    go : (b : Bool) → not b ≡ true → b ≡ false
    go true e = absurd (false≢true e)
    go false e = refl

pub accepted_one : (claim : Bool) (k : Kind) (v : Bool) (ks : List Kind) (phi : List Bool → Bool) (rows : List Row) → offered claim k ≡ true
    → accepted claim ks (after v phi) rows ≡ true → accepted claim (k ∷ ks) phi (with_value v rows) ≡ true
accepted_one claim k v ks phi rows o e =
    (accepted_exactly claim (k ∷ ks) phi (with_value v rows)).1
    (loses_one (side_of claim) k v ks phi rows (not_own_if_offered claim k o) ((accepted_exactly claim ks (after v phi) rows).0 e))

-- Both cases, whosever the unknown is.
pub accepted_together : (claim : Bool) (k : Kind) (ks : List Kind) (phi : List Bool → Bool) (rows others : List Row)
    → accepted claim ks (after true phi) rows ≡ true → accepted claim ks (after false phi) others ≡ true
    → accepted claim (k ∷ ks) phi (together (offered claim k) rows others) ≡ true
accepted_together claim k ks phi rows others e f = go (offered claim k) refl
  where
    go : (b : Bool) → offered claim k ≡ b → accepted claim (k ∷ ks) phi (together b rows others) ≡ true
    go true o =
        (accepted_exactly claim (k ∷ ks) phi (with_value true rows ++ with_value false others)).1
        (none_wins_before (flags (side_of claim) (k ∷ ks)) (goal (side_of claim) phi) (with_value true rows) (with_value false others)
        ((accepted_exactly claim (k ∷ ks) phi (with_value true rows)).0 (accepted_one claim k true ks phi rows o e)))
    go false o =
        (accepted_exactly claim (k ∷ ks) phi (rows ++ others)).1
        (loses_both (side_of claim) k ks phi rows others (own_if_not_offered claim k o)
        ((accepted_exactly claim ks (after true phi) rows).0 e) ((accepted_exactly claim ks (after false phi) others).0 f))
