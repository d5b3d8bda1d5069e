-- How the rows that still fit the moves are found, bit by bit, and copied to a table of their own. Assumes nothing.
use Rattle.std.specs.Prelude.{ℕ, suc, ◌+◌, ◌≤◌, ◌<◌, ◌≡◌, Bool, true, false, ◌&&◌, List, [], ◌∷◌, ltb, ℤ, length, Result, Ok, Err}
use Rattle.cause.specs.declared.Cause.{Cause}
use Rattle.std.specs.Bool.{beq}
use Rattle.formula.specs.Formula.{Kind, prefix}
use Rattle.rows.specs.Row.{bit_of}
use Rattle.rows.specs.Stray.{row_bits, stray}
use Rattle.rows.specs.Table.{row_at, rows_of, room}
use Rattle.judge.specs.declared.Judgement.{Judgement}
use Rattle.judge.specs.declared.Judgement.TheVariants.{NotBorneOut, Accepted}
use Rattle.case_rules.specs.Restricted.{IsAccepted, kinds_behind}
use Rattle.case_rules.specs.Casebook.{offered}
use Rattle.reply_rules.specs.Position.{fitting}

-- What is lent was not refused.
pub record Lent (kinds : List ℕ) (literals : List ℤ) (claim : ℕ) (rows : List ℕ) (count : ℕ) : Type 0 where
  pub formula : IsAccepted kinds literals
  pub known : claim ≤ 1
  pub few : count ≤ 256
  pub inside : count ≤ room rows

-- One more for an own unknown, and for another none: how many of the unknowns are own.
abbrev pub one_if : Bool → ℕ
one_if true = 1
one_if false = 0

abbrev pub more_if : Bool → ℕ → ℕ
more_if true n = suc n
more_if false n = n

abbrev pub owned : Bool → List Kind → ℕ
owned claim [] = 0
owned claim (k ∷ ks) = more_if (offered claim k) (owned claim ks)

-- A row's next bit agrees with a move, if the unknown is own.
abbrev pub agrees : Bool → Bool → Bool → Bool
agrees true v bit = beq v bit
agrees false v bit = true

-- The row with these bits fits the moves.
abbrev pub fits : Bool → List Kind → List Bool → (ℕ → Bool) → Bool
fits claim [] vs bits = true
fits claim (k ∷ ks) [] bits = true
fits claim (k ∷ ks) (v ∷ vs) bits = agrees (offered claim k) v (bits 0) && fits claim ks vs (λ i. bits (more_if (offered claim k) i))

-- No bit is set in the rows from a place on.
abbrev pub Blank : ℕ → List ℕ → Type 0
Blank n table = (j : ℕ) → n ≤ j → (p : ℕ) → p < row_bits → bit_of (row_at table j) p ≡ false

-- Some bits were copied to a row, and nothing else changed.
pub record Copied (bits : ℕ → Bool) (from width : ℕ) (before : List ℕ) (to : ℕ) (now : List ℕ) : Type 0 where
  pub size : length now ≡ length before
  pub others : (j : ℕ) → (j ≡ to → ⊥) → row_at now j ≡ row_at before j
  pub copied : (p : ℕ) → p < row_bits → bit_of (row_at now to) p ≡ ltb p width && bits (from + p)

abbrev pub Kept : Bool → (ℕ → Bool) → ℕ → ℕ → List ℕ → ℕ → List ℕ → Type 0
Kept true bits from width before to now = Copied bits from width before to now
Kept false bits from width before to now = now ≡ before

-- The rows below a count that fit the moves vs, and only they, are kept.
pub record Fitted (claim : Bool) (kinds : List ℕ) (vs : List Bool) (rows : List ℕ) (count : ℕ) (kept : List ℕ) (to : ℕ) : Type 0 where
  pub few : to ≤ count
  pub held : rows_of (owned claim (prefix (kinds_behind vs kinds))) to kept ≡ fitting claim (prefix kinds) vs (rows_of (owned claim (prefix kinds)) count rows)
  pub clean : (j : ℕ) → j < to → stray (owned claim (prefix (kinds_behind vs kinds))) (row_at kept j) ≡ false
  pub blank : Blank to kept

-- The judge accepts.
abbrev pub says_accepted : Result Judgement Cause → Bool
says_accepted (Ok NotBorneOut) = false
says_accepted (Ok Accepted) = true
says_accepted (Err cause) = false
