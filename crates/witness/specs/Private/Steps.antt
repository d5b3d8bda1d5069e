-- What the private functions say of each other: where the fields of a file start, and a part put behind others into a buffer.
-- Assumes nothing.
use Rattle.std.specs.Prelude.{ℕ, ◌+◌, ◌*◌, ◌^◌, ◌≤◌, ◌<◌, ◌≡◌, true, List, [], ◌∷◌, ◌++◌, length, take, drop}
use Rattle.witness.specs.declared.Record.{Record}
use Rattle.witness.specs.declared.Layout.{Layout}
use Rattle.witness.specs.File.{stands, part, two_bytes, rows_field, sizes_at, universal_at, existential_at, rounds_at, end_of, size}

pub record Placed (at : Layout) (f : List ℕ) : Type 0 where
  pub sizes : at.sizes ≡ sizes_at f
  pub universal : at.universal ≡ universal_at f
  pub existential : at.existential ≡ existential_at f
  pub rounds : at.rounds ≡ rounds_at f
  pub end : at.end ≡ end_of f
  pub near : rounds_at f < 2 ^ 31

-- A buffer after bytes were put into it from a place on, and the place behind them.
pub record Put (before after : List ℕ) (at behind : ℕ) (bytes : List ℕ) : Type 0 where
  pub place : behind ≡ at + length bytes
  pub whole : after ≡ take at before ++ (bytes ++ drop behind before)

-- The record's file fits the buffer, and the rows that it counts are lent.
pub record Fitting (r : Record) (universal existential : List ℕ) (room : ℕ) : Type 0 where
  pub size_fits : size r ≤ room
  pub universal_lent : stands 2 r.map ≡ true → 16 * r.universal ≤ length universal
  pub existential_lent : stands 3 r.map ≡ true → 16 * r.existential ≤ length existential

-- The fields before the rows, one behind the other.
abbrev pub head : Record → List ℕ
head r =
    (r.map ∷ [])
    ++ (part (stands 0 r.map) (r.claim ∷ [])
    ++ (part (stands 1 r.map) (two_bytes r.unknowns) ++ part (stands 1 r.map) (two_bytes r.clauses)))

abbrev pub all_fields : Record → List ℕ → List ℕ → List ℕ
all_fields r universal existential =
    head r
    ++ (part (stands 2 r.map) (rows_field r.universal universal)
    ++ (part (stands 3 r.map) (rows_field r.existential existential) ++ part (stands 4 r.map) (two_bytes r.rounds)))
