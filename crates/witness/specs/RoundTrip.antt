-- The round trip of the witness file: what 02's C-18 says of reading and writing together.
-- Assumes nothing.
use Rattle.std.specs.Prelude.{ℕ, ◌*◌, ◌≤◌, ◌<◌, ◌≡◌, true, false, List, ◌++◌, length, get_or, take, drop, Ok}
use Rattle.witness.specs.declared.Record.{Record}
use Rattle.witness.specs.File.{stands, part, file, record_of, rows_back, file_cause, size, write_cause, writing, out_after, kept}

-- What writing makes of an accepted file's record and rows, in an output with room for it: the file, and what lay past it.
pub record WrittenAgain (f out : List ℕ) : Type 0 where
  pub returned : writing (record_of f) (rows_back f true) (rows_back f false) out ≡ Ok (length f)
  pub same : out_after (record_of f) (rows_back f true) (rows_back f false) out ≡ f ++ drop (length f) out

-- What reading makes of the file of a record: the record, with 0 where no bit stands, and each side that stands as the first 16 · count bytes
-- lent.
pub record ReadAgain (r : Record) (universal existential : List ℕ) : Type 0 where
  pub accepted : file_cause (file r universal existential) ≡ 0
  pub whole : length (file r universal existential) ≡ size r
  pub same : record_of (file r universal existential) ≡ kept r
  pub universal_back : rows_back (file r universal existential) true ≡ part (stands 2 r.map) (take (16 * r.universal) universal)
  pub existential_back : rows_back (file r universal existential) false ≡ part (stands 3 r.map) (take (16 * r.existential) existential)

pub record RoundTrip : Type 0 where
  -- 'A file that is accepted is the file the writer makes of what was read.' Each element of a file is a byte.
  pub read_then_written : (f out : List ℕ) → ((i : ℕ) → get_or f i 0 < 256) → file_cause f ≡ 0 → length f ≤ length out → WrittenAgain f out
  -- 'Each record that the writer takes is read again unchanged.'
  pub written_then_read : (r : Record) (universal existential : List ℕ) (room : ℕ) → write_cause r universal existential room ≡ 0
      → ReadAgain r universal existential
