-- 02's witness file (C-18): a record as bytes, what bytes are read as, and the causes of reading and of writing.
-- Assumes nothing.
use Rattle.std.specs.Prelude.{ℕ, ◌+◌, ◌*◌, ◌/◌, ◌%◌, ◌^◌, Bool, true, false, cond, ◌&&◌, ◌||◌, List, [], ◌∷◌, ◌++◌, eqb, ltb, length, get_or, take, drop}
use Rattle.std.specs.Prelude.{Result, Ok, Err}
use Rattle.cause.specs.declared.Cause.{Cause}
use Rattle.cause.specs.Cause.{told, unless_cause}
use Rattle.formula.specs.Formula.{max_rows}
use Rattle.witness.specs.declared.Record.{Record}

-- A record by its fields.
abbrev pub made : ℕ → ℕ → ℕ → ℕ → ℕ → ℕ → ℕ → Record
made map claim unknowns clauses universal existential rounds =
    record {
      map = map;
      claim = claim;
      unknowns = unknowns;
      clauses = clauses;
      universal = universal;
      existential = existential;
      rounds = rounds;
    }

-- 'The first byte is a bit map.' Bit k of it stands.
abbrev pub stands : ℕ → ℕ → Bool
stands k map = eqb (map / 2 ^ k % 2) 1

-- 'Only the fields whose bit stands': a field's bytes, or none; its number, or 0.
abbrev pub part : Bool → List ℕ → List ℕ
part true bytes = bytes
part false bytes = []

abbrev pub if_stands : Bool → ℕ → ℕ
if_stands true n = n
if_stands false n = 0

-- '16 bits .. low byte first': as bytes, and the number that the first two bytes are. A byte past the end reads as 0.
abbrev pub two_bytes : ℕ → List ℕ
two_bytes n = n % 256 ∷ n / 256 ∷ []

abbrev pub word : List ℕ → ℕ
word bytes = get_or bytes 0 0 + get_or bytes 1 0 * 256

-- 'A 16-bit count, then the rows': sixteen bytes a row.
abbrev pub rows_field : ℕ → List ℕ → List ℕ
rows_field count rows = two_bytes count ++ take (16 * count) rows

-- 'After it come only the fields whose bit stands, in bit order. Bit 0: claim, a byte. Bit 1: n and clause count, 16 bits each. Bit 2:
-- universal rows .. Bit 3: existential rows likewise. Bit 4: rounds, 16 bits.'
unfoldable pub file : Record → List ℕ → List ℕ → List ℕ
file r universal existential =
    r.map
    ∷ part (stands 0 r.map) (r.claim ∷ [])
    ++ (part (stands 1 r.map) (two_bytes r.unknowns ++ two_bytes r.clauses)
    ++ (part (stands 2 r.map) (rows_field r.universal universal)
    ++ (part (stands 3 r.map) (rows_field r.existential existential)
    ++ part (stands 4 r.map) (two_bytes r.rounds))))

-- Where the fields of a file start, and where the last one ends, the counts taken as they stand. Since a byte past the end reads as 0, a file
-- that 'stops short of its fields or goes on after them' is one whose length is not that end.
abbrev pub has : ℕ → List ℕ → Bool
has k f = stands k (get_or f 0 0)

abbrev pub sizes_at : List ℕ → ℕ
sizes_at f = 1 + if_stands (has 0 f) 1

abbrev pub universal_at : List ℕ → ℕ
universal_at f = sizes_at f + if_stands (has 1 f) 4

abbrev pub universal_count : List ℕ → ℕ
universal_count f = if_stands (has 2 f) (word (drop (universal_at f) f))

abbrev pub existential_at : List ℕ → ℕ
existential_at f = universal_at f + if_stands (has 2 f) (2 + 16 * universal_count f)

abbrev pub existential_count : List ℕ → ℕ
existential_count f = if_stands (has 3 f) (word (drop (existential_at f) f))

abbrev pub rounds_at : List ℕ → ℕ
rounds_at f = existential_at f + if_stands (has 3 f) (2 + 16 * existential_count f)

abbrev pub end_of : List ℕ → ℕ
end_of f = rounds_at f + if_stands (has 4 f) 2

-- 'A record is its map and the fields whose bit stands, nothing else': the others are 0.
unfoldable pub record_of : List ℕ → Record
record_of f =
    record {
      map = get_or f 0 0;
      claim = if_stands (has 0 f) (get_or f 1 0);
      unknowns = if_stands (has 1 f) (word (drop (sizes_at f) f));
      clauses = if_stands (has 1 f) (word (drop (sizes_at f + 2) f));
      universal = universal_count f;
      existential = existential_count f;
      rounds = if_stands (has 4 f) (word (drop (rounds_at f) f));
    }

-- The bytes of a side's rows in a file: the universal side's if the first argument is true.
abbrev pub side_rows : Bool → List ℕ → List ℕ
side_rows true f = part (has 2 f) (take (16 * universal_count f) (drop (universal_at f + 2) f))
side_rows false f = part (has 3 f) (take (16 * existential_count f) (drop (existential_at f + 2) f))

-- 'A claim above 1.'
abbrev pub bad_claim : Record → Bool
bad_claim r = stands 0 r.map && ltb 1 r.claim

-- 'A count of 0 or over 256.'
abbrev pub bad_count : Bool → ℕ → Bool
bad_count there count = there && (eqb count 0 || ltb max_rows count)

abbrev pub bad_counts : Record → Bool
bad_counts r = bad_count (stands 2 r.map) r.universal || bad_count (stands 3 r.map) r.existential

-- '.. Then with 7 a claim above 1, then with 4 a count': of what stands in the record.
abbrev pub content_cause : Record → ℕ
content_cause r = cond (bad_claim r) 7 (cond (bad_counts r) 4 0)

-- 'It refuses with 17 a map with bit 5, 6 or 7, then with 18 a file that stops short of its fields or goes on after them, an empty file too.'
-- 0 if the file is accepted.
unfoldable pub file_cause : List ℕ → ℕ
file_cause f =
    cond (eqb (length f) 0) 18
    (cond (ltb 31 (get_or f 0 0)) 17 (cond (eqb (length f) (end_of f)) (content_cause (record_of f)) 18))

-- The length of a record's file, by the counts given.
abbrev pub size : Record → ℕ
size r =
    1 + if_stands (stands 0 r.map) 1 + if_stands (stands 1 r.map) 4 + if_stands (stands 2 r.map) (2 + 16 * r.universal)
    + if_stands (stands 3 r.map) (2 + 16 * r.existential)
    + if_stands (stands 4 r.map) 2

-- 'A writer's count over the whole rows lent, in a table of any length, is 4 too.' A rest of less than sixteen bytes is no row.
abbrev pub over_lent : Bool → ℕ → List ℕ → Bool
over_lent there count rows = there && ltb (length rows / 16) count

-- '(And, in writing, an output too short)' is 18.
unfoldable pub write_cause : Record → List ℕ → List ℕ → ℕ → ℕ
write_cause r universal existential room =
    cond (ltb 31 r.map) 17
    (cond (ltb room (size r)) 18
    (cond (bad_claim r) 7
    (cond (bad_counts r) 4
    (cond (over_lent (stands 2 r.map) r.universal universal || over_lent (stands 3 r.map) r.existential existential) 4 0))))

-- What reading returns.
abbrev pub reading : List ℕ → Result Record Cause
reading f = unless_cause (file_cause f) (record_of f)

-- The number of each case, 0 for a record that is read, else the cause's; and the record, zeros where none is read.
abbrev pub reading_number : Result Record Cause → ℕ
reading_number answer = told answer

abbrev pub record_read : Result Record Cause → Record
record_read (Ok r) = r
record_read (Err cause) = made 0 0 0 0 0 0 0

abbrev pub read_record : List ℕ → Record
read_record f = cond (eqb (file_cause f) 0) (record_of f) (made 0 0 0 0 0 0 0)

-- 'On request a side's rows come back as a part of the file, empty if not there or the file is refused.'
unfoldable pub rows_back : List ℕ → Bool → List ℕ
rows_back f universal = cond (eqb (file_cause f) 0) (side_rows universal f) []

-- 'As a part of the file': where that part begins in the file, counted in bytes; an empty part begins where the file does.
abbrev pub side_start : Bool → List ℕ → ℕ
side_start true f = if_stands (has 2 f) (universal_at f + 2)
side_start false f = if_stands (has 3 f) (existential_at f + 2)

unfoldable pub rows_start : List ℕ → Bool → ℕ
rows_start f universal = cond (eqb (file_cause f) 0) (side_start universal f) 0

-- 'A write returns the file's length and leaves what lies past it'; a refusal leaves every byte.
abbrev pub writing : Record → List ℕ → List ℕ → List ℕ → Result ℕ Cause
writing r universal existential out = unless_cause (write_cause r universal existential (length out)) (size r)

-- The number of each case, 0 for a file that is written, else the cause's; and the file's length, 0 where none is written.
abbrev pub writing_number : Result ℕ Cause → ℕ
writing_number answer = told answer

abbrev pub length_written : Result ℕ Cause → ℕ
length_written (Ok n) = n
length_written (Err cause) = 0

abbrev pub written_length : Record → List ℕ → List ℕ → List ℕ → ℕ
written_length r universal existential out = cond (eqb (write_cause r universal existential (length out)) 0) (size r) 0

-- The output at exit.
unfoldable pub out_after : Record → List ℕ → List ℕ → List ℕ → List ℕ
out_after r universal existential out =
    cond (eqb (write_cause r universal existential (length out)) 0) (file r universal existential ++ drop (size r) out) out

-- A record without what counts for nothing.
abbrev pub kept : Record → Record
kept r =
    record {
      map = r.map;
      claim = if_stands (stands 0 r.map) r.claim;
      unknowns = if_stands (stands 1 r.map) r.unknowns;
      clauses = if_stands (stands 1 r.map) r.clauses;
      universal = if_stands (stands 2 r.map) r.universal;
      existential = if_stands (stands 3 r.map) r.existential;
      rounds = if_stands (stands 4 r.map) r.rounds;
    }
