-- A clause is read entry by entry, and its codes are written behind those of the clauses before it: the codes are the encoding's, and the
-- marks tell which the clause has. Assumes nothing.
use Prim.Native.Nat.{ℕ, zero, suc, ◌+◌, ◌%◌, ◌≤◌, ◌<◌}
use native.Mathlib.Numerals.{add-one}
use native.Mathlib.Omega.{arith}
use native.Mathlib.Decide.{ℕ_discrete}
use mathlib.Core.Path.{◌≡◌, refl, sym, ◌∙◌, ap}
use mathlib.Core.Logic.{⊎_elim}
use mathlib.Core.Bool.{Bool, false, ◌||◌}
use mathlib.Core.List.{List, [], ◌∷◌, ◌++◌, append-nil, append_assoc}
use borrow.Author.Tests.{eq-eqb, ne_eqb, ltb-true, ltb-false, le-ltb}
use lib.Dec.{eqb}
use lib.IntN.{ℤ, pos, negsuc, nat_abs}
use lib.ListN.{length, get_or, take, drop, set, replicate, length-append, length-set, length-replicate, drop_of_length-le}
use lib.Seq.{take_at, take-take, take-suc-set, take-set-lt, set_at, get_or_at, get_or-take, length-take-le, get_or-set_same, get_or-set_other}
use Rattle.formula.specs.Formula.{max_unknowns}
use Rattle.formula.specs.Causes.{any, beyond}
use Rattle.formula.proofs.Any.{any_none}
use Rattle.formula.proofs.Places.{drop_front}
use Rattle.codes.specs.Codes.{last_code, code_of, opposite, has, with_code, Reading, so_far, always_true, read_code, closed, encoding_from, encoding}
use Rattle.codes.specs.Private.Clauses.{Names, PastClause, Added, ClauseEncoded}
use Rattle.codes.proofs.EncodeLaws.{even_or_odd, or_swap, with_code_cases, with_code_length}

-- ---- codes as indices

pub code_below : (z : ℤ) → nat_abs z ≤ max_unknowns → code_of z < last_code + 1
code_below (pos v) small = omega arith
code_below (negsuc v) small = omega arith

pub opposite_below : (c : ℕ) → c < last_code + 1 → opposite c < last_code + 1
unfolding opposite
opposite_below c small =
    ⊎_elim
    (λ even. rw (eq-eqb (c % 2) 0 even) (omega arith))
    (λ odd. rw (ne_eqb (c % 2) 0 (omega arith)) (omega arith))
    (even_or_odd c)

pub names_all : (n : ℕ) (literals : List ℤ) → any (beyond n) literals ≡ false → Names n literals
names_all n literals none i below = ltb-false n (nat_abs (get_or literals i (pos 0))) (any_none (beyond n) (pos 0) (le-ltb n 0 (omega arith)) literals none i)

-- ---- an entry of the literals

pub encoding_end : (r : Reading) (z : ℤ) (zs : List ℤ) → code_of z ≡ 0 → encoding_from r (z ∷ zs) ≡ closed r ++ encoding_from (so_far []) zs
encoding_end r (pos zero) zs e = refl
encoding_end r (pos (suc v)) zs e = absurd (omega arith)
encoding_end r (negsuc v) zs e = absurd (omega arith)

pub encoding_more : (r : Reading) (z : ℤ) (zs : List ℤ) → (code_of z ≡ 0 → ⊥) → encoding_from r (z ∷ zs) ≡ encoding_from (read_code (code_of z) r) zs
encoding_more r (pos zero) zs other = absurd (other refl)
encoding_more r (pos (suc v)) zs other = refl
encoding_more r (negsuc v) zs other = refl

-- ---- stores

take_more : (w : List ℕ) (to code : ℕ) → to < length w → take (to + 1) (set w to code) ≡ take to w ++ (code ∷ [])
take_more w to code below = rw add-one (take-suc-set w to code below)

-- ---- a code is added

module _ (start to code : ℕ) (w : List ℕ) (below : to < length w) where
  first_is : (kept : List ℕ) (x : ℕ) (xs : List ℕ) → start < to → length kept ≡ start → take to w ≡ kept ++ (x ∷ xs) → get_or w start 0 ≡ x
  first_is kept x xs some sized split =
      sym (get_or-take to w start 0 some) ∙ ap (λ (l : List ℕ). get_or l start 0) split ∙ get_or_at kept x xs 0 start sized

  split_length : (kept clause : List ℕ) → take to w ≡ kept ++ clause → to ≡ length kept + length clause
  split_length kept clause split = sym (length-take-le to w (omega arith)) ∙ ap length split ∙ length-append kept clause

  -- Where the first code is not smaller.
  pub added_behind : (start < to → code ≤ get_or w start 0) → Added start to code w (set w to code)
  unfolding with_code
  added_behind least kept [] sized split = take_more w to code below ∙ ap (λ (l : List ℕ). l ++ (code ∷ [])) split ∙ append_assoc kept [] (code ∷ [])
  added_behind least kept (x ∷ xs) sized split =
      with_code_cases (λ l. take (to + 1) (set w to code) ≡ kept ++ l) code x xs
      (λ e.
      let some : start < to = omega (arith, split_length kept (x ∷ xs) split) in
      absurd (omega (arith, ltb-true x code e, least some, first_is kept x xs some sized split)))
      (λ e. take_more w to code below ∙ ap (λ (l : List ℕ). l ++ (code ∷ [])) split ∙ append_assoc kept (x ∷ xs) (code ∷ []))

  -- The code takes the first one's place, which goes behind.
  pub added_first : start < to → get_or w start 0 < code → Added start to code w (set (set w to (get_or w start 0)) start code)
  added_first some larger kept [] sized split = absurd (omega (arith, split_length kept [] split))
  added_first some larger kept (x ∷ xs) sized split =
      let first : get_or w start 0 ≡ x = first_is kept x xs some sized split in
      with_code_cases (λ l. take (to + 1) (set (set w to (get_or w start 0)) start code) ≡ kept ++ l) code x xs
      (λ e.
      take-set-lt (to + 1) (set w to (get_or w start 0)) start code (omega arith)
      ∙ ap (λ (l : List ℕ). set l start code)
      (take_more w to (get_or w start 0) below ∙ ap (λ (l : List ℕ). l ++ (get_or w start 0 ∷ [])) split ∙ ap (λ (y : ℕ). kept ++ (x ∷ xs) ++ (y ∷ [])) first ∙
      append_assoc kept (x ∷ xs) (x ∷ []))
      ∙ set_at kept x (xs ++ (x ∷ [])) code start sized)
      (λ e. absurd (omega (arith, ltb-false x code e, first)))

-- ---- the marks

pub has_behind : (y : ℕ) (xs : List ℕ) (x : ℕ) → has y (xs ++ (x ∷ [])) ≡ (eqb y x || has y xs)
has_behind y [] x = refl
has_behind y (z ∷ xs) x = rw (has_behind y xs x) (or_swap (eqb y z) (eqb y x) (has y xs))

pub has_with_code : (y c : ℕ) (xs : List ℕ) → has y (with_code c xs) ≡ (eqb y c || has y xs)
unfolding with_code
has_with_code y c [] = refl
has_with_code y c (x ∷ xs) =
    with_code_cases (λ l. has y l ≡ (eqb y c || (eqb y x || has y xs))) c x xs
    (λ e. ap (λ (b : Bool). eqb y c || b) (has_behind y xs x))
    (λ e. ap (λ (b : Bool). eqb y x || b) (has_behind y xs c) ∙ or_swap (eqb y x) (eqb y c) (has y xs))

-- A code is marked by 1 if the clause has it.
pub record Marked (seen clause : List ℕ) : Type 0 where
  pub sized : length seen ≡ last_code + 1
  pub tells : (x : ℕ) → x < last_code + 1 → eqb (get_or seen x 0) 1 ≡ has x clause

get_or_zeros : (n x : ℕ) → ◌≡◌ {A = ℕ} (get_or (replicate n 0) x 0) 0
get_or_zeros zero x = refl
get_or_zeros (suc n) zero = refl
get_or_zeros (suc n) (suc x) = get_or_zeros n x

none_marked : Marked (replicate (last_code + 1) 0) []
none_marked = record { sized = length-replicate {A = ℕ} (last_code + 1) 0; tells = λ x below. ap (λ (n : ℕ). eqb n 1) (get_or_zeros (last_code + 1) x) }

one_marked : (seen clause : List ℕ) (c : ℕ) → Marked seen clause → c < last_code + 1 → Marked (set seen c 1) (with_code c clause)
one_marked seen clause c m small =
    record {
      sized = length-set seen c 1 ∙ m.sized;
      tells = λ x below. told x below (ℕ_discrete x c) ∙ sym (has_with_code x c clause);
    }
  where
    told : (x : ℕ) → x < last_code + 1 → Dec (x ≡ c) → eqb (get_or (set seen c 1) x 0) 1 ≡ (eqb x c || has x clause)
    told x below (yes e) =
        rw (eq-eqb x c e) (eq-eqb (get_or (set seen c 1) x 0) 1 (ap (λ (k : ℕ). get_or (set seen c 1) k 0) e ∙ get_or-set_same seen c 1 0
        (let s = m.sized in omega arith)))
    told x below (no e) = rw (ne_eqb x c e, get_or-set_other seen c x 1 0 e) (m.tells x below)

-- ---- a clause is read entry by entry

-- The codes between `start` and `to` are those of the clause up to entry i.
pub record SoFar (literals : List ℤ) (from i start to : ℕ) (w u seen : List ℕ) : Type 0 where
  pub reached : from ≤ i
  pub inside : i ≤ length literals
  pub fits : to ≤ i
  pub kept : length u ≡ length w
  pub new : List ℕ
  pub sized : to ≡ start + length new
  pub written : take to u ≡ take start w ++ new
  pub same : encoding_from (so_far []) (drop from literals) ≡ encoding_from (so_far new) (drop i literals)
  pub marked : Marked seen new

pub none_so_far : (literals : List ℤ) (from start : ℕ) (w : List ℕ) → start ≤ from → from < length literals →
    SoFar literals from from start start w w (replicate (last_code + 1) 0)
none_so_far literals from start w low below =
    record {
      reached = omega arith;
      inside = omega arith;
      fits = low;
      kept = refl;
      new = [];
      sized = omega arith;
      written = sym (append-nil (take start w));
      same = refl;
      marked = none_marked;
    }

-- What is written up to `start` stays.
kept_part : (start to : ℕ) (w u new : List ℕ) → start ≤ to → start ≤ length w → take to u ≡ take start w ++ new → take start u ≡ take start w ++ []
kept_part start to w u new low room written =
    sym (take-take start to u low) ∙ ap (take start) written ∙ take_at (take start w) new start (length-take-le start w room) ∙ sym (append-nil (take start w))

module _ {literals : List ℤ} {from i start to : ℕ} {w u seen : List ℕ} (s : SoFar literals from i start to w u seen) (room : start ≤ length w) where
  -- The clause is left out.
  left_out : (next : ℕ) → i ≤ next → from < next → next ≤ length literals →
      encoding_from (so_far s.new) (drop i literals) ≡ encoding_from (so_far []) (drop next literals) → ClauseEncoded literals from next start start w u
  left_out next later ahead inside same =
      let low : start ≤ to = omega (arith, s.sized) in
      record {
        ahead = ahead;
        inside = inside;
        fits = omega (arith, s.fits);
        new = [];
        sized = omega arith;
        written = kept_part start to w u s.new low room s.written;
        same = s.same ∙ same;
      }

  -- No zero ends the clause.
  pub out_of_entries : length literals ≤ i → from < length literals → ClauseEncoded literals from i start start w u
  out_of_entries past below =
      left_out i (omega arith) (omega arith) s.inside
      (ap (encoding_from (so_far s.new)) (drop_of_length-le literals past) ∙ sym (ap (encoding_from (so_far [])) (drop_of_length-le literals past)))

  module _ (below : i < length literals) (c : ℕ) (is : c ≡ code_of (get_or literals i (pos 0))) where
    rest : drop i literals ≡ get_or literals i (pos 0) ∷ drop (i + 1) literals
    rest = drop_front literals i (pos 0) below

    next_entry : (r : Reading) → (c ≡ 0 → ⊥) → encoding_from r (drop i literals) ≡ encoding_from (read_code c r) (drop (i + 1) literals)
    next_entry r other =
        ap (encoding_from r) rest ∙ encoding_more r (get_or literals i (pos 0)) (drop (i + 1) literals) (λ e. other (is ∙ e))
        ∙ ap (λ (x : ℕ). encoding_from (read_code x r) (drop (i + 1) literals)) (sym is)

    -- The zero behind the clause.
    pub clause_ended : c ≡ 0 → to < length u → ClauseEncoded literals from (i + 1) start (to + 1) w (set u to 0)
    clause_ended zero_here fitting =
        record {
          ahead = omega (arith, s.reached);
          inside = omega arith;
          fits = omega (arith, s.fits);
          new = s.new ++ (0 ∷ []);
          sized = omega (arith, s.sized, length-append s.new (0 ∷ []));
          written = take_more u to 0 fitting ∙ ap (λ (l : List ℕ). l ++ (0 ∷ [])) s.written ∙ append_assoc (take start w) s.new (0 ∷ []);
          same = s.same ∙ ap (encoding_from (so_far s.new)) rest ∙ encoding_end (so_far s.new) (get_or literals i (pos 0)) (drop (i + 1) literals)
              (sym is ∙ zero_here);
        }

    module _ (other : c ≡ 0 → ⊥) (small : c < last_code + 1) (o : ℕ) (is_opposite : o ≡ opposite c) where
      told : eqb (get_or seen o 0) 1 ≡ has (opposite c) s.new
      told = ap (λ (x : ℕ). eqb (get_or seen x 0) 1) is_opposite ∙ s.marked.tells (opposite c) (opposite_below c small)

      -- A clause with a literal and its opposite is left out.
      pub clause_true : get_or seen o 0 ≡ 1 → (next : ℕ) → PastClause literals i next → ClauseEncoded literals from next start start w u
      clause_true one next past =
          left_out next (omega (arith, past.ahead)) (omega (arith, s.reached, past.ahead)) past.inside
          (next_entry (so_far s.new) other ∙ ap (λ (r : Reading). encoding_from r (drop (i + 1) literals)) opposed ∙ sym (next_entry always_true other) ∙
          past.same)
        where
          opposed : read_code c (so_far s.new) ≡ always_true
          opposed = rw (sym told ∙ eq-eqb (get_or seen o 0) 1 one)

      module _ (none : get_or seen o 0 ≡ 1 → ⊥) where
        unopposed : has (opposite c) s.new ≡ false
        unopposed = sym told ∙ ne_eqb (get_or seen o 0) 1 none

        -- A literal that the clause has changes nothing.
        pub more_seen : get_or seen c 0 ≡ 1 → SoFar literals from (i + 1) start to w u seen
        more_seen one =
            record {
              reached = omega (arith, s.reached);
              inside = omega arith;
              fits = omega (arith, s.fits);
              kept = s.kept;
              new = s.new;
              sized = s.sized;
              written = s.written;
              same = s.same ∙ next_entry (so_far s.new) other ∙ ap (λ (r : Reading). encoding_from r (drop (i + 1) literals)) again;
              marked = s.marked;
            }
          where
            again : read_code c (so_far s.new) ≡ so_far s.new
            again = rw (unopposed, sym (s.marked.tells c small) ∙ eq-eqb (get_or seen c 0) 1 one)

        pub more_added : (get_or seen c 0 ≡ 1 → ⊥) → (v : List ℕ) → length v ≡ length u → Added start to c u v →
            SoFar literals from (i + 1) start (to + 1) w v (set seen c 1)
        more_added new v kept added =
            record {
              reached = omega (arith, s.reached);
              inside = omega arith;
              fits = omega (arith, s.fits);
              kept = kept ∙ s.kept;
              new = with_code c s.new;
              sized = omega (arith, s.sized, with_code_length c s.new);
              written = added (take start w) s.new (length-take-le start w room) s.written;
              same = s.same ∙ next_entry (so_far s.new) other ∙ ap (λ (r : Reading). encoding_from r (drop (i + 1) literals)) joined;
              marked = one_marked seen s.new c s.marked small;
            }
          where
            joined : read_code c (so_far s.new) ≡ so_far (with_code c s.new)
            joined = rw (unopposed, sym (s.marked.tells c small) ∙ ne_eqb (get_or seen c 0) 1 new)

-- ---- clause after clause

-- The codes are those of the clauses before entry i.
pub record EncodedTo (literals : List ℤ) (i to : ℕ) (codes : List ℕ) : Type 0 where
  pub sized : length (take to codes) ≡ to
  pub same : encoding literals ≡ take to codes ++ encoding_from (so_far []) (drop i literals)

pub none_encoded : (literals : List ℤ) (codes : List ℕ) → EncodedTo literals 0 0 codes
unfolding encoding
none_encoded literals codes = record { sized = refl; same = refl }

pub more_encoded : {literals : List ℤ} {from next start to : ℕ} {w u : List ℕ} → EncodedTo literals from start w →
    ClauseEncoded literals from next start to w u → EncodedTo literals next to u
more_encoded {literals} {from} {next} {start} {to} {w} {u} e clause =
    record {
      sized = ap length clause.written ∙ length-append (take start w) clause.new ∙ ap (λ (n : ℕ). n + length clause.new) e.sized ∙ sym
          clause.sized;
      same = e.same ∙ ap (λ (l : List ℕ). take start w ++ l) clause.same
          ∙ sym (append_assoc (take start w) clause.new (encoding_from (so_far []) (drop next literals)))
          ∙ ap (λ (l : List ℕ). l ++ encoding_from (so_far []) (drop next literals)) (sym clause.written);
    }

module _ {literals : List ℤ} {i to : ℕ} {codes : List ℕ} (e : EncodedTo literals i to codes) (past : length literals ≤ i) where
  pub all_written : take to codes ≡ encoding literals
  all_written = sym (e.same ∙ ap (λ (l : List ℤ). take to codes ++ encoding_from (so_far []) l) (drop_of_length-le literals past) ∙ append-nil (take to codes))

  pub all_counted : to ≡ length (encoding literals)
  all_counted = sym e.sized ∙ ap length all_written
