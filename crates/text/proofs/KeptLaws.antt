-- What holds of the state between any two words of a text: its sizes, its names, its clauses. Assumes nothing.
use Prim.Native.Nat.{ℕ, zero, suc, ◌+◌, ◌-◌, ◌≤◌, ◌<◌}
use native.Mathlib.Omega.{arith}
use mathlib.Core.Path.{◌≡◌, refl, sym, ap, subst, ◌∙◌}
use mathlib.Core.Bool.{Bool, true, false, cond, ◌||◌, true≢false}
use mathlib.Core.List.{List, [], ◌∷◌, ◌++◌, append_assoc}
use mathlib.Core.Logic.{◌⊎◌, inl, inr}
use borrow.Author.Tests.{ltb-true, ltb-false, leb-true}
use lib.Dec.{leb, ltb}
use lib.IntN.{ℤ, pos, negsuc, nat_abs}
use lib.ListN.{length, length-append}
use lib.Seq.{get_or-append_seam}
use Rattle.formula.specs.Formula.{max_unknowns, max_clauses, max_entries}
use Rattle.formula.specs.Causes.{any, other_kind, zeros, ended, is_zero as is_end}
use Rattle.formula.proofs.Any.{or_none}
use Rattle.lines.specs.Lines.{Bytes}
use Rattle.lines.specs.Numbers.{number, unsigned, negative, no_number, is_zero, is_literal}
use Rattle.named.specs.Named.{among, signed}
use Rattle.named.specs.Names.{In, Stands, Distinct, Rising, UpTo, Known}
use Rattle.named.specs.Closing.{insert, closed_names}
use Rattle.named.proofs.NameLaws.{and_both, among_in, not_among, in_append, in_front, distinct_behind, up_to_append, known_more, known_append, known_signed, length_insert, insert_has, insert_holds, distinct_insert, rising_insert, up_to_inserted}
use Rattle.named.proofs.Negation.{signed_size}
use Rattle.text.specs.Reading.{max_variables, State, bind, room_cause, has_place, literal_cause, entry, free_with, add_entry}
use Rattle.text.specs.Private.Steps.{Placeable}
use Rattle.text.proofs.NameLaws.{room_cause_zero}

-- A state with z clauses closed.
pub record Kept (s : State) (z : ℕ) : Type 0 where
  pub known : any other_kind s.kinds ≡ false
  pub as_many : length s.kinds ≡ length s.names
  pub few_names : length (closed_names s.free s.names) ≤ max_unknowns
  pub few_entries : length s.entries ≤ max_entries
  pub few_variables : s.variables ≤ max_variables
  pub few_clauses : s.clauses ≤ max_clauses
  pub counted : zeros s.entries ≡ z
  pub placeable : Placeable (closed_names s.free s.names) s.entries
  pub rising : Rising s.free
  pub stands : (v : ℕ) → In v s.free → Stands v s.entries

-- Between two lines. Before the first clause line no name is free.
pub record Whole (s : State) : Type 0 where
  pub kept : Kept s s.clauses_read
  pub in_count : s.clauses_read ≤ s.clauses
  pub closed : ended s.entries ≡ true
  pub unread : s.clauses_read ≡ 0 → s.free ≡ []

-- Within a clause line, before its 0 and after it.
pub record Open (s : State) : Type 0 where
  pub kept : Kept s s.clauses_read
  pub in_count : s.clauses_read < s.clauses

pub record Closed (s : State) : Type 0 where
  pub kept : Kept s (suc s.clauses_read)
  pub in_count : s.clauses_read < s.clauses
  pub closed : ended s.entries ≡ true

-- Lists with one more behind.
pub any_behind : {A : Type 0} (test : A → Bool) (l : List A) (x : A) → any test l ≡ false → test x ≡ false → any test (l ++ (x ∷ [])) ≡ false
any_behind test [] x none last = rw last refl
any_behind test (y ∷ ys) x none last =
    let both = or_none (test y) (any test ys) none in
    rw both.0 (any_behind test ys x both.1 last)

zeros_behind : (l : List ℤ) (z : ℤ) → is_end z ≡ false → zeros (l ++ (z ∷ [])) ≡ zeros l
zeros_behind [] (pos zero) e = absurd (true≢false e)
zeros_behind [] (pos (suc v)) e = refl
zeros_behind [] (negsuc v) e = refl
zeros_behind (pos zero ∷ l) z e = ap suc (zeros_behind l z e)
zeros_behind (pos (suc v) ∷ l) z e = zeros_behind l z e
zeros_behind (negsuc v ∷ l) z e = zeros_behind l z e

zeros_closed : (l : List ℤ) → zeros (l ++ (pos 0 ∷ [])) ≡ suc (zeros l)
zeros_closed [] = refl
zeros_closed (pos zero ∷ l) = ap suc (zeros_closed l)
zeros_closed (pos (suc v) ∷ l) = zeros_closed l
zeros_closed (negsuc v ∷ l) = zeros_closed l

length_behind : {A : Type 0} (l : List A) (x : A) → length (l ++ (x ∷ [])) ≡ length l + 1
length_behind l x = length-append l (x ∷ [])

pub ended_closed : (l : List ℤ) → ended (l ++ (pos 0 ∷ [])) ≡ true
ended_closed l =
    let last : length (l ++ (pos 0 ∷ [])) - 1 ≡ length l = omega (arith, length_behind l (pos 0)) in
    rw (last, get_or-append_seam l (pos 0) [] (pos 0)) refl

stands_front : (v : ℕ) (zs ws : List ℤ) → Stands v zs → Stands v (zs ++ ws)
stands_front v [] ws t = absurd t
stands_front v (z ∷ zs) ws (inl e) = inl e
stands_front v (z ∷ zs) ws (inr t) = inr (stands_front v zs ws t)

stands_last : (v : ℕ) (zs : List ℤ) (z : ℤ) → nat_abs z ≡ v → Stands v (zs ++ (z ∷ []))
stands_last v [] z e = inl e
stands_last v (x ∷ zs) z e = inr (stands_last v zs z e)

-- A name in a prefix line.
module _ (kind : ℕ) (s : State) (v : ℕ) (known : other_kind kind ≡ false) (small : v ≤ s.variables) (room : length s.names < max_unknowns) (new : among v s.names ≡ false) where
  not_there : s.free ≡ [] → In v (closed_names s.free s.names) → ⊥
  not_there none i = not_among v s.names new (subst (λ (free : List ℕ). In v (closed_names free s.names)) none i)

  behind : closed_names s.free (s.names ++ (v ∷ [])) ≡ closed_names s.free s.names ++ (v ∷ [])
  behind = sym (append_assoc s.free s.names (v ∷ []))

  pub bind_whole : s.clauses_read ≡ 0 → Whole s → Whole (bind kind s v)
  bind_whole start w =
      let K = w.kept in
      let P = K.placeable in
      let none = w.unread start in
      let few : length (closed_names s.free s.names) ≡ length s.names = ap (λ (free : List ℕ). length (closed_names free s.names)) none in
      record {
        kept =
            record {
              known = any_behind other_kind s.kinds kind K.known known;
              as_many = omega (arith, length_behind s.kinds kind, length_behind s.names v, K.as_many);
              few_names = omega (arith, ap length behind, length_behind (closed_names s.free s.names) v, few);
              few_entries = K.few_entries;
              few_variables = K.few_variables;
              few_clauses = K.few_clauses;
              counted = K.counted;
              placeable =
                  record {
                    different = subst Distinct (sym behind) (distinct_behind (closed_names s.free s.names) v P.different (not_there none));
                    small =
                        subst (UpTo max_variables) (sym behind)
                        (up_to_append max_variables (closed_names s.free s.names) (v ∷ []) P.small (omega (arith, K.few_variables), tt));
                    known =
                        subst (λ (names : List ℕ). Known names s.entries) (sym behind)
                        (known_more (closed_names s.free s.names) (closed_names s.free s.names ++ (v ∷ [])) (λ u i. in_front u (closed_names s.free s.names) (v ∷ []) i) s.entries P.known);
                  };
              rising = K.rising;
              stands = K.stands;
            };
        in_count = w.in_count;
        closed = w.closed;
        unread = w.unread;
      }

-- The closing 0.
entry_zero : (w : Bytes) → is_zero w ≡ true → entry w ≡ pos 0
unfolding entry
entry_zero w e = rw e refl

free_zero : (free names : List ℕ) (w : Bytes) → is_zero w ≡ true → free_with free names w ≡ free
unfolding free_with
free_zero free names w e = rw e refl

pub add_zero : (s : State) (w : Bytes) → is_zero w ≡ true → length s.entries < max_entries → Open s → Closed (add_entry s w)
add_zero s w none room o =
    let K = o.kept in
    let P = K.placeable in
    rw (entry_zero w none, free_zero s.free s.names w none)
    (record {
      kept =
          record {
            known = K.known;
            as_many = K.as_many;
            few_names = K.few_names;
            few_entries = omega (arith, length_behind s.entries (pos 0));
            few_variables = K.few_variables;
            few_clauses = K.few_clauses;
            counted = zeros_closed s.entries ∙ ap suc K.counted;
            placeable =
                record {
                  different = P.different;
                  small = P.small;
                  known = known_append (closed_names s.free s.names) s.entries (pos 0 ∷ []) P.known tt;
                };
            rising = K.rising;
            stands = λ v i. stands_front v s.entries (pos 0 ∷ []) (K.stands v i);
          };
      in_count = o.in_count;
      closed = ended_closed s.entries;
    })

-- A literal.
signed_some : (b : Bool) (p : ℕ) → (p ≡ 0 → ⊥) → is_end (signed b p) ≡ false
signed_some b zero some = absurd (some refl)
signed_some true (suc p) some = refl
signed_some false (suc p) some = refl

entry_literal : (w : Bytes) → is_zero w ≡ false → entry w ≡ signed (negative w) (number (unsigned w))
unfolding entry
entry_literal w e = rw e refl

free_literal : (free names : List ℕ) (w : Bytes) → is_zero w ≡ false
    → free_with free names w ≡ cond (among (number (unsigned w)) (closed_names free names)) free (insert (number (unsigned w)) free)
unfolding free_with
free_literal free names w e = rw e refl

-- A literal with no cause: its name is at most V and has a place, and there is room for it.
pub literal_facts : (variables : ℕ) (names : List ℕ) (used : ℕ) (w : Bytes) → is_zero w ≡ false → literal_cause variables names used w ≡ 0
    → (number (unsigned w) ≤ variables) × (has_place names (number (unsigned w)) ≡ true) × (used < max_entries)
unfolding literal_cause
literal_facts variables names used w some none =
    go (is_zero w) (ltb variables (number (unsigned w))) (has_place names (number (unsigned w))) some refl none
  where
    go : (a b c : Bool) → a ≡ false → ltb variables (number (unsigned w)) ≡ b → ◌≡◌ {A = ℕ} (cond a (room_cause used) (cond b 11 (cond c (room_cause used) 14))) 0
        → (number (unsigned w) ≤ variables) × (c ≡ true) × (used < max_entries)
    go true b c some p none = absurd (true≢false some)
    go false true c some p none = absurd (omega arith)
    go false false true some p none = (ltb-false variables (number (unsigned w)) p, refl, room_cause_zero used none)
    go false false false some p none = absurd (omega arith)

literal_some : (w : Bytes) → is_literal w ≡ true → number (unsigned w) ≡ 0 → ⊥
literal_some w e none =
    let one = leb-true 1 (number (unsigned w)) (and_both (leb 1 (number (unsigned w))) (ltb (number (unsigned w)) no_number) e).0 in
    omega arith

-- The free names with that of a literal.
record Joined (s : State) (v : ℕ) (F : List ℕ) : Type 0 where
  few : length (closed_names F s.names) ≤ max_unknowns
  placeable : Placeable (closed_names F s.names) s.entries
  there : In v (closed_names F s.names)
  rising : Rising F
  from : (u : ℕ) → In u F → (v ≡ u) ⊎ In u s.free

joined : (s : State) (z v : ℕ) → Kept s z → v ≤ s.variables → (b : Bool) → among v (closed_names s.free s.names) ≡ b
    → (b || ltb (length (closed_names s.free s.names)) max_unknowns) ≡ true → Joined s v (cond b s.free (insert v s.free))
joined s z v K small true there place =
    record {
      few = K.few_names;
      placeable = K.placeable;
      there = among_in v (closed_names s.free s.names) there;
      rising = K.rising;
      from = λ u i. inr i;
    }
joined s z v K small false new place =
    let all = closed_names s.free s.names in
    let none = not_among v all new in
    let P = K.placeable in
    let room = ltb-true (length all) max_unknowns place in
    record {
      few =
          omega (arith, length-append (insert v s.free) s.names, length_insert v s.free, length-append s.free s.names);
      placeable =
          record {
            different = distinct_insert v s.free s.names P.different none;
            small = up_to_inserted max_variables v s.free s.names (omega (arith, K.few_variables)) P.small;
            known = known_more all (insert v s.free ++ s.names) (λ u i. insert_holds v s.free s.names u (inr i)) s.entries P.known;
          };
      there = insert_holds v s.free s.names v (inl refl);
      rising = rising_insert v s.free K.rising (λ i. none (in_front v s.free s.names i));
      from = λ u i. here u (insert_has v s.free [] u (in_front u (insert v s.free) [] i));
    }
  where
    here : (u : ℕ) → (v ≡ u) ⊎ In u (s.free ++ []) → (v ≡ u) ⊎ In u s.free
    here u (inl e) = inl e
    here u (inr i) = back (in_append u s.free [] i)
      where
        back : In u s.free ⊎ In u [] → (v ≡ u) ⊎ In u s.free
        back (inl i) = inr i
        back (inr i) = absurd i

pub add_literal : (s : State) (w : Bytes) → is_zero w ≡ false → is_literal w ≡ true
    → literal_cause s.variables (closed_names s.free s.names) (length s.entries) w ≡ 0 → Open s → Open (add_entry s w)
add_literal s w some shape none o =
    let K = o.kept in
    let v = number (unsigned w) in
    let z = signed (negative w) v in
    let facts = literal_facts s.variables (closed_names s.free s.names) (length s.entries) w some none in
    let F = cond (among v (closed_names s.free s.names)) s.free (insert v s.free) in
    let J : Joined s v F = joined s s.clauses_read v K facts.0 (among v (closed_names s.free s.names)) refl facts.1 in
    rw (entry_literal w some, free_literal s.free s.names w some)
    (record {
      kept =
          record {
            known = K.known;
            as_many = K.as_many;
            few_names = J.few;
            few_entries = omega (arith, length_behind s.entries z, facts.2);
            few_variables = K.few_variables;
            few_clauses = K.few_clauses;
            counted = zeros_behind s.entries z (signed_some (negative w) v (literal_some w shape)) ∙ K.counted;
            placeable =
                record {
                  different = J.placeable.different;
                  small = J.placeable.small;
                  known = known_append (closed_names F s.names) s.entries (z ∷ []) J.placeable.known (known_signed (closed_names F s.names) (negative w) v J.there);
                };
            rising = J.rising;
            stands = λ u i. stood u z (signed_size (negative w) v) (J.from u i);
          };
      in_count = o.in_count;
    })
  where
    stood : (u : ℕ) (z : ℤ) → nat_abs z ≡ number (unsigned w) → (number (unsigned w) ≡ u) ⊎ In u s.free → Stands u (s.entries ++ (z ∷ []))
    stood u z size (inl e) = stands_last u s.entries z (size ∙ e)
    stood u z size (inr i) = stands_front u s.entries (z ∷ []) (o.kept.stands u i)
