-- The clause lines that are written are read as the entries, by name, that they are of. Assumes nothing.
use Prim.Native.Nat.{ℕ, zero, suc, ◌+◌, ◌≤◌, ◌<◌}
use native.Mathlib.Nat.{add-zero}
use native.Mathlib.Omega.{arith}
use mathlib.Core.Path.{◌≡◌, refl, sym, ap, subst, ◌∙◌}
use mathlib.Core.Bool.{Bool, true, false, ◌&&◌, ◌||◌, and-false}
use mathlib.Core.List.{List, [], ◌∷◌, ◌++◌, map, append-nil, append_assoc}
use mathlib.Core.Logic.{inl, inr}
use borrow.Author.Tests.{leb-true, le-ltb, lt-ltb, ne_eqb, eq-eqb}
use lib.Dec.{leb, eqb}
use lib.IntN.{ℤ, pos, negsuc, nat_abs}
use lib.ListN.{length, get_or, length-append}
use Rattle.named.proofs.CauseLaws.{length_map}
use Rattle.formula.specs.Formula.{Clause, max_entries}
use Rattle.lines.specs.Lines.{Bytes, same, lines, words}
use Rattle.lines.specs.Numbers.{is_digit, all_digits, number_shape, number_within, number, is_zero, negative, unsigned, is_literal}
use Rattle.lines.specs.Shapes.{is_trimmed, closed_by_zero, is_prefix, is_led, is_clause, leads}
use Rattle.named.specs.Named.{signed, place_from, position, placed}
use Rattle.named.specs.Names.{In, Distinct}
use Rattle.named.proofs.NameLaws.{in_among}
use Rattle.report.specs.Report.{decimal}
use Rattle.text.specs.Reading.{State, went, literal_cause, entry, free_with, add_entries, clause_read, clause_line, body_line}
use Rattle.named.proofs.NameLaws.{and_both}
use Rattle.text.proofs.BodyLaws.{body_item}
use Rattle.trimming_rules.specs.Trimming.{entries}
use Rattle.trimming_rules.proofs.ClauseLaws.{Named, Every}
use Rattle.trimming_rules.proofs.RuleLaws.{Within}
use Rattle.writing.specs.Writing.{literal_word, clause_lines}
use Rattle.writing.specs.WritingRight.{Range}
use Rattle.numerals.proofs.DigitLaws.{and_so, decimal_digits, decimal_front, number_decimal, zero_word}
use Rattle.numerals.proofs.LineLaws.{Word, Words, decimal_word, zero_is_word, line_of, words_line, line_no_end, line_trimmed}
use Rattle.writing.proofs.ReadLaws.{at, Reads, one_line, zero_is_zero, decimal_name, decimal_not_zero}

-- An entry by position, by its name.
abbrev pub named : List ℕ → ℤ → ℤ
named names (pos zero) = pos 0
named names (pos (suc p)) = signed false (get_or names p 0)
named names (negsuc p) = signed true (get_or names p 0)

-- ---- names and their places

pub in_at : (names : List ℕ) (p : ℕ) → p < length names → In (get_or names p 0) names
in_at [] p h = absurd (omega (arith, h))
in_at (x ∷ xs) zero h = inl refl
in_at (x ∷ xs) (suc p) h = inr (in_at xs p (omega arith))

pub range_at : (variables : ℕ) (names : List ℕ) (p : ℕ) → p < length names → Range variables names → (1 ≤ get_or names p 0) × (get_or names p 0 ≤ variables)
range_at variables [] p h r = absurd (omega (arith, h))
range_at variables (x ∷ xs) zero h r = (r.0, r.1)
range_at variables (x ∷ xs) (suc p) h r = range_at variables xs p (omega arith) r.2

-- The place of the name at p is p.
place_at : (k : ℕ) (names : List ℕ) (p : ℕ) → p < length names → Distinct names → place_from k (get_or names p 0) names ≡ k + p
place_at k [] p h d = absurd (omega (arith, h))
place_at k (x ∷ xs) zero h d = rw (eq-eqb x x refl) (sym (add-zero k))
place_at k (x ∷ xs) (suc p) h d =
    rw (ne_eqb x (get_or xs p 0) (λ e. d.0 (rw e (in_at xs p (omega arith))))) (place_at (suc k) xs p (omega arith) d.1 ∙ omega arith)

position_at : (names : List ℕ) (p : ℕ) → p < length names → Distinct names → position (get_or names p 0) names ≡ suc p
unfolding position
position_at names p h d = place_at 1 names p h d ∙ omega arith

positive_placed : (names : List ℕ) (v p : ℕ) → 1 ≤ v → position v names ≡ suc p → placed names (signed false v) ≡ pos (suc p)
positive_placed names zero p some e = absurd (omega arith)
positive_placed names (suc v) p some e = ap pos e

negative_placed : (names : List ℕ) (v p : ℕ) → 1 ≤ v → position v names ≡ suc p → placed names (signed true v) ≡ negsuc p
negative_placed names zero p some e = absurd (omega arith)
negative_placed names (suc v) p some e = ap (signed true) e

placed_named : (variables : ℕ) (names : List ℕ) (z : ℤ) → Distinct names → Range variables names → nat_abs z ≤ length names → placed names (named names z) ≡ z
placed_named variables names (pos zero) d r h = refl
placed_named variables names (pos (suc p)) d r h =
    positive_placed names (get_or names p 0) p (range_at variables names p (omega arith) r).0 (position_at names p (omega arith) d)
placed_named variables names (negsuc p) d r h =
    negative_placed names (get_or names p 0) p (range_at variables names p (omega arith) r).0 (position_at names p (omega arith) d)

pub all_placed : (variables : ℕ) (names : List ℕ) (zs : List ℤ) → Distinct names → Range variables names → ((i : ℕ) → nat_abs (get_or zs i (pos 0)) ≤ length names)
    → map (placed names) (map (named names) zs) ≡ zs
all_placed variables names [] d r h = refl
all_placed variables names (z ∷ zs) d r h =
    rw (placed_named variables names z d r (h 0), all_placed variables names zs d r (λ i. h (suc i))) refl

-- ---- the word of a literal

-- What the reader makes of it, whichever sign it has.
pub record LiteralRead (variables : ℕ) (names : List ℕ) (w : Bytes) (z : ℤ) : Type 0 where
  pub word : Word w
  pub not_zero : is_zero w ≡ false
  pub literal : is_literal w ≡ true
  pub not_led : leads false w ≡ false
  pub no_cause : (used : ℕ) → used < max_entries → literal_cause variables names used w ≡ 0
  pub none_free : free_with [] names w ≡ []
  pub entry_so : entry w ≡ z

-- Its first byte is no letter.
front_low : (w : Bytes) → all_digits w ≡ true → get_or w 0 0 ≤ 57
front_low [] d = omega arith
front_low (x ∷ xs) d = leb-true x 57 (and_both (leb 48 x) (leb x 57) (and_both (is_digit x) (all_digits xs) d).0).1

other_word : (w : Bytes) (b : ℕ) → (get_or w 0 0 ≡ b → ⊥) → same w (b ∷ []) ≡ false
other_word [] b h = refl
other_word (x ∷ xs) b h = rw (ne_eqb x b h) refl

pub low_leads : (w : Bytes) → get_or w 0 0 ≤ 57 → leads false w ≡ false
low_leads w low = rw (other_word w 97 (λ e. omega arith), other_word w 101 (λ e. omega arith)) refl

literal_read : (variables : ℕ) (names : List ℕ) (w : Bytes) (minus : Bool) (v : ℕ) → v < 100000 → Word w → is_zero w ≡ false → get_or w 0 0 ≤ 57 → negative w ≡ minus → unsigned w ≡ decimal v
    → 1 ≤ v → v ≤ variables → In v names → LiteralRead variables names w (signed minus v)
unfolding literal_cause entry free_with
literal_read variables names w minus v short good some low sign rest from to there =
    let value : number (unsigned w) ≡ v = ap number rest ∙ number_decimal v short in
    let among_them = in_among v names there in
    record {
      word = good;
      not_zero = some;
      literal = rw rest (decimal_name v from short);
      not_led = low_leads w low;
      no_cause = λ used room. rw (some, value, le-ltb variables v to, among_them, lt-ltb used max_entries room) refl;
      none_free = rw (some, value, among_them) refl;
      entry_so = rw (some, sign, value) refl;
    }

minus_not_zero : (w : Bytes) → is_zero (45 ∷ w) ≡ false
unfolding number_within number_shape
minus_not_zero w = rw (and-false (leb 1 (length (45 ∷ w)) && leb (length (45 ∷ w)) 5 && (eqb (length (45 ∷ w)) 1 || true))) refl

module _ (variables : ℕ) (names : List ℕ) (few : variables < 100000) (ranged : Range variables names) where
  pub literal_words : (z : ℤ) → Named (length names) z → LiteralRead variables names (literal_word names z) (named names z)
  unfolding unsigned
  literal_words (pos zero) h = absurd (let some = h.from_one in omega arith)
  literal_words (pos (suc p)) h =
      let last = h.to_last in
      let v = get_or names p 0 in
      let r = range_at variables names p (omega arith) ranged in
      let small : v < 100000 = omega (arith, r.1) in
      let front = decimal_front v (omega (arith, small)) in
      let plain : negative (decimal v) ≡ false = ne_eqb (get_or (decimal v) 0 0) 45 (λ e. omega arith) in
      literal_read variables names (decimal v) false v small (decimal_word v) (decimal_not_zero v r.0 small) (front_low (decimal v) (decimal_digits v)) plain (rw plain refl) r.0 r.1 (in_at names p (omega arith))
  literal_words (negsuc p) h =
      let last = h.to_last in
      let v = get_or names p 0 in
      let r = range_at variables names p (omega arith) ranged in
      let small : v < 100000 = omega (arith, r.1) in
      let w = decimal_word v in
      literal_read variables names (45 ∷ decimal v) true v small (record { some = omega arith; no_space = (refl, w.no_space); no_end = (refl, w.no_end) }) (minus_not_zero (decimal v)) (omega arith) refl refl r.0 r.1 (in_at names p (omega arith))

  -- ---- a clause line

  clause_words : (c : Clause) → Every (Named (length names)) c → Words (map (literal_word names) c)
  clause_words [] h = tt
  clause_words (z ∷ c) h = ((literal_words z h.0).word, clause_words c h.1)

  closed_literals : (c : Clause) → Every (Named (length names)) c → closed_by_zero is_literal (map (literal_word names) c ++ (zero_word ∷ [])) ≡ true
  closed_literals [] h = rw zero_is_zero refl
  closed_literals (z ∷ c) h =
      let w = literal_words z h.0 in
      rw w.not_zero (and_so (is_literal (literal_word names z)) (closed_by_zero is_literal (map (literal_word names) c ++ (zero_word ∷ []))) w.literal (closed_literals c h.1))

  module _ (clauses : ℕ) (kinds : List ℕ) (done : ℕ) where
    add_one : (w : Bytes) (z : ℤ) (ws : List Bytes) (E : List ℤ) → LiteralRead variables names w z → length E < max_entries
        → add_entries (at variables clauses kinds names E done) (w ∷ ws) ≡ add_entries (at variables clauses kinds names (E ++ (z ∷ [])) done) ws
    add_one w z ws E read room = rw (read.no_cause (length E) room, read.none_free, read.entry_so) refl

    add_last : (E : List ℤ) → length E < max_entries
        → add_entries (at variables clauses kinds names E done) (zero_word ∷ []) ≡ went (at variables clauses kinds names (E ++ (pos 0 ∷ [])) done)
    unfolding literal_cause free_with entry
    add_last E room = rw (zero_is_zero, lt-ltb (length E) max_entries room) refl

    add_clause : (c : Clause) (E : List ℤ) → Every (Named (length names)) c → length E + length c < max_entries
        → add_entries (at variables clauses kinds names E done) (map (literal_word names) c ++ (zero_word ∷ []))
        ≡ went (at variables clauses kinds names (E ++ map (named names) (c ++ (pos 0 ∷ []))) done)
    add_clause [] E h room = add_last E (omega arith)
    add_clause (z ∷ c) E h room =
        add_one (literal_word names z) (named names z) (map (literal_word names) c ++ (zero_word ∷ [])) E (literal_words z h.0) (omega arith)
        ∙ add_clause c (E ++ (named names z ∷ [])) h.1 (omega (arith, length-append E (named names z ∷ [])))
        ∙ ap (λ (F : List ℤ). went (at variables clauses kinds names F done)) (append_assoc E (named names z ∷ []) (map (named names) (c ++ (pos 0 ∷ []))))

    clause_shaped : (line : Bytes) (ws : List Bytes) → words line ≡ ws → is_trimmed line ≡ true → closed_by_zero is_literal ws ≡ true → is_clause line ≡ true
    unfolding is_clause
    clause_shaped line ws e trimmed closed = rw (e, trimmed, closed) refl

    not_prefix : (line w : Bytes) (ws : List Bytes) → words line ≡ w ∷ ws → leads false w ≡ false → is_prefix line ≡ false
    unfolding is_led
    not_prefix line w ws e leading = rw (e, leading, and-false (is_trimmed line)) refl

    no_prefix : (c : Clause) (line : Bytes) → Every (Named (length names)) c → words line ≡ map (literal_word names) c ++ (zero_word ∷ []) → is_prefix line ≡ false
    no_prefix [] line h e = not_prefix line zero_word [] e refl
    no_prefix (z ∷ c) line h e = not_prefix line (literal_word names z) (map (literal_word names) c ++ (zero_word ∷ [])) e (literal_words z h.0).not_led

    clause_taken : (s t : State) (ws : List Bytes) → s.clauses_read < s.clauses → add_entries s ws ≡ went t → clause_line s ws ≡ clause_read (went t)
    unfolding clause_line
    clause_taken s t ws below e = rw (lt-ltb s.clauses_read s.clauses below, e) refl

    line_read : (c : Clause) (E : List ℤ) → Every (Named (length names)) c → length E + length c < max_entries → done < clauses
        → body_line false (at variables clauses kinds names E done) (line_of (map (literal_word names) c) zero_word)
        ≡ went (at variables clauses kinds names (E ++ map (named names) (c ++ (pos 0 ∷ []))) (suc done))
    line_read c E h room below =
        let s = at variables clauses kinds names E done in
        let ws = map (literal_word names) c in
        let line = line_of ws zero_word in
        let split : words line ≡ ws ++ (zero_word ∷ []) = words_line ws zero_word (clause_words c h) zero_is_word in
        body_item false s line (ap (λ (b : Bool). eqb done 0 && b) (no_prefix c line h split) ∙ and-false (eqb done 0))
        (clause_shaped line (ws ++ (zero_word ∷ [])) split (line_trimmed ws zero_word (clause_words c h) zero_is_word) (closed_literals c h))
        ∙ ap (clause_line s) split
        ∙ clause_taken s (at variables clauses kinds names (E ++ map (named names) (c ++ (pos 0 ∷ []))) done) (ws ++ (zero_word ∷ [])) below (add_clause c E h room)

  -- ---- all clause lines

  spaced : (w l more : Bytes) → w ++ (32 ∷ []) ++ (l ++ (10 ∷ more)) ≡ w ++ (32 ∷ l) ++ (10 ∷ more)
  spaced w l more = simp append_assoc

  clause_bytes : (c : Clause) (zs : List ℤ) → Every (Named (length names)) c
      → clause_lines names (c ++ (pos 0 ∷ zs)) ≡ line_of (map (literal_word names) c) zero_word ++ (10 ∷ clause_lines names zs)
  clause_bytes [] zs h = refl
  clause_bytes (pos zero ∷ c) zs h = absurd (let some = h.0.from_one in omega arith)
  clause_bytes (pos (suc p) ∷ c) zs h =
      ap (λ (x : Bytes). literal_word names (pos (suc p)) ++ (32 ∷ []) ++ x) (clause_bytes c zs h.1)
      ∙ spaced (literal_word names (pos (suc p))) (line_of (map (literal_word names) c) zero_word) (clause_lines names zs)
  clause_bytes (negsuc p ∷ c) zs h =
      ap (λ (x : Bytes). literal_word names (negsuc p) ++ (32 ∷ []) ++ x) (clause_bytes c zs h.1)
      ∙ spaced (literal_word names (negsuc p)) (line_of (map (literal_word names) c) zero_word) (clause_lines names zs)

  map_clause : (f : ℤ → ℤ) (c zs : List ℤ) → map f (c ++ (pos 0 ∷ zs)) ≡ map f (c ++ (pos 0 ∷ [])) ++ map f zs
  map_clause f [] zs = refl
  map_clause f (z ∷ c) zs = ap (λ (l : List ℤ). f z ∷ l) (map_clause f c zs)

  pub clauses_read : (cs : List Clause) (clauses : ℕ) (kinds : List ℕ) (E : List ℤ) (done : ℕ) → Within (length names) cs → length E + length (entries cs) ≤ max_entries → done + length cs ≡ clauses
      → Reads (at variables clauses kinds names E done) (clause_lines names (entries cs)) (at variables clauses kinds names (E ++ map (named names) (entries cs)) clauses)
  unfolding lines
  clauses_read [] clauses kinds E done h room all =
      let same : done ≡ clauses = omega arith in
      λ k. rw (same, eq-eqb clauses clauses refl, append-nil E) refl
  clauses_read (c ∷ cs) clauses kinds E done h room all =
      let more = length-append c (pos 0 ∷ entries cs) in
      let E₂ = E ++ map (named names) (c ++ (pos 0 ∷ [])) in
      let longer : length E₂ ≡ length E + (length c + 1) = length-append E (map (named names) (c ++ (pos 0 ∷ []))) ∙ ap (λ (n : ℕ). length E + n) (length_map (named names) (c ++ (pos 0 ∷ [])) ∙ length-append c (pos 0 ∷ [])) in
      let last : E₂ ++ map (named names) (entries cs) ≡ E ++ map (named names) (entries (c ∷ cs)) =
      append_assoc E (map (named names) (c ++ (pos 0 ∷ []))) (map (named names) (entries cs)) ∙ ap (λ (l : List ℤ). E ++ l) (sym (map_clause (named names) c (entries cs))) in
      let end : List ℤ → State = λ F. at variables clauses kinds names F clauses in
      subst (λ (x : Bytes). Reads (at variables clauses kinds names E done) x (end (E ++ map (named names) (entries (c ∷ cs))))) (sym (clause_bytes c (entries cs) h.0))
      (one_line (at variables clauses kinds names E done) (at variables clauses kinds names E₂ (suc done)) (end (E ++ map (named names) (entries (c ∷ cs)))) (line_of (map (literal_word names) c) zero_word) (clause_lines names (entries cs))
      (line_no_end (map (literal_word names) c) zero_word (clause_words c h.0) zero_is_word)
      (line_read clauses kinds done c E h.0 (omega (arith, more)) (omega arith))
      (subst (λ (F : List ℤ). Reads (at variables clauses kinds names E₂ (suc done)) (clause_lines names (entries cs)) (end F)) last
      (clauses_read cs clauses kinds E₂ (suc done) h.1 (omega (arith, more, longer)) (omega arith))))
