-- What the walk over the entries leaves is what the rules say of the row. Assumes nothing.
use Prim.Native.Nat.{ℕ, zero, suc, ◌+◌, ◌-◌, ◌<◌}
use native.Mathlib.Numerals.{add-one}
use native.Mathlib.Omega.{arith}
use mathlib.Core.Path.{◌≡◌, refl, sym, ap, ap₂, ◌∙◌}
use mathlib.Core.Bool.{Bool, true, false, not, cond, ◌&&◌, ◌||◌}
use mathlib.Core.List.{List, [], ◌∷◌, ◌++◌, append_assoc, append-nil}
use mathlib.Core.Logic.{⊎_elim}
use borrow.Author.Tests.{ne_eqb, le-ltb}
use lib.Dec.{eqb, ltb}
use lib.IntN.{ℤ, pos, negsuc, nat_abs}
use lib.ListN.{length, get_or}
use Rattle.formula.specs.Formula.{Clause}
use Rattle.formula.specs.Lists.{Every}
use Rattle.formula.specs.Literal.{negative}
use Rattle.formula.specs.Meaning.{bit}
use Rattle.formula.specs.Causes.{any}
use Rattle.expansion.specs.Play.{Row, play}
use Rattle.expansion.specs.Cells.{others_before}
use Rattle.expansion.proofs.Booleans.{true_or_false}
use Rattle.expansion.proofs.LeadingPath.{play_at_other}
use Rattle.judge.specs.Judge.{claims_true}
use Rattle.report.specs.Report.{ascii}
use Rattle.lines.specs.Lines.{Bytes}
use Rattle.trimming_rules.specs.Trimming.{entries}
use Rattle.trimming_rules.proofs.ClauseLaws.{Named}
use Rattle.trimming_rules.proofs.RuleLaws.{Within}
use Rattle.cnf_rules.specs.Clauses.{own_literal, row_literal, renamed, own_part, left_over, opposite, breaks_one, breaks, some_of, row_clauses}
use Rattle.cnf_rules.specs.Text.{word, line, lines}
use Rattle.cnf_rules.proofs.TextLaws.{lines_append}
use Rattle.cnf_text.specs.Private.Walk.{place_of, true_so, kept_from, literal_bytes, end_bytes, copy_bytes, entry_bytes, walk, row_bytes}

-- The places are those of the row: of an own unknown its copy, of another its value.
pub record Places (ts : List Bool) (row : Row) (name : ℕ → ℕ) (places : List ℕ) : Type 0 where
  pub copy : (k : ℕ) → k < length ts → get_or ts k false ≡ true → get_or places k 0 ≡ 2 + name k
  pub value : (k : ℕ) → k < length ts → get_or ts k false ≡ false → get_or places k 0 ≡ bit (get_or row (others_before ts k) false)

module _ (ts : List Bool) (row : Row) (name : ℕ → ℕ) (places : List ℕ) (there : Places ts row name places) where
  true_plain : (k : ℕ) → k < length ts → eqb (get_or places k 0) 1 ≡ not (get_or ts k false) && get_or (play ts (λ k r. false) row) k false
  true_plain k below =
      ⊎_elim
      (λ (o : get_or ts k false ≡ true). rw (o, there.copy k below o) (ne_eqb (2 + name k) 1 (λ e. omega arith)))
      (λ (o : get_or ts k false ≡ false). rw (o, there.value k below o, play_at_other ts (λ k r. false) row k below o) (go (get_or row (others_before ts k) false)))
      (true_or_false (get_or ts k false))
    where
      go : (b : Bool) → eqb (bit b) 1 ≡ b
      go true = refl
      go false = refl

  true_negated : (k : ℕ) → k < length ts → eqb (get_or places k 0) 0 ≡ not (get_or ts k false) && not (get_or (play ts (λ k r. false) row) k false)
  true_negated k below =
      ⊎_elim
      (λ (o : get_or ts k false ≡ true). rw (o, there.copy k below o) (ne_eqb (2 + name k) 0 (λ e. omega arith)))
      (λ (o : get_or ts k false ≡ false). rw (o, there.value k below o, play_at_other ts (λ k r. false) row k below o) (go (get_or row (others_before ts k) false)))
      (true_or_false (get_or ts k false))
    where
      go : (b : Bool) → eqb (bit b) 0 ≡ not b
      go true = refl
      go false = refl

  low_if_other : (k : ℕ) → k < length ts → ltb (get_or places k 0) 2 ≡ not (get_or ts k false)
  low_if_other k below =
      ⊎_elim
      (λ (o : get_or ts k false ≡ true). rw (o, there.copy k below o) (le-ltb (2 + name k) 2 (omega arith)))
      (λ (o : get_or ts k false ≡ false). rw (o, there.value k below o) (go (get_or row (others_before ts k) false)))
      (true_or_false (get_or ts k false))
    where
      go : (b : Bool) → ltb (bit b) 2 ≡ true
      go true = refl
      go false = refl

  literal_true : (z : ℤ) → Named (length ts) z → true_so (negative z) (place_of places (nat_abs z)) ≡ row_literal ts row z
  literal_true (pos zero) n = absurd (let e = n.from_one in omega arith)
  literal_true (pos (suc k)) n =
      let s : suc k - 1 ≡ k = omega arith in
      rw s (true_plain k (let e = n.to_last in omega arith))
  literal_true (negsuc k) n =
      let s : suc k - 1 ≡ k = omega arith in
      rw s (true_negated k (let e = n.to_last in omega arith))

  -- What an entry of a kept clause leaves.
  module _ (style t : ℕ) where
    entry_own : (z : ℤ) (k : ℕ) → nat_abs z ≡ suc k → k < length ts → get_or ts k false ≡ true
        → entry_bytes places style true t (negative z) (nat_abs z) ≡ copy_bytes style t (negative z) (suc (name k))
    entry_own z k e below o =
        let high : ltb (get_or places k 0) 2 ≡ false = low_if_other k below ∙ ap not o in
        let v : get_or places k 0 - 1 ≡ suc (name k) = omega (arith, there.copy k below o) in
        let s : suc k - 1 ≡ k = omega arith in
        rw (e, ne_eqb (suc k) 0 (λ z. omega arith), s, high, v) refl

    entry_other : (z : ℤ) (k : ℕ) → nat_abs z ≡ suc k → k < length ts → get_or ts k false ≡ false
        → entry_bytes places style true t (negative z) (nat_abs z) ≡ []
    entry_other z k e below o =
        let low : ltb (get_or places k 0) 2 ≡ true = low_if_other k below ∙ ap not o in
        let s : suc k - 1 ≡ k = omega arith in
        rw (e, ne_eqb (suc k) 0 (λ z. omega arith), s, low) refl

    abbrev clause_bytes : Clause → Bytes
    clause_bytes [] = end_bytes style t
    clause_bytes (z ∷ c) = entry_bytes places style true t (negative z) (nat_abs z) ++ clause_bytes c

  named_no_end : (n : ℕ) (z : ℤ) → Named n z → eqb (nat_abs z) 0 ≡ false
  named_no_end n z h = ne_eqb (nat_abs z) 0 (λ e. let f = h.from_one in omega arith)

  -- A clause, and what follows it.
  module _ (style t : ℕ) (zs : List ℤ) where
    abbrev later : Bytes
    later = walk places style (kept_from places zs) (t + 1) zs

    walk_kept : (c : Clause) → Every (Named (length ts)) c → walk places style true t (c ++ (pos 0 ∷ zs)) ≡ clause_bytes style t c ++ later
    walk_kept [] n = refl
    walk_kept (z ∷ c) n =
        let entry = entry_bytes places style true t (negative z) (nat_abs z) in
        let rest = c ++ (pos 0 ∷ zs) in
        ap (λ (b : Bool). entry ++ walk places style (cond b (kept_from places rest) true) (cond b (t + 1) t) rest) (named_no_end (length ts) z n.0)
        ∙ ap (λ l. entry ++ l) (walk_kept c n.1)
        ∙ sym (append_assoc entry (clause_bytes style t c) later)

    walk_dropped : (c : Clause) → Every (Named (length ts)) c → walk places style false t (c ++ (pos 0 ∷ zs)) ≡ later
    walk_dropped [] n = refl
    walk_dropped (z ∷ c) n = rw (named_no_end (length ts) z n.0) (walk_dropped c n.1)

    kept_clause : (c : Clause) → Every (Named (length ts)) c → kept_from places (c ++ (pos 0 ∷ zs)) ≡ not (any (row_literal ts row) c)
    kept_clause [] n = refl
    kept_clause (z ∷ c) n = rw (named_no_end (length ts) z n.0, literal_true z n.0) (go (row_literal ts row z) (kept_clause c n.1))
      where
        go : (b : Bool) → kept_from places (c ++ (pos 0 ∷ zs)) ≡ not (any (row_literal ts row) c)
            → cond b false (kept_from places (c ++ (pos 0 ∷ zs))) ≡ not (b || any (row_literal ts row) c)
        go true e = refl
        go false e = e

    walk_clause : (c : Clause) → Every (Named (length ts)) c
        → walk places style (kept_from places (c ++ (pos 0 ∷ zs))) t (c ++ (pos 0 ∷ zs)) ≡ cond (any (row_literal ts row) c) later (clause_bytes style t c ++ later)
    walk_clause c n =
        ⊎_elim
        (λ (p : any (row_literal ts row) c ≡ true). rw (kept_clause c n, p) (walk_dropped c n))
        (λ (p : any (row_literal ts row) c ≡ false). rw (kept_clause c n, p) (walk_kept c n))
        (true_or_false (any (row_literal ts row) c))

  -- Style 0: the own part as a line.
  literal_0 : (t : ℕ) (z : ℤ) → Named (length ts) z
      → entry_bytes places 0 true t (negative z) (nat_abs z) ≡ cond (own_literal ts z) (word (renamed name z) ++ ascii " ") []
  literal_0 t (pos zero) n = absurd (let e = n.from_one in omega arith)
  literal_0 t (pos (suc k)) n =
      let below : k < length ts = let e = n.to_last in omega arith in
      ⊎_elim
      (λ (o : get_or ts k false ≡ true). entry_own 0 t (pos (suc k)) k refl below o ∙ rw o refl)
      (λ (o : get_or ts k false ≡ false). entry_other 0 t (pos (suc k)) k refl below o ∙ rw o refl)
      (true_or_false (get_or ts k false))
  literal_0 t (negsuc k) n =
      let below : k < length ts = let e = n.to_last in omega arith in
      ⊎_elim
      (λ (o : get_or ts k false ≡ true). entry_own 0 t (negsuc k) k refl below o ∙ rw o refl)
      (λ (o : get_or ts k false ≡ false). entry_other 0 t (negsuc k) k refl below o ∙ rw o refl)
      (true_or_false (get_or ts k false))

  line_0 : (t : ℕ) (c : Clause) → Every (Named (length ts)) c → clause_bytes 0 t c ≡ line (own_part ts name c)
  line_0 t [] n = refl
  line_0 t (z ∷ c) n =
      ap₂ ◌++◌ (literal_0 t z n.0) (line_0 t c n.1)
      ∙ ⊎_elim (λ (o : own_literal ts z ≡ true). rw o refl) (λ (o : own_literal ts z ≡ false). rw o refl) (true_or_false (own_literal ts z))

  -- Style 1: for each own literal a line with the further variable.
  literal_1 : (t : ℕ) (z : ℤ) → Named (length ts) z
      → entry_bytes places 1 true t (negative z) (nat_abs z) ≡ cond (own_literal ts z) (line (negsuc t ∷ opposite (renamed name z) ∷ [])) []
  literal_1 t (pos zero) n = absurd (let e = n.from_one in omega arith)
  literal_1 t (pos (suc k)) n =
      let below : k < length ts = let e = n.to_last in omega arith in
      ⊎_elim
      (λ (o : get_or ts k false ≡ true). entry_own 1 t (pos (suc k)) k refl below o
      ∙ rw (o, add-one t) (append_assoc (literal_bytes true (suc t)) (literal_bytes true (suc (name k))) (ascii "0\n")))
      (λ (o : get_or ts k false ≡ false). entry_other 1 t (pos (suc k)) k refl below o ∙ rw o refl)
      (true_or_false (get_or ts k false))
  literal_1 t (negsuc k) n =
      let below : k < length ts = let e = n.to_last in omega arith in
      ⊎_elim
      (λ (o : get_or ts k false ≡ true). entry_own 1 t (negsuc k) k refl below o
      ∙ rw (o, add-one t) (append_assoc (literal_bytes true (suc t)) (literal_bytes false (suc (name k))) (ascii "0\n")))
      (λ (o : get_or ts k false ≡ false). entry_other 1 t (negsuc k) k refl below o ∙ rw o refl)
      (true_or_false (get_or ts k false))

  line_1 : (t : ℕ) (c : Clause) → Every (Named (length ts)) c → clause_bytes 1 t c ≡ lines (breaks_one t (own_part ts name c))
  line_1 t [] n = refl
  line_1 t (z ∷ c) n =
      ap₂ ◌++◌ (literal_1 t z n.0) (line_1 t c n.1)
      ∙ ⊎_elim (λ (o : own_literal ts z ≡ true). rw o refl) (λ (o : own_literal ts z ≡ false). rw o refl) (true_or_false (own_literal ts z))

  -- Style 2: the further variable.
  literal_2 : (t : ℕ) (z : ℤ) → Named (length ts) z → entry_bytes places 2 true t (negative z) (nat_abs z) ≡ []
  literal_2 t z n = rw (named_no_end (length ts) z n) (go (ltb (place_of places (nat_abs z)) 2))
    where
      go : (b : Bool) → ◌≡◌ {A = Bytes} (cond {A = Bytes} b [] []) []
      go true = refl
      go false = refl

  line_2 : (t : ℕ) (c : Clause) → Every (Named (length ts)) c → clause_bytes 2 t c ≡ word (pos (suc t)) ++ ascii " "
  line_2 t [] n = rw (add-one t) refl
  line_2 t (z ∷ c) n = ap₂ ◌++◌ (literal_2 t z n.0) (line_2 t c n.1)

  -- ---- clause after clause

  abbrev over : ℕ → ℕ → List Clause → Bytes
  over style t cs = walk places style (kept_from places (entries cs)) t (entries cs)

  next_number : (style t : ℕ) (cs : List Clause) → over style (t + 1) cs ≡ over style (suc t) cs
  next_number style t cs = ap (λ n. over style n cs) (add-one t)

  over_0 : (t : ℕ) (cs : List Clause) → Within (length ts) cs → over 0 t cs ≡ lines (left_over ts name row cs)
  over_0 t [] n = refl
  over_0 t (c ∷ cs) n =
      let more = next_number 0 t cs ∙ over_0 (suc t) cs n.1 in
      walk_clause 0 t (entries cs) c n.0
      ∙ ⊎_elim
      (λ (p : any (row_literal ts row) c ≡ true). rw p more)
      (λ (p : any (row_literal ts row) c ≡ false). rw p (ap₂ ◌++◌ (line_0 t c n.0) more))
      (true_or_false (any (row_literal ts row) c))

  over_1 : (t : ℕ) (cs : List Clause) → Within (length ts) cs → over 1 t cs ≡ lines (breaks ts name row t cs)
  over_1 t [] n = refl
  over_1 t (c ∷ cs) n =
      let more = next_number 1 t cs ∙ over_1 (suc t) cs n.1 in
      walk_clause 1 t (entries cs) c n.0
      ∙ ⊎_elim
      (λ (p : any (row_literal ts row) c ≡ true). rw p more)
      (λ (p : any (row_literal ts row) c ≡ false). rw p
      (ap₂ ◌++◌ (line_1 t c n.0) more ∙ sym (lines_append (breaks_one t (own_part ts name c)) (breaks ts name row (suc t) cs))))
      (true_or_false (any (row_literal ts row) c))

  over_2 : (t : ℕ) (cs : List Clause) → Within (length ts) cs → over 2 t cs ++ ascii "0\n" ≡ line (some_of ts row t cs)
  over_2 t [] n = refl
  over_2 t (c ∷ cs) n =
      let more = ap (λ l. l ++ ascii "0\n") (next_number 2 t cs) ∙ over_2 (suc t) cs n.1 in
      ap (λ l. l ++ ascii "0\n") (walk_clause 2 t (entries cs) c n.0)
      ∙ ⊎_elim
      (λ (p : any (row_literal ts row) c ≡ true). rw p more)
      (λ (p : any (row_literal ts row) c ≡ false). rw p
      (append_assoc (clause_bytes 2 t c) (over 2 (t + 1) cs) (ascii "0\n") ∙ ap₂ ◌++◌ (line_2 t c n.0) more))
      (true_or_false (any (row_literal ts row) c))

  pub row_lines_so : (claim t : ℕ) (cs : List Clause) → Within (length ts) cs
      → row_bytes places claim t (entries cs) ≡ lines (row_clauses (claims_true claim) ts name row t cs)
  row_lines_so zero t cs n = over_0 t cs n
  row_lines_so (suc claim) t cs n =
      append_assoc (over 1 t cs) (over 2 t cs) (ascii "0\n")
      ∙ ap₂ ◌++◌ (over_1 t cs n) (over_2 t cs n ∙ sym (append-nil (line (some_of ts row t cs))))
      ∙ sym (lines_append (breaks ts name row t cs) (some_of ts row t cs ∷ []))
