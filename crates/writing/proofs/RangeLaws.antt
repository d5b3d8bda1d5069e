-- Every name that is read of a text is one of 1 to V. Assumes nothing.
use Prim.Native.Nat.{ℕ, zero, suc, ◌≤◌, max}
use native.Mathlib.Omega.{arith}
use mathlib.Core.Path.{◌≡◌, refl, subst}
use mathlib.Core.Bool.{Bool, true, false, cond, ◌&&◌, ◌||◌, false≢true}
use mathlib.Core.List.{List, [], ◌∷◌, ◌++◌, append_assoc}
use borrow.Author.Tests.{leb-true, eqb-false}
use lib.Dec.{leb, ltb, eqb}
use lib.ListN.{length}
use Rattle.formula.specs.Formula.{max_unknowns, max_entries}
use Rattle.lines.specs.Lines.{Bytes, Line, ended, unended, words, first, rest}
use Rattle.lines.specs.Numbers.{number, unsigned, no_number, is_zero, is_literal}
use Rattle.lines.specs.Shapes.{is_prefix, is_clause, is_trimmed, is_empty, closed_by_zero}
use Rattle.named.specs.Named.{among}
use Rattle.named.specs.Closing.{insert, closed_names}
use Rattle.text.specs.Reading.{State, Step, went, fault, unless, bind, kind_of_word, prefix_line, literal_cause, free_with, add_entry, add_entries, clause_read, clause_line, body_line, step, whole, stopped, body, problem_cause, opened, clause_list, text_scan}
use Rattle.text.proofs.NameLaws.{name_cause_zero}
use Rattle.text.proofs.ScanLaws.{cond_so, Steps, Scans, unless_so, go_on_so, bind_all_so, body_so, scan_so}
use Rattle.named.proofs.NameLaws.{and_both}
use Rattle.text.proofs.KeptLaws.{literal_facts}
use Rattle.writing.specs.WritingRight.{Range}

range_append : (variables : ℕ) (xs ys : List ℕ) → Range variables xs → Range variables ys → Range variables (xs ++ ys)
range_append variables [] ys r q = q
range_append variables (x ∷ xs) ys r q = (r.0, r.1, range_append variables xs ys r.2 q)

range_inserted : (variables v : ℕ) (xs ys : List ℕ) → 1 ≤ v → v ≤ variables → Range variables (xs ++ ys) → Range variables (insert v xs ++ ys)
range_inserted variables v [] ys from to r = (from, to, r)
range_inserted variables v (x ∷ xs) ys from to r =
    (omega (arith, r.0), omega (arith, r.1), range_inserted variables (max v x) xs ys (omega arith) (omega (arith, r.1)) r.2)

-- Of a state: all names, free ones too. A cause says nothing.
abbrev pub Ranged : State → Type 0
Ranged s = Range s.variables (closed_names s.free s.names)

abbrev pub Any : ℕ → Type 0
Any n = Unit {0}

-- ---- prefix lines

some_number : (w : Bytes) → is_zero w ≡ false → 1 ≤ number w
some_number w e = go (number w) (eqb-false (number w) 0 e)
  where
    go : (n : ℕ) → (n ≡ 0 → ⊥) → 1 ≤ n
    go zero h = absurd (h refl)
    go (suc n) h = omega arith

bind_ranged : (kind : ℕ) (s : State) (v : ℕ) → 1 ≤ v → v ≤ s.variables → Ranged s → Ranged (bind kind s v)
bind_ranged kind s v from to r =
    subst (Range s.variables) (append_assoc s.free s.names (v ∷ []))
    (range_append s.variables (closed_names s.free s.names) (v ∷ []) r (from, to, tt))

prefix_ranged : (s : State) (ws : List Bytes) → Ranged s → Steps Any Ranged (prefix_line s ws)
unfolding prefix_line
prefix_ranged s ws r =
    bind_all_so Any (kind_of_word (first ws)) (λ _ t. Ranged t) Ranged (λ t w _. tt) (λ t p. p) (λ t w more zero p. p)
    (λ t w more some none p. bind_ranged (kind_of_word (first ws)) t (number w) (some_number w some) (name_cause_zero t.variables t.names (number w) none).0 p)
    (rest ws) s r

-- ---- clause lines

some_literal : (w : Bytes) → is_literal w ≡ true → 1 ≤ number (unsigned w)
some_literal w e = leb-true 1 (number (unsigned w)) (and_both (leb 1 (number (unsigned w))) (ltb (number (unsigned w)) no_number) e).0

zero_ranged : (s : State) (w : Bytes) → is_zero w ≡ true → Ranged s → Ranged (add_entry s w)
unfolding free_with
zero_ranged s w e r = rw e r

literal_ranged : (s : State) (w : Bytes) → is_literal w ≡ true → number (unsigned w) ≤ s.variables → Ranged s → Ranged (add_entry s w)
unfolding free_with
literal_ranged s w shape small r =
    cond_so (λ (F : List ℕ). Range s.variables (closed_names F s.names)) (is_zero w || among (number (unsigned w)) (closed_names s.free s.names)) s.free (insert (number (unsigned w)) s.free)
    (λ _. r) (λ _. range_inserted s.variables (number (unsigned w)) s.free s.names (some_literal w shape) small r)

entries_ranged : (ws : List Bytes) (s : State) → closed_by_zero is_literal ws ≡ true → Ranged s → Steps Any Ranged (add_entries s ws)
entries_ranged [] s shape r = absurd (false≢true shape)
entries_ranged (w ∷ ws) s shape r =
    unless_so Any Ranged (literal_cause s.variables (closed_names s.free s.names) (length s.entries) w) (add_entries (add_entry s w) ws) (λ _. tt)
    (λ none. go (is_zero w) ws refl shape none (entries_ranged ws))
  where
    go : (b : Bool) (ws : List Bytes) → is_zero w ≡ b → cond b (is_empty ws) (is_literal w && closed_by_zero is_literal ws) ≡ true
        → literal_cause s.variables (closed_names s.free s.names) (length s.entries) w ≡ 0
        → ((t : State) → closed_by_zero is_literal ws ≡ true → Ranged t → Steps Any Ranged (add_entries t ws)) → Steps Any Ranged (add_entries (add_entry s w) ws)
    go true [] e shape none more = zero_ranged s w e r
    go true (x ∷ xs) e shape none more = absurd (false≢true shape)
    go false ws e shape none more =
        let both = and_both (is_literal w) (closed_by_zero is_literal ws) shape in
        more (add_entry s w) both.1 (literal_ranged s w both.0 (literal_facts s.variables (closed_names s.free s.names) (length s.entries) w e none).0 r)

counted_ranged : (t : Step) → Steps Any Ranged t → Steps Any Ranged (clause_read t)
counted_ranged (fault n) r = r
counted_ranged (went s) r = r

clause_ranged : (s : State) (line : Bytes) → is_clause line ≡ true → Ranged s → Steps Any Ranged (clause_line s (words line))
unfolding is_clause clause_line
clause_ranged s line shape r =
    cond_so (Steps Any Ranged) (ltb s.clauses_read s.clauses) (clause_read (add_entries s (words line))) (fault 14)
    (λ _. counted_ranged (add_entries s (words line)) (entries_ranged (words line) s (and_both (is_trimmed line) (closed_by_zero is_literal (words line)) shape).1 r))
    (λ _. tt)

-- ---- a text

line_ranged : (s : State) (l : Line) → Ranged s → Steps Any Ranged (step false s l)
unfolding body_line
line_ranged s (ended line) r =
    cond_so (Steps Any Ranged) (eqb s.clauses_read 0 && is_prefix line) (prefix_line s (words line)) (cond (is_clause line) (clause_line s (words line)) (fault 10))
    (λ _. prefix_ranged s (words line) r)
    (λ _. cond_so (Steps Any Ranged) (is_clause line) (clause_line s (words line)) (fault 10) (λ shape. clause_ranged s line shape r) (λ _. tt))
line_ranged s (unended line) r = tt

opened_ranged : (ws : List Bytes) → Ranged (opened ws)
unfolding opened
opened_ranged ws = tt

pub scan_ranged : (text : Bytes) → Scans Any Ranged (text_scan text)
scan_ranged text =
    scan_so Any false tt (λ _ t. Ranged t)
    (λ line ls k c.
    go_on_so Any Ranged Ranged (unless (problem_cause false line) (went (opened (words line)))) k (λ t. body clause_list t (suc k) ls)
    (unless_so Any Ranged (problem_cause false line) (went (opened (words line))) (λ _. tt) (λ _. opened_ranged (words line)))
    (λ t v.
    body_so Any clause_list (λ _ u. Ranged u) Ranged (λ u l more q. line_ranged u l q)
    (λ u m q. cond_so (Scans Any Ranged) (eqb u.clauses_read u.clauses) (whole u) (stopped 14 m) (λ _. q) (λ _. tt)) ls t (suc k) v))
    (λ line ls t c w. w) tt text max_unknowns max_entries max_unknowns
