-- Rows of one word: the values of a position, the literals that miss, the clauses of the table. Assumes nothing.
use Prim.Native.Nat.{ℕ, ◌+◌, ◌-◌, ◌*◌, ◌%◌, ◌^◌, ◌<◌, ◌≤◌}
use mathlib.Core.Path.{◌≡◌, sym, ap, ◌∙◌, subst}
use mathlib.Core.Logic.{◌⊎◌, inl, inr, ⊎_elim}
use mathlib.Core.Bool.{Bool, true, false, not, cond}
use mathlib.Core.List.{List}
use native.Mathlib.Omega.{arith}
use native.Mathlib.Decide.{ℕ_discrete}
use lib.Dec.{eqb}
use lib.Bits.{bit_and, bit_or, bit_xor}
use lib.ListN.{length, get_or, set, drop, length-set}
use lib.Seq.{get_or-set_same, get_or-set_other}
use borrow.Author.Tests.{eq-eqb, ne_eqb}
use Rattle.formula.specs.Formula.{max_unknowns, max_rows}
use Rattle.expansion.proofs.ClauseCuts.{Some}
use Rattle.codes.specs.Codes.{last_code, row_position}
use Rattle.codes.specs.Private.Clauses.{position, code_true, clause_of}
use Rattle.codes.proofs.CodeLaws.{row_position_is}
use Rattle.search_cells.specs.Cells.{flags, cells}
use Rattle.search_cells.proofs.CellLaws.{value_at}
use Rattle.engine.specs.Private.TermTables.{others, start_of, term_of, row_words, bit}
use Rattle.engine.specs.Private.Terms.{own, GivenTrue}
use Rattle.engine.specs.Private.TermSteps.{Grown, Joined, Told, Missed, Hits, Remaining, Visited}
use Rattle.engine.proofs.search.BitLaws.{or_left, or_right, full_bit, shifted_bit, left_over}

-- ---- the values of a position

pub told_own : (kind : ℕ) (work : List ℕ) (k from rows : ℕ) → rows ≤ 64 → Told kind work k from rows (2 ^ 64 - 1) (2 ^ 64 - 1)
told_own kind work k from rows fits = record { true_there = λ l lt. inl (full_bit l (omega arith)); false_there = λ l lt. inl (full_bit l (omega arith)) }

module _ {kind : ℕ} {work : List ℕ} {k from l on off : ℕ} (so_far : Told kind work k from l on off) (given : kind ≡ 1 → ⊥) (small : k < max_unknowns)
    (row : from + l < max_rows) (fits : l < 64)
    (v : ℕ) (is : v ≡ get_or work (flags + (max_unknowns * (from + l) + k)) 0 % 2) where
  here_is : (cells work).value (from + l) k ≡ eqb v 1
  here_is = value_at (from + l) k row small work ∙ ap (λ (x : ℕ). eqb x 1) (sym is)

  pub told_more : Told kind work k from (l + 1) (bit_or on (v * 2 ^ l % 2 ^ 64)) (bit_or off ((1 - v) * 2 ^ l % 2 ^ 64))
  told_more = record { true_there = λ m lt. go m lt (ℕ_discrete m l) (ℕ_discrete v 1); false_there = λ m lt. back m lt (ℕ_discrete m l) (ℕ_discrete v 1) }
    where
      go : (m : ℕ) → m < l + 1 → Dec (m ≡ l) → Dec (v ≡ 1) → (bit (bit_or on (v * 2 ^ l % 2 ^ 64)) m ≡ true) ⊎ ((kind ≡ 1 → ⊥) ×
          ((cells work).value (from + m) k ≡ false))
      go m lt (yes same) (yes one) =
          inl (subst (λ (x : ℕ). bit (bit_or on (v * 2 ^ l % 2 ^ 64)) x ≡ true) (sym same) (or_right on (v * 2 ^ l % 2 ^ 64) l (shifted_bit v l one fits)))
      go m lt (yes same) (no n) = inr (given, ap (λ (x : ℕ). (cells work).value (from + x) k) same ∙ here_is ∙ ne_eqb v 1 n)
      go m lt (no n) d = ⊎_elim (λ b. inl (or_left on (v * 2 ^ l % 2 ^ 64) m b)) (λ r. inr r) (so_far.true_there m (omega arith))

      back : (m : ℕ) → m < l + 1 → Dec (m ≡ l) → Dec (v ≡ 1) → (bit (bit_or off ((1 - v) * 2 ^ l % 2 ^ 64)) m ≡ true) ⊎ ((kind ≡ 1 → ⊥) ×
          ((cells work).value (from + m) k ≡ true))
      back m lt (yes same) (no n) =
          inl (subst (λ (x : ℕ). bit (bit_or off ((1 - v) * 2 ^ l % 2 ^ 64)) x ≡ true) (sym same)
          (or_right off ((1 - v) * 2 ^ l % 2 ^ 64) l (shifted_bit (1 - v) l (omega arith) fits)))
      back m lt (yes same) (yes one) = inr (given, ap (λ (x : ℕ). (cells work).value (from + x) k) same ∙ here_is ∙ eq-eqb v 1 one)
      back m lt (no n) d = ⊎_elim (λ b. inl (or_left off ((1 - v) * 2 ^ l % 2 ^ 64) m b)) (λ r. inr r) (so_far.false_there m (omega arith))

-- ---- the literals that miss

true_even : (f : ℕ → Bool) (k : ℕ) → f k ≡ true → code_true f (2 * k + 2) ≡ true
unfolding code_true
true_even f k e =
    ap (λ (b : Bool). cond b (f (position (2 * k + 2))) (not (f (position (2 * k + 2))))) (eq-eqb ((2 * k + 2) % 2) 0 (omega arith))
    ∙ ap f (let same : position (2 * k + 2) ≡ k = omega arith in same) ∙ e

true_odd : (f : ℕ → Bool) (k : ℕ) → f k ≡ false → code_true f (2 * k + 3) ≡ true
unfolding code_true
true_odd f k e =
    ap (λ (b : Bool). cond b (f (position (2 * k + 3))) (not (f (position (2 * k + 3))))) (ne_eqb ((2 * k + 3) % 2) 0 (λ z. omega arith))
    ∙ ap (λ (x : ℕ). not (f x)) (let same : position (2 * k + 3) ≡ k = omega arith in same) ∙ ap not e

module _ {kinds work misses : List ℕ} {from rows k : ℕ} (so_far : Missed kinds work from rows k misses) (size : length misses ≡ last_code + 1)
    (small : k < max_unknowns)
    (kind on off : ℕ) (is : kind ≡ get_or kinds k 0) (told : Told kind work k from rows on off) where
  not_own : (c : ℕ) → position c ≡ k → 2 ≤ c → (kind ≡ 1 → ⊥) → own kinds c ≡ false
  unfolding own
  not_own c there two given =
      ne_eqb (get_or kinds (row_position c) 0) 1 (λ z. given (is ∙ ap (λ (x : ℕ). get_or kinds x 0) (sym (row_position_is c two (omega arith) ∙ there)) ∙ z))

  pub missed_more : Missed kinds work from rows (k + 1) (set (set misses (2 * k + 2) off) (2 * k + 3) on)
  missed_more = record { every = λ c l two lt less. go c l two lt less (ℕ_discrete c (2 * k + 2)) (ℕ_discrete c (2 * k + 3)) }
    where
      after : List ℕ
      after = set (set misses (2 * k + 2) off) (2 * k + 3) on

      even_word : get_or after (2 * k + 2) 0 ≡ off
      even_word = get_or-set_other (set misses (2 * k + 2) off) (2 * k + 3) (2 * k + 2) on 0 (λ z. omega arith) ∙ get_or-set_same misses (2 * k + 2) off 0
          (omega arith)

      odd_word : get_or after (2 * k + 3) 0 ≡ on
      odd_word = get_or-set_same (set misses (2 * k + 2) off) (2 * k + 3) on 0 (simp length-set (omega arith))

      even_code : (l : ℕ) → l < rows → (bit (get_or after (2 * k + 2) 0) l ≡ true) ⊎ GivenTrue kinds work (from + l) (2 * k + 2)
      even_code l less =
          ⊎_elim
          (λ b. inl (subst (λ (x : ℕ). bit x l ≡ true) (sym even_word) b))
          (λ r. inr (record { given = not_own (2 * k + 2) (omega arith) (omega arith) r.0; is = true_even ((cells work).value (from + l)) k r.1 }))
          (told.false_there l less)

      odd_code : (l : ℕ) → l < rows → (bit (get_or after (2 * k + 3) 0) l ≡ true) ⊎ GivenTrue kinds work (from + l) (2 * k + 3)
      odd_code l less =
          ⊎_elim
          (λ b. inl (subst (λ (x : ℕ). bit x l ≡ true) (sym odd_word) b))
          (λ r. inr (record { given = not_own (2 * k + 3) (omega arith) (omega arith) r.0; is = true_odd ((cells work).value (from + l)) k r.1 }))
          (told.true_there l less)

      go : (c l : ℕ) → 2 ≤ c → position c < k + 1 → l < rows → Dec (c ≡ 2 * k + 2) → Dec (c ≡ 2 * k + 3)
          → (bit (get_or after c 0) l ≡ true) ⊎ GivenTrue kinds work (from + l) c
      go c l two lt less (yes same) d =
          subst (λ (x : ℕ). (bit (get_or after x 0) l ≡ true) ⊎ GivenTrue kinds work (from + l) x) (sym same) (even_code l less)
      go c l two lt less (no n) (yes same) =
          subst (λ (x : ℕ). (bit (get_or after x 0) l ≡ true) ⊎ GivenTrue kinds work (from + l) x) (sym same) (odd_code l less)
      go c l two lt less (no n) (no m) =
          subst (λ (x : ℕ). (bit x l ≡ true) ⊎ GivenTrue kinds work (from + l) c)
          (sym (get_or-set_other (set misses (2 * k + 2) off) (2 * k + 3) c on 0 m ∙ get_or-set_other misses (2 * k + 2) c off 0 n))
          (so_far.every c l two (omega arith) less)

-- ---- words that grow

pub grown_trans : {a b c : List ℕ} → Grown a b → Grown b c → Grown a c
grown_trans first second = record { keeps = λ p l h. second.keeps p l (first.keeps p l h) }

pub joined_stored : (a : List ℕ) (p rows : ℕ) → p < length a → Joined p rows a (set a p (bit_or (get_or a p 0) rows))
joined_stored a p rows inside = record {
  grown = record { keeps = λ q l h. go q l h (ℕ_discrete q p) };
  takes = λ l h. subst (λ (x : ℕ). bit x l ≡ true) (sym (get_or-set_same a p (bit_or (get_or a p 0) rows) 0 inside)) (or_right (get_or a p 0) rows l h);
}
  where
    go : (q l : ℕ) → bit (get_or a q 0) l ≡ true → Dec (q ≡ p) → bit (get_or (set a p (bit_or (get_or a p 0) rows)) q 0) l ≡ true
    go q l h (yes same) =
        subst (λ (x : ℕ). bit (get_or (set a p (bit_or (get_or a p 0) rows)) x 0) l ≡ true) (sym same)
        (subst (λ (x : ℕ). bit x l ≡ true) (sym (get_or-set_same a p (bit_or (get_or a p 0) rows) 0 inside))
        (or_left (get_or a p 0) rows l (subst (λ (x : ℕ). bit (get_or a x 0) l ≡ true) same h)))
    go q l h (no n) = subst (λ (x : ℕ). bit x l ≡ true) (sym (get_or-set_other a p q (bit_or (get_or a p 0) rows) 0 n)) h

-- ---- the clauses of the table

-- The first n clauses, from the words before.
pub record Visiting (codes terms misses : List ℕ) (w all n : ℕ) (before after : List ℕ) : Type 0 where
  pub grown : Grown before after
  pub visited : Visited codes terms misses w all n after

module _ {codes terms misses : List ℕ} {w all n : ℕ} {before now after : List ℕ} (so_far : Visiting codes terms misses w all n before now)
    (t start left : ℕ) (of : t ≡ term_of terms n % (others + 1)) (there : start ≡ start_of terms n)
    (remains : Remaining codes misses start (bit_and all (bit_xor all (get_or now (row_words * t + w) 0))) left)
    (joined : Joined (row_words * t + w) left now after) where
  pub visiting_more : Visiting codes terms misses w all (n + 1) before after
  visiting_more = record { grown = grown_trans so_far.grown joined.grown; visited = record { every = λ j l lt few h. go j l lt few h (ℕ_discrete j n) } }
    where
      At : ℕ → ℕ → ℕ → Type 0
      At l place from = (bit (get_or after (row_words * place + w) 0) l ≡ true) ⊎ Some (Hits misses l) (clause_of (drop from codes))

      new : (l : ℕ) → bit all l ≡ true → At l t start
      new l h =
          ⊎_elim
          (λ b. inl (joined.grown.keeps (row_words * t + w) l b))
          (λ b. ⊎_elim (λ r. inl (joined.takes l r)) (λ s. inr s) (remains.every l b))
          (left_over all (get_or now (row_words * t + w) 0) l h)

      go : (j l : ℕ) → j < n + 1 → term_of terms j ≤ others → bit all l ≡ true → Dec (j ≡ n) → At l (term_of terms j) (start_of terms j)
      go j l lt few h (yes same) =
          let here : term_of terms j ≡ term_of terms n = ap (term_of terms) same in
          let place : t ≡ term_of terms j = omega arith in
          subst (λ (x : ℕ). At l x (start_of terms j)) place
          (subst (λ (x : ℕ). At l t x) (there ∙ ap (start_of terms) (sym same)) (new l h))
      go j l lt few h (no other) = ⊎_elim (λ b. inl (joined.grown.keeps (row_words * term_of terms j + w) l b)) (λ s. inr s)
          (so_far.visited.every j l (omega arith) few h)
