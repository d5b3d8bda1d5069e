-- All rows, and what the search learns of a row. Assumes nothing.
use Prim.Native.Nat.{ℕ, ◌+◌, ◌-◌, ◌*◌, ◌/◌, ◌%◌, ◌<◌, ◌≤◌}
use mathlib.Core.Path.{◌≡◌, sym, subst}
use mathlib.Core.Logic.{◌⊎◌, inl, inr, ⊎_elim}
use mathlib.Core.Bool.{true, false}
use mathlib.Core.List.{List, ◌∷◌}
use native.Mathlib.Omega.{arith}
use native.Mathlib.Decide.{dec_lt}
use lib.ListN.{length, get_or, drop, drop_of_length-le}
use Rattle.formula.specs.Formula.{max_clauses, max_rows}
use Rattle.expansion.proofs.Booleans.{never_both}
use Rattle.expansion.proofs.ClauseCuts.{Every, Some, every_map, some_map}
use Rattle.codes.specs.Private.Clauses.{position, clause_of, code_clauses, Ended, Coded}
use Rattle.codes.proofs.CodeLaws.{clause_coded, every_some}
use Rattle.engine.specs.Private.TermTables.{others, start_of, term_of, listed_in, row_words, bit, is_open, name_of}
use Rattle.engine.specs.Private.Terms.{own, StandsFor, Entered, Listed, GivenTrue, TermOpen, Opened, RowOpened}
use Rattle.engine.specs.Private.TermSteps.{Missed, RowsLooked, Hits, WordFilled, Filled, Named}
use Rattle.engine.proofs.search.ClauseLaws.{every_start}

-- ---- a word more

-- A literal that hits is given and true.
hit_given : {kinds work misses : List ℕ} {from rows : ℕ} → Missed kinds work from rows (length kinds) misses → (l : ℕ) → l < rows
    → (cs : List ℕ) → Every (λ c. (2 ≤ c) × (position c < length kinds)) cs → Some (Hits misses l) cs → Some (GivenTrue kinds work (from + l)) cs
unfolding Hits
hit_given {kinds} {work} {misses} {from} {rows} missed l less (c ∷ cs) coded (inl hit) =
    inl (⊎_elim (λ b. absurd (never_both b hit)) (λ g. g) (missed.every c l coded.0.0 coded.0.1 less))
hit_given missed l less (c ∷ cs) coded (inr s) = inr (hit_given missed l less cs coded.1 s)
hit_given {kinds = kinds} {work = work} {misses = misses} {from = from} {rows = rows} missed l less mathlib.Core.List.[] coded x'' = elim x'' [ ]

module _ {kinds codes terms work before after misses : List ℕ} {w count all : ℕ} (coded : Coded (length kinds) codes)
    (so_far : Filled kinds codes terms work (64 * w) before) (looked : RowsLooked kinds work w count all misses)
    (word : WordFilled codes terms misses w all before after) where
  pub filled_more : (m : ℕ) → m ≤ count → m ≤ 64 * (w + 1) → Filled kinds codes terms work m after
  filled_more m some most = record { listed = λ i j lt fits below place. go i j lt fits below place (dec_lt i (64 * w)) }
    where
      Rows : ℕ → ℕ → Type 0
      Rows i j = (is_open after (term_of terms j) i ≡ true) ⊎ Some (GivenTrue kinds work i) (clause_of (drop (start_of terms j) codes))

      go : (i j : ℕ) → i < m → listed_in terms ≤ max_clauses → j < listed_in terms → term_of terms j ≤ others → Dec (i < 64 * w) → Rows i j
      go i j lt fits below place (yes old) = ⊎_elim (λ b. inl (word.grown.keeps _ _ b)) (λ s. inr s) (so_far.listed i j old fits below place)
      go i j lt fits below place (no new) =
          let l = i - 64 * w in
          let inside = looked.enough i (omega arith) (omega arith) in
          let few = looked.fits in
          let high : i / 64 ≡ w = omega arith in
          let low : i % 64 ≡ l = omega arith in
          let row : 64 * w + l ≡ i = omega arith in
          ⊎_elim
          (λ b.
          inl
          (subst (λ (x : ℕ). bit (get_or after (row_words * term_of terms j + x) 0) (i % 64) ≡ true) (sym high)
          (subst (λ (x : ℕ). bit (get_or after (row_words * term_of terms j + w) 0) x ≡ true) (sym low) b)))
          (λ s.
          inr
          (subst (λ (x : ℕ). Some (GivenTrue kinds work x) (clause_of (drop (start_of terms j) codes))) row
          (hit_given looked.missed l (omega arith) (clause_of (drop (start_of terms j) codes)) (clause_coded (length kinds) codes (start_of terms j) coded)
          s)))
          ((word.listed fits).every j l below place (looked.ones l (omega arith)))

-- ---- the promise

pub opened_all : {kinds codes terms work before after : List ℕ} {count : ℕ} → count ≤ max_rows → Listed kinds codes terms →
    Filled kinds codes terms work count before
    → Named terms others before after → Opened kinds codes work count after
opened_all {kinds} {codes} {terms} {work} {before} {after} {count} fits listed filled named = record {
  every = λ i row start inside b. ⊎_elim (go i start row) (λ e. nowhere i start (go i (length codes) row e)) (listed.every start inside b);
}
  where
    Row : ℕ → ℕ → Type 0
    Row i start = Some (GivenTrue kinds work i) (clause_of (drop start codes)) ⊎ TermOpen kinds codes after i start ⊎ (is_open after others i ≡ true)

    kept : (i t : ℕ) → i < count → t ≤ others → is_open before t i ≡ true → is_open after t i ≡ true
    kept i t row few h = subst (λ (x : ℕ). bit x (i % 64) ≡ true) (sym (named.rows (row_words * t + i / 64) (omega arith))) h

    placed : (i start : ℕ) → i < count → (entered : Entered kinds codes terms (listed_in terms) start) →
        is_open before (term_of terms entered.entry) i ≡ true → Row i start
    placed i start row entered h =
        ⊎_elim
        (λ e. inr (inr (kept i others row (omega arith) (subst (λ (x : ℕ). is_open before x i ≡ true) e h))))
        (λ s. inr (inl (record {
          term = term_of terms entered.entry;
          below = s.0;
          there = kept i (term_of terms entered.entry) row (let lt = s.0 in omega arith) h;
          stands = subst (λ (x : ℕ). StandsFor kinds codes x start) (sym (named.names (term_of terms entered.entry) s.0)) s.1;
        })))
        entered.term

    go : (i start : ℕ) → i < count → Entered kinds codes terms (listed_in terms) start → Row i start
    go i start row entered =
        ⊎_elim
        (λ h. placed i start row entered h)
        (λ s. inl (subst (λ (x : ℕ). Some (GivenTrue kinds work i) (clause_of (drop x codes))) entered.there s))
        (filled.listed i entered.entry row listed.fits entered.below (⊎_elim (λ e. omega arith) (λ s. let lt = s.0 in omega arith) entered.term))

    none_there : (Q : ℕ → Type 0) → Some Q (clause_of (drop (length codes) codes)) → ⊥
    none_there Q s = subst (λ (cs : List ℕ). Some Q (clause_of cs)) (drop_of_length-le codes {i = length codes} (omega arith)) s

    -- What stands for the empty clause stands for any.
    nowhere : (i start : ℕ) → Row i (length codes) → Row i start
    nowhere i start (inl s) = absurd (none_there (GivenTrue kinds work i) s)
    nowhere i start (inr (inl t)) = inr (inl (record {
      term = t.term;
      below = t.below;
      there = t.there;
      stands = record {
        inside = t.stands.inside;
        begins = t.stands.begins;
        within =
            every_map (λ c. own kinds c ≡ true → Some (λ d. d ≡ c) (clause_of (drop (length codes) codes)))
            (λ c. own kinds c ≡ true → Some (λ d. d ≡ c) (clause_of (drop start codes)))
            (λ c f o. absurd (none_there (λ d. d ≡ c) (f o))) (clause_of (drop (name_of after t.term) codes)) t.stands.within;
      };
    }))
    nowhere i start (inr (inr h)) = inr (inr h)

-- ---- a row in which every open term has a true own literal

-- If what is given and true has a property, each open term's clause has an own literal with it, and the place of the others is not open,
-- then every clause has a literal with it.
pub row_covered : {kinds codes work opened : List ℕ} (i : ℕ) → RowOpened kinds codes work opened i → Ended codes → (Q : ℕ → Type 0)
    → ((c : ℕ) → GivenTrue kinds work i c → Q c)
    → ((t : ℕ) → t < others → is_open opened t i ≡ true → Some (λ c. (own kinds c ≡ true) × Q c) (clause_of (drop (name_of opened t) codes)))
    → is_open opened others i ≡ false → Every (Some Q) (code_clauses codes)
row_covered {kinds} {codes} {work} {opened} i promised ended Q given terms none =
    every_start (Some Q) codes ended (λ start inside b. go start (promised start inside b))
  where
    moved : (start : ℕ) (c : ℕ) → (own kinds c ≡ true → Some (λ d. d ≡ c) (clause_of (drop start codes))) → (own kinds c ≡ true) × Q c →
        Some Q (clause_of (drop start codes))
    moved start c within here =
        some_map (λ d. d ≡ c) Q (λ d e. subst Q (sym e) here.1) (clause_of (drop start codes)) (within here.0)

    through : (start : ℕ) → TermOpen kinds codes opened i start → Some Q (clause_of (drop start codes))
    through start open_there =
        every_some (λ c. own kinds c ≡ true → Some (λ d. d ≡ c) (clause_of (drop start codes))) (λ c. (own kinds c ≡ true) × Q c)
        (Some Q (clause_of (drop start codes)))
        (moved start) (clause_of (drop (name_of opened open_there.term) codes)) open_there.stands.within
        (terms open_there.term open_there.below open_there.there)

    go : (start : ℕ) → Some (GivenTrue kinds work i) (clause_of (drop start codes)) ⊎ TermOpen kinds codes opened i start ⊎ (is_open opened others i ≡ true) →
        Some Q (clause_of (drop start codes))
    go start (inl s) = some_map (GivenTrue kinds work i) Q given (clause_of (drop start codes)) s
    go start (inr (inl open_there)) = through start open_there
    go start (inr (inr h)) = absurd (never_both h none)
