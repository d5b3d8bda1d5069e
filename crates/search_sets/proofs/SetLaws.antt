-- What the functions make of a table that has their places, as relations between the sets before and after. Assumes nothing.
use Prim.Native.Nat.{ℕ, zero, suc, ◌+◌, ◌-◌, ◌*◌, ◌/◌, ◌%◌, ◌^◌, ◌≤◌, ◌<◌}
use mathlib.Core.Path.{◌≡◌, refl, sym, ◌∙◌, subst}
use mathlib.Core.Logic.{◌⊎◌, inl, inr, ⊎_elim}
use mathlib.Core.Bool.{Bool, true, false, cond}
use mathlib.Core.List.{List, [], ◌∷◌}
use native.Mathlib.Decide.{dec_lt, ℕ_discrete}
use native.Mathlib.Omega.{arith}
use borrow.Author.Tests.{eq-eqb, ne_eqb}
use lib.ListN.{length, drop}
use Rattle.formula.specs.Formula.{max_unknowns}
use Rattle.expansion.proofs.Booleans.{never_both}
use Rattle.expansion.proofs.ClauseCuts.{Every, every_map}
use Rattle.codes.specs.Private.Clauses.{position, clause_of, Coded}
use Rattle.codes.proofs.CodeLaws.{clause_coded, row_position_is}
use Rattle.codes.specs.Codes.{row_position}
use Rattle.search_sets.specs.Sets.{set_places, sets_size, words_put, words_joined, words_met, set_joined, bit_added, bit_at, ones, each_from, cut_at}
use Rattle.search_sets.specs.Sets.{followed, code_joined, codes_joined, united, united_words, added}
use Rattle.search_sets.specs.Sets.{has, emptied, filled, trimmed, resolved, reasons_added}
use Rattle.search_sets.specs.Private.Masks.{set_at, SetGrown, SetsKept, Put, United, WordsUnited, Trimmed, Resolved, ReasonsAdded}
use Rattle.search_sets.proofs.TestLaws.{place_true, numbers_true}
use Rattle.search_sets.proofs.LengthLaws.{length_met, length_followed, length_code_joined, length_each}
use Rattle.search_sets.proofs.MaskLaws.{words_full, set_bit, store_put, kept_put, store_grown, store_added, put_united, set_grown_refl, set_grown_trans}
use Rattle.search_sets.proofs.MaskLaws.{set_grown_keeps, trimmed_refl, trimmed_more}

-- ---- sets at places that are there

module _ (s : List ℕ) (size : length s ≡ sets_size) (to : ℕ) (place : to < set_places) where
  put_there : (low high : ℕ) → Put to low high s (words_put s to low high)
  unfolding words_put
  put_there low high = store_put s to low high (omega arith)

  joined_united : (low high : ℕ) → WordsUnited to low high s (words_joined s to low high)
  unfolding words_joined
  joined_united low high = put_united s _ to low high (put_there _ _)

  set_joined_united : (from : ℕ) → United to from s (set_joined s to from)
  unfolding set_joined
  set_joined_united from = let words = joined_united _ _ in record { grown = words.grown; takes = words.takes }

-- ---- a position after the other

trimmed_each : (k m : ℕ) (s : List ℕ) → length s ≡ sets_size → k + m ≤ max_unknowns → Trimmed k s (each_from (cut_at k) k m s)
unfolding words_met ones
trimmed_each k zero s size fits = trimmed_refl k s
trimmed_each k (suc m) s size fits =
    let t = each_from (cut_at k) k m s in
    let same : length t ≡ sets_size = length_each (cut_at k) (λ u p. length_met u p (ones k) (ones (k - 64))) k m s ∙ size in
    trimmed_more k (k + m) (ones k) (ones (k - 64)) s t _ (omega arith) (omega arith) refl refl (trimmed_each k m s size (omega arith))
    (put_there t same (k + m) (omega arith) _ _)

resolved_none : (k : ℕ) (s : List ℕ) → Resolved k k s s
resolved_none k s = record { grown = set_grown_refl; takes = λ p low high. absurd (omega arith) }

resolved_shorter : (k at p : ℕ) (s t : List ℕ) → at ≤ p → Resolved k p s t → Resolved k at s t
resolved_shorter k at p s t le x = record { grown = x.grown; takes = λ q low high. x.takes q low (omega arith) }

-- Position p: its set is taken in if the conflict's set has it by now, so also if it had it at first.
resolved_more : (k p : ℕ) (s t u : List ℕ) → p < max_unknowns → Resolved k p s t → SetGrown max_unknowns t u
    → (set_at t max_unknowns p ≡ true → (l : ℕ) → set_at t p l ≡ true → set_at u max_unknowns l ≡ true) → Resolved k (p + 1) s u
resolved_more k p s t u below x g here = record {
  grown = set_grown_trans x.grown g;
  takes = λ q low high named l h. go q low high named l h (dec_lt q p);
}
  where
    go : (q : ℕ) → k ≤ q → q < p + 1 → set_at s max_unknowns q ≡ true → (l : ℕ) → set_at s q l ≡ true → Dec (q < p) → set_at u max_unknowns l ≡ true
    go q low high named l h (yes lt) = g.keeps l (x.takes q low lt named l h)
    go q low high named l h (no n) =
        let same : q ≡ p = omega arith in
        here (set_grown_keeps x.grown max_unknowns p (subst (λ (y : ℕ). set_at s max_unknowns y ≡ true) same named)) l
        (set_grown_keeps x.grown p l (subst (λ (y : ℕ). set_at s y l ≡ true) same h))

resolved_step : (k p : ℕ) (s t : List ℕ) → length t ≡ sets_size → p < max_unknowns → Resolved k p s t → (b : Bool) → bit_at t max_unknowns p ≡ b
    → Resolved k (p + 1) s (cond b (set_joined t max_unknowns p) t)
unfolding bit_at
resolved_step k p s t size below x true e =
    let joined = set_joined_united t size max_unknowns (omega arith) p in
    resolved_more k p s t (set_joined t max_unknowns p) below x joined.grown (λ named. joined.takes)
resolved_step k p s t size below x false e =
    resolved_more k p s t t below x set_grown_refl (λ named. absurd (never_both named (set_bit t max_unknowns p below ∙ e)))

resolved_each : (k m : ℕ) (s : List ℕ) → length s ≡ sets_size → m ≤ max_unknowns - k → Resolved k (k + m) s (each_from (followed max_unknowns) k m s)
resolved_each k zero s size fits = resolved_shorter k (k + 0) k s s (omega arith) (resolved_none k s)
resolved_each k (suc m) s size fits =
    let t = each_from (followed max_unknowns) k m s in
    let same : length t ≡ sets_size = length_each (followed max_unknowns) (length_followed max_unknowns) k m s ∙ size in
    resolved_shorter k (k + suc m) (k + m + 1) s _ (omega arith)
    (resolved_step k (k + m) s t same (omega arith) (resolved_each k m s size (omega arith)) (bit_at t max_unknowns (k + m)) refl)

-- ---- a code after the other

code_grown : (s : List ℕ) → length s ≡ sets_size → (to c : ℕ) → to < set_places → SetGrown to s (code_joined to s c)
code_grown s size to c place = go (ℕ_discrete (row_position c) to)
  where
    go : Dec (row_position c ≡ to) → SetGrown to s (code_joined to s c)
    go (yes same) = rw (eq-eqb (row_position c) to same) set_grown_refl
    go (no other) = rw (ne_eqb (row_position c) to other) (set_joined_united s size to place (row_position c)).grown

code_taken : (s : List ℕ) → length s ≡ sets_size → (to c : ℕ) → to < set_places → 2 ≤ c → position c < max_unknowns
    → (position c ≡ to) ⊎ ((l : ℕ) → set_at s (position c) l ≡ true → set_at (code_joined to s c) to l ≡ true)
code_taken s size to c place two below = go (ℕ_discrete (row_position c) to)
  where
    go : Dec (row_position c ≡ to) → (position c ≡ to) ⊎ ((l : ℕ) → set_at s (position c) l ≡ true → set_at (code_joined to s c) to l ≡ true)
    go (yes same) = inl (sym (row_position_is c two below) ∙ same)
    go (no other) =
        inr
        (λ l h.
        rw (ne_eqb (row_position c) to other)
        ((set_joined_united s size to place (row_position c)).takes l (subst (λ (p : ℕ). set_at s p l ≡ true) (sym (row_position_is c two below)) h)))

reasons_added_all : (to : ℕ) → to < set_places → (cs : List ℕ) → Every (λ c. (2 ≤ c) × (position c < max_unknowns)) cs
    → (s : List ℕ) → length s ≡ sets_size → ReasonsAdded cs to s (codes_joined to cs s)
reasons_added_all to place [] coded s size = record { grown = set_grown_refl; takes = tt }
reasons_added_all to place (c ∷ cs) coded s size =
    let t = code_joined to s c in
    let u = codes_joined to cs t in
    let first = code_grown s size to c place in
    let rest = reasons_added_all to place cs coded.1 t (length_code_joined to s c ∙ size) in
    record {
      grown = set_grown_trans first rest.grown;
      takes = (
        ⊎_elim (λ e. inl e) (λ f. inr (λ l h. rest.grown.keeps l (f l h))) (code_taken s size to c place coded.0.0 coded.0.1),
        every_map (Taken t u) (Taken s u) (λ d. ⊎_elim (λ e. inl e) (λ f. inr (λ l h. f l (set_grown_keeps first (position d) l h)))) cs rest.takes,
      );
    }
  where
    Taken : List ℕ → List ℕ → ℕ → Type 0
    Taken before after d = (position d ≡ to) ⊎ ((l : ℕ) → set_at before (position d) l ≡ true → set_at after to l ≡ true)

-- ---- the public functions

module _ (s : List ℕ) (size : length s ≡ sets_size) where
  pub unite_unites : (to from : ℕ) → to < set_places → from < set_places → United to from s (united s to from)
  unfolding united
  unite_unites to from place other = rw (numbers_true (length s) to from set_places size place other) (set_joined_united s size to place from)

  pub words_unite : (to low high : ℕ) → to < set_places → WordsUnited to low high s (united_words s to low high)
  unfolding united_words
  words_unite to low high place = rw (place_true (length s) to size place) (joined_united s size to place low high)

  pub add_grows : (to p : ℕ) → to < set_places → p < max_unknowns → SetGrown to s (added s to p)
  unfolding added bit_added
  add_grows to p place below = rw (numbers_true (length s) to p max_unknowns size place below) (store_grown s (2 * to + p / 64) (2 ^ (p % 64)) to (omega arith)
      (omega arith) (omega arith))

  pub add_adds : (to p : ℕ) → to < set_places → p < max_unknowns → set_at (added s to p) to p ≡ true
  unfolding added bit_added
  add_adds to p place below = rw (numbers_true (length s) to p max_unknowns size place below) (store_added s to p (omega arith) below)

  pub has_is : (of p : ℕ) → of < set_places → p < max_unknowns → has s of p ≡ set_at s of p
  unfolding has bit_at
  has_is of p place below = rw (numbers_true (length s) of p max_unknowns size place below) (sym (set_bit s of p below))

  pub empty_empties : (to : ℕ) → to < set_places → Put to 0 0 s (emptied s to)
  unfolding emptied
  empty_empties to place = rw (place_true (length s) to size place) (put_there s size to place 0 0)

  pub empty_keeps : (to : ℕ) → max_unknowns ≤ to → to < set_places → SetsKept s (emptied s to)
  unfolding emptied
  empty_keeps to behind place = rw (place_true (length s) to size place) (kept_put behind (put_there s size to place 0 0))

  pub fill_keeps : (to : ℕ) → max_unknowns ≤ to → to < set_places → SetsKept s (filled s to)
  unfolding filled
  fill_keeps to behind place = rw (place_true (length s) to size place) (kept_put behind (put_there s size to place (2 ^ 64 - 1) (2 ^ 64 - 1)))

  pub fill_fills : (to : ℕ) → to < set_places → (l : ℕ) → l < max_unknowns → set_at (filled s to) to l ≡ true
  unfolding filled
  fill_fills to place l below =
      rw (place_true (length s) to size place) ((put_there s size to place (2 ^ 64 - 1) (2 ^ 64 - 1)).there l ∙ words_full l below)

  pub trim_trims : (k n : ℕ) → k ≤ n → n ≤ max_unknowns → Trimmed k s (trimmed s k n)
  unfolding trimmed
  trim_trims k n low high = rw (numbers_true (length s) k n (max_unknowns + 1) size (omega arith) (omega arith)) (trimmed_each k (n - k) s size (omega arith))

  pub resolve_resolves : (k at : ℕ) → at ≤ max_unknowns → Resolved k at s (resolved s max_unknowns k at)
  unfolding resolved
  resolve_resolves k at high =
      rw (numbers_true (length s) max_unknowns at (max_unknowns + 1) size (omega arith) (omega arith))
      (resolved_shorter k at (k + (at - k)) s _ (omega arith) (resolved_each k (at - k) s size (omega arith)))

  pub add_reasons_adds : (codes : List ℕ) (start to : ℕ) → to < set_places → Coded max_unknowns codes
      → ReasonsAdded (clause_of (drop start codes)) to s (reasons_added codes s start to)
  unfolding reasons_added
  add_reasons_adds codes start to place coded =
      rw (place_true (length s) to size place) (reasons_added_all to place (clause_of (drop start codes)) (clause_coded max_unknowns codes start coded) s size)
