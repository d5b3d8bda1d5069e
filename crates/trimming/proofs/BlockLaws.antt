-- A table that is laid out clause by clause.
-- Assumes nothing.
use Prim.Native.Nat.{ℕ, suc, ◌+◌, ◌%◌, ◌≤◌, ◌<◌}
use native.Mathlib.Omega.{arith}
use mathlib.Core.Path.{◌≡◌, refl, sym, ◌∙◌, ap, ap₂}
use mathlib.Core.Bool.{Bool, true, false, cond}
use mathlib.Core.List.{List, [], ◌∷◌, ◌++◌, map, append_assoc}
use borrow.Author.Tests.{le-ltb, ltb-true, ne_eqb}
use lib.IntN.{ℤ, pos}
use lib.ListN.{length}
use Rattle.formula.specs.Formula.{max_unknowns, Clause, clauses}
use Rattle.codes.specs.Codes.{last_code}
use Rattle.trimming_rules.specs.Trimming.{keep, entries}
use Rattle.trimming_rules.proofs.ClauseLaws.{Every, Named}
use Rattle.trimming_rules.proofs.RuleLaws.{Within}
use Rattle.trimming_rules.proofs.Trimmed.{clauses_entries}
use Rattle.trimming_marks.specs.Marks.{is_left, ends, first_clause, first_length, marked, mark_clause}
use Rattle.trimming.specs.Private.Table.{literal_of, left, clauses_left, Entry, Block, standing, gone, inner, whole, Fine, laid, shown, all_shown}
use Rattle.trimming.proofs.CodeLaws.{named_code}

-- ---- lists

module _ {A B : Type 0} where
  pub map_append : (f : A → B) (xs ys : List A) → map f (xs ++ ys) ≡ map f xs ++ map f ys
  map_append f [] ys = refl
  map_append f (x ∷ xs) ys = ap (λ (l : List B). f x ∷ l) (map_append f xs ys)

module _ {A : Type 0} where
  pub keep_append : (test : A → Bool) (xs ys : List A) → keep test (xs ++ ys) ≡ keep test xs ++ keep test ys
  keep_append test [] ys = refl
  keep_append test (x ∷ xs) ys = go (test x) (keep_append test xs ys)
    where
      go : (t : Bool) → keep test (xs ++ ys) ≡ keep test xs ++ keep test ys →
          cond t (x ∷ keep test (xs ++ ys)) (keep test (xs ++ ys)) ≡ cond t (x ∷ keep test xs) (keep test xs) ++ keep test ys
      go true later = ap (λ (l : List A). x ∷ l) later
      go false later = later

  pub keep_none : (test : A → Bool) (xs : List A) → Every (λ x. test x ≡ false) xs → keep test xs ≡ []
  keep_none test [] all = refl
  keep_none test (x ∷ xs) all = rw all.0 (keep_none test xs all.1)

  pub every_map : (P Q : A → Type 0) → ((x : A) → P x → Q x) → (xs : List A) → Every P xs → Every Q xs
  every_map P Q f [] all = tt
  every_map P Q f (x ∷ xs) all = (f x all.0, every_map P Q f xs all.1)

  pub every_append : (P : A → Type 0) (xs ys : List A) → Every P xs → Every P ys → Every P (xs ++ ys)
  every_append P [] ys p q = q
  every_append P (x ∷ xs) ys p q = (p.0, every_append P xs ys p.1 q)

-- ---- entries

pub entry_goes_on : (x : ℕ) → Entry x → ends x ≡ false
entry_goes_on x e = ne_eqb (x % 512) 0 (λ z. let l = e.literal in omega arith)

-- An entry that is left is its code.
pub left_code : (x : ℕ) → Entry x → is_left x ≡ true → (2 ≤ x) × (x < last_code + 1)
left_code x e l =
    let small = ltb-true x 512 l in
    let p = e.literal in
    let q = e.known in
    (omega arith, omega arith)

pub not_left : (x : ℕ) → 512 ≤ x → is_left x ≡ false
not_left x h = le-ltb x 512 h

pub entries_of : (b : Block) → Fine b → Every Entry (inner b)
entries_of (standing c) f = f
entries_of (gone c) f = every_map (λ x. Entry x × (512 ≤ x)) Entry (λ x p. p.0) c f

pub gone_none : (c : List ℕ) → Every (λ x. Entry x × (512 ≤ x)) c → keep is_left c ≡ []
gone_none c f = keep_none is_left c (every_map (λ x. Entry x × (512 ≤ x)) (λ x. is_left x ≡ false) (λ x p. not_left x p.1) c f)

-- ---- the front clause

module _ (close : ℕ) (closes : ends close ≡ true) (r : List ℕ) where
  front_clause : (c : List ℕ) → Every Entry c → first_clause ((c ++ (close ∷ [])) ++ r) ≡ c
  front_clause [] all = rw closes
  front_clause (x ∷ c) all = rw (entry_goes_on x all.0) (ap (λ (l : List ℕ). x ∷ l) (front_clause c all.1))

  front_length : (c : List ℕ) → Every Entry c → first_length ((c ++ (close ∷ [])) ++ r) ≡ length (c ++ (close ∷ []))
  front_length [] all = rw closes
  front_length (x ∷ c) all = rw (entry_goes_on x all.0) (ap suc (front_length c all.1))

  front_marked : (low high : ℕ) (c : List ℕ) → Every Entry c → mark_clause low high ((c ++ (close ∷ [])) ++ r) ≡ map (marked low high) (c ++ (close ∷ [])) ++ r
  front_marked low high [] all = rw closes
  front_marked low high (x ∷ c) all = rw (entry_goes_on x all.0) (ap (λ (l : List ℕ). marked low high x ∷ l) (front_marked low high c all.1))

module _ (r : List ℕ) where
  pub block_clause : (b : Block) → Fine b → first_clause (whole b ++ r) ≡ inner b
  block_clause (standing c) f = front_clause 0 refl r c f
  block_clause (gone c) f = front_clause 512 refl r c (entries_of (gone c) f)

  pub block_length : (b : Block) → Fine b → first_length (whole b ++ r) ≡ length (whole b)
  block_length (standing c) f = front_length 0 refl r c f
  block_length (gone c) f = front_length 512 refl r c (entries_of (gone c) f)

  pub block_marked : (low high : ℕ) (b : Block) → Fine b → mark_clause low high (whole b ++ r) ≡ map (marked low high) (whole b) ++ r
  block_marked low high (standing c) f = front_marked 0 refl r low high c f
  block_marked low high (gone c) f = front_marked 512 refl r low high c (entries_of (gone c) f)

-- ---- what is left

pub left_append : (s t : List ℕ) → left (s ++ t) ≡ left s ++ left t
left_append s t = ap (map literal_of) (keep_append is_left s t) ∙ map_append literal_of (keep is_left s) (keep is_left t)

pub laid_append : (bs ds : List Block) → laid (bs ++ ds) ≡ laid bs ++ laid ds
laid_append [] ds = refl
laid_append (b ∷ bs) ds = ap (λ (l : List ℕ). whole b ++ l) (laid_append bs ds) ∙ sym (append_assoc (whole b) (laid bs) (laid ds))

pub shown_append : (bs ds : List Block) → all_shown (bs ++ ds) ≡ all_shown bs ++ all_shown ds
shown_append [] ds = refl
shown_append (b ∷ bs) ds = ap (λ (l : List Clause). shown b ++ l) (shown_append bs ds) ∙ sym (append_assoc (shown b) (all_shown bs) (all_shown ds))

end_literal : literal_of 0 ≡ pos 0
unfolding literal_of
end_literal = refl

left_block : (b : Block) → Fine b → (r : List ℕ) (cs : List Clause) → left r ≡ entries cs → left (whole b ++ r) ≡ entries (shown b ++ cs)
left_block (standing c) f r cs e =
    left_append (c ++ (0 ∷ [])) r
    ∙ ap₂ ◌++◌ (left_append c (0 ∷ []) ∙ ap (λ (z : ℤ). left c ++ (z ∷ [])) end_literal) e
    ∙ append_assoc (left c) (pos 0 ∷ []) (entries cs)
left_block (gone c) f r cs e =
    left_append (c ++ (512 ∷ [])) r
    ∙ ap₂ ◌++◌ (left_append c (512 ∷ []) ∙ ap (λ (l : List ℕ). map literal_of l ++ []) (gone_none c f)) e

-- What is left are the entries of the clauses that are left ..
pub left_entries : (bs : List Block) → Every Fine bs → left (laid bs) ≡ entries (all_shown bs)
left_entries [] f = refl
left_entries (b ∷ bs) f = left_block b f.0 (laid bs) (all_shown bs) (left_entries bs f.1)

named_left : (c : List ℕ) → Every Entry c → Every (Named max_unknowns) (map literal_of (keep is_left c))
named_left [] all = tt
named_left (x ∷ c) all = go (is_left x) refl (named_left c all.1)
  where
    go : (t : Bool) → is_left x ≡ t → Every (Named max_unknowns) (map literal_of (keep is_left c)) →
        Every (Named max_unknowns) (map literal_of (cond t (x ∷ keep is_left c) (keep is_left c)))
    go true l later = let s = left_code x all.0 l in (named_code x s.0 s.1, later)
    go false l later = later

pub shown_within : (bs : List Block) → Every Fine bs → Within max_unknowns (all_shown bs)
shown_within [] f = tt
shown_within (standing c ∷ bs) f = (named_left c f.0, shown_within bs f.1)
shown_within (gone c ∷ bs) f = shown_within bs f.1

-- .. and their clauses are those.
pub laid_clauses : (bs : List Block) → Every Fine bs → clauses_left (laid bs) ≡ all_shown bs
unfolding clauses_left
laid_clauses bs f = ap clauses (left_entries bs f) ∙ clauses_entries max_unknowns (all_shown bs) (shown_within bs f)
