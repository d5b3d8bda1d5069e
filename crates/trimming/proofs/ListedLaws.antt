-- What the index lists of a table that is laid out clause by clause, and what becomes of the lists where one clause is changed.
-- Assumes nothing.
use Prim.Native.Nat.{ℕ, zero, suc, ◌+◌, ◌-◌, ◌≤◌, ◌<◌}
use native.Mathlib.Omega.{arith}
use mathlib.Core.Path.{◌≡◌, refl, sym, ◌∙◌, ap, ap₂}
use mathlib.Core.Bool.{Bool, true, false, cond, true≢false}
use mathlib.Core.List.{List, [], ◌∷◌, ◌++◌, append_assoc}
use borrow.Author.Tests.{eq-eqb, ne_eqb, ltb-true, ltb-false}
use lib.Dec.{ltb}
use lib.ListN.{length, get_or, length-append}
use Rattle.trimming_rules.proofs.ClauseLaws.{Every}
use Rattle.trimming_marks.specs.Marks.{ends}
use Rattle.index.specs.Occurrences.{whole_clause, has_left, listed_from, listed, begins}
use Rattle.index.specs.Index.{without}
use Rattle.trimming.specs.Private.Table.{Entry, Block, standing, gone, whole, Fine, laid}
use Rattle.trimming.proofs.BlockLaws.{entry_goes_on, entries_of}

abbrev pub block_has : ℕ → Block → Bool
block_has c b = has_left c (whole b)

-- The names of the blocks that have c; the first block stands at place o.
abbrev pub names_from : ℕ → ℕ → List Block → List ℕ
names_from c o [] = []
names_from c o (b ∷ bs) = let rest = names_from c (o + length (whole b)) bs in cond (block_has c b) (o ∷ rest) rest

-- ---- the list of a code

module _ (close : ℕ) (closes : ends close ≡ true) (r : List ℕ) where
  passed_over : (c o : ℕ) (es : List ℕ) → Every Entry es →
      listed_from c false o ((es ++ (close ∷ [])) ++ r) ≡ listed_from c true (o + length (es ++ (close ∷ []))) r
  passed_over c o [] all = rw closes
  passed_over c o (x ∷ es) all =
      rw (entry_goes_on x all.0)
      (passed_over c (o + 1) es all.1
      ∙ ap (λ (n : ℕ). listed_from c true n r) (let e : (o + 1) + length (es ++ (close ∷ [])) ≡ o + suc (length (es ++ (close ∷ []))) = omega arith in e))

  pub whole_front : (es : List ℕ) → Every Entry es → whole_clause ((es ++ (close ∷ [])) ++ r) ≡ es ++ (close ∷ [])
  whole_front [] all = rw closes
  whole_front (x ∷ es) all = rw (entry_goes_on x all.0) (ap (λ (l : List ℕ). x ∷ l) (whole_front es all.1))

  front_listed : (c o : ℕ) (es : List ℕ) → Every Entry es
      → listed_from c true o ((es ++ (close ∷ [])) ++ r) ≡ cond (has_left c (es ++ (close ∷ []))) (o ∷ listed_from c true (o + length (es ++ (close ∷ []))) r)
      (listed_from c true (o + length (es ++ (close ∷ []))) r)
  front_listed c o [] all = rw closes
  front_listed c o (x ∷ es) all =
      ap₂ (λ (w rest : List ℕ). cond (has_left c w) (o ∷ rest) rest) (whole_front (x ∷ es) all)
      (ap (λ (b : Bool). listed_from c b (o + 1) ((es ++ (close ∷ [])) ++ r)) (entry_goes_on x all.0)
      ∙ passed_over c (o + 1) es all.1
      ∙ ap (λ (n : ℕ). listed_from c true n r) (let e : (o + 1) + length (es ++ (close ∷ [])) ≡ o + suc (length (es ++ (close ∷ []))) = omega arith in e))

block_listed : (r : List ℕ) (c o : ℕ) (b : Block) → Fine b
    → listed_from c true o (whole b ++ r) ≡ cond (block_has c b) (o ∷ listed_from c true (o + length (whole b)) r) (listed_from c true (o + length (whole b)) r)
block_listed r c o (standing es) f = front_listed 0 refl r c o es f
block_listed r c o (gone es) f = front_listed 512 refl r c o es (entries_of (gone es) f)

listed_blocks : (c o : ℕ) (bs : List Block) → Every Fine bs → listed_from c true o (laid bs) ≡ names_from c o bs
listed_blocks c o [] f = refl
listed_blocks c o (b ∷ bs) f =
    block_listed (laid bs) c o b f.0
    ∙ ap (λ (rest : List ℕ). cond (block_has c b) (o ∷ rest) rest) (listed_blocks c (o + length (whole b)) bs f.1)

pub listed_laid : (c : ℕ) (bs : List Block) → Every Fine bs → listed c (laid bs) ≡ names_from c 0 bs
listed_laid c bs f = listed_blocks c 0 bs f

-- ---- names

pub whole_some : (b : Block) → 0 < length (whole b)
whole_some (standing c) = let e = length-append c (0 ∷ []) in omega arith
whole_some (gone c) = let e = length-append c (512 ∷ []) in omega arith

module _ (c : ℕ) where
  pub names_append : (o : ℕ) (bs ds : List Block) → names_from c o (bs ++ ds) ≡ names_from c o bs ++ names_from c (o + length (laid bs)) ds
  names_append o [] ds = ap (λ (n : ℕ). names_from c n ds) (let e : o ≡ o + 0 = omega arith in e)
  names_append o (b ∷ bs) ds = go (block_has c b)
      (names_append (o + length (whole b)) bs ds ∙ ap (λ (n : ℕ). names_from c (o + length (whole b)) bs ++ names_from c n ds)
      (let l = length-append (whole b) (laid bs) in let e : (o + length (whole b)) + length (laid bs) ≡ o + length (whole b ++ laid bs) = omega arith in e))
    where
      go : (t : Bool) → names_from c (o + length (whole b)) (bs ++ ds) ≡ names_from c (o + length (whole b)) bs ++ names_from c
          (o + length (whole b ++ laid bs)) ds
          → cond t (o ∷ names_from c (o + length (whole b)) (bs ++ ds)) (names_from c (o + length (whole b)) (bs ++ ds))
          ≡ cond t (o ∷ names_from c (o + length (whole b)) bs) (names_from c (o + length (whole b)) bs) ++ names_from c (o + length (whole b ++ laid bs)) ds
      go true later = ap (λ (l : List ℕ). o ∷ l) later
      go false later = later

  pub names_above : (o m : ℕ) (bs : List Block) → m ≤ o → Every (λ x. m ≤ x) (names_from c o bs)
  names_above o m [] h = tt
  names_above o m (b ∷ bs) h = go (block_has c b) (names_above (o + length (whole b)) m bs (omega arith))
    where
      go : (t : Bool) → Every (λ x. m ≤ x) (names_from c (o + length (whole b)) bs) →
          Every (λ x. m ≤ x) (cond t (o ∷ names_from c (o + length (whole b)) bs) (names_from c (o + length (whole b)) bs))
      go true later = (h, later)
      go false later = later

  pub names_below : (o m : ℕ) (bs : List Block) → o + length (laid bs) ≤ m → Every (λ x. x < m) (names_from c o bs)
  names_below o m [] h = tt
  names_below o m (b ∷ bs) h = go (block_has c b) (names_below (o + length (whole b)) m bs (let l = length-append (whole b) (laid bs) in omega arith))
    where
      go : (t : Bool) → Every (λ x. x < m) (names_from c (o + length (whole b)) bs) →
          Every (λ x. x < m) (cond t (o ∷ names_from c (o + length (whole b)) bs) (names_from c (o + length (whole b)) bs))
      go true later = (let w = whole_some b in let l = length-append (whole b) (laid bs) in omega arith, later)
      go false later = later

without_past : (s : ℕ) (xs ys : List ℕ) → Every (λ x. x < s) xs → without s (xs ++ ys) ≡ xs ++ without s ys
without_past s [] ys all = refl
without_past s (x ∷ xs) ys all = rw (ne_eqb s x (λ e. let h = all.0 in omega arith)) (ap (λ (l : List ℕ). x ∷ l) (without_past s xs ys all.1))

without_none : (s : ℕ) (ys : List ℕ) → Every (λ y. s + 1 ≤ y) ys → without s ys ≡ ys
without_none s [] all = refl
without_none s (y ∷ ys) all = rw (ne_eqb s y (λ e. let h = all.0 in omega arith)) (ap (λ (l : List ℕ). y ∷ l) (without_none s ys all.1))

-- One block is made another of the same length.
module _ (c : ℕ) (xs ys : List Block) (b d : Block) (sized : length (whole d) ≡ length (whole b)) where
  abbrev after : List ℕ
  after = names_from c (length (laid xs) + length (whole b)) ys

  split : (e : Block) → length (whole e) ≡ length (whole b) →
      names_from c 0 (xs ++ (e ∷ ys)) ≡ names_from c 0 xs ++ cond (block_has c e) (length (laid xs) ∷ after) after
  split e same =
      names_append c 0 xs (e ∷ ys)
      ∙ ap (λ (n : ℕ). names_from c 0 xs ++ names_from c n (e ∷ ys)) (let z : 0 + length (laid xs) ≡ length (laid xs) = omega arith in z)
      ∙ ap (λ (n : ℕ). names_from c 0 xs ++ cond (block_has c e) (length (laid xs) ∷ names_from c (length (laid xs) + n) ys)
      (names_from c (length (laid xs) + n) ys)) same

  pub names_same : block_has c d ≡ block_has c b → names_from c 0 (xs ++ (d ∷ ys)) ≡ names_from c 0 (xs ++ (b ∷ ys))
  names_same e =
      split d sized
      ∙ ap (λ (t : Bool). names_from c 0 xs ++ cond t (length (laid xs) ∷ after) after) e
      ∙ sym (split b refl)

  pub names_fewer : block_has c d ≡ false → names_from c 0 (xs ++ (d ∷ ys)) ≡ without (length (laid xs)) (names_from c 0 (xs ++ (b ∷ ys)))
  names_fewer e =
      split d sized
      ∙ ap (λ (t : Bool). names_from c 0 xs ++ cond t (length (laid xs) ∷ after) after) e
      ∙ sym (ap (without (length (laid xs))) (split b refl) ∙ without_past (length (laid xs)) (names_from c 0 xs)
      (cond (block_has c b) (length (laid xs) ∷ after) after) (names_below c 0 (length (laid xs)) xs (omega arith)) ∙ ap
      (λ (l : List ℕ). names_from c 0 xs ++ l) (go (block_has c b)))
    where
      go : (t : Bool) → without (length (laid xs)) (cond t (length (laid xs) ∷ after) after) ≡ after
      go true = rw (eq-eqb (length (laid xs)) (length (laid xs)) refl)
      go false = without_none (length (laid xs)) after (names_above c (length (laid xs) + length (whole b)) (length (laid xs) + 1) ys
          (let w = whole_some b in omega arith))

-- ---- where clauses begin

-- The block that stands at place s.
pub record Split (s : ℕ) (bs : List Block) : Type 0 where
  pub before : List Block
  pub block : Block
  pub behind : List Block
  pub is : bs ≡ before ++ (block ∷ behind)
  pub here : s ≡ length (laid before)

module _ (close : ℕ) (r : List ℕ) where
  within : (es : List ℕ) → Every Entry es → (k : ℕ) → k < length es → ends (get_or ((es ++ (close ∷ [])) ++ r) k 1) ≡ false
  within [] all k h = absurd (omega arith)
  within (x ∷ es) all zero h = entry_goes_on x all.0
  within (x ∷ es) all (suc k) h = within es all.1 k (omega arith)

block_within : (r : List ℕ) (b : Block) → Fine b → (k : ℕ) → k + 1 < length (whole b) → ends (get_or (whole b ++ r) k 1) ≡ false
block_within r (standing es) f k h = within 0 r es f k (let l = length-append es (0 ∷ []) in omega arith)
block_within r (gone es) f k h = within 512 r es (entries_of (gone es) f) k (let l = length-append es (512 ∷ []) in omega arith)

begins_behind : (w r : List ℕ) (close : ℕ) → ends close ≡ true → (k : ℕ) → begins ((w ++ (close ∷ [])) ++ r) (length (w ++ (close ∷ [])) + k) ≡ begins r k
begins_behind w r close closes zero = at (length w) (let l = length-append w (close ∷ []) in let e : length (w ++ (close ∷ [])) + 0 ≡ suc (length w) = omega
    arith in e)
  where
    last : (w : List ℕ) → get_or ((w ++ (close ∷ [])) ++ r) (length w) 1 ≡ close
    last [] = refl
    last (x ∷ w) = last w

    at : (n : ℕ) → length (w ++ (close ∷ [])) + 0 ≡ suc (length w) → begins ((w ++ (close ∷ [])) ++ r) (length (w ++ (close ∷ [])) + 0) ≡ true
    at n e = ap (begins ((w ++ (close ∷ [])) ++ r)) e ∙ ap ends (last w) ∙ closes
begins_behind w r close closes (suc k) =
    ap (begins ((w ++ (close ∷ [])) ++ r)) (let e : length (w ++ (close ∷ [])) + suc k ≡ suc (length (w ++ (close ∷ [])) + k) = omega arith in e)
    ∙ ap ends (past (w ++ (close ∷ [])))
  where
    past : (w : List ℕ) → get_or (w ++ r) (length w + k) 1 ≡ get_or r k 1
    past [] = ap (λ (n : ℕ). get_or r n 1) (let e : 0 + k ≡ k = omega arith in e)
    past (x ∷ w) = ap (λ (n : ℕ). get_or (x ∷ (w ++ r)) n 1) (let e : suc (length w) + k ≡ suc (length w + k) = omega arith in e) ∙ past w

block_behind : (r : List ℕ) (b : Block) (k : ℕ) → begins (whole b ++ r) (length (whole b) + k) ≡ begins r k
block_behind r (standing es) k = begins_behind es r 0 refl k
block_behind r (gone es) k = begins_behind es r 512 refl k

pub splits : (bs : List Block) → Every Fine bs → (s : ℕ) → s < length (laid bs) → begins (laid bs) s ≡ true → Split s bs
splits [] f s inside first = absurd (omega arith)
splits (b ∷ bs) f zero inside first = record { before = []; block = b; behind = bs; is = refl; here = refl }
splits (b ∷ bs) f (suc k) inside first = go (ltb (k + 1) (length (whole b))) refl (λ s. splits bs f.1 s)
  where
    go : (t : Bool) → ltb (k + 1) (length (whole b)) ≡ t → ((s : ℕ) → s < length (laid bs) → begins (laid bs) s ≡ true → Split s bs) → Split (suc k) (b ∷ bs)
    go true e later = absurd (let z : true ≡ false = sym first ∙ block_within (laid bs) b f.0 k (ltb-true (k + 1) (length (whole b)) e) in true≢false z)
    go false e later =
        let far = ltb-false (k + 1) (length (whole b)) e in
        let l = length-append (whole b) (laid bs) in
        let m : suc k ≡ length (whole b) + (suc k - length (whole b)) = omega arith in
        let s = later (suc k - length (whole b)) (omega arith) (sym (block_behind (laid bs) b (suc k - length (whole b))) ∙ ap (begins (whole b ++ laid bs))
        (sym m) ∙ first) in
        record {
          before = b ∷ s.before;
          block = s.block;
          behind = s.behind;
          is = ap (λ (l : List Block). b ∷ l) s.is;
          here = m ∙ ap (λ (n : ℕ). length (whole b) + n) s.here ∙ sym (length-append (whole b) (laid s.before));
        }

pub begins_at : (xs : List Block) (r : List ℕ) → begins (laid xs ++ r) (length (laid xs)) ≡ true
begins_at [] r = refl
begins_at (b ∷ xs) r =
    ap₂ begins (append_assoc (whole b) (laid xs) r) (length-append (whole b) (laid xs))
    ∙ block_behind (laid xs ++ r) b (length (laid xs))
    ∙ begins_at xs r
