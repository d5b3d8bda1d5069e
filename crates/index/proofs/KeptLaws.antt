-- The index through what is dropped: a clause that loses entries loses its name in the lists of the codes that it no longer has, and a
-- code that is dropped everywhere loses its list. Each time it is the index of what is left.
-- Assumes nothing.
use Prim.Native.Nat.{ℕ, zero, suc, ◌+◌, ◌%◌, ◌≤◌, ◌<◌}
use native.Mathlib.Omega.{arith}
use native.Mathlib.Decide.{dec_lt}
use native.Mathlib.Nat.{add-zero}
use mathlib.Core.Path.{◌≡◌, refl, sym, ap, ap₂, ◌∙◌, subst}
use mathlib.Core.Logic.{◌⊎◌, inl, inr}
use mathlib.Core.Bool.{Bool, true, false, ◌&&◌, ◌||◌, cond, true≢false, or-true}
use mathlib.Core.List.{List, [], ◌∷◌, ◌++◌, map}
use borrow.Author.Tests.{eqb-true, eqb-false, eq-eqb, ne_eqb, lt-ltb, le-ltb, leb-true, le-leb}
use lib.Dec.{eqb, leb}
use lib.ListN.{length, length-append, length-map}
use Rattle.formula.specs.Formula.{max_entries}
use Rattle.trimming_marks.specs.Marks.{is_left, ends, marked}
use Rattle.index.specs.Occurrences.{whole_clause, listed_under, has_left, listed_from, listed, In}
use Rattle.index.specs.Index.{code_count, index_size, tally, index_of, list_of, has_list, with_list, without, removed, cleared}
use Rattle.index.specs.Private.Passes.{LaidOut}
use Rattle.index.proofs.OccurrenceLaws.{listed_exact, listed_low}
use Rattle.index.proofs.LayoutLaws.{Fitting, laid_has, laid_list, laid_with}
use Rattle.index.proofs.TallyLaws.{listed_fits}
use Rattle.index.proofs.IndexLaws.{index_laid, index_is, laid_sizes, laid_names, sizes, few_after, without_few, index_cleared}

-- ---- clause by clause

-- A clause begins behind these entries; `front`: one begins with them.
abbrev pub begins_after : Bool → List ℕ → Bool
begins_after front [] = front
begins_after front (x ∷ xs) = begins_after (ends x) xs

-- A clause and its end.
abbrev pub Whole : List ℕ → Type 0
Whole [] = ⊥
Whole (x ∷ xs) = ((ends x ≡ true) × (xs ≡ [])) ⊎ ((ends x ≡ false) × Whole xs)

whole_front : (x : ℕ) (pre rest : List ℕ) → begins_after (ends x) pre ≡ true → whole_clause (x ∷ (pre ++ rest)) ≡ whole_clause (x ∷ pre)
whole_front x [] rest h = rw h refl
whole_front x (y ∷ pre) rest h = ap (λ (l : List ℕ). x ∷ cond (ends x) [] l) (whole_front y pre rest h)

-- The lists of the clauses in front, and of those behind them.
pub listed_append : (c : ℕ) (front : Bool) (e : ℕ) (pre rest : List ℕ) → begins_after front pre ≡ true
    → listed_from c front e (pre ++ rest) ≡ listed_from c front e pre ++ listed_from c true (e + length pre) rest
listed_append c front e [] rest h = ap₂ (λ (b : Bool) (n : ℕ). listed_from c b n rest) h (sym (add-zero e))
listed_append c front e (x ∷ pre) rest h =
    ap (λ (l : List ℕ). cond (front && has_left c l) (e ∷ listed_from c (ends x) (e + 1) (pre ++ rest)) (listed_from c (ends x) (e + 1) (pre ++ rest)))
    (whole_front x pre rest h)
    ∙ (go (front && has_left c (whole_clause (x ∷ pre)))
    (listed_append c (ends x) (e + 1) pre rest h
    ∙ ap (λ (n : ℕ). listed_from c (ends x) (e + 1) pre ++ listed_from c true n rest) (let on : e + 1 + length pre ≡ e + suc (length pre) = omega arith in on)))
  where
    go : (t : Bool) → listed_from c (ends x) (e + 1) (pre ++ rest) ≡ listed_from c (ends x) (e + 1) pre ++ listed_from c true (e + suc (length pre)) rest
        → cond t (e ∷ listed_from c (ends x) (e + 1) (pre ++ rest)) (listed_from c (ends x) (e + 1) (pre ++ rest))
        ≡ cond t (e ∷ listed_from c (ends x) (e + 1) pre) (listed_from c (ends x) (e + 1) pre) ++ listed_from c true (e + suc (length pre)) rest
    go true later = ap (λ (l : List ℕ). e ∷ l) later
    go false later = later

whole_of : (k post : List ℕ) → Whole k → whole_clause (k ++ post) ≡ k
whole_of [] post w = absurd w
whole_of (x ∷ xs) post (inl w) = rw w.0 (ap (λ (l : List ℕ). x ∷ l) (sym w.1))
whole_of (x ∷ xs) post (inr w) = rw w.0 (ap (λ (l : List ℕ). x ∷ l) (whole_of xs post w.1))

-- Inside a clause no other begins.
past_clause : (c e : ℕ) (k post : List ℕ) → Whole k → listed_from c false e (k ++ post) ≡ listed_from c true (e + length k) post
past_clause c e [] post w = absurd w
past_clause c e (x ∷ xs) post (inl w) =
    rw w.0 (ap (λ (l : List ℕ). listed_from c true (e + 1) (l ++ post)) w.1
    ∙ ap (λ (n : ℕ). listed_from c true n post) (let on : e + 1 ≡ e + suc (length xs) = omega (arith, ap length w.1) in on))
past_clause c e (x ∷ xs) post (inr w) =
    rw w.0 (past_clause c (e + 1) xs post w.1 ∙ ap (λ (n : ℕ). listed_from c true n post) (let on : e + 1 + length xs ≡ e + suc (length xs) = omega arith
    in on))

front_clause : (c e : ℕ) (k post : List ℕ) → Whole k
    → listed_from c true e (k ++ post) ≡ cond (has_left c k) (e ∷ listed_from c true (e + length k) post) (listed_from c true (e + length k) post)
front_clause c e [] post w = absurd w
front_clause c e (x ∷ xs) post w =
    ap (λ (l : List ℕ). cond (has_left c l) (e ∷ listed_from c false e ((x ∷ xs) ++ post)) (listed_from c false e ((x ∷ xs) ++ post)))
    (whole_of (x ∷ xs) post w)
    ∙ ap (λ (l : List ℕ). cond (has_left c (x ∷ xs)) (e ∷ l) l) (past_clause c e (x ∷ xs) post w)

-- ---- one clause

without_absent : (s : ℕ) (l m : List ℕ) → ((x : ℕ) → In x l → x < s) → without s (l ++ m) ≡ l ++ without s m
without_absent s [] m low = refl
without_absent s (x ∷ l) m low =
    rw (ne_eqb s x (λ e. let h = low x (inl refl) in omega arith)) (ap (λ (r : List ℕ). x ∷ r) (without_absent s l m (λ y i. low y (inr i))))

without_above : (s : ℕ) (l : List ℕ) → ((x : ℕ) → In x l → s < x) → without s l ≡ l
without_above s [] high = refl
without_above s (x ∷ l) high =
    rw (ne_eqb s x (λ e. let h = high x (inl refl) in omega arith)) (ap (λ (r : List ℕ). x ∷ r) (without_above s l (λ y i. high y (inr i))))

-- The table, with one of its clauses set apart.
module _ (pre post : List ℕ) (closed : begins_after true pre ≡ true) where
  abbrev around : List ℕ → List ℕ
  around k = pre ++ (k ++ post)

  abbrev before : ℕ → List ℕ
  before c = listed c pre

  abbrev behind : ℕ → ℕ → List ℕ
  behind c n = listed_from c true (length pre + n) post

  -- What is listed: in front of the clause, the clause, and behind it.
  pub listed_clause : (c : ℕ) (k : List ℕ) → Whole k →
      listed c (around k) ≡ before c ++ cond (has_left c k) (length pre ∷ behind c (length k)) (behind c (length k))
  listed_clause c k w =
      listed_append c true 0 pre (k ++ post) closed
      ∙ ap (λ (n : ℕ). before c ++ listed_from c true n (k ++ post)) (let z : 0 + length pre ≡ length pre = omega arith in z)
      ∙ ap (λ (l : List ℕ). before c ++ l) (front_clause c (length pre) k post w)

  -- The clause is another one, as long, that has the code still, or had not ..
  pub clause_kept : (c : ℕ) (k k' : List ℕ) → Whole k → Whole k' → length k' ≡ length k → has_left c k' ≡ has_left c k →
      listed c (around k') ≡ listed c (around k)
  clause_kept c k k' w w' long same =
      listed_clause c k' w'
      ∙ ap₂ (λ (b : Bool) (n : ℕ). before c ++ cond b (length pre ∷ behind c n) (behind c n)) same long
      ∙ sym (listed_clause c k w)

  names_before : (c x : ℕ) → In x (before c) → x < length pre
  names_before c x m = ((listed_exact pre c).sound x m).inside

  -- .. or has it no longer.
  pub clause_lost : (c : ℕ) (k k' : List ℕ) → Whole k → Whole k' → length k' ≡ length k → has_left c k ≡ true → has_left c k' ≡ false
      → listed c (around k') ≡ without (length pre) (listed c (around k))
  clause_lost c k k' w w' long had lost =
      listed_clause c k' w'
      ∙ ap₂ (λ (b : Bool) (n : ℕ). before c ++ cond b (length pre ∷ behind c n) (behind c n)) lost long
      ∙ sym (ap (without (length pre)) (listed_clause c k w ∙ ap (λ (b : Bool). before c ++ cond b (length pre ∷ behind c (length k)) (behind c (length k)))
      had)
      ∙ without_absent (length pre) (before c) (length pre ∷ behind c (length k)) (names_before c)
      ∙ ap (λ (b : Bool). before c ++ cond b (behind c (length k)) (length pre ∷ without (length pre) (behind c (length k))))
      (eq-eqb (length pre) (length pre) refl))

-- ---- names taken out of the lists of some codes

-- The name s out of the list of each of these entries' codes.
abbrev pub names_removed : List ℕ → ℕ → List ℕ → List ℕ
names_removed index s [] = index
names_removed index s (x ∷ xs) = names_removed (removed index (listed_under x) s) s xs

pub no_list : (index : List ℕ) (c s : ℕ) → code_count ≤ c → removed index c s ≡ index
unfolding removed has_list
no_list index c s h =
    rw (le-ltb c code_count h) (go (eqb (length index) index_size))
  where
    go : (a : Bool) → cond (a && false) (with_list index c (without s (list_of index c))) index ≡ index
    go true = refl
    go false = refl

-- One name out of one list.
module _ (size : ℕ → ℕ) (names : ℕ → List ℕ) (fit : Fitting size names) (index : List ℕ) (laid : LaidOut size names index) (c s : ℕ) where
  abbrev fewer : ℕ → List ℕ
  fewer d = cond (eqb d c) (without s (names d)) (names d)

  fewer_fits : Fitting size fewer
  fewer_fits = record { short = λ d h. go d h (eqb d c); room = fit.room }
    where
      go : (d : ℕ) → d < code_count → (b : Bool) → length (cond b (without s (names d)) (names d)) ≤ size d
      go d h true = let a = without_few s (names d) in let b = fit.short d h in omega arith
      go d h false = fit.short d h

  fewer_laid : c < code_count → LaidOut size fewer (removed index c s)
  unfolding removed
  fewer_laid small =
      subst (λ (t : List ℕ). LaidOut size fewer t)
      (sym (ap (λ (v : Bool). cond v (with_list index c (without s (list_of index c))) index) (laid_has size names fit index laid c small)
      ∙ ap (λ (l : List ℕ). with_list index c (without s l)) (laid_list size names fit index laid c small)))
      (laid_with size names fit index laid c small fewer (without s (names c)) (without_few s (names c))
      (ap (λ (b : Bool). cond b (without s (names c)) (names c)) (eq-eqb c c refl))
      (λ d h other. ap (λ (b : Bool). cond b (without s (names d)) (names d)) (ne_eqb d c other)))

-- What the lists come to.
pub record Out (s : ℕ) (xs : List ℕ) (names final : ℕ → List ℕ) : Type 0 where
  pub lost : (d : ℕ) → d < code_count → has_left d xs ≡ true → final d ≡ without s (names d)
  pub kept : (d : ℕ) → d < code_count → has_left d xs ≡ false → final d ≡ names d
  pub gone : (d : ℕ) → d < code_count → has_left d xs ≡ true → without s (final d) ≡ final d

out_next : (s x : ℕ) (xs : List ℕ) (names final : ℕ → List ℕ) → Out s (x ∷ xs) names final →
    Out s xs (λ d. cond (eqb d (listed_under x)) (without s (names d)) (names d)) final
out_next s x xs names final o =
    record {
      lost = λ d h has. lost_by d h has (eqb d (listed_under x)) refl;
      kept = λ d h has. kept_by d h has (eqb d (listed_under x)) refl;
      gone = λ d h has. o.gone d h (behind_front d has (eqb d (listed_under x)));
    }
  where
    behind_front : (d : ℕ) → has_left d xs ≡ true → (b : Bool) → (b || has_left d xs) ≡ true
    behind_front d has true = refl
    behind_front d has false = has

    lost_by : (d : ℕ) → d < code_count → has_left d xs ≡ true → (b : Bool) → eqb d (listed_under x) ≡ b →
        final d ≡ without s (cond b (without s (names d)) (names d))
    lost_by d h has true e =
        let first = o.lost d h (ap (λ (b : Bool). b || has_left d xs) e) in
        sym (o.gone d h (ap (λ (b : Bool). b || has_left d xs) e)) ∙ ap (without s) first
    lost_by d h has false e = o.lost d h (ap (λ (b : Bool). b || has_left d xs) e ∙ has)

    kept_by : (d : ℕ) → d < code_count → has_left d xs ≡ false → (b : Bool) → eqb d (listed_under x) ≡ b → final d ≡ cond b (without s (names d)) (names d)
    kept_by d h has true e = o.lost d h (ap (λ (b : Bool). b || has_left d xs) e)
    kept_by d h has false e = o.kept d h (ap (λ (b : Bool). b || has_left d xs) e ∙ has)

-- An entry whose code has no list is passed.
out_past : (s x : ℕ) (xs : List ℕ) (names final : ℕ → List ℕ) → code_count ≤ listed_under x → Out s (x ∷ xs) names final → Out s xs names final
out_past s x xs names final above o =
    record {
      lost = λ d h has. o.lost d h (skip d h ∙ has);
      kept = λ d h has. o.kept d h (skip d h ∙ has);
      gone = λ d h has. o.gone d h (skip d h ∙ has);
    }
  where
    skip : (d : ℕ) → d < code_count → has_left d (x ∷ xs) ≡ has_left d xs
    skip d h = ap (λ (b : Bool). b || has_left d xs) (ne_eqb d (listed_under x) (λ e. omega arith))

pub removed_laid : (size : ℕ → ℕ) (names final : ℕ → List ℕ) (index : List ℕ) (s : ℕ) (xs : List ℕ) → Fitting size names → LaidOut size names index →
    Out s xs names final
    → LaidOut size final (names_removed index s xs)
removed_laid size names final index s [] fit laid o = laid_names size names final (λ d h. o.kept d h refl) index laid
removed_laid size names final index s (x ∷ xs) fit laid o = by_code (dec_lt (listed_under x) code_count)
    (λ small. removed_laid size (fewer size names fit index laid (listed_under x) s) final (removed index (listed_under x) s) s xs
    (fewer_fits size names fit index laid (listed_under x) s) (fewer_laid size names fit index laid (listed_under x) s small) (out_next s x xs names final o))
    (λ above. removed_laid size names final index s xs fit laid (out_past s x xs names final above o))
  where
    by_code : Dec (listed_under x < code_count) → (listed_under x < code_count → LaidOut size final (names_removed (removed index (listed_under x) s) s xs)) →
        (code_count ≤ listed_under x → LaidOut size final (names_removed index s xs))
        → LaidOut size final (names_removed (removed index (listed_under x) s) s xs)
    by_code (yes small) there past = there small
    by_code (no above) there past =
        let h : code_count ≤ listed_under x = omega arith in
        subst (λ (t : List ℕ). LaidOut size final (names_removed t s xs)) (sym (no_list index (listed_under x) s h)) (past h)

-- A clause k becomes k': it has lost the codes of xs, and keeps the others. Its name goes out of their lists.
module _ (pre post : List ℕ) (closed : begins_after true pre ≡ true) (k k' : List ℕ) (w : Whole k) (w' : Whole k')
    (few : length (pre ++ (k ++ post)) ≤ max_entries) (codes : map (λ x. x % 512) k' ≡ map (λ x. x % 512) k) where
  long : length k' ≡ length k
  long = sym (length-map k' (λ x. x % 512)) ∙ ap length codes ∙ length-map k (λ x. x % 512)

  long_table : length (pre ++ (k' ++ post)) ≡ length (pre ++ (k ++ post))
  long_table =
      let a = length-append pre (k' ++ post) in
      let b = length-append pre (k ++ post) in
      let p = length-append k' post in
      let q = length-append k post in
      let l = long in
      omega arith

  map_over : (l m : List ℕ) → map (λ x. x % 512) (l ++ m) ≡ map (λ x. x % 512) l ++ map (λ x. x % 512) m
  map_over [] m = refl
  map_over (x ∷ l) m = ap (λ (r : List ℕ). (x % 512) ∷ r) (map_over l m)

  codes_table : map (λ x. x % 512) (pre ++ (k' ++ post)) ≡ map (λ x. x % 512) (pre ++ (k ++ post))
  codes_table =
      map_over pre (k' ++ post)
      ∙ ap (λ (l : List ℕ). map (λ x. x % 512) pre ++ l) (map_over k' post ∙ ap (λ (l : List ℕ). l ++ map (λ x. x % 512) post) codes ∙ sym (map_over k post))
      ∙ sym (map_over pre (k ++ post))

  pub entries_dropped : (xs : List ℕ) → ((d : ℕ) → d < code_count → has_left d xs ≡ true → has_left d k' ≡ false) →
      ((d : ℕ) → d < code_count → has_left d xs ≡ false → has_left d k' ≡ has_left d k)
      → index_of (pre ++ (k' ++ post)) ≡ names_removed (index_of (pre ++ (k ++ post))) (length pre) xs
  entries_dropped xs lost kept =
      sym (index_is (pre ++ (k' ++ post)) (few_after (pre ++ (k ++ post)) (pre ++ (k' ++ post)) few long_table codes_table)
      (names_removed (index_of (pre ++ (k ++ post))) (length pre) xs)
      (laid_sizes (λ c. tally c (pre ++ (k ++ post))) (λ c. tally c (pre ++ (k' ++ post))) (sizes (pre ++ (k ++ post)) (pre ++ (k' ++ post)) few long_table
      codes_table) (λ c. listed c (pre ++ (k' ++ post)))
      (names_removed (index_of (pre ++ (k ++ post))) (length pre) xs)
      (removed_laid (λ c. tally c (pre ++ (k ++ post))) (λ c. listed c (pre ++ (k ++ post))) (λ c. listed c (pre ++ (k' ++ post)))
      (index_of (pre ++ (k ++ post))) (length pre) xs
      (listed_fits (pre ++ (k ++ post)) few) (index_laid (pre ++ (k ++ post)) few) out)))
    where
      not_empty : (l : List ℕ) → Whole l → 1 ≤ length l
      not_empty [] q = absurd q
      not_empty (x ∷ l) q = omega arith

      above : (d x : ℕ) → In x (behind pre post closed d (length k')) → length pre < x
      above d x m = let h = listed_low d true (length pre + length k') post x m in let n = not_empty k' w' in omega arith

      -- the clause has not the code: its name is in no list of it
      not_named : (d : ℕ) → has_left d k' ≡ false → without (length pre) (listed d (pre ++ (k' ++ post))) ≡ listed d (pre ++ (k' ++ post))
      not_named d none =
          let parts = listed_clause pre post closed d k' w' ∙ ap
          (λ (b : Bool). before pre post closed d ++ cond b (length pre ∷ behind pre post closed d (length k')) (behind pre post closed d (length k'))) none
          in
          ap (without (length pre)) parts
          ∙ without_absent (length pre) (before pre post closed d) (behind pre post closed d (length k')) (names_before pre post closed d)
          ∙ ap (λ (l : List ℕ). before pre post closed d ++ l) (without_above (length pre) (behind pre post closed d (length k')) (above d))
          ∙ sym parts

      lost_by : (d : ℕ) → d < code_count → has_left d xs ≡ true → (b : Bool) → has_left d k ≡ b →
          listed d (pre ++ (k' ++ post)) ≡ without (length pre) (listed d (pre ++ (k ++ post)))
      lost_by d h has true e = clause_lost pre post closed d k k' w w' long e (lost d h has)
      lost_by d h has false e =
          let same = clause_kept pre post closed d k k' w w' long (lost d h has ∙ sym e) in
          sym (not_named d (lost d h has)) ∙ ap (without (length pre)) same

      out : Out (length pre) xs (λ c. listed c (pre ++ (k ++ post))) (λ c. listed c (pre ++ (k' ++ post)))
      out =
          record {
            lost = λ d h has. lost_by d h has (has_left d k) refl;
            kept = λ d h has. clause_kept pre post closed d k k' w w' long (kept d h has);
            gone = λ d h has. not_named d (lost d h has);
          }

-- ---- one entry

-- An entry that is dropped is above every code that has a list.
dropped_above : (d x : ℕ) → d < code_count → eqb d (listed_under (x + 512)) ≡ false
dropped_above d x h = ne_eqb d (listed_under (x + 512)) (λ e. let a = above (x + 512) (omega arith) in omega arith)
  where
    above : (y : ℕ) → 512 ≤ y → 512 ≤ listed_under y
    above zero q = absurd (omega arith)
    above (suc y) q = q

has_append : (d : ℕ) (a b : List ℕ) → has_left d (a ++ b) ≡ (has_left d a || has_left d b)
has_append d [] b = refl
has_append d (x ∷ a) b = go (eqb d (listed_under x)) (has_append d a b)
  where
    go : (v : Bool) → has_left d (a ++ b) ≡ (has_left d a || has_left d b) → (v || has_left d (a ++ b)) ≡ ((v || has_left d a) || has_left d b)
    go true h = refl
    go false h = h

-- The entry x of a clause is dropped.
module _ (pre post : List ℕ) (closed : begins_after true pre ≡ true) (a b : List ℕ) (x : ℕ) (w : Whole (a ++ (x ∷ b)))
    (few : length (pre ++ ((a ++ (x ∷ b)) ++ post)) ≤ max_entries) (left : x < 512) where
  abbrev k₀ : List ℕ
  k₀ = a ++ (x ∷ b)

  abbrev k₁ : List ℕ
  k₁ = a ++ ((x + 512) ∷ b)

  code_same : (x + 512) % 512 ≡ x % 512
  code_same = omega arith

  same_codes : (l : List ℕ) → map (λ y. y % 512) (l ++ ((x + 512) ∷ b)) ≡ map (λ y. y % 512) (l ++ (x ∷ b))
  same_codes [] = ap (λ (n : ℕ). n ∷ map (λ y. y % 512) b) code_same
  same_codes (y ∷ l) = ap (λ (r : List ℕ). (y % 512) ∷ r) (same_codes l)

  still_whole : (l : List ℕ) → Whole (l ++ (x ∷ b)) → Whole (l ++ ((x + 512) ∷ b))
  still_whole [] (inl e) = inl (ap (λ (n : ℕ). eqb n 0) code_same ∙ e.0, e.1)
  still_whole [] (inr e) = inr (ap (λ (n : ℕ). eqb n 0) code_same ∙ e.0, e.1)
  still_whole (y ∷ l) (inl e) = absurd (not_nil l e.1)
    where
      not_nil : (m : List ℕ) → m ++ (x ∷ b) ≡ [] → ⊥
      not_nil m q = let n = ap length q ∙ refl in omega (arith, length-append m (x ∷ b))
  still_whole (y ∷ l) (inr e) = inr (e.0, still_whole l e.1)

  -- The lists of other codes stay.
  others : (d : ℕ) → d < code_count → (d ≡ listed_under x → ⊥) → has_left d k₁ ≡ has_left d k₀
  others d h other =
      has_append d a ((x + 512) ∷ b)
      ∙ ap (λ (v : Bool). has_left d a || (v || has_left d b)) (dropped_above d x h ∙ sym (ne_eqb d (listed_under x) other))
      ∙ sym (has_append d a (x ∷ b))

  had : has_left (listed_under x) k₀ ≡ true
  had =
      has_append (listed_under x) a (x ∷ b)
      ∙ ap (λ (v : Bool). has_left (listed_under x) a || (v || has_left (listed_under x) b)) (eq-eqb (listed_under x) (listed_under x) refl)
      ∙ or-true (has_left (listed_under x) a)

  -- The clause has the code again: nothing changes.
  pub entry_again : has_left (listed_under x) k₁ ≡ true → index_of (pre ++ (k₁ ++ post)) ≡ index_of (pre ++ (k₀ ++ post))
  entry_again again =
      entries_dropped pre post closed k₀ k₁ w (still_whole a w) few (same_codes a) [] (λ d h e. absurd (true≢false (sym e)))
      (λ d h e. by_code d h (eqb d (listed_under x)) refl)
    where
      by_code : (d : ℕ) → d < code_count → (v : Bool) → eqb d (listed_under x) ≡ v → has_left d k₁ ≡ has_left d k₀
      by_code d h true e = let same = eqb-true d (listed_under x) e in ap (λ (n : ℕ). has_left n k₁) same ∙ again ∙ sym
          (ap (λ (n : ℕ). has_left n k₀) same ∙ had)
      by_code d h false e = others d h (eqb-false d (listed_under x) e)

  -- It was the last of its code: the clause's name goes out of one list.
  pub entry_dropped : has_left (listed_under x) k₁ ≡ false →
      index_of (pre ++ (k₁ ++ post)) ≡ removed (index_of (pre ++ (k₀ ++ post))) (listed_under x) (length pre)
  entry_dropped last =
      entries_dropped pre post closed k₀ k₁ w (still_whole a w) few (same_codes a) (x ∷ []) (λ d h e. lost d h (eqb d (listed_under x)) refl e)
      (λ d h e. kept d h (eqb d (listed_under x)) refl e)
    where
      lost : (d : ℕ) → d < code_count → (v : Bool) → eqb d (listed_under x) ≡ v → (v || false) ≡ true → has_left d k₁ ≡ false
      lost d h true e t = ap (λ (n : ℕ). has_left n k₁) (eqb-true d (listed_under x) e) ∙ last
      lost d h false e t = absurd (true≢false (sym t))

      kept : (d : ℕ) → d < code_count → (v : Bool) → eqb d (listed_under x) ≡ v → (v || false) ≡ false → has_left d k₁ ≡ has_left d k₀
      kept d h true e t = absurd (true≢false t)
      kept d h false e t = others d h (eqb-false d (listed_under x) e)

-- ---- one code

-- Entries are rewritten one by one, ends to ends.
module _ (f : ℕ → ℕ) (stay : (x : ℕ) → ends (f x) ≡ ends x) (d : ℕ) where
  has_map : ((x : ℕ) → eqb d (listed_under (f x)) ≡ eqb d (listed_under x)) → (xs : List ℕ) →
      has_left d (whole_clause (map f xs)) ≡ has_left d (whole_clause xs)
  has_map same [] = refl
  has_map same (x ∷ xs) = ap₂ ◌||◌ (same x) (ap (λ (b : Bool). has_left d (cond b [] (whole_clause (map f xs)))) (stay x) ∙ go (ends x) (has_map same xs))
    where
      go : (b : Bool) → has_left d (whole_clause (map f xs)) ≡ has_left d (whole_clause xs) →
          has_left d (cond b [] (whole_clause (map f xs))) ≡ has_left d (cond b [] (whole_clause xs))
      go true h = refl
      go false h = h

  listed_map : ((x : ℕ) → eqb d (listed_under (f x)) ≡ eqb d (listed_under x)) → (front : Bool) (e : ℕ) (xs : List ℕ) →
      listed_from d front e (map f xs) ≡ listed_from d front e xs
  listed_map same front e [] = refl
  listed_map same front e (x ∷ xs) =
      ap₂ (λ (b : Bool) (r : List ℕ). cond (front && b) (e ∷ r) r) (has_map same (x ∷ xs)) (ap (λ (b : Bool). listed_from d b (e + 1) (map f xs)) (stay x) ∙
      listed_map same (ends x) (e + 1) xs)

  has_none : ((x : ℕ) → eqb d (listed_under (f x)) ≡ false) → (xs : List ℕ) → has_left d (whole_clause (map f xs)) ≡ false
  has_none none [] = refl
  has_none none (x ∷ xs) = ap₂ ◌||◌ (none x) (go (ends (f x)) (has_none none xs))
    where
      go : (b : Bool) → has_left d (whole_clause (map f xs)) ≡ false → has_left d (cond b [] (whole_clause (map f xs))) ≡ false
      go true h = refl
      go false h = h

  listed_none : ((x : ℕ) → eqb d (listed_under (f x)) ≡ false) → (front : Bool) (e : ℕ) (xs : List ℕ) → listed_from d front e (map f xs) ≡ []
  listed_none none front e [] = refl
  listed_none none front e (x ∷ xs) =
      ap₂ (λ (b : Bool) (r : List ℕ). cond (front && b) (e ∷ r) r) (has_none none (x ∷ xs)) (listed_none none (ends (f x)) (e + 1) xs) ∙ go front
    where
      go : (b : Bool) → cond (b && false) (e ∷ []) [] ≡ []
      go true = refl
      go false = refl

-- The code is dropped wherever it stands: its list is empty, and the others stay.
module _ (t : List ℕ) (few : length t ≤ max_entries) (c : ℕ) (two : 2 ≤ c) (small : c < code_count) where
  marked_by : (x : ℕ) (v : Bool) → eqb c x ≡ v → marked c c x ≡ cond v (x + 512) x
  unfolding marked
  marked_by x true e = let same = eqb-true c x e in rw (le-leb c x (omega arith), le-leb x c (omega arith), lt-ltb x 512 (omega arith)) refl
  marked_by x false e = go (leb c x) refl (leb x c) refl
    where
      go : (p : Bool) → leb c x ≡ p → (q : Bool) → leb x c ≡ q → cond (p && (q && is_left x)) (x + 512) x ≡ x
      go true p true q = absurd (eqb-false c x e (let s = leb-true c x p in let r = leb-true x c q in omega arith))
      go true p false q = refl
      go false p q r = refl

  marked_code : (x : ℕ) → marked c c x % 512 ≡ x % 512
  marked_code x = ap (λ (y : ℕ). y % 512) (marked_by x (eqb c x) refl) ∙ go (eqb c x)
    where
      go : (v : Bool) → cond v (x + 512) x % 512 ≡ x % 512
      go true = omega arith
      go false = refl

  marked_none : (x : ℕ) → eqb c (listed_under (marked c c x)) ≡ false
  marked_none x = ap (λ (y : ℕ). eqb c (listed_under y)) (marked_by x (eqb c x) refl) ∙ go (eqb c x) refl
    where
      other : (y : ℕ) → (c ≡ y → ⊥) → c ≡ listed_under y → ⊥
      other zero n e = omega arith
      other (suc y) n e = n e

      go : (v : Bool) → eqb c x ≡ v → eqb c (listed_under (cond v (x + 512) x)) ≡ false
      go true e = dropped_above c x small
      go false e = ne_eqb c (listed_under x) (other x (eqb-false c x e))

  marked_else : (d : ℕ) → d < code_count → (d ≡ c → ⊥) → (x : ℕ) → eqb d (listed_under (marked c c x)) ≡ eqb d (listed_under x)
  marked_else d h other x = ap (λ (y : ℕ). eqb d (listed_under y)) (marked_by x (eqb c x) refl) ∙ go (eqb c x) refl
    where
      code : (y : ℕ) → c ≡ y → listed_under y ≡ c
      code zero e = absurd (let q = two in omega arith)
      code (suc y) e = sym e

      go : (v : Bool) → eqb c x ≡ v → eqb d (listed_under (cond v (x + 512) x)) ≡ eqb d (listed_under x)
      go true e = dropped_above d x h ∙ sym (ne_eqb d (listed_under x) (λ q. other (q ∙ code x (eqb-true c x e))))
      go false e = refl

  marked_codes : (l : List ℕ) → map (λ x. x % 512) (map (marked c c) l) ≡ map (λ x. x % 512) l
  marked_codes [] = refl
  marked_codes (x ∷ l) = ap₂ ◌∷◌ (marked_code x) (marked_codes l)

  pub code_dropped : index_of (map (marked c c) t) ≡ cleared (index_of t) c
  code_dropped =
      index_cleared t (map (marked c c) t) few (length-map t (marked c c)) (marked_codes t) c small
      (λ d h other. listed_map (marked c c) (λ x. ap (λ (n : ℕ). eqb n 0) (marked_code x)) d (marked_else d h other) true 0 t)
      (listed_none (marked c c) (λ x. ap (λ (n : ℕ). eqb n 0) (marked_code x)) c marked_none true 0 t)
