-- The entries from a code on of one clause are dropped one by one, and the index with them.
-- Assumes nothing.
use Prim.Native.Nat.{ℕ, zero, suc, ◌+◌, ◌-◌, ◌≤◌, ◌<◌}
use native.Mathlib.Omega.{arith}
use mathlib.Core.Path.{◌≡◌, refl, sym, ◌∙◌, ap, ap₂, subst}
use mathlib.Core.Bool.{Bool, true, false, cond, ◌&&◌, true≢false}
use mathlib.Core.List.{List, [], ◌∷◌, ◌++◌, map, append_assoc, append-nil}
use borrow.Author.Tests.{eq-eqb, ne_eqb, eqb-true, eqb-false, ltb-true, lt-ltb}
use lib.Dec.{eqb, ltb, leb}
use Rattle.std.proofs.lemmas.Bool.{leb-true, leb-false}
use lib.ListN.{length, get_or, set, drop, length-append, length-set, replicate, length-replicate}
use lib.Seq.{take_at, drop_at, get_or-set_same, get_or-set_other}
use Rattle.codes.specs.Codes.{last_code}
use Rattle.trimming_rules.proofs.ClauseLaws.{Every}
use Rattle.trimming_marks.specs.Marks.{ends, marked, mark_clause, first_clause, first_length}
use Rattle.index.specs.Index.{code_count, index_of, removed}
use Rattle.trimming.specs.Private.Table.{Entry, Block, standing, whole, Fine, laid, marked_at, left_from, times, Dropping}
use Rattle.trimming.proofs.BlockLaws.{map_append, every_append, entry_goes_on, block_marked, block_length}
use Rattle.trimming.proofs.MarkLaws.{marked_stays, marked_goes}
use Rattle.trimming.proofs.ListedLaws.{block_has}
use Rattle.trimming.proofs.ChangeLaws.{around, same_index, removed_index, others_kept, own_gone, own_kept, one_codes, dropped_entry}

-- What a test of an entry says.
pub left_bounds : (low x : ℕ) → left_from low x ≡ true → (low ≤ x) × (x < 512)
left_bounds low x = by (leb low x) (ltb x 512) refl refl
  where
    by : (a b : Bool) → leb low x ≡ a → ltb x 512 ≡ b → (a && b) ≡ true → (low ≤ x) × (x < 512)
    by true true e f h = (leb-true low x e, ltb-true x 512 f)
    by true false e f h = absurd (true≢false (sym h))
    by false b e f h = absurd (true≢false (sym h))

pub not_left : (low x : ℕ) → left_from low x ≡ false → x < 512 → x < low
not_left low x = by (leb low x) refl
  where
    by : (a : Bool) → leb low x ≡ a → (a && ltb x 512) ≡ false → x < 512 → x < low
    by true e h small = absurd (true≢false (sym (lt-ltb x 512 small) ∙ h))
    by false e h small = leb-false low x e

get_or_behind : (l r : List ℕ) → get_or (l ++ r) (length l) 0 ≡ get_or r 0 0
get_or_behind [] r = refl
get_or_behind (x ∷ l) r = get_or_behind l r

pub set_middle : (l : List ℕ) (x v : ℕ) (r : List ℕ) → set (l ++ (x ∷ r)) (length l) v ≡ l ++ (v ∷ r)
set_middle [] x v r = refl
set_middle (y ∷ l) x v r = ap (λ (k : List ℕ). y ∷ k) (set_middle l x v r)

append_one : (p : List ℕ) (x : ℕ) (q : List ℕ) → (p ++ (x ∷ [])) ++ q ≡ p ++ (x ∷ q)
append_one p x q = append_assoc p (x ∷ []) q

-- A clause marked where it stands.
pub marked_around : (low high start : ℕ) (xs : List Block) (b : Block) (ys : List Block) → start ≡ length (laid xs) → Fine b
    → marked_at low high start (around xs b ys) ≡ laid xs ++ (map (marked low high) (whole b) ++ laid ys)
marked_around low high start xs b ys here fine =
    ap₂ ◌++◌ (take_at (laid xs) (whole b ++ laid ys) start (sym here))
    (ap (mark_clause low high) (drop_at (laid xs) (whole b ++ laid ys) start (sym here)) ∙ block_marked (laid ys) low high b fine)

marked_again : (low x : ℕ) → low ≤ x → x < 512 → marked low 511 (x + 512) ≡ marked low 511 x
marked_again low x from small = marked_stays low 511 (x + 512) (λ p q r. omega arith) ∙ sym (marked_goes low 511 x from (omega arith) small)

module _ {low start at : ℕ} {table index counts : List ℕ} (p : Dropping low start table index counts at) where
  abbrev front : List ℕ
  front = laid p.xs ++ p.pre

  shape : (post : List ℕ) → laid p.xs ++ (((p.pre ++ post) ++ (0 ∷ [])) ++ laid p.ys) ≡ front ++ (post ++ (0 ∷ laid p.ys))
  shape post =
      ap (λ (l : List ℕ). laid p.xs ++ l) (append_assoc (p.pre ++ post) (0 ∷ []) (laid p.ys) ∙ append_assoc p.pre post (0 ∷ laid p.ys))
      ∙ sym (append_assoc (laid p.xs) p.pre (post ++ (0 ∷ laid p.ys)))

  at_front : at ≡ length front
  at_front = p.place ∙ ap (λ (n : ℕ). n + length p.pre) p.here ∙ sym (length-append (laid p.xs) p.pre)

  looked : table ≡ front ++ (p.post ++ (0 ∷ laid p.ys))
  looked = p.is ∙ shape p.post

  read : get_or table at 0 ≡ get_or (p.post ++ (0 ∷ laid p.ys)) 0 0
  read = ap₂ (λ (t : List ℕ) (n : ℕ). get_or t n 0) looked at_front ∙ get_or_behind front (p.post ++ (0 ∷ laid p.ys))

  pub record More : Type 0 where
    pub rest : List ℕ
    pub splits : p.post ≡ get_or table at 0 ∷ rest
    pub entry : Entry (get_or table at 0)
    pub fine : Every Entry rest

  pub more : ends (get_or table at 0) ≡ false → More
  more on = go p.post refl p.fine_post
    where
      go : (l : List ℕ) → p.post ≡ l → Every Entry l → More
      go [] e f = absurd (true≢false (sym (ap ends (read ∙ ap (λ (l : List ℕ). get_or (l ++ (0 ∷ laid p.ys)) 0 0) e)) ∙ on))
      go (x ∷ l) e f =
          let r : get_or table at 0 ≡ x = read ∙ ap (λ (l : List ℕ). get_or (l ++ (0 ∷ laid p.ys)) 0 0) e in
          record { rest = l; splits = e ∙ ap (λ (y : ℕ). y ∷ l) (sym r); entry = subst Entry (sym r) f.0; fine = f.1 }

  pub none : ends (get_or table at 0) ≡ true → p.post ≡ []
  none off = go p.post refl p.fine_post
    where
      go : (l : List ℕ) → p.post ≡ l → Every Entry l → l ≡ []
      go [] e f = refl
      go (x ∷ l) e f =
          let r : get_or table at 0 ≡ x = read ∙ ap (λ (l : List ℕ). get_or (l ++ (0 ∷ laid p.ys)) 0 0) e in
          absurd (true≢false (sym off ∙ ap ends r ∙ entry_goes_on x f.0))

  module _ (on : ends (get_or table at 0) ≡ false) where
    abbrev m : More
    m = more on

    abbrev x : ℕ
    x = get_or table at 0

    around_x : table ≡ around p.xs (standing (p.pre ++ (x ∷ m.rest))) p.ys
    around_x = p.is ∙ ap (λ (l : List ℕ). laid p.xs ++ (((p.pre ++ l) ++ (0 ∷ [])) ++ laid p.ys)) m.splits

    next_place : (y : ℕ) → at + 1 ≡ start + length (p.pre ++ (y ∷ []))
    next_place y = let e = p.place in let l = length-append p.pre (y ∷ []) in omega arith

    times_other : (y : ℕ) → (y ≡ x → ⊥) → times y p.post ≡ times y m.rest
    times_other y other = ap (times y) m.splits ∙ ap (λ (b : Bool). cond b 1 0 + times y m.rest) (ne_eqb y x other) ∙
        (let e : 0 + times y m.rest ≡ times y m.rest = omega arith in e)

    times_own : times x p.post ≡ suc (times x m.rest)
    times_own = ap (times x) m.splits ∙ ap (λ (b : Bool). cond b 1 0 + times x m.rest) (eq-eqb x x refl) ∙
        (let e : 1 + times x m.rest ≡ suc (times x m.rest) = omega arith in e)

    -- The entry is passed.
    pub passes : (x < 512 → x < low) → Dropping low start table index counts (at + 1)
    passes low_or_gone =
        record {
          xs = p.xs;
          ys = p.ys;
          pre = p.pre ++ (x ∷ []);
          post = m.rest;
          is = around_x ∙ ap (λ (l : List ℕ). laid p.xs ++ ((l ++ (0 ∷ [])) ++ laid p.ys)) (sym (append_one p.pre x m.rest));
          here = p.here;
          place = next_place x;
          fine_xs = p.fine_xs;
          fine_ys = p.fine_ys;
          fine_pre = every_append Entry p.pre (x ∷ []) p.fine_pre (m.entry, tt);
          fine_post = m.fine;
          below = every_append (λ y. (y < 512 → y < low)) p.pre (x ∷ []) p.below (low_or_gone, tt);
          few = p.few;
          indexed = p.indexed;
          sized = p.sized;
          counted = λ y from small. p.counted y from small ∙ times_other y (λ e. let i = low_or_gone (omega arith) in omega arith);
        }

    -- The entry is dropped.
    module _ (from : low ≤ x) (small : x < 512) where
      code_small : x < last_code + 1
      code_small = let k = m.entry.known in omega arith

      abbrev after : List ℕ
      after = around p.xs (standing (p.pre ++ ((x + 512) ∷ m.rest))) p.ys

      written : set table at (x + 512) ≡ after
      written =
          ap₂ (λ (t : List ℕ) (n : ℕ). set t n (x + 512)) (looked ∙ ap (λ (l : List ℕ). front ++ (l ++ (0 ∷ laid p.ys))) m.splits) at_front
          ∙ set_middle front x (x + 512) (m.rest ++ (0 ∷ laid p.ys))
          ∙ sym (shape ((x + 512) ∷ m.rest))

      fine_after : Every Entry (p.pre ++ ((x + 512) ∷ m.rest))
      fine_after = every_append Entry p.pre ((x + 512) ∷ m.rest) p.fine_pre (dropped_entry p.pre m.rest x m.entry small, m.fine)

      fine_before : Every Entry (p.pre ++ (x ∷ m.rest))
      fine_before = every_append Entry p.pre (x ∷ m.rest) p.fine_pre (m.entry, m.fine)

      still_indexed : times x m.rest ≡ 0 → removed index x start ≡ index_of after
      still_indexed gone_all =
          ap₂ (λ (i : List ℕ) (s : ℕ). removed i x s) (p.indexed ∙ ap index_of around_x) p.here
          ∙ removed_index p.xs p.ys (standing (p.pre ++ (x ∷ m.rest))) (standing (p.pre ++ ((x + 512) ∷ m.rest)))
          (one_codes p.pre m.rest x m.entry small) p.fine_xs p.fine_ys fine_before fine_after x
          (let s = code_small in omega arith) (let f = p.few in let e = ap length around_x in omega arith)
          (others_kept p.pre m.rest x m.entry small)
          (own_gone p.pre m.rest x m.entry small low from p.fine_pre p.below m.fine gone_all)

      still_the_same : 0 < times x m.rest → index ≡ index_of after
      still_the_same again =
          p.indexed ∙ ap index_of around_x
          ∙ sym (same_index p.xs p.ys (standing (p.pre ++ (x ∷ m.rest))) (standing (p.pre ++ ((x + 512) ∷ m.rest)))
          (one_codes p.pre m.rest x m.entry small) p.fine_xs p.fine_ys fine_before fine_after
          (let f = p.few in let e = ap length around_x in omega arith)
          (λ c h. by c h (eqb c x) refl))
        where
          by : (c : ℕ) → c < code_count → (t : Bool) → eqb c x ≡ t →
              block_has c (standing (p.pre ++ ((x + 512) ∷ m.rest))) ≡ block_has c (standing (p.pre ++ (x ∷ m.rest)))
          by c h true e = subst (λ (k : ℕ). block_has k (standing (p.pre ++ ((x + 512) ∷ m.rest))) ≡ block_has k (standing (p.pre ++ (x ∷ m.rest))))
              (sym (eqb-true c x e)) (own_kept p.pre m.rest x m.entry small m.fine again)
          by c h false e = others_kept p.pre m.rest x m.entry small c h (eqb-false c x e)

      -- What becomes of the index, as it is told by how often the code stood there.
      abbrev pub forgotten : List ℕ
      forgotten = cond (eqb (get_or counts x 0) 1) (removed index x start) index

      forgotten_is : forgotten ≡ index_of after
      forgotten_is = go (eqb (get_or counts x 0) 1) refl
        where
          go : (t : Bool) → eqb (get_or counts x 0) 1 ≡ t → cond t (removed index x start) index ≡ index_of after
          go true e = still_indexed (let a = eqb-true (get_or counts x 0) 1 e in let b = p.counted x from code_small in let f = times_own in omega arith)
          go false e = still_the_same (let a = eqb-false (get_or counts x 0) 1 e in let b = p.counted x from code_small in let f = times_own in apart a b f)
            where
              apart : (get_or counts x 0 ≡ 1 → ⊥) → get_or counts x 0 ≡ times x p.post → times x p.post ≡ suc (times x m.rest) → 0 < times x m.rest
              apart never b f = omega arith

      pub drops : Dropping low start (set table at (x + 512)) forgotten (set counts x (get_or counts x 0 - 1)) (at + 1)
      drops =
          record {
            xs = p.xs;
            ys = p.ys;
            pre = p.pre ++ ((x + 512) ∷ []);
            post = m.rest;
            is = written ∙ ap (λ (l : List ℕ). laid p.xs ++ ((l ++ (0 ∷ [])) ++ laid p.ys)) (sym (append_one p.pre (x + 512) m.rest));
            here = p.here;
            place = next_place (x + 512);
            fine_xs = p.fine_xs;
            fine_ys = p.fine_ys;
            fine_pre = every_append Entry p.pre ((x + 512) ∷ []) p.fine_pre (dropped_entry p.pre m.rest x m.entry small, tt);
            fine_post = m.fine;
            below = every_append (λ y. (y < 512 → y < low)) p.pre ((x + 512) ∷ []) p.below ((λ h. omega arith), tt);
            few = let e = length-set table at (x + 512) in let f = p.few in omega arith;
            indexed = forgotten_is ∙ ap index_of (sym written);
            sized = length-set counts x (get_or counts x 0 - 1) ∙ p.sized;
            counted = λ y f s. fewer y f s (eqb y x) refl;
          }
        where
          fewer : (y : ℕ) → low ≤ y → y < last_code + 1 → (t : Bool) → eqb y x ≡ t → get_or (set counts x (get_or counts x 0 - 1)) y 0 ≡ times y m.rest
          fewer y f s true e =
              let same = eqb-true y x e in
              ap (λ (k : ℕ). get_or (set counts x (get_or counts x 0 - 1)) k 0) same
              ∙ get_or-set_same counts x (get_or counts x 0 - 1) 0 (let k = code_small in let z = p.sized in omega arith)
              ∙ (let b = p.counted x from code_small in let g = times_own in let z : get_or counts x 0 - 1 ≡ times x m.rest = omega arith in z)
              ∙ ap (λ (k : ℕ). times k m.rest) (sym same)
          fewer y f s false e =
              get_or-set_other counts x y (get_or counts x 0 - 1) 0 (eqb-false y x e)
              ∙ p.counted y f s
              ∙ times_other y (eqb-false y x e)

      pub marks_same : marked_at low 511 start (set table at (x + 512)) ≡ marked_at low 511 start table
      marks_same =
          ap (marked_at low 511 start) written
          ∙ marked_around low 511 start p.xs (standing (p.pre ++ ((x + 512) ∷ m.rest))) p.ys p.here fine_after
          ∙ ap (λ (l : List ℕ). laid p.xs ++ (l ++ laid p.ys))
          (parts (x + 512) ∙ ap (λ (y : ℕ). map (marked low 511) p.pre ++ (y ∷ map (marked low 511) (m.rest ++ (0 ∷ []))))
          (marked_again low x from small) ∙ sym (parts x))
          ∙ sym (marked_around low 511 start p.xs (standing (p.pre ++ (x ∷ m.rest))) p.ys p.here fine_before)
          ∙ ap (marked_at low 511 start) (sym around_x)
        where
          parts : (y : ℕ) → map (marked low 511) ((p.pre ++ (y ∷ m.rest)) ++ (0 ∷ [])) ≡ map (marked low 511) p.pre ++
              (marked low 511 y ∷ map (marked low 511) (m.rest ++ (0 ∷ [])))
          parts y = ap (map (marked low 511)) (append_assoc p.pre (y ∷ m.rest) (0 ∷ [])) ∙ map_append (marked low 511) p.pre (y ∷ (m.rest ++ (0 ∷ [])))

  -- All entries are looked at.
  stay : (l : List ℕ) → Every (λ y. (y < 512 → y < low)) l → map (marked low 511) l ≡ l
  stay [] below = refl
  stay (y ∷ l) below = ap₂ ◌∷◌ (marked_stays low 511 y (λ a b s. let h = below.0 s in omega arith)) (stay l below.1)

  pub all_dropped : 2 ≤ low → ends (get_or table at 0) ≡ true → marked_at low 511 start table ≡ table
  all_dropped two off =
      ap (marked_at low 511 start) is_pre
      ∙ marked_around low 511 start p.xs (standing p.pre) p.ys p.here p.fine_pre
      ∙ ap (λ (l : List ℕ). laid p.xs ++ (l ++ laid p.ys)) (map_append (marked low 511) p.pre (0 ∷ []) ∙ ap₂ ◌++◌ (stay p.pre p.below)
      (ap (λ (y : ℕ). y ∷ []) (marked_stays low 511 0 (λ a b s. omega arith))))
      ∙ sym is_pre
    where
      is_pre : table ≡ around p.xs (standing p.pre) p.ys
      is_pre = p.is ∙ ap (λ (l : List ℕ). laid p.xs ++ ((l ++ (0 ∷ [])) ++ laid p.ys))
          (ap (λ (l : List ℕ). p.pre ++ l) (none off) ∙ append-nil p.pre)

-- ---- how often a code stands in a clause

module _ (counts : List ℕ) (sized : length counts ≡ last_code + 1) (x : ℕ) where
  pub one_more : x < last_code + 1 → (y : ℕ) → y < last_code + 1 → get_or (set counts x (get_or counts x 0 + 1)) y 0 ≡ get_or counts y 0 + times y (x ∷ [])
  one_more small y below = go (eqb y x) refl
    where
      go : (t : Bool) → eqb y x ≡ t → get_or (set counts x (get_or counts x 0 + 1)) y 0 ≡ get_or counts y 0 + (cond t 1 0 + 0)
      go true e =
          let same = eqb-true y x e in
          ap (λ (k : ℕ). get_or (set counts x (get_or counts x 0 + 1)) k 0) same
          ∙ get_or-set_same counts x (get_or counts x 0 + 1) 0 (omega arith)
          ∙ ap (λ (k : ℕ). get_or counts k 0 + 1) (sym same)
      go false e = get_or-set_other counts x y (get_or counts x 0 + 1) 0 (eqb-false y x e) ∙ (let z : get_or counts y 0 ≡ get_or counts y 0 + (0 + 0) = omega
          arith in
          z)

  pub no_more : last_code + 1 ≤ x → (y : ℕ) → y < last_code + 1 → get_or counts y 0 ≡ get_or counts y 0 + times y (x ∷ [])
  no_more large y below = rw (ne_eqb y x (λ e. omega arith)) (omega arith)

get_or_zeros : (n y : ℕ) → ◌≡◌ {A = ℕ} (get_or (replicate n 0) y 0) 0
get_or_zeros zero y = refl
get_or_zeros (suc n) zero = refl
get_or_zeros (suc n) (suc y) = get_or_zeros n y

-- Counts that are made while a clause is walked over.
pub record Counting (table : List ℕ) (start : ℕ) (counts : List ℕ) (i : ℕ) : Type 0 where
  pub sized : length counts ≡ last_code + 1
  pub bounded : (y : ℕ) → get_or counts y 0 ≤ i
  pub so_far : (y : ℕ) → y < last_code + 1 → get_or counts y 0 + times y (first_clause (drop i table)) ≡ times y (first_clause (drop start table))

pub counting_begins : (table : List ℕ) (start : ℕ) (counts : List ℕ) → counts ≡ replicate (last_code + 1) 0 → Counting table start counts start
counting_begins table start counts e =
    record {
      sized = ap length e ∙ length-replicate {A = ℕ} (last_code + 1) 0;
      bounded = λ y. let z = zeros y in omega arith;
      so_far = λ y small. ap (λ (n : ℕ). n + times y (first_clause (drop start table))) (zeros y) ∙
          (let z : 0 + times y (first_clause (drop start table)) ≡ times y (first_clause (drop start table)) = omega arith in z);
    }
  where
    zeros : (y : ℕ) → get_or counts y 0 ≡ 0
    zeros y = ap (λ (l : List ℕ). get_or l y 0) e ∙ get_or_zeros (last_code + 1) y

-- The same under equal names.
pub moved_on : {low start at : ℕ} {table index counts index' counts' : List ℕ} → Dropping low start table index counts at → index' ≡ index → counts' ≡ counts →
    Dropping low start table index' counts' at
moved_on {low} {start} {at} {table} {index} {counts} {index'} {counts'} p ei ec = subst (λ (i : List ℕ). Dropping low start table i counts' at) (sym ei)
    (subst (λ (k : List ℕ). Dropping low start table index k at) (sym ec) p)

pub ends_here : {low start at : ℕ} {table index counts : List ℕ} → (p : Dropping low start table index counts at) → ends (get_or table at 0) ≡ true →
    at + 1 ≡ start + first_length (drop start table)
ends_here {low} {start} {at} {table} p off =
    let l = length-append (p.pre ++ p.post) (0 ∷ []) in
    let e = ap length (ap (λ (l : List ℕ). p.pre ++ l) (none p off) ∙ append-nil p.pre) in
    let f = p.place in
    let g : first_length (drop start table) ≡ length ((p.pre ++ p.post) ++ (0 ∷ [])) =
    ap (λ (t : List ℕ). first_length (drop start t)) p.is
    ∙ ap first_length (drop_at (laid p.xs) (((p.pre ++ p.post) ++ (0 ∷ [])) ++ laid p.ys) start (sym p.here))
    ∙ block_length (laid p.ys) (standing (p.pre ++ p.post)) (every_append Entry p.pre p.post p.fine_pre p.fine_post) in
    omega arith
