-- One list: a name found in it and taken out, and the list emptied. Assumes nothing.
use Prim.Native.Nat.{ℕ, zero, suc, ◌+◌, ◌-◌, ◌≤◌, ◌<◌}
use native.Mathlib.Numerals.{add-one}
use native.Mathlib.Nat.{add-zero}
use native.Mathlib.Omega.{arith}
use mathlib.Core.Path.{◌≡◌, refl, sym, ap, ap₂, ◌∙◌}
use mathlib.Core.Bool.{Bool, true, false, cond, ◌&&◌, and-eq-true_iff}
use mathlib.Core.List.{List, [], ◌∷◌, ◌++◌, append_assoc}
use lib.Dec.{eqb, leb, ltb}
use lib.ListN.{length, get_or, set, take, drop, replicate, length-append, length-drop, take-append-drop}
use lib.ListN.{drop_of_length-le}
use lib.Seq.{slice, slice_empty, slice-cons, length-slice, length-take-le, take_all, take-take, take-add, take-suc, drop-cons, drop_at, drop-drop}
use lib.Seq.{drop-append-le, set_at, set-get_or, get_or-append-add, append_snoc}
use borrow.Rule.Slice.PartMut.{mid_of, put_mid, Post-is}
use borrow.Author.Tests.{eqb-true, eq-eqb, ne_eqb, lt-ltb, le-ltb, ltb-true, leb-true, le-leb, lt-leb}
use Rattle.index.specs.Index.{code_count, first_room, index_size, begin_of, end_of, list_of, in_rooms, has_list, with_list, without, removed, cleared}
use Rattle.index.specs.Private.Passes.{blanked, before, Absent, closed_up}
use Rattle.index.proofs.LayoutLaws.{end_is}

-- ---- a name is looked for

module _ (t : List ℕ) (s at to : ℕ) (h : at < to) (inside : to ≤ length t) where
  before_cons : before s (slice at to t) ≡ cond (eqb s (get_or t at 0)) 0 (suc (before s (slice (suc at) to t)))
  before_cons = ap (before s) (slice-cons at to t 0 h inside)

  pub found_later : (get_or t at 0 ≡ s → ⊥) → at + before s (slice at to t) ≡ (at + 1) + before s (slice (at + 1) to t)
  found_later other =
      ap (λ (n : ℕ). at + n) (before_cons ∙ ap (λ (b : Bool). cond b 0 (suc (before s (slice (suc at) to t)))) (ne_eqb s (get_or t at 0) (λ e. other (sym e))))
      ∙ (let on : at + suc (before s (slice (suc at) to t)) ≡ at + 1 + before s (slice (suc at) to t) = omega arith in on)
      ∙ ap (λ (n : ℕ). at + 1 + before s (slice n to t)) (sym (add-one at))

-- Places are passed at which the name doesn't stand.
pub found_past : (t : List ℕ) (s to : ℕ) → to ≤ length t → (k at : ℕ) → at + k ≤ to → Absent t s at (at + k) →
    at + before s (slice at to t) ≡ at + k + before s (slice (at + k) to t)
found_past t s to inside zero at fits none = sym (ap (λ (n : ℕ). n + before s (slice n to t)) (add-zero at))
found_past t s to inside (suc k) at fits none =
    found_later t s at to (omega arith) inside (none at (omega arith) (omega arith))
    ∙ found_past t s to inside k (at + 1) (omega arith) (λ p low high. none p (omega arith) (omega arith))
    ∙ ap (λ (n : ℕ). n + before s (slice n to t)) (let on : at + 1 + k ≡ at + suc k = omega arith in on)

before_inside : (s : ℕ) (l : List ℕ) → before s l ≤ length l
before_inside s [] = omega arith
before_inside s (x ∷ l) = go (eqb s x) (before_inside s l)
  where
    go : (b : Bool) → before s l ≤ length l → cond b 0 (suc (before s l)) ≤ suc (length l)
    go true later = omega arith
    go false later = omega arith

pub found_inside : (t : List ℕ) (s from to : ℕ) → from ≤ to → to ≤ length t → from + before s (slice from to t) ≤ to
found_inside t s from to order inside = omega (arith, before_inside s (slice from to t), length-slice from to t inside)

-- ---- places closed up

-- What stands behind the first place, up to i, is one place up.
unfoldable pub shifted : List ℕ → ℕ → List ℕ
shifted t i = slice 1 i t ++ drop (i - 1) t

pub none_shifted : (t : List ℕ) → t ≡ shifted t 1
unfolding shifted
none_shifted t = sym (ap (λ (l : List ℕ). l ++ t) (slice_empty 1 t))

module _ (t : List ℕ) (i : ℕ) (some : 0 < i) where
  module _ (inside : i ≤ length t) where
    front_length : length (slice 1 i t) ≡ i - 1
    front_length = length-slice 1 i t inside

    split : shifted t i ≡ slice 1 i t ++ (get_or t (i - 1) 0 ∷ drop i t)
    unfolding shifted
    split =
        ap (λ (l : List ℕ). slice 1 i t ++ l)
        (drop-cons t (i - 1) 0 (omega arith)
        ∙ ap (λ (n : ℕ). get_or t (i - 1) 0 ∷ drop n t) (let on : suc (i - 1) ≡ i = omega arith in on))

    pub put : (v : ℕ) → set (shifted t i) (i - 1) v ≡ slice 1 i t ++ (v ∷ drop i t)
    put v = ap (λ (l : List ℕ). set l (i - 1) v) split ∙ set_at (slice 1 i t) (get_or t (i - 1) 0) (drop i t) v (i - 1) front_length

  module _ (more : i < length t) where
    pub read_shifted : get_or (shifted t i) i 0 ≡ get_or t i 0
    read_shifted =
        ap (λ (l : List ℕ). get_or l i 0) (split (omega arith))
        ∙ ap (λ (n : ℕ). get_or (slice 1 i t ++ (get_or t (i - 1) 0 ∷ drop i t)) n 0)
        (let there : i ≡ length (slice 1 i t) + 1 = omega (arith, front_length (omega arith)) in there)
        ∙ get_or-append-add (slice 1 i t) (get_or t (i - 1) 0 ∷ drop i t) 1 0
        ∙ ap (λ (l : List ℕ). get_or l 0 0) (drop-cons t i 0 more)

    pub one_shifted : set (shifted t i) (i - 1) (get_or t i 0) ≡ shifted t (i + 1)
    unfolding shifted
    one_shifted =
        put (omega arith) (get_or t i 0)
        ∙ sym (append_snoc (slice 1 i t) (get_or t i 0) (drop i t))
        ∙ ap₂ (λ (l : List ℕ) (n : ℕ). l ++ drop n t) (sym longer) (let back : i ≡ i + 1 - 1 = omega arith in back)
      where
        longer : slice 1 (i + 1) t ≡ slice 1 i t ++ (get_or t i 0 ∷ [])
        longer =
            ap (λ (n : ℕ). drop 1 (take n t)) (add-one i)
            ∙ ap (drop 1) (take-suc t i 0 more)
            ∙ drop-append-le 1 (take i t) (get_or t i 0 ∷ []) (omega (arith, length-take-le i t (omega arith)))

pub last_blank : (t : List ℕ) → 0 < length t → set (shifted t (length t)) (length t - 1) 0 ≡ closed_up t
last_blank t some =
    put t (length t) some (omega arith) 0
    ∙ ap₂ (λ (l m : List ℕ). l ++ (0 ∷ m)) (ap (drop 1) (take_all (length t) t (omega arith))) (drop_of_length-le t {i = length t} (omega arith))

-- A part of a table that is lent.
part_slice : (t : List ℕ) (from to : ℕ) → from ≤ to → from ≤ length t → mid_of from (to - from) t ≡ slice from to t
part_slice t from to order inside =
    sym (ap (λ (n : ℕ). slice from n t) (let whole : to ≡ from + (to - from) = omega arith in whole)
    ∙ ap (drop from) (take-add from (to - from) t)
    ∙ drop_at (take from t) (take (to - from) (drop from t)) from (length-take-le from t inside))

-- ---- places blanked

-- A part of a table that is lent and filled with zeros.
pub part_blanked : (t : List ℕ) (from to : ℕ) (part : List ℕ) → from ≤ to → to ≤ length t → part ≡ replicate (length (mid_of from (to - from) t)) 0 →
    put_mid from (to - from) t part ≡ blanked t from to
unfolding blanked
part_blanked t from to part order inside zeros =
    ap₂ (λ (l m : List ℕ). take from t ++ (l ++ m))
    (zeros ∙ ap (λ (n : ℕ). replicate n 0) (ap length (part_slice t from to order (omega arith)) ∙ length-slice from to t inside))
    (Post-is from to t order)

-- ---- the list of a code

pub record Listed (t : List ℕ) (c : ℕ) : Type 0 where
  pub sized : length t ≡ index_size
  pub small : c < code_count
  pub from : first_room ≤ begin_of t c
  pub order : begin_of t c ≤ end_of t c
  pub to : end_of t c ≤ index_size

pub has_is : (t : List ℕ) (c : ℕ) → has_list t c ≡ true → Listed t c
unfolding has_list in_rooms
has_is t c h =
    let one = (and-eq-true_iff (eqb (length t) index_size)
    (ltb c code_count && (leb first_room (begin_of t c) && (leb (begin_of t c) (end_of t c) && leb (end_of t c) index_size)))).0 h in
    let two = (and-eq-true_iff (ltb c code_count) (leb first_room (begin_of t c) && (leb (begin_of t c) (end_of t c) && leb (end_of t c) index_size))).0 one.1
    in
    let three = (and-eq-true_iff (leb first_room (begin_of t c)) (leb (begin_of t c) (end_of t c) && leb (end_of t c) index_size)).0 two.1 in
    let four = (and-eq-true_iff (leb (begin_of t c) (end_of t c)) (leb (end_of t c) index_size)).0 three.1 in
    record {
      sized = eqb-true (length t) index_size one.0;
      small = ltb-true c code_count two.0;
      from = leb-true first_room (begin_of t c) three.0;
      order = leb-true (begin_of t c) (end_of t c) four.0;
      to = leb-true (end_of t c) index_size four.1;
    }

pub other_size : (t : List ℕ) (c : ℕ) → (length t ≡ index_size → ⊥) → has_list t c ≡ false
unfolding has_list
other_size t c other = ap (λ (b : Bool). b && (ltb c code_count && in_rooms (begin_of t c) (end_of t c))) (ne_eqb (length t) index_size other)

pub no_code : (t : List ℕ) (c : ℕ) → length t ≡ index_size → code_count ≤ c → has_list t c ≡ false
unfolding has_list
no_code t c size above = rw (eq-eqb (length t) index_size size, le-ltb c code_count above) refl

pub code_list : (t : List ℕ) (c : ℕ) → length t ≡ index_size → c < code_count → has_list t c ≡ in_rooms (begin_of t c) (end_of t c)
unfolding has_list
code_list t c size small = rw (eq-eqb (length t) index_size size, lt-ltb c code_count small) refl

module _ (from to : ℕ) where
  pub low_rooms : from < first_room → in_rooms from to ≡ false
  unfolding in_rooms
  low_rooms h = ap (λ (b : Bool). b && (leb from to && leb to index_size)) (lt-leb first_room from h)

  pub crossed_rooms : first_room ≤ from → to < from → in_rooms from to ≡ false
  unfolding in_rooms
  crossed_rooms h k = rw (le-leb first_room from h, lt-leb from to k) refl

  pub rooms_end : first_room ≤ from → from ≤ to → in_rooms from to ≡ leb to index_size
  unfolding in_rooms
  rooms_end h k = rw (le-leb first_room from h, le-leb from to k) refl

-- ---- what is left of a list

without_at : (s : ℕ) (l : List ℕ) → before s l < length l → without s l ≡ take (before s l) l ++ drop (suc (before s l)) l
without_at s [] h = absurd (omega arith)
without_at s (x ∷ l) h = go (eqb s x) refl (without_at s l)
  where
    go : (b : Bool) → eqb s x ≡ b → (before s l < length l → without s l ≡ take (before s l) l ++ drop (suc (before s l)) l)
        → cond b l (x ∷ without s l) ≡ take (cond b 0 (suc (before s l))) (x ∷ l) ++ drop (suc (cond b 0 (suc (before s l)))) (x ∷ l)
    go true e later = refl
    go false e later = ap (λ (r : List ℕ). x ∷ r) (later (inner (ap (λ (b : Bool). cond b 0 (suc (before s l))) e)))
      where
        inner : before s (x ∷ l) ≡ suc (before s l) → before s l < length l
        inner q = omega arith

without_none : (s : ℕ) (l : List ℕ) → length l ≤ before s l → without s l ≡ l
without_none s [] h = refl
without_none s (x ∷ l) h = go (eqb s x) refl (without_none s l)
  where
    go : (b : Bool) → eqb s x ≡ b → (length l ≤ before s l → without s l ≡ l) → cond b l (x ∷ without s l) ≡ x ∷ l
    go true e later = absurd (let q = ap (λ (b : Bool). cond b 0 (suc (before s l))) e in none q)
      where
        none : before s (x ∷ l) ≡ 0 → ⊥
        none q = omega arith
    go false e later = ap (λ (r : List ℕ). x ∷ r) (later (inner (ap (λ (b : Bool). cond b 0 (suc (before s l))) e)))
      where
        inner : before s (x ∷ l) ≡ suc (before s l) → length l ≤ before s l
        inner q = omega arith

pub not_removed : (t : List ℕ) (c s : ℕ) → has_list t c ≡ false → t ≡ removed t c s
unfolding removed
not_removed t c s none = sym (ap (λ (b : Bool). cond b (with_list t c (without s (list_of t c))) t) none)

pub not_cleared : (t : List ℕ) (c : ℕ) → has_list t c ≡ false → t ≡ cleared t c
unfolding cleared
not_cleared t c none = sym (ap (λ (b : Bool). cond b (with_list t c []) t) none)

module _ (t : List ℕ) (c : ℕ) (has : has_list t c ≡ true) where
  is : Listed t c
  is = has_is t c has

  abbrev from : ℕ
  from = begin_of t c

  abbrev to : ℕ
  to = end_of t c

  list_long : length (list_of t c) ≡ to - from
  list_long = length-slice from to t (omega (arith, is.sized, is.to))

  -- The list as it is, put back.
  list_back : take from t ++ (list_of t c ++ drop to t) ≡ t
  list_back =
      sym (append_assoc (take from t) (list_of t c) (drop to t))
      ∙ ap (λ (l : List ℕ). l ++ drop to t)
      (ap (λ (l : List ℕ). l ++ list_of t c) (sym (take-take from to t is.order)) ∙ take-append-drop from (take to t))
      ∙ take-append-drop to t

  pub blank_cleared : set (blanked t from to) (code_count + c) from ≡ cleared t c
  unfolding blanked cleared with_list
  blank_cleared =
      ap₂ (λ (n m : ℕ). set (take from t ++ (replicate n 0 ++ drop to t)) (code_count + c) m) (let a : to - from ≡ to - from - 0 = omega arith in a)
      (let a : from ≡ from + 0 = omega arith in a)
      ∙ sym (ap (λ (b : Bool). cond b (with_list t c []) t) has)

  module _ (s : ℕ) where
    abbrev j : ℕ
    j = before s (list_of t c)

    -- The name is not there.
    pub none_removed : to ≤ from + j → t ≡ removed t c s
    unfolding removed with_list
    none_removed past =
        sym (ap (λ (b : Bool). cond b (with_list t c (without s (list_of t c))) t) has
        ∙ ap (with_list t c) (without_none s (list_of t c) (omega (arith, list_long)))
        ∙ ap₂ (λ (n m : ℕ). set (take from t ++ (list_of t c ++ (replicate n 0 ++ drop to t))) (code_count + c) m)
        (let a : to - from - length (list_of t c) ≡ 0 = omega (arith, list_long) in a) (let a : from + length (list_of t c) ≡ get_or t (code_count + c)
        0 = omega
        (arith, list_long, is.order, end_is t c is.small) in a)
        ∙ ap (λ (l : List ℕ). set l (code_count + c) (get_or t (code_count + c) 0)) list_back
        ∙ set-get_or t (code_count + c) 0)

    -- It is taken out.
    module _ (found : from + j < to) where
      there : j < length (list_of t c)
      there = omega (arith, list_long)

      front_there : take (from + j) t ≡ take from t ++ take j (list_of t c)
      front_there =
          sym (take-take (from + j) to t (omega arith))
          ∙ take-add from j (take to t)
          ∙ ap (λ (l : List ℕ). l ++ take j (list_of t c)) (take-take from to t is.order)

      back_there : mid_of (from + j) (to - (from + j)) t ≡ drop j (list_of t c)
      back_there = part_slice t (from + j) to (omega arith) (omega (arith, is.sized, is.to)) ∙ sym (drop-drop j from (take to t))

      left_long : length (take j (list_of t c) ++ drop (suc j) (list_of t c)) ≡ to - from - 1
      left_long =
          length-append (take j (list_of t c)) (drop (suc j) (list_of t c))
          ∙ omega (arith, length-take-le j (list_of t c) (omega (arith, there)), length-drop (suc j) (list_of t c), list_long, there)

      pub one_removed : (at end : ℕ) (part : List ℕ) → at ≡ from + j → end ≡ to → part ≡ closed_up (mid_of at (end - at) t) →
          set (put_mid at (end - at) t part) (code_count + c) (end - 1) ≡ removed t c s
      unfolding removed with_list
      one_removed at end part at_is end_is is_part =
          ap₂ (λ (x y : ℕ). set (put_mid x (y - x) t part) (code_count + c) (y - 1)) at_is end_is
          ∙ ap (λ (l : List ℕ). set l (code_count + c) (to - 1))
          (ap₂ (λ (l m : List ℕ). take (from + j) t ++ (l ++ m)) (is_part ∙ ap₂ (λ (x y : ℕ). closed_up (mid_of x (y - x) t)) at_is end_is)
          (Post-is (from + j) to t (omega arith))
          ∙ ap₂ (λ (l m : List ℕ). l ++ ((drop 1 m ++ (0 ∷ [])) ++ drop to t)) front_there back_there
          ∙ ap (λ (m : List ℕ). (take from t ++ take j (list_of t c)) ++ ((m ++ (0 ∷ [])) ++ drop to t))
          (drop-drop 1 j (list_of t c) ∙ ap (λ (n : ℕ). drop n (list_of t c)) (add-one j))
          ∙ ap (λ (m : List ℕ). (take from t ++ take j (list_of t c)) ++ m) (append_assoc (drop (suc j) (list_of t c)) (0 ∷ []) (drop to t))
          ∙ append_assoc (take from t) (take j (list_of t c)) (drop (suc j) (list_of t c) ++ (0 ∷ drop to t))
          ∙ ap (λ (l : List ℕ). take from t ++ l) (sym (append_assoc (take j (list_of t c)) (drop (suc j) (list_of t c)) (0 ∷ drop to t))))
          ∙ ap₂ (λ (n m : ℕ). set (take from t ++ ((take j (list_of t c) ++ drop (suc j) (list_of t c)) ++ (replicate n 0 ++ drop to t))) (code_count + c) m)
          (let a : 1 ≡ to - from - length (take j (list_of t c) ++ drop (suc j) (list_of t c)) = omega (arith, left_long) in a)
          (let a : to - 1 ≡ from + length (take j (list_of t c) ++ drop (suc j) (list_of t c)) = omega (arith, left_long) in a)
          ∙ ap (with_list t c) (sym (without_at s (list_of t c) there))
          ∙ sym (ap (λ (b : Bool). cond b (with_list t c (without s (list_of t c))) t) has)
