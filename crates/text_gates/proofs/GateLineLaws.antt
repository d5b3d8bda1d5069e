-- A gate line's words and its clauses, as the code takes them. Assumes nothing.
use Prim.Native.Nat.{ℕ, zero, suc, ◌+◌, ◌≤◌, ◌<◌}
use native.Mathlib.Omega.{arith}
use native.Mathlib.Numerals.{add-one}
use mathlib.Core.Path.{◌≡◌, refl, sym, ap, subst, ◌∙◌}
use mathlib.Core.Bool.{Bool, true, false, cond, not}
use mathlib.Core.List.{List, [], ◌∷◌, ◌++◌, append_assoc, append-nil}
use borrow.Author.Tests.{lt-ltb, le-ltb, ltb-true, ltb-false, leb-true, leb-false, le-leb, lt-leb, eqb-true, eqb-false, eq-eqb, ne_eqb}
use lib.Dec.{eqb, leb, ltb}
use lib.IntN.{ℤ, pos, neg_ℤ, nat_abs}
use lib.ListN.{length, take, drop, get_or, set, replicate, length-append, length-drop, length-set}
use lib.Seq.{take-suc-set, get_or-set_same, get_or-set_other, drop-set-lt, set_split, length-take-le, take_at}
use mir.Facts.{to_z-of_z}
use mir.Syntax.{w32}
use mir.Val.{of_z, to_z}
use Rattle.cause.specs.declared.Cause.{Cause}
use Rattle.cause.specs.Cause.{number}
use Rattle.cause.proofs.Numbers.{from_1}
use Rattle.gates.proofs.EntryLaws.{small_fits}
use Rattle.formula.specs.Formula.{max_clauses, Clause}
use Rattle.formula.specs.Causes.{beyond}
use Rattle.formula.proofs.Any.{none_any}
use Rattle.gates.specs.declared.Function.{Function}
use Rattle.gates.specs.declared.Function.TheVariants.{And, Or, Xor}
use Rattle.gates.specs.Clauses.{with_each, negated, gate_clauses, flat}
use Rattle.gates.specs.Put.{entries_of, place_behind, laid}
use Rattle.lines.specs.Lines.{Bytes, words, first, rest}
use Rattle.lines.specs.Numbers.{is_zero}
use Rattle.lines.specs.Shapes.{is_gate}
use Rattle.named.specs.Named.{max_variables, max_places, signed}
use Rattle.named.specs.CircuitRight.{Fits}
use Rattle.text_gates.specs.GateLine.{marked, literal_of, known_cause, first_cause, known_causes, inputs_of, function_of, room_limit, line_cause}
use Rattle.text_gates.specs.GateLine.{line_entries, line_clauses, output_cause, PutSo}
use Rattle.text_gates.specs.Private.Steps.{InputRead, InputsRead, clause_count, GatePut}
use Rattle.text_gates.proofs.GateShape.{gate_shaped}

-- The clauses of a gate, and their entries.
each_many : (z : ℤ) (is : List ℤ) → length (with_each z is) ≡ length is
each_many z [] = refl
each_many z (i ∷ is) = ap suc (each_many z is)

negated_many : (is : List ℤ) → length (negated is) ≡ length is
negated_many [] = refl
negated_many (i ∷ is) = ap suc (negated_many is)

pub clauses_counted : (f : Function) (z : ℤ) (is : List ℤ) → Fits f is → length (gate_clauses f z is) ≡ clause_count f (length is)
clauses_counted And z is fits = length-append (with_each (neg_ℤ z) is) ((z ∷ negated is) ∷ []) ∙ ap (λ (n : ℕ). n + 1) (each_many (neg_ℤ z) is)
clauses_counted Or z is fits = length-append (with_each z (negated is)) ((neg_ℤ z ∷ is) ∷ []) ∙ ap (λ (n : ℕ). n + 1)
    (each_many z (negated is) ∙ negated_many is)
clauses_counted Xor z [] fits = absurd (omega arith)
clauses_counted Xor z (s ∷ []) fits = absurd (omega arith)
clauses_counted Xor z (s ∷ t ∷ []) fits = refl
clauses_counted Xor z (s ∷ t ∷ u ∷ is) fits = absurd (omega arith)

flat_some : (cs : List Clause) → 1 ≤ length cs → 1 ≤ length (flat cs)
flat_some [] some = some
flat_some (c ∷ cs) some = omega (arith, length-append c (pos 0 ∷ flat cs))

count_some : (f : Function) (n : ℕ) → 1 ≤ clause_count f n
count_some And n = omega arith
count_some Or n = omega arith
count_some Xor n = omega arith

entries_some : (f : Function) (z : ℤ) (is : List ℤ) → Fits f is → 1 ≤ length (flat (gate_clauses f z is))
entries_some f z is fits = flat_some (gate_clauses f z is) (omega (arith, clauses_counted f z is fits, count_some f (length is)))

-- Names are far from the lowest number, so every gate of a text has its clauses.
small_none : (z : ℤ) → nat_abs z ≤ 65535 → beyond 2147483647 z ≡ false
small_none z small = le-ltb 2147483647 (nat_abs z) (omega arith)

pub entries_all : (f : Function) (v : ℕ) (is : List ℤ) → v ≤ 65535 → ((j : ℕ) → nat_abs (get_or is j (pos 0)) ≤ max_variables)
    → entries_of f (pos v) is ≡ flat (gate_clauses f (pos v) is)
unfolding entries_of
entries_all f v is small each = rw (
  small_none (pos v) small,
  none_any (beyond 2147483647) (pos 0) is
      (λ j. small_none (get_or is j (pos 0)) (omega (arith, each j))),
) refl

-- What a mark says.
pub mark_is : (P : List ℕ) (v : ℕ) → v < max_places → {b : Bool} → b ≡ not (eqb (get_or P v 0) 0) → b ≡ marked P v
unfolding marked
mark_is P v small same = same ∙ rw (lt-ltb v max_places small) refl

pub no_mark : (P : List ℕ) (v : ℕ) → max_places ≤ v → false ≡ marked P v
unfolding marked
no_mark P v past = rw (le-ltb v max_places past) refl

-- The words of a gate line behind its name, up to `at`.
pub record Passed (line : Bytes) (i : ℕ) (P : List ℕ) (count at : ℕ) (I : List ℤ) : Type 0 where
  pub within : at ≤ length line
  pub few : count ≤ at
  pub size : length I ≡ max_clauses
  pub right : known_causes (marked P) (words (drop i line)) ≡ known_causes (marked P) (words (drop at line))
  pub many : length (inputs_of (words (drop i line))) ≡ count + length (inputs_of (words (drop at line)))
  pub kept : count ≤ max_clauses → inputs_of (words (drop i line)) ≡ take count I ++ inputs_of (words (drop at line))
  pub small : (j : ℕ) → nat_abs (get_or I j (pos 0)) ≤ max_variables

small_set : (I : List ℤ) (n : ℕ) (z : ℤ) → nat_abs z ≤ max_variables → ((j : ℕ) → nat_abs (get_or I j (pos 0)) ≤ max_variables) → n < length I
    → (j : ℕ) → nat_abs (get_or (set I n z) j (pos 0)) ≤ max_variables
small_set I n z small each room j = go (eqb j n) refl
  where
    go : (b : Bool) → eqb j n ≡ b → nat_abs (get_or (set I n z) j (pos 0)) ≤ max_variables
    go true q = rw (eqb-true j n q, get_or-set_same I n z (pos 0) room) small
    go false q = rw (get_or-set_other I n j z (pos 0) (eqb-false j n q)) (each j)

module _ (line : Bytes) (i : ℕ) (P : List ℕ) (count at : ℕ) (I : List ℤ) (p : Passed line i P count at I) where
  stopped_so : inputs_of (words (drop at line)) ≡ [] → known_causes (marked P) (words (drop at line)) ≡ 0 → InputsRead line i P 0 count I
  stopped_so none free =
      record {
        size = p.size;
        right = sym (p.right ∙ free);
        many = λ _. sym (p.many ∙ ap (λ (l : List ℤ). count + length l) none ∙ omega arith);
        kept = λ _ few. sym (p.kept few ∙ ap (λ (l : List ℤ). take count I ++ l) none ∙ append-nil (take count I));
        small = p.small;
      }

  -- No word is left.
  pub passed_all : words (drop at line) ≡ [] → InputsRead line i P 0 count I
  passed_all none = stopped_so (ap inputs_of none) (ap (known_causes (marked P)) none)

  module _ (w : Bytes) (ws : List Bytes) (next : words (drop at line) ≡ w ∷ ws) where
    module _ (some : is_zero w ≡ false) where
      cause_front : known_causes (marked P) (words (drop at line)) ≡ first_cause (known_cause (marked P) w) (known_causes (marked P) ws)
      cause_front = ap (known_causes (marked P)) next ∙ rw some refl

      inputs_front : inputs_of (words (drop at line)) ≡ literal_of w ∷ inputs_of ws
      inputs_front = ap inputs_of next ∙ rw some refl

      -- One input more.
      pub passed_more : {cause : ℕ} {z : ℤ} (end : ℕ) (I' : List ℤ) → InputRead P w cause z → cause ≡ 0 → words (drop end line) ≡ ws → at < end →
          end ≤ length line
          → I' ≡ cond (ltb count max_clauses) (set I count (to_z w32 (of_z w32 z))) I → Passed line i P (count + 1) end I'
      passed_more {cause} {z} end I' e free others onward within bits =
          let put : I' ≡ cond (ltb count max_clauses) (set I count z) I = bits ∙ ap (λ (y : ℤ). cond (ltb count max_clauses) (set I count y) I)
          (to_z-of_z (small_fits z (omega (arith, e.small)))) in
          record {
            within = within;
            few = omega (arith, p.few);
            size = ap length put ∙ size_of (ltb count max_clauses);
            right =
                p.right ∙ cause_front
                ∙ ap (λ (n : ℕ). first_cause n (known_causes (marked P) ws)) (sym e.right ∙ free)
                ∙ ap (known_causes (marked P)) (sym others);
            many = p.many ∙ ap (λ (l : List ℤ). count + length l) inputs_front ∙ omega (arith, ap (λ (l : List Bytes). length (inputs_of l)) others);
            kept = λ room.
                let below : count < max_clauses = omega arith in
                p.kept (omega arith)
                ∙ ap (λ (l : List ℤ). take count I ++ l) (inputs_front ∙ ap (λ (y : ℤ). y ∷ inputs_of ws) (sym (e.written free)) ∙ ap
                (λ (l : List Bytes). z ∷ inputs_of l) (sym others))
                ∙ sym (append_assoc (take count I) (z ∷ []) (inputs_of (words (drop end line))))
                ∙ ap (λ (l : List ℤ). l ++ inputs_of (words (drop end line))) (sym (front put below));
            small = λ j. subst (λ (l : List ℤ). nat_abs (get_or l j (pos 0)) ≤ max_variables) (sym put) (small_of (ltb count max_clauses) refl j);
          }
        where
          size_of : (b : Bool) → length (cond b (set I count z) I) ≡ max_clauses
          size_of true = length-set I count z ∙ p.size
          size_of false = p.size

          front : I' ≡ cond (ltb count max_clauses) (set I count z) I → count < max_clauses → take (count + 1) I' ≡ take count I ++ (z ∷ [])
          front put below =
              let stored : I' ≡ set I count z = put ∙ rw (lt-ltb count max_clauses below) refl in
              ap (take (count + 1)) stored ∙ rw (add-one count) (take-suc-set I count z (omega (arith, p.size)))

          small_of : (b : Bool) → ltb count max_clauses ≡ b → (j : ℕ) → nat_abs (get_or (cond b (set I count z) I) j (pos 0)) ≤ max_variables
          small_of true q j = small_set I count z e.small p.small (omega (arith, ltb-true count max_clauses q, p.size)) j
          small_of false q j = p.small j

-- Two entries set.
two_set : (L : List ℤ) (m : ℕ) (o : ℤ) → m + 2 ≤ length L → set (set L m o) (m + 1) (pos 0) ≡ take m L ++ (o ∷ pos 0 ∷ []) ++ drop (m + 2) L
two_set L m o room =
    let one : m + 1 ≡ suc m = omega arith in
    let two : m + 2 ≡ suc (suc m) = omega arith in
    set_split (set L m o) (m + 1) (pos 0) (omega (arith, length-set L m o))
    ∙ rw (one, two, take-suc-set L m o (omega arith), drop-set-lt (suc (suc m)) L m o (omega arith))
    (append_assoc (take m L) (o ∷ []) (pos 0 ∷ drop (suc (suc m)) L) ∙ sym (append_assoc (take m L) (o ∷ pos 0 ∷ []) (drop (suc (suc m)) L)))

-- Nothing is put, or all is.
pub put_none : {cause c : ℕ} {zs : List ℤ} {clauses made m : ℕ} {L L' : List ℤ} → c ≡ cause → (c ≡ 0 → ⊥) → L' ≡ L →
    PutSo cause zs clauses made m L c m made L'
put_none {cause} same bad table =
    let off : eqb cause 0 ≡ false = ne_eqb cause 0 (λ e. bad (same ∙ e)) in
    record { caused = same; used = rw off refl; all = rw off refl; table = table ∙ rw off refl }

pub put_all : {cause entries all : ℕ} {zs : List ℤ} {clauses made m : ℕ} {L L' : List ℤ} → 0 ≡ cause → entries ≡ m + length zs → all ≡ made + clauses →
    L' ≡ laid L m zs
    → PutSo cause zs clauses made m L 0 entries all L'
put_all {cause} same used all table =
    let on : eqb cause 0 ≡ true = eq-eqb cause 0 (sym same) in
    record { caused = same; used = used ∙ rw on refl; all = all ∙ rw on refl; table = table ∙ rw on refl }

-- Entries that fit, and entries that don't.
short_table : (L : List ℤ) (m : ℕ) (zs : List ℤ) → length L < m + length zs → laid L m zs ≡ L
unfolding laid
short_table L m zs over = rw (lt-leb (m + length zs) (length L) over) refl

-- Where they are put tells which.
full_so : (room m : ℕ) (zs : List ℤ) (end : ℕ) → end ≡ place_behind room m zs → 1 ≤ length zs → end ≡ m → room < m + length zs
unfolding place_behind
full_so room m zs end behind some same = go (leb (m + length zs) room) refl behind
  where
    go : (b : Bool) → leb (m + length zs) room ≡ b → end ≡ cond b (m + length zs) m → room < m + length zs
    go true q e = absurd (omega arith)
    go false q e = leb-false (m + length zs) room q

fits_so : (room m : ℕ) (zs : List ℤ) (end : ℕ) → end ≡ place_behind room m zs → (end ≡ m → ⊥) → (m + length zs ≤ room) × (end ≡ m + length zs)
unfolding place_behind
fits_so room m zs end behind other = go (leb (m + length zs) room) refl behind
  where
    go : (b : Bool) → leb (m + length zs) room ≡ b → end ≡ cond b (m + length zs) m → (m + length zs ≤ room) × (end ≡ m + length zs)
    go true q e = (leb-true (m + length zs) room q, e)
    go false q e = absurd (other e)

-- The limits, and the entries put.
module _ (f : Function) (v : ℕ) (I : List ℤ) (count made m : ℕ) (L : List ℤ) where
  limited : (clauses entries : ℕ) → max_clauses < clauses → 14 ≡ room_limit (length L) clauses entries
  limited clauses entries over = rw (lt-ltb max_clauses clauses over) refl

  -- More inputs than a gate can have.
  pub put_wide : max_clauses ≤ count → GatePut f v I count made m L 14 m made L
  put_wide wide is size kept fits = put_none (limited _ _ (over f is size fits)) (λ e. omega arith) refl
    where
      over : (f : Function) (is : List ℤ) → length is ≡ count → Fits f is → max_clauses < made + length (gate_clauses f (pos v) is)
      over And is many fits = omega (arith, clauses_counted And (pos v) is fits)
      over Or is many fits = omega (arith, clauses_counted Or (pos v) is fits)
      over Xor is many fits = absurd (omega arith)

  all_clauses : (all : ℕ) → all ≡ made + clause_count f count → (is : List ℤ) → length is ≡ count → Fits f is → all ≡ made + length (gate_clauses f (pos v) is)
  all_clauses all sum is many fits = sum ∙ ap (λ (n : ℕ). made + n) (ap (clause_count f) (sym many) ∙ sym (clauses_counted f (pos v) is fits))

  -- Too many clauses.
  pub put_over : (all : ℕ) → all ≡ made + clause_count f count → max_clauses < all → GatePut f v I count made m L 14 m made L
  put_over all sum over is size kept fits = put_none (limited (made + length (gate_clauses f (pos v) is)) _ (omega (arith, all_clauses all sum is size fits)))
      (λ e. omega arith) refl

  module _ (narrow : count < max_clauses) (all : ℕ) (sum : all ≡ made + clause_count f count) (under : all ≤ max_clauses) (end : ℕ) (L' : List ℤ)
      (behind : end ≡ place_behind (length L) m (flat (gate_clauses f (pos v) (take count I))))
      (put : L' ≡ laid L m (flat (gate_clauses f (pos v) (take count I)))) where
    -- Too many entries.
    pub put_full : end ≡ m → GatePut f v I count made m L 14 m made L'
    put_full full is size kept fits =
        let same : take count I ≡ is = kept (omega arith) in
        let zs = flat (gate_clauses f (pos v) is) in
        let over : length L < m + length zs = full_so (length L) m zs end
        (subst (λ (l : List ℤ). end ≡ place_behind (length L) m (flat (gate_clauses f (pos v) l))) same behind) (entries_some f (pos v) is fits) full in
        put_none
        (rw (← all_clauses all sum is size fits, le-ltb max_clauses all under, lt-ltb (length L) (m + length zs) over) refl)
        (λ e. omega arith)
        (subst (λ (l : List ℤ). L' ≡ laid L m (flat (gate_clauses f (pos v) l))) same put ∙ short_table L m zs over)

    pub put_done : (end ≡ m → ⊥) → GatePut f v I count made m L 0 end all L'
    put_done other is size kept fits =
        let same : take count I ≡ is = kept (omega arith) in
        let zs = flat (gate_clauses f (pos v) is) in
        let done = fits_so (length L) m zs end (subst (λ (l : List ℤ). end ≡ place_behind (length L) m (flat (gate_clauses f (pos v) l))) same behind) other in
        put_all
        (rw (← all_clauses all sum is size fits, le-ltb max_clauses all under, le-ltb (length L) (m + length zs) done.0) refl)
        done.1 (all_clauses all sum is size fits)
        (subst (λ (l : List ℤ). L' ≡ laid L m (flat (gate_clauses f (pos v) l))) same put)

-- What is put is the gate's.
pub put_entries : (f g : Function) (v count : ℕ) (I : List ℤ) → g ≡ f → v ≤ 65535 → ((j : ℕ) → nat_abs (get_or I j (pos 0)) ≤ max_variables)
    → (z : ℤ) → z ≡ pos v → (is : List ℤ) → is ≡ take count I → entries_of g z is ≡ flat (gate_clauses f (pos v) (take count I))
put_entries f g v count I same small each z value is part =
    rw (same, value, part) (entries_all f v (take count I) small (λ j. front_small I count j each))
  where
    front_small : (I : List ℤ) (n j : ℕ) → ((j : ℕ) → nat_abs (get_or I j (pos 0)) ≤ max_variables) → nat_abs (get_or (take n I) j (pos 0)) ≤ max_variables
    front_small I zero j each = omega arith
    front_small [] (suc n) j each = omega arith
    front_small (x ∷ I) (suc n) zero each = each zero
    front_small (x ∷ I) (suc n) (suc j) each = front_small I n j (λ k. each (suc k))

pub zeros_small : (n j : ℕ) → nat_abs (get_or (replicate n (pos 0)) j (pos 0)) ≤ max_variables
zeros_small zero j = omega arith
zeros_small (suc n) zero = omega arith
zeros_small (suc n) (suc j) = zeros_small n j

pub some_cause : (c : Cause) → number c ≡ 0 → ⊥
some_cause c none = omega (arith, from_1 c)

-- A whole gate line: an input with a cause, or its clauses put.
module _ (line : Bytes) (i v made m : ℕ) (P : List ℕ) (L : List ℤ) (shape : is_gate line ≡ true) (others : words (drop i line) ≡ rest (rest (words line))) where
  pub line_refused : {cause count : ℕ} {I : List ℤ} → InputsRead line i P cause count I → (cause ≡ 0 → ⊥)
      → PutSo (line_cause (marked P) line v made m (length L)) (line_entries line v) (line_clauses line v) made m L cause m made L
  unfolding line_cause
  line_refused {cause} e bad =
      put_none
      (stays cause _ bad ∙ ap (λ (n : ℕ). first_cause n (room_limit (length L) (made + line_clauses line v) (m + length (line_entries line v))))
      (e.right ∙ ap (known_causes (marked P)) others)
      ∙ sym (rw shape refl))
      bad refl
    where
      stays : (a b : ℕ) → (a ≡ 0 → ⊥) → a ≡ first_cause a b
      stays zero b bad = absurd (bad refl)
      stays (suc a) b bad = refl

  pub line_put : {cause count entries all read : ℕ} {I L' : List ℤ} (f : Function) → f ≡ function_of (first (words line))
      → InputsRead line i P read count I → read ≡ 0 → GatePut f v I count made m L cause entries all L'
      → PutSo (line_cause (marked P) line v made m (length L)) (line_entries line v) (line_clauses line v) made m L cause entries all L'
  unfolding line_cause
  line_put {cause} {count} {entries} {all} {read} {I} {L'} f same e none put =
      let is = inputs_of (rest (rest (words line))) in
      let inputs : inputs_of (words (drop i line)) ≡ is = ap inputs_of others in
      let fits : Fits f is = subst (λ (g : Function). Fits g is) (sym same) (gate_shaped line shape).fits in
      let right = put is (sym (e.many none ∙ ap (λ (l : List ℤ). length l) inputs)) (λ few. e.kept none few ∙ inputs) fits in
      let free : known_causes (marked P) (rest (rest (words line))) ≡ 0 = sym (e.right ∙ ap (known_causes (marked P)) others) ∙ none in
      let cause_so : line_cause (marked P) line v made m (length L) ≡ room_limit (length L) (made + length (gate_clauses f (pos v) is))
      (m + length (flat (gate_clauses f (pos v) is))) = rw (shape, free, same) refl in
      subst (λ (g : Function). PutSo (line_cause (marked P) line v made m (length L)) (flat (gate_clauses g (pos v) is)) (length (gate_clauses g (pos v) is))
      made m L cause entries all L') same
      (subst (λ (n : ℕ). PutSo n (flat (gate_clauses f (pos v) is)) (length (gate_clauses f (pos v) is)) made m L cause entries all L') (sym cause_so) right)

pub line_unshaped : (line : Bytes) (v made m : ℕ) (P : List ℕ) (L : List ℤ) → is_gate line ≡ false
    → PutSo (line_cause (marked P) line v made m (length L)) (line_entries line v) (line_clauses line v) made m L 10 m made L
unfolding line_cause
line_unshaped line v made m P L other = put_none (rw other refl) (λ e. omega arith) refl

-- O: it is unknown, its clause passes the limits, or it is put.
module _ (b : Bool) (v made m : ℕ) (P : List ℕ) (L : List ℤ) where
  pub output_unknown : marked P v ≡ false → PutSo (output_cause (marked P) v made m (length L)) (signed b v ∷ pos 0 ∷ []) 1 made m L 19 m made L
  unfolding output_cause
  output_unknown none = put_none (rw none refl) (λ e. omega arith) refl

  module _ (there : marked P v ≡ true) where
    pub output_over : max_clauses ≤ made → PutSo (output_cause (marked P) v made m (length L)) (signed b v ∷ pos 0 ∷ []) 1 made m L 14 m made L
    unfolding output_cause
    output_over over = put_none (rw (there, lt-ltb max_clauses (suc made) (omega arith)) refl) (λ e. omega arith) refl

    module _ (under : made < max_clauses) where
      pub output_full : ltb (m + 1) (length L) ≡ false → PutSo (output_cause (marked P) v made m (length L)) (signed b v ∷ pos 0 ∷ []) 1 made m L 14 m made L
      unfolding output_cause
      output_full full =
          let over : length L < m + 2 = omega (arith, ltb-false (m + 1) (length L) full) in
          put_none (rw (there, le-ltb max_clauses (suc made) (omega arith), lt-ltb (length L) (m + 2) over) refl) (λ e. omega arith) refl

      pub output_put : ltb (m + 1) (length L) ≡ true → {L' : List ℤ} → L' ≡ set (set L m (signed b v)) (m + 1) (pos 0)
          → PutSo (output_cause (marked P) v made m (length L)) (signed b v ∷ pos 0 ∷ []) 1 made m L 0 (m + 2) (made + 1) L'
      unfolding output_cause laid
      output_put room {L'} put =
          let inside = ltb-true (m + 1) (length L) room in
          let fit : m + 2 ≤ length L = omega arith in
          put_all (rw (there, le-ltb max_clauses (suc made) (omega arith), le-ltb (length L) (m + 2) fit) refl) refl refl
          (put ∙ two_set L m (signed b v) fit ∙ rw (le-leb (m + 2) (length L) fit) refl)

-- What a caller goes on with.
pub limit_zero : (room clauses entries : ℕ) → room_limit room clauses entries ≡ 0 → (clauses ≤ max_clauses) × (entries ≤ room)
limit_zero room clauses entries e = go (ltb max_clauses clauses) (ltb room entries) refl refl e
  where
    go : (a b : Bool) → ltb max_clauses clauses ≡ a → ltb room entries ≡ b → ◌≡◌ {A = ℕ} (cond a 14 (cond b 14 0)) 0 → (clauses ≤ max_clauses) ×
        (entries ≤ room)
    go true b p q e = absurd (omega arith)
    go false true p q e = absurd (omega arith)
    go false false p q e = (ltb-false max_clauses clauses p, ltb-false room entries q)

laid_so : (L : List ℤ) (m : ℕ) (zs : List ℤ) → m + length zs ≤ length L → laid L m zs ≡ take m L ++ zs ++ drop (m + length zs) L
unfolding laid
laid_so L m zs fit = rw (le-leb (m + length zs) (length L) fit) refl

module _ {cause clauses made m c entries all : ℕ} {zs L L' : List ℤ} (put : PutSo cause zs clauses made m L c entries all L') where
  pub kept_all : (c ≡ 0 → ⊥) → (entries ≡ m) × (all ≡ made) × (L' ≡ L)
  kept_all bad =
      let off : eqb cause 0 ≡ false = ne_eqb cause 0 (λ e. bad (put.caused ∙ e)) in
      (put.used ∙ rw off refl, put.all ∙ rw off refl, put.table ∙ rw off refl)

  pub put_so : c ≡ 0 → m + length zs ≤ length L → (entries ≡ m + length zs) × (all ≡ made + clauses) × (take (m + length zs) L' ≡ take m L ++ zs) ×
      (length L' ≡ length L)
  put_so none fit =
      let on : eqb cause 0 ≡ true = eq-eqb cause 0 (sym put.caused ∙ none) in
      let table : L' ≡ take m L ++ zs ++ drop (m + length zs) L = put.table ∙ rw on refl ∙ laid_so L m zs fit in
      let front : length (take m L ++ zs) ≡ m + length zs = length-append (take m L) zs ∙ ap (λ (n : ℕ). n + length zs) (length-take-le m L (omega arith)) in (
        put.used ∙ rw on refl,
        put.all ∙ rw on refl,
        ap (take (m + length zs)) table ∙ take_at (take m L ++ zs) (drop (m + length zs) L) (m + length zs) front,
        ap length table ∙ omega (arith, length-append (take m L ++ zs) (drop (m + length zs) L), front, length-drop (m + length zs) L),
      )
