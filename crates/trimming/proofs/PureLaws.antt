-- The lowest unknown in one sign, found by the lists that are not empty; and the code that is made true for it.
-- Assumes nothing.
use Prim.Native.Nat.{ℕ, zero, suc, ◌+◌, ◌*◌, ◌≤◌, ◌<◌}
use native.Mathlib.Omega.{arith}
use native.Mathlib.Numerals.{add-one}
use mathlib.Core.Path.{◌≡◌, refl, sym, ◌∙◌, ap, ap₂, subst}
use mathlib.Core.Bool.{Bool, true, false, not, cond, ◌||◌, or-false, true≢false}
use mathlib.Core.List.{List, [], ◌∷◌, ◌++◌, map}
use mathlib.Core.Option.{Option, some}
use lib.IntN.{ℤ, pos, negsuc, neg_ℤ}
use lib.ListN.{length, drop, length-map, drop_of_length-le}
use Rattle.formula.specs.Formula.{max_unknowns, Kind, existential, universal, kind_of, prefix, Clause}
use Rattle.formula.proofs.Places.{drop_front}
use Rattle.codes.specs.Codes.{last_code, opposite, has}
use Rattle.trimming_rules.specs.Trimming as Trimming
use Rattle.trimming_rules.specs.Trimming.{keep, first_of, if_some, lowest_unit, set_true, rule_3, found, one_of, lowest_pure, dropped, rule_4, kind_at}
use Rattle.trimming_rules.specs.Trimming.{without_clauses, without_literal}
use Rattle.trimming_rules.proofs.ClauseLaws.{Named, without_literal_none, without_clauses_none}
use Rattle.trimming_rules.proofs.RuleLaws.{pure_stands}
use Rattle.trimming_marks.specs.Marks.{is_left, is_universal}
use Rattle.trimming.specs.Private.Table.{literal_of, Block, standing, gone, inner, Fine, shown, literal_or_none, Chosen, Picked, lists_some, pure_code}
use Rattle.trimming.specs.Private.Table.{one_code, made_true, Next, Found}
use Rattle.trimming.proofs.CodeLaws.{literal_even, literal_odd, opposite_literal, opposite_bounds, named_code, universal_code}
use Rattle.trimming.proofs.BlockLaws.{gone_none, entries_of}
use Rattle.trimming.proofs.MarkLaws.{has_literal}
use Rattle.trimming.proofs.UnitLaws.{nothing_chosen, some_literal}

-- ---- what the clauses have

pub found_block : (c : ℕ) → 2 ≤ c → c < last_code + 1 → (b : Block) → Fine b → has c (inner b) ≡ found (literal_of c) (shown b)
found_block c two small (standing l) f = sym (has_literal c two small l f) ∙ sym (or-false (Trimming.has (literal_of c) (map literal_of (keep is_left l))))
found_block c two small (gone l) f =
    sym (has_literal c two small l (entries_of (gone l) f)) ∙ ap (λ (k : List ℕ). Trimming.has (literal_of c) (map literal_of k)) (gone_none l f)

pub found_append : (z : ℤ) (xs ys : List Clause) → found z (xs ++ ys) ≡ (found z xs || found z ys)
found_append z [] ys = refl
found_append z (x ∷ xs) ys = ap (λ (b : Bool). Trimming.has z x || b) (found_append z xs ys) ∙ shift (Trimming.has z x) (found z xs) (found z ys)
  where
    shift : (a b c : Bool) → (a || (b || c)) ≡ ((a || b) || c)
    shift true b c = refl
    shift false b c = refl

-- ---- the unknown at a position

pub one_is : (index : List ℕ) (k : ℕ) (a b : Bool) → lists_some index (2 * k + 2) ≡ a → lists_some index (2 * k + 3) ≡ b → one_code a b k ≡ pure_code index k
unfolding pure_code
one_is index k a b p q = sym (ap₂ (λ (c d : Bool). one_code c d k) p q)

module _ (seen : List ℕ) (cs : List Clause) (h : Found seen cs) where
  one_picks : (k : ℕ) → k < max_unknowns → (a b : Bool) → Picked (one_of a b k) (one_code a b k)
  one_picks k below true true = record { chosen = nothing_chosen; is = refl }
  one_picks k below true false =
      record {
        chosen = record { small = omega arith; code = λ e. omega arith };
        is = some_literal (2 * k + 2) (omega arith) ∙ ap some (ap literal_of (let e : 2 * k + 2 ≡ 2 * suc k = omega arith in e) ∙ literal_even (suc k));
      }
  one_picks k below false true =
      record {
        chosen = record { small = omega arith; code = λ e. omega arith };
        is = some_literal (2 * k + 3) (omega arith) ∙ ap some (ap literal_of (let e : 2 * k + 3 ≡ 2 * suc k + 1 = omega arith in e) ∙ literal_odd k);
      }
  one_picks k below false false = record { chosen = nothing_chosen; is = refl }

  pub pure_picks : (k : ℕ) → k < max_unknowns → Picked (one_of (found (pos (suc k)) cs) (found (negsuc k) cs) k) (pure_code seen k)
  unfolding pure_code
  pure_picks k below =
      rw (
        h (2 * k + 2) (omega arith) (omega arith) ∙ ap (λ (z : ℤ). found z cs) (ap literal_of (let e : 2 * k + 2 ≡ 2 * suc k = omega arith in e) ∙ literal_even
            (suc k)),
        h (2 * k + 3) (omega arith) (omega arith) ∙ ap (λ (z : ℤ). found z cs) (ap literal_of (let e : 2 * k + 3 ≡ 2 * suc k + 1 = omega arith in e) ∙
            literal_odd k),
      )
      (one_picks k below (found (pos (suc k)) cs) (found (negsuc k) cs))

  module _ (kinds : List ℕ) (few : length kinds ≤ max_unknowns) where
    -- What is asked of the positions from v on.
    abbrev pub FromHere : ℕ → Type 0
    FromHere v = lowest_pure zero (prefix kinds) cs ≡ lowest_pure v (drop v (prefix kinds)) cs

    asked : (v : ℕ) → v < length kinds →
        lowest_pure v (drop v (prefix kinds)) cs ≡ first_of (one_of (found (pos (suc v)) cs) (found (negsuc v) cs) v)
        (lowest_pure (v + 1) (drop (v + 1) (prefix kinds)) cs)
    asked v below =
        let e = length-map kinds kind_of in
        ap (λ (l : List Kind). lowest_pure v l cs) (drop_front (prefix kinds) v existential (omega arith))
        ∙ ap (λ (k : ℕ). first_of (one_of (found (pos (suc v)) cs) (found (negsuc v) cs) v) (lowest_pure k (drop (v + 1) (prefix kinds)) cs)) (sym (add-one v))

    pub pure_found : (v c : ℕ) → v < length kinds → FromHere v → c ≡ pure_code seen v → (c ≡ 0 → ⊥) → Picked (lowest_pure zero (prefix kinds) cs) c
    pure_found v c below here e other =
        let p = subst (Picked (one_of (found (pos (suc v)) cs) (found (negsuc v) cs) v)) (sym e) (pure_picks v (omega arith)) in
        record { chosen = p.chosen; is = taken c other p.is ∙ sym (here ∙ asked v below) }
      where
        taken : (c : ℕ) → (c ≡ 0 → ⊥) → literal_or_none c ≡ one_of (found (pos (suc v)) cs) (found (negsuc v) cs) v
            → literal_or_none c ≡ first_of (one_of (found (pos (suc v)) cs) (found (negsuc v) cs) v) (lowest_pure (v + 1) (drop (v + 1) (prefix kinds)) cs)
        taken zero never i = absurd (never refl)
        taken (suc c) never i = ap (λ (o : Option ℤ). first_of o (lowest_pure (v + 1) (drop (v + 1) (prefix kinds)) cs)) i

    pub pure_later : (v c : ℕ) → v < length kinds → FromHere v → c ≡ pure_code seen v → c ≡ 0 → FromHere (v + 1)
    pure_later v c below here e none? =
        let p = pure_picks v (omega arith) in
        here ∙ asked v below
        ∙ ap (λ (o : Option ℤ). first_of o (lowest_pure (v + 1) (drop (v + 1) (prefix kinds)) cs)) (sym p.is ∙ ap literal_or_none (sym e ∙ none?))

    pub pure_nowhere : (v : ℕ) → length kinds ≤ v → FromHere v → Picked (lowest_pure zero (prefix kinds) cs) 0
    pure_nowhere v past here =
        let e = length-map kinds kind_of in
        record {
          chosen = nothing_chosen;
          is = sym (here ∙ ap (λ (l : List Kind). lowest_pure v l cs) (drop_of_length-le (prefix kinds) {i = v} (omega arith)));
        }

-- ---- the code that is made true

module _ (kinds : List ℕ) (cs : List Clause) where
  made : (c : ℕ) → 2 ≤ c → made_true c cs ≡ some (set_true (literal_of c) cs)
  made zero two = absurd (omega arith)
  made (suc c) two = refl

  pub code_of_chosen : (c : ℕ) → Chosen c → (c ≡ 0 → ⊥) → 2 ≤ c
  code_of_chosen c h never = go h.code
    where
      go : (c ≡ 1 → ⊥) → 2 ≤ c
      go other = omega arith

  pub by_unit : (c : ℕ) → Picked (lowest_unit (prefix kinds) cs) c → (c ≡ 0 → ⊥) → Next (prefix kinds) cs c
  by_unit c p never =
      let two = code_of_chosen c p.chosen never in
      record {
        chosen = p.chosen;
        change = ap (λ (o : Option ℤ). first_of (if_some (λ z. set_true z cs) o) (rule_4 (prefix kinds) cs)) (sym p.is ∙ some_literal c two) ∙ sym
            (made c two);
      }

  module _ (u : ℕ) (no_unit : Picked (lowest_unit (prefix kinds) cs) u) (u_none : u ≡ 0) where
    fourth : first_of (rule_3 (prefix kinds) cs) (rule_4 (prefix kinds) cs) ≡ rule_4 (prefix kinds) cs
    fourth = ap (λ (o : Option ℤ). first_of (if_some (λ z. set_true z cs) o) (rule_4 (prefix kinds) cs)) (sym no_unit.is ∙ ap literal_or_none u_none)

    pub by_none : (c : ℕ) → Picked (lowest_pure zero (prefix kinds) cs) c → c ≡ 0 → Next (prefix kinds) cs 0
    by_none c p z =
        record {
          chosen = nothing_chosen;
          change = fourth ∙ ap (if_some (λ z. dropped (kind_at (prefix kinds) z) z cs)) (sym p.is ∙ ap literal_or_none z);
        }

    module _ (c : ℕ) (p : Picked (lowest_pure zero (prefix kinds) cs) c) (never : c ≡ 0 → ⊥) where
      two : 2 ≤ c
      two = code_of_chosen c p.chosen never

      picked : lowest_pure zero (prefix kinds) cs ≡ some (literal_of c)
      picked = sym p.is ∙ some_literal c two

      absent : found (neg_ℤ (literal_of c)) cs ≡ false
      absent = (pure_stands (prefix kinds) cs (literal_of c) picked).absent

      fourth_drops : first_of (rule_3 (prefix kinds) cs) (rule_4 (prefix kinds) cs) ≡ some (dropped (kind_at (prefix kinds) (literal_of c)) (literal_of c) cs)
      fourth_drops = fourth ∙ ap (if_some (λ z. dropped (kind_at (prefix kinds) z) z cs)) picked

      kind_told : (k : Kind) (t : Bool) → Trimming.is_universal k ≡ t → k ≡ cond t universal existential
      kind_told existential t e = ap (λ (b : Bool). cond b universal existential) e
      kind_told universal t e = ap (λ (b : Bool). cond b universal existential) e

      kind_known : (t : Bool) → is_universal kinds c ≡ t → kind_at (prefix kinds) (literal_of c) ≡ cond t universal existential
      kind_known t e = kind_told (kind_at (prefix kinds) (literal_of c)) t (universal_code kinds c two ∙ e)

      pub by_existential : is_universal kinds c ≡ false → Next (prefix kinds) cs c
      by_existential e =
          record {
            chosen = p.chosen;
            change =
                fourth_drops
                ∙ ap (λ (k : Kind). some (dropped k (literal_of c) cs)) (kind_known false e)
                ∙ ap some (sym (without_literal_none (neg_ℤ (literal_of c)) (without_clauses (literal_of c) cs)
                (absent_still (literal_of c) (neg_ℤ (literal_of c)) cs absent)))
                ∙ sym (made c two);
          }
        where
          absent_still : (z y : ℤ) (ds : List Clause) → found y ds ≡ false → found y (without_clauses z ds) ≡ false
          absent_still z y [] lacks = lacks
          absent_still z y (d ∷ ds) lacks = pass (Trimming.has y d) refl lacks (Trimming.has z d) (absent_still z y ds)
            where
              pass : (b : Bool) → Trimming.has y d ≡ b → (b || found y ds) ≡ false → (t : Bool) →
                  (found y ds ≡ false → found y (without_clauses z ds) ≡ false) →
                  found y (cond (not t) (d ∷ without_clauses z ds) (without_clauses z ds)) ≡ false
              pass true q lacks t later = absurd (true≢false lacks)
              pass false q lacks true later = later lacks
              pass false q lacks false later = rw q (later lacks)

      pub by_universal : (o : ℕ) → is_universal kinds c ≡ true → o ≡ opposite c → Next (prefix kinds) cs o
      by_universal o e eo =
          subst (Next (prefix kinds) cs) (sym eo)
          (record {
            chosen = record { small = bounds.1; code = λ z. let b = bounds.0 in omega arith };
            change =
                fourth_drops
                ∙ ap (λ (k : Kind). some (dropped k (literal_of c) cs)) (kind_known true e)
                ∙ ap some
                (ap (λ (z : ℤ). without_literal z cs) (sym (twice (literal_of c) (named_code c two p.chosen.small)))
                ∙ sym (ap (without_literal (neg_ℤ (neg_ℤ (literal_of c)))) (without_clauses_none (neg_ℤ (literal_of c)) cs absent))
                ∙ ap (λ (z : ℤ). set_true z cs) (opposite_literal c two))
                ∙ sym (made (opposite c) bounds.0);
          })
        where
          bounds : (2 ≤ opposite c) × (opposite c < last_code + 1)
          bounds = opposite_bounds c two p.chosen.small

          twice : (z : ℤ) → Named max_unknowns z → neg_ℤ (neg_ℤ z) ≡ z
          twice (pos zero) n = absurd (let h = n.from_one in omega arith)
          twice (pos (suc v)) n = refl
          twice (negsuc v) n = refl
