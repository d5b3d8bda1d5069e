-- The pass that reduces every clause: what stands behind the last existential unknown of its clause is dropped.
-- Assumes nothing.
use Prim.Native.Nat.{ℕ, suc, ◌+◌, ◌*◌, ◌/◌, ◌%◌, ◌≤◌, ◌<◌}
use native.Mathlib.Omega.{arith}
use mathlib.Core.Path.{◌≡◌, refl, sym, ◌∙◌, ap, ap₂}
use mathlib.Core.Bool.{Bool, true, false, not, cond, ◌&&◌, ◌||◌, and-false}
use mathlib.Core.List.{List, [], ◌∷◌, ◌++◌, map}
use borrow.Author.Tests.{le-leb, lt-leb, leb-true, leb-false, lt-ltb, le-ltb, ltb-true}
use lib.Dec.{leb, ltb, eqb}
use lib.ListN.{get_or}
use Rattle.formula.specs.Formula.{prefix, Clause}
use Rattle.formula.specs.Causes.{any}
use Rattle.trimming_rules.specs.Trimming as Trimming
use Rattle.trimming_rules.specs.Trimming.{keep, follows, reducible}
use Rattle.trimming_rules.specs.Private.Rounds.{reduced_clause, reduced}
use Rattle.trimming_rules.proofs.ClauseLaws.{Every, In, every_in, every_from, in_any, keep_in}
use Rattle.trimming_marks.specs.Marks.{is_left, is_universal, marked, raised, reducible_from}
use Rattle.trimming.specs.Private.Table.{literal_of, Entry, Block, standing, gone, inner, Fine}
use Rattle.trimming.proofs.CodeLaws.{position_code, universal_code}
use Rattle.trimming.proofs.BlockLaws.{map_append, left_code}
use Rattle.trimming.proofs.PassLaws.{Change, Local}
use Rattle.trimming.proofs.MarkLaws.{map_keep, any_left, keep_marked, among, marked_stays, gone_stays, marked_entries}

module _ (kinds : List ℕ) where
  -- An existential entry that is left and stands no earlier than x.
  abbrev stops : ℕ → ℕ → Bool
  stops x y = is_left y && (not (is_universal kinds y) && leb (x / 2) (y / 2))

  -- x is from the lowest reducible code on, if it is from `low` on and nothing stops it.
  raised_from : (low x y : ℕ) → low % 2 ≡ 0 → leb (raised kinds low y) x ≡ (leb low x && not (stops x y))
  unfolding raised
  raised_from low x y even = go (is_left y) (leb low y) refl (is_universal kinds y)
    where
      past : leb low y ≡ true → leb (y / 2 * 2 + 2) x ≡ (leb low x && not (leb (x / 2) (y / 2)))
      past l = let h = leb-true low y l in both (leb (x / 2) (y / 2)) refl
        where
          both : (t : Bool) → leb (x / 2) (y / 2) ≡ t → leb (y / 2 * 2 + 2) x ≡ (leb low x && not t)
          both true e = let q = leb-true (x / 2) (y / 2) e in lt-leb (y / 2 * 2 + 2) x (omega arith) ∙ sym (and-false (leb low x))
          both false e =
              let q = leb-false (x / 2) (y / 2) e in
              let h = leb-true low y l in
              le-leb (y / 2 * 2 + 2) x (omega arith) ∙ sym (ap (λ (b : Bool). b && true) (le-leb low x (omega arith)))

      kept : leb low y ≡ false → leb low x ≡ (leb low x && not (leb (x / 2) (y / 2)))
      kept l = both (leb low x) refl (leb (x / 2) (y / 2)) refl
        where
          both : (a : Bool) → leb low x ≡ a → (b : Bool) → leb (x / 2) (y / 2) ≡ b → a ≡ (a && not b)
          both true p true q = absurd (let i = leb-true low x p in let j = leb-true (x / 2) (y / 2) q in let k = leb-false low y l in omega arith)
          both true p false q = refl
          both false p b q = refl

      and_true : (b : Bool) → b ≡ (b && true)
      and_true true = refl
      and_true false = refl

      go : (a b : Bool) → leb low y ≡ b → (u : Bool) →
          leb (cond (a && (b && not u)) (y / 2 * 2 + 2) low) x ≡ (leb low x && not (a && (not u && leb (x / 2) (y / 2))))
      go true true l true = and_true (leb low x)
      go true true l false = past l
      go true false l true = and_true (leb low x)
      go true false l false = kept l
      go false b l u = and_true (leb low x)

  raised_even : (low y : ℕ) → low % 2 ≡ 0 → raised kinds low y % 2 ≡ 0
  unfolding raised
  raised_even low y even = go (is_left y && (leb low y && not (is_universal kinds y)))
    where
      go : (t : Bool) → cond t (y / 2 * 2 + 2) low % 2 ≡ 0
      go true = omega arith
      go false = even

  and_not : (a b c : Bool) → ((a && not b) && not c) ≡ (a && not (b || c))
  and_not true true c = refl
  and_not true false c = refl
  and_not false b c = refl

  from_lowest : (c : List ℕ) (low x : ℕ) → low % 2 ≡ 0 → leb (reducible_from kinds low c) x ≡ (leb low x && not (any (stops x) c))
  from_lowest [] low x even = go (leb low x)
    where
      go : (b : Bool) → b ≡ (b && true)
      go true = refl
      go false = refl
  from_lowest (y ∷ c) low x even =
      from_lowest c (raised kinds low y) x (raised_even low y even)
      ∙ ap (λ (b : Bool). b && not (any (stops x) c)) (raised_from low x y even)
      ∙ and_not (leb low x) (stops x y) (any (stops x) c)

  raised_two : (low y : ℕ) → 2 ≤ low → 2 ≤ raised kinds low y
  unfolding raised
  raised_two low y two = go (is_left y && (leb low y && not (is_universal kinds y)))
    where
      go : (t : Bool) → 2 ≤ cond t (y / 2 * 2 + 2) low
      go true = omega arith
      go false = two

  pub two_from : (c : List ℕ) (low : ℕ) → 2 ≤ low → 2 ≤ reducible_from kinds low c
  two_from [] low two = two
  two_from (y ∷ c) low two = two_from c (raised kinds low y) (raised_two low y two)

  -- Unknowns of one name are of one kind.
  same_kind : (x y : ℕ) → x / 2 ≡ y / 2 → is_universal kinds x ≡ is_universal kinds y
  unfolding is_universal
  same_kind x y e = ap (λ (v : ℕ). not (eqb (get_or (0 ∷ kinds) v 0) 0)) e

  -- Of a universal literal, what stops it is what follows it.
  module _ (x : ℕ) (two : 2 ≤ x) (own : is_universal kinds x ≡ true) where
    stops_follows : (y : ℕ) → Entry y → (t : Bool) → is_left y ≡ t → (t && follows (prefix kinds) (literal_of x) (literal_of y)) ≡ stops x y
    stops_follows y e false l = sym (ap (λ (b : Bool). b && (not (is_universal kinds y) && leb (x / 2) (y / 2))) l)
    stops_follows y e true l =
        let s = left_code y e l in
        ap (λ (b : Bool). not b && ltb (Trimming.position (literal_of x)) (Trimming.position (literal_of y))) (universal_code kinds y s.0)
        ∙ by_kind (is_universal kinds y) refl
        ∙ sym (ap (λ (b : Bool). b && (not (is_universal kinds y) && leb (x / 2) (y / 2))) l)
      where
        order : is_universal kinds y ≡ false → (t : Bool) → leb (x / 2) (y / 2) ≡ t →
            ltb (Trimming.position (literal_of x)) (Trimming.position (literal_of y)) ≡ t
        order u true p =
            let q = leb-true (x / 2) (y / 2) p in
            let a = position_code x two in
            let b = position_code y (left_code y e l).0 in
            lt-ltb (Trimming.position (literal_of x)) (Trimming.position (literal_of y)) (apart (λ i. clash (sym own ∙ same_kind x y i ∙ u)) q a b)
          where
            clash : true ≡ false → ⊥
            clash z = let w : ◌≡◌ {A = ℕ} 0 1 = cc in omega arith

            apart : (x / 2 ≡ y / 2 → ⊥) → x / 2 ≤ y / 2 → suc (Trimming.position (literal_of x)) ≡ x / 2 → suc (Trimming.position (literal_of y)) ≡ y / 2 →
                Trimming.position (literal_of x) < Trimming.position (literal_of y)
            apart never q a b = omega arith
        order u false p =
            let q = leb-false (x / 2) (y / 2) p in
            let a = position_code x two in
            let b = position_code y (left_code y e l).0 in
            le-ltb (Trimming.position (literal_of x)) (Trimming.position (literal_of y)) (omega arith)

        by_kind : (u : Bool) → is_universal kinds y ≡ u →
            (not u && ltb (Trimming.position (literal_of x)) (Trimming.position (literal_of y))) ≡ (not u && leb (x / 2) (y / 2))
        by_kind true u = refl
        by_kind false u = order u (leb (x / 2) (y / 2)) refl

    followed : (c : List ℕ) → Every Entry c → any (follows (prefix kinds) (literal_of x)) (map literal_of (keep is_left c)) ≡ any (stops x) c
    followed c all = any_left literal_of is_left (follows (prefix kinds) (literal_of x)) (stops x) c (each c all)
      where
        each : (d : List ℕ) → Every Entry d → Every (λ y. (is_left y && follows (prefix kinds) (literal_of x) (literal_of y)) ≡ stops x y) d
        each [] all = tt
        each (y ∷ d) all = (stops_follows y all.0 (is_left y) refl, each d all.1)

  -- An entry of a clause is reducible, if it is from the lowest reducible code on.
  module _ (c : List ℕ) (all : Every Entry c) where
    reducible_code : (x : ℕ) → In x c → is_left x ≡ true →
        reducible (prefix kinds) (map literal_of (keep is_left c)) (literal_of x) ≡ leb (reducible_from kinds 2 c) x
    reducible_code x i l =
        let s = left_code x (every_in Entry c x all i) l in
        ap (λ (b : Bool). b && not (any (follows (prefix kinds) (literal_of x)) (map literal_of (keep is_left c)))) (universal_code kinds x s.0)
        ∙ by_kind (is_universal kinds x) refl s.0
        ∙ sym (from_lowest c 2 x refl ∙ ap (λ (b : Bool). b && not (any (stops x) c)) (le-leb 2 x s.0))
      where
        by_kind : (u : Bool) → is_universal kinds x ≡ u → 2 ≤ x →
            (u && not (any (follows (prefix kinds) (literal_of x)) (map literal_of (keep is_left c)))) ≡ not (any (stops x) c)
        by_kind true u two = ap not (followed x two u c all)
        by_kind false u two = sym
            (ap not (in_any (stops x) c x i (ap₂ (λ (a b : Bool). a && (not b && leb (x / 2) (x / 2))) l u ∙ le-leb (x / 2) (x / 2) (omega arith))))

    pub reduced_codes : map literal_of (keep is_left (map (marked (reducible_from kinds 2 c) 511) c)) ≡ reduced_clause (prefix kinds)
        (map literal_of (keep is_left c))
    reduced_codes =
        ap (map literal_of) (keep_marked (reducible_from kinds 2 c) 511 c)
        ∙ map_keep literal_of (λ x. not (among (reducible_from kinds 2 c) 511 x)) (λ z. not (reducible (prefix kinds) (map literal_of (keep is_left c)) z))
        (keep is_left c)
        (every_from (λ x. not (among (reducible_from kinds 2 c) 511 x) ≡ not (reducible (prefix kinds) (map literal_of (keep is_left c)) (literal_of x)))
        (keep is_left c)
        (λ x j. let k = keep_in is_left c x j in one x k.0 k.1))
      where
        one : (x : ℕ) → In x c → is_left x ≡ true →
            not (among (reducible_from kinds 2 c) 511 x) ≡ not (reducible (prefix kinds) (map literal_of (keep is_left c)) (literal_of x))
        one x i l =
            let h = ltb-true x 512 l in
            ap not (ap (λ (b : Bool). leb (reducible_from kinds 2 c) x && b) (le-leb x 511 (omega arith)) ∙ and_one (leb (reducible_from kinds 2 c) x) ∙ sym
            (reducible_code x i l))
          where
            and_one : (b : Bool) → (b && true) ≡ b
            and_one true = refl
            and_one false = refl

  pub reduced_local : Local (reduced (prefix kinds))
  reduced_local = record { none = refl; spread = λ xs ys. map_append (reduced_clause (prefix kinds)) xs ys }

  pub clause_reduced : (b : Block) → Fine b → Change (reduced (prefix kinds)) (reducible_from kinds 2 (inner b)) 511 b
  clause_reduced (gone c) f =
      record {
        after = gone c;
        made = sym (map_append (marked (reducible_from kinds 2 c) 511) c (512 ∷ []) ∙ ap₂ ◌++◌ (gone_stays (reducible_from kinds 2 c) 511 c f)
            (ap (λ (x : ℕ). x ∷ []) (marked_stays (reducible_from kinds 2 c) 511 512 (λ p q r. omega arith))));
        fine = f;
        shows = refl;
      }
  clause_reduced (standing c) f =
      record {
        after = standing (map (marked (reducible_from kinds 2 c) 511) c);
        made = sym (map_append (marked (reducible_from kinds 2 c) 511) c (0 ∷ []) ∙ ap (λ (x : ℕ). map (marked (reducible_from kinds 2 c) 511) c ++ (x ∷ []))
            (marked_stays (reducible_from kinds 2 c) 511 0 (λ p q r. let t = two_from c 2 (omega arith) in omega arith)));
        fine = marked_entries (reducible_from kinds 2 c) 511 c f;
        shows = ap (λ (l : Clause). l ∷ []) (reduced_codes c f);
      }
