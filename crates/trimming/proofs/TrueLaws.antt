-- The pass that drops always-true clauses.
-- Assumes nothing.
use Prim.Native.Nat.{ℕ, ◌+◌, ◌≤◌}
use native.Mathlib.Omega.{arith}
use mathlib.Core.Path.{◌≡◌, refl, sym, ◌∙◌, ap, ap₂}
use mathlib.Core.Bool.{Bool, true, false, not, cond, ◌&&◌}
use mathlib.Core.List.{List, [], ◌∷◌, ◌++◌, map}
use borrow.Author.Tests.{ltb-false, lt-ltb, le-ltb}
use lib.IntN.{neg_ℤ}
use Rattle.formula.specs.Causes.{any}
use Rattle.codes.specs.Codes.{last_code, opposite, has}
use Rattle.trimming_rules.specs.Trimming as Trimming
use Rattle.trimming_rules.specs.Trimming.{keep}
use Rattle.trimming_rules.specs.Private.Rounds.{untrue}
use Rattle.trimming_rules.proofs.ClauseLaws.{Every}
use Rattle.trimming_marks.specs.Marks.{is_left, marked, clashes, always_true}
use Rattle.trimming.specs.Private.Table.{literal_of, Entry, Block, standing, gone, inner, Fine, true_from}
use Rattle.trimming.proofs.CodeLaws.{opposite_literal, opposite_bounds}
use Rattle.trimming.proofs.BlockLaws.{map_append, keep_append, left_code}
use Rattle.trimming.proofs.PassLaws.{Change, Local}
use Rattle.trimming.proofs.MarkLaws.{any_left, marked_goes, none_marked, all_marked, has_literal}

-- A clause of codes is always true as its literals are.
always_true_literals : (c : List ℕ) → Every Entry c → Trimming.always_true (map literal_of (keep is_left c)) ≡ always_true c
always_true_literals c all = any_left literal_of is_left (λ z. Trimming.has (neg_ℤ z) (map literal_of (keep is_left c))) (clashes c) c (each c all)
  where
    one : (x : ℕ) → Entry x → (t : Bool) → is_left x ≡ t → (t && Trimming.has (neg_ℤ (literal_of x)) (map literal_of (keep is_left c))) ≡ clashes c x
    one x e true l =
        let s = left_code x e l in
        let o = opposite_bounds x s.0 s.1 in
        ap (λ z. Trimming.has z (map literal_of (keep is_left c))) (opposite_literal x s.0)
        ∙ has_literal (opposite x) o.0 o.1 c all
        ∙ sym (ap (λ (b : Bool). b && has (opposite x) c) (lt-ltb x (last_code + 1) s.1))
    one x e false l = let s = ltb-false x 512 l in sym (ap (λ (b : Bool). b && has (opposite x) c) (le-ltb x (last_code + 1) (omega arith)))

    each : (d : List ℕ) → Every Entry d → Every (λ x. (is_left x && Trimming.has (neg_ℤ (literal_of x)) (map literal_of (keep is_left c))) ≡ clashes c x) d
    each [] all = tt
    each (x ∷ d) all = (one x all.0 (is_left x) refl, each d all.1)

-- In a clause that is gone no entry clashes.
pub gone_not_true : (d c : List ℕ) → Every (λ x. Entry x × (512 ≤ x)) c → any (clashes d) c ≡ false
gone_not_true d [] all = refl
gone_not_true d (x ∷ c) all = rw (le-ltb x (last_code + 1) (let h = all.0.1 in omega arith)) (gone_not_true d c all.1)

pub untrue_local : Local untrue
untrue_local = record { none = refl; spread = λ xs ys. keep_append (λ c. not (Trimming.always_true c)) xs ys }

pub true_dropped : (b : Block) → Fine b → Change untrue (true_from (inner b)) 511 b
true_dropped (gone c) f =
    rw (gone_not_true c c f)
    (record {
      after = gone c;
      made = sym (map_append (marked 512 511) c (512 ∷ []) ∙ ap₂ ◌++◌ (none_marked 512 511 (omega arith) c) (none_marked 512 511 (omega arith) (512 ∷ [])));
      fine = f;
      shows = refl;
    })
true_dropped (standing c) f = go (always_true c) refl
  where
    untrue_one : (t : Bool) → always_true c ≡ t → untrue (map literal_of (keep is_left c) ∷ []) ≡ cond (not t) (map literal_of (keep is_left c) ∷ []) []
    untrue_one t e = ap (λ (b : Bool). cond (not b) (map literal_of (keep is_left c) ∷ []) []) (always_true_literals c f ∙ e)

    go : (t : Bool) → always_true c ≡ t → Change untrue (cond t 0 512) 511 (standing c)
    go true e =
        record {
          after = gone (map (marked 0 511) c);
          made = sym (map_append (marked 0 511) c (0 ∷ []) ∙ ap (λ (x : ℕ). map (marked 0 511) c ++ (x ∷ [])) end_dropped);
          fine = all_marked c f;
          shows = sym (untrue_one true e);
        }
      where
        end_dropped : marked 0 511 0 ≡ 512
        end_dropped = marked_goes 0 511 0 (omega arith) (omega arith) (omega arith)
    go false e =
        record {
          after = standing c;
          made = sym (none_marked 512 511 (omega arith) (c ++ (0 ∷ [])));
          fine = f;
          shows = sym (untrue_one false e);
        }
