-- The entries that are left, written one after the other. Assumes nothing.
use Prim.Native.Nat.{ℕ, zero, suc, ◌+◌, ◌-◌, ◌≤◌, ◌<◌}
use native.Mathlib.Omega.{arith}
use mathlib.Core.Path.{◌≡◌, refl, sym, ap, ap₂, ◌∙◌}
use mathlib.Core.Bool.{Bool, true, false}
use mathlib.Core.List.{List, [], ◌∷◌, ◌++◌, append-nil, append_assoc}
use lib.IntN.{ℤ, pos, negsuc, nat_abs}
use lib.ListN.{length, get_or, drop, set, length-append}
use lib.Seq.{append_snoc, set_at}
use Rattle.formula.specs.Literal.{negative}
use Rattle.formula.proofs.Places.{drop_front}
use Rattle.named.specs.Named.{signed}
use Rattle.case_rules.specs.Restricted.{Remains, is_true, is_false, stays, of_literal}
use Rattle.restriction.specs.Outcome.{values_of}
use Rattle.restriction.specs.Private.Walk.{stands, is_set, literal_left, entry_left, kept_after, walked_from, walked, put}
use Rattle.restriction.proofs.EntryLaws.{as_many, entry_set, entry_moved}

-- ---- an entry

one_literal : (r : Remains) → length (literal_left r) ≤ 1
one_literal is_true = omega arith
one_literal is_false = omega arith
one_literal (stays z) = omega arith

pub one_entry : (vs : List Bool) (kept : Bool) (z : ℤ) → length (entry_left vs kept z) ≤ 1
one_entry vs false z = omega arith
one_entry vs true (pos zero) = omega arith
one_entry vs true (pos (suc v)) = one_literal (of_literal vs (pos (suc v)))
one_entry vs true (negsuc v) = one_literal (of_literal vs (negsuc v))

-- What is written of the entry z of a clause.
abbrev Writes : List ℕ → Bool → ℤ → List ℤ → ℕ → ℕ → List ℤ → Type 0
Writes values kept z output to r exit =
    (r ≡ to + length (entry_left (values_of values) kept z)) × (exit ≡ put (entry_left (values_of values) kept z) to output)

writes : (values : List ℕ) (kept : Bool) (z : ℤ) (output : List ℤ) (to : ℕ) (e : List ℤ) → entry_left (values_of values) kept z ≡ e
    → (r : ℕ) (exit : List ℤ) → r ≡ to + length e → exit ≡ put e to output → Writes values kept z output to r exit
writes values kept z output to e is r exit er ex =
    (er ∙ ap (λ (l : List ℤ). to + length l) (sym is), ex ∙ ap (λ (l : List ℤ). put l to output) (sym is))

module _ (values : List ℕ) (kept : Bool) (z : ℤ) (output : List ℤ) (to : ℕ) where
  -- Nothing of a clause that is dropped ..
  pub dropped_writes : kept ≡ false → Writes values kept z output to to output
  dropped_writes dropped =
      let none = ap (λ (k : Bool). entry_left (values_of values) k z) dropped in
      writes values kept z output to [] none to output (omega arith) refl

  module _ (is_kept : kept ≡ true) (name : ℕ) (en : name ≡ nat_abs z) where
    as_kept : entry_left (values_of values) kept z ≡ entry_left (values_of values) true z
    as_kept = ap (λ (k : Bool). entry_left (values_of values) k z) is_kept

    set_as : is_set (nat_abs z) (length (values_of values)) ≡ is_set name (length values)
    set_as = ap₂ is_set (sym en) (as_many values)

    -- .. nor of a literal whose unknown is set ..
    pub set_writes : is_set name (length values) ≡ true → Writes values kept z output to to output
    set_writes e =
        let none = as_kept ∙ entry_set (values_of values) z (set_as ∙ e) in
        writes values kept z output to [] none to output (omega arith) refl

    -- .. and of any other entry one.
    pub moved_writes : is_set name (length values) ≡ false → (sign : Bool) → sign ≡ negative z → (m : ℕ) → m ≡ name - length values
        → (y : ℤ) → y ≡ signed sign m → Writes values kept z output to (to + 1) (set output to y)
    moved_writes e sign es m em y ey =
        let by_name = ap₂ (λ (n d : ℕ). n - d) (sym en) (as_many values) in
        let moved = entry_moved (values_of values) z (set_as ∙ e) ∙ ap₂ (λ (s : Bool) (k : ℕ). signed s k ∷ []) (sym es) (by_name ∙ sym em) in
        let one = as_kept ∙ moved ∙ ap (λ (x : ℤ). x ∷ []) (sym ey) in
        writes values kept z output to (y ∷ []) one (to + 1) (set output to y) refl refl

put_behind : (done e output : List ℤ) (to : ℕ) → to ≡ length done → length e ≤ 1 → to < length output
    → put e to (done ++ drop to output) ≡ (done ++ e) ++ drop (to + length e) output
put_behind done [] output to counted one room =
    let same : to ≡ to + 0 = omega arith in
    ap (λ (n : ℕ). done ++ drop n output) same ∙ ap (λ (l : List ℤ). l ++ drop (to + 0) output) (sym (append-nil done))
put_behind done (y ∷ []) output to counted one room =
    ap (λ (l : List ℤ). set (done ++ l) to y) (drop_front output to (pos 0) room)
    ∙ set_at done (get_or output to (pos 0)) (drop (to + 1) output) y to (sym counted)
    ∙ sym (append_snoc done y (drop (to + 1) output))
put_behind done (y ∷ x ∷ e) output to counted one room = absurd (omega arith)

-- ---- the loop

module _ (vs : List Bool) (literals output₀ : List ℤ) where
  -- What is done of the whole, and what the entries from i on are still to leave.
  pub record Written (kept : Bool) (output : List ℤ) (to i : ℕ) : Type 0 where
    pub inside : i ≤ length literals
    pub done : List ℤ
    pub whole : walked vs literals ≡ done ++ walked_from vs kept (drop i literals)
    pub counted : to ≡ length done
    pub few : to ≤ i
    pub is : output ≡ done ++ drop to output₀

  pub written_begins : (kept : Bool) → kept ≡ stands vs literals → Written kept output₀ 0 0
  unfolding walked
  written_begins kept e =
      record {
        inside = omega arith;
        done = [];
        whole = ap (λ (k : Bool). walked_from vs k literals) (sym e);
        counted = refl;
        few = omega arith;
        is = refl;
      }

  module _ (room : length literals ≤ length output₀) {kept : Bool} {output : List ℤ} {to i : ℕ} (w : Written kept output to i) where
    module _ (below : i < length literals) where
      abbrev z : ℤ
      z = get_or literals i (pos 0)

      abbrev e : List ℤ
      e = entry_left vs kept z

      pub written_more : (kept' : Bool) (output' : List ℤ) (to' : ℕ) → kept' ≡ kept_after vs kept z (drop (i + 1) literals) → to' ≡ to + length e
          → output' ≡ put e to output → Written kept' output' to' (i + 1)
      written_more kept' output' to' ek et eo =
          record {
            inside = omega arith;
            done = w.done ++ e;
            whole =
                w.whole
                ∙ ap (λ (l : List ℤ). w.done ++ walked_from vs kept l) (drop_front literals i (pos 0) below)
                ∙ ap (λ (k : Bool). w.done ++ (e ++ walked_from vs k (drop (i + 1) literals))) (sym ek)
                ∙ sym (append_assoc w.done e (walked_from vs kept' (drop (i + 1) literals)));
            counted = et ∙ ap (λ (n : ℕ). n + length e) w.counted ∙ sym (length-append w.done e);
            few = let f = w.few in let one = one_entry vs kept z in omega arith;
            is =
                eo
                ∙ ap (put e to) w.is
                ∙ put_behind w.done e output₀ to w.counted (one_entry vs kept z) (let f = w.few in omega arith)
                ∙ ap (λ (n : ℕ). (w.done ++ e) ++ drop n output₀) (sym et);
          }
