-- The bytes of a place: the way down and up again over them. Assumes nothing.
use Prim.Native.Nat.{ℕ, zero, suc, ◌+◌, ◌-◌, ◌≤◌, ◌<◌}
use native.Mathlib.Omega.{arith}
use native.Mathlib.Numerals.{add-one}
use mathlib.Core.Path.{◌≡◌, refl, sym, ap, subst, ◌∙◌}
use mathlib.Core.Bool.{Bool, true, false}
use mathlib.Core.List.{List, [], ◌∷◌, ◌++◌, append_assoc}
use mathlib.Core.Option.{some}
use lib.IntN.{ℤ}
use lib.ListN.{length, take, drop, get_or, set, length-set}
use lib.Seq.{take_all}
use Rattle.restriction.specs.Outcome.{value_of, values_of}
use Rattle.study.specs.declared.Setting.{Setting}
use Rattle.case_study.specs.Cases.{State, second_value, first_value, sharing, agree, Told, told, decide_by}
use Rattle.case_study.specs.Private.Path.{formula_at, resume, to_ask, unnamed, way_of, Known, Placed, path_of, Descended, Climbed}
use Rattle.case_study.proofs.PathLaws.{same_byte, other_byte, formula_further, resume_nil, resume_further, level_second, level_enough, level_turned, fewer_further, fewer_turned}

-- A place, and j further.
abbrev on : ℕ → ℕ → ℕ
on zero j = j
on (suc d) j = suc (on d j)

on_sum : (d j : ℕ) → on d j ≡ d + j
on_sum zero j = omega arith
on_sum (suc d) j = omega (arith, on_sum d j)

-- ---- down

first_of_kind : (kind : ℕ) → kind ≤ 1 → value_of (1 - kind) ≡ first_value kind
first_of_kind zero h = refl
first_of_kind (suc zero) h = refl
first_of_kind (suc (suc k)) h = absurd (omega arith)

down_here : (j : ℕ) (kinds : List ℕ) (x : ℕ) → j < length kinds → value_of x ≡ first_value (get_or kinds j 0) → values_of (take (suc j) (set kinds j x)) ≡ way_of kinds j
unfolding way_of
down_here j [] x h e = absurd (omega arith)
down_here zero (k ∷ kinds) x h e = ap (λ (b : Bool). b ∷ []) e
down_here (suc j) (k ∷ kinds) x h e = ap (λ (l : List Bool). value_of k ∷ l) (down_here j kinds x (omega arith) e)

down : (d j : ℕ) (kinds values : List ℕ) (x : ℕ) → drop d values ≡ drop d kinds → length values ≡ length kinds → on d j < length kinds
    → value_of x ≡ first_value (get_or kinds (on d j) 0) → values_of (take (suc (on d j)) (set values (on d j) x)) ≡ values_of (take d values) ++ way_of (drop d kinds) j
down zero j kinds values x e l h f = ap (λ (vs : List ℕ). values_of (take (suc j) (set vs j x))) e ∙ down_here j kinds x h f
down (suc d) j [] values x e l h f = absurd (omega arith)
down (suc d) j (k ∷ kinds) [] x e l h f = absurd (omega arith)
down (suc d) j (k ∷ kinds) (v ∷ values) x e l h f = ap (λ (bs : List Bool). value_of v ∷ bs) (down d j kinds values x e (omega arith) (omega arith) f)

behind_set : (i : ℕ) (values : List ℕ) (x : ℕ) → drop (suc i) (set values i x) ≡ drop (suc i) values
behind_set i [] x = refl
behind_set zero (v ∷ values) x = refl
behind_set (suc i) (v ∷ values) x = behind_set i values x

further : (d i : ℕ) (kinds values : List ℕ) → d ≤ i → length values ≡ length kinds → drop d values ≡ drop d kinds → drop i values ≡ drop i kinds
further zero i kinds values h l e = ap (drop i) e
further (suc d) zero kinds values h l e = absurd (omega arith)
further (suc d) (suc i) [] [] h l e = refl
further (suc d) (suc i) [] (v ∷ values) h l e = absurd (omega arith)
further (suc d) (suc i) (k ∷ kinds) [] h l e = absurd (omega arith)
further (suc d) (suc i) (k ∷ kinds) (v ∷ values) h l e = further d i kinds values (omega arith) (omega arith) e

all_passed : (kinds : List ℕ) (j : ℕ) → length kinds ≤ j → way_of kinds j ≡ values_of kinds
unfolding way_of
all_passed [] j h = refl
all_passed (k ∷ kinds) zero h = absurd (omega arith)
all_passed (k ∷ kinds) (suc j) h = ap (λ (l : List Bool). value_of k ∷ l) (all_passed kinds j (omega arith))

down_all : (d j : ℕ) (kinds values : List ℕ) → drop d values ≡ drop d kinds → length values ≡ length kinds → length kinds ≤ on d j
    → values_of values ≡ values_of (take d values) ++ way_of (drop d kinds) j
down_all zero j kinds values e l h = ap values_of e ∙ sym (all_passed kinds j h)
down_all (suc d) j [] [] e l h = sym (all_passed [] j (omega arith))
down_all (suc d) j [] (v ∷ values) e l h = absurd (omega arith)
down_all (suc d) j (k ∷ kinds) [] e l h = absurd (omega arith)
down_all (suc d) j (k ∷ kinds) (v ∷ values) e l h = ap (λ (bs : List Bool). value_of v ∷ bs) (down_all d j kinds values e (omega arith) (omega arith))

known_set : (values : List ℕ) (i x : ℕ) → Known values → x ≤ 1 → Known (set values i x)
known_set [] i x h l k = h k
known_set (v ∷ values) zero x h l zero = l
known_set (v ∷ values) zero x h l (suc k) = h (suc k)
known_set (v ∷ values) (suc i) x h l zero = h zero
known_set (v ∷ values) (suc i) x h l (suc k) = known_set values i x (λ n. h (suc n)) l k

module _ (kinds : List ℕ) (literals : List ℤ) (values : List ℕ) (depth : ℕ) (p : Placed kinds values depth) (kinds_known : Known kinds) (j level : ℕ)
    (on_j : j ≡ unnamed (length kinds - depth) literals) (on_level : level ≡ depth + j) where
  on_place : level ≡ on depth j
  on_place = on_level ∙ sym (on_sum depth j)

  pub descended : level < length kinds → Descended kinds literals values depth (set values level (1 - get_or kinds level 0)) (level + 1)
  descended h =
      let x = 1 - get_or kinds level 0 in
      let one : level + 1 ≡ suc level = add-one level in
      record {
        placed =
            record {
              as_long = length-set values level x ∙ p.as_long;
              below = omega (arith, h);
              known = known_set values level x p.known (omega arith);
              behind =
                  ap (λ (i : ℕ). drop i (set values level x)) one ∙ behind_set level values x
                  ∙ further depth (suc level) kinds values (omega (arith, on_level)) p.as_long p.behind ∙ ap (λ (i : ℕ). drop i kinds) (sym one);
            };
        gone =
            ap (λ (i : ℕ). values_of (take i (set values level x))) one
            ∙ ap (λ (i : ℕ). values_of (take (suc i) (set values i x))) on_place
            ∙ down depth j kinds values x p.behind p.as_long (omega (arith, h, on_place)) (first_of_kind (get_or kinds level 0) (kinds_known level) ∙ ap (λ (i : ℕ). first_value (get_or kinds i 0)) on_place)
            ∙ ap (λ (i : ℕ). values_of (take depth values) ++ way_of (drop depth kinds) i) on_j;
      }

  pub descended_all : length kinds ≤ level → level ≤ length kinds → Descended kinds literals values depth values level
  descended_all h g =
      record {
        placed =
            record {
              as_long = p.as_long;
              below = g;
              known = p.known;
              behind = further depth level kinds values (omega (arith, on_level)) p.as_long p.behind;
            };
        gone =
            ap values_of (take_all level values (omega (arith, h, p.as_long)))
            ∙ down_all depth j kinds values p.behind p.as_long (omega (arith, h, on_place))
            ∙ ap (λ (i : ℕ). values_of (take depth values) ++ way_of (drop depth kinds) i) on_j;
      }

-- ---- up

pub path_snoc : (values : List ℕ) (i : ℕ) → i < length values → values_of (take (suc i) values) ≡ values_of (take i values) ++ (value_of (get_or values i 0) ∷ [])
path_snoc [] i h = absurd (omega arith)
path_snoc (v ∷ values) zero h = refl
path_snoc (v ∷ values) (suc i) h = ap (λ (l : List Bool). value_of v ∷ l) (path_snoc values i (omega arith))

pub drop_cons : (kinds : List ℕ) (i : ℕ) → i < length kinds → drop i kinds ≡ get_or kinds i 0 ∷ drop (suc i) kinds
drop_cons [] i h = absurd (omega arith)
drop_cons (k ∷ kinds) zero h = refl
drop_cons (k ∷ kinds) (suc i) h = drop_cons kinds i (omega arith)

before_set : (values : List ℕ) (i x : ℕ) → take i (set values i x) ≡ take i values
before_set [] i x = refl
before_set (v ∷ values) zero x = refl
before_set (v ∷ values) (suc i) x = ap (λ (l : List ℕ). v ∷ l) (before_set values i x)

set_there : (values : List ℕ) (i x : ℕ) → i < length values → get_or (set values i x) i 0 ≡ x
set_there [] i x h = absurd (omega arith)
set_there (v ∷ values) zero x h = refl
set_there (v ∷ values) (suc i) x h = set_there values i x (omega arith)

pub path_length : (values : List ℕ) (i : ℕ) → i ≤ length values → length (values_of (take i values)) ≡ i
path_length values zero h = refl
path_length [] (suc i) h = absurd (omega arith)
path_length (v ∷ values) (suc i) h = ap suc (path_length values i (omega arith))

-- On the way up from a place that was told a verdict: what it comes to is what it comes to at the level reached.
pub record Climbing (kinds values₀ : List ℕ) (depth : ℕ) (v : Bool) (values : List ℕ) (level : ℕ) : Type 0 where
  pub placed : Placed kinds values level
  pub handed : (s : Setting) (bound n : ℕ) (literals : List ℤ) (st : State)
      → resume s bound n kinds literals (path_of values₀ depth) (told (some v) st) ≡ resume s bound n kinds literals (path_of values level) (told (some v) st)
  pub rest : List Bool
  pub whole : path_of values₀ depth ≡ path_of values level ++ rest

module _ (kinds values₀ : List ℕ) (depth : ℕ) (v : Bool) (values : List ℕ) (level : ℕ) (going : Climbing kinds values₀ depth v values level) where
  pub climbed_top : level ≤ 0 → Climbed kinds values₀ depth v values 0
  climbed_top h =
      let top : level ≡ 0 = omega (arith, h) in
      record {
        placed = subst (Placed kinds values) top going.placed;
        told_at_top =
            λ _ s bound n literals st.
            going.handed s bound n literals st ∙ ap (λ (i : ℕ). resume s bound n kinds literals (path_of values i) (told (some v) st)) top
            ∙ resume_nil s bound n kinds literals (told (some v) st);
        turned = λ no. absurd (no refl);
        fewer = λ no. absurd (no refl);
      }

  module _ (above : ℕ) (up : level ≡ suc above) where
    inside : above < length kinds
    inside = omega (arith, up, going.placed.below)

    in_values : above < length values
    in_values = omega (arith, inside, going.placed.as_long)

    abbrev kind : ℕ
    kind = get_or kinds above 0

    abbrev w : Bool
    w = value_of (get_or values above 0)

    abbrev P : List Bool
    P = path_of values above

    as_long : length P ≡ above
    as_long = path_length values above (omega (arith, in_values))

    behind : drop (length P) kinds ≡ kind ∷ drop (suc above) kinds
    behind = ap (λ (i : ℕ). drop i kinds) as_long ∙ drop_cons kinds above inside

    in_kinds : length P ≤ length kinds
    in_kinds = omega (arith, as_long, inside)

    level_path : path_of values level ≡ P ++ (w ∷ [])
    level_path = ap (λ (i : ℕ). path_of values i) up ∙ path_snoc values above in_values

    module _ (s : Setting) (bound n : ℕ) (literals : List ℤ) where
      abbrev there : List ℤ
      there = formula_at s kinds literals P

      one_up : (x : Bool) (t : Told)
          → resume s bound n kinds literals (P ++ (x ∷ [])) t ≡ resume s bound n kinds literals P (resume s bound n (kind ∷ drop (suc above) kinds) there (x ∷ []) t)
      one_up x t =
          resume_further s bound n kinds literals P (x ∷ []) t in_kinds
          ∙ ap (λ (ks : List ℕ). resume s bound n kinds literals P (resume s bound n ks there (x ∷ []) t)) behind

      handed_up : (st : State)
          → resume s bound n kinds literals (path_of values₀ depth) (told (some v) st)
          ≡ resume s bound n kinds literals P (resume s bound n (kind ∷ drop (suc above) kinds) there (w ∷ []) (told (some v) st))
      handed_up st =
          going.handed s bound n literals st ∙ ap (λ (path : List Bool). resume s bound n kinds literals path (told (some v) st)) level_path ∙ one_up w (told (some v) st)

    -- The level's own value is its second one then.
    all_known : Known kinds → Known (set values above kind)
    all_known kinds_known = known_set values above kind going.placed.known (kinds_known above)

    behind_now : drop (suc above) (set values above kind) ≡ drop (suc above) kinds
    behind_now = behind_set above values kind ∙ ap (λ (i : ℕ). drop i values) (sym up) ∙ going.placed.behind ∙ ap (λ (i : ℕ). drop i kinds) up

    behind_above : drop above (set values above kind) ≡ drop above kinds
    behind_above =
        drop_cons (set values above kind) above (omega (arith, in_values, length-set values above kind))
        ∙ (λ d. set_there values above kind in_values d ∷ behind_now d) ∙ sym (drop_cons kinds above inside)

    whole_up : path_of values₀ depth ≡ P ++ (w ∷ going.rest)
    whole_up = going.whole ∙ ap (λ (path : List Bool). path ++ going.rest) level_path ∙ append_assoc P (w ∷ []) going.rest

    -- A level in its second case, or passed over.
    pub past_second : get_or values above 0 ≡ kind → Climbing kinds values₀ depth v values above
    past_second e =
        record {
          placed =
              record {
                as_long = going.placed.as_long;
                below = omega (arith, inside);
                known = going.placed.known;
                behind =
                    drop_cons values above in_values
                    ∙ (λ d. e d ∷ (ap (λ (i : ℕ). drop i values) (sym up) ∙ going.placed.behind ∙ ap (λ (i : ℕ). drop i kinds) up) d)
                    ∙ sym (drop_cons kinds above inside);
              };
          handed =
              λ s bound n literals st.
              handed_up s bound n literals st
              ∙ ap (resume s bound n kinds literals P) (level_second s bound n kind (drop (suc above) kinds) (there s bound n literals) w v st (same_byte (get_or values above 0) kind e));
          rest = w ∷ going.rest;
          whole = whole_up;
        }

    module _ (kinds_known : Known kinds) (differs : get_or values above 0 ≡ kind → ⊥) where
      is_first : agree w (first_value kind) ≡ true
      is_first = other_byte (get_or values above 0) kind (going.placed.known above) (kinds_known above) differs

      -- A level in its first case, for which the verdict is enough.
      pub past_first : agree v (first_value kind) ≡ true → Climbing kinds values₀ depth v (set values above kind) above
      past_first enough =
          let same : path_of (set values above kind) above ≡ P = ap values_of (before_set values above kind) in
          record {
            placed =
                record {
                  as_long = length-set values above kind ∙ going.placed.as_long;
                  below = omega (arith, inside);
                  known = all_known kinds_known;
                  behind = behind_above;
                };
            handed =
                λ s bound n literals st.
                handed_up s bound n literals st
                ∙ ap (resume s bound n kinds literals P) (level_enough s bound n kind (drop (suc above) kinds) (there s bound n literals) w v st is_first enough)
                ∙ ap (λ (path : List Bool). resume s bound n kinds literals path (told (some v) st)) (sym same);
            rest = w ∷ going.rest;
            whole = whole_up ∙ ap (λ (path : List Bool). path ++ (w ∷ going.rest)) (sym same);
          }

      -- A level whose second case is next.
      pub turned_there : agree v (first_value kind) ≡ false → Climbed kinds values₀ depth v (set values above kind) level
      turned_there wanted =
          let after = set values above kind in
          let now_path : path_of after level ≡ P ++ (second_value kind ∷ []) =
          ap (λ (i : ℕ). path_of after i) up ∙ path_snoc after above (omega (arith, in_values, length-set values above kind))
          ∙ (λ d. ap values_of (before_set values above kind) d ++ (value_of (set_there values above kind in_values d) ∷ [])) in
          record {
            placed =
                record {
                  as_long = length-set values above kind ∙ going.placed.as_long;
                  below = going.placed.below;
                  known = all_known kinds_known;
                  behind = ap (λ (i : ℕ). drop i after) up ∙ behind_now ∙ ap (λ (i : ℕ). drop i kinds) (sym up);
                };
            told_at_top = λ top. absurd (omega (arith, top, up));
            turned =
                λ _ s bound n literals st.
                let phi = formula_at s (kind ∷ drop (suc above) kinds) (there s bound n literals) (second_value kind ∷ []) in
                let formula : formula_at s kinds literals (path_of after level) ≡ phi =
                ap (formula_at s kinds literals) now_path ∙ formula_further s kinds literals P (second_value kind ∷ []) in_kinds
                ∙ ap (λ (ks : List ℕ). formula_at s ks (there s bound n literals) (second_value kind ∷ [])) behind in
                handed_up s bound n literals st
                ∙ ap (resume s bound n kinds literals P) (level_turned s bound n kind (drop (suc above) kinds) (there s bound n literals) w v st is_first wanted)
                ∙ sym (one_up s bound n literals (second_value kind) (decide_by s bound n (sharing v) (drop (suc above) kinds) phi st))
                ∙ (λ d. resume s bound n kinds literals (sym now_path d) (decide_by s bound n (sharing v) (drop (sym up d) kinds) (sym formula d) st));
            fewer =
                λ _.
                subst (λ (path : List Bool). to_ask kinds path < to_ask kinds (path_of values₀ depth)) (sym now_path)
                (subst (λ (path : List Bool). to_ask kinds (P ++ (second_value kind ∷ [])) < to_ask kinds path) (sym whole_up)
                (fewer_further kinds P (second_value kind ∷ []) (w ∷ going.rest) in_kinds
                (subst (λ (ks : List ℕ). to_ask ks (second_value kind ∷ []) < to_ask ks (w ∷ going.rest)) (sym behind)
                (fewer_turned kind (drop (suc above) kinds) w going.rest is_first))));
          }
