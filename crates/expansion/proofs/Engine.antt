-- From a search's table to the first model: the problem that rows and preferences make, with the rows in any order; a success over all rows is
-- the first model, and a refutation that rests on nothing means that there is none. Assumes nothing.
use Prim.Native.Nat.{ℕ, zero, suc, ◌≤◌, ◌<◌}
use mathlib.Core.Path.{◌≡◌, refl, sym, ◌∙◌, ap, subst}
use mathlib.Core.Logic.{inl, inr, ⊎_elim}
use mathlib.Core.Bool.{Bool, true, false, not, ◌&&◌, false≢true}
use mathlib.Core.List.{List, [], ◌∷◌, map}
use mathlib.Core.Option.{Option, none, some}
use native.Mathlib.Omega.{arith}
use native.Mathlib.Nat.{le_of_lt}
use lib.IntN.{ℤ, pos, negsuc}
use lib.ListN.{length, get_or, length-map}
use Rattle.formula.specs.Formula.{Kind, existential, universal, Clause}
use Rattle.formula.specs.Meaning.{literal, clause, matrix}
use Rattle.expansion.specs.Side.{own, flags, goal}
use Rattle.expansion.specs.Play.{Row, Strategy, restriction, play, part, first_value, later_values}
use Rattle.expansion.specs.Model.{wins, yielded, search}
use Rattle.expansion.proofs.CopyLaws.{Own}
use Rattle.expansion.proofs.FirstModel.{none_if_no_strategy}
use Rattle.expansion.specs.Cells.{Values, Cells, others_before, tabulate}
pub use Rattle.expansion.specs.Private.Matrix.{literal_at, goal_at, Names}
use Rattle.expansion.proofs.Leading.{wanted, Playing, Leading}
use Rattle.expansion.proofs.LeadingPath.{first_at, later_at, play_at_own, play_at_other, own_within}
use Rattle.expansion.proofs.LeadingFirst.{played, play_of_played, played_wins, leading_is_first}
use Rattle.expansion.proofs.Booleans.{true_or_false, never_both}
use Rattle.expansion.proofs.Cuts.{Mask, Problem, Agree, Sound, Model, Refuted}
use Rattle.expansion.proofs.Node.{Won}
use Rattle.expansion.proofs.ClauseCuts.{Every, clause_at, matrix_at}

-- ---- restrictions and the values before a position

-- The value of a row at a position that is not own.
abbrev pub row_value : List Bool → Row → ℕ → Bool
row_value ts row l = get_or row (others_before ts l) false

pub restriction_of_values : (ts : List Bool) (k : ℕ) (a b : Row) → ((l : ℕ) → l < k → get_or ts l false ≡ false → row_value ts a l ≡ row_value ts b l) →
    restriction ts k a ≡ restriction ts k b
restriction_of_values ts zero a b h = refl
restriction_of_values [] (suc k) a b h = refl
restriction_of_values (true ∷ ts) (suc k) a b h = restriction_of_values ts k a b (λ l lt o. h (suc l) (omega arith) o)
restriction_of_values (false ∷ ts) (suc k) a b h =
    let front : first_value a ≡ first_value b = sym (first_at a) ∙ h zero (omega arith) refl ∙ first_at b in
    rw (
      front,
      restriction_of_values ts k (later_values a) (later_values b) (λ l lt o. sym (later_at a (others_before ts l)) ∙ h (suc l) (omega arith) o ∙
          later_at b (others_before ts l)),
    )

head_same : (x y : Bool) (xs ys : List Bool) → ◌≡◌ {A = List Bool} (x ∷ xs) (y ∷ ys) → x ≡ y
head_same x y xs ys e = cc

tail_same : (x y : Bool) (xs ys : List Bool) → ◌≡◌ {A = List Bool} (x ∷ xs) (y ∷ ys) → xs ≡ ys
tail_same x y xs ys e = cc

pub values_of_restriction : (ts : List Bool) (k : ℕ) (a b : Row) → restriction ts k a ≡ restriction ts k b → (l : ℕ) → l < k → l < length ts →
    get_or ts l false ≡ false → row_value ts a l ≡ row_value ts b l
values_of_restriction ts zero a b e l lt ll o = absurd (omega arith)
values_of_restriction [] (suc k) a b e l lt ll o = absurd (omega arith)
values_of_restriction (true ∷ ts) (suc k) a b e zero lt ll o = absurd (never_both refl o)
values_of_restriction (true ∷ ts) (suc k) a b e (suc l) lt ll o = values_of_restriction ts k a b e l (omega arith) (omega arith) o
values_of_restriction (false ∷ ts) (suc k) a b e zero lt ll o =
    first_at a ∙ head_same (first_value a) (first_value b) (restriction ts k (later_values a)) (restriction ts k (later_values b)) e ∙ sym (first_at b)
values_of_restriction (false ∷ ts) (suc k) a b e (suc l) lt ll o =
    later_at a (others_before ts l)
    ∙ values_of_restriction ts k (later_values a) (later_values b) (tail_same (first_value a) (first_value b) (restriction ts k (later_values a))
    (restriction ts k (later_values b)) e) l (omega arith) (omega arith) o
    ∙ sym (later_at b (others_before ts l))

-- ---- values as a list

module _ {A : Type 0} where
  pub length_tabulate : (n : ℕ) (f : ℕ → A) → length (tabulate n f) ≡ n
  length_tabulate zero f = refl
  length_tabulate (suc n) f = ap suc (length_tabulate n (λ j. f (suc j)))

  pub tabulate_at : (n : ℕ) (f : ℕ → A) (j : ℕ) (d : A) → j < n → get_or (tabulate n f) j d ≡ f j
  tabulate_at zero f j d lt = absurd (omega arith)
  tabulate_at (suc n) f zero d lt = refl
  tabulate_at (suc n) f (suc j) d lt = tabulate_at n (λ i. f (suc i)) j d (omega arith)

  pub map_tabulate : {B : Type 0} (g : A → B) (n : ℕ) (f : ℕ → A) → map g (tabulate n f) ≡ tabulate n (λ j. g (f j))
  map_tabulate g zero f = refl
  map_tabulate g (suc n) f = ap (λ xs. g (f zero) ∷ xs) (map_tabulate g n (λ j. f (suc j)))

-- ---- the matrix over values by position

literal_of_list : (vs : List Bool) (z : ℤ) → literal vs z ≡ literal_at (λ j. get_or vs j false) z
literal_of_list vs (pos zero) = refl
literal_of_list vs (pos (suc x)) = refl
literal_of_list vs (negsuc x) = refl

clause_of_list : (vs : List Bool) (c : Clause) → clause vs c ≡ clause_at literal_at (λ j. get_or vs j false) c
clause_of_list vs [] = refl
clause_of_list vs (z ∷ c) = rw (literal_of_list, clause_of_list vs c) refl

pub matrix_of_list : (cs : List Clause) (vs : List Bool) → matrix cs vs ≡ matrix_at literal_at cs (λ j. get_or vs j false)
matrix_of_list [] vs = refl
matrix_of_list (c ∷ cs) vs = rw (clause_of_list, matrix_of_list cs vs) refl

goal_of_list : (side : Kind) (cs : List Clause) (vs : List Bool) → goal side (matrix cs) vs ≡ goal_at side cs (λ j. get_or vs j false)
goal_of_list existential cs vs = matrix_of_list cs vs
goal_of_list universal cs vs = ap not (matrix_of_list cs vs)

-- the matrix looks only at unknowns that are named
module _ (n : ℕ) (f g : ℕ → Bool) (same : (j : ℕ) → j < n → f j ≡ g j) where
  literal_same : (z : ℤ) → Names n z → literal_at f z ≡ literal_at g z
  literal_same (pos (suc x)) h = same x h
  literal_same (negsuc x) h = ap not (same x h)
  literal_same (pos zero) h = elim h [ ]

  clause_same : (c : Clause) → Every (Names n) c → clause_at literal_at f c ≡ clause_at literal_at g c
  clause_same [] h = refl
  clause_same (z ∷ c) h = rw (literal_same z h.0, clause_same c h.1)

  pub matrix_same : (cs : List Clause) → Every (Every (Names n)) cs → matrix_at literal_at cs f ≡ matrix_at literal_at cs g
  matrix_same [] h = refl
  matrix_same (c ∷ cs) h = rw (clause_same c h.0, matrix_same cs h.1)

pub goal_same : (side : Kind) (n : ℕ) (cs : List Clause) → Every (Every (Names n)) cs → (f g : ℕ → Bool) → ((j : ℕ) → j < n → f j ≡ g j) →
    goal_at side cs f ≡ goal_at side cs g
goal_same existential n cs named f g same = matrix_same n f g same cs named
goal_same universal n cs named f g same = ap not (matrix_same n f g same cs named)

-- ---- the problem

-- The places 0 to c of a table and the rows 0 to c of a list, each other's.
pub record Places (c : ℕ) (row place_of : ℕ → ℕ) : Type 0 where
  pub row_below : (i : ℕ) → i < c → row i < c
  pub place_below : (i : ℕ) → i < c → place_of i < c
  pub row_of_place : (i : ℕ) → i < c → row (place_of i) ≡ i

-- The problem over rows that stand in a table at other places: place i holds row `row i`.
unfoldable pub problem : (ℕ → Bool) → Kind → List Kind → List Clause → List Row → (ℕ → ℕ) → Problem
problem prefer side ks cs rows row =
    record {
      n = length ks;
      count = length rows;
      own = λ j. get_or (flags side ks) j false;
      given = λ i j. row_value (flags side ks) (get_or rows (row i) []) j;
      goal = goal_at side cs;
      wanted = λ i j. wanted prefer (flags side ks) rows j (restriction (flags side ks) j (get_or rows (row i) []));
    }

module _ (prefer : ℕ → Bool) (side : Kind) (ks : List Kind) (cs : List Clause) (rows : List Row) (row place_of : ℕ → ℕ)
    (named : Every (Every (Names (length ks))) cs) (places : Places (length rows) row place_of) where
  pub problem_sound : Sound (problem prefer side ks cs rows row)
  unfolding problem
  problem_sound =
      record {
        goal_of_values = λ f g same e. sym (goal_same side (length ks) cs named f g same) ∙ e;
        wanted_alike = λ i h j hi hh hj o ag. ap (wanted prefer (flags side ks) rows j) (restriction_of_values (flags side ks) j (get_or rows (row i) [])
            (get_or rows (row h) []) ag);
      }

  all_wins : (σ : Strategy) (xs : List Row) → wins (flags side ks) (goal side (matrix cs)) σ xs ≡ true → (i : ℕ) → i < length xs →
      goal side (matrix cs) (play (flags side ks) σ (get_or xs i [])) ≡ true
  all_wins σ [] w i lt = absurd (omega arith)
  all_wins σ (x ∷ xs) w zero lt = left (goal side (matrix cs) (play (flags side ks) σ x)) (wins (flags side ks) (goal side (matrix cs)) σ xs) w
    where
      left : (a b : Bool) → (a && b) ≡ true → a ≡ true
      left true b e = refl
      left false b e = e
  all_wins σ (x ∷ xs) w (suc i) lt = all_wins σ xs (right (goal side (matrix cs) (play (flags side ks) σ x)) (wins (flags side ks) (goal side (matrix cs)) σ xs)
      w) i (omega arith)
    where
      right : (a b : Bool) → (a && b) ≡ true → b ≡ true
      right true b e = e
      right false b e = absurd (false≢true e)

  -- a winning strategy is a model of the problem
  pub model_of_strategy : (σ : Strategy) → wins (flags side ks) (goal side (matrix cs)) σ rows ≡ true →
      Model (problem prefer side ks cs rows row) (λ i j. get_or (play (flags side ks) σ (get_or rows (row i) [])) j false)
  unfolding problem
  model_of_strategy σ w =
      record {
        follows = λ i j hi hj o. play_at_other (flags side ks) σ (get_or rows (row i) []) j (subst (λ (x : ℕ). j < x) (sym (length-map ks (own side))) hj) o;
        uniform = λ i h j hi hh hj o ag.
            play_at_own (flags side ks) σ (get_or rows (row i) []) j o
            ∙ ap (σ j) (restriction_of_values (flags side ks) j (get_or rows (row i) []) (get_or rows (row h) []) ag)
            ∙ sym (play_at_own (flags side ks) σ (get_or rows (row h) []) j o);
        reaches = λ i hi. sym (goal_of_list side cs (play (flags side ks) σ (get_or rows (row i) []))) ∙ all_wins σ rows w (row i) (places.row_below i hi);
      }

  -- nothing is left to rest on: no model
  pub refuted_is_none : (v : ℕ → Bool) (D : Mask) → 0 < length rows → Refuted (problem prefer side ks cs rows row) 0 v D 0 →
      search prefer side ks (matrix cs) rows ≡ none
  unfolding search
  refuted_is_none v D some_row refuted =
      ap (yielded (flags side ks) rows)
      (none_if_no_strategy prefer (flags side ks) (goal side (matrix cs)) rows
      (λ σ. ⊎_elim (λ w. absurd (refuted (λ i j. get_or (play (flags side ks) σ (get_or rows (row i) [])) j false) (model_of_strategy σ w)
      (λ l lt d. absurd (omega arith)))) (λ w. w) (true_or_false (wins (flags side ks) (goal side (matrix cs)) σ rows))))

  -- the plays of a table of values, in the rows' order
  abbrev pub plays : Values → List (List Bool)
  plays m = tabulate (length rows) (λ i. tabulate (length ks) (m (place_of i)))

  play_at : (m : Values) (i : ℕ) → i < length rows → get_or (plays m) i [] ≡ tabulate (length ks) (m (place_of i))
  play_at m i lt = tabulate_at (length rows) (λ h. tabulate (length ks) (m (place_of h))) i [] lt

  value_at : (m : Values) (i j : ℕ) → i < length rows → j < length ks → get_or (get_or (plays m) i []) j false ≡ m (place_of i) j
  value_at m i j li lj = ap (λ (p : List Bool). get_or p j false) (play_at m i li) ∙ tabulate_at (length ks) (m (place_of i)) j false lj

  own_below : (j : ℕ) → Own (flags side ks) j → j < length ks
  own_below j o = subst (λ (x : ℕ). j < x) (length-map ks (own side)) (own_within (flags side ks) j o)

  row_back : (i : ℕ) → i < length rows → get_or rows (row (place_of i)) [] ≡ get_or rows i []
  row_back i lt = ap (λ (x : ℕ). get_or rows x []) (places.row_of_place i lt)

  agree_of_restriction : (i h j : ℕ) → i < length rows → h < length rows → j ≤ length ks →
      restriction (flags side ks) j (get_or rows i []) ≡ restriction (flags side ks) j (get_or rows h []) →
      Agree (problem prefer side ks cs rows row) (place_of i) (place_of h) j
  unfolding problem
  agree_of_restriction i h j li lh lj e l lt o =
      ap (λ (r : Row). row_value (flags side ks) r l) (row_back i li)
      ∙ values_of_restriction (flags side ks) j (get_or rows i []) (get_or rows h []) e l lt
      (subst (λ (x : ℕ). l < x) (sym (length-map ks (own side))) (omega arith)) o
      ∙ sym (ap (λ (r : Row). row_value (flags side ks) r l) (row_back h lh))

  -- a model's plays are those of a strategy, which wins
  model_playing : (m : Values) → Model (problem prefer side ks cs rows row) m → Playing (flags side ks) rows (plays m)
  unfolding problem
  model_playing m M =
      record {
        one_each = length_tabulate (length rows) (λ i. tabulate (length ks) (m (place_of i)));
        fits = λ i li.
            record {
              whole = ap length (play_at m i li) ∙ length_tabulate (length ks) (m (place_of i)) ∙ sym (length-map ks (own side));
              row_values = λ k lk o.
                  let below : k < length ks = subst (λ (x : ℕ). k < x) (length-map ks (own side)) lk in
                  value_at m i k li below
                  ∙ M.follows (place_of i) k (places.place_below i li) below o
                  ∙ ap (λ (r : Row). row_value (flags side ks) r k) (row_back i li);
            };
        uniform = λ i h k li lh o e.
            value_at m i k li (own_below k o)
            ∙ M.uniform (place_of i) (place_of h) k (places.place_below i li) (places.place_below h lh) (own_below k o) o
            (agree_of_restriction i h k li lh (le_of_lt (own_below k o)) e)
            ∙ sym (value_at m h k lh (own_below k o));
      }

  model_reaches : (m : Values) → Model (problem prefer side ks cs rows row) m → (i : ℕ) → i < length rows → goal side (matrix cs) (get_or (plays m) i []) ≡ true
  unfolding problem
  model_reaches m M i li =
      goal_of_list side cs (get_or (plays m) i [])
      ∙ goal_same side (length ks) cs named (λ j. get_or (get_or (plays m) i []) j false) (m (place_of i)) (λ j lj. value_at m i j li lj)
      ∙ M.reaches (place_of i) (places.place_below i li)

  pub strategy_of_model : (m : Values) → Model (problem prefer side ks cs rows row) m
      → (σ : Strategy) × (wins (flags side ks) (goal side (matrix cs)) σ rows ≡ true)
      × ((i k : ℕ) → i < length rows → Own (flags side ks) k → σ k (restriction (flags side ks) k (get_or rows i [])) ≡ m (place_of i) k)
  strategy_of_model m M =
      let G = model_playing m M in
      let σ = played (flags side ks) rows (plays m) in (
        σ,
        played_wins G (goal side (matrix cs)) (model_reaches m M),
        λ i k li o.
            sym (play_at_own (flags side ks) σ (get_or rows i []) k o)
            ∙ ap (λ (p : List Bool). get_or p k false) (play_of_played G i li)
            ∙ value_at m i k li (own_below k o),
      )

  won_model : (T : Cells) → Won (problem prefer side ks cs rows row) 0 0 (length rows) T → Model (problem prefer side ks cs rows row) T.value
  unfolding problem
  won_model T W =
      record {
        follows = λ i j li lj o. W.given i j (omega arith) li lj o;
        uniform = λ i h j li lh lj o ag. sym (W.alike i h j (omega arith) li (omega arith) lh lj o ag);
        reaches = λ i li. W.reaches i (omega arith) li;
      }

  won_leading : (T : Cells) → Won (problem prefer side ks cs rows row) 0 0 (length rows) T →
      Leading prefer (flags side ks) (goal side (matrix cs)) rows (plays T.value)
  unfolding problem
  won_leading T W =
      record {
        playing = model_playing T.value (won_model T W);
        reach = model_reaches T.value (won_model T W);
        lead = λ σ w i li k o before.
            ⊎_elim
            (λ e. inl (value_at T.value i k li (own_below k o) ∙ sym e ∙ model_at σ i k li))
            (λ e. inr (value_at T.value i k li (own_below k o) ∙ e ∙ ap (λ (r : Row). wanted prefer (flags side ks) rows k (restriction (flags side ks) k r))
            (row_back i li)))
            (W.leads (λ h j. get_or (play (flags side ks) σ (get_or rows (row h) [])) j false) (model_of_strategy σ w) (place_of i) k (omega arith)
            (places.place_below i li) (omega arith) (own_below k o) o
            (λ l lk. model_at σ i l li ∙ sym (before l lk) ∙ value_at T.value i l li (let z : k < length ks = own_below k o in omega arith)));
      }
    where
      model_at : (σ : Strategy) (i l : ℕ) → i < length rows →
          get_or (play (flags side ks) σ (get_or rows (row (place_of i)) [])) l false ≡ get_or (play (flags side ks) σ (get_or rows i [])) l false
      model_at σ i l li = ap (λ (r : Row). get_or (play (flags side ks) σ r) l false) (row_back i li)

  -- a success over all rows is the first model, and yields its rows
  pub won_is_first : (T : Cells) → Won (problem prefer side ks cs rows row) 0 0 (length rows) T →
      search prefer side ks (matrix cs) rows ≡ some (tabulate (length rows) (λ i. part (flags side ks) (tabulate (length ks) (T.value (place_of i)))))
  unfolding search
  won_is_first T W =
      leading_is_first (won_leading T W)
      ∙ ap {B = Option (List Row)} some (map_tabulate (part (flags side ks)) (length rows) (λ i. tabulate (length ks) (T.value (place_of i))))
