-- The one induction over a text: what holds of the state before a line, or before a word of a prefix line, and is kept by each, holds at the end.
-- Bad is what is to hold of a cause. Assumes nothing.
use Prim.Native.Nat.{ℕ, zero, suc}
use native.Mathlib.Omega.{arith}
use mathlib.Core.Path.{◌≡◌, refl}
use mathlib.Core.Bool.{Bool, true, false, cond}
use mathlib.Core.List.{List, [], ◌∷◌}
use Rattle.lines.specs.Lines.{Bytes, Line, ended, unended, lines, words}
use Rattle.lines.specs.Numbers.{number, is_zero}
use Rattle.lines.specs.Shapes.{is_comment}
use Rattle.text.specs.Reading.{State, Step, went, fault, unless, name_cause, bind, bind_all, step, Scan, whole, stopped, go_on, Items, is_gates, finish, body, problem_cause, items_of, opened, problem, after_comments, lent_well, scan}

pub cond_so : {A : Type 0} (P : A → Type 0) (b : Bool) (x y : A) → (b ≡ true → P x) → (b ≡ false → P y) → P (cond b x y)
cond_so P true x y t f = t refl
cond_so P false x y t f = f refl

-- A cause, or none.
abbrev pub NoneOr : (ℕ → Type 0) → ℕ → Type 0
NoneOr Bad n = (n ≡ 0 → ⊥) → Bad n

module _ (Bad : ℕ → Type 0) where
  abbrev pub Steps : (State → Type 0) → Step → Type 0
  Steps P (went s) = P s
  Steps P (fault n) = Bad n

  abbrev pub Scans : (State → Type 0) → Scan → Type 0
  Scans P (whole s) = P s
  Scans P (stopped n line) = Bad n

  pub unless_so : (P : State → Type 0) (n : ℕ) (t : Step) → NoneOr Bad n → (n ≡ 0 → Steps P t) → Steps P (unless n t)
  unless_so P zero t bad then = then refl
  unless_so P (suc n) t bad then = bad (λ e. omega arith)

  pub go_on_so : (P Q : State → Type 0) (t : Step) (k : ℕ) (more : State → Scan) → Steps P t → ((s : State) → P s → Scans Q (more s)) → Scans Q (go_on t k more)
  go_on_so P Q (fault n) k more p then = p
  go_on_so P Q (went s) k more p then = then s p

  -- The words of a prefix line.
  module _ (kind : ℕ) (P : List Bytes → State → Type 0) (Q : State → Type 0)
      (bad : (s : State) (w : Bytes) → NoneOr Bad (name_cause s.variables s.names (number w)))
      (none : (s : State) → P [] s → Q s)
      (stop : (s : State) (w : Bytes) (ws : List Bytes) → is_zero w ≡ true → P (w ∷ ws) s → Q s)
      (more : (s : State) (w : Bytes) (ws : List Bytes) → is_zero w ≡ false → name_cause s.variables s.names (number w) ≡ 0 → P (w ∷ ws) s → P ws (bind kind s (number w))) where
    pub bind_all_so : (ws : List Bytes) (s : State) → P ws s → Steps Q (bind_all kind s ws)
    bind_all_so [] s p = none s p
    bind_all_so (w ∷ ws) s p =
        cond_so (Steps Q) (is_zero w) (went s) (unless (name_cause s.variables s.names (number w)) (bind_all kind (bind kind s (number w)) ws))
        (λ zero. stop s w ws zero p)
        (λ some.
        unless_so Q (name_cause s.variables s.names (number w)) (bind_all kind (bind kind s (number w)) ws) (bad s w)
        (λ free. bind_all_so ws (bind kind s (number w)) (more s w ws some free p)))

  -- The lines after the p line.
  module _ (items : Items) (P : List Line → State → Type 0) (Q : State → Type 0)
      (one : (s : State) (l : Line) (ls : List Line) → P (l ∷ ls) s → Steps (P ls) (step (is_gates items) s l))
      (end : (s : State) (k : ℕ) → P [] s → Scans Q (finish items s k)) where
    pub body_so : (ls : List Line) (s : State) (k : ℕ) → P ls s → Scans Q (body items s k ls)
    body_so [] s k p = end s k p
    body_so (l ∷ ls) s k p =
        go_on_so (P ls) Q (step (is_gates items) s l) k (λ t. body items t (suc k) ls) (one s l ls p) (λ t q. body_so ls t (suc k) q)

  -- A text, from its first line on: P says what is to be shown of the end, from all the lines that are left.
  module _ (gates : Bool) (bad : Bad 10) (Q : List Line → State → Type 0)
      (p_line : (line : Bytes) (ls : List Line) (k : ℕ) → is_comment line ≡ false
      → Scans (Q (ended line ∷ ls)) (go_on (unless (problem_cause gates line) (went (opened (words line)))) k (λ t. body (items_of gates (words line) k) t (suc k) ls)))
      (c_line : (line : Bytes) (ls : List Line) (s : State) → is_comment line ≡ true → Q ls s → Q (ended line ∷ ls) s) where
    comments_more : (x : Scan) (line : Bytes) (ls : List Line) → is_comment line ≡ true → Scans (Q ls) x → Scans (Q (ended line ∷ ls)) x
    comments_more (whole s) line ls c q = c_line line ls s c q
    comments_more (stopped n k) line ls c q = q

    pub comments_so : (ls : List Line) (k : ℕ) → Scans (Q ls) (after_comments gates k ls)
    comments_so [] k = bad
    comments_so (unended line ∷ ls) k = bad
    comments_so (ended line ∷ ls) k =
        cond_so (Scans (Q (ended line ∷ ls))) (is_comment line) (after_comments gates (suc k) ls) (problem gates k (ended line ∷ ls))
        (λ c. comments_more (after_comments gates (suc k) ls) line ls c (comments_so ls (suc k)))
        (λ c. p_line line ls k c)

    pub scan_so : Bad 9 → (text : Bytes) (kinds literals names : ℕ) → Scans (Q (lines text)) (scan gates text kinds literals names)
    unfolding scan
    scan_so nine text kinds literals names =
        cond_so (Scans (Q (lines text))) (lent_well text kinds literals names) (after_comments gates 1 (lines text)) (stopped 9 0)
        (λ _. comments_so (lines text) 1)
        (λ _. nine)
