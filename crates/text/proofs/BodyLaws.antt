-- Lines after the p line, as the counts and the tables hold what they give. Assumes nothing.
use Prim.Native.Nat.{ℕ, zero, suc}
use native.Mathlib.Omega.{arith}
use mathlib.Core.Path.{◌≡◌, refl, sym, subst, ◌∙◌}
use mathlib.Core.Bool.{Bool, true, false, ◌&&◌}
use mathlib.Core.List.{List}
use lib.Dec.{eqb}
use lib.IntN.{ℤ}
use lib.ListN.{take}
use Rattle.text.specs.declared.body.Counts.{Counts}
use Rattle.lines.specs.Lines.{Bytes, words}
use Rattle.lines.specs.Shapes.{is_prefix}
use Rattle.text.specs.Reading.{State, went, fault, unless, prefix_line, clause_read, clause_line, gate_line, is_item, item_line, body_line, is_gates, Scan, go_on}
use Rattle.text.specs.Private.Steps.{Marked, placed_in, Sized, settled, LineRead, items_at}

-- The sizes do not hang on the cause, the line and C.
pub resized : {c d : Counts} {K N : List ℕ} {L : List ℤ}
    → c.bound ≡ d.bound → c.free ≡ d.free → c.entries ≡ d.entries → c.variables ≡ d.variables → c.clauses_read ≡ d.clauses_read → c.made ≡ d.made → Sized c K N L → Sized d K N L
resized b f e v r m z =
    record {
      kinds = z.kinds;
      names = z.names;
      literals = z.literals;
      unknowns = omega (arith, z.unknowns);
      entries = omega (arith, z.entries);
      variables = omega (arith, z.variables);
      unread = λ none. sym f ∙ z.unread (r ∙ none);
      made = omega (arith, z.made);
    }

pub marked_bound : (bound free : ℕ) (N : List ℕ) {P : List ℕ} → free ≡ 0 → Marked (placed_in bound free N) P → Marked (take bound N) P
marked_bound bound free N {P} e m = subst (λ (k : ℕ). Marked (placed_in bound k N) P) e m

pub clause_read_unless : (cause : ℕ) (s : State) → clause_read (unless cause (went s)) ≡ unless cause (clause_read (went s))
clause_read_unless zero s = refl
clause_read_unless (suc c) s = refl

pub settled_refused : (cause : ℕ) → (cause ≡ 0 → ⊥) → (s t : State) (k : ℕ) (more : State → Scan) → go_on (unless cause (went s)) k more ≡ settled cause k t
settled_refused zero h s t k more = absurd (h refl)
settled_refused (suc c) h s t k more = refl

module _ (gates : Bool) (s : State) (line : Bytes) where
  pub body_prefix : (eqb s.clauses_read 0 && is_prefix line) ≡ true → body_line gates s line ≡ prefix_line s (words line)
  unfolding body_line
  body_prefix h = rw h refl

  pub body_item : (eqb s.clauses_read 0 && is_prefix line) ≡ false → is_item gates line ≡ true → body_line gates s line ≡ item_line gates s (words line)
  unfolding body_line
  body_item h k = rw (h, k) refl

  pub body_none : (eqb s.clauses_read 0 && is_prefix line) ≡ false → is_item gates line ≡ false → body_line gates s line ≡ fault 10
  unfolding body_line
  body_none h k = rw (h, k) refl

module _ (gates : Bool) where
  pub gate_item : gates ≡ true → (s : State) (line : Bytes) → (eqb s.clauses_read 0 && is_prefix line) ≡ false → is_item gates line ≡ true
      → {c r : Counts} {K N P : List ℕ} {L : List ℤ} → LineRead true (gate_line s (words line)) c r K N P L → LineRead gates (body_line gates s line) c r K N P L
  gate_item so s line h k read = rw (body_item gates s line h k, so) read

  pub clause_item : gates ≡ false → (s : State) (line : Bytes) → (eqb s.clauses_read 0 && is_prefix line) ≡ false → is_item gates line ≡ true
      → {c r : Counts} {K N P : List ℕ} {L : List ℤ} → LineRead false (clause_line s (words line)) c r K N P L → LineRead gates (body_line gates s line) c r K N P L
  clause_item so s line h k read = rw (body_item gates s line h k, so) read

pub items_gates : (gates minus : Bool) (v k : ℕ) → is_gates (items_at gates minus v k) ≡ gates
items_gates false minus v k = refl
items_gates true minus v k = refl
