-- Clauses that are named are reduced, and all others are irreducible.
-- Assumes nothing.
use Prim.Native.Nat.{ℕ, ◌+◌, ◌≤◌}
use native.Mathlib.Omega.{arith}
use mathlib.Core.Path.{◌≡◌, refl, sym, ◌∙◌, ap, ap₂, subst}
use mathlib.Core.Logic.{◌⊎◌, inl, inr}
use mathlib.Core.Bool.{Bool, true, false, not, cond, ◌||◌, ◌&&◌, true≢false, false≢true}
use mathlib.Core.List.{List, [], ◌∷◌, ◌++◌, map}
use borrow.Author.Tests.{le-leb, lt-ltb}
use lib.Dec.{ltb}
use lib.IntN.{ℤ}
use lib.ListN.{length, drop}
use lib.Seq.{drop_at}
use Rattle.formula.specs.Formula.{Kind, prefix, Clause}
use Rattle.formula.specs.Causes.{any}
use Rattle.trimming_rules.specs.Trimming as Trimming
use Rattle.trimming_rules.specs.Trimming.{keep, kind_at, follows, reducible}
use Rattle.trimming_rules.specs.Private.Rounds.{reduced_clause, reduced}
use Rattle.trimming_rules.proofs.ClauseLaws.{Every, In, in_any, any_in, keep_in, keep_all}
use Rattle.trimming_marks.specs.Marks.{is_left, marked, first_clause, reducible_from}
use Rattle.index.specs.Occurrences.{listed}
use Rattle.trimming.specs.Private.Table.{literal_of, clauses_left, Block, standing, inner, whole, Fine, laid, shown, all_shown, Passed, marked_at}
use Rattle.trimming.specs.Private.Table.{left_from, Indexed, Here, AllBut, Except, Irreducible, UnitKnown, Units, Pending, Toward}
use Rattle.trimming.proofs.BlockLaws.{map_append, block_clause, laid_clauses}
use Rattle.trimming.proofs.ChangeLaws.{around}
use Rattle.trimming.proofs.MarkLaws.{marked_stays, marked_entries}
use Rattle.trimming.proofs.ReduceLaws.{two_from, reduced_codes, reduced_local, clause_reduced}
use Rattle.trimming.proofs.DropLaws.{marked_around}
use Rattle.trimming.proofs.EndLaws.{Stands, stands}
use Rattle.trimming.proofs.NamedLaws.{standing_listed, here_named}
use Rattle.trimming.proofs.NotedLaws.{units_changed}
use Rattle.trimming.proofs.OneLaws.{toward_ends, toward_more, Marks, after_length, after_list, Becomes, except_changed}

-- ---- a reduced clause is irreducible

module _ (ks : List Kind) where
  in_keep : (test : ℤ → Bool) (xs : List ℤ) (z : ℤ) → In z xs → test z ≡ true → In z (keep test xs)
  in_keep test (x ∷ xs) z (inl e) t = rw (ap test (sym e) ∙ t) (inl e)
  in_keep test (x ∷ xs) z (inr i) t = go (test x) (in_keep test xs z i t)
    where
      go : (b : Bool) → In z (keep test xs) → In z (cond b (x ∷ keep test xs) (keep test xs))
      go true j = inr j
      go false j = j
  in_keep test [] z x'' t = elim x'' [ ]

  not_true : (b : Bool) → not b ≡ true → b ≡ false
  not_true true e = absurd (false≢true e)
  not_true false e = refl

  pub reduced_twice : (c : Clause) → reduced_clause ks (reduced_clause ks c) ≡ reduced_clause ks c
  reduced_twice c = keep_all (λ z. not (reducible ks (reduced_clause ks c) z)) (reduced_clause ks c) (λ z i. let k = keep_in (λ y. not (reducible ks c y)) c z i
      in ap not (one z (Trimming.is_universal (kind_at ks z)) refl (any (follows ks z) c) refl (not_true (reducible ks c z) k.1)))
    where
      still : (z : ℤ) → any (follows ks z) c ≡ true → any (follows ks z) (reduced_clause ks c) ≡ true
      still z e =
          let w = any_in (follows ks z) c e in
          in_any (follows ks z) (reduced_clause ks c) w.0
          (in_keep (λ y. not (reducible ks c y)) c w.0 w.1 (ap not (existential w.0 (Trimming.is_universal (kind_at ks w.0)) refl w.2)))
          w.2
        where
          existential : (y : ℤ) (u : Bool) → Trimming.is_universal (kind_at ks y) ≡ u → follows ks z y ≡ true → reducible ks c y ≡ false
          existential y true p f = absurd (true≢false (sym f ∙ ap (λ (b : Bool). not b && ltb (Trimming.position z) (Trimming.position y)) p))
          existential y false p f = ap (λ (b : Bool). b && not (any (follows ks y) c)) p

      one : (z : ℤ) (u : Bool) → Trimming.is_universal (kind_at ks z) ≡ u → (a : Bool) → any (follows ks z) c ≡ a → reducible ks c z ≡ false →
          reducible ks (reduced_clause ks c) z ≡ false
      one z false p a q r = ap (λ (b : Bool). b && not (any (follows ks z) (reduced_clause ks c))) p
      one z true p true q r = ap₂ (λ (b d : Bool). b && not d) p (still z q)
      one z true p false q r = absurd (true≢false (sym (ap₂ (λ (b d : Bool). b && not d) p q) ∙ r))

-- ---- one clause is reduced

module _ (kinds : List ℕ) where
  abbrev ks : List Kind
  ks = prefix kinds

  module _ {table index : List ℕ} {start : ℕ} (h : Here table index start) (table' : List ℕ)
      (e : table' ≡ marked_at (reducible_from kinds 2 (first_clause (drop start table))) 511 start table) where
    s : Stands table start
    s = stands h

    clause_of : (xs ys : List Block) (b : Block) → Fine b → table ≡ around xs b ys → start ≡ length (laid xs) → first_clause (drop start table) ≡ inner b
    clause_of xs ys b f is here =
        ap (λ (t : List ℕ). first_clause (drop start t)) is
        ∙ ap first_clause (drop_at (laid xs) (whole b ++ laid ys) start (sym here))
        ∙ block_clause (laid ys) b f

    low : ℕ
    low = reducible_from kinds 2 s.es

    low_is : reducible_from kinds 2 (first_clause (drop start table)) ≡ low
    unfolding low
    low_is = ap (reducible_from kinds 2) (clause_of s.xs s.ys (standing s.es) s.fine s.is s.here)

    reduces : Marks table table' start low 511
    unfolding low
    reduces =
        record {
          xs = s.xs;
          ys = s.ys;
          b = standing s.es;
          d = standing (map (marked (reducible_from kinds 2 s.es) 511) s.es);
          is = s.is;
          here = s.here;
          fine_xs = s.fine_xs;
          fine_ys = s.fine_ys;
          fine_b = s.fine;
          fine_d = marked_entries (reducible_from kinds 2 s.es) 511 s.es s.fine;
          made = sym (map_append (marked (reducible_from kinds 2 s.es) 511) s.es (0 ∷ []) ∙ ap
              (λ (x : ℕ). map (marked (reducible_from kinds 2 s.es) 511) s.es ++ (x ∷ []))
              (marked_stays (reducible_from kinds 2 s.es) 511 0 (λ a b r. let t = two_from kinds s.es 2 (omega arith) in omega arith)));
          written = e ∙ ap (λ (n : ℕ). marked_at n 511 start table) low_is;
        }

    pub list_kept : listed 1 table' ≡ listed 1 table
    unfolding reduces low
    list_kept = after_list reduces 1 (standing_listed (map (marked (reducible_from kinds 2 s.es) 511) s.es) ∙ sym (standing_listed s.es))

    pub reducing_more : (names : List ℕ) {table₀ : List ℕ} (index' : List ℕ) → Indexed table' index' → Toward (reduced ks) table₀ table →
        Pending kinds (start ∷ names) table index → Toward (reduced ks) table₀ table' × Pending kinds names table' index'
    unfolding reduces low
    reducing_more names {table₀} index' indexed' toward p =
        let t = toward_more reduces (reduced ks) (reduced_local kinds) (ap (reduced ks) (ap (λ (c : Clause). c ∷ []) (reduced_codes kinds s.es s.fine)) ∙
        ap (λ (c : Clause). c ∷ []) (reduced_twice ks (map literal_of (keep is_left s.es)))) toward in (
          t,
          record {
            laid_out = t.laid_out;
            few = let a = after_length reduces in let f = p.few in omega arith;
            indexed = indexed';
            standing = every_same (λ x. In x (listed 1 table)) (λ x. In x (listed 1 table')) (λ x i. subst (In x) (sym list_kept) i) names p.standing.1;
            others = except_changed (Irreducible kinds) (start ∷ names) names start (λ o other i. behind o other i) low 511 p.others h.stands.inside
                h.stands.first table' (e ∙ ap (λ (n : ℕ). marked_at n 511 start table) low_is) (λ xs ys b fx fy fb is here. becomes xs ys b fb is here);
          },
        )
      where
        every_same : (P Q : ℕ → Type 0) → ((x : ℕ) → P x → Q x) → (l : List ℕ) → Every P l → Every Q l
        every_same P Q f [] all = tt
        every_same P Q f (x ∷ l) all = (f x all.0, every_same P Q f l all.1)

        behind : (o : ℕ) → (o ≡ start → ⊥) → In o (start ∷ names) → In o names
        behind o other (inl q) = absurd (other q)
        behind o other (inr i) = i

        becomes : (xs ys : List Block) (b : Block) → Fine b → table ≡ around xs b ys → start ≡ length (laid xs) →
            Becomes (Irreducible kinds) names start low 511 b
        becomes xs ys b f is here =
            let g = clause_reduced kinds b f in
            let l : reducible_from kinds 2 (inner b) ≡ low = sym (ap (reducible_from kinds 2) (clause_of xs ys b f is here)) ∙ low_is in
            record {
              after = g.after;
              made = g.made ∙ ap (λ (n : ℕ). map (marked n 511) (whole b)) l;
              fine = g.fine;
              then = inr (ap (reduced ks) g.shows ∙ twice (shown b) ∙ sym g.shows);
            }
          where
            twice : (cs : List Clause) → reduced ks (reduced ks cs) ≡ reduced ks cs
            twice [] = refl
            twice (c ∷ cs) = ap₂ ◌∷◌ (reduced_twice ks c) (twice cs)

    -- Clauses of one entry that are noted are none of those named.
    pub units_reduced : (firsts names : List ℕ) → In start names → Units kinds firsts names names 0 table → Units kinds firsts names names 0 table'
    unfolding low
    units_reduced firsts names i u =
        units_changed kinds firsts names names names names 0 start low 511 u h.stands.inside h.stands.first (λ o other j. j) (λ o j. j) table'
        (e ∙ ap (λ (n : ℕ). marked_at n 511 start table) low_is)
        (λ xs ys b fx fy fb is here. becomes xs ys b fb is here) (λ xs ys b fx fy fb is here v other f. f.apart i)
      where
        becomes : (xs ys : List Block) (b : Block) → Fine b → table ≡ around xs b ys → start ≡ length (laid xs) →
            Becomes (UnitKnown kinds firsts) names start low 511 b
        becomes xs ys b f is here =
            let g = clause_reduced kinds b f in
            let l : reducible_from kinds 2 (inner b) ≡ low = sym (ap (reducible_from kinds 2) (clause_of xs ys b f is here)) ∙ low_is in
            record { after = g.after; made = g.made ∙ ap (λ (n : ℕ). map (marked n 511) (whole b)) l; fine = g.fine; then = inl i }

  -- ---- all that are named are reduced

  all_irreducible : (o : ℕ) (bs : List Block) → AllBut (Irreducible kinds) [] o bs → reduced ks (all_shown bs) ≡ all_shown bs
  all_irreducible o [] all = refl
  all_irreducible o (b ∷ bs) all = (reduced_local kinds).spread (shown b) (all_shown bs) ∙ ap₂ ◌++◌ (own all.0)
      (all_irreducible (o + length (whole b)) bs all.1)
    where
      own : In o [] ⊎ Irreducible kinds o b → reduced ks (shown b) ≡ shown b
      own (inl i) = absurd i
      own (inr p) = p

  pub reducing_ends : {table₀ table index : List ℕ} → Toward (reduced ks) table₀ table → Pending kinds [] table index → Passed (reduced ks) table₀ table ×
      Indexed table index × Except (Irreducible kinds) [] table
  reducing_ends {table₀} {table} t p =
      (toward_ends (reduced ks) t (ap (reduced ks) shown_all ∙ all_irreducible 0 p.others.blocks p.others.all ∙ sym shown_all), p.indexed, p.others)
    where
      shown_all : clauses_left table ≡ all_shown p.others.blocks
      shown_all = ap clauses_left p.others.is ∙ laid_clauses p.others.blocks p.others.fine

  -- ---- the clause that is next

  pub pending_here : {names table index : List ℕ} {start : ℕ} → Pending kinds (start ∷ names) table index → Here table index start
  pending_here {names} {table} {index} {start} p = here_named p.laid_out p.few p.indexed 1 start (omega arith) p.standing.0

-- ---- nothing to drop

none_from : (low : ℕ) (es : List ℕ) → any (left_from low) es ≡ false → map (marked low 511) es ≡ es
none_from low [] e = refl
none_from low (x ∷ es) e = go (left_from low x) refl e (none_from low es)
  where
    go : (t : Bool) → left_from low x ≡ t → (t || any (left_from low) es) ≡ false → (any (left_from low) es ≡ false → map (marked low 511) es ≡ es) →
        map (marked low 511) (x ∷ es) ≡ x ∷ es
    go true p q later = absurd (true≢false q)
    go false p q later = ap₂ ◌∷◌ (marked_stays low 511 x (λ a b r. true≢false (sym (rw (le-leb low x a) (lt-ltb x 512 r)) ∙ p))) (later q)

pub nothing_from : {table index : List ℕ} {start : ℕ} → Here table index start → (low : ℕ) → 2 ≤ low →
    any (left_from low) (first_clause (drop start table)) ≡ false → table ≡ marked_at low 511 start table
nothing_from {table} {index} {start} h low two e =
    sym (ap (marked_at low 511 start) s.is
    ∙ marked_around low 511 start s.xs (standing s.es) s.ys s.here s.fine
    ∙ ap (λ (l : List ℕ). laid s.xs ++ (l ++ laid s.ys))
    (map_append (marked low 511) s.es (0 ∷ []) ∙ ap₂ ◌++◌ (none_from low s.es (sym (ap (any (left_from low)) clause) ∙ e))
    (ap (λ (x : ℕ). x ∷ []) (marked_stays low 511 0 (λ a b r. omega arith))))
    ∙ sym s.is)
  where
    s : Stands table start
    s = stands h

    clause : first_clause (drop start table) ≡ s.es
    clause =
        ap (λ (t : List ℕ). first_clause (drop start t)) s.is
        ∙ ap first_clause (drop_at (laid s.xs) (whole (standing s.es) ++ laid s.ys) start (sym s.here))
        ∙ block_clause (laid s.ys) (standing s.es) s.fine
