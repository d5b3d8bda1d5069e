-- The prefix lines that are written are read as the kinds and names that they are of. Assumes nothing.
use Prim.Native.Nat.{ℕ, zero, suc, ◌+◌, ◌≤◌, ◌<◌}
use native.Mathlib.Omega.{arith}
use mathlib.Core.Path.{◌≡◌, refl, sym, ap, ap₂, subst, ◌∙◌}
use mathlib.Core.Bool.{Bool, true, false}
use mathlib.Core.List.{List, [], ◌∷◌, ◌++◌, map, append-nil, append_assoc}
use borrow.Author.Tests.{le-ltb, lt-ltb, ne_eqb, eq-eqb, eqb-true}
use lib.Dec.{eqb}
use lib.IntN.{ℤ}
use lib.ListN.{length, replicate, get_or, length-append, length-replicate}
use lib.Seq.{get_or-append-add}
use Rattle.formula.specs.Formula.{max_unknowns}
use Rattle.lines.specs.Lines.{Bytes, words}
use Rattle.lines.specs.Numbers.{is_name}
use Rattle.lines.specs.Shapes.{is_trimmed, leads, good_word, closed_by_zero, is_led, is_prefix, a_word, e_word}
use Rattle.named.specs.Named.{among}
use Rattle.named.specs.Names.{In, Distinct}
use Rattle.named.proofs.NameLaws.{among_in, distinct_front, distinct_last}
use Rattle.report.specs.Report.{decimal}
use Rattle.text.specs.Reading.{State, went, name_cause, bind_all, kind_of_word, prefix_line, body_line}
use Rattle.text.proofs.BodyLaws.{body_prefix}
use Rattle.writing.specs.Writing.{letter, blocks, prefix_lines}
use Rattle.writing.specs.WritingRight.{Range}
use Rattle.numerals.proofs.DigitLaws.{and_so, number_decimal, zero_word}
use Rattle.numerals.proofs.LineLaws.{Word, Words, line_of, words_line, line_no_end, line_trimmed, zero_is_word}
use Rattle.writing.proofs.ReadLaws.{at, Reads, one_line, zero_is_zero, decimal_name, decimal_not_zero, range_words, range_front, range_behind}

-- ---- the first block of the rest of a prefix

pub record Block (k : ℕ) (ks vs : List ℕ) : Type 0 where
  pub own : List ℕ
  pub kinds : List ℕ
  pub names : List ℕ
  pub kinds_so : ks ≡ replicate (length own) k ++ kinds
  pub names_so : vs ≡ own ++ names
  pub bytes_so : blocks k ks vs ≡ line_of (map decimal own) zero_word ++ (10 ∷ prefix_lines kinds names)

pub block : (k : ℕ) (ks vs : List ℕ) → length vs ≡ length ks → Block k ks vs
block k [] [] e = record { own = []; kinds = []; names = []; kinds_so = refl; names_so = refl; bytes_so = refl }
block k [] (v ∷ vs) e = absurd (omega arith)
block k (q ∷ ks) [] e = absurd (omega arith)
block k (q ∷ ks) (v ∷ vs) e = go (eqb q k) refl (block q ks vs (omega arith))
  where
    go : (b : Bool) → eqb q k ≡ b → Block q ks vs → Block k (q ∷ ks) (v ∷ vs)
    go true same more =
        let alike = eqb-true q k same in
        record {
          own = v ∷ more.own;
          kinds = more.kinds;
          names = more.names;
          kinds_so = ap₂ (λ (x : ℕ) (xs : List ℕ). x ∷ xs) alike (more.kinds_so ∙ ap (λ (x : ℕ). replicate (length more.own) x ++ more.kinds) alike);
          names_so = ap (λ (xs : List ℕ). v ∷ xs) more.names_so;
          bytes_so = rw (same, more.bytes_so) (simp append_assoc);
        }
    go false other more =
        record {
          own = [];
          kinds = q ∷ ks;
          names = v ∷ vs;
          kinds_so = refl;
          names_so = refl;
          bytes_so = rw (other, eq-eqb q q refl) (simp append_assoc);
        }

-- ---- a prefix line

not_in_among : (v : ℕ) (names : List ℕ) → (In v names → ⊥) → among v names ≡ false
not_in_among v names none = go (among v names) refl
  where
    go : (b : Bool) → among v names ≡ b → b ≡ false
    go true e = absurd (none (among_in v names e))
    go false e = refl

name_taken : (variables : ℕ) (names : List ℕ) (v : ℕ) → v ≤ variables → (In v names → ⊥) → length names < max_unknowns → name_cause variables names v ≡ 0
unfolding name_cause
name_taken variables names v small new room = rw (le-ltb variables v small, not_in_among v names new, lt-ltb (length names) max_unknowns room) refl

module _ (variables clauses : ℕ) (entries : List ℤ) (done : ℕ) (few : variables < 100000) (kind : ℕ) where
  bind_one : (v : ℕ) (ws : List Bytes) (K N : List ℕ) → 1 ≤ v → v ≤ variables → (In v N → ⊥) → length N < max_unknowns
      → bind_all kind (at variables clauses K N entries done) (decimal v ∷ ws) ≡ bind_all kind (at variables clauses (K ++ (kind ∷ [])) (N ++ (v ∷ [])) entries done) ws
  bind_one v ws K N some small new room =
      rw (number_decimal v (omega arith), ne_eqb v 0 (λ e. omega arith), name_taken variables N v small new room) refl

  bind_names : (vs K N : List ℕ) → Range variables vs → Distinct (N ++ vs) → length N + length vs ≤ max_unknowns
      → bind_all kind (at variables clauses K N entries done) (map decimal vs ++ (zero_word ∷ []))
      ≡ went (at variables clauses (K ++ replicate (length vs) kind) (N ++ vs) entries done)
  bind_names [] K N r d room = rw (zero_is_zero, append-nil K, append-nil N) refl
  bind_names (v ∷ vs) K N r d room =
      let next = subst Distinct (sym (append_assoc N (v ∷ []) vs)) d in
      bind_one v (map decimal vs ++ (zero_word ∷ [])) K N r.0 r.1 (distinct_last N v (distinct_front (N ++ (v ∷ [])) vs next)) (omega arith)
      ∙ bind_names vs (K ++ (kind ∷ [])) (N ++ (v ∷ [])) r.2 next (omega (arith, length-append N (v ∷ [])))
      ∙ ap₂ (λ (a b : List ℕ). went (at variables clauses a b entries done)) (append_assoc K (kind ∷ []) (replicate (length vs) kind)) (append_assoc N (v ∷ []) vs)

closed_names : (variables : ℕ) (vs : List ℕ) → variables < 100000 → Range variables vs → closed_by_zero (good_word false) (map decimal vs ++ (zero_word ∷ [])) ≡ true
closed_names variables [] small r = rw zero_is_zero refl
closed_names variables (v ∷ vs) small r =
    rw (decimal_not_zero v r.0 (omega (arith, r.1)))
    (and_so (is_name (decimal v)) (closed_by_zero (good_word false) (map decimal vs ++ (zero_word ∷ []))) (decimal_name v r.0 (omega (arith, r.1))) (closed_names variables vs small r.2))

-- The word of a block.
abbrev kind_word : ℕ → Bytes
kind_word zero = e_word
kind_word (suc k) = a_word

kind_is_word : (k : ℕ) → Word (kind_word k)
kind_is_word zero = record { some = omega arith; no_space = (refl, tt); no_end = (refl, tt) }
kind_is_word (suc k) = record { some = omega arith; no_space = (refl, tt); no_end = (refl, tt) }

kind_leads : (k : ℕ) → leads false (kind_word k) ≡ true
kind_leads zero = refl
kind_leads (suc k) = refl

kind_read : (k : ℕ) → k ≤ 1 → kind_of_word (kind_word k) ≡ k
kind_read zero h = refl
kind_read (suc zero) h = refl
kind_read (suc (suc k)) h = absurd (omega arith)

letter_line : (k : ℕ) (l : Bytes) → letter k ++ l ≡ kind_word k ++ (32 ∷ l)
letter_line zero l = refl
letter_line (suc k) l = refl

shaped : (line w x : Bytes) (ws : List Bytes) → words line ≡ w ∷ x ∷ ws → is_trimmed line ≡ true → leads false w ≡ true → is_name x ≡ true → closed_by_zero (good_word false) ws ≡ true
    → is_prefix line ≡ true
unfolding is_led
shaped line w x ws e trimmed leading name rest = rw (e, trimmed, leading, name, rest) refl

prefix_words : (s : State) (line w : Bytes) (ws : List Bytes) → words line ≡ w ∷ ws → prefix_line s (words line) ≡ bind_all (kind_of_word w) s ws
unfolding prefix_line
prefix_words s line w ws e = rw e refl

module _ (variables clauses : ℕ) (few : variables < 100000) where
  -- A block's line, behind the kinds K and the names N.
  block_line : (k v : ℕ) (vs K N : List ℕ) → k ≤ 1 → Range variables (v ∷ vs) → Distinct (N ++ v ∷ vs) → length N + length (v ∷ vs) ≤ max_unknowns
      → body_line false (at variables clauses K N [] 0) (line_of (kind_word k ∷ map decimal (v ∷ vs)) zero_word)
      ≡ went (at variables clauses (K ++ replicate (length (v ∷ vs)) k) (N ++ v ∷ vs) [] 0)
  block_line k v vs K N known r d room =
      let ws = kind_word k ∷ map decimal (v ∷ vs) in
      let line = line_of ws zero_word in
      let good : Words ws = (kind_is_word k, range_words variables (v ∷ vs) few r) in
      let split : words line ≡ kind_word k ∷ decimal v ∷ (map decimal vs ++ (zero_word ∷ [])) = words_line ws zero_word good zero_is_word in
      body_prefix false (at variables clauses K N [] 0) line
      (shaped line (kind_word k) (decimal v) (map decimal vs ++ (zero_word ∷ [])) split (line_trimmed ws zero_word good zero_is_word) (kind_leads k) (decimal_name v r.0 (omega (arith, r.1))) (closed_names variables vs few r.2))
      ∙ prefix_words (at variables clauses K N [] 0) line (kind_word k) (map decimal (v ∷ vs) ++ (zero_word ∷ [])) split
      ∙ ap (λ (q : ℕ). bind_all q (at variables clauses K N [] 0) (map decimal (v ∷ vs) ++ (zero_word ∷ []))) (kind_read k known)
      ∙ bind_names variables clauses [] 0 few k (v ∷ vs) K N r d room

  -- All of them, with the rest of the text behind.
  abbrev pub PrefixReads : List ℕ → List ℕ → List ℕ → List ℕ → Type 0
  PrefixReads ks vs K N =
      length vs ≡ length ks → ((i : ℕ) → get_or ks i 0 ≤ 1) → Range variables vs → Distinct (N ++ vs) → length N + length vs ≤ max_unknowns
      → (more : Bytes) (u : State) → Reads (at variables clauses (K ++ ks) (N ++ vs) [] 0) more u → Reads (at variables clauses K N [] 0) (prefix_lines ks vs ++ more) u

  first_block : (ks vs K N : List ℕ) → ((ls ws L M : List ℕ) → length ls < length ks → PrefixReads ls ws L M) → PrefixReads ks vs K N
  first_block [] [] K N rest same known r d room more u reads =
      subst (λ (X : List ℕ). Reads (at variables clauses K X [] 0) more u) (append-nil N)
      (subst (λ (X : List ℕ). Reads (at variables clauses X (N ++ []) [] 0) more u) (append-nil K) reads)
  first_block [] (v ∷ vs) K N rest same known r d room more u reads = absurd (omega arith)
  first_block (k ∷ ks) [] K N rest same known r d room more u reads = absurd (omega arith)
  first_block (k ∷ ks) (v ∷ vs) K N rest same known r d room more u reads =
      let b = block k ks vs (omega arith) in
      let own = v ∷ b.own in
      let same_kinds : k ∷ ks ≡ replicate (length own) k ++ b.kinds = ap (λ (xs : List ℕ). k ∷ xs) b.kinds_so in
      let same_names : v ∷ vs ≡ own ++ b.names = ap (λ (xs : List ℕ). v ∷ xs) b.names_so in
      let all_kinds : K ++ k ∷ ks ≡ K ++ replicate (length own) k ++ b.kinds = ap (λ (xs : List ℕ). K ++ xs) same_kinds ∙ sym (append_assoc K (replicate (length own) k) b.kinds) in
      let all_names : N ++ v ∷ vs ≡ N ++ own ++ b.names = ap (λ (xs : List ℕ). N ++ xs) same_names ∙ sym (append_assoc N own b.names) in
      let ranged = subst (Range variables) same_names r in
      let apart = subst Distinct all_names d in
      let bytes : prefix_lines (k ∷ ks) (v ∷ vs) ++ more ≡ line_of (kind_word k ∷ map decimal own) zero_word ++ (10 ∷ (prefix_lines b.kinds b.names ++ more)) =
      rw (eq-eqb k k refl, b.bytes_so, letter_line k) (simp append_assoc) in
      let kinds_many = ap length same_kinds ∙ length-append (replicate (length own) k) b.kinds in
      let names_many = ap length same_names ∙ length-append own b.names in
      let block_many = length-replicate (length own) k in
      subst (λ (x : Bytes). Reads (at variables clauses K N [] 0) x u) (sym bytes)
      (one_line (at variables clauses K N [] 0) (at variables clauses (K ++ replicate (length own) k) (N ++ own) [] 0) u (line_of (kind_word k ∷ map decimal own) zero_word) (prefix_lines b.kinds b.names ++ more)
      (line_no_end (kind_word k ∷ map decimal own) zero_word (kind_is_word k, range_words variables own few (range_front variables own b.names ranged)) zero_is_word)
      (block_line k v b.own K N (known 0) (range_front variables own b.names ranged) (distinct_front (N ++ own) b.names apart) (omega (arith, names_many)))
      (rest b.kinds b.names (K ++ replicate (length own) k) (N ++ own) (omega (arith, kinds_many, block_many)) (omega (arith, kinds_many, names_many, block_many))
      (λ i. rest_known (k ∷ ks) (replicate (length own) k) b.kinds same_kinds known i)
      (range_behind variables own b.names ranged) apart (omega (arith, names_many, length-append N own)) more u
      (subst (λ (X : List ℕ). Reads (at variables clauses (K ++ replicate (length own) k ++ b.kinds) X [] 0) more u) all_names
      (subst (λ (X : List ℕ). Reads (at variables clauses X (N ++ v ∷ vs) [] 0) more u) all_kinds reads))))
    where
      rest_known : (all front back : List ℕ) → all ≡ front ++ back → ((i : ℕ) → get_or all i 0 ≤ 1) → (i : ℕ) → get_or back i 0 ≤ 1
      rest_known all front back e h i =
          subst (λ (n : ℕ). n ≤ 1) (ap (λ (l : List ℕ). get_or l (length front + i) 0) e ∙ get_or-append-add front back i 0) (h (length front + i))

  prefix_by : (fuel : ℕ) (ks vs K N : List ℕ) → length ks < fuel → PrefixReads ks vs K N
  prefix_by zero ks vs K N less = absurd (omega arith)
  prefix_by (suc fuel) ks vs K N less = first_block ks vs K N (λ ls ws L M fewer. prefix_by fuel ls ws L M (omega arith))

  pub prefix_reads : (ks vs K N : List ℕ) → PrefixReads ks vs K N
  prefix_reads ks vs K N = prefix_by (suc (length ks)) ks vs K N (omega arith)
