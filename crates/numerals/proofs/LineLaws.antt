-- Words parted by single spaces, and lines: what the reader's definitions make of them. Assumes nothing.
use Prim.Native.Nat.{ℕ, zero, suc, ◌+◌, ◌-◌, ◌<◌}
use native.Mathlib.Omega.{arith}
use mathlib.Core.Path.{◌≡◌, refl, ap, ◌∙◌}
use mathlib.Core.Bool.{Bool, true, false, true≢false}
use mathlib.Core.List.{List, [], ◌∷◌, ◌++◌}
use borrow.Author.Tests.{leb-true, eq-eqb, ne_eqb}
use lib.Dec.{leb, eqb}
use lib.ListN.{length, get_or, length-append}
use lib.Seq.{get_or-append-add}
use Rattle.lines.specs.Lines.{Bytes, onto, in_front, pieces, ended, as_lines, lines, keep, filled, words}
use Rattle.lines.specs.Numbers.{is_digit, all_digits}
use Rattle.lines.specs.Shapes.{is_trimmed}
use Rattle.lines.proofs.Pieces.{pieces_first}
use Rattle.report.specs.Report.{decimal}
use Rattle.numerals.proofs.DigitLaws.{and_both, decimal_some, decimal_digits, zero_word}

-- The byte b is none of these.
abbrev pub No : ℕ → Bytes → Type 0
No b [] = Unit {0}
No b (x ∷ xs) = (eqb x b ≡ false) × No b xs

pub no_append : (b : ℕ) (xs ys : Bytes) → No b xs → No b ys → No b (xs ++ ys)
no_append b [] ys n m = m
no_append b (x ∷ xs) ys n m = (n.0, no_append b xs ys n.1 m)

no_at : (b : ℕ) (xs : Bytes) (i : ℕ) → i < length xs → No b xs → eqb (get_or xs i 0) b ≡ false
no_at b [] i h n = absurd (omega (arith, h))
no_at b (x ∷ xs) zero h n = n.0
no_at b (x ∷ xs) (suc i) h n = no_at b xs i (omega arith) n.1

-- A token: bytes, none of them a space or a line's end.
pub record Word (w : Bytes) : Type 0 where
  pub some : 0 < length w
  pub no_space : No 32 w
  pub no_end : No 10 w

abbrev pub Words : List Bytes → Type 0
Words [] = Unit {0}
Words (w ∷ ws) = Word w × Words ws

no_digit : (b : ℕ) → b < 48 → (w : Bytes) → all_digits w ≡ true → No b w
no_digit b low [] d = tt
no_digit b low (x ∷ xs) d =
    let both = and_both (is_digit x) (all_digits xs) d in
    let digit = leb-true 48 x (and_both (leb 48 x) (leb x 57) both.0).0 in
    (ne_eqb x b (λ e. omega arith), no_digit b low xs both.1)

pub decimal_word : (n : ℕ) → Word (decimal n)
decimal_word n =
    record {
      some = decimal_some n;
      no_space = no_digit 32 (omega arith) (decimal n) (decimal_digits n);
      no_end = no_digit 10 (omega arith) (decimal n) (decimal_digits n);
    }

pub zero_is_word : Word zero_word
zero_is_word = record { some = omega arith; no_space = (refl, tt); no_end = (refl, tt) }

-- ---- pieces

pub pieces_part : (b : ℕ) (w xs : Bytes) → No b w → pieces b (w ++ (b ∷ xs)) ≡ w ∷ pieces b xs
pieces_part b [] xs n = rw (eq-eqb b b refl) refl
pieces_part b (x ∷ w) xs n = go (eqb x b) n.0 (pieces_part b w xs n.1)
  where
    go : (t : Bool) → t ≡ false → pieces b (w ++ (b ∷ xs)) ≡ w ∷ pieces b xs → in_front t x (pieces b (w ++ (b ∷ xs))) ≡ (x ∷ w) ∷ pieces b xs
    go true e ih = absurd (true≢false e)
    go false e ih = ap (onto x) ih

pub pieces_whole : (b : ℕ) (w : Bytes) → No b w → pieces b w ≡ w ∷ []
pieces_whole b [] n = refl
pieces_whole b (x ∷ w) n = go (eqb x b) n.0 (pieces_whole b w n.1)
  where
    go : (t : Bool) → t ≡ false → pieces b w ≡ w ∷ [] → in_front t x (pieces b w) ≡ (x ∷ w) ∷ []
    go true e ih = absurd (true≢false e)
    go false e ih = ap (onto x) ih

-- A line with others behind it.
pub lines_more : (l more : Bytes) → No 10 l → lines (l ++ (10 ∷ more)) ≡ ended l ∷ lines more
unfolding lines
lines_more l more n = ap as_lines (pieces_part 10 l more n) ∙ rw (pieces_first 10 more) refl

-- ---- words parted by single spaces

abbrev pub line_of : List Bytes → Bytes → Bytes
line_of [] last = last
line_of (w ∷ ws) last = w ++ (32 ∷ line_of ws last)

keep_some : (w : Bytes) (ws : List Bytes) → 0 < length w → keep w ws ≡ w ∷ ws
keep_some [] ws h = absurd (omega (arith, h))
keep_some (x ∷ xs) ws h = refl

pub words_line : (ws : List Bytes) (last : Bytes) → Words ws → Word last → words (line_of ws last) ≡ ws ++ (last ∷ [])
unfolding words
words_line [] last g l = ap filled (pieces_whole 32 last l.no_space) ∙ keep_some last [] l.some
words_line (w ∷ ws) last g l =
    ap filled (pieces_part 32 w (line_of ws last) g.0.no_space) ∙ keep_some w (filled (pieces 32 (line_of ws last))) g.0.some
    ∙ ap (λ (rest : List Bytes). w ∷ rest) (words_line ws last g.1 l)

pub line_no_end : (ws : List Bytes) (last : Bytes) → Words ws → Word last → No 10 (line_of ws last)
line_no_end [] last g l = l.no_end
line_no_end (w ∷ ws) last g l = no_append 10 w (32 ∷ line_of ws last) g.0.no_end (refl, line_no_end ws last g.1 l)

-- ---- 'none at either end'

front_byte : (w rest : Bytes) → 0 < length w → No 32 w → eqb (get_or (w ++ rest) 0 0) 32 ≡ false
front_byte [] rest h n = absurd (omega (arith, h))
front_byte (x ∷ w) rest h n = n.0

line_front : (ws : List Bytes) (last : Bytes) → Words ws → Word last → eqb (get_or (line_of ws last) 0 0) 32 ≡ false
line_front [] last g l = no_at 32 last 0 l.some l.no_space
line_front (w ∷ ws) last g l = front_byte w (32 ∷ line_of ws last) g.0.some g.0.no_space

line_some : (ws : List Bytes) (last : Bytes) → Word last → 0 < length (line_of ws last)
line_some [] last l = l.some
line_some (w ∷ ws) last l = omega (arith, length-append w (32 ∷ line_of ws last))

last_byte : (xs ys : Bytes) → 0 < length ys → get_or (xs ++ ys) (length (xs ++ ys) - 1) 0 ≡ get_or ys (length ys - 1) 0
last_byte xs ys h =
    let e : length (xs ++ ys) - 1 ≡ length xs + (length ys - 1) = omega (arith, length-append xs ys) in
    rw e (get_or-append-add xs ys (length ys - 1) 0)

line_back : (ws : List Bytes) (last : Bytes) → Word last → eqb (get_or (line_of ws last) (length (line_of ws last) - 1) 0) 32 ≡ false
line_back [] last l = no_at 32 last (length last - 1) (let some = l.some in omega arith) l.no_space
line_back (w ∷ ws) last l =
    let same : get_or (w ++ (32 ∷ line_of ws last)) (length (w ++ (32 ∷ line_of ws last)) - 1) 0 ≡ get_or (line_of ws last) (length (line_of ws last) - 1) 0 =
    last_byte w (32 ∷ line_of ws last) (omega arith) ∙ last_byte (32 ∷ []) (line_of ws last) (line_some ws last l) in
    rw same (line_back ws last l)

pub line_trimmed : (ws : List Bytes) (last : Bytes) → Words ws → Word last → is_trimmed (line_of ws last) ≡ true
unfolding is_trimmed
line_trimmed ws last g l = rw (line_front ws last g l, line_back ws last l) refl
