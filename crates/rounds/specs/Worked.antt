-- 01's 'Runs worked by hand', those with a star: one list, with what the definitions must give.
-- Assumes nothing.
use Rattle.std.specs.Prelude.{ℕ, ◌≡◌, Bool, true, false, List, [], ◌∷◌, ◌++◌, map, ℤ, pos, negsuc, length, drop}
use Rattle.formula.specs.Formula.{max_rows, prefix, clauses}
use Rattle.formula.specs.Meaning.{matrix, meaning}
use Rattle.preference.specs.Preference.{prefer}
use Rattle.expansion.specs.Play.{Row}
use Rattle.expansion.specs.Judge.{accepted}
use Rattle.rounds.specs.Run.{under_mark, number, Outcome, Lent, run}
use Rattle.rounds.specs.Opening.{opening, opening_length, set_to}

-- A run worked by hand: what is lent, 02's k (0 in 01's runs), and what is returned: the answer's number, the round, the counts of A and S.
pub record WorkedRun : Type 0 where
  pub kinds : List ℕ
  pub literals : List ℤ
  pub preferences : List ℕ
  pub room_a : ℕ
  pub room_s : ℕ
  pub limit : ℕ
  pub clear_every : ℕ
  pub returned : List ℕ

abbrev pub lent : WorkedRun → Lent
lent k =
    record {
      ks = prefix k.kinds;
      phi = matrix (clauses k.literals);
      prefer = prefer k.preferences;
      room_a = k.room_a;
      room_s = k.room_s;
      clear_every = k.clear_every;
    }

abbrev pub played : WorkedRun → Outcome
played k = run (lent k) k.limit

abbrev pub numbers : Outcome → List ℕ
numbers o = number o.answer ∷ o.round ∷ length o.A ∷ length o.S ∷ []

-- 'House preferences, ample rows, limit 9, unless said.'
abbrev pub with_rows : ℕ → ℕ → ℕ → List ℕ → List ℤ → List ℕ → WorkedRun
with_rows room_a room_s limit kinds literals returned =
    record {
      kinds = kinds;
      literals = literals;
      preferences = [];
      room_a = room_a;
      room_s = room_s;
      limit = limit;
      clear_every = 0;
      returned = returned;
    }

abbrev pub usual : List ℕ → List ℤ → List ℕ → WorkedRun
usual = with_rows max_rows max_rows 9

-- The formula of K1: `a 1 0`, `e 2 0`, `1 2 0`, `-1 -2 0`.
abbrev pub kinds_1 : List ℕ
kinds_1 = 1 ∷ 0 ∷ []

abbrev pub literals_1 : List ℤ
literals_1 = pos 1 ∷ pos 2 ∷ pos 0 ∷ negsuc 0 ∷ negsuc 1 ∷ pos 0 ∷ []

-- 'K1 that formula: true, round 2, A 0 then 1, S 1 then 0.'
abbrev pub K1 : WorkedRun
K1 = usual kinds_1 literals_1 (1 ∷ 2 ∷ 2 ∷ 2 ∷ [])

-- 'K2 prefix `e 2 0`, `a 1 0`: false, round 2, counts 2 and 1.' The unknown that the text names 2 is now the first.
abbrev pub K2 : WorkedRun
K2 = usual (0 ∷ 1 ∷ []) (pos 2 ∷ pos 1 ∷ pos 0 ∷ negsuc 1 ∷ negsuc 0 ∷ pos 0 ∷ []) (0 ∷ 2 ∷ 2 ∷ 1 ∷ [])

-- 'K3 n 0, no clause: true, round 1, counts 1 and 1.'
abbrev pub K3 : WorkedRun
K3 = usual [] [] (1 ∷ 1 ∷ 1 ∷ 1 ∷ [])

-- 'K4 n 0, one empty clause: false, round 1, counts 1 and 0.'
abbrev pub K4 : WorkedRun
K4 = usual [] (pos 0 ∷ []) (0 ∷ 1 ∷ 1 ∷ 0 ∷ [])

-- 'K5 one universal, clause 1: false, round 1, counts 1 and 0.'
abbrev pub K5 : WorkedRun
K5 = usual (1 ∷ []) (pos 1 ∷ pos 0 ∷ []) (0 ∷ 1 ∷ 1 ∷ 0 ∷ [])

-- 'K6 the same, preference byte 1: false, round 2, counts 2 and 1.' With one byte lent, every preference is its lowest bit.
abbrev pub K6 : WorkedRun
K6 =
    record {
      kinds = K5.kinds;
      literals = K5.literals;
      preferences = 1 ∷ [];
      room_a = max_rows;
      room_s = max_rows;
      limit = 9;
      clear_every = 0;
      returned = 0 ∷ 2 ∷ 2 ∷ 1 ∷ [];
    }

-- 'K7 K1, limit 1: spent, round 1, counts 2 and 1.'
abbrev pub K7 : WorkedRun
K7 = with_rows max_rows max_rows 1 kinds_1 literals_1 (2 ∷ 1 ∷ 2 ∷ 1 ∷ [])

-- 'K9 K1, one row a side: no room universal, round 1, counts 1 and 1.'
abbrev pub K9 : WorkedRun
K9 = with_rows 1 1 9 kinds_1 literals_1 (3 ∷ 1 ∷ 1 ∷ 1 ∷ [])

-- 'K10 K1, two universal rows, one existential: no room existential, round 2, counts 2 and 1.'
abbrev pub K10 : WorkedRun
K10 = with_rows 2 1 9 kinds_1 literals_1 (4 ∷ 2 ∷ 2 ∷ 1 ∷ [])

-- The formula of K12: 'kinds 1, 0, 1, 0, clauses 1 2 4, -1 -2 4, 3 -4'.
abbrev pub kinds_12 : List ℕ
kinds_12 = 1 ∷ 0 ∷ 1 ∷ 0 ∷ []

abbrev pub literals_12 : List ℤ
literals_12 = pos 1 ∷ pos 2 ∷ pos 4 ∷ pos 0 ∷ negsuc 0 ∷ negsuc 1 ∷ pos 4 ∷ pos 0 ∷ pos 3 ∷ negsuc 3 ∷ pos 0 ∷ []

-- 'K12 (example 4 of 000): true, round 3, counts 3 and 4.'
abbrev pub K12 : WorkedRun
K12 = usual kinds_12 literals_12 (1 ∷ 3 ∷ 3 ∷ 4 ∷ [])

-- Not in 01: K12 with two existential rows. Round 2 yields two new rows, of which one would fit, and none is added.
abbrev pub k12_full : WorkedRun
k12_full = with_rows max_rows 2 9 kinds_12 literals_12 (4 ∷ 2 ∷ 2 ∷ 1 ∷ [])

-- 'K13 one universal, clause 1 -1: true, round 1, counts 1 and 1.'
abbrev pub K13 : WorkedRun
K13 = usual (1 ∷ []) (pos 1 ∷ negsuc 0 ∷ pos 0 ∷ []) (1 ∷ 1 ∷ 1 ∷ 1 ∷ [])

abbrev pub worked_runs : List WorkedRun
worked_runs = K1 ∷ K2 ∷ K3 ∷ K4 ∷ K5 ∷ K6 ∷ K7 ∷ K9 ∷ K10 ∷ K12 ∷ k12_full ∷ K13 ∷ []

-- 'K11 judge on K1, claim 1.'
abbrev pub K11 : List Row → Bool
K11 existential_rows = accepted true (prefix kinds_1) (matrix (clauses literals_1)) existential_rows

-- For the opening, of which 02 has no example. The formula `e 1 0`, `a 2 0`, `1 -2 0`: S comes to hold 0, then 1, and only 1 opens.
abbrev pub opened_by_last : WorkedRun
opened_by_last = usual (0 ∷ 1 ∷ []) (pos 1 ∷ negsuc 1 ∷ pos 0 ∷ []) (1 ∷ 2 ∷ 2 ∷ 2 ∷ [])

-- The formula `a 1 2 0`, `2 0`: A comes to hold 01, then 00, and only 00 opens.
abbrev pub broken_by_last : WorkedRun
broken_by_last = usual (1 ∷ 1 ∷ []) (pos 2 ∷ pos 0 ∷ []) (0 ∷ 2 ∷ 2 ∷ 1 ∷ [])

-- The opening of a run worked by hand, and its length.
abbrev pub opened : WorkedRun → List Bool
opened k = opening (prefix k.kinds) (played k)

abbrev pub block_length : WorkedRun → ℕ
block_length k = opening_length (played k).answer (prefix k.kinds)

-- Whether its formula is true with the first unknowns set to some values.
abbrev pub true_behind : List Bool → WorkedRun → Bool
true_behind vs k = meaning (drop (length vs) (prefix k.kinds)) (set_to vs (matrix (clauses k.literals)))

-- 'Those with * are proved together as one list of the definitions.'
pub record Worked : Type 0 where
  pub runs : map (λ k. numbers (played k)) worked_runs ≡ map (λ (k : WorkedRun). k.returned) worked_runs
  -- K1: 'A 0 then 1, S 1 then 0', each row with the round it came in.
  pub k1_a : (played K1).A ≡ under_mark 0 (false ∷ []) ∷ under_mark 1 (true ∷ []) ∷ []
  pub k1_s : (played K1).S ≡ under_mark 1 (true ∷ []) ∷ under_mark 2 (false ∷ []) ∷ []
  pub k1_marks : map (λ x. x.mark) ((played K1).A ++ (played K1).S) ≡ 0 ∷ 1 ∷ 1 ∷ 2 ∷ []
  -- K11: 'rows 0 and 1 accepted; row 1 alone not'.
  pub k11_both : K11 ((false ∷ []) ∷ (true ∷ []) ∷ []) ≡ true
  pub k11_one : K11 ((true ∷ []) ∷ []) ≡ false
  -- The opening: by the last row, where the first would not do.
  pub last_opens : map (λ k. numbers (played k)) (opened_by_last ∷ broken_by_last ∷ []) ≡ opened_by_last.returned ∷ broken_by_last.returned ∷ []
  pub opened_s : (played opened_by_last).S ≡ under_mark 1 (false ∷ []) ∷ under_mark 2 (true ∷ []) ∷ []
  pub opened_so : opened opened_by_last ≡ true ∷ []
  pub first_opens_not : true_behind (false ∷ []) opened_by_last ≡ false
  pub broken_a : (played broken_by_last).A ≡ under_mark 0 (false ∷ true ∷ []) ∷ under_mark 1 (false ∷ false ∷ []) ∷ []
  pub broken_so : opened broken_by_last ≡ false ∷ false ∷ []
  pub first_breaks_not : true_behind (false ∷ true ∷ []) broken_by_last ≡ true
  pub lengths : map block_length (opened_by_last ∷ broken_by_last ∷ K5 ∷ K6 ∷ K1 ∷ K2 ∷ K12 ∷ K13 ∷ []) ≡ 1 ∷ 2 ∷ 1 ∷ 1 ∷ 0 ∷ 0 ∷ 0 ∷ 0 ∷ []
  -- K5 and K6 open with row 0; K1, K2, K12 and K13 with nothing.
  pub openings : map opened (K5 ∷ K6 ∷ K1 ∷ K2 ∷ K12 ∷ K13 ∷ []) ≡ (false ∷ []) ∷ (false ∷ []) ∷ [] ∷ [] ∷ [] ∷ [] ∷ []
