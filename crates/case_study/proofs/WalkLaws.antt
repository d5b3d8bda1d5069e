-- The walk over all cases: what is left to be told, move by move. Assumes nothing.
use Prim.Native.Nat.{ℕ, zero, suc, ◌+◌, ◌-◌, ◌≤◌, ◌<◌}
use Rattle.std.specs.Prelude.{Option, Some, None}
use native.Mathlib.Omega.{arith}
use mathlib.Core.Path.{◌≡◌, refl, sym, ap, subst, ◌∙◌}
use mathlib.Core.Bool.{Bool, true, false, cond}
use mathlib.Core.List.{List, [], ◌∷◌, ◌++◌, append-nil}
use mathlib.Core.Option.{none, some}
use lib.IntN.{ℤ}
use lib.ListN.{length, drop, length-append, length-drop}
use Rattle.engine.specs.Outcome.{Areas}
use Rattle.formula.specs.Causes.{any}
use Rattle.case_rules.specs.Restricted.{IsAccepted, restricted}
use Rattle.case_rules.specs.ByCases.{names_first}
use Rattle.study.specs.declared.Setting.{Setting}
use Rattle.study.specs.Study.{formula_of}
use Rattle.case_study.specs.declared.Progress.{Progress}
use Rattle.case_study.specs.declared.Reply.{Reply as Found}
use Rattle.case_study.specs.Cases.{second_value, first_value, half, agree, both_cases, if_named, State, state, Reply, is, undecided, stopped, Asked, asked, Asking, by_run, sharing, passing, reply_to, at_end, Told, told, unless, decide_by}
use Rattle.case_study.specs.Decided.{no_runs, by_cases}
use Rattle.case_study.specs.Private.Path.{step, at_level, formula_at, resume, to_ask, unnamed, way_of, way_down, Placed, path_of, Descended, Climbed, replied, asking_by}
use Rattle.case_study.proofs.AcceptedLaws.{trimmed_accepted}
use Rattle.case_study.proofs.PathLaws.{formula_nil, formula_accepted, formula_further, resume_nil, resume_further, goes_down, fewer_further, fewer_down}
use Rattle.case_study.proofs.NameLaws.{way_counted}
use Rattle.case_study.proofs.ByteLaws.{path_length}

-- ---- one formula asked

never_passing : (claim : Option Bool) → at_end (asking_by claim) ≡ asking_by claim
never_passing (Some v) = refl
never_passing None = refl

module _ (s : Setting) (bound n : ℕ) (phi : List ℤ) (claim : Option Bool) (st : State) (r : Asked) where
  abbrev how : Asking
  how = asking_by claim

  abbrev cases : ℕ → List ℕ → State → Told
  cases k ks =
      if_named (any names_first phi)
      (λ now.
      both_cases k (decide_by s bound n by_run ks (half s ks phi (first_value k)) now)
      (λ v later. decide_by s bound n (sharing v) ks (half s ks phi (second_value k)) later))
      (λ now. decide_by s bound n passing ks (restricted (second_value k ∷ []) phi) now)

  -- What it is told, by the reply.
  told_verdict : (ks : List ℕ) (v : Bool) → r ≡ reply_to how s bound (n - length ks) ks phi st → r.reply ≡ is v
      → decide_by s bound n how ks phi st ≡ told (some v) r.state_then
  unfolding decide_by
  told_verdict [] v on_r e =
      let whole : n - 0 ≡ n = omega arith in
      let asked_so : reply_to (at_end how) s bound n [] phi st ≡ r = (λ d. reply_to (never_passing claim d) s bound (sym whole d) [] phi st) ∙ sym on_r in
      ap (λ (a : Asked). unless a.reply a.state_then (told none)) asked_so ∙ ap (λ (x : Reply). unless x r.state_then (told none)) e
  told_verdict (k ∷ ks) v on_r e =
      ap (λ (a : Asked). unless a.reply a.state_then (cases k ks)) (sym on_r) ∙ ap (λ (x : Reply). unless x r.state_then (cases k ks)) e

  told_stopped : (ks : List ℕ) → r ≡ reply_to how s bound (n - length ks) ks phi st → r.reply ≡ stopped
      → decide_by s bound n how ks phi st ≡ told none r.state_then
  unfolding decide_by
  told_stopped [] on_r e =
      let whole : n - 0 ≡ n = omega arith in
      let asked_so : reply_to (at_end how) s bound n [] phi st ≡ r = (λ d. reply_to (never_passing claim d) s bound (sym whole d) [] phi st) ∙ sym on_r in
      ap (λ (a : Asked). unless a.reply a.state_then (told none)) asked_so ∙ ap (λ (x : Reply). unless x r.state_then (told none)) e
  told_stopped (k ∷ ks) on_r e =
      ap (λ (a : Asked). unless a.reply a.state_then (cases k ks)) (sym on_r) ∙ ap (λ (x : Reply). unless x r.state_then (cases k ks)) e

  told_at_end : (ks : List ℕ) → r ≡ reply_to how s bound (n - length ks) ks phi st → r.reply ≡ undecided → length ks ≡ 0
      → decide_by s bound n how ks phi st ≡ told none r.state_then
  unfolding decide_by
  told_at_end [] on_r e z =
      let whole : n - 0 ≡ n = omega arith in
      let asked_so : reply_to (at_end how) s bound n [] phi st ≡ r = (λ d. reply_to (never_passing claim d) s bound (sym whole d) [] phi st) ∙ sym on_r in
      ap (λ (a : Asked). unless a.reply a.state_then (told none)) asked_so ∙ ap (λ (x : Reply). unless x r.state_then (told none)) e
  told_at_end (k ∷ ks) on_r e z = absurd (omega (arith, z))

  told_undecided : (ks : List ℕ) → r ≡ reply_to how s bound (n - length ks) ks phi st → r.reply ≡ undecided → 1 ≤ length ks
      → decide_by s bound n how ks phi st ≡ decide_by s bound n passing ks phi r.state_then
  unfolding decide_by
  told_undecided [] on_r e some_left = absurd (omega (arith, some_left))
  told_undecided (k ∷ ks) on_r e some_left =
      ap (λ (a : Asked). unless a.reply a.state_then (cases k ks)) (sym on_r) ∙ ap (λ (x : Reply). unless x r.state_then (cases k ks)) e

-- ---- the walk

-- Where the bound was reached nothing more is told.
resume_none : (s : Setting) (bound n : ℕ) (kinds : List ℕ) (literals : List ℤ) (path : List Bool) (st : State)
    → resume s bound n kinds literals path (told none st) ≡ told none st
unfolding resume
resume_none s bound n [] literals path st = refl
resume_none s bound n (k ∷ kinds) literals [] st = refl
resume_none s bound n (k ∷ kinds) literals (v ∷ path) st =
    ap (λ (inner : Told). at_level k v inner (λ w later. decide_by s bound n (sharing w) kinds (step s kinds literals (second_value k)) later)) (resume_none s bound n kinds (step s kinds literals v) path st)
    ∙ either (agree v (first_value k))
  where
    either : (b : Bool) → cond b (told none st) (told none st) ≡ told none st
    either true = refl
    either false = refl

pub record Going (s : Setting) (bound : ℕ) (kinds : List ℕ) (literals : List ℤ) (found present : Areas) (made : Progress) (values : List ℕ) (depth : ℕ) (claim : Option Bool) : Type 0 where
  pub placed : Placed kinds values depth
  pub same : by_cases kinds literals s bound found
      ≡ resume s bound (length kinds) kinds (formula_of s.trim kinds literals) (path_of values depth)
      (decide_by s bound (length kinds) (asking_by claim) (drop depth kinds) (formula_at s kinds (formula_of s.trim kinds literals) (path_of values depth)) (state present made))

pub going_from : (s : Setting) (bound : ℕ) (kinds : List ℕ) (literals : List ℤ) (found : Areas) (values : List ℕ) → Placed kinds values 0
    → Going s bound kinds literals found found no_runs values 0 None
unfolding by_cases
going_from s bound kinds literals found values placed =
    let first = formula_of s.trim kinds literals in
    record {
      placed = placed;
      same =
          sym (resume_nil s bound (length kinds) kinds first _
          ∙ ap (λ (phi : List ℤ). decide_by s bound (length kinds) by_run kinds phi (state found no_runs)) (formula_nil s kinds first));
    }

drop_twice : (a b : ℕ) (l : List ℕ) → a ≤ length l → drop b (drop a l) ≡ drop (a + b) l
drop_twice zero b l h = let same : b ≡ 0 + b = omega arith in ap (λ (n : ℕ). drop n l) same
drop_twice (suc a) b [] h = absurd (omega arith)
drop_twice (suc a) b (x ∷ l) h = let same : suc (a + b) ≡ suc a + b = omega arith in drop_twice a b l (omega arith) ∙ ap (λ (n : ℕ). drop n (x ∷ l)) same

module _ (s : Setting) (bound : ℕ) (kinds : List ℕ) (literals : List ℤ) (found present : Areas) (made : Progress) (values : List ℕ) (depth : ℕ) (claim : Option Bool)
    (going : Going s bound kinds literals found present made values depth claim) (a : IsAccepted kinds literals) (ks : List ℕ) (on_ks : ks ≡ drop depth kinds)
    (phi : List ℤ) (on_phi : phi ≡ formula_at s kinds (formula_of s.trim kinds literals) (path_of values depth)) (reply : Found) (exit : Areas) (after : Progress)
    (on_ask : asked (replied reply) (state exit after) ≡ reply_to (asking_by claim) s bound depth ks phi (state present made)) where
  abbrev n : ℕ
  n = length kinds

  abbrev first : List ℤ
  first = formula_of s.trim kinds literals

  abbrev P : List Bool
  P = path_of values depth

  long : length P ≡ depth
  long = path_length values depth (omega (arith, going.placed.below, going.placed.as_long))

  left_long : length ks ≡ n - depth
  left_long = ap length on_ks ∙ length-drop depth kinds

  depth_is : n - length ks ≡ depth
  depth_is = omega (arith, left_long, going.placed.below)

  whole : by_cases kinds literals s bound found ≡ resume s bound n kinds first P (decide_by s bound n (asking_by claim) ks phi (state present made))
  whole = going.same ∙ (λ d. resume s bound n kinds first P (decide_by s bound n (asking_by claim) (sym on_ks d) (sym on_phi d) (state present made)))

  asked_so : asked (replied reply) (state exit after) ≡ reply_to (asking_by claim) s bound (n - length ks) ks phi (state present made)
  asked_so = on_ask ∙ ap (λ (d : ℕ). reply_to (asking_by claim) s bound d ks phi (state present made)) (sym depth_is)

  module _ (v : Bool) (on_reply : replied reply ≡ is v) where
    verdict_here : by_cases kinds literals s bound found ≡ resume s bound n kinds first P (told (some v) (state exit after))
    verdict_here =
        whole ∙ ap (resume s bound n kinds first P) (told_verdict s bound n phi claim (state present made) (asked (replied reply) (state exit after)) ks v asked_so on_reply)

    pub told_at_last : (values_after : List ℕ) (level : ℕ) → Climbed kinds values depth v values_after level → level ≡ 0
        → by_cases kinds literals s bound found ≡ told (some v) (state exit after)
    told_at_last values_after level up top = verdict_here ∙ up.told_at_top top s bound n first (state exit after)

    pub goes_up : (values_after : List ℕ) (level : ℕ) → Climbed kinds values depth v values_after level → (level ≡ 0 → ⊥)
        → Going s bound kinds literals found exit after values_after level (Some v)
    goes_up values_after level up below =
        record {
          placed = up.placed;
          same =
              verdict_here ∙ up.turned below s bound n first (state exit after);
        }

  pub told_stopped_here : replied reply ≡ stopped → by_cases kinds literals s bound found ≡ told none (state exit after)
  told_stopped_here on_reply =
      whole ∙ ap (resume s bound n kinds first P) (told_stopped s bound n phi claim (state present made) (asked (replied reply) (state exit after)) ks asked_so on_reply)
      ∙ resume_none s bound n kinds first P (state exit after)

  pub told_undecided_end : replied reply ≡ undecided → depth ≡ n → by_cases kinds literals s bound found ≡ told none (state exit after)
  told_undecided_end on_reply end =
      whole
      ∙ ap (resume s bound n kinds first P)
      (told_at_end s bound n phi claim (state present made) (asked (replied reply) (state exit after)) ks asked_so on_reply (omega (arith, left_long, end)))
      ∙ resume_none s bound n kinds first P (state exit after)

  module _ (on_reply : replied reply ≡ undecided) (some_left : depth < n) (values_after : List ℕ) (deeper : ℕ) (down : Descended kinds phi values depth values_after deeper) where
    abbrev way : List Bool
    way = way_down ks phi

    phi_accepted : IsAccepted ks phi
    phi_accepted =
        subst (λ (l : List ℕ). IsAccepted l phi) (ap (λ (d : ℕ). drop d kinds) long ∙ sym on_ks)
        (subst (IsAccepted (drop (length P) kinds)) (sym on_phi)
        (formula_accepted s kinds first P (omega (arith, long, some_left)) (trimmed_accepted s.trim kinds literals a)))

    path_is : path_of values_after deeper ≡ P ++ way
    path_is =
        down.gone ∙ ap (λ (bs : List Bool). P ++ bs)
        ((λ d. way_of (sym on_ks d) (unnamed (sym left_long d) phi)) ∙ sym (way_counted ks phi phi_accepted))

    behind : drop (length P) kinds ≡ ks
    behind = ap (λ (d : ℕ). drop d kinds) long ∙ sym on_ks

    deeper_is : deeper ≡ depth + length way
    deeper_is =
        sym (path_length values_after deeper (omega (arith, down.placed.below, down.placed.as_long)))
        ∙ ap length path_is ∙ length-append P way ∙ ap (λ (d : ℕ). d + length way) long

    further_kinds : drop (length way) ks ≡ drop deeper kinds
    further_kinds =
        ap (drop (length way)) on_ks ∙ drop_twice depth (length way) kinds (omega (arith, some_left)) ∙ ap (λ (d : ℕ). drop d kinds) (sym deeper_is)

    further_formula : formula_at s ks phi way ≡ formula_at s kinds first (path_of values_after deeper)
    further_formula =
        (λ d. formula_at s (sym behind d) (on_phi d) way)
        ∙ sym (formula_further s kinds first P way (omega (arith, long, some_left))) ∙ ap (formula_at s kinds first) (sym path_is)

    pub goes_further : Going s bound kinds literals found exit after values_after deeper None
    goes_further =
        record {
          placed = down.placed;
          same =
              whole
              ∙ ap (resume s bound n kinds first P)
              (told_undecided s bound n phi claim (state present made) (asked (replied reply) (state exit after)) ks asked_so on_reply (omega (arith, left_long, some_left))
              ∙ goes_down s bound n ks phi (state exit after))
              ∙ (λ d. resume s bound n kinds first P (resume s bound n (sym behind d) (on_phi d) way (decide_by s bound n by_run (further_kinds d) (further_formula d) (state exit after))))
              ∙ sym (resume_further s bound n kinds first P way (decide_by s bound n by_run (drop deeper kinds) (formula_at s kinds first (path_of values_after deeper)) (state exit after)) (omega (arith, long, some_left)))
              ∙ ap (λ (path : List Bool). resume s bound n kinds first path (decide_by s bound n by_run (drop deeper kinds) (formula_at s kinds first (path_of values_after deeper)) (state exit after)))
              (sym path_is);
        }

    pub fewer_then : to_ask kinds (path_of values_after deeper) < to_ask kinds P
    fewer_then =
        subst (λ (path : List Bool). to_ask kinds path < to_ask kinds P) (sym path_is)
        (subst (λ (path : List Bool). to_ask kinds (P ++ way) < to_ask kinds path) (append-nil P)
        (fewer_further kinds P way [] (omega (arith, long, some_left))
        (subst (λ (l : List ℕ). to_ask l way < to_ask l []) (sym behind) (fewer_here ks (omega (arith, left_long, some_left))))))
      where
        fewer_here : (l : List ℕ) → 1 ≤ length l → to_ask l (way_down l phi) < to_ask l []
        fewer_here [] h = absurd (omega (arith, h))
        fewer_here (k ∷ l) h = fewer_down k l phi
