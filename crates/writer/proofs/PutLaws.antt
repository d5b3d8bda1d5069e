-- Bytes put one behind the other, and what is left to put. Assumes nothing.
use Prim.Native.Nat.{ℕ, ◌+◌, ◌≤◌}
use native.Mathlib.Omega.{arith}
use mathlib.Core.Path.{◌≡◌, sym, ap, subst, ◌∙◌}
use mathlib.Core.List.{[], ◌++◌, append-nil, append_assoc}
use lib.ListN.{length, take, drop, length-append, length-take}
use lib.Seq.{take_at}
use Rattle.buffer.specs.Buffer.{appended, place_behind}
use Rattle.buffer.proofs.Laws.{appended_fits, behind_fits}
use Rattle.lines.specs.Lines.{Bytes}
use Rattle.writer.specs.Private.Steps.{Put}

pub put_part : (before : Bytes) (place : ℕ) (part : Bytes) {end : ℕ} {after : Bytes} → place + length part ≤ length before
    → end ≡ place_behind before place part → after ≡ appended before place part → Put part place before end after
put_part before place part {end} {after} room e f =
    let there : end ≡ place + length part = e ∙ behind_fits before place part room in
    let whole = f ∙ appended_fits before place part room in
    let head : length (take place before ++ part) ≡ end = simp (length-append, length-take) (omega arith) in
    record {
      ends = there;
      stands = ap (take end) whole ∙ take_at (take place before ++ part) (drop (place + length part) before) end head;
    }

pub put_nothing : (before : Bytes) (place : ℕ) → Put [] place before place before
put_nothing before place = record { ends = omega arith; stands = sym (append-nil (take place before)) }

pub put_then : {a b : Bytes} {p q r : ℕ} {s t u : Bytes} → Put a p s q t → Put b q t r u → Put (a ++ b) p s r u
put_then {a} {b} {p} {q} {r} {s} {t} {u} x y =
    let one = x.ends in
    let two = y.ends in
    record {
      ends = omega (arith, length-append a b);
      stands = y.stands ∙ ap (λ (l : Bytes). l ++ b) x.stands ∙ append_assoc (take p s) a b;
    }

pub put_as : {a b : Bytes} {p q : ℕ} {s t : Bytes} → a ≡ b → Put a p s q t → Put b p s q t
put_as {a} {b} {p} {q} {s} {t} e x = subst (λ (l : Bytes). Put l p s q t) e x

-- So much of `all`, which is put from `place` on, is left at `end`.
pub record Left (all : Bytes) (place : ℕ) (before rest : Bytes) (end : ℕ) (after : Bytes) : Type 0 where
  pub sized : length after ≡ length before
  pub counted : end + length rest ≡ place + length all
  pub so_far : take end after ++ rest ≡ take place before ++ all

pub left_next : {all : Bytes} {place : ℕ} {before part rest whole : Bytes} {end next : ℕ} {now after : Bytes} → whole ≡ part ++ rest →
    Left all place before whole end now
    → Put part end now next after → length after ≡ length now → Left all place before rest next after
left_next {all} {place} {before} {part} {rest} {whole} {end} {next} {now} {after} e l p same =
    let one = p.ends in
    let two = l.counted in
    record {
      sized = same ∙ l.sized;
      counted = omega (arith, ap length e ∙ length-append part rest);
      so_far =
          ap (λ (x : Bytes). x ++ rest) p.stands ∙ append_assoc (take end now) part rest ∙ ap (λ (x : Bytes). take end now ++ x) (sym e) ∙ l.so_far;
    }

-- There is room for the next part, and for what is left.
pub left_room : (part rest : Bytes) {all : Bytes} {place : ℕ} {before whole : Bytes} {end : ℕ} {now : Bytes} → whole ≡ part ++ rest →
    Left all place before whole end now
    → place + length all ≤ length before → end + length part ≤ length now
left_room part rest e l room =
    let a = l.sized in
    let b = l.counted in
    omega (arith, ap length e ∙ length-append part rest)

-- What was put from the start on stands within.
pub put_within : {bytes before after : Bytes} {end : ℕ} → Put bytes 0 before end after → end ≤ length after
put_within {bytes} {before} {after} {end} p =
    let e = p.ends in
    omega (arith, length-take end after, ap length p.stands)
