-- Orders that can't be seen, since both tests give one number. Assumes nothing.
use Prim.Native.Nat.{ℕ}
use mathlib.Core.Path.{◌≡◌, refl}
use mathlib.Core.Bool.{Bool, true, false, cond}
use lib.Dec.{ltb}
use Rattle.lines.specs.Lines.{Bytes, words, third, fourth, fifth}
use Rattle.lines.specs.Numbers.{number, unsigned}
use Rattle.lines.specs.Shapes.{is_problem}
use Rattle.text.specs.Reading.{max_variables, max_items, output_range, problem_cause}

in_any_order : (a b : Bool) (n rest : ℕ) → cond a n (cond b n rest) ≡ cond b n (cond a n rest)
in_any_order true true n rest = refl
in_any_order true false n rest = refl
in_any_order false true n rest = refl
in_any_order false false n rest = refl

-- With C tested before V, a p line has the same cause.
pub c_before_v : (gates : Bool) (line : Bytes)
    → problem_cause gates line
    ≡ cond (is_problem gates line)
    (cond (ltb (max_items gates) (number (fourth (words line)))) 11 (cond (ltb max_variables (number (third (words line)))) 11 (output_range gates (number (unsigned (fifth (words line)))))))
    10
unfolding problem_cause
c_before_v gates line = rw (in_any_order (ltb max_variables (number (third (words line)))) (ltb (max_items gates) (number (fourth (words line)))) 11 (output_range gates (number (unsigned (fifth (words line))))))
