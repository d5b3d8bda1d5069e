-- The numbers with which a text and a gate list are refused. Assumes nothing.
use Prim.Native.Nat.{ℕ, zero, suc, ◌+◌, ◌-◌}
use native.Mathlib.Omega.{arith}
use mathlib.Core.Path.{◌≡◌, refl, sym, ap, subst, ◌∙◌}
use mathlib.Core.Bool.{Bool, true, false}
use mathlib.Core.List.{List}
use mathlib.Core.Logic.{inl, inr}
use Rattle.lines.specs.Lines.{Bytes}
use Rattle.named.specs.Names.{In}
use Rattle.cause.specs.Cause.{number, caused}
use Rattle.text.specs.Reading.{Reading, stopped, scan, result_of, Result, taken, refused, read, read_gates, returned, number_of, text_causes, gates_causes}
use Rattle.text.specs.CausesRight.{CausesRight}
use Rattle.text.proofs.TextLaws.{OfText, Results, Passes, read_passes}
use Rattle.text.proofs.GatesPass.{GatesResults, gates_pass}

pub among_text : (n : ℕ) → OfText n → In n text_causes
among_text n of = go (n - 9) (omega (arith, of.from_9))
  where
    go : (k : ℕ) → n ≡ 9 + k → In n text_causes
    go zero e = inl (omega (arith, e))
    go (suc zero) e = inr (inl (omega (arith, e)))
    go (suc (suc zero)) e = inr (inr (inl (omega (arith, e))))
    go (suc (suc (suc zero))) e = inr (inr (inr (inl (omega (arith, e)))))
    go (suc (suc (suc (suc zero)))) e = absurd (of.not_13 (omega (arith, e)))
    go (suc (suc (suc (suc (suc zero))))) e = inr (inr (inr (inr (inl (omega (arith, e))))))
    go (suc (suc (suc (suc (suc (suc k)))))) e = absurd (omega (arith, e, of.to_14))

not_of_text : In 13 text_causes → ⊥
not_of_text (inl e) = omega (arith, e)
not_of_text (inr (inl e)) = omega (arith, e)
not_of_text (inr (inr (inl e))) = omega (arith, e)
not_of_text (inr (inr (inr (inl e)))) = omega (arith, e)
not_of_text (inr (inr (inr (inr (inl e))))) = omega (arith, e)
not_of_text (inr (inr (inr (inr (inr i))))) = i

not_of_gates : In 13 gates_causes → ⊥
not_of_gates (inl e) = omega (arith, e)
not_of_gates (inr (inl e)) = omega (arith, e)
not_of_gates (inr (inr (inl e))) = omega (arith, e)
not_of_gates (inr (inr (inr (inl e)))) = omega (arith, e)
not_of_gates (inr (inr (inr (inr (inl e))))) = omega (arith, e)
not_of_gates (inr (inr (inr (inr (inr (inl e)))))) = omega (arith, e)
not_of_gates (inr (inr (inr (inr (inr (inr (inl e))))))) = omega (arith, e)
not_of_gates (inr (inr (inr (inr (inr (inr (inr i))))))) = i

-- Those of a gate list have causes.
pub known_of_gates : {n : ℕ} → In n gates_causes → number (caused n) ≡ n
known_of_gates (inl e) = rw (← e) refl
known_of_gates (inr (inl e)) = rw (← e) refl
known_of_gates (inr (inr (inl e))) = rw (← e) refl
known_of_gates (inr (inr (inr (inl e)))) = rw (← e) refl
known_of_gates (inr (inr (inr (inr (inl e))))) = rw (← e) refl
known_of_gates (inr (inr (inr (inr (inr (inl e)))))) = rw (← e) refl
known_of_gates (inr (inr (inr (inr (inr (inr (inl e))))))) = rw (← e) refl
known_of_gates (inr (inr (inr (inr (inr (inr (inr i))))))) = absurd i

-- Each of a text is one of a gate list's.
pub of_text_of_gates : {n : ℕ} → In n text_causes → In n gates_causes
of_text_of_gates (inl e) = inl e
of_text_of_gates (inr (inl e)) = inr (inl e)
of_text_of_gates (inr (inr (inl e))) = inr (inr (inl e))
of_text_of_gates (inr (inr (inr (inl e)))) = inr (inr (inr (inl e)))
of_text_of_gates (inr (inr (inr (inr (inl e))))) = inr (inr (inr (inr (inl e))))
of_text_of_gates (inr (inr (inr (inr (inr i))))) = absurd i

-- From a result whose refusals have these numbers to what is returned.
module _ (causes : List ℕ) (none : In 13 causes → ⊥) (known : (n : ℕ) → In n causes → number (caused n) ≡ n) {r : Reading} where
  by_result : (x : Result) → ((n line : ℕ) → x ≡ refused n line → In n causes) → r ≡ returned x → CausesRight causes r
  by_result (taken s) among e =
      record {
        one_of = λ refusal told. let z : ◌≡◌ {A = ℕ} 0 1 = cc in absurd (omega arith);
        never_13 = λ told. absurd (omega (arith, told, ap number_of e));
      }
  by_result (refused m k) among e =
      let here = among m k refl in
      record {
        one_of = λ refusal told.
            let same : caused m ≡ refusal.cause = cc in
            subst (λ (x : ℕ). In x causes) (sym (known m here) ∙ ap number same) here;
        never_13 = λ told. none (subst (λ (x : ℕ). In x causes) (sym (known m here) ∙ sym (ap number_of e) ∙ told) here);
      }

module _ (text : Bytes) (kinds literals names : ℕ) {r : Reading} where
  pub text_causes_right : r ≡ returned (read text kinds literals names) → CausesRight text_causes r
  text_causes_right =
      by_result text_causes not_of_text (λ n i. known_of_gates (of_text_of_gates i)) (read text kinds literals names)
      (λ n line e. among_text n (subst (Results Passes) e (read_passes text kinds literals names)))

  pub gates_causes_right : r ≡ returned (read_gates text kinds literals names) → CausesRight gates_causes r
  gates_causes_right =
      by_result gates_causes not_of_gates (λ n i. known_of_gates i) (read_gates text kinds literals names)
      (λ n line e. subst GatesResults e (gates_pass text kinds literals names))

-- So is each number at which the lines of either form stop.
pub stops_among : (gates : Bool) (text : Bytes) (kinds literals names : ℕ) {n line : ℕ} → scan gates text kinds literals names ≡ stopped n line
    → In n gates_causes
unfolding read read_gates
stops_among false text kinds literals names {n} e =
    of_text_of_gates (among_text n (subst (Results Passes) (ap result_of e) (read_passes text kinds literals names)))
stops_among true text kinds literals names e = subst GatesResults (ap result_of e) (gates_pass text kinds literals names)
