-- What is returned follows from its number and the counts that it tells. Assumes nothing.
use Prim.Native.Nat.{ℕ, ◌+◌}
use Rattle.std.specs.Prelude.{Result, Ok, Err}
use mathlib.Core.Path.{◌≡◌, sym, ap, ap₂, ◌∙◌}
use mathlib.Core.Bool.{cond}
use mathlib.Core.List.{List}
use lib.Dec.{eqb}
use lib.IntN.{ℤ}
use lib.ListN.{length}
use Rattle.cause.specs.declared.Cause.{Cause}
use Rattle.cause.specs.Cause.{told}
use Rattle.cause.proofs.Numbers.{unless_number}
use Rattle.text_gates.specs.declared.Put.{Put}
use Rattle.text_gates.specs.GateLine.{PutSo, put_told, entries_after, made_after}

pub returned_so : {cause : ℕ} {zs : List ℤ} {clauses made m : ℕ} {L L' : List ℤ} (r : Result Put Cause)
    → PutSo cause zs clauses made m L (told r) (entries_after m r) (made_after made r) L' → r ≡ put_told cause zs clauses made m
returned_so {cause} {zs} {clauses} {made} {m} (Ok put) so =
    let none : 0 ≡ cause = so.caused in
    let used : put.entries ≡ m + length zs = so.used ∙ ap (λ (n : ℕ). cond (eqb n 0) (m + length zs) m) (sym none) in
    let all : put.made ≡ made + clauses = so.all ∙ ap (λ (n : ℕ). cond (eqb n 0) (made + clauses) made) (sym none) in
    ap₂ (λ (e k : ℕ). Ok record { entries = e; made = k }) used all
    ∙ ap (λ (n : ℕ). put_told n zs clauses made m) none
returned_so {cause} {zs} {clauses} {made} {m} (Err c) so =
    sym (unless_number c record { entries = m + length zs; made = made + clauses }) ∙ ap (λ (n : ℕ). put_told n zs clauses made m) so.caused
