-- A calibration that passes the test for our own is our own.
-- Assumes nothing.
use Prim.Native.Nat.{ℕ}
use mathlib.Core.Path.{◌≡◌, sym, ◌∙◌, ap}
use mathlib.Core.Bool.{true}
use lib.Dec.{eqb}
use borrow.Author.Tests.{eqb-true}
use Rattle.std.specs.Prelude.{Result}
use Rattle.converting.specs.Conversions.{Temperature}
use Rattle.converting.specs.Formula.{temperature_of, meant}
use Rattle.format.specs.declared.answers.Rule.{Rule}
use Rattle.converting.specs.declared.Converted.{Converted}
use Rattle.converting.specs.declared.Calibration.{Calibration}
use Rattle.converting.proofs.Walking.{both}
use Rattle.thermistor.specs.Ready.{ours, owned}

made : ℕ → ℕ → ℕ → ℕ → ℕ → Calibration
made a b c d e =
    record { at0 = record { 0 = a }; at25 = record { 0 = b }; at50 = record { 0 = c }; at75 = record { 0 = d }; at100 = record { 0 = e } }

alike : {a b c d e f g h i j : ℕ} → a ≡ f → b ≡ g → c ≡ h → d ≡ i → e ≡ j → made a b c d e ≡ made f g h i j
alike p q r s t = cc

own : (p : Calibration) → owned p ≡ true → p ≡ ours
unfolding made
own p h =
    let b1 = both (eqb p.at0.0 850) _ h in
    let b2 = both (eqb p.at25.0 700) _ b1.1 in
    let b3 = both (eqb p.at50.0 500) _ b2.1 in
    let b4 = both (eqb p.at75.0 320) _ b3.1 in
    alike (eqb-true _ _ b1.0) (eqb-true _ _ b2.0) (eqb-true _ _ b3.0) (eqb-true _ _ b4.0) (eqb-true _ _ b4.1)

pub by_table : (p : Calibration) {n : ℕ} {r : Result Converted Rule} → owned p ≡ true → Temperature ours n r → Temperature p n r
by_table p h t = rw (own p h) t

pub code_table : (p : Calibration) (n x : ℕ) → owned p ≡ true → meant x ≡ temperature_of ours n → meant x ≡ temperature_of p n
code_table p n x h e = e ∙ sym (ap (λ (q : Calibration). temperature_of q n) (own p h))
