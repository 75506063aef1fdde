-- `too_long` meets its contract: the arm that was taken is the identifier's.
-- Assumes nothing.
use Prim.Native.Nat.{ℕ}
use mathlib.Core.Path.{◌≡◌, refl, sym, ◌∙◌, ap}
use mathlib.Core.Bool.{true, false, false≢true}
use Rattle.format.specs.Verdict.{known}
use Rattle.pass.proofs.Taking.{not_known}
use Rattle.closing.proofs.too_long.Goals as goal

listed : (k : ℕ) {id : ℕ} → id ≡ k → known k ≡ true → (known id ≡ true → ◌≡◌ {A = ℕ} 8 8) × (known id ≡ false → ◌≡◌ {A = ℕ} 8 7)
listed k e h = (λ _. refl, λ z. absurd (false≢true (sym z ∙ ap known e ∙ h)))

pub returns-in-1 : goal.returns-in-1
returns-in-1 c = listed 1 c.in-1.is refl

pub returns-in-2 : goal.returns-in-2
returns-in-2 c = listed 2 c.in-2.is refl

pub returns-in-3 : goal.returns-in-3
returns-in-3 c = listed 3 c.in-3.is refl

pub returns-in-4 : goal.returns-in-4
returns-in-4 c = listed 4 c.in-4.is refl

pub returns-in-5 : goal.returns-in-5
returns-in-5 c = listed 5 c.in-5.is refl

pub returns-in-6 : goal.returns-in-6
returns-in-6 c = listed 6 c.in-6.is refl

pub returns-in-7 : goal.returns-in-7
returns-in-7 c = listed 7 c.in-7.is refl

pub returns-in-8 : goal.returns-in-8
returns-in-8 c = listed 8 c.in-8.is refl

pub returns-in-9 : goal.returns-in-9
returns-in-9 c = listed 9 c.in-9.is refl

pub returns-in-10 : goal.returns-in-10
returns-in-10 c = listed 10 c.in-10.is refl

pub returns-in-11 : goal.returns-in-11
returns-in-11 c = listed 11 c.in-11.is refl

pub returns-in-12 : goal.returns-in-12
returns-in-12 c = listed 12 c.in-12.is refl

pub returns-in-13 : goal.returns-in-13
returns-in-13 c = listed 13 c.in-13.is refl

pub returns-in-14 : goal.returns-in-14
returns-in-14 c = listed 14 c.in-14.is refl

pub returns-in_default : goal.returns-in_default
returns-in_default c =
    let m = c.in_default.in_default-own.rest in
    let n = not_known _
    m.0.0.0.0.0.0.0.0.0.0.0.0.0.1
    m.0.0.0.0.0.0.0.0.0.0.0.0.1
    m.0.0.0.0.0.0.0.0.0.0.0.1
    m.0.0.0.0.0.0.0.0.0.0.1
    m.0.0.0.0.0.0.0.0.0.1
    m.0.0.0.0.0.0.0.0.1
    m.0.0.0.0.0.0.0.1
    m.0.0.0.0.0.0.1
    m.0.0.0.0.0.1
    m.0.0.0.0.1
    m.0.0.0.1
    m.0.0.1
    m.0.1
    m.1
    in
    (λ z. absurd (false≢true (sym n ∙ z)), λ _. refl)
