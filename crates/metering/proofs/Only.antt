-- No second outcome keeps the words of `reading`, nor a second result; and no second number those of `packed_reading` and `packed_own`.
-- Assumes nothing.
use Prim.Native.Nat.{ℕ}
use native.Mathlib.Omega.{arith}
use mathlib.Core.Path.{◌≡◌, refl, sym, ◌∙◌, ap}
use mathlib.Core.List.{List}
use Rattle.std.specs.Prelude.{Result, Ok, Err}
use Rattle.format.specs.Slots.{Bytes}
use Rattle.format.specs.declared.settings.Settings.{Settings}
use Rattle.format.specs.declared.records.Element.{Element}
use Rattle.format.specs.Answers.{Asked}
use Rattle.format.specs.Answers.{Answered, Gives as Given, Refused as NotGiven, told}
use Rattle.format.specs.declared.answers.Refusal.{Refusal}
use Rattle.format.proofs.Refusals.{told_once}
use Rattle.reader.proofs.Only.{only_element}
use Rattle.converting.specs.Outcomes.{outcome_of}
use Rattle.format.specs.declared.answers.Rule.{Rule}
use Rattle.converting.specs.declared.Converted.{Converted}
use Rattle.converting.specs.declared.Outcome.{Outcome}
use Rattle.converting.specs.declared.Outcome.TheVariants.{Reading, Under, Over}
use Rattle.converting.proofs.Walking.{temperature_unique}
use Rattle.sensing.specs.Answers.{sensor_of, Answers}
use Rattle.sensing.proofs.Only.{answer_unique}
use Rattle.metering.specs.Meters.{metered_of, Meters, given, ungiven}
use Rattle.metering.specs.Face.{packed_of, ReadingFor, OwnFor}
use Rattle.metering.specs.Meters.{Metered, Read, UnderZero, OverHundred, RefusedAt, metered}

never : {a : Asked} {e : Element} {j p : ℕ} → a ≡ Given e → a ≡ NotGiven j p → ⊥
never x y = let z : ◌≡◌ {A = ℕ} 0 1 = cc in omega arith

same : (c : ℕ) {e f : Element} {r q : Result Converted Rule} → Given e ≡ Given f → Answers (sensor_of e) c r → Answers (sensor_of f) c q → r ≡ q
same c {e} {f} x y z = let g : e ≡ f = cc in answer_unique (sensor_of f) c (rw g at y) z

pub only_reading : (σ : Settings) (b : List ℕ) (k c : ℕ) (r r' : Metered) → Bytes b → Meters σ b k c r → Meters σ b k c r' → r ≡ r'
only_reading σ b k c r r' small (ungiven {j = j} {p = p} g) (ungiven {j = j'} {p = p'} g') =
    let q = only_element σ b k (NotGiven j p) (NotGiven j' p') small g g' in
    cc
only_reading σ b k c r r' small (ungiven g) (given r₁ g' a) = absurd
    (never (only_element σ b k _ _ small g' g') (only_element σ b k _ _ small g' g))
only_reading σ b k c r r' small (given r₁ g a) (ungiven g') = absurd
    (never (only_element σ b k _ _ small g g) (only_element σ b k _ _ small g g'))
only_reading σ b k c r r' small (given r₁ g a) (given r₂ g' a') =
    ap (λ (x : Result Converted Rule). metered_of (outcome_of x)) (same c (only_element σ b k _ _ small g g') a a')

-- what a result says of a reading is said by no other result
abbrev answered : Metered → Answered Outcome
answered (Read v) = Given (Reading v)
answered UnderZero = Given Under
answered OverHundred = Given Over
answered (RefusedAt j p) = NotGiven j p

metered_told : (r : Result Outcome Refusal) → answered (metered r) ≡ told r
metered_told (Ok (Reading v)) = refl
metered_told (Ok Under) = refl
metered_told (Ok Over) = refl
metered_told (Err r) = refl

pub metered_once : (r q : Result Outcome Refusal) → metered r ≡ metered q → r ≡ q
metered_once r q e = told_once r q (sym (metered_told r) ∙ ap answered e ∙ metered_told q)

-- so `reading` has no second result
pub only_reading_result :
    (σ : Settings) (b : List ℕ) (k c : ℕ) (r r' : Result Outcome Refusal)
    → Bytes b
    → Meters σ b k c (metered r)
    → Meters σ b k c (metered r')
    → r ≡ r'
only_reading_result σ b k c r r' small x y = metered_once r r' (only_reading σ b k c (metered r) (metered r') small x y)

pub only_number : (σ : Settings) (b : List ℕ) (k c r r' : ℕ) → Bytes b → ReadingFor σ b k c r → ReadingFor σ b k c r' → r ≡ r'
only_number σ b k c r r' small x y =
    x.number ∙ ap packed_of (only_reading σ b k c x.answer y.answer small x.meters y.meters) ∙ sym y.number

pub only_own : (c r r' : ℕ) → OwnFor c r → OwnFor c r' → r ≡ r'
only_own c r r' x y =
    x.number ∙ ap (λ (a : Result Converted Rule). packed_of (metered_of (outcome_of a))) (temperature_unique x.reads y.reads) ∙ sym y.number
