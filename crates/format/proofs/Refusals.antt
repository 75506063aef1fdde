-- A rule has one number and a number one rule, so what a result says is said by no other result; and what a `?` hands on.
-- Assumes nothing.
use Rattle.std.specs.Prelude.{◌≡◌, ℕ, ◌<◌, Bool, true, false, Result, Ok, Err, List, [], ◌∷◌, get_or}
use Rattle.std.specs.Result.{IsErr, IsErrAnd}
use Rattle.std.proofs.Common.{refl, sym, ◌∙◌, ap, lit<, arith}
use Rattle.std.proofs.lemmas.Result.{err_from_is_err_and}
use Rattle.format.specs.Answers.{Answered, Gives, Refused, rule_number, told, number_of, place_of}
use Rattle.format.specs.declared.answers.Rule.{Rule}
use Rattle.format.specs.declared.answers.Rule.TheVariants.{Under16Bytes, Revision, TableLength, DeviceType, Power, ElementLength, Identifier, Layout, Code}
use Rattle.format.specs.declared.answers.Rule.TheVariants.{Pin, TooMany, Twice, NoZone, NoString, Clash, NoRoom, PastTheLast, NoReading}
use Rattle.format.specs.declared.answers.Rule.TheVariants.{TraceLine, AfterTheEnd, Hex, StillNamed, Retired, Lost, TooLarge}
use Rattle.format.specs.declared.answers.Refusal.{Refusal}

-- no rule has the number of an acceptance
pub rule_above : (r : Rule) → 0 < rule_number r
rule_above Under16Bytes = lit< tt
rule_above Revision = lit< tt
rule_above TableLength = lit< tt
rule_above DeviceType = lit< tt
rule_above Power = lit< tt
rule_above ElementLength = lit< tt
rule_above Identifier = lit< tt
rule_above Layout = lit< tt
rule_above Code = lit< tt
rule_above Pin = lit< tt
rule_above TooMany = lit< tt
rule_above Twice = lit< tt
rule_above NoZone = lit< tt
rule_above NoString = lit< tt
rule_above Clash = lit< tt
rule_above NoRoom = lit< tt
rule_above PastTheLast = lit< tt
rule_above NoReading = lit< tt
rule_above TraceLine = lit< tt
rule_above AfterTheEnd = lit< tt
rule_above Hex = lit< tt
rule_above StillNamed = lit< tt
rule_above Retired = lit< tt
rule_above Lost = lit< tt
rule_above TooLarge = lit< tt

-- the rule of a number
abbrev all_rules : List Rule
all_rules =
    Under16Bytes ∷ Under16Bytes ∷ Revision ∷ TableLength ∷ DeviceType ∷ Power ∷ ElementLength ∷ Identifier ∷ Layout ∷ Code
    ∷ Pin ∷ TooMany ∷ Twice ∷ NoZone ∷ NoString ∷ Clash ∷ NoRoom ∷ PastTheLast ∷ NoReading
    ∷ TraceLine ∷ AfterTheEnd ∷ Hex ∷ StillNamed ∷ Retired ∷ Lost ∷ TooLarge ∷ []

abbrev rule_of : ℕ → Rule
rule_of n = get_or all_rules n TooLarge

rule_back : (r : Rule) → rule_of (rule_number r) ≡ r
rule_back Under16Bytes = refl
rule_back Revision = refl
rule_back TableLength = refl
rule_back DeviceType = refl
rule_back Power = refl
rule_back ElementLength = refl
rule_back Identifier = refl
rule_back Layout = refl
rule_back Code = refl
rule_back Pin = refl
rule_back TooMany = refl
rule_back Twice = refl
rule_back NoZone = refl
rule_back NoString = refl
rule_back Clash = refl
rule_back NoRoom = refl
rule_back PastTheLast = refl
rule_back NoReading = refl
rule_back TraceLine = refl
rule_back AfterTheEnd = refl
rule_back Hex = refl
rule_back StillNamed = refl
rule_back Retired = refl
rule_back Lost = refl
rule_back TooLarge = refl

pub rule_once : (r q : Rule) → rule_number r ≡ rule_number q → r ≡ q
rule_once r q h = sym (rule_back r) ∙ ap rule_of h ∙ rule_back q

-- what a `?` hands on is the error that it was given
pub handed : {A E : Type 0} (r : Result A E) (e : E) → IsErrAnd r (λ x. x ≡ e) → r ≡ Err e
handed r e h = let y = err_from_is_err_and r h in y.1 ∙ ap Err y.2

-- the value that is given, or another one
abbrev given_or : {A : Type 0} → A → Answered A → A
given_or d (Gives a) = a
given_or d (Refused k p) = d

-- what a result says is said by no other result
pub told_once : {A : Type 0} (r q : Result A Refusal) → told r ≡ told q → r ≡ q
told_once (Ok a) (Ok b) e = ap Ok (ap (given_or a) e)
told_once (Ok a) (Err q) e = let n = ap number_of e in let above = rule_above q.rule in absurd (omega (arith, n, above))
told_once (Err r) (Ok b) e = let n = ap number_of e in let above = rule_above r.rule in absurd (omega (arith, n, above))
told_once (Err r) (Err q) e =
    let a = rule_once r.rule q.rule (ap number_of e) in
    let b = ap place_of e in
    λ i. Err (record { rule = a i; place = b i })
