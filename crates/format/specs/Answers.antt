-- 'What comes back': a value, or the number and the place of a refusal; and what a call's result says of it.
-- Assumes nothing.
use Rattle.std.specs.Prelude.{ℕ, Result, Ok, Err}
use Rattle.format.specs.declared.answers.Rule.{Rule}
use Rattle.format.specs.declared.answers.Rule.TheVariants.{Under16Bytes, Revision, TableLength, DeviceType, Power}
use Rattle.format.specs.declared.answers.Rule.TheVariants.{ElementLength, Identifier, Layout, Code, Pin, TooMany, Twice}
use Rattle.format.specs.declared.answers.Rule.TheVariants.{NoZone, NoString, Clash, NoRoom, PastTheLast, NoReading, TraceLine}
use Rattle.format.specs.declared.answers.Rule.TheVariants.{AfterTheEnd, Hex, StillNamed, Retired, Lost, TooLarge}
use Rattle.format.specs.declared.answers.Refusal.{Refusal}
use Rattle.format.specs.declared.records.Description.{Description}
use Rattle.format.specs.declared.records.Element.{Element}

-- a value beside 0; or the number of a refusal, and its place
pub data Answered (A : Type 0) : Type 0 where
  Gives : A → Answered A
  Refused : ℕ → ℕ → Answered A

-- of a check: the number of elements
abbrev pub Answer : Type 0
Answer = Answered ℕ

-- of asking for the description
abbrev pub Described : Type 0
Described = Answered Description

-- of asking for element k
abbrev pub Asked : Type 0
Asked = Answered Element

-- of the writer: the new length
abbrev pub Written : Type 0
Written = Answered ℕ

-- the number that 'What comes back' gives to each rule
abbrev pub rule_number : Rule → ℕ
rule_number Under16Bytes = 1
rule_number Revision = 2
rule_number TableLength = 3
rule_number DeviceType = 4
rule_number Power = 5
rule_number ElementLength = 6
rule_number Identifier = 7
rule_number Layout = 8
rule_number Code = 9
rule_number Pin = 10
rule_number TooMany = 11
rule_number Twice = 12
rule_number NoZone = 13
rule_number NoString = 14
rule_number Clash = 15
rule_number NoRoom = 16
rule_number PastTheLast = 17
rule_number NoReading = 18
rule_number TraceLine = 19
rule_number AfterTheEnd = 20
rule_number Hex = 21
rule_number StillNamed = 22
rule_number Retired = 23
rule_number Lost = 24
rule_number TooLarge = 25

-- what a call's result says
abbrev pub told : {A : Type 0} → Result A Refusal → Answered A
told (Ok a) = Gives a
told (Err r) = Refused (rule_number r.rule) r.place

-- what a test of rules says: the number of the rule that is broken, or 0
abbrev pub fault_of : {A : Type 0} → Result A Rule → ℕ
fault_of (Ok a) = 0
fault_of (Err r) = rule_number r

-- the number of 'What comes back'
abbrev pub number_of : {A : Type 0} → Answered A → ℕ
number_of (Gives a) = 0
number_of (Refused k p) = k

-- the place; 0 beside a value
abbrev pub place_of : {A : Type 0} → Answered A → ℕ
place_of (Gives a) = 0
place_of (Refused k p) = p

-- the place; beside 0 the number of elements, or the new length
abbrev pub value_of : Answered ℕ → ℕ
value_of (Gives n) = n
value_of (Refused k p) = p
