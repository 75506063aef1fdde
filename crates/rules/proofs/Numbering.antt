-- The number of the first rule that is broken, test by test: the rule that is broken first is handed on.
-- Assumes nothing.
use Rattle.std.specs.Prelude.{◌≡◌, ℕ, Bool, true, false}
use Rattle.std.specs.Result.{result_and}
use Rattle.std.proofs.Common.{refl}
use mathlib.Core.Option.{Option, none}
use Rattle.format.specs.Answers.{fault_of}
use Rattle.format.specs.Rules.{unless_kept, numbered}
use Rattle.format.specs.declared.answers.Rule.TheVariants.{DeviceType, Power, Layout, Code, Retired, Pin}
use Rattle.rules.specs.Broken.{or_else, kept_or}

pub three_numbered :
    (a b c : Bool)
    → fault_of (result_and (result_and (kept_or a DeviceType) (kept_or b Power)) (kept_or c Pin))
    ≡ numbered (unless_kept a 4 (unless_kept b 5 (unless_kept c 10 none)))
three_numbered false b c = refl
three_numbered true false c = refl
three_numbered true true false = refl
three_numbered true true true = refl

pub four_numbered :
    (a b c d : Bool)
    → fault_of (result_and (result_and (result_and (kept_or a Layout) (kept_or b Code)) (kept_or c Retired)) (kept_or d Pin))
    ≡ numbered (unless_kept a 8 (unless_kept b 9 (unless_kept c 23 (unless_kept d 10 none))))
four_numbered false b c d = refl
four_numbered true false c d = refl
four_numbered true true false d = refl
four_numbered true true true false = refl
four_numbered true true true true = refl

pub numbering : (t : Bool) (k : ℕ) (later : Option ℕ) → numbered (unless_kept t k later) ≡ or_else t k (numbered later)
numbering true k later = refl
numbering false k later = refl
