-- No second outcome keeps the words of `check`, `description`, `element` and `part`.
-- Assumes nothing.
use Prim.Native.Nat.{ℕ}
use mathlib.Core.Path.{◌≡◌}
use mathlib.Core.List.{List}
use Rattle.format.specs.Slots.{Bytes}
use Rattle.format.specs.Verdict.{Verdict}
use Rattle.format.specs.Asked.{Describes}
use Rattle.format.specs.Answers.{Answer}
use Rattle.format.specs.Answers.{Described}
use Rattle.format.specs.Answers.{Asked}
use Rattle.format.proofs.Demand3.{unique}
use Rattle.format.proofs.Asking.{describes_unique, gives_unique}
use Rattle.reader.specs.Answered.{GivesElement, GivesPart}
use Rattle.format.specs.declared.settings.Settings.{Settings}

pub only_check : (σ : Settings) (b : List ℕ) (r r' : Answer) → Bytes b → Verdict σ b r → Verdict σ b r' → r ≡ r'
only_check = unique

pub only_description : (σ : Settings) (b : List ℕ) (r r' : Described) → Bytes b → Describes σ b r → Describes σ b r' → r ≡ r'
only_description = describes_unique

pub only_element : (σ : Settings) (b : List ℕ) (k : ℕ) (r r' : Asked) → Bytes b → GivesElement σ b k r → GivesElement σ b k r' → r ≡ r'
only_element σ b k r r' small g g' = (gives_unique σ b k r r' g.beside g'.beside small g.gives g'.gives).0

pub only_part : (σ : Settings) (b : List ℕ) (k : ℕ) (p p' : List ℕ) → Bytes b → GivesPart σ b k p → GivesPart σ b k p' → p ≡ p'
only_part σ b k p p' small g g' = (gives_unique σ b k g.beside g'.beside p p' small g.gives g'.gives).1
