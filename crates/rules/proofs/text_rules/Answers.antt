-- The number and the text decide 9.
-- Assumes nothing.
use mathlib.Core.Path.{refl}
use Rattle.format.specs.Records.{string}
use Rattle.rules.proofs.Contents.{text_long}
use Rattle.rules.proofs.text_rules.Goals as goal

pub returns : goal.returns
returns c = λ σ p l n g. c.own_breaks.ensures σ (string p) (text_long p l) (rw (n, g) refl) refl refl
