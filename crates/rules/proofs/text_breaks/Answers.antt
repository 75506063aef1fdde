-- The length decides 8, the first byte and the text 9.
-- Assumes nothing.
use mathlib.Core.Path.{refl}
use Rattle.rules.proofs.Contents.{text_short, text_rest}
use Rattle.rules.proofs.text_breaks.Goals as goal

pub returns-then-part-lt3 : goal.returns-then-part-lt3
returns-then-part-lt3 c = text_short c.args.part.now c.if-part-lt3.true

pub returns : goal.returns
returns c =
    let p = c.args.part.now in
    λ σ. c.text_rules.ensures σ p c.if-part-lt3.false refl
    (rw (c.well_formed-2.ensures, text_rest p) refl)
