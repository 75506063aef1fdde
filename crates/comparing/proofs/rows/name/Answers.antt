-- `name` meets its contract: the constant is the list of the definition, and no name is longer than the letters that stand there.
-- Assumes nothing.
use native.Mathlib.Omega.{arith}
use mathlib.Core.Path.{refl}
use Rattle.comparing.specs.Rows.{names}
use Rattle.comparing.proofs.Naming.{lengths, short_text, short_length, name_here, length_here}
use Rattle.comparing.proofs.rows.name.Goals as goal

pub shared_ref_as_front-result : goal.shared_ref_as_front-result
unfolding lengths names
shared_ref_as_front-result c =
    let is = rw (length_here _ _ c.requires refl _) at c.from-n.ensures in
    let short = short_length _ c.requires in
    omega (arith, is, short)

pub returns : goal.returns
unfolding names
returns c =
    rw c.from-n.ensures
    (rw (name_here _ _ c.requires refl _) refl, rw (name_here _ _ c.requires refl _) (short_text _ c.requires))
