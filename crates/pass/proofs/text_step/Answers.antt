-- `text_step` meets its contract: a string is judged by its bytes and its number.
-- Assumes nothing.
use native.Mathlib.Omega.{arith}
use Rattle.pass.proofs.text_step.Goals as goal

pub returns : goal.returns
returns c =
    let j = c.text_judged.ensures in (
      λ σ at zs zu su.
          j.steps σ _ (λ i. omega (arith, c.type_inv.b i)) (c.text_breaks.ensures σ)
          c.first.ensures at zs zu su,
      j.low,
    )
