-- `esa_salvage` meets its contract: no length is too large.
-- Assumes nothing.
use Rattle.saving.specs.Salvaged.{salvaged}
use native.Mathlib.Omega.{arith}
use Rattle.esa.proofs.Salvage.{salvage_fits}
use Rattle.esa.proofs.esa_salvage.Goals as goal

pub salvaged-requires : goal.salvaged-requires
salvaged-requires c =
    salvage_fits _ c.args.file.now _ _ (λ i. omega (arith, c.type_inv.file i))
    c.salvage.ensures

pub returns : goal.returns
returns c =
    rw (← c.chip_of.ensures)
    (record { answer = salvaged c.salvage.result; salvages = c.salvage.ensures; number = c.salvaged.ensures })
