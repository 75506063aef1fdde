-- Which bus types are in use, in one comparison: of the codes 0 to 3 the ordinary rules lack 2 alone, and the archive's none.
-- Assumes nothing.
use Prim.Native.Nat.{ℕ}
use mathlib.Core.Path.{◌≡◌, refl, sym}
use mathlib.Core.Bool.{Bool, true, false, ◌||◌, not}
use lib.Dec.{eqb}
use borrow.Author.Tests.{eqb-true}
use Rattle.format.specs.Pins.{among}
use Rattle.format.specs.Rules.{bus_types, type_in_use}
use Rattle.format.specs.declared.settings.Rules.TheVariants.{Ordinary, Archive}
use Rattle.format.proofs.Archive.{either_way}

pub ordinary_use : (n : ℕ) → not (eqb n 2) ≡ type_in_use Ordinary n
ordinary_use n = go (eqb n 2) refl
  where
    go : (t : Bool) → eqb n 2 ≡ t → not t ≡ type_in_use Ordinary n
    go true e = rw (eqb-true n 2 e) refl
    go false e = rw e (sym (either_way (eqb n 0 || (eqb n 1 || (eqb n 3 || false)))))

pub archive_use : (n : ℕ) → true ≡ type_in_use Archive n
archive_use n = sym (either_way (among n bus_types))
