-- What stands at a place of an accepted table, or its end.
-- Assumes nothing.
use Prim.Native.Nat.{ℕ, ◌+◌, ◌<◌, ◌≤◌}
use native.Mathlib.Omega.{arith}
use mathlib.Core.Path.{◌≡◌, refl}
use mathlib.Core.Option.{Option, none, some}
use mathlib.Core.List.{List}
use lib.ListN.{length, drop}
use Rattle.format.specs.Records.{Record}
use Rattle.format.specs.Verdict.{stated}
use Rattle.format.specs.declared.pins.Chip.{Chip}
use Rattle.walking.specs.Walk.{Here}
use Rattle.comparing.specs.Lines.{At, long}

-- before the end a record stands there
pub record Found (c : Chip) (t : List ℕ) (at : ℕ) (o : Option Record) : Type 0 where
  pub x : Record
  pub is : o ≡ some x
  pub here : Here c t at x

pub found : (c : Chip) (t : List ℕ) (at : ℕ) (o : Option Record) → At c t at o → at < length t → Found c t at o
found c t at none a h = absurd (omega arith)
found c t at (some x) a h = record { x = x; is = refl; here = a.1 }

pub missing : (c : Chip) (t : List ℕ) (at : ℕ) (o : Option Record) → At c t at o → length t ≤ at → o ≡ none
missing c t at none a h = refl
missing c t at (some x) a h = absurd (omega (arith, a.0))

pub framed :
    (c : Chip) (t : List ℕ) (at : ℕ) (o : Option Record)
    → At c t at o
    → at < length t
    → (at + 2 < length t) × (at + stated (drop at t) ≤ length t)
framed c t at o a h = let f = (found c t at o a h).here in omega (arith, f.size, f.within)

pub step :
    (c : Chip) (t : List ℕ) (at : ℕ) (o : Option Record) {n : ℕ}
    → At c t at o
    → at < length t
    → n ≡ stated (drop at t)
    → at + n ≡ at + long o
step c t at none a h e = absurd (omega arith)
step c t at (some x) a h e = omega (arith, e, a.1.size)

pub stay : (c : Chip) (t : List ℕ) (at : ℕ) (o : Option Record) → At c t at o → length t ≤ at → at ≡ at + long o
stay c t at none a h = omega arith
stay c t at (some x) a h = absurd (omega (arith, a.0))
