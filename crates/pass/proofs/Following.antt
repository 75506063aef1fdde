-- The fan-list pins of an element, by its first and its last: whether they come after the last one used, and which is the last then.
-- Assumes nothing.
use Prim.Native.Nat.{ℕ}
use mathlib.Core.Path.{◌≡◌, ap}
use mathlib.Core.Bool.{Bool, true}
use Rattle.std.specs.Prelude.{Option, Some, None}
use mathlib.Core.List.{List, [], ◌∷◌}
use lib.Dec.{ltb}
use Rattle.format.specs.FanList.{comes_after, last_pin}
use Rattle.found.specs.Judged.{FansAre}
use Rattle.found.specs.declared.Fans.{Fans}

-- what the code finds, as it tests it
abbrev pub in_order : Option Fans → ℕ → Bool
in_order None last = true
in_order (Some f) last = ltb last f.first

abbrev pub last_then : Option Fans → ℕ → ℕ
last_then None last = last
last_then (Some f) last = f.last

module _ (f : Option Fans) (last : ℕ) where
  pub in_order_lem : (ps : List ℕ) → FansAre f ps → in_order f last ≡ comes_after last ps
  in_order_lem [] h = ap (λ (o : Option Fans). in_order o last) h
  in_order_lem (p ∷ ps) h = ap (λ (o : Option Fans). in_order o last) h

  pub last_of_lem : (ps : List ℕ) → FansAre f ps → last_then f last ≡ last_pin last ps
  last_of_lem [] h = ap (λ (o : Option Fans). last_then o last) h
  last_of_lem (p ∷ ps) h = ap (λ (o : Option Fans). last_then o last) h
