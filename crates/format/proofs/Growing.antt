-- One element more: what numbers, places, claims, fan-list pins and the pass's rules of a list become.
-- Assumes nothing.
use Prim.Native.Nat.{ℕ, ◌+◌, ◌<◌}
use native.Mathlib.Omega.{arith}
use mathlib.Core.Path.{◌≡◌, refl, sym}
use mathlib.Core.List.{List, [], ◌∷◌, ◌++◌, append-nil, append_assoc}
use mathlib.Core.Option.{none}
use lib.ListN.{length, length-append}
use lib.Seq.{append_snoc}
use Rattle.format.specs.Records.{Record}
use Rattle.format.specs.Layout.{layout, layouts, place_after}
use Rattle.format.specs.ZonesAndStrings.{Role, role, gathered}
use Rattle.format.specs.FanList.{fan_pins, all_fan_pins, last_pin, last_used}
use Rattle.format.specs.Claims.{made_at, claims_of, first_claims, claims_from, claims}
use Rattle.format.specs.Table.{element_breaks, PassKept}
use Rattle.format.specs.declared.records.Description.{Description}
use Rattle.format.proofs.Lengths.{snoc_length}
use Rattle.format.specs.declared.settings.Settings.{Settings}

pub gathered_append :
    (numbers : Role → List ℕ) (rs ss : List Record) → gathered numbers (rs ++ ss) ≡ gathered numbers rs ++ gathered numbers ss
gathered_append numbers [] ss = refl
gathered_append numbers (r ∷ rs) ss =
    rw (gathered_append numbers rs ss) (sym (append_assoc (numbers (role r)) (gathered numbers rs) (gathered numbers ss)))

pub gathered_snoc :
    (numbers : Role → List ℕ) (rs : List Record) (r : Record) → gathered numbers (rs ++ r ∷ []) ≡ gathered numbers rs ++ numbers (role r)
gathered_snoc numbers rs r = rw (gathered_append numbers rs (r ∷ []), append-nil (numbers (role r))) refl

pub place_snoc : (rs : List Record) (r : Record) → place_after (rs ++ r ∷ []) ≡ place_after rs + length (layout r)
place_snoc rs r = omega (arith, snoc_length rs r)

pub claims_from_lem :
    (at : ℕ) (rs ss : List Record) → claims_from at (rs ++ ss) ≡ claims_from at rs ++ claims_from (at + length (layouts rs)) ss
claims_from_lem at [] ss = let e : at + 0 ≡ at = omega arith in rw e refl
claims_from_lem at (r ∷ rs) ss =
    let e : at + length (layout r) + length (layouts rs) ≡ at + length (layout r ++ layouts rs) =
    omega (arith, length-append (layout r) (layouts rs)) in
    rw (claims_from_lem (at + length (layout r)) rs ss, e)
    (sym (append_assoc (made_at at (claims_of r)) (claims_from (at + length (layout r)) rs)
    (claims_from (at + length (layout r ++ layouts rs)) ss)))

pub claims_snoc :
    (d : Description) (rs : List Record) (r : Record) → claims d (rs ++ r ∷ []) ≡ claims d rs ++ made_at (place_after rs) (claims_of r)
claims_snoc d rs r =
    rw (claims_from_lem 16 rs (r ∷ []), append-nil (made_at (place_after rs) (claims_of r)))
    (sym (append_assoc (made_at 0 (first_claims d)) (claims_from 16 rs) (made_at (place_after rs) (claims_of r))))

-- the last fan-list pin
pub fan_pins_append : (rs ss : List Record) → all_fan_pins (rs ++ ss) ≡ all_fan_pins rs ++ all_fan_pins ss
fan_pins_append [] ss = refl
fan_pins_append (r ∷ rs) ss = rw (fan_pins_append rs ss) (sym (append_assoc (fan_pins r) (all_fan_pins rs) (all_fan_pins ss)))

pub last_append : (p : ℕ) (ps qs : List ℕ) → last_pin p (ps ++ qs) ≡ last_pin (last_pin p ps) qs
last_append p [] qs = refl
last_append p (x ∷ ps) qs = last_append x ps qs

pub last_snoc : (rs : List Record) (r : Record) → last_used (rs ++ r ∷ []) ≡ last_pin (last_used rs) (fan_pins r)
last_snoc rs r = rw (fan_pins_append rs (r ∷ []), append-nil (fan_pins r)) (last_append 0 (all_fan_pins rs) (fan_pins r))

-- the pass over a list with one element more
pub pass_snoc :
    (s : Settings) (before rs : List Record) (r : Record)
    → PassKept s before rs
    → length (before ++ rs) < 96
    → element_breaks s (before ++ rs) r ≡ none
    → PassKept s before (rs ++ r ∷ [])
pass_snoc s before [] r k few e = (rw append-nil at few, rw append-nil at e, tt)
pass_snoc s before (x ∷ rs) r k few e =
    (k.0, k.1, pass_snoc s (before ++ x ∷ []) rs r k.2 (rw append_snoc few) (rw append_snoc e))
