-- A record with its string index at 0 is laid out as the record with one byte at 0: byte 3, of a zone descriptor byte 4.
-- Assumes nothing.
use Prim.Native.Nat.{ℕ, zero, suc, ◌+◌, ◌≤◌, ◌<◌}
use native.Mathlib.Omega.{arith}
use mathlib.Core.Path.{◌≡◌, refl, sym, ◌∙◌, ap}
use mathlib.Core.Bool.{true}
use mathlib.Core.List.{List, [], ◌∷◌, ◌++◌, map}
use lib.ListN.{length, set, length-set, length-map}
use lib.Seq.{set-append_left}
use borrow.Author.Tests.{eq-eqb, ne_eqb, eqb-true, leb-true}
use Rattle.format.specs.Slots.{Slot, whole, written, byte_of, byte}
use Rattle.format.specs.Records.{Record, digital, analogue, fan, led, water, pump, voltage, current, controller, tachometer, zone, string}
use Rattle.format.specs.Records.{external, rgb}
use Rattle.format.specs.Layout.{layout}
use Rattle.format.specs.Rules.{shaped}
use Rattle.format.specs.ZonesAndStrings.{Role, placed, zoning, naming, role}
use Rattle.format.proofs.Written.{length_written}
use Rattle.places.specs.Walks.{RoleBytes}
use Rattle.reserved.proofs.Zeroing.{set_behind}
use Rattle.saving.specs.Saving.{unindexed}
use Rattle.mending.specs.Laid.{cleared_at}

-- by what the element is to the others
abbrev cleared_slots : Role → List Slot → List Slot
cleared_slots (placed p) ss = set ss 3 (whole 0)
cleared_slots (zoning bytes) ss = set ss 4 (whole 0)
cleared_slots (naming bytes) ss = ss

map_set : (bytes : List ℕ) (k : ℕ) → map whole (set bytes k 0) ≡ set (map whole bytes) k (whole 0)
map_set [] k = refl
map_set (b ∷ bytes) zero = refl
map_set (b ∷ bytes) (suc k) = ap (λ (l : List Slot). whole b ∷ l) (map_set bytes k)

cleared_layout : (r : Record) → layout (unindexed r) ≡ cleared_slots (role r) (layout r)
cleared_layout (digital d) = refl
cleared_layout (analogue a) = refl
cleared_layout (fan f) = refl
cleared_layout (led l) = refl
cleared_layout (water w) = refl
cleared_layout (pump f) = refl
cleared_layout (voltage v) = refl
cleared_layout (current c) = refl
cleared_layout (controller d bs) = refl
cleared_layout (tachometer d a b) = refl
cleared_layout (zone bytes) = rw (map_set bytes 1, length-set (map whole bytes) 1 (whole 0)) refl
cleared_layout (string bytes) = refl
cleared_layout (external x r g b) = refl
cleared_layout (rgb r) = refl

-- an element has room for its index
pub long_enough : (r : Record) → shaped r ≡ true → 5 ≤ length (layout r)
long_enough (digital d) h = omega arith
long_enough (analogue a) h = omega arith
long_enough (fan f) h = omega arith
long_enough (led l) h = omega arith
long_enough (water w) h = omega arith
long_enough (pump f) h = omega arith
long_enough (voltage v) h = omega arith
long_enough (current c) h = omega arith
long_enough (controller d bs) h = omega arith
long_enough (tachometer d a b) h = omega arith
long_enough (zone bytes) h = omega (arith, eqb-true (3 + length bytes) 30 h, length-map bytes whole)
long_enough (string bytes) h = omega (arith, leb-true 6 (3 + length bytes) h, length-map bytes whole)
long_enough (external x r g b) h = omega arith
long_enough (rgb r) h = omega arith

-- a byte set in what was laid out
written_set : (ss : List Slot) (k : ℕ) → written (set ss k (whole 0)) ≡ set (written ss) k 0
written_set [] k = refl
written_set (s ∷ ss) zero = refl
written_set (s ∷ ss) (suc k) = ap (λ (l : List ℕ). byte_of s ∷ l) (written_set ss k)

set_written :
    (x : List ℕ) (k : ℕ) (ss : List Slot) (more : List ℕ)
    → k < length ss
    → set (x ++ (written ss ++ more)) (length x + k) 0 ≡ x ++ (written (set ss k (whole 0)) ++ more)
set_written x k ss more l =
    set_behind x (written ss ++ more) k 0
    ∙ ap (λ (w : List ℕ). x ++ w)
    (set-append_left (written ss) more k 0 (omega (arith, l, length_written ss)) ∙ ap (λ (w : List ℕ). w ++ more) (sym (written_set ss k)))

-- the index of the element behind other bytes is cleared, by its identifier
pub cleared_behind :
    (r : Record) (t : List ℕ) (from : ℕ) (x more : List ℕ)
    → RoleBytes t from (role r)
    → shaped r ≡ true
    → cleared_at (byte t from) (length x) (x ++ (written (layout r) ++ more)) ≡ x ++ (written (layout (unindexed r)) ++ more)
cleared_behind r t from x more h s =
    go (role r) h (cleared_layout r)
  where
    long : 5 ≤ length (layout r)
    long = long_enough r s

    laid : {ss : List Slot} → layout (unindexed r) ≡ ss → x ++ (written ss ++ more) ≡ x ++ (written (layout (unindexed r)) ++ more)
    laid e = ap (λ (l : List Slot). x ++ (written l ++ more)) (sym e)

    go :
        (p : Role)
        → RoleBytes t from p
        → layout (unindexed r) ≡ cleared_slots p (layout r)
        → cleared_at (byte t from) (length x) (x ++ (written (layout r) ++ more)) ≡ x ++ (written (layout (unindexed r)) ++ more)
    go (placed p) h e =
        rw (ne_eqb (byte t from) 11 h.0, ne_eqb (byte t from) 12 h.1) (set_written x 3 (layout r) more (omega (arith, long)))
        ∙ laid e
    go (zoning bytes) h e = rw (eq-eqb (byte t from) 11 h.0) (set_written x 4 (layout r) more (omega (arith, long))) ∙ laid e
    go (naming bytes) h e = rw h.0 refl ∙ laid e
