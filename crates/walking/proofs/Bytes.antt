-- What stands at a place, as the code reads it there: the bytes after the header decode to the record, and its part is written
-- as the very bytes behind its fixed fields.
-- Assumes nothing.
use Prim.Native.Nat.{ℕ, ◌+◌, ◌-◌, ◌≤◌}
use native.Mathlib.Omega.{arith}
use native.Mathlib.Nat.{add-zero}
use mathlib.Core.Path.{◌≡◌, refl, sym, ◌∙◌, ap}
use mathlib.Core.List.{List, ◌∷◌, ◌++◌}
use mathlib.Core.Option.{some}
use lib.ListN.{length, take, drop, length-append}
use lib.Seq.{drop-drop, get_or-drop}
use Rattle.format.specs.Slots.{whole, word, written, byte}
use Rattle.format.specs.Records.{Record, digital, analogue, fan, led, water, pump, voltage, current, controller, tachometer, zone, string}
use Rattle.format.specs.Records.{external, rgb, element_of}
use Rattle.format.specs.Layout.{fixed, part, id_of, body, layout}
use Rattle.format.specs.Verdict.{stated}
use Rattle.format.specs.Decode.{decode}
use Rattle.format.specs.declared.pins.Chip.{Chip}
use Rattle.format.proofs.Slots.{starts_over, starts_split, starts_rest}
use Rattle.format.proofs.Decoding.{stands_decoded}
use Rattle.format.proofs.Whole.{part_written}
use Rattle.elements.specs.Parts.{part_start}
use Rattle.walking.specs.Walk.{Here}

-- where the part starts
starts_at : (x : Record) → part_start (id_of (element_of x)) (length (layout x)) ≡ 3 + length (fixed (element_of x))
starts_at (digital d) = refl
starts_at (analogue a) = refl
starts_at (fan f) = refl
starts_at (led l) = refl
starts_at (water w) = refl
starts_at (pump f) = refl
starts_at (voltage v) = refl
starts_at (current c) = refl
starts_at (controller d bs) = refl
starts_at (tachometer d a b) = refl
starts_at (zone bytes) = refl
starts_at (string bytes) = refl
starts_at (external x r g b) = refl
starts_at (rgb r) = refl

first_byte : (t : List ℕ) (at : ℕ) → byte t at ≡ byte (drop at t) 0
first_byte t at = ap (λ (n : ℕ). byte t n) (sym (add-zero at)) ∙ sym (get_or-drop at t 0 0)

module _ (chip : Chip) (t : List ℕ) (at : ℕ) (x : Record) (h : Here chip t at x) {len : ℕ} (l : len ≡ stated (drop at t)) where
  pub decoded_here : decode chip (byte t at) (take (at + len - (at + 3)) (drop (at + 3) t)) ≡ some x
  decoded_here =
      let n : at + len - (at + 3) ≡ stated (drop at t) - 3 = omega (arith, l) in
      rw (n, ← drop-drop 3 at t, first_byte t at) (stands_decoded chip (drop at t) x h.stands)

  pub start_here : {n : ℕ} → n ≡ part_start (byte t at) len → n ≡ 3 + length (fixed (element_of x))
  start_here p =
      p
      ∙ ap (λ (i : ℕ). part_start i len) (first_byte t at ∙ (starts_over (drop at t) (layout x) h.stands.rest h.stands.starts).0)
      ∙ ap (λ (m : ℕ). part_start (id_of (element_of x)) m) (l ∙ h.size)
      ∙ starts_at x

  pub part_within : 3 + length (fixed (element_of x)) ≤ len
  part_within = omega (arith, l, h.size, length-append (fixed (element_of x)) (part x))

  pub part_here : {from : ℕ} → from ≡ at + 3 + length (fixed (element_of x)) → take (at + len - from) (drop from t) ≡ written (part x)
  part_here {from} p =
      let front = whole (id_of (element_of x)) ∷ word (3 + length (body x)) ++ fixed (element_of x) in
      let c = starts_split (drop at t) front (part x) h.stands.rest h.stands.starts in
      let f : at + length front ≡ from = omega (arith, p) in
      let r : c.0 ≡ drop from t =
      starts_rest (drop at t) front c.0 c.1 ∙ drop-drop (length front) at t ∙ ap (λ (m : ℕ). drop m t) f in
      let m : at + len - from ≡ length (part x) = omega (arith, p, l, h.size, length-append (fixed (element_of x)) (part x)) in
      rw (m, ← r) (sym (part_written x c.0 h.stands.rest c.2))
