-- What the bytes at a place tell of an element, in the terms of what it is called: each law goes by what it is to the others.
-- Assumes nothing.
use Prim.Native.Nat.{ℕ, ◌+◌}
use native.Mathlib.Omega.{arith}
use mathlib.Core.Path.{◌≡◌, refl, sym, ◌∙◌, ap}
use mathlib.Core.Bool.{true, false, false≢true}
use mathlib.Core.List.{List, [], ◌∷◌}
use lib.ListN.{length, drop, length-drop}
use lib.Dec.{eqb}
use borrow.Author.Tests.{eq-eqb, ne_eqb}
use Rattle.format.specs.Slots.{byte}
use Rattle.format.specs.Records.{Record}
use Rattle.format.specs.Verdict.{stated}
use Rattle.format.specs.ZonesAndStrings.{Role, placed, zoning, naming, string_named}
use Rattle.labels.specs.Called.{text, lent, pick_called, bears, own_text, by_number, by_index, called_of}
use Rattle.labels.specs.Roled.{Roled}

module _ (t : List ℕ) (at : ℕ) where
  -- a string
  pub string_length : (x : Role) → Roled t at x → byte t at ≡ 12 → stated (drop at t) ≡ 6 + length (own_text x)
  string_length (placed p) h e = absurd (h.kind.1 e)
  string_length (zoning bytes) h e = absurd (omega (arith, h.kind.0, e))
  string_length (naming bytes) h e = omega (arith, h.string.size, h.string.long, length-drop 3 bytes)

  pub bears_twelve : (x : Role) (n : ℕ) → Roled t at x → bears n x ≡ true → byte t at ≡ 12
  bears_twelve (placed p) n h e = absurd (false≢true e)
  bears_twelve (zoning bytes) n h e = absurd (false≢true e)
  bears_twelve (naming bytes) n h e = h.kind.0

  pub is_number : (x : Role) (n : ℕ) → Roled t at x → byte t at ≡ 12 → eqb (byte t (at + 3)) n ≡ bears n x
  is_number (placed p) n h e = absurd (h.kind.1 e)
  is_number (zoning bytes) n h e = absurd (omega (arith, h.kind.0, e))
  is_number (naming bytes) n h e = ap (λ (m : ℕ). eqb m n) h.string.number

  pub is_none : (x : Role) (n : ℕ) → Roled t at x → (byte t at ≡ 12 → ⊥) → false ≡ bears n x
  is_none (placed p) n h e = refl
  is_none (zoning bytes) n h e = refl
  is_none (naming bytes) n h e = absurd (e h.kind.0)

  -- a string index
  pub zone_index : (x : Role) → Roled t at x → byte t at ≡ 11 → string_named x ≡ byte t (at + 4) ∷ []
  zone_index (placed p) h e = absurd (h.kind.0 e)
  zone_index (zoning bytes) h e = ap (λ (n : ℕ). n ∷ []) (sym h.kind.2)
  zone_index (naming bytes) h e = absurd (omega (arith, h.kind.0, e))

  pub placed_index : (x : Role) → Roled t at x → (byte t at ≡ 11 → ⊥) → (byte t at ≡ 12 → ⊥) → string_named x ≡ byte t (at + 3) ∷ []
  placed_index (placed p) h m n = ap (λ (i : ℕ). i ∷ []) (sym h.kind.3)
  placed_index (zoning bytes) h m n = absurd (m h.kind.0)
  placed_index (naming bytes) h m n = absurd (n h.kind.0)

  -- what an element is called, by its first byte
  pub called_string : (rs : List Record) (x : Role) → Roled t at x → byte t at ≡ 12 → text at (own_text x) ≡ called_of rs at x
  called_string rs (placed p) h e = absurd (h.kind.1 e)
  called_string rs (zoning bytes) h e = absurd (omega (arith, h.kind.0, e))
  called_string rs (naming bytes) h e = refl

  called_index : (rs : List Record) (x : Role) → Roled t at x → (byte t at ≡ 12 → ⊥) → called_of rs at x ≡ by_index (string_named x) rs
  called_index rs (placed p) h n = refl
  called_index rs (zoning bytes) h n = refl
  called_index rs (naming bytes) h n = absurd (n h.kind.0)

  module _ (rs : List Record) (x : Role) (h : Roled t at x) (n : byte t at ≡ 12 → ⊥) {i : ℕ} (s : string_named x ≡ i ∷ []) where
    by_it : called_of rs at x ≡ pick_called (eqb i 0) lent (by_number i 16 rs)
    by_it = called_index rs x h n ∙ ap (λ (l : List ℕ). by_index l rs) s

    pub called_lent : i ≡ 0 → lent ≡ called_of rs at x
    called_lent z = sym (by_it ∙ rw (eq-eqb i 0 z) refl)

    pub called_number : (i ≡ 0 → ⊥) → by_number i 16 rs ≡ called_of rs at x
    called_number z = sym (by_it ∙ rw (ne_eqb i 0 z) refl)
