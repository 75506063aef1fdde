-- No second outcome keeps the words of `from_hex`: a text has one meaning, and what it sends is bytes.
-- Assumes nothing.
use Prim.Native.Nat.{ℕ, zero, suc}
use native.Mathlib.Omega.{arith}
use mathlib.Core.Path.{◌≡◌, refl}
use mathlib.Core.List.{List, [], ◌∷◌, ◌++◌}
use Rattle.format.specs.Slots.{Bytes}
use Rattle.format.specs.declared.pins.Chip.{Chip}
use Rattle.format.specs.Answers.{Written}
use Rattle.hextext.specs.Meaning.{Front, none, more, bytes, bad, whole, Means, means}
use Rattle.hextext.proofs.Only.{one_meaning}
use Rattle.hextext.proofs.Moving.{only_moved}
use Rattle.fromhex.specs.FromHex.{FromHex, malformed, sent}

both_bytes : (b d : List ℕ) → Bytes b → Bytes d → Bytes (b ++ d)
both_bytes [] d h h' i = h' i
both_bytes (x ∷ b) d h h' zero = h 0
both_bytes (x ∷ b) d h h' (suc i) = both_bytes b d (λ j. h (suc j)) h' i

front_bytes : {k : ℕ} {t b : List ℕ} → Front k t b → Bytes b
front_bytes none = λ i. omega arith
front_bytes (more {b = b} d f s) = both_bytes b d (front_bytes f) s.bytes

pub sent_bytes : {t b : List ℕ} → Means t (bytes b) → Bytes b
sent_bytes (means f whole) = front_bytes f

never_both : {t b : List ℕ} {l : ℕ} → Means t (bad l) → Means t (bytes b) → ⊥
never_both {t} {b} {l} m m' =
    let q = one_meaning t (bad l) (bytes b) m m' in
    let z : ◌≡◌ {A = ℕ} 0 1 = cc in
    omega arith

module _ (chip : Chip) {t c : List ℕ} where
  pub only_from_hex :
      {after after' : List ℕ} {r r' : Written}
      → FromHex chip t c r after
      → FromHex chip t c r' after'
      → (r ≡ r') × (after ≡ after')
  only_from_hex (malformed {l = l} m) (malformed {l = l'} m') = let q = one_meaning t (bad l) (bad l') m m' in (cc, refl)
  only_from_hex (malformed m) (sent m' v) = absurd (never_both m m')
  only_from_hex (sent m v) (malformed m') = absurd (never_both m' m)
  only_from_hex (sent {b = b} m v) (sent {b = b'} m' v') =
      let q = one_meaning t (bytes b) (bytes b') m m' in
      let same : b' ≡ b = cc in
      only_moved chip b (sent_bytes m) v (rw same at v')
