-- Zone descriptors and strings, whose record is all bytes after the header: 8 by that length.
-- Assumes nothing.
use Prim.Native.Nat.{ℕ, ◌+◌, ◌-◌, ◌≤◌, ◌<◌}
use native.Mathlib.Omega.{arith}
use mathlib.Core.Path.{◌≡◌, refl, sym, ap}
use mathlib.Core.Bool.{Bool, true, false}
use mathlib.Core.List.{List}
use lib.ListN.{length, take, drop, length-drop}
use lib.Seq.{take_all}
use lib.Dec.{eqb}
use borrow.Author.Tests.{eq-eqb, ne_eqb, eqb-true, eqb-false, le-leb, lt-leb}
use Rattle.format.specs.Records.{string, text_of}
use Rattle.format.specs.Rules.{numbered, first_broken, own_rules, shaped}
use Rattle.format.specs.declared.settings.Settings.{Settings}
use Rattle.format.proofs.Broken.{misshapen}

-- 'Table 30: 30 bytes', three of them the header
pub zone_size : (n : ℕ) → eqb n 27 ≡ eqb (3 + n) 30
zone_size n = go (eqb n 27) refl
  where
    go : (t : Bool) → eqb n 27 ≡ t → t ≡ eqb (3 + n) 30
    go true e = rw (eq-eqb (3 + n) 30 (omega (arith, eqb-true n 27 e))) refl
    go false e = rw (ne_eqb (3 + n) 30 (λ q. eqb-false n 27 e (omega (arith, q)))) refl

-- 'Table 29: 6 or more'
module _ (p : List ℕ) where
  pub text_short : length p < 3 → (s : Settings) → 8 ≡ numbered (first_broken (own_rules s (string p)))
  text_short h s = sym (ap numbered (misshapen s (string p) (lt-leb 6 (3 + length p) (omega arith))))

  pub text_long : 3 ≤ length p → true ≡ shaped (string p)
  text_long h = sym (le-leb 6 (3 + length p) (omega arith))

  -- the text stands behind the number and the locale
  pub text_rest : take (length p - 3) (drop 3 p) ≡ text_of p
  text_rest = take_all (length p - 3) (drop 3 p) (omega (arith, length-drop 3 p))
