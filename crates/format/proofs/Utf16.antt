-- Well-formed text, said of units and byte by byte: the two agree, and a cut anywhere does not matter.
-- Assumes nothing.
use Prim.Native.Nat.{ℕ, suc, ◌+◌, ◌*◌, ◌%◌, ◌<◌, ◌≤◌}
use native.Mathlib.Omega.{arith}
use mathlib.Core.Path.{◌≡◌, refl, sym, ◌∙◌}
use mathlib.Core.Bool.{Bool, true, false, ◌&&◌, cond, and-false, false≢true}
use mathlib.Core.List.{List, [], ◌∷◌, ◌++◌}
use lib.ListN.{length}
use lib.Dec.{eqb, leb}
use borrow.Author.Tests.{le-leb, lt-leb, leb-true, leb-false}
use Rattle.format.specs.Slots.{Bytes}
use Rattle.format.specs.Utf16.{units, high_surrogate, low_surrogate, agrees, paired_after, well_formed, high_byte, low_byte, text_step}
use Rattle.format.specs.Utf16.{reached, ends}
use Rattle.format.specs.declared.text.Reached.{Reached}
use Rattle.format.specs.declared.text.Reached.TheVariants.{Even, High, Bad}
use Rattle.format.proofs.Kept.{and-true}

-- pieces: what the second does to what the first reached
pub in_pieces : (s : Reached) (xs ys : List ℕ) → reached s (xs ++ ys) ≡ reached (reached s xs) ys
in_pieces s [] ys = refl
in_pieces s (x ∷ xs) ys = in_pieces (text_step s x) xs ys

-- bad text stays bad
pub bad_stays : (bytes : List ℕ) → reached Bad bytes ≡ Bad
bad_stays [] = refl
bad_stays (b ∷ bytes) = bad_stays bytes

-- a number within a run, below it and above it
pub within_run : (a b c : ℕ) → a ≤ b → b ≤ c → leb a b && leb b c ≡ true
within_run a b c h k = rw (le-leb a b h, le-leb b c k)

pub below_run : (a b c : ℕ) → b < a → leb a b && leb b c ≡ false
below_run a b c h = rw (lt-leb a b h)

pub above_run : (a b c : ℕ) → c < b → leb a b && leb b c ≡ false
above_run a b c h = rw (lt-leb b c h, and-false (leb a b))

-- a limit on units that is a multiple of 256 is one on their second bytes
at_least : (m a b : ℕ) → a < 256 → leb (256 * m) (a + 256 * b) ≡ leb m b
at_least m a b h = go (leb m b) refl
  where
    go : (t : Bool) → leb m b ≡ t → leb (256 * m) (a + 256 * b) ≡ t
    go true e = le-leb (256 * m) (a + 256 * b) (omega (arith, leb-true m b e))
    go false e = lt-leb (256 * m) (a + 256 * b) (omega (arith, leb-false m b e))

at_most : (m a b : ℕ) → a < 256 → leb (a + 256 * b) (256 * m + 255) ≡ leb b m
at_most m a b h = go (leb b m) refl
  where
    go : (t : Bool) → leb b m ≡ t → leb (a + 256 * b) (256 * m + 255) ≡ t
    go true e = le-leb (a + 256 * b) (256 * m + 255) (omega (arith, leb-true b m e))
    go false e = lt-leb (a + 256 * b) (256 * m + 255) (omega (arith, leb-false b m e))

high_byte_lem : (a b : ℕ) → a < 256 → high_surrogate (a + 256 * b) ≡ high_byte b
high_byte_lem a b h = rw (at_least 0xd8 a b h, at_most 0xdb a b h)

low_byte_lem : (a b : ℕ) → a < 256 → low_surrogate (a + 256 * b) ≡ low_byte b
low_byte_lem a b h = rw (at_least 0xdc a b h, at_most 0xdf a b h)

-- no byte is of both kinds
not_both : (b : ℕ) → low_byte b ≡ true → high_byte b ≡ false
not_both b h =
    let l = leb-true 0xdc b (and-true (leb 0xdc b) (leb b 0xdf) h).0 in
    rw (lt-leb b 0xdb (omega arith), and-false (leb 0xd8 b))

-- what a unit's second byte leads to, after a high surrogate or not
abbrev from : Bool → Reached
from true = High
from false = Even

abbrev beyond : Bool → Bool → Bool → Reached
beyond true low high = cond low Even Bad
beyond false low high = cond low Bad (cond high High Even)

one_unit :
    (even after low high : Bool) (us bytes : List ℕ)
    → (low ≡ true → high ≡ false)
    → ((t : Bool) → even && paired_after t us ≡ ends (reached (from t) bytes))
    → even && (agrees after low && paired_after high us) ≡ ends (reached (beyond after low high) bytes)
one_unit even true true true us bytes n h = absurd (false≢true (sym (n refl)))
one_unit even true true false us bytes n h = h false
one_unit even true false high us bytes n h = rw (and-false even, bad_stays bytes)
one_unit even false true high us bytes n h = rw (and-false even, bad_stays bytes)
one_unit even false false true us bytes n h = h true
one_unit even false false false us bytes n h = h false

-- the two agree, from between two units and from after a high surrogate
agree_after :
    (after : Bool) (bytes : List ℕ)
    → Bytes bytes
    → eqb (length bytes % 2) 0 && paired_after after (units bytes) ≡ ends (reached (from after) bytes)
agree_after true [] small = refl
agree_after false [] small = refl
agree_after true (a ∷ []) small = refl
agree_after false (a ∷ []) small = refl
agree_after after (a ∷ b ∷ bytes) small =
    let two : suc (suc (length bytes)) % 2 ≡ length bytes % 2 = omega arith in
    let law = one_unit (eqb (length bytes % 2) 0) after (low_byte b) (high_byte b) (units bytes) bytes (not_both b)
    (λ t. agree_after t bytes (λ i. small (suc (suc i)))) in
    rw (two, low_byte_lem a b (small 0), high_byte_lem a b (small 0)) (law ∙ from_there after)
  where
    from_there : (t : Bool) → ends (reached (beyond t (low_byte b) (high_byte b)) bytes) ≡ ends (reached (from t) (a ∷ b ∷ bytes))
    from_there true = refl
    from_there false = refl

-- THE LAW
pub agree : (bytes : List ℕ) → Bytes bytes → well_formed bytes ≡ ends (reached Even bytes)
agree bytes small = agree_after false bytes small
