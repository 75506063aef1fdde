-- What the code tests and steps over, in terms of the definitions: each law is over plain lists and numbers.
-- Assumes nothing.
use Prim.Native.Nat.{ℕ, zero, suc, ◌+◌, ◌-◌, ◌<◌, ◌≤◌}
use native.Mathlib.Omega.{arith}
use mathlib.Core.Path.{◌≡◌, refl}
use mathlib.Core.List.{List, [], ◌∷◌}
use lib.ListN.{length, drop}
use Rattle.parts.specs.Inside.{after_list, blocks_from, lists_from}

-- none are left where there are none
pub none_left : (r : List ℕ) (j : ℕ) → length r ≡ 0 → r ≡ blocks_from r j
none_left r zero h = refl
none_left [] (suc j) h = none_left [] j h
none_left (x ∷ r) (suc j) h = absurd (omega arith)

-- one block more behind: so many are passed of j
pub turn :
    (r q s : List ℕ) (j i : ℕ) → i < j → q ≡ drop 1 r → s ≡ after_list q → blocks_from s (j - (i + 1)) ≡ blocks_from r (j - i)
turn r q s j i h d e = let z : j - i ≡ suc (j - (i + 1)) = omega arith in rw (z, e, d) refl

-- blocks of which there are so many: none past the last, and from one to the next
pub no_more : (n : ℕ) (bs : List ℕ) (w : ℕ) → n ≤ w → [] ≡ lists_from n bs w
no_more zero bs w h = refl
no_more (suc n) bs zero h = absurd (omega arith)
no_more (suc n) bs (suc w) h = no_more n (after_list bs) w (omega arith)

pub list_turn :
    (r s : List ℕ) (w i more : ℕ)
    → i < w
    → s ≡ after_list r
    → lists_from (w - (i + 1) + more) s (w - (i + 1)) ≡ lists_from (w - i + more) r (w - i)
list_turn r s w i more h e =
    let z : w - i ≡ suc (w - (i + 1)) = omega arith in
    let y : suc (w - (i + 1)) + more ≡ suc (w - (i + 1) + more) = omega arith in
    rw (z, e, y) refl
