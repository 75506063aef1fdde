-- Laws of tests: two that follow from one another are one, and what holds at each Bool, computed.
-- Assumes nothing.
use mathlib.Core.Path.{◌≡◌, refl, sym}
use mathlib.Core.Bool.{Bool, true, false, ◌&&◌}
use Rattle.pinsets.proofs.Table.{same, same→eq, and_left, and_right}

pub one_test : (s t : Bool) → (s ≡ true → t ≡ true) → (t ≡ true → s ≡ true) → s ≡ t
one_test true t f g = sym (f refl)
one_test false true f g = g refl
one_test false false f g = refl

-- a test that does not hold
pub fails : (t : Bool) → (t ≡ true → ⊥) → t ≡ false
fails true f = absurd (f refl)
fails false f = refl

pub both : (s t : Bool) → s ≡ true → t ≡ true → s && t ≡ true
both s t h k = rw (h, k)

-- tautologies of one Bool to four, by their truth tables
pub taut1 : (f g : Bool → Bool) → same (f true) (g true) && same (f false) (g false) ≡ true → (a : Bool) → f a ≡ g a
taut1 f g h true = same→eq _ _ (and_left (same (f true) (g true)) (same (f false) (g false)) h)
taut1 f g h false = same→eq _ _ (and_right (same (f true) (g true)) (same (f false) (g false)) h)

abbrev table2 : (f g : Bool → Bool → Bool) → Bool → Bool
table2 f g a = same (f a true) (g a true) && same (f a false) (g a false)

pub taut2 : (f g : Bool → Bool → Bool) → table2 f g true && table2 f g false ≡ true → (a b : Bool) → f a b ≡ g a b
taut2 f g h true b = taut1 (f true) (g true) (and_left (table2 f g true) (table2 f g false) h) b
taut2 f g h false b = taut1 (f false) (g false) (and_right (table2 f g true) (table2 f g false) h) b

abbrev table3 : (f g : Bool → Bool → Bool → Bool) → Bool → Bool
table3 f g a = table2 (f a) (g a) true && table2 (f a) (g a) false

pub taut3 : (f g : Bool → Bool → Bool → Bool) → table3 f g true && table3 f g false ≡ true → (a b c : Bool) → f a b c ≡ g a b c
taut3 f g h true b c = taut2 (f true) (g true) (and_left (table3 f g true) (table3 f g false) h) b c
taut3 f g h false b c = taut2 (f false) (g false) (and_right (table3 f g true) (table3 f g false) h) b c

abbrev table4 : (f g : Bool → Bool → Bool → Bool → Bool) → Bool → Bool
table4 f g a = table3 (f a) (g a) true && table3 (f a) (g a) false

pub taut4 : (f g : Bool → Bool → Bool → Bool → Bool) → table4 f g true && table4 f g false ≡ true → (a b c d : Bool) → f a b c d ≡ g a b c d
taut4 f g h true b c d = taut3 (f true) (g true) (and_left (table4 f g true) (table4 f g false) h) b c d
taut4 f g h false b c d = taut3 (f false) (g false) (and_right (table4 f g true) (table4 f g false) h) b c d
