-- The first clash in a list that is put together of two, and at which place it is.
-- Assumes nothing.
use Prim.Native.Nat.{ℕ, ◌<◌}
use native.Mathlib.Omega.{arith}
use mathlib.Core.Path.{◌≡◌, refl}
use mathlib.Core.Bool.{Bool, true, false, ◌&&◌, ◌||◌, not, or-false}
use mathlib.Core.List.{List, [], ◌∷◌, ◌++◌}
use mathlib.Core.Option.{Option, none, some}
use lib.Dec.{eqb, ltb}
use borrow.Author.Tests.{ltb-true, ne_eqb}
use Rattle.format.specs.Rules.{unless_kept}
use Rattle.format.specs.Claims.{Claim, together, clashes, Made, made_at, first_clash}
use Rattle.pinsets.proofs.Table.{and_left, and_right}
use Rattle.claims.specs.Taken.{free, is_none, place_or, low_places, whats}
use Rattle.claims.proofs.Tests.{taut3, taut4}
use Rattle.claims.proofs.Clashes.{any_clash}

-- earlier claims in two parts: nothing clashes where nothing does with either
abbrev hit : Claim → Claim → Bool
hit c a = eqb c.pin a.pin && not (together c.manner a.manner)

clashes_append : (c : Claim) (d e : List Claim) → clashes c (d ++ e) ≡ clashes c d || clashes c e
clashes_append c [] e = refl
clashes_append c (a ∷ d) e =
    rw (clashes_append c d e) (taut3 (λ x y z. x || (y || z)) (λ x y z. x || y || z) refl (hit c a) (clashes c d) (clashes c e))

none_apart : (cs d e : List Claim) → free (d ++ e) cs ≡ not (any_clash cs e) && free d cs
none_apart [] d e = refl
none_apart (c ∷ cs) d e =
    rw (clashes_append c d e, none_apart cs (c ∷ d) e)
    (taut4
    (λ x y z n. not (x || y) && (not z && n))
    (λ x y z n. not (y || z) && (not x && n))
    refl
    (clashes c d)
    (clashes c e)
    (any_clash cs e)
    (free (c ∷ d) cs))

-- a list in two parts: the first clash of the first, else that of the second, whose earlier claims are the first's
abbrev pub onto : List Claim → List Claim → List Claim
onto [] e = e
onto (c ∷ cs) e = onto cs (c ∷ e)

abbrev pub first_of : Option ℕ → Option ℕ → Option ℕ
first_of none o = o
first_of (some k) o = some k

unless_first : (t : Bool) (k : ℕ) (a b : Option ℕ) → unless_kept t k (first_of a b) ≡ first_of (unless_kept t k a) b
unless_first true k a b = refl
unless_first false k a b = refl

pub first_append :
    (xs : List Made) (e : List Claim) (ys : List Made) → first_clash e (xs ++ ys)
    ≡ first_of (first_clash e xs) (first_clash (onto (whats xs) e) ys)
first_append [] e ys = refl
first_append (m ∷ xs) e ys =
    rw (first_append xs (m.what ∷ e) ys)
    (unless_first (not (clashes m.what e)) m.place (first_clash (m.what ∷ e) xs) (first_clash (onto (whats xs) (m.what ∷ e)) ys))

clashes_onto : (c : Claim) (d e : List Claim) → clashes c (onto d e) ≡ clashes c d || clashes c e
clashes_onto c [] e = refl
clashes_onto c (a ∷ d) e =
    rw (clashes_onto c d (a ∷ e)) (taut3 (λ x y z. y || (x || z)) (λ x y z. x || y || z) refl (hit c a) (clashes c d) (clashes c e))

any_onto : (cs d : List Claim) → any_clash cs (onto d []) ≡ any_clash cs d
any_onto [] d = refl
any_onto (c ∷ cs) d = rw (clashes_onto c d [], or-false (clashes c d), any_onto cs d) refl

pub none_after : (cs d : List Claim) → free (onto d []) cs ≡ not (any_clash cs d) && free [] cs
none_after cs d = rw (none_apart cs [] (onto d []), any_onto cs d) refl

-- claims at one place clash there
both_kept : (s t : Bool) (k : ℕ) → unless_kept s k (unless_kept t k none) ≡ unless_kept (s && t) k none
both_kept true t k = refl
both_kept false t k = refl

pub made_first : (at : ℕ) (cs e : List Claim) → first_clash e (made_at at cs) ≡ unless_kept (free e cs) at none
made_first at [] e = refl
made_first at (c ∷ cs) e = rw (made_first at cs (c ∷ e)) (both_kept (not (clashes c e)) (free (c ∷ e) cs) at)

-- no clash's place is 65,536
none_place : (t : Bool) (k : ℕ) (o : Option ℕ)
    → k < 65536
    → eqb (place_or o) 65536 ≡ is_none o
    → eqb (place_or (unless_kept t k o)) 65536 ≡ is_none (unless_kept t k o)
none_place true k o h e = e
none_place false k o h e = ne_eqb k 65536 (λ q. omega arith)

pub place_none : (ms : List Made) (e : List Claim) → low_places ms ≡ true → eqb (place_or (first_clash e ms)) 65536 ≡ is_none (first_clash e ms)
place_none [] e h = refl
place_none (m ∷ ms) e h =
    none_place (not (clashes m.what e)) m.place (first_clash (m.what ∷ e) ms) (ltb-true _ _ (and_left _ (low_places ms) h))
    (place_none ms (m.what ∷ e) (and_right (ltb m.place 65536) _ h))
