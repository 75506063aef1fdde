-- Every text has a meaning: with `one_meaning`, just one.
-- Assumes nothing.
use Prim.Native.Nat.{ℕ, zero, suc, ◌+◌, ◌*◌, ◌≤◌, ◌<◌}
use native.Mathlib.Omega.{arith}
use mathlib.Core.Path.{◌≡◌, refl, sym, ◌∙◌, ap}
use mathlib.Core.Bool.{Bool, true, false}
use mathlib.Core.List.{List, [], ◌∷◌, ◌++◌, append_assoc}
use lib.ListN.{length, take, drop, length-append, get_or-append}
use lib.Seq.{get_or_at}
use lib.Dec.{ltb, eqb}
use borrow.Author.Tests.{ltb-true, ltb-false, eqb-true, eqb-false}
use Rattle.std.specs.Prelude.{Option, Some, None}
use Rattle.format.specs.Slots.{byte}
use Rattle.hextext.specs.Text.{data_line, end_line}
use Rattle.hextext.specs.Meaning.{Front, none, more, Meaning, bytes, bad, Ends, Means, means}
use Rattle.hextext.specs.Digits.{pair_at}
use Rattle.hextext.proofs.Spelled.{pair_below, line_length}
use Rattle.fromhex.specs.Reading.{Begins, begins, begins_not, NoData, Opens, opens, opens_not}
use Rattle.fromhex.proofs.Judging.{judged, misjudged, far, empty}
use Rattle.fromhex.proofs.Walking.{ends_whole, ends_after, ends_bad}

-- a text begins with a line or not
beginning : (t l : List ℕ) → (x : Bool) × Begins t l x
beginning t [] = (true, begins refl)
beginning [] (y ∷ l) = (false, begins_not (λ m e. omega (arith, ap length e)))
beginning (x ∷ t) (y ∷ l) = go (eqb x y) refl (beginning t l)
  where
    both : (z : Bool) → x ≡ y → Begins t l z → (z : Bool) × Begins (x ∷ t) (y ∷ l) z
    both true e (begins h) = (true, begins (rw (sym e) (ap (λ (r : List ℕ). x ∷ r) h)))
    both false e (begins_not h) = (false, begins_not (λ m f. h m (ap (drop 1) f)))

    go : (z : Bool) → eqb x y ≡ z → (w : Bool) × Begins t l w → (w : Bool) × Begins (x ∷ t) (y ∷ l) w
    go true e r = both r.0 (eqb-true x y e) r.1
    go false e r = (false, begins_not (λ m f. eqb-false x y e (ap (λ (s : List ℕ). byte s 0) f)))

-- the bytes that its digits stand for
pairs : List ℕ → ℕ → List ℕ
pairs t zero = []
pairs t (suc n) = pairs t n ++ pair_at t (9 + 2 * n) ∷ []

pairs_length : (t : List ℕ) (n : ℕ) → length (pairs t n) ≡ n
unfolding pairs
pairs_length t zero = refl
pairs_length t (suc n) = omega (arith, length-append (pairs t n) (pair_at t (9 + 2 * n) ∷ []), pairs_length t n)

pairs_at : (t : List ℕ) (n k : ℕ) → k < n → byte (pairs t n) k ≡ pair_at t (9 + 2 * k)
unfolding pairs
pairs_at t zero k h = absurd (omega arith)
pairs_at t (suc n) k h = go (ltb k n) refl (pairs_at t n k)
  where
    go :
        (x : Bool)
        → ltb k n ≡ x
        → (k < n → byte (pairs t n) k ≡ pair_at t (9 + 2 * k))
        → byte (pairs t n ++ pair_at t (9 + 2 * n) ∷ []) k ≡ pair_at t (9 + 2 * k)
    go true e before =
        let h' = ltb-true k n e in
        get_or-append (pairs t n) (pair_at t (9 + 2 * n) ∷ []) 0 k (omega (arith, pairs_length t n)) ∙ before h'
    go false e before =
        let same : k ≡ n = omega (arith, ltb-false k n e) in
        rw same (get_or_at (pairs t n) (pair_at t (9 + 2 * n)) [] 0 n (pairs_length t n))

-- so a data record at an address begins it or not
opening : (a : ℕ) (t : List ℕ) → (m : Option ℕ) × (into : List ℕ) × Opens a t into m
opening a t = go (ltb 65535 a) (eqb (pair_at t 1) 0) refl refl
  where
    n : ℕ
    n = pair_at t 1

    long : n ≤ length (pairs t n)
    long = omega (arith, pairs_length t n)

    spelled : (x : Bool) → a < 65536 → 1 ≤ n → Begins t (data_line a (take n (pairs t n))) x → (m : Option ℕ) × (into : List ℕ) × Opens a t into m
    spelled true h h' s = (Some n, pairs t n, judged t (pairs t n) n long (pairs_at t n) h h' (omega (arith, pair_below t 1)) s)
    spelled false h h' s = (None, pairs t n, misjudged t (pairs t n) n long (pairs_at t n) refl s)

    go : (x y : Bool) → ltb 65535 a ≡ x → eqb n 0 ≡ y → (m : Option ℕ) × (into : List ℕ) × Opens a t into m
    go true y e f = (None, [], far (ltb-true 65535 a e))
    go false true e f = (None, [], empty (eqb-true n 0 f))
    go false false e f =
        let s = beginning t (data_line a (take n (pairs t n))) in
        let some : 1 ≤ n = omega (arith, eqb-false n 0 f) in
        spelled s.0 (omega (arith, ltb-false 65535 a e)) some s.1

-- where none does, the text ends there
ending : (k : ℕ) (b rest : List ℕ) → NoData (length b) rest → (m : Meaning) × Ends k b rest m
ending k b rest h = let s = beginning rest end_line in go s.0 (eqb (length rest) 12) s.1 refl
  where
    go : (x y : Bool) → Begins rest end_line x → eqb (length rest) 12 ≡ y → (m : Meaning) × Ends k b rest m
    go true true s e = (bytes b, ends_whole s (eqb-true (length rest) 12 e))
    go true false s e = (bad (k + 2), ends_after s (eqb-false (length rest) 12 e))
    go false y s e = (bad (k + 1), ends_bad s h)

-- and else it goes on behind the record
going : (n k : ℕ) (t b rest : List ℕ) → Front k t b → length rest < n → (m : Meaning) × Means (t ++ rest) m
going zero k t b rest f h = absurd (omega arith)
going (suc n) k t b rest f h = let o = opening (length b) rest in go o.0 o.1 o.2 (λ j s c r g i. going n j s c r g i)
  where
    go :
        (i : Option ℕ) (into : List ℕ)
        → Opens (length b) rest into i
        → ((j : ℕ) (s c r : List ℕ) → Front j s c → length r < n → (m : Meaning) × Means (s ++ r) m)
        → (m : Meaning) × Means (t ++ rest) m
    go (Some i) into (opens s l e) again =
        let d = take i into in
        let line = data_line (length b) d in
        let r = drop (12 + 2 * i) rest in
        let shorter : length r < n = omega (arith, ap length e, length-append line r, line_length (length b) d) in
        let w = again (suc k) (t ++ line) (b ++ d) r (more d f s) shorter in
        let is : t ++ line ++ r ≡ t ++ rest = append_assoc t line r ∙ ap (λ (x : List ℕ). t ++ x) (sym e) in
        (w.0, rw is at w.1)
    go None into (opens_not h') again = let w = ending k b rest h' in (w.0, means f w.1)

pub some_meaning : (t : List ℕ) → (m : Meaning) × Means t m
some_meaning t = going (suc (length t)) 0 [] [] t none (omega arith)
