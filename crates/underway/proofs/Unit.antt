-- The units of a text that the bytes of a piece complete.
-- Assumes nothing.
use Prim.Native.Nat.{ℕ, ◌+◌, ◌-◌, ◌*◌, ◌/◌, ◌≤◌, ◌<◌}
use native.Mathlib.Omega.{arith}
use mathlib.Core.Path.{◌≡◌, refl, sym, ◌∙◌, ap}
use mathlib.Core.Bool.{Bool, true, false, ◌&&◌}
use mathlib.Core.List.{List, ◌++◌, append_assoc}
use lib.ListN.{length, drop, length-drop, length-append}
use lib.Seq.{get_or-drop}
use lib.Dec.{eqb, leb}
use borrow.Author.Tests.{leb-true, leb-false}
use Rattle.format.specs.Slots.{byte, Bytes}
use Rattle.format.specs.Utf16.{agrees, units, paired}
use Rattle.format.proofs.Slots.{bytes_drop}
use Rattle.rules.proofs.Units.{one_unit}
use Rattle.underway.specs.Under.{mark_of, is_good, is_high, left_from, whole_units, TextIs, UnitsFrom, UnitsOn}
use Rattle.underway.specs.declared.Under.{Under}
use Rattle.underway.specs.declared.Units.{Units}
use Rattle.underway.proofs.Keeping.{in_piece}

pub good_mark : (a b : Bool) → is_good (mark_of a b) ≡ a
good_mark true true = refl
good_mark true false = refl
good_mark false true = refl
good_mark false false = refl

pub high_mark : (a b : Bool) → is_high (mark_of a b) ≡ b
high_mark true true = refl
high_mark true false = refl
high_mark false true = refl
high_mark false false = refl

-- one unit more
pub unit_next :
    (v p q : List ℕ) (k : ℕ) (good high : Bool) {i x : ℕ}
    → Bytes (v ++ (p ++ q))
    → i ≡ 7 + 2 * k - length v
    → length v ≤ 7 + 2 * k
    → i < length p
    → x ≡ byte p i
    → left_from (k + 1) (good && agrees high (eqb (x / 4) 55)) (eqb (x / 4) 54) (drop 6 (v ++ (p ++ q)))
    ≡ left_from k good high (drop 6 (v ++ (p ++ q)))
unit_next v p q k good high {i} {x} small e a l z =
    let w = v ++ (p ++ q) in
    let n = length-append v (p ++ q) in
    let m = length-append p q in
    let s : 6 + (2 * k + 1) ≡ 7 + 2 * k = omega arith in
    let y : byte (drop 6 w) (2 * k + 1) ≡ x =
    get_or-drop 6 w (2 * k + 1) 0 ∙ ap (byte w) s ∙ in_piece v p q (7 + 2 * k) a (omega arith) ∙ ap (byte p) (sym e) ∙ sym z in
    sym (one_unit (drop 6 w) k good high (bytes_drop 6 w small) (omega (arith, length-drop 6 w)) ∙ rw y refl)

-- the text of an element, with the bytes of a piece
pub text_grows :
    (u : Under) (p : List ℕ) (t : Units) (m : ℕ)
    → UnitsFrom u t
    → UnitsOn t u.len p ((u.len + length p - 6) / 2) m
    → (v : List ℕ)
    → u.len ≡ length v
    → (6 ≤ length v → TextIs u.mark v)
    → 6 ≤ length (v ++ p)
    → TextIs m (v ++ p)
text_grows u p t m f o v e h l q small =
    let n = length-append v p in
    let k : (u.len + length p - 6) / 2 ≡ whole_units (v ++ p) = ap (λ (i : ℕ). (i - 6) / 2) (omega (arith, e, n)) in
    let g = append_assoc v p q in
    rw (g, ← k) (o.on v q e (first (leb 6 u.len) refl) (rw g at small) ∙ before (leb 6 u.len) refl)
  where
    first : (b : Bool) → leb 6 u.len ≡ b → t.whole ≤ (u.len + length p - 6) / 2
    first true b = let d = leb-true 6 u.len b in omega (arith, (f.late d).0)
    first false b = let d = leb-false 6 u.len b in omega (arith, (f.early d).0)

    before :
        (b : Bool)
        → leb 6 u.len ≡ b
        → left_from t.whole t.good t.high (drop 6 (v ++ (p ++ q))) ≡ paired (units (drop 6 (v ++ (p ++ q))))
    before true b =
        let d = leb-true 6 u.len b in
        let w : t.whole ≡ whole_units v = (f.late d).0 ∙ ap (λ (i : ℕ). (i - 6) / 2) e in
        rw (w, (f.late d).1, (f.late d).2) (h (omega (arith, e, d)) (p ++ q) (rw (append_assoc v p q) at small))
    before false b = let d = leb-false 6 u.len b in rw ((f.early d).0, (f.early d).1, (f.early d).2) refl
