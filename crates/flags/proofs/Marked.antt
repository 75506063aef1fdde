-- Flags as lists grow: a number is marked, or none is; and at the start all are clear.
-- Assumes nothing.
use Prim.Native.Nat.{ℕ, ◌<◌}
use native.Mathlib.Omega.{arith}
use mathlib.Core.Path.{◌≡◌, refl, sym, ◌∙◌}
use mathlib.Core.Bool.{Bool, true, false, ◌||◌, false≢true}
use mathlib.Core.List.{List, [], ◌∷◌, ◌++◌, append-nil}
use lib.ListN.{get_or, set, length-set, replicate, length-replicate, get_or-replicate}
use lib.Seq.{get_or-set_same, get_or-set_other}
use lib.Dec.{eqb}
use borrow.Author.Tests.{eqb-true, eqb-false}
use Rattle.format.specs.Pins.{among}
use Rattle.flags.specs.Marks.{Marks}

-- a number more, and none
pub among_snoc : (i : ℕ) (ns : List ℕ) (x : ℕ) → among i (ns ++ x ∷ []) ≡ among i ns || eqb i x
among_snoc i [] x = or-false (eqb i x)
  where
    or-false : (a : Bool) → a || false ≡ a
    or-false true = refl
    or-false false = refl
among_snoc i (n ∷ ns) x = rw (among_snoc i ns x) (or_assoc (eqb i n) (among i ns) (eqb i x))
  where
    or_assoc : (a b c : Bool) → a || (b || c) ≡ a || b || c
    or_assoc true b c = refl
    or_assoc false b c = refl

or-true : (a : Bool) → a || true ≡ true
or-true true = refl
or-true false = refl

or_not : (a : Bool) → a || false ≡ a
or_not true = refl
or_not false = refl

pub marks_put : (l : List Bool) (ns : List ℕ) (x : ℕ) → x < 256 → Marks l ns → Marks (set l x true) (ns ++ x ∷ [])
marks_put l ns x s m =
    record {
      size = length-set l x true ∙ m.size;
      low = λ i h. below i (among i ns) refl (eqb i x) refl
          (sym (among_snoc i ns x) ∙ h);
      flag = λ i h. go i h (eqb i x) refl;
    }
  where
    below : (i : ℕ) (a : Bool) → among i ns ≡ a → (b : Bool) → eqb i x ≡ b → among i ns || eqb i x ≡ true → i < 256
    below i true p b q h = m.low i p
    below i false p true q h = omega (arith, eqb-true i x q)
    below i false p false q h = absurd (false≢true (sym (rw (p, q) refl) ∙ h))

    go : (i : ℕ) → i < 256 → (t : Bool) → eqb i x ≡ t → get_or (set l x true) i false ≡ among i (ns ++ x ∷ [])
    go i h true e =
        rw (among_snoc i ns x, e, or-true (among i ns), ← eqb-true i x e) (get_or-set_same l i true false (omega (arith, m.size)))
    go i h false e =
        rw (among_snoc i ns x, e, or_not (among i ns), get_or-set_other l x i true false (eqb-false i x e)) (m.flag i h)

pub marks_same : (l : List Bool) (ns : List ℕ) → Marks l ns → Marks l (ns ++ [])
marks_same l ns m = rw (append-nil ns) m

-- the list may have the number in front instead
or_comm : (a b : Bool) → a || b ≡ b || a
or_comm true true = refl
or_comm true false = refl
or_comm false true = refl
or_comm false false = refl

pub marks_front : (l : List Bool) (ns : List ℕ) (x : ℕ) → x < 256 → Marks l ns → Marks (set l x true) (x ∷ ns)
marks_front l ns x s m =
    let k = marks_put l ns x s m in
    let e : (i : ℕ) → among i (ns ++ x ∷ []) ≡ among i (x ∷ ns) = λ i. among_snoc i ns x ∙ or_comm (among i ns) (eqb i x) in
    record { size = k.size; low = λ i h. k.low i (e i ∙ h); flag = λ i h. k.flag i h ∙ e i }

-- all clear
pub marks_clear : Marks (replicate 256 false) []
marks_clear =
    record {
      size = length-replicate 256 false;
      low = λ i h. absurd (false≢true h);
      flag = λ i h. get_or-replicate 256 i false false h;
    }
