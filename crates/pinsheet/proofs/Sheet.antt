-- The sheet over the records: a pin is free on it exactly when no claim names it; brought forward it is the sheet made afresh, as the
-- sheet is all claims entered on a blank one, one after the other.
-- Assumes nothing.
use Prim.Native.Nat.{ℕ, ◌+◌}
use native.Mathlib.Omega.{arith}
use native.Mathlib.Nat.{add-zero}
use mathlib.Core.Path.{◌≡◌, refl, sym, ◌∙◌, ap}
use mathlib.Core.Bool.{Bool, true, false, cond}
use mathlib.Core.List.Memᴰ
use mathlib.Core.List.{List, [], ◌∷◌, ◌++◌, map}
use mathlib.Core.Logic.{◌↔◌, ⊎_elim}
use lib.ListN.{length, length-append}
use lib.Dec.{eqb}
use borrow.Author.Tests.{eqb-true, eqb-false}
use Rattle.format.specs.Records.{Record}
use Rattle.format.specs.Layout.{layout, layouts, place_after}
use Rattle.format.specs.Pins.{every}
use Rattle.format.specs.Claims.{claim, alone, Made, made_at, claims_of, claims}
use Rattle.format.specs.declared.records.Description.{Description}
use Rattle.format.proofs.Growing.{claims_snoc}
use Rattle.pinsheet.specs.Sheet.{Claimant, free, fault, place, first_of, or_else, entry, sheet, Unnamed, entered, last_claims, forward}
use Rattle.pinsheet.specs.Sheet.{blank}

-- claims one after another
cond_else : (t : Bool) (a e f : Claimant) → or_else a f ≡ a → or_else (cond t a e) f ≡ cond t a (or_else e f)
cond_else true a e f h = h
cond_else false a e f h = refl

pub first_append : (pin : ℕ) (ms ns : List Made) → first_of pin (ms ++ ns) ≡ or_else (first_of pin ms) (first_of pin ns)
first_append pin [] ns = refl
first_append pin (m ∷ ms) ns = rw (first_append pin ms ns) (sym (cond_else (eqb pin m.what.pin) (place m.place) _ _ refl))

else_assoc : (a e f : Claimant) → or_else a (or_else e f) ≡ or_else (or_else a e) f
else_assoc free e f = refl
else_assoc fault e f = refl
else_assoc (place n) e f = refl

pub entered_append :
    (pins : List ℕ) (ms ns : List Made) (old : List Claimant) → entered pins (ms ++ ns) old ≡ entered pins ns (entered pins ms old)
entered_append [] ms ns old = refl
entered_append (pin ∷ pins) ms ns [] = refl
entered_append (pin ∷ pins) ms ns (e ∷ old) =
    let first : or_else e (first_of pin (ms ++ ns)) ≡ or_else (or_else e (first_of pin ms)) (first_of pin ns) =
    ap (λ (f : Claimant). or_else e f) (first_append pin ms ns) ∙ else_assoc e (first_of pin ms) (first_of pin ns) in
    λ i. first i ∷ entered_append pins ms ns old i

-- the sheet is all claims entered on the blank one
entries_entered :
    (d : Description) (rs : List Record) (pins : List ℕ) → map (entry d rs) pins ≡ entered pins (claims d rs) (blank pins)
entries_entered d rs [] = refl
entries_entered d rs (pin ∷ pins) =
    λ i. sym (cond_else (eqb pin 0x10) fault free (first_of pin (claims d rs)) refl) i ∷ entries_entered d rs pins i

pub sheet_entered : (d : Description) (rs : List Record) → sheet d rs ≡ entered every (claims d rs) (blank every)
sheet_entered d rs = entries_entered d rs every

-- the last of some elements and one more is that one
pub last_snoc : (at : ℕ) (rs : List Record) (r : Record) → last_claims at (rs ++ r ∷ []) ≡ made_at (at + length (layouts rs)) (claims_of r)
last_snoc at [] r = rw add-zero
last_snoc at (s ∷ []) r = ap (λ (n : ℕ). made_at (at + n) (claims_of r)) (omega (arith, length-append (layout s) []))
last_snoc at (s ∷ t ∷ rs) r =
    last_snoc (at + length (layout s)) (t ∷ rs) r
    ∙ ap (λ (n : ℕ). made_at n (claims_of r)) (omega (arith, length-append (layout s) (layouts (t ∷ rs))))

-- one element more: its claims entered on the sheet of those before
pub sheet_snoc :
    (d : Description) (rs : List Record) (r : Record)
    → entered every (made_at (place_after rs) (claims_of r)) (sheet d rs) ≡ sheet d (rs ++ r ∷ [])
sheet_snoc d rs r =
    let new = made_at (place_after rs) (claims_of r) in
    ap (λ (l : List Claimant). entered every new l) (sheet_entered d rs)
    ∙ sym (entered_append every (claims d rs) new (blank every))
    ∙ ap (λ (l : List Made). entered every l (blank every)) (sym (claims_snoc d rs r))
    ∙ sym (sheet_entered d (rs ++ r ∷ []))

-- THE SECOND THEOREM: 'the sheet brought forward from the old one equals the sheet made afresh', whatever element is appended
pub forward_afresh : (d : Description) (rs : List Record) (r : Record) → forward (rs ++ r ∷ []) (sheet d rs) ≡ sheet d (rs ++ r ∷ [])
forward_afresh d rs r = ap (λ (l : List Made). entered every l (sheet d rs)) (last_snoc 16 rs r) ∙ sheet_snoc d rs r

-- a choice between an entry that is not free and one that is free exactly where nobody claims
cond_free :
    {U : Type 0} (t : Bool) (a e : Claimant)
    → (a ≡ free → ⊥)
    → (t ≡ true → U → ⊥)
    → (t ≡ false → (e ≡ free) ↔ U)
    → (cond t a e ≡ free) ↔ U
cond_free true a e n h k = (λ q. absurd (n q), λ u. absurd (h refl u))
cond_free false a e n h k = k refl

place_taken : (n : ℕ) → place n ≡ free → ⊥
place_taken n q = let z : ◌≡◌ {A = ℕ} 0 1 = cc in omega arith

fault_taken : fault ≡ free → ⊥
fault_taken q = let z : ◌≡◌ {A = ℕ} 0 1 = cc in omega arith

-- one claim more
unnamed_cons : (pin : ℕ) (m : Made) (ms : List Made) → (pin ≡ m.what.pin → ⊥) → Unnamed pin ms ↔ Unnamed pin (m ∷ ms)
unnamed_cons pin m ms n = (
  λ u a i q. ⊎_elim (λ s. n (q ∙ ap (λ (x : Made). x.what.pin) s)) (λ k. u a k q) (Memᴰ.cases_cons i),
  λ u a i. u a (Memᴰ.tail i),
)

-- no claim names a pin exactly where the first of them is none
first_free : (pin : ℕ) (ms : List Made) → (first_of pin ms ≡ free) ↔ Unnamed pin ms
first_free pin [] = (λ e m i. absurd (Memᴰ.not-nil i), λ u. refl)
first_free pin (m ∷ ms) =
    let below = first_free pin ms in
    cond_free (eqb pin m.what.pin) (place m.place) (first_of pin ms) (place_taken m.place)
    (λ h u. u m (Memᴰ.head refl) (eqb-true pin m.what.pin h))
    (λ h.
    let more = unnamed_cons pin m ms (eqb-false pin m.what.pin h) in
    (λ e. more.0 (below.0 e), λ u. below.1 (more.1 u)))

-- THE FIRST THEOREM: 'A pin is free on the sheet exactly when no claim names it'
pub free_exactly : (d : Description) (rs : List Record) (pin : ℕ) → (entry d rs pin ≡ free) ↔ Unnamed pin (claims d rs)
free_exactly d rs pin =
    cond_free (eqb pin 0x10) fault (first_of pin (claims d rs)) fault_taken
    (λ h u. u (record { what = claim alone 0x10; place = 0 }) (Memᴰ.head refl) (eqb-true pin 0x10 h))
    (λ h. first_free pin (claims d rs))
