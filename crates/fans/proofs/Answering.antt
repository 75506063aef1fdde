-- What the answer says of the records: it is that of a walk over all elements; the position is that of a fan or a pump of the zone,
-- before which there is none; and of a zone that nobody declares it is no, after all elements.
-- Assumes nothing.
use Prim.Native.Nat.{ℕ, suc, ◌+◌, ◌≤◌}
use native.Mathlib.Omega.{arith}
use native.Mathlib.Numerals.{add-one}
use mathlib.Core.Path.{◌≡◌, refl, sym, ◌∙◌, ap, subst}
use mathlib.Core.Bool.{Bool, true, false, ◌||◌, cond, false≢true}
use mathlib.Core.List.{List, [], ◌∷◌}
use mathlib.Core.Logic.{◌⊎◌, inl, inr}
use mathlib.Core.Option.{Option, none, some}
use lib.ListN.{length, take}
use borrow.Author.Tests.{eqb-true}
use Rattle.format.specs.Records.{Record}
use Rattle.format.specs.Layout.{layout}
use Rattle.format.specs.Pins.{among}
use Rattle.format.specs.Rules.{unless_kept}
use Rattle.format.specs.ZonesAndStrings.{role, zone_named, zones, all_among, first_naming}
use Rattle.format.specs.Verdict.{Accepts}
use Rattle.format.specs.Asked.{nth}
use Rattle.format.specs.declared.settings.Settings.{Settings}
use Rattle.format.specs.declared.records.Description.{Description}
use Rattle.format.proofs.Kept.{and-true}
use Rattle.fans.specs.InZone.{motor_in, later, first_motor, visit, visits, in_zone, any_motor}
use Rattle.fans.proofs.Telling.{Motor, Other, either}

-- 'The answer equals that of a walk over all elements'
pub as_over_all : (z : ℕ) (rs : List Record) → (in_zone z rs).hit ≡ any_motor z rs
as_over_all z [] = refl
as_over_all z (r ∷ rs) = go (motor_in z r) (first_motor z rs) (as_over_all z rs)
  where
    go :
        (t : Bool) (o : Option ℕ)
        → (visits (length rs) o).hit ≡ any_motor z rs
        → (visits (suc (length rs)) (cond t (some 0) (later o))).hit ≡ t || any_motor z rs
    go true o e = refl
    go false none e = e
    go false (some k) e = e

-- never more visits than elements
pub never_more : (z : ℕ) (rs : List Record) → (in_zone z rs).count ≤ length rs
never_more z [] = omega arith
never_more z (r ∷ rs) = go (motor_in z r) (first_motor z rs) (never_more z rs)
  where
    go :
        (t : Bool) (o : Option ℕ)
        → (visits (length rs) o).count ≤ length rs
        → (visits (suc (length rs)) (cond t (some 0) (later o))).count ≤ suc (length rs)
    go true o e = omega arith
    go false none e = omega arith
    go false (some k) e = omega arith

-- where there is one: element k is a fan or a pump of the zone, and none stands before it
pub record First (z : ℕ) (rs : List Record) (k : ℕ) : Type 0 where
  pub r : Record
  pub is_nth : nth rs k ≡ some r
  pub hit : motor_in z r ≡ true
  pub none_before : any_motor z (take k rs) ≡ false

pub first_there : (z : ℕ) (rs : List Record) (k : ℕ) → first_motor z rs ≡ some k → First z rs k
first_there z [] k h = let e : ◌≡◌ {A = ℕ} 0 1 = cc in absurd (omega arith)
first_there z (x ∷ rs) k h = go (motor_in z x) refl (first_motor z rs) refl h (λ j q. first_there z rs j q)
  where
    go :
        (t : Bool)
        → motor_in z x ≡ t
        → (o : Option ℕ)
        → first_motor z rs ≡ o
        → cond t (some 0) (later o) ≡ some k
        → ((j : ℕ) → first_motor z rs ≡ some j → First z rs j)
        → First z (x ∷ rs) k
    go true e o p q below =
        let same : 0 ≡ k = cc in
        subst (λ (i : ℕ). First z (x ∷ rs) i) same (record { r = x; is_nth = refl; hit = e; none_before = refl })
    go false e none p q below = let c : ◌≡◌ {A = ℕ} 0 1 = cc in absurd (omega arith)
    go false e (some j) p q below =
        let m = below j p in
        let same : j + 1 ≡ k = cc in
        subst (λ (i : ℕ). First z (x ∷ rs) i) (sym (add-one j) ∙ same)
        (record { r = m.r; is_nth = m.is_nth; hit = m.hit; none_before = rw e m.none_before })

-- where there is none: no element is one
pub none_there : (z : ℕ) (rs : List Record) → first_motor z rs ≡ none → any_motor z rs ≡ false
none_there z rs e = sym (as_over_all z rs) ∙ ap (λ (o : Option ℕ). (visits (length rs) o).hit) e

-- a fan or a pump of the zone names it
names_it : (z : ℕ) (r : Record) → motor_in z r ≡ true → zone_named (role r) ≡ z ∷ []
names_it z r h = go (either r)
  where
    go : Motor r ⊎ Other r → zone_named (role r) ≡ z ∷ []
    go (inl m) =
        ap zone_named m.role_is ∙ ap (λ (n : ℕ). n ∷ []) (eqb-true m.placement.zone z (sym (m.zone_tells z) ∙ h))
    go (inr o) = absurd (false≢true (sym (o.never z) ∙ h))

-- 13 leaves no element in a zone that is not declared
none_declared :
    (z at : ℕ) (ns : List ℕ) (rs : List Record) → among z ns ≡ false → first_naming zone_named ns at rs ≡ none → first_motor z rs ≡ none
none_declared z at ns [] u k = refl
none_declared z at ns (r ∷ rs) u k =
    go (motor_in z r) refl (all_among (zone_named (role r)) ns) refl k (λ q. none_declared z (at + length (layout r)) ns rs u q)
  where
    go :
        (t : Bool)
        → motor_in z r ≡ t
        → (s : Bool)
        → all_among (zone_named (role r)) ns ≡ s
        → unless_kept s at (first_naming zone_named ns (at + length (layout r)) rs) ≡ none
        → (first_naming zone_named ns (at + length (layout r)) rs ≡ none → first_motor z rs ≡ none)
        → cond t (some 0) (later (first_motor z rs)) ≡ none
    go true e true a q below =
        let m = ap (λ (l : List ℕ). all_among l ns) (sym (names_it z r e)) ∙ a in
        absurd (false≢true (sym u ∙ (and-true (among z ns) true m).0))
    go t e false a q below = let c : ◌≡◌ {A = ℕ} 0 1 = cc in absurd (omega arith)
    go false e true a q below = ap later (below q)

-- a zone that nobody declares: no, after all elements
pub undeclared :
    (σ : Settings) (b : List ℕ) (z : ℕ) (d : Description) (rs : List Record)
    → Accepts σ b d rs
    → among z (zones rs) ≡ false
    → in_zone z rs ≡ visit false (length rs)
undeclared σ b z d rs a u = ap (visits (length rs)) (none_declared z 16 (zones rs) rs u a.keeps.zoned)
