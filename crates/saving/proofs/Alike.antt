-- Lists of records that differ at most in string indexes: the numbers declared, the zones named, the pins, the room and the pass are
-- the same.
-- Assumes nothing.
use Prim.Native.Nat.{ℕ}
use native.Mathlib.Omega.{arith}
use mathlib.Core.Path.{◌≡◌, refl}
use mathlib.Core.Bool.{true}
use mathlib.Core.List.{List, [], ◌∷◌, ◌++◌}
use mathlib.Core.Option.{none}
use lib.ListN.{length, length-append}
use Rattle.format.specs.Slots.{all_roomy}
use Rattle.format.specs.Records.{Record}
use Rattle.format.specs.Layout.{layout, layouts}
use Rattle.format.specs.FanList.{all_fan_pins}
use Rattle.format.specs.ZonesAndStrings.{Role, role, zone_declared, string_declared, gathered}
use Rattle.format.specs.Table.{element_breaks, PassKept}
use Rattle.format.specs.declared.settings.Settings.{Settings}
use Rattle.format.proofs.Slots.{roomy_split, roomy_join}
use Rattle.format.proofs.Kept.{own_unbroken, against_unbroken, both_kept}
use Rattle.saving.proofs.Clearing.{Alike, alike_same}

pub data EachAlike : List Record → List Record → Type 0 where
  no_more : EachAlike [] []
  one_more : {s r : Record} {ss rs : List Record} → Alike s r → EachAlike ss rs → EachAlike (s ∷ ss) (r ∷ rs)

pub alike_all : (rs : List Record) → EachAlike rs rs
alike_all [] = no_more
alike_all (r ∷ rs) = one_more (alike_same r) (alike_all rs)

pub alike_append : {ss rs ss' rs' : List Record} → EachAlike ss rs → EachAlike ss' rs' → EachAlike (ss ++ ss') (rs ++ rs')
alike_append no_more q = q
alike_append (one_more a p) q = one_more a (alike_append p q)

pub alike_count : {ss rs : List Record} → EachAlike ss rs → length ss ≡ length rs
alike_count no_more = refl
alike_count (one_more a p) = omega (arith, alike_count p)

-- what each record brings, end to end
module _ {B : Type 0} (brings : Record → List B) (all : List Record → List B)
    (of-more : (r : Record) (rs : List Record) → all (r ∷ rs) ≡ brings r ++ all rs)
    (same : (s r : Record) → Alike s r → brings s ≡ brings r) where
  pub alike_through : {ss rs : List Record} → EachAlike ss rs → all ss ≡ all rs
  alike_through no_more = refl
  alike_through (one_more {s = s} {r = r} {ss = ss} {rs = rs} a p) = cc (of-more s ss, of-more r rs, same s r a, alike_through p)

pub alike_gathered :
    (numbers : Role → List ℕ)
    → ((s r : Record) → Alike s r → numbers (role s) ≡ numbers (role r))
    → {ss rs : List Record}
    → EachAlike ss rs
    → gathered numbers ss ≡ gathered numbers rs
alike_gathered numbers same p = alike_through (λ r. numbers (role r)) (gathered numbers) (λ r rs. refl) same p

-- 3 and 25
pub alike_length : {ss rs : List Record} → EachAlike ss rs → length (layouts ss) ≡ length (layouts rs)
alike_length no_more = refl
alike_length (one_more {s = s} {r = r} {ss = ss} {rs = rs} a p) =
    omega (arith, a.long, alike_length p, length-append (layout s) (layouts ss), length-append (layout r) (layouts rs))

pub alike_roomy : {ss rs : List Record} → EachAlike ss rs → all_roomy (layouts rs) ≡ true → all_roomy (layouts ss) ≡ true
alike_roomy no_more h = refl
alike_roomy (one_more {s = s} {r = r} {ss = ss} {rs = rs} a p) h =
    let k = roomy_split (layout r) (layouts rs) h in
    roomy_join (layout s) (layouts ss) (a.room k.0) (alike_roomy p k.1)

-- 8 to 12, and 23
alike_breaks :
    (σ : Settings) {before before' : List Record} {s r : Record}
    → EachAlike before before'
    → Alike s r
    → element_breaks σ before' r ≡ none
    → element_breaks σ before s ≡ none
alike_breaks σ {before} {before'} {s} {r} p a h =
    let k = against_unbroken σ before' r h in
    let z = alike_gathered zone_declared (λ s r b. b.zone_d) p in
    both_kept σ before s (rw (a.own σ) (own_unbroken σ before' r h))
    (record {
      order_10 = rw (a.fans, alike_through _ all_fan_pins (λ r rs. refl) (λ s r b. b.fans) p) k.order_10;
      room_11 = rw (a.zone_d, z) k.room_11;
      fresh_12 = rw (a.zone_d, z, a.string_d, alike_gathered string_declared (λ s r b. b.string_d) p) k.fresh_12;
    })

pub alike_passed :
    (σ : Settings) {before before' ss rs : List Record}
    → EachAlike before before'
    → EachAlike ss rs
    → PassKept σ before' rs
    → PassKept σ before ss
alike_passed σ w no_more k = tt
alike_passed σ w (one_more a p) k =
    (omega (arith, alike_count w, k.0), alike_breaks σ w a k.1, alike_passed σ (alike_append w (one_more a no_more)) p k.2)
