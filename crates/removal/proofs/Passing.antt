-- The pass (8 to 12, and 23) under leaving elements out: what each rule sees of the elements before is a part of what it saw.
-- Assumes nothing.
use Prim.Native.Nat.{ℕ}
use native.Mathlib.Omega.{arith}
use mathlib.Core.Path.{◌≡◌, sym, subst}
use mathlib.Core.Bool.{true}
use mathlib.Core.List.{List, [], ◌∷◌}
use mathlib.Core.Logic.{◌↔◌}
use mathlib.Core.Option.{none}
use borrow.Author.Tests.{leb-true, le-leb}
use Rattle.format.specs.Records.{Record}
use Rattle.format.specs.FanList.{fan_pins, all_fan_pins, last_used, in_order, rise}
use Rattle.format.specs.ZonesAndStrings.{role, zone_declared, string_declared, zones, strings, zones_fit, fresh}
use Rattle.format.specs.Table.{element_breaks, PassKept}
use Rattle.format.specs.declared.settings.Settings.{Settings}
use Rattle.format.proofs.Kept.{own_unbroken, against_unbroken, both_kept}
use Rattle.format.proofs.Growing.{last_snoc}
use Rattle.format.proofs.FanList.{passed_rise}
use Rattle.removal.specs.Parts.{Part, done, keep, leave}
use Rattle.removal.proofs.Parts.{part_same, part_append, part_before, part_length, part_numbers, part_fans}
use Rattle.removal.proofs.Among.{Apart, part_within, both_apart}
use Rattle.removal.proofs.Rising.{part_rise, rise_first, rise_after}

-- 12, as a statement
pub fresh_exactly :
    (rs : List Record) (r : Record)
    → (fresh rs r ≡ true) ↔ (Apart (zone_declared (role r)) (zones rs) × Apart (string_declared (role r)) (strings rs))
fresh_exactly rs r = both_apart (zone_declared (role r)) (zones rs) (string_declared (role r)) (strings rs)

module _ {ss rs : List Record} (p : Part Record ss rs) (r : Record) where
  -- 11
  part_fit : zones_fit rs r ≡ true → zones_fit ss r ≡ true
  part_fit h = omega (arith, leb-true, le-leb, part_length (part_numbers zone_declared p))

  -- 12
  part_fresh : fresh rs r ≡ true → fresh ss r ≡ true
  part_fresh h =
      let a = (fresh_exactly rs r).0 h in
      (fresh_exactly ss r).1 (
        λ x i j. a.0 x i (part_within (part_numbers zone_declared p) x j),
        λ x i j. a.1 x i (part_within (part_numbers string_declared p) x j),
      )

  part_breaks_lem : (σ : Settings) → in_order ss r ≡ true → element_breaks σ rs r ≡ none → element_breaks σ ss r ≡ none
  part_breaks_lem σ o h =
      let k = against_unbroken σ rs r h in
      both_kept σ ss r (own_unbroken σ rs r h)
      (record { order_10 = o; room_11 = part_fit k.room_11; fresh_12 = part_fresh k.fresh_12 })

passed_after :
    (σ : Settings) {before before' ss rs : List Record}
    → Part Record before before'
    → Part Record ss rs
    → PassKept σ before' rs
    → rise (last_used before) (all_fan_pins ss) ≡ true
    → PassKept σ before ss
passed_after σ w done k e = tt
passed_after σ {before = before} w (keep {x = r} {xs = ss} {ys = rs} p) k e = (
  omega (arith, part_length w, k.0),
  part_breaks_lem w r σ (rise_first (last_used before) (fan_pins r) (all_fan_pins ss) e) k.1,
  passed_after σ (part_append w (part_same (r ∷ []))) p k.2
      (subst (λ (n : ℕ). rise n (all_fan_pins ss) ≡ true) (sym (last_snoc before r))
      (rise_after (last_used before) (fan_pins r) (all_fan_pins ss) e)),
)
passed_after σ w (leave {y = r} p) k e = passed_after σ (part_before (r ∷ []) w) p k.2 e

-- THE LAW
pub part_passed : (σ : Settings) {ss rs : List Record} → Part Record ss rs → PassKept σ [] rs → PassKept σ [] ss
part_passed σ {rs = rs} p k = passed_after σ done p k (part_rise 0 (part_fans p) (passed_rise σ [] rs k))
