-- `receive` meets its contract: all of the bytes are of the description, or the pass goes on.
-- Assumes nothing.
use mathlib.Core.Path.{refl, sym}
use Rattle.receiving.proofs.Growing.{grows_early, grows_on}
use Rattle.receiving.proofs.receive.Goals as goal

pub returns-then-total-lt16 : goal.returns-then-total-lt16
returns-then-total-lt16 c =
    grows_early _ _ _ _ _ _ _ _ _ _ c.if-total-lt16.true c.keep_each.ensures c.put.ensures

-- the pass leaves the six arrays that were lent to it
pub returns : goal.returns
returns c =
    let a = c.advance-way.ensures in
    let same = a.same_arrays in
    rw (
      c.zs-1.given.1 (sym same.zones),
      c.ss-1.given.1 (sym same.strings),
      c.zu-1.given.1 (sym same.zone_uses),
      c.su-1.given.1 (sym same.string_uses),
      c.zp-1.given.1 (sym a.same_places.zones),
      c.sp-1.given.1 (sym a.same_places.strings),
    )
    (grows_on _ _ _ _ _ _ _ _ _ _ _ _ _ _ _ _ _ _ c.if-total-lt16.false c.requires.1 c.settings_of-settings.ensures
    c.lead-from.ensures c.ready-before.ensures refl a.advances c.put-2.ensures)
