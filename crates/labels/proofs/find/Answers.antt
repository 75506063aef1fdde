-- `find` meets its contract: what element k of the one list is called, 17, or the table's refusal.
-- Assumes nothing.
use mathlib.Core.Path.{refl}
use Rattle.format.specs.ZonesAndStrings.{role}
use Rattle.labels.specs.Called.{refused, untitled}
use Rattle.labels.proofs.Standing.{located_roled, found_there, past_last}
use Rattle.labels.proofs.find.Goals as goal

pub returns-in_default : goal.returns-in_default
returns-in_default c =
    let v = rw c.unwrap_err.ensures at c.check-answer.ensures in
    record { called = refused _ _; calls = untitled v; place = refl; well = refl }

pub returns-then-n-k : goal.returns-then-n-k
returns-then-n-k c =
    rw c.at.ensures (
    record {
      called = refused 17 0;
      calls = past_last _ _ _ (rw c.in-Ok.is at c.check-answer.ensures) c.if-n-k.true;
      place = refl;
      well = refl;
    })

pub place_of-requires : goal.place_of-requires
place_of-requires c =
    (_, _, rw c.in-Ok.is at c.check-answer.ensures, c.if-n-k.false)

pub called-requires : goal.called-requires
called-requires c =
    let l = c.place_of.ensures _ _ (rw c.in-Ok.is at c.check-answer.ensures) c.if-n-k.false in
    (_, l.d, l.rs, role l.r, l.accepts, located_roled _ _ _ _ l)

pub returns : goal.returns
returns c =
    let l = c.place_of.ensures _ _ (rw c.in-Ok.is at c.check-answer.ensures)
    c.if-n-k.false in
    found_there _ _ _ _ l (c.called.ensures _ l.d l.rs (role l.r) l.accepts (located_roled _ _ _ _ l))
