-- `pass_on` meets its contract: turn by turn the rest of the piece leads where the whole piece leads.
-- Assumes nothing.
use native.Mathlib.Omega.{arith}
use mathlib.Core.Path.{refl}
use Prim.Native.Nat.{◌-◌}
use lib.ListN.{length, drop, length-drop}
use lib.Seq.{length-take-le}
use Rattle.format.proofs.Slots.{bytes_drop, bytes_take}
use Rattle.found.proofs.Judging.{rest}
use Rattle.stream.specs.Running.{going}
use Rattle.passing.proofs.Resuming.{then_on, ended, turn_test, turn_both}
use Rattle.passing.proofs.pass_on.Goals as goal

pub loop-way-init : goal.loop-way-init
loop-way-init c =
    let q = c.requires in (
      record { low = q.2; cut = q.1; within = omega arith; ends = λ _. omega (arith, q.0) },
      λ d before at u small o. record { run = going before at u; now = o; same = refl },
      record { zones = refl; strings = refl; zone_uses = refl; string_uses = refl },
      record { zones = refl; strings = refl },
    )

pub slice_bounds-turn-count : goal.slice_bounds-turn-count
slice_bounds-turn-count c = omega (arith, c.loop-way.invariant.0.within)

pub turn-r-requires : goal.turn-r-requires
turn-r-requires c =
    let i = c.loop-way.invariant.0 in
    let p = c.args.p.now in
    let n = c.loop-way.from in
    let t = turn_both c.loop-way.way.stop n (length p) c.loop-way-test.true in
    let l = length-take-le (length p - n) (drop n p) (omega (arith, length-drop n p)) in
    (omega (arith, i.ends t.0, l, length-drop n p), i.cut, i.low)

pub overflow_add-from : goal.overflow_add-from
overflow_add-from c =
    let p = c.args.p.now in
    let n = c.loop-way.from in
    let l = length-take-le (length p - n) (drop n p) (omega (arith, length-drop n p)) in
    omega (arith, c.turn-r.ensures.turns.onto.within, l, length-drop n p, c.loop-way.invariant.0.within, c.requires.0)

pub loop-way-smaller : goal.loop-way-smaller
loop-way-smaller c =
    let p = c.args.p.now in
    let n = c.loop-way.from in
    let t = turn_both c.loop-way.way.stop n (length p) c.loop-way-test.true in
    let q = c.turn-r.ensures.turns in
    let l = length-take-le (length p - n) (drop n p) (omega (arith, length-drop n p)) in
    omega (arith, q.some (omega (arith, l, length-drop n p, t.1)), t.1)

pub loop-way-preserved : goal.loop-way-preserved
loop-way-preserved c =
    let i = c.loop-way.invariant in
    let p = c.args.p.now in
    let n = c.loop-way.from in
    let t = turn_both c.loop-way.way.stop n (length p) c.loop-way-test.true in
    let q = c.turn-r.ensures.turns in
    let m = length-drop n p in
    let l = length-take-le (length p - n) (drop n p) (omega (arith, m)) in (
      record {
        low = q.onto.low;
        cut = q.onto.cut;
        within = omega (arith, q.onto.within, l, m, i.0.within);
        ends = λ y. omega (arith, q.onto.ends y, q.onto.within, l, m, i.0.within);
      },
      λ d before at u small o.
          then_on _ _ _ _ _ _ _ _ _ (i.1 d before at u small o) t.0 _ (rest n p) _ _ _ _ _ _ refl refl
          (λ b a v y. q.goes d b a v (bytes_take (length p - n) (drop n p) (bytes_drop n p small)) y),
      search (i.2, c.turn-r.ensures.same_arrays),
      search (i.3, c.turn-r.ensures.same_places),
    )

pub returns-clause-passes : goal.returns-clause-passes
returns-clause-passes c =
    record {
      goes = λ d before at u m small o. ended _ _ _ _ _ _ _ _ _ (c.loop-way.invariant.1 d before at u small o)
          (turn_test _ _ _ c.loop-way-test.false);
    }
