-- `turn` meets its contract: whole elements alone, or then the one under way.
-- Assumes nothing.
use native.Mathlib.Omega.{arith}
use mathlib.Core.Path.{refl}
use Prim.Native.Nat.{◌-◌}
use lib.ListN.{length, drop, length-drop}
use lib.Seq.{length-take-le}
use Rattle.format.proofs.Slots.{bytes_drop, bytes_take}
use Rattle.found.proofs.Judging.{rest}
use Rattle.passing.proofs.Resuming.{stopped_turn, then_on, resumed_on}
use Rattle.passing.proofs.turn.Goals as goal

pub returns-then-way-ne0-clause-turns : goal.returns-then-way-ne0-clause-turns
returns-then-way-ne0-clause-turns c =
    let a = c.ahead-r.ensures.turns in
    record {
      onto = record { low = a.onto.low; cut = a.onto.cut; within = omega arith; ends = λ z. absurd (c.if-way-ne0.true z) };
      some = λ m. m;
      goes = λ d before at u small o. stopped_turn _ _ _ _ _ _ _ _ _ (a.goes d before at u _ small o) c.if-way-ne0.true _ refl;
    }

pub returns-then-p-from-clause-turns : goal.returns-then-p-from-clause-turns
returns-then-p-from-clause-turns c =
    let a = c.ahead-r.ensures.turns in
    let t = c.if-p-from.true in
    record { onto = a.onto; some = λ m. omega (arith, m, t); goes = λ d before at u small o. a.goes d before at u _ small o }

pub resume-q-requires : goal.resume-q-requires
resume-q-requires c =
    let p = c.args.p.now in
    let n = c.ahead-r.result.taken in
    let a = c.ahead-r.ensures.turns.onto in
    let l = length-take-le (length p - n) (drop n p) (omega (arith, length-drop n p)) in
    (omega (arith, a.ends c.if-way-ne0.false, l, length-drop n p), a.cut, a.low)

pub overflow_add-result : goal.overflow_add-result
overflow_add-result c =
    let p = c.args.p.now in
    let n = c.ahead-r.result.taken in
    let l = length-take-le (length p - n) (drop n p) (omega (arith, length-drop n p)) in
    omega (arith, c.resume-q.ensures.turns.onto.within, l, length-drop n p, c.ahead-r.ensures.turns.onto.within, c.requires.0)

pub returns-clause-turns : goal.returns-clause-turns
returns-clause-turns c =
    let q = c.resume-q.ensures.turns in
    let p = c.args.p.now in
    let n = c.ahead-r.result.taken in
    let a = c.ahead-r.ensures.turns in
    let m = length-drop n p in
    let l = length-take-le (length p - n) (drop n p) (omega (arith, m)) in
    let t = c.if-p-from.false in
    let z = c.if-way-ne0.false in
    record {
      onto =
          record {
            low = q.onto.low;
            cut = q.onto.cut;
            within = omega (arith, q.onto.within, l, m, a.onto.within);
            ends = λ y. omega (arith, q.onto.ends y, q.onto.within, l, m, a.onto.within);
          };
      some = λ _. omega (arith, q.some (omega (arith, l, m, t)));
      goes =
          λ d before at u small o.
          then_on _ _ _ _ _ _ _ _ _ (a.goes d before at u _ small o) z _ (rest n p) _ _ _ _ _ _ refl refl
          (resumed_on _ d _ _ _ _ _ _ _ _ _ _ _ (omega (arith, l, m, t)) (bytes_take (length p - n) (drop n p) (bytes_drop n p small)) q);
    }
