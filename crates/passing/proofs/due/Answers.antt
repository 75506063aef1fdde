-- `due` meets its contract: the element waits, its length is under 3, or so many bytes complete it.
-- Assumes nothing.
use native.Mathlib.Omega.{arith}
use mathlib.Core.Path.{refl}
use Rattle.passing.proofs.Sharing.{all_short, all_wait, due_whole, due_late}
use Rattle.passing.proofs.due.Goals as goal

pub returns-then-all-lt3 : goal.returns-then-all-lt3
returns-then-all-lt3 c =
    let t = c.if-all-lt3.true in
    record { within = omega arith; some = λ m. m; shares = λ v h e w m. all_short v _ refl (omega (arith, t, e)) refl }

pub returns-then-all-told : goal.returns-then-all-told
returns-then-all-told c =
    let t = c.if-all-told.true in
    let l = c.if-all-lt3.false in
    record {
      within = omega arith;
      some = λ m. m;
      shares = λ v h e w m. all_wait v _ (c.told_of-told.ensures.is v h e) (omega (arith, l, e)) (omega (arith, t, e));
    }

pub returns-then-told-had : goal.returns-then-told-had
returns-then-told-had c =
    let t = c.if-told-had.true in
    let n = c.if-all-told.false in
    let l = c.if-all-lt3.false in
    record {
      within = omega arith;
      some = λ m. m;
      shares =
          λ v h e w m.
          due_late v _ (c.told_of-told.ensures.is v h e) _ (omega (arith, n, e)) (omega (arith, l, e)) w (omega (arith, t, e));
    }

pub returns : goal.returns
returns c =
    let n = c.if-all-told.false in
    let l = c.if-all-lt3.false in
    record {
      within = omega (arith, n);
      some = λ _. omega (arith, c.if-told-had.false);
      shares =
          λ v h e w m.
          due_whole v _ (c.told_of-told.ensures.is v h e) _ (omega (arith, n, e)) (omega (arith, l, e)) w (omega (arith, e));
    }
