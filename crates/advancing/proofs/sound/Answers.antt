-- `sound` meets its contract, test by test.
-- Assumes nothing.
use native.Mathlib.Omega.{arith}
use mathlib.Core.Path.{refl}
use Rattle.advancing.proofs.Starting.{sound_all, unsound}
use Rattle.advancing.proofs.sound.Goals as goal

pub returns-then-w-gt4097 : goal.returns-then-w-gt4097
returns-then-w-gt4097 c = let t = c.if-w-gt4097.true in unsound _ _ refl (λ s. omega (arith, t, s.ends))

pub returns-then-w-u : goal.returns-then-w-u
returns-then-w-u c = let t = c.if-w-u.true in unsound _ _ refl (λ s. omega (arith, t, s.ends))

pub returns : goal.returns
returns c =
    let s = c.if-w-u.false in
    let t = c.if-w-gt4097.false in
    sound_all _ _ _ refl (omega (arith, s, t))
