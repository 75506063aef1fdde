-- `place_of` meets its contract: each turn puts one element behind.
-- Assumes nothing.
use native.Mathlib.Omega.{arith}
use Rattle.walking.proofs.Counting.{begun, here, turned, there}
use Rattle.walking.proofs.place_of.Goals as goal

pub loop-init : goal.loop-init
loop-init c = λ σ n v h. begun σ _ _ n v h

pub length_at-at-requires : goal.length_at-at-requires
length_at-at-requires c =
    let p = c.requires in
    let g = (here _ _ _ _ _ (c.loop.invariant p.0 p.1 p.2 p.3)).here in
    omega (arith, g.size, g.within)

pub overflow_add-at : goal.overflow_add-at
overflow_add-at c =
    let p = c.requires in
    omega (arith, c.length_at-at.ensures, (here _ _ _ _ _ (c.loop.invariant p.0 p.1 p.2 p.3)).here.within)

pub loop-preserved : goal.loop-preserved
loop-preserved c = λ σ n v h. turned σ _ _ _ _ (c.loop.invariant σ n v h) c.length_at-at.ensures c.loop-test.true

pub returns : goal.returns
returns c = λ σ n v h. there σ _ _ _ _ (c.loop.invariant σ n v h) c.loop-test.false
