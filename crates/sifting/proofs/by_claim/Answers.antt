-- `by_claim` meets its contract: what is held says whether the element's claims clash.
-- Assumes nothing.
use native.Mathlib.Omega.{arith}
use Rattle.format.specs.Claims.{claims_of}
use Rattle.sifting.proofs.Judging.{here_there}
use Rattle.sifting.proofs.Claiming.{claims_there, claim_stays, claim_leaves}
use Rattle.sifting.proofs.by_claim.Goals as goal

pub element_at-e-requires : goal.element_at-e-requires
element_at-e-requires c = (c.requires.0.1.r, rw c.from-at.ensures (here_there _ _ _ _ c.requires.0.1))

pub returns-then-next-eq65536 : goal.returns-then-next-eq65536
returns-then-next-eq65536 c =
    λ d kept k keeps w.
    let cs = claims_there _ _ _ _ keeps d kept _ w _ _ (c.element_at-e.ensures keeps.r (rw c.from-at.ensures (here_there _ _ _ _ keeps)))
    c.claims_of.ensures in
    let is = c.claim-next.ensures w.made (claims_of k.what) (omega (arith, c.requires.1)) w.held cs in
    rw (c.fated.ensures.0, c.fated.ensures.1) (claim_stays _ _ _ _ keeps d kept _ w _ _ is c.if-next-eq65536.true)

pub returns-else-next-eq65536 : goal.returns-else-next-eq65536
returns-else-next-eq65536 c =
    λ d kept k keeps w.
    let cs = claims_there _ _ _ _ keeps d kept _ w _ _ (c.element_at-e.ensures keeps.r (rw c.from-at.ensures (here_there _ _ _ _ keeps)))
    c.claims_of.ensures in
    let is = c.claim-next.ensures w.made (claims_of k.what) (omega (arith, c.requires.1)) w.held cs in
    rw (c.fated-else-next-eq65536.ensures.0, c.fated-else-next-eq65536.ensures.1, c.number.ensures)
    (claim_leaves _ _ _ _ keeps d kept _ w _ _ is c.if-next-eq65536.false)
