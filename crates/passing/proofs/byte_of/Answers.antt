-- `byte_of` meets its contract, by where the byte stands.
-- Assumes nothing.
use native.Mathlib.Omega.{arith}
use Rattle.passing.proofs.Sharing.{kept_byte, piece_byte}
use Rattle.passing.proofs.byte_of.Goals as goal

pub returns-then-k-had : goal.returns-then-k-had
returns-then-k-had c =
    let t = c.if-k-had.true in
    record { is = λ v h e. kept_byte _ v _ _ h c.requires.0 (omega (arith, t, e)) }

pub returns : goal.returns
returns c = record { is = λ v h e. piece_byte v _ _ _ e c.if-k-had.false }
