-- `told_of` meets its contract, by where the header stands.
-- Assumes nothing.
use native.Mathlib.Omega.{arith}
use mathlib.Core.Path.{◌∙◌, sym}
use Rattle.passing.proofs.Sharing.{told_is, kept_byte, piece_byte}
use Rattle.passing.proofs.told_of.Goals as goal

pub returns-then-had-eq0 : goal.returns-then-had-eq0
returns-then-had-eq0 c =
    let t = c.if-had-eq0.true in
    record {
      is =
          λ v h e.
          c.pair.ensures
          ∙ told_is v _ (piece_byte v _ 1 0 (sym t ∙ e) (omega arith)) (piece_byte v _ 2 0 (sym t ∙ e) (omega arith));
    }

pub returns-then-had-ge3 : goal.returns-then-had-ge3
returns-then-had-ge3 c =
    let t = c.if-had-ge3.true in
    record {
      is =
          λ v h e.
          c.pair-then-had-ge3.ensures
          ∙ told_is v _ (kept_byte _ v _ 1 h (omega arith) (omega (arith, t, e))) (kept_byte _ v _ 2 h (omega arith) (omega (arith, t, e)));
    }

pub returns : goal.returns
returns c =
    record {
      is =
          λ v h e.
          c.pair-2.ensures
          ∙ told_is v _ (c.byte_of.ensures.is v h e) (c.byte_of-2.ensures.is v h e);
    }
