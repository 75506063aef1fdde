-- `pair_at` meets its contract.
-- Assumes nothing.
use Rattle.hextext.specs.Digits.{pair_at}
use Rattle.fromhex.proofs.pair_at.Goals as goal

pub returns : goal.returns
unfolding pair_at
returns c =
    rw (c.digit_value-low.ensures.0, c.digit_value-high.ensures.0, c.char_at-2.ensures, c.char_at.ensures)
