-- `lacks` meets its contract: what the search found, taken apart.
-- Assumes nothing.
use mathlib.Core.Path.{sym, ◌∙◌}
use Rattle.flags.proofs.Owed.{none_owed, one_owed}
use Rattle.flags.proofs.lacks.Goals as goal

pub returns : goal.returns
returns c =
    let a = c.args in
    record {
      none = λ e. none_owed 256 a.used.now a.seen.now (sym c.lacks_one.ensures ∙ e);
      one = λ e. one_owed 256 a.used.now a.seen.now (sym c.lacks_one.ensures ∙ e);
    }
