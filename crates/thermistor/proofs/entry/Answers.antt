-- `entry` meets its contract: the table's rule, at the entry asked for.
-- Assumes nothing.
use Rattle.thermistor.proofs.entry.Goals as goal

pub returns : goal.returns
returns c = c.requires.0.rule _ c.requires.1
