-- `put_field` meets its contract: the fields, one behind another.
-- Assumes nothing.
use mathlib.Core.Path.{◌≡◌}
use Rattle.spelling.specs.Spelling.{decimal}
use Rattle.spelling.proofs.Putting.{then}
use Rattle.comparing.specs.Rows.{name_text}
use Rattle.comparing.proofs.Lined.{behind}
use Rattle.comparing.proofs.lines.put_field.Goals as goal

pub returns : goal.returns
returns c =
    let is = c.name.ensures.0 in
    behind (decimal c.args.a) (decimal c.args.b) c.put_front-e.ensures.0
    (then (then (rw is at c.put-f.ensures) c.put_byte-g.ensures) (then c.put_content-h.ensures.0 c.put_content.ensures.0))
