-- `put_kind` meets its contract: the fields, one behind another.
-- Assumes nothing.
use Rattle.spelling.proofs.Putting.{then}
use Rattle.comparing.specs.Lines.{place_text}
use Rattle.comparing.proofs.Lined.{behind}
use Rattle.comparing.proofs.lines.put_kind.Goals as goal

pub returns : goal.returns
returns c =
    let a = c.args in
    behind (place_text a.a) (place_text a.b) c.put_front-e.ensures.0
    (then c.put-f.ensures (then c.put_id-g.ensures.0 c.put_id.ensures.0))
