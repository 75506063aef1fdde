-- `put_part` meets its contract: nothing where the parts are alike, and else the fields, one behind another.
-- Assumes nothing.
use native.Mathlib.Omega.{arith}
use mathlib.Core.Path.{sym, ◌∙◌}
use Rattle.spelling.specs.Spelling.{decimal}
use Rattle.spelling.proofs.Putting.{then}
use Rattle.comparing.proofs.Lined.{behind, ended_length, part_same, part_line_lem, part_space}
use Rattle.comparing.proofs.Spelled.{alike}
use Rattle.comparing.proofs.lines.put_part.Goals as goal

pub returns-then-eq : goal.returns-then-eq
returns-then-eq c =
    let a = c.args in
    part_same _ _ a.a a.b a.p.now a.q.now (sym (alike a.p.now a.q.now) ∙ sym c.if-eq.ensures)

pub put_ended-g-requires : goal.put_ended-g-requires
put_ended-g-requires c =
    let a = c.args in
    let d = part_space a.a a.b a.p.now a.q.now (sym (alike a.p.now a.q.now) ∙ sym c.if-eq.ensures) in
    omega (arith, d, c.requires, c.put_front-e.ensures.1, c.put_front-e.ensures.0.long, c.put-f.ensures.ends, c.put-f.ensures.long)

pub put_ended-requires : goal.put_ended-requires
put_ended-requires c =
    let a = c.args in
    let d = part_space a.a a.b a.p.now a.q.now (sym (alike a.p.now a.q.now) ∙ sym c.if-eq.ensures) in
    let l = ended_length a.p.now 9 c.put_ended-g.ensures in
    omega (arith, d, l, c.requires, c.put_front-e.ensures.1, c.put_front-e.ensures.0.long, c.put-f.ensures.ends, c.put-f.ensures.long)

pub returns : goal.returns
returns c =
    let a = c.args in
    rw (part_line_lem a.a a.b a.p.now a.q.now (sym (alike a.p.now a.q.now) ∙ sym c.if-eq.ensures))
    (behind (decimal a.a) (decimal a.b) c.put_front-e.ensures.0
    (then c.put-f.ensures (then c.put_ended-g.ensures c.put_ended.ensures)))
