-- `put_row` meets its contract: by its two cases.
-- Assumes nothing.
use Rattle.comparing.proofs.Lined.{row_same, row_differs}
use Rattle.comparing.proofs.lines.put_row.Goals as goal

pub returns-then-v-w : goal.returns-then-v-w
returns-then-v-w c =
    let a = c.args in
    row_same a.one.now a.two.now a.a a.b a.i c.content-v.ensures.0 c.content-w.ensures.0 _ _ c.if-v-w.true

pub returns : goal.returns
returns c =
    let a = c.args in
    row_differs a.one.now a.two.now a.a a.b a.i c.content-v.ensures.0 c.content-w.ensures.0 c.if-v-w.false
    c.put_field.ensures
