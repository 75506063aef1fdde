-- `put_fields` meets its contract: the rows that kinds share, and the kind's own.
-- Assumes nothing.
use lib.ListN.{length}
use mathlib.Core.Path.{◌∙◌}
use Rattle.comparing.specs.Rows.{placeds, firsts, counts}
use Rattle.comparing.proofs.Pairing.{first_room, second_room, fields_put}
use Rattle.comparing.proofs.lines.put_fields.Goals as goal

pub put_rows-e-requires : goal.put_rows-e-requires
unfolding placeds firsts counts
put_rows-e-requires c =
    let a = c.args in
    let r = first_room a.one.now a.two.now a.a a.b a.id (c.from-placed.ensures ∙ c.of_kind-kind.ensures.2) a.at (length a.out.now)
    c.requires.0 c.requires.3 in
    (r.0, c.requires.1, c.requires.2, r.1)

pub put_rows-requires : goal.put_rows-requires
unfolding placeds firsts counts
put_rows-requires c =
    let a = c.args in
    let r = second_room a.one.now a.two.now a.a a.b a.id (c.from-placed.ensures ∙ c.of_kind-kind.ensures.2) (c.from-first.ensures ∙ c.of_kind-kind.ensures.0)
    (c.from-count.ensures ∙ c.of_kind-kind.ensures.1) c.requires.0 c.requires.3 c.put_rows-e.ensures in
    (r.0, c.requires.1, c.requires.2, r.1)

pub returns : goal.returns
unfolding placeds firsts counts
returns c =
    let a = c.args in
    fields_put a.one.now a.two.now a.a a.b a.id (c.from-placed.ensures ∙ c.of_kind-kind.ensures.2) (c.from-first.ensures ∙ c.of_kind-kind.ensures.0)
    (c.from-count.ensures ∙ c.of_kind-kind.ensures.1) c.put_rows-e.ensures c.put_rows.ensures
