-- `put_pair` meets its contract: of one kind the fields and the part, of two kinds one line.
-- Assumes nothing.
use native.Mathlib.Omega.{arith}
use lib.ListN.{length}
use Rattle.format.specs.Slots.{written}
use Rattle.format.specs.Layout.{part}
use Rattle.comparing.proofs.Pairing.{inside, kind_here, kind_small, of_two_kinds, fields_room, part_room, pair_put}
use Rattle.comparing.proofs.put_pair.Goals as goal

pub bounds-one-a : goal.bounds-one-a
bounds-one-a c = let p = c.requires in inside p.0 _ _ p.1 p.3

pub bounds-two-b : goal.bounds-two-b
bounds-two-b c = let p = c.requires in inside p.0 _ _ p.2 p.4

pub put_fields-e-requires : goal.put_fields-e-requires
put_fields-e-requires c =
    let a = c.args in
    let p = c.requires in
    let r = fields_room a.one.now a.two.now a.a a.b (written (part p.1)) (written (part p.2)) c.if-k-l.true
    c.from.ensures a.at (length a.out.now) p.7 in
    (r, p.5, p.6, omega (arith, c.from.ensures, kind_here p.0 a.one.now a.a p.1 p.3, kind_small p.1))

pub part_at-requires : goal.part_at-requires
part_at-requires c =
    let p = c.requires in
    (p.0, p.1, p.3)

pub part_at-requires-then-k-l : goal.part_at-requires-then-k-l
part_at-requires-then-k-l c =
    let p = c.requires in
    (p.0, p.2, p.4)

pub put_part-requires : goal.put_part-requires
put_part-requires c =
    let a = c.args in
    let p = c.requires in
    let r =
    part_room a.one.now a.two.now a.a a.b (written (part p.1)) (written (part p.2)) c.if-k-l.true
    c.from.ensures c.put_fields-e.ensures
    (c.part_at.ensures p.0 p.1 p.3) (c.part_at-then-k-l.ensures p.0 p.2 p.4) p.7 in
    (r, p.5, p.6)

pub returns-then-k-l : goal.returns-then-k-l
returns-then-k-l c =
    let a = c.args in
    λ k u v h i.
    pair_put a.one.now a.two.now a.a a.b (written (part u)) (written (part v)) c.if-k-l.true
    c.from.ensures c.put_fields-e.ensures
    (c.part_at.ensures k u h) (c.part_at-then-k-l.ensures k v i) c.put_part.ensures

pub put_kind-requires : goal.put_kind-requires
put_kind-requires c = omega (arith, c.requires.7)

pub returns : goal.returns
returns c =
    let a = c.args in
    λ k u v h i. of_two_kinds a.one.now a.two.now a.a a.b (written (part u)) (written (part v)) c.if-k-l.false
    c.put_kind.ensures
