-- `put_next` meets its contract: by what stands at each place.
-- Assumes nothing.
use native.Mathlib.Omega.{arith}
use lib.ListN.{length}
use Rattle.comparing.proofs.Pairing.{pair_there, both_there, first_there, second_there, none_there}
use Rattle.comparing.proofs.put_next.Goals as goal

pub put_pair-requires : goal.put_pair-requires
put_pair-requires c =
    let a = c.args in
    let p = c.requires in
    pair_there a.one.now a.two.now a.a a.b p.0 p.1 p.2 a.at (length a.out.now) p.3 p.4
    c.if-a-one.true c.if-b-two.true p.5 p.6 p.7

pub returns-then-b-two : goal.returns-then-b-two
returns-then-b-two c =
    let a = c.args in
    λ k x y h i. both_there a.one.now a.two.now a.a a.b k x y h i c.if-a-one.true c.if-b-two.true
    c.put_pair.ensures

pub put_kind-requires : goal.put_kind-requires
put_kind-requires c = omega (arith, c.requires.7)

pub returns-then-a-one : goal.returns-then-a-one
returns-then-a-one c =
    let a = c.args in
    λ k x y h i. first_there a.one.now a.two.now a.a a.b k x y h i c.if-a-one.true c.if-b-two.false
    c.put_kind.ensures

pub put_kind-requires-then-b-two-2 : goal.put_kind-requires-then-b-two-2
put_kind-requires-then-b-two-2 c = omega (arith, c.requires.7)

pub returns-then-b-two-2 : goal.returns-then-b-two-2
returns-then-b-two-2 c =
    let a = c.args in
    λ k x y h i. second_there a.one.now a.two.now a.a a.b k x y h i c.if-a-one.false c.if-b-two-2.true
    c.put_kind-then-b-two-2.ensures

pub returns : goal.returns
returns c =
    let a = c.args in
    λ k x y h i. none_there a.one.now a.two.now a.a a.b k x y h i c.if-a-one.false c.if-b-two-2.false
