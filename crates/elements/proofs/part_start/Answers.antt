-- `part_start` meets its contract: the arm that was taken is the identifier's.
-- Assumes nothing.
use borrow.Author.Tests.{ne_eqb}
use Rattle.elements.proofs.part_start.Goals as goal

pub returns-in-9 : goal.returns-in-9
returns-in-9 c = rw c.in-9.is

pub returns-in-10 : goal.returns-in-10
returns-in-10 c = rw c.in-10.is

pub returns-in-11 : goal.returns-in-11
returns-in-11 c = rw c.in-11.is

pub returns-in-12 : goal.returns-in-12
returns-in-12 c = rw c.in-12.is

pub returns-in-13 : goal.returns-in-13
returns-in-13 c = rw c.in-13.is

pub returns-in_default : goal.returns-in_default
returns-in_default c =
    let m = c.in_default.in_default-own.rest in
    simp (ne_eqb _ 9 m.0.0.0.0.1, ne_eqb _ 10 m.0.0.0.1, ne_eqb _ 11 m.0.0.1, ne_eqb _ 12 m.0.1, ne_eqb _ 13 m.1)
