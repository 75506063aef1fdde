-- `laying::kinds::colour_byte` meets its contract: a colour and a purpose with room are below 16.
-- Assumes nothing.
use native.Mathlib.Omega.{arith}
use borrow.Author.Tests.{ltb-true}
use lib.Dec.{ltb}
use Rattle.format.proofs.Kept.{and-true}
use Rattle.laying.proofs.kinds.colour_byte.Goals as goal

pub overflow_mul-result : goal.overflow_mul-result
overflow_mul-result c =
    let l = c.args.l in
    let p = and-true (ltb l.colour 16) (ltb l.purpose 16) c.requires in
    record { fits = omega (arith, ltb-true l.colour 16 p.0) }

pub overflow_add-result : goal.overflow_add-result
overflow_add-result c =
    let l = c.args.l in
    let p = and-true (ltb l.colour 16) (ltb l.purpose 16) c.requires in
    record { fits = omega (arith, ltb-true l.colour 16 p.0, ltb-true l.purpose 16 p.1) }
