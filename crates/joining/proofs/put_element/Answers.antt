-- `put_element` meets its contract: header, fixed fields and part are laid out side by side, each where the one before ends.
-- Assumes nothing.
use native.Mathlib.Omega.{arith}
use Rattle.laying.proofs.Laws.{element_length, overwritten_element}
use Rattle.joining.proofs.put_element.Goals as goal

pub overflow_add-n : goal.overflow_add-n
overflow_add-n c =
    let a = c.args in
    omega (arith, element_length a.e a.part.now)

pub overflow_add-n-2 : goal.overflow_add-n-2
overflow_add-n-2 c =
    let a = c.args in
    omega (arith, element_length a.e a.part.now)

pub header-head-requires : goal.header-head-requires
header-head-requires c =
    let a = c.args in
    omega (arith, element_length a.e a.part.now)

pub put_fixed-requires : goal.put_fixed-requires
put_fixed-requires c =
    (c.requires.0, omega (arith, element_length c.args.e c.args.part.now))

pub overflow_add-at-3 : goal.overflow_add-at-3
overflow_add-at-3 c =
    let a = c.args in
    omega (arith, element_length a.e a.part.now)

pub copy_into-requires-2 : goal.copy_into-requires-2
copy_into-requires-2 c =
    let a = c.args in
    omega (arith, element_length a.e a.part.now)

pub returns : goal.returns
returns c =
    rw (
      c.copy_into-2.ensures,
      c.put_fixed.ensures,
      c.copy_into.ensures,
      c.header-head.ensures,
      c.id_of.ensures,
      c.fixed_length-n.ensures,
    )
    (overwritten_element c.args.at c.args.e c.args.part.now c.args.buf.now c.requires.2)
