-- `append` meets its contract: the answer is known before a byte is written.
-- Assumes nothing.
use mathlib.Core.Path.{refl, sym}
use mathlib.Core.Path.{sym, ◌∙◌}
use native.Mathlib.Omega.{arith}
use Rattle.format.proofs.Refusals.{handed}
use Rattle.writer.proofs.Answering.{good, appended, not_appended}
use Rattle.writer.proofs.append.Goals as goal

pub returns-in_err-m : goal.returns-in_err-m
returns-in_err-m c = rw (handed _ _ c.from_residual.ensures.1) (not_appended _ _ _ _ _ _ _ c.in_err-m.ensures refl)

pub length_so_far-n-requires : goal.length_so_far-n-requires
length_so_far-n-requires c =
    let g = good _ _ _ _ _ (sym c.in_ok-m.ensures) in
    omega (arith, g.long)

pub put_element-requires : goal.put_element-requires
put_element-requires c =
    let g = good _ _ _ _ _ (sym c.in_ok-m.ensures) in
    (g.keeps, omega (arith, g.top), omega (arith, c.length_so_far-n.ensures.0, g.within))

pub put_length-requires : goal.put_length-requires
put_length-requires c =
    let g = good _ _ _ _ _ (sym c.in_ok-m.ensures) in
    (omega (arith, c.buffer-1.given, g.long), omega (arith, g.is_new, g.top))

pub returns : goal.returns
returns c =
    appended _ _ _ _ _ _ _ _ (sym c.in_ok-m.ensures) c.length_so_far-n.ensures.0
    c.put_element.ensures c.put_length.ensures
