-- `put_element` meets its contract: the fields, one behind another.
-- Assumes nothing.
use native.Mathlib.Omega.{arith}
use mathlib.Core.Path.{sym, ◌∙◌, subst}
use mathlib.Core.Bool.{Bool}
use mathlib.Core.List.{◌∷◌}
use Rattle.spelling.specs.Spelling.{Put}
use Rattle.shown.specs.Own.{own_pins}
use Rattle.shown.specs.declared.OwnPins.{OwnPins}
use Rattle.spelling.proofs.Putting.{then}
use Rattle.listing.specs.Lines.{element_line, line, pins_text, last_field}
use borrow.Author.Rules.{rules}
use Rattle.listing.proofs.put_element.Goals as goal

pub put_own-requires : goal.put_own-requires
put_own-requires c =
    (search rules, λ u. c.shown-w.ensures.1 ∙ c.requires.1 (sym c.shown-w.ensures.2 ∙ u))

pub returns : goal.returns
unfolding element_line
returns c = (
  then
      c.put-a.ensures
      (then
      c.put_number-b.ensures.0
      (then
      (rw c.id_of.ensures at c.put_id-c.ensures.0)
      (then
      (rw c.shown-w.ensures.0 at c.put_zone-d.ensures.0)
      (subst (λ (u : Bool). Put c.put_zone-d.new.out c.put_zone-d.result (line (pins_text (own_pins c.args.e) ∷ last_field u)) c.put_own.result c.put_own.new.out)
      c.shown-w.ensures.2
      (subst (λ (p : OwnPins). Put c.put_zone-d.new.out c.put_zone-d.result (line (pins_text p ∷ last_field c.shown-w.result.used)) c.put_own.result c.put_own.new.out)
      c.shown-w.ensures.1 c.put_own.ensures.0))))),
  omega (
    arith,
    c.put-a.ensures.ends,
    c.put_number-b.ensures.1,
    c.put_id-c.ensures.1,
    c.put_zone-d.ensures.1,
    c.put_own.ensures.1,
  ),
)
