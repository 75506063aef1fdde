-- `coded` meets its contract: by the way that the calibration goes.
-- Assumes nothing.
use mathlib.Core.Path.{sym, ◌∙◌}
use mathlib.Core.Bool.{true, false}
use Rattle.converting.proofs.Walking.{course_only}
use Rattle.converting.proofs.Meant.{meant_bent}
use Rattle.converting.proofs.coded.Goals as goal

pub course-requires : goal.course-requires
course-requires c = sym c.strict.ensures ∙ c.if-strict.true

pub returns-then-strict : goal.returns-then-strict
returns-then-strict c =
    course_only _ _ true c.requires (sym c.strict.ensures ∙ c.if-strict.true) c.course.ensures

pub course-requires-then-strict-2 : goal.course-requires-then-strict-2
course-requires-then-strict-2 c = sym c.strict-2.ensures ∙ c.if-strict-2.true

pub returns-then-strict-2 : goal.returns-then-strict-2
returns-then-strict-2 c =
    course_only _ _ false c.requires (sym c.strict-2.ensures ∙ c.if-strict-2.true) c.course-then-strict-2.ensures

pub returns : goal.returns
returns c =
    meant_bent _ _ c.requires (sym c.strict.ensures ∙ c.if-strict.false)
    (sym c.strict-2.ensures ∙ c.if-strict-2.false)
