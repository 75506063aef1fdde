-- The tests are those of a fan, which are a pump's.
-- Assumes nothing.
use mathlib.Core.Path.{refl}
use Rattle.format.specs.Records.{fan, pump}
use Rattle.rules.proofs.fan_breaks.Goals as goal

pub returns : goal.returns
returns c =
    let a = c.args in
    let own = c.own_breaks.ensures a.s in
    let codes = c.unused.ensures in
    let up = c.rises.ensures in
    let second = c.allowed_or_unused.ensures in
    let first = c.allowed.ensures in (
      own (fan a.f) refl (rw codes refl) refl (rw (up, second, first) refl),
      own (pump a.f) refl (rw codes refl) refl (rw (up, second, first) refl),
    )
