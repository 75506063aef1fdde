-- `whole` meets its contract: what the walk took is named, and the pass goes on after it or is stopped.
-- Assumes nothing.
use native.Mathlib.Omega.{arith}
use mathlib.Core.Path.{refl, sym, ◌∙◌}
use Rattle.closing.proofs.Pieces.{other_stop, these_stops, whole_goes, whole_breaks}
use Rattle.closing.proofs.whole.Goals as goal

pub returns-then-stop-clause-elements : goal.returns-then-stop-clause-elements
returns-then-stop-clause-elements c =
    let w = c.walk-r in
    let b = c.broken.ensures in
    let n = other_stop c.stop_of-stop.result c.if-stop.true in
    record {
      plain = record { low = rw b.4 w.ensures.walks.low; none_held = b.2; none_cut = b.3; within = omega (arith, b.1, w.ensures.walks.to) };
      within = omega arith;
      here = λ z. absurd (n.0 (sym b.0 ∙ z));
      goes = λ z. absurd (n.0 (sym b.0 ∙ z));
      breaks = λ _ d before small e k. rw (b.0, b.1, c.stop_of-stop.ensures) (whole_breaks _ _ _ _ _ _ _ _ _ w.ensures.walks d before small e k
          (rw c.stop_of-stop.ensures at n.0) (rw c.stop_of-stop.ensures at n.1));
    }

pub overflow_sub-taken : goal.overflow_sub-taken
overflow_sub-taken c = c.walk-r.ensures.walks.from

pub name_all-requires : goal.name_all-requires
name_all-requires c =
    omega (arith, c.walk-r.ensures.walks.from, c.walk-r.ensures.walks.to, c.requires.0)

pub returns-clause-elements : goal.returns-clause-elements
returns-clause-elements c =
    let w = c.walk-r in
    let b = c.broken-2.ensures in
    let n = these_stops c.stop_of-stop.result c.if-stop.false in
    record {
      plain = record { low = rw b.4 w.ensures.walks.low; none_held = b.2; none_cut = b.3; within = omega (arith, b.1, w.ensures.walks.to) };
      within = omega (arith, w.ensures.walks.from, w.ensures.walks.to);
      here = λ _. omega (arith, b.1, w.ensures.walks.from);
      goes = λ _ d before small e k. whole_goes _ _ _ _ _ _ _ _ _ w.ensures.walks d before small e k _ _ _ (rw c.stop_of-stop.ensures at n) refl b.1 b.4
          c.name_all.ensures.names;
      breaks = λ z. absurd (z b.0);
    }
