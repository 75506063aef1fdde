-- `still_named` meets its contract: the number at byte 3 is sought among those that are named.
-- Assumes nothing.
use native.Mathlib.Omega.{arith}
use Rattle.walking.proofs.Left.{reads}
use Rattle.removing.proofs.Telling.{number_long, zone_named_lem, string_named_lem, none_named}
use Rattle.removing.proofs.still_named.Goals as goal

pub bounds-t-at : goal.bounds-t-at
bounds-t-at c =
    omega (arith, number_long c.args.t.now c.args.at c.requires.3 c.requires.5)

pub overflow_add-at : goal.overflow_add-at
overflow_add-at c =
    omega (arith, number_long c.args.t.now c.args.at c.requires.3 c.requires.5)

pub bounds-t-at-then-id-eq11 : goal.bounds-t-at-then-id-eq11
bounds-t-at-then-id-eq11 c =
    omega (arith, number_long c.args.t.now c.args.at c.requires.3 c.requires.5)

pub returns-then-id-eq11 : goal.returns-then-id-eq11
returns-then-id-eq11 c =
    λ σ d rs x a h.
    zone_named_lem c.args.t.now c.args.at σ d rs a x h c.if-id-eq11.true (c.any_names.ensures σ d rs a)

pub overflow_add-number : goal.overflow_add-number
overflow_add-number c =
    omega (arith, number_long c.args.t.now c.args.at c.requires.3 c.requires.5)

pub bounds-t-at-then-id-eq12 : goal.bounds-t-at-then-id-eq12
bounds-t-at-then-id-eq12 c =
    omega (arith, number_long c.args.t.now c.args.at c.requires.3 c.requires.5)

pub bounds-t-4 : goal.bounds-t-4
bounds-t-4 c =
    let p = c.requires in
    omega (arith, (reads p.0 _ p.1 p.2 p.4).0)

pub returns-then-id-eq12 : goal.returns-then-id-eq12
returns-then-id-eq12 c =
    λ σ d rs x a h.
    string_named_lem c.args.t.now c.args.at σ d rs a x h c.if-id-eq12.true (c.any_names-then-id-eq12.ensures σ d rs a)

pub returns : goal.returns
returns c =
    λ σ d rs x a h. none_named c.args.t.now c.args.at σ d rs a x h c.if-id-eq11.false c.if-id-eq12.false
