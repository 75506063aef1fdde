-- `called` meets its contract: a string by its own text, any other by its string index.
-- Assumes nothing.
use native.Mathlib.Omega.{arith}
use mathlib.Core.Path.{◌∙◌, ap}
use Rattle.places.proofs.Roles.{role_long}
use Rattle.labels.specs.Called.{stands_at}
use Rattle.labels.proofs.Telling.{called_string, called_lent, called_number}
use Rattle.labels.proofs.called.Goals as goal

pub bounds-t-at : goal.bounds-t-at
bounds-t-at c =
    omega (arith, role_long c.args.t.now c.args.at c.requires.3 c.requires.5.kind)

pub text_at-requires : goal.text_at-requires
text_at-requires c = let p = c.requires in (p.3, p.5, c.if-t-at-eq12.true)

pub returns-then-t-at-eq12 : goal.returns-then-t-at-eq12
returns-then-t-at-eq12 c =
    λ σ d rs x a h.
    c.text_at.ensures x h c.if-t-at-eq12.true ∙ ap stands_at (called_string _ _ rs x h c.if-t-at-eq12.true)

pub index_at-index-requires : goal.index_at-index-requires
index_at-index-requires c = let p = c.requires in (p.3, p.5, c.if-t-at-eq12.false)

pub returns-then-index-eq0 : goal.returns-then-index-eq0
returns-then-index-eq0 c =
    let n = c.if-t-at-eq12.false in
    λ σ d rs x a h. ap stands_at (called_lent _ _ rs x h n (c.index_at-index.ensures x h n) c.if-index-eq0.true)

pub by_number-requires : goal.by_number-requires
by_number-requires c = let p = c.requires in (p.0, p.1, p.2, p.4)

pub returns : goal.returns
returns c =
    let n = c.if-t-at-eq12.false in
    λ σ d rs x a h.
    c.by_number.ensures σ d rs a ∙ ap stands_at (called_number _ _ rs x h n (c.index_at-index.ensures x h n)
    c.if-index-eq0.false)
