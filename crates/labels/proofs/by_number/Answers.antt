-- `by_number` meets its contract: what is left to search ends where the whole ends.
-- Assumes nothing.
use mathlib.Core.Path.{refl, sym, ◌∙◌, ap}
use Rattle.format.specs.ZonesAndStrings.{role}
use Rattle.walking.proofs.Left.{accepted_divided, next}
use Rattle.walking.proofs.Stepping.{came, over}
use Rattle.labels.specs.Called.{stands_at}
use Rattle.labels.proofs.Standing.{roled_next}
use Rattle.labels.proofs.Telling.{bears_twelve}
use Rattle.labels.proofs.Seeking.{begun, found_here, turned, not_there}
use Rattle.labels.proofs.by_number.Goals as goal

pub of-at-items-requires : goal.of-at-items-requires
of-at-items-requires c = let p = c.requires in accepted_divided p.0 _ p.1 p.2 p.3

pub loop-at-init : goal.loop-at-init
loop-at-init c =
    let p = c.requires in
    let o = c.of-at-items.ensures in
    rw (c.into_iter-at-iterator.ensures.into_iter_gives, o.0, o.1)
    (accepted_divided p.0 _ p.1 p.2 p.3, tt, refl, λ σ d rs a. begun σ _ _ d rs a)

pub is_string-requires : goal.is_string-requires
is_string-requires c =
    let p = c.requires in
    let v = c.loop-at.invariant in
    let s = came c.loop-at.at-iterator c.next.new.self v.2 c.in-Some.ensures.steps in
    let w = rw s.here at (v.3 p.0 p.1 p.2 p.3) in
    let g = next _ _ _ _ w s.before_end in
    (role g.r, roled_next _ _ _ _ w g)

pub text_at-requires : goal.text_at-requires
text_at-requires c =
    let p = c.requires in
    let v = c.loop-at.invariant in
    let s = came c.loop-at.at-iterator c.next.new.self v.2 c.in-Some.ensures.steps in
    let w = rw s.here at (v.3 p.0 p.1 p.2 p.3) in
    let g = next _ _ _ _ w s.before_end in
    let h = roled_next _ _ _ _ w g in
    (role g.r, h, bears_twelve _ _ (role g.r) _ h (sym (c.is_string.ensures (role g.r) h) ∙ c.if-is_string.true))

pub returns-then-is_string : goal.returns-then-is_string
returns-then-is_string c =
    λ σ d rs a.
    let v = c.loop-at.invariant in
    let s = came c.loop-at.at-iterator c.next.new.self v.2 c.in-Some.ensures.steps in
    let w = rw s.here at (v.3 σ d rs a) in
    let g = next _ _ _ _ w s.before_end in
    let h = roled_next _ _ _ _ w g in
    let e = sym (c.is_string.ensures (role g.r) h) ∙ c.if-is_string.true in
    c.text_at.ensures (role g.r) h (bears_twelve _ _ (role g.r) _ h e) ∙ ap stands_at (found_here _ _ _ _ rs w g e)

pub loop-at-preserved : goal.loop-at-preserved
loop-at-preserved c =
    let v = c.loop-at.invariant in
    let s = came c.loop-at.at-iterator c.next.new.self v.2 c.in-Some.ensures.steps in (
      c.in-Some.ensures.goes.keeps,
      tt,
      s.table,
      λ σ d rs a.
          let w = rw s.here at (v.3 σ d rs a) in
          rw s.next
          (turned _ _ _ _ rs w s.before_end refl
          (λ g. sym (c.is_string.ensures (role g.r) (roled_next _ _ _ _ w g)) ∙ c.if-is_string.false)),
    )

pub returns : goal.returns
returns c =
    λ σ d rs a.
    let v = c.loop-at.invariant in
    ap stands_at (not_there _ _ _ _ rs (v.3 σ d rs a) (over c.loop-at.at-iterator c.next.new.self v.2 c.in-None.ensures.steps))
