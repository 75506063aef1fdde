-- `run_from` meets its contract: the run so far is the bytes of those that it has passed.
-- Assumes nothing.
use Prim.Native.Nat.{ℕ}
use native.Mathlib.Omega.{arith}
use mathlib.Core.Path.{◌≡◌, sym, ◌∙◌, ap}
use lib.ListN.{length, drop}
use Rattle.format.specs.Verdict.{stated}
use Rattle.mending.proofs.Laying.{size_there, inside}
use Rattle.mending.proofs.Listing.{place_is, keeps_at}
use Rattle.mending.proofs.Copying.{run_begun, run_on}
use Rattle.mending.proofs.run_from.Goals as goal

pub length_at-requires : goal.length_at-requires
length_at-requires c =
    let p = c.requires in
    omega (arith, place_is _ _ p.1 _ c.from-from.ensures, inside _ _ _ _ (keeps_at _ _ _ _ p.0.keeps _ p.1))

pub overflow_add-to : goal.overflow_add-to
overflow_add-to c =
    let p = c.requires in
    let k = keeps_at _ _ _ _ p.0.keeps _ p.1 in
    let e = place_is _ _ p.1 _ c.from-from.ensures in
    omega (arith, e, rw e at c.length_at.ensures, size_there _ _ _ _ k, inside _ _ _ _ k, p.0.top)

pub loop-j-init : goal.loop-j-init
loop-j-init c =
    let p = c.requires in
    let e = place_is _ _ p.1 _ c.from-from.ensures in
    let k = keeps_at _ _ _ _ p.0.keeps _ p.1 in (
      omega (arith, e),
      omega (arith, e, rw e at c.length_at.ensures, size_there _ _ _ _ k, inside _ _ _ _ k),
      rw e (run_begun c.args.t.now c.args.kept.now c.args.i c.length_at.result p.1 (rw e at c.length_at.ensures)),
    )

pub returns-then-from-to : goal.returns-then-from-to
returns-then-from-to c =
    let i = c.loop-j.invariant in
    record { on = omega arith; most = omega arith; low = i.0; inside = i.1; bytes = i.2 }

pub length_at-to-requires : goal.length_at-to-requires
length_at-to-requires c =
    omega (arith, place_is _ _ c.loop-j-test.true _ c.from.ensures, c.if-from-to.false, inside _ _ _ _ (keeps_at _ _ _ _ c.requires.0.keeps _ c.loop-j-test.true))

pub overflow_add-to-in-loop-j : goal.overflow_add-to-in-loop-j
overflow_add-to-in-loop-j c =
    let p = c.requires in
    let k = keeps_at _ _ _ _ p.0.keeps _ c.loop-j-test.true in
    let q = sym (place_is _ _ c.loop-j-test.true _ c.from.ensures) ∙ c.if-from-to.false in
    let e = ap (λ (m : ℕ). stated (drop m c.args.t.now)) q in
    omega (arith, c.length_at-to.ensures, e, q, c.if-from-to.false, size_there _ _ _ _ k, inside _ _ _ _ k, p.0.top)

pub loop-j-preserved : goal.loop-j-preserved
loop-j-preserved c =
    let p = c.requires in
    let i = c.loop-j.invariant in
    let k = keeps_at _ _ _ _ p.0.keeps _ c.loop-j-test.true in
    let q = sym (place_is _ _ c.loop-j-test.true _ c.from.ensures) ∙ c.if-from-to.false in
    let e = ap (λ (m : ℕ). stated (drop m c.args.t.now)) q in (
      omega (arith, i.0),
      omega (arith, c.length_at-to.ensures, e, q, size_there _ _ _ _ k, inside _ _ _ _ k),
      run_on c.args.t.now c.args.kept.now c.args.i c.length_at-to.result c.loop-j.j c.loop-j.to c.loop-j-test.true i.0
          q c.length_at-to.ensures i.2,
    )

pub returns : goal.returns
returns c =
    let i = c.loop-j.invariant in
    let all : c.loop-j.j ≡ length c.args.kept.now = omega arith in
    record { on = omega arith; most = omega arith; low = i.0; inside = i.1; bytes = rw (← all) i.2 }
