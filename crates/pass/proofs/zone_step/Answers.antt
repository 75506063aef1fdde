-- `zone_step` meets its contract: its own fault, one against those before, or one element more.
-- Assumes nothing.
use native.Mathlib.Omega.{arith}
use mathlib.Core.Path.{refl}
use Rattle.format.proofs.Refusals.{handed, rule_above}
use Rattle.pass.proofs.Stepped.{low_kept, own_fault_lem}
use Rattle.pass.proofs.Taking.{zone_long, zone_room, zone_fault, zone_good}
use Rattle.pass.proofs.zone_step.Goals as goal

pub returns-in_err-zone_breaks : goal.returns-in_err-zone_breaks
returns-in_err-zone_breaks c =
    let e = c.in_err-zone_breaks.field-0.0 in
    let p = rule_above e in
    rw (handed _ e c.from_residual.ensures.1) (
      λ σ at ss zu. own_fault_lem σ _ at _ _ _ _ (c.in_err-zone_breaks.ensures σ) (λ n. omega (arith, p, n)) refl refl refl,
      low_kept _ _ (omega arith) (omega arith) refl,
    )

pub bounds-b-0 : goal.bounds-b-0
bounds-b-0 c = omega (arith, zone_long _ c.in_ok-zone_breaks.ensures refl)

pub returns-in_err-zone_against : goal.returns-in_err-zone_against
returns-in_err-zone_against c =
    let e = c.in_err-zone_against.field-0.0 in
    let p = rule_above e in
    rw (handed _ e c.from_residual-in_err-zone_against.ensures.1) (
      λ σ at ss zu.
          zone_fault σ _ (λ i. omega (arith, c.type_inv.b i)) at _ _ ss zu _ _
          (c.in_ok-zone_breaks.ensures σ) refl c.from-z.ensures
          c.in_err-zone_against.ensures (λ n. omega (arith, p, n)) refl refl,
      low_kept _ _ (omega arith) (omega arith) refl,
    )

pub bounds-b-1 : goal.bounds-b-1
bounds-b-1 c = omega (arith, zone_long _ c.in_ok-zone_breaks.ensures refl)

pub returns : goal.returns
returns c =
    let a = c.args in
    let room = zone_room a.s.zones _ c.in_ok-zone_against.ensures refl in (
      λ σ at ss zu.
          zone_good σ _ (λ i. omega (arith, c.type_inv.b i)) at _ _ ss zu _ _
          (c.in_ok-zone_breaks.ensures σ) refl c.from-z.ensures
          c.in_ok-zone_against.ensures
          refl c.from-t.ensures refl refl refl refl refl refl refl,
      record { most = omega arith; few = omega arith },
    )
