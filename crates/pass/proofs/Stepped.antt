-- One step of the pass: the fault of the element itself, a fault against those before, or one element more that is tracked.
-- Assumes nothing.
use Prim.Native.Nat.{ℕ, ◌+◌, ◌≤◌}
use native.Mathlib.Omega.{arith}
use mathlib.Core.Path.{◌≡◌, refl, sym, ◌∙◌, ap, subst}
use mathlib.Core.List.{List, [], ◌∷◌, ◌++◌}
use mathlib.Core.Option.{Option}
use lib.ListN.{length, length-append}
use Rattle.format.specs.Records.{Record}
use Rattle.format.specs.Layout.{place_after}
use Rattle.format.specs.Rules.{numbered, first_broken, own_rules}
use Rattle.format.specs.ZonesAndStrings.{role, gathered, zones, strings, zone_declared, string_declared, zone_named, string_named, rules_against}
use Rattle.format.specs.FanList.{fan_pins, last_pin}
use Rattle.format.specs.Claims.{made_at, claims_of, claims}
use Rattle.format.specs.Table.{element_breaks}
use Rattle.format.specs.declared.settings.Settings.{Settings}
use Rattle.format.specs.declared.records.Description.{Description}
use Rattle.format.proofs.Kept.{zero_none, some_number, own_numbered, against_numbered, own_breaks_lem, then_against}
use Rattle.format.proofs.Growing.{gathered_snoc, claims_snoc, last_snoc}
use Rattle.flags.specs.Marks.{Marks}
use Rattle.claims.specs.Taken.{HeldIs}
use Rattle.pass.specs.Tracks.{Flags, Low, Tracks, Leaves, StepIs}
use Rattle.pass.specs.declared.State.{State}
use Rattle.pass.specs.Steps.{Step}

-- a step can go on from the state as it was
pub low_kept : (s t : State) → s.count ≤ 96 → s.zones ≤ 12 → t ≡ s → Low t
low_kept s t a b e = rw e (record { most = a; few = b })

-- one element more is tracked
pub track :
    (d : Description) (before : List Record) (s : State) (f : Flags) (t : State) (g : Flags) (x : Record)
    → Tracks d s f before
    → t.count ≡ s.count + 1
    → t.zones ≡ s.zones + length (zone_declared (role x))
    → t.zones ≤ 12
    → Marks g.zones_declared (zones before ++ zone_declared (role x))
    → Marks g.strings_declared (strings before ++ string_declared (role x))
    → Marks g.zone_uses (gathered zone_named before ++ zone_named (role x))
    → Marks g.string_uses (d.string ∷ (gathered string_named before ++ string_named (role x)))
    → HeldIs t.held (claims d before ++ made_at (place_after before) (claims_of x))
    → t.last ≡ last_pin s.last (fan_pins x)
    → Tracks d t g (before ++ x ∷ [])
track d before s f t g x k c z few a b u v w l =
    record {
      count = c ∙ omega (arith, k.count, length-append before (x ∷ []));
      zoned = rw (gathered_snoc zone_declared before x, length-append (zones before) (zone_declared (role x)), z, k.zoned) refl;
      few = few;
      zone = rw (gathered_snoc zone_declared before x) a;
      string = rw (gathered_snoc string_declared before x) b;
      zone_use = rw (gathered_snoc zone_named before x) u;
      string_use = rw (gathered_snoc string_named before x) v;
      held = subst (HeldIs t.held) (sym (claims_snoc d before x)) w;
      fans = l ∙ ap (λ (n : ℕ). last_pin n (fan_pins x)) k.fans ∙ sym (last_snoc before x);
    }

module _ (σ : Settings) (x : Record) (at : ℕ) (s : State) (f : Flags) (r : Step) (g : Flags) where
  by :
      (d : Description) (before : List Record) {o : Option ℕ}
      → element_breaks σ before x ≡ o
      → Leaves d before x s f r g o
      → Leaves d before x s f r g (element_breaks σ before x)
  by d before e l = subst (Leaves d before x s f r g) (sym e) l

  pub own_fault_lem :
      {k : ℕ}
      → k ≡ numbered (first_broken (own_rules σ x))
      → (k ≡ 0 → ⊥)
      → r.stop ≡ k
      → r.state ≡ s
      → g ≡ f
      → StepIs σ x at s f r g
  own_fault_lem {k} e n p q w =
      record {
        leaves =
            λ d before place t.
            by d before (own_breaks_lem σ before x (some_number (first_broken (own_rules σ x)) (λ z. n (e ∙ z))))
            (p ∙ e, omega (arith, n, e), q, w);
      }

  module _ {j : ℕ} (e : j ≡ numbered (first_broken (own_rules σ x))) (z : j ≡ 0) where
    then : (before : List Record) → element_breaks σ before x ≡ first_broken (rules_against before x)
    then before = then_against σ before x (zero_none (own_rules σ x) (own_numbered σ x) (sym e ∙ z))

    module _ {k : ℕ} (l : (d : Description) (before : List Record) → Tracks d s f before → k
        ≡ numbered (first_broken (rules_against before x))) where
      pub later_fault : (k ≡ 0 → ⊥) → r.stop ≡ k → r.state ≡ s → g ≡ f → StepIs σ x at s f r g
      later_fault n p q w =
          record {
            leaves =
                λ d before place t.
                let m = l d before t in
                by d before (then before ∙ some_number (first_broken (rules_against before x)) (λ v. n (m ∙ v)))
                (p ∙ m, omega (arith, n, m), q, w);
          }

      pub no_fault :
          k ≡ 0
          → r.stop ≡ 0
          → ((d : Description) (before : List Record) → at ≡ place_after before → Tracks d s f before
          → Tracks d r.state g (before ++ x ∷ []))
          → StepIs σ x at s f r g
      no_fault n p h =
          record {
            leaves =
                λ d before place t.
                by d before
                (then before ∙ zero_none (rules_against before x) (against_numbered before x) (sym (l d before t) ∙ n))
                (p, h d before place t);
          }
