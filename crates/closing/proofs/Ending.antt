-- What the pass comes to after a whole element, by the outcome of the reader's step.
-- Assumes nothing.
use Prim.Native.Nat.{ℕ, ◌+◌, ◌-◌, ◌<◌, ◌≤◌}
use native.Mathlib.Omega.{arith}
use mathlib.Core.Path.{◌≡◌, refl, ◌∙◌}
use mathlib.Core.Bool.{true}
use mathlib.Core.List.{List, [], ◌∷◌, ◌++◌}
use mathlib.Core.Option.{some}
use lib.ListN.{length, drop, length-drop}
use lib.Seq.{take_all}
use Rattle.format.specs.Slots.{byte, Bytes}
use Rattle.format.specs.Records.{Record}
use Rattle.format.specs.Layout.{place_after}
use Rattle.format.specs.ZonesAndStrings.{zone_named, string_named}
use Rattle.format.specs.Verdict.{stated, framed, known}
use Rattle.format.specs.Decode.{content, decode}
use Rattle.format.specs.Reader.{Outcome, took, stop, or_stop, judge, step}
use Rattle.format.specs.declared.settings.Settings.{Settings}
use Rattle.format.specs.declared.records.Description.{Description}
use Rattle.format.proofs.Stepped.{taken, crowded_out, by_identifier}
use Rattle.format.proofs.Growing.{place_snoc}
use Rattle.pass.specs.Tracks.{Flags, Went}
use Rattle.pass.specs.declared.State.{State}
use Rattle.pass.specs.Steps.{Step}
use Rattle.pass.proofs.Walking.{took_stated}
use Rattle.firsts.specs.Firsts.{Firsts}
use Rattle.stream.specs.Running.{going}
use Rattle.stream.proofs.Running.{full_frame}
use Rattle.underway.specs.Under.{UnderIs}
use Rattle.underway.specs.declared.Under.{Under}
use Rattle.closing.specs.Ways.{Gone, WayIs, Whole, Then}
use Rattle.closing.specs.declared.Way.{Way}

-- nothing is held of no bytes
pub nothing_held : (u : Under) (head : List ℕ) → u.len ≡ 0 → u.at ≡ 0 → length head ≡ 30 → UnderIs u head []
nothing_held u head e z l =
    record {
      long = e;
      low = omega (arith, z);
      bytes = λ i. omega arith;
      held = record { size = l; same = λ i a b. absurd (omega arith) };
      text = λ a b. absurd (omega arith);
      cut = λ a b. absurd (omega arith);
    }

-- the pass after an element that was taken
pub on_after :
    (d : Description) (w : Way) (head : List ℕ) (f : Flags) (zp sp : List ℕ) (before : List Record)
    → w.stop ≡ 0
    → w.under.len ≡ 0
    → w.under.at ≡ 0
    → length head ≡ 30
    → w.at ≡ place_after before
    → Gone d w.state f zp sp before
    → WayIs d w head f zp sp (going before w.at [])
on_after d w head f zp sp before e u z l p g =
    record { goes = e; here = refl; place = p; gone = g; under = nothing_held w.under head u z l; waits = refl }

same_content : (v : List ℕ) → Whole v → content v ≡ drop 3 v
same_content v w = take_all (stated v - 3) (drop 3 v) (omega (arith, w.1, length-drop 3 v))

module _
    (σ : Settings) (d : Description) (before : List Record) (v : List ℕ) {at id : ℕ} (s : State) (f : Flags) (r : Step) (g : Flags)
    (zp sp : List ℕ) (w : Way) (head : List ℕ) (small : Bytes v) (whole : Whole v) (first : byte v 0 ≡ id) (place : at ≡ place_after before)
    (size : length head ≡ 30)
  where
    frame : framed v ≡ true
    frame = full_frame v whole.0 (omega (arith, whole.1))

    pub the_step : length before < 96 → step σ before v ≡ or_stop (known id) 7 (judge σ before (decode σ.chip id (drop 3 v)))
    the_step n = by_identifier σ before v frame n ∙ rw (first, same_content v whole) refl

    -- an element more, or a rule that stops the pass
    pub went_then :
        length before < 96
        → Went d before s f r g (or_stop (known id) 7 (judge σ before (decode σ.chip id (drop 3 v))))
        → ((x : Record) → decode σ.chip id (drop 3 v) ≡ some x → r.stop ≡ 0 → Firsts zone_named zp (before ++ x ∷ [])
        × Firsts string_named sp (before ++ x ∷ []))
        → w.under.len ≡ 0
        → w.under.at ≡ 0
        → w.stop ≡ r.stop
        → (r.stop ≡ 0 → (w.at ≡ at + length v) × (w.state ≡ r.state))
        → ((r.stop ≡ 0 → ⊥) → w.at ≡ at)
        → Then σ d before at v w head g zp sp
    went_then n k names u y e good bad =
        go (or_stop (known id) 7 (judge σ before (decode σ.chip id (drop 3 v)))) (the_step n) k
      where
        go : (o : Outcome) → step σ before v ≡ o → Went d before s f r g o → Then σ d before at v w head g zp sp
        go (took x) q k =
            let c : decode σ.chip id (drop 3 v) ≡ some x = rw (first, same_content v whole) at (taken σ before v q).decoded_8 in
            let m = names x c k.0 in
            let h = good k.0 in
            let t = took_stated σ before v x small (omega (arith, whole.0, whole.1)) q in
            let p : at + length v ≡ place_after (before ++ x ∷ []) = omega (arith, place, place_snoc before x, t, whole.1) in
            rw (q, ← h.0)
            (on_after d w head g zp sp (before ++ x ∷ []) (e ∙ k.0) u y size (h.0 ∙ p)
            (record { tracks = rw h.1 k.1; zone_first = m.0; string_first = m.1 }))
        go (stop j) q k = rw q (e ∙ k.0, k.1, bad (λ z. omega (arith, z, k.0, k.1)))

    -- the 97th
    pub crowded_then : 96 ≤ length before → w.stop ≡ 11 → w.at ≡ at → Then σ d before at v w head g zp sp
    crowded_then n e p = rw (crowded_out σ before v frame n) (e, omega arith, p)
