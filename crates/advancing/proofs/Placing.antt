-- Where a pass is after so many bytes, and that the code can go on from there.
-- Assumes nothing.
use Prim.Native.Nat.{ℕ, suc, ◌+◌, ◌<◌, ◌≤◌}
use native.Mathlib.Omega.{arith}
use mathlib.Core.Path.{◌≡◌, refl, sym, subst}
use mathlib.Core.Bool.{Bool, true, false}
use mathlib.Core.List.{List, [], ◌∷◌, ◌++◌}
use lib.ListN.{length, length-append}
use Rattle.format.specs.Slots.{Bytes}
use Rattle.format.specs.Records.{Record}
use Rattle.format.specs.Reader.{Outcome, took, stop, step}
use Rattle.format.specs.declared.settings.Settings.{Settings}
use Rattle.format.specs.declared.records.Description.{Description}
use Rattle.format.proofs.Stepped.{taken, stop_small}
use Rattle.pass.specs.Tracks.{Flags}
use Rattle.stream.specs.Running.{Run, going, broken, unready, settled, run_byte, run_bytes}
use Rattle.stream.proofs.Runs.{stays_broken}
use Rattle.closing.specs.Ways.{On, WayIs}
use Rattle.closing.specs.declared.Way.{Way}
use Rattle.passing.specs.Going.{PassIs}
use Rattle.advancing.specs.Advancing.{Sound, PlacedAt, GoIs}

module _ (σ : Settings) where
  placed_byte : (n : ℕ) (s : Run) (x : ℕ) → PlacedAt n s → PlacedAt (n + 1) (run_byte σ s x)
  placed_byte n (going before at u) x k = go (unready (u ++ x ∷ [])) (step σ before (u ++ x ∷ [])) refl
    where
      m : length (u ++ x ∷ []) ≡ length u + 1
      m = length-append u (x ∷ [])

      go : (t : Bool) (o : Outcome) → step σ before (u ++ x ∷ []) ≡ o → PlacedAt (n + 1) (settled σ before at (u ++ x ∷ []) t)
      go true o q = (omega (arith, m, k.0), k.1)
      go false (took y) q = rw q (
        omega (arith, m, k.0),
        omega (arith, (taken σ before (u ++ x ∷ []) q).few_11, length-append before (y ∷ [])),
      )
      go false (stop j) q = rw q (omega (arith, stop_small σ before (u ++ x ∷ []) q))
  placed_byte n (broken k p) x h = h

  pub placed_bytes : (n : ℕ) (s : Run) (xs : List ℕ) → PlacedAt n s → PlacedAt (n + length xs) (run_bytes σ s xs)
  placed_bytes n s [] k = let e : n + 0 ≡ n = omega arith in rw e k
  placed_bytes n s (x ∷ xs) k =
      let e : n + suc (length xs) ≡ n + 1 + length xs = omega arith in
      rw e (placed_bytes (n + 1) (run_byte σ s x) xs (placed_byte n s x k))

-- a pass under way is sound
on_sound :
    (d : Description) (w : Way) (head : List ℕ) (f : Flags) (zp sp : List ℕ) (before : List Record) (at : ℕ) (u : List ℕ) (n m : ℕ)
    → On d w head f zp sp before at u
    → (at + length u ≡ n) × (length before ≤ 96)
    → n + m ≤ 4097
    → Sound w m
on_sound d w head f zp sp before at u n m o p l =
    record {
      ends = omega (arith, o.here, o.under.long, p.0);
      cut = o.under.low;
      low = record { most = omega (arith, o.gone.tracks.count, p.1); few = o.gone.tracks.few };
    }

module _ (σ : Settings) (w : Way) (q head : List ℕ) (f : Flags) (zp sp : List ℕ) where
  pub goes_on :
      (r : Way) (head' : List ℕ) (f' : Flags) (zp' sp' : List ℕ)
      → PassIs σ w q head f zp sp r head' f' zp' sp'
      → GoIs σ w q head f zp sp r head' f' zp' sp'
  goes_on r head' f' zp' sp' x = record { more = go }
    where
      go :
          (d : Description) (n : ℕ) (s : Run)
          → w.stop ≡ 0
          → WayIs d w head f zp sp s
          → PlacedAt n s
          → Bytes q
          → 0 < length q
          → n + length q ≤ 4097
          → WayIs d r head' f' zp' sp' (run_bytes σ s q)
      go d n (going before at u) z k p small m l = x.goes d before at u m small k
      go d n (broken j i) z k p small m l = absurd (omega (arith, z, k.0, k.1))

  -- what is not sound is no pass
  pub stands_still : (Sound w (length q) → ⊥) → GoIs σ w q head f zp sp w head f zp sp
  stands_still n = record { more = go }
    where
      go :
          (d : Description) (m : ℕ) (s : Run)
          → w.stop ≡ 0
          → WayIs d w head f zp sp s
          → PlacedAt m s
          → Bytes q
          → 0 < length q
          → m + length q ≤ 4097
          → WayIs d w head f zp sp (run_bytes σ s q)
      go d m (going before at u) z k p small h l = absurd (n (on_sound d w head f zp sp before at u m (length q) k p l))
      go d m (broken j i) z k p small h l = absurd (omega (arith, z, k.0, k.1))

  -- a pass that is stopped stays so
  pub stays : (d : Description) (s : Run) → (w.stop ≡ 0 → ⊥) → WayIs d w head f zp sp s → WayIs d w head f zp sp (run_bytes σ s q)
  stays d (going before at u) n k = absurd (n k.goes)
  stays d (broken j i) n k = subst (WayIs d w head f zp sp) (sym (stays_broken σ [] 0 j i q)) k
