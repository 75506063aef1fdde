-- What stands ahead where the bytes are divided into elements and are not at their end; and the layouts of records divide them.
-- Assumes nothing.
use Prim.Native.Nat.{ℕ, ◌+◌, ◌≤◌, ◌<◌}
use native.Mathlib.Omega.{arith}
use mathlib.Core.Path.{◌≡◌, refl, ◌∙◌, ap, subst}
use mathlib.Core.List.{List, [], ◌∷◌}
use lib.ListN.{length, drop, length-drop}
use lib.Seq.{drop-drop}
use Rattle.format.specs.Slots.{Fits}
use Rattle.format.specs.Records.{Record}
use Rattle.format.specs.Layout.{layout, layouts}
use Rattle.format.specs.Verdict.{stated}
use Rattle.format.proofs.Slots.{starts_split, starts_length}
use Rattle.format.proofs.Decoding.{starts_stated, starts_next}
use Rattle.walking.specs.Division.{OfLengths, Divided}

pub record Ahead (t : List ℕ) (at : ℕ) : Type 0 where
  pub long : 3 ≤ stated (drop at t)
  pub within : at + stated (drop at t) ≤ length t
  pub rest : Divided t (at + stated (drop at t))

pub ahead : {t : List ℕ} {at : ℕ} → Divided t at → at < length t → Ahead t at
ahead {t} {at} d h = go d.lengths d.by
  where
    go : (ns : List ℕ) → OfLengths t at ns → Ahead t at
    go [] e = absurd (omega arith)
    go (n ∷ ns) e =
        let s : n ≡ stated (drop at t) = e.0 in
        record {
          long = omega arith;
          within = omega arith;
          rest = record { lengths = ns; by = subst (λ (m : ℕ). OfLengths t (at + m) ns) s e.3 };
        }

-- what is laid out from a place on is divided into the records' lengths
pub divided : (t : List ℕ) (at : ℕ) (rs : List Record) → Fits (drop at t) (layouts rs) → Divided t at
divided t at [] f = record { lengths = []; by = omega (arith, length-drop at t, ap length f) }
divided t at (r ∷ rs) f =
    let c = starts_split (drop at t) (layout r) (layouts rs) [] f in
    let e : c.0 ≡ drop (at + stated (drop at t)) t = starts_next (drop at t) r c.0 c.1 ∙ drop-drop (stated (drop at t)) at t in
    let n = starts_stated (drop at t) r c.0 c.1 in
    let d = divided t (at + stated (drop at t)) rs (rw e at c.2) in
    record {
      lengths = stated (drop at t) ∷ d.lengths;
      by = (refl, omega (arith, n), omega (arith, n, starts_length (drop at t) (layout r) c.0 c.1, length-drop at t), d.by);
    }
