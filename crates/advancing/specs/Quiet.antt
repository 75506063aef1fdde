-- Bytes of the element under way that decide nothing: they are counted, and kept where they are among its first 30.
-- Assumes nothing.
use Rattle.std.specs.Prelude.{ℕ, ◌/◌, ◌<◌, ◌≤◌, ◌≡◌, true, List, [], ◌∷◌, ◌++◌, length, eqb}
use Rattle.format.specs.Slots.{byte}
use Rattle.stream.specs.Running.{Run, going, broken, unready}
use Rattle.underway.specs.Under.{TextIs, CutIs, most_of, lead_of}
use Rattle.underway.specs.declared.Under.{Under}

-- no upper byte of a surrogate
abbrev pub Plain : ℕ → Type 0
Plain x = x / 8 ≡ 27 → ⊥

pub data Plains : List ℕ → Type 0 where
  none_there : Plains []
  one_more : {x : ℕ} {xs : List ℕ} → Plain x → Plains xs → Plains (x ∷ xs)

-- with up to k such bytes more the element waits still, and where its blocks or its text have come to stays as it is
pub record Quiet (u : Under) (v : List ℕ) (k : ℕ) : Type 0 where
  pub begun : 0 < length v
  pub waits : (q : List ℕ) → length q ≤ k → unready (v ++ q) ≡ true
  pub text : byte v 0 ≡ 12 → (q : List ℕ) → Plains q → length q ≤ k → 6 ≤ length (v ++ q) → TextIs u.mark (v ++ q)
  pub cut :
      (most_of (byte v 0) ≡ 0 → ⊥)
      → (q : List ℕ)
      → length q ≤ k
      → 12 < length (v ++ q)
      → CutIs (lead_of (byte v 0)) (most_of (byte v 0)) u.at u.blocks (eqb u.mark 0) (v ++ q)

-- .. where a pass is
abbrev pub QuietRun : ℕ → Under → Run → Type 0
QuietRun k u (going before at v) = Quiet u v k
QuietRun k u (broken j p) = ⊥
