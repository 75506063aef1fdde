-- The interval of a count: from the points that it comes after on, what is left to walk ends where the whole ends.
-- Assumes nothing.
use Prim.Native.Nat.{ℕ, zero, suc, ◌+◌, ◌*◌, ◌<◌, ◌≤◌}
use native.Mathlib.Omega.{arith}
use native.Mathlib.Numerals.{add-one}
use mathlib.Core.Path.{◌≡◌, refl, sym, ◌∙◌, ap}
use mathlib.Core.Bool.{Bool, true, false, cond, false≢true}
use mathlib.Core.List.{List, [], ◌∷◌}
use lib.ListN.{length, get_or, drop, drop_of_length-le}
use lib.Seq.{drop-cons}
use borrow.Author.Tests.{ltb-true, ltb-false, lt-ltb}
use Rattle.std.specs.Prelude.{Ok}
use Rattle.converting.specs.Outcomes.{tenths}
use Rattle.converting.specs.Conversions.{apart, after, strict}
use Rattle.converting.specs.Formula.{step, walk}
use Rattle.converting.specs.declared.Converted.TheVariants.{Over}
use Rattle.converting.proofs.Walking.{chain, not_both, apart_pos}

-- a count between two points is no farther from the first than the second is
pub nearer : (up : Bool) (a b c : ℕ) → after up c a ≡ false → after up b c ≡ false → apart a c ≤ apart a b
nearer true a b c h k = omega (arith, ltb-false)
nearer false a b c h k = omega (arith, ltb-false)

-- each point of a strict calibration comes after the one before
strict_at : (up : Bool) (ps : List ℕ) (i : ℕ) → strict up ps ≡ true → suc i < length ps → after up (get_or ps i 0) (get_or ps (suc i) 0) ≡ true
strict_at up [] i h l = absurd (omega arith)
strict_at up (a ∷ []) i h l = absurd (omega arith)
strict_at up (a ∷ b ∷ ps) zero h l = (chain up a b ps h).0
strict_at up (a ∷ b ∷ ps) (suc i) h l = strict_at up (b ∷ ps) i (chain up a b ps h).1 (omega arith)

-- from point i on
pub record Left (up : Bool) (c : ℕ) (ps : List ℕ) (i : ℕ) : Type 0 where
  pub within : i ≤ 4
  pub rest : walk up (250 * i) (drop i ps) c ≡ walk up 0 ps c
  pub reached : after up c (get_or ps i 0) ≡ false

module _ (up : Bool) (c : ℕ) (ps : List ℕ) (five : length ps ≡ 5) where
  begun : after up c (get_or ps 0 0) ≡ false → Left up c ps 0
  begun h = record { within = omega arith; rest = refl; reached = h }

  two : (i : ℕ) → i < 4 → drop i ps ≡ get_or ps i 0 ∷ get_or ps (i + 1) 0 ∷ drop (suc (suc i)) ps
  two i l = drop-cons ps i 0 (omega arith) ∙ rw add-one (ap (λ (l : List ℕ). get_or ps i 0 ∷ l) (drop-cons ps (suc i) 0 (omega arith)))

  turned : (i : ℕ) → Left up c ps i → i < 4 → after up (get_or ps (i + 1) 0) c ≡ true → Left up c ps (i + 1)
  turned i x l h =
      let e : walk up (250 * i) (drop i ps) c ≡ walk up (250 * i + 250) (get_or ps (i + 1) 0 ∷ drop (suc (suc i)) ps) c = rw (two i l, h) in
      let f : drop (i + 1) ps ≡ get_or ps (i + 1) 0 ∷ drop (suc (suc i)) ps = rw add-one (drop-cons ps (suc i) 0 (omega arith)) in
      let n : 250 * (i + 1) ≡ 250 * i + 250 = omega arith in
      record { within = omega arith; rest = rw (f, n) (sym e ∙ x.rest); reached = not_both up _ c h }

  pub ready :
      (i : ℕ)
      → Left up c ps i
      → i < 4
      → strict up ps ≡ true
      → after up (get_or ps (i + 1) 0) c ≡ false
      → (250 * i ≤ 750) × (0 < apart (get_or ps i 0) (get_or ps (i + 1) 0)) × (apart (get_or ps i 0) c ≤ apart (get_or ps i 0) (get_or ps (i + 1) 0))
  ready i x l str h =
      let on : after up (get_or ps i 0) (get_or ps (i + 1) 0) ≡ true = rw add-one (strict_at up ps i str (omega arith)) in
      (omega arith, apart_pos up _ _ on, nearer up _ _ c x.reached h)

  pub met :
      (i : ℕ)
      → Left up c ps i
      → i < 4
      → after up (get_or ps (i + 1) 0) c ≡ false
      → tenths (step (250 * i) (get_or ps i 0) (get_or ps (i + 1) 0) c) ≡ walk up 0 ps c
  met i x l h = rw (two i l, h) at x.rest

  ended : (i : ℕ) → Left up c ps i → 4 ≤ i → Ok Over ≡ walk up 0 ps c
  ended i x l =
      let e : drop i ps ≡ get_or ps i 0 ∷ [] = drop-cons ps i 0 (omega arith)
      ∙ ap (λ (l : List ℕ). get_or ps i 0 ∷ l) (drop_of_length-le ps {i = suc i} (omega arith)) in
      rw e at x.rest

  -- a count behind a point is behind those before it
  module _ (str : strict up ps ≡ true) where
    earlier : (i : ℕ) → i < 4 → after up (get_or ps (suc i) 0) c ≡ true → after up (get_or ps i 0) c ≡ true
    earlier i l h = still up _ _ c (strict_at up ps i str (omega arith)) h
      where
        still : (up : Bool) (a b c : ℕ) → after up a b ≡ true → after up b c ≡ true → after up a c ≡ true
        still true a b c h k = lt-ltb a c (omega (arith, ltb-true))
        still false a b c h k = lt-ltb c a (omega (arith, ltb-true))

    three_on : after up c (get_or ps 0 0) ≡ false → after up (get_or ps 3 0) c ≡ true → Left up c ps 3
    three_on h e =
        let d = earlier 2 (omega arith) e in
        turned 2 (turned 1 (turned 0 (begun h) (omega arith) (earlier 1 (omega arith) d)) (omega arith) d) (omega arith) e

    -- behind the last
    pub over_last : after up c (get_or ps 0 0) ≡ false → after up (get_or ps 4 0) c ≡ true → Ok Over ≡ walk up 0 ps c
    over_last h e = ended 4 (turned 3 (three_on h (earlier 3 (omega arith) e)) (omega arith) e) (omega arith)

    -- THE INTERVAL: as many points as the count comes after
    pub record Found (i : ℕ) : Type 0 where
      pub left : Left up c ps i
      pub few : i < 4
      pub next : after up (get_or ps (i + 1) 0) c ≡ false

    pub found :
        {i x y z : ℕ}
        → after up c (get_or ps 0 0) ≡ false
        → after up (get_or ps 4 0) c ≡ false
        → x ≡ cond (after up (get_or ps 1 0) c) 1 0
        → y ≡ cond (after up (get_or ps 2 0) c) 1 0
        → z ≡ cond (after up (get_or ps 3 0) c) 1 0
        → i ≡ x + y + z
        → Found i
    found {i} {x} {y} {z} h k ex ey ez ei =
        go (after up (get_or ps 1 0) c) (after up (get_or ps 2 0) c) (after up (get_or ps 3 0) c) refl refl refl ex ey ez
      where
        at : {j : ℕ} → Found j → i ≡ j → Found i
        at f e = rw e f

        go :
            (t u v : Bool)
            → after up (get_or ps 1 0) c ≡ t
            → after up (get_or ps 2 0) c ≡ u
            → after up (get_or ps 3 0) c ≡ v
            → x ≡ cond t 1 0
            → y ≡ cond u 1 0
            → z ≡ cond v 1 0
            → Found i
        go false false false a b d p q r = at (record { left = begun h; few = omega arith; next = a }) (omega arith)
        go true false false a b d p q r =
            at (record { left = turned 0 (begun h) (omega arith) a; few = omega arith; next = b }) (omega arith)
        go true true false a b d p q r =
            at (record { left = turned 1 (turned 0 (begun h) (omega arith) a) (omega arith) b; few = omega arith; next = d }) (omega arith)
        go true true true a b d p q r = at (record { left = three_on h d; few = omega arith; next = k }) (omega arith)
        go false true v a b d p q r = absurd (false≢true (sym a ∙ earlier 1 (omega arith) b))
        go t false true a b d p q r = absurd (false≢true (sym b ∙ earlier 2 (omega arith) d))
