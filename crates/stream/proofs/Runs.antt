-- Many bytes at once: where none of them completes the element under way it grows by them; where the last of them does it is judged;
-- and a length under 3 stops the pass as soon as the header is there.
-- Assumes nothing.
use Prim.Native.Nat.{ℕ, ◌+◌, ◌≤◌, ◌<◌}
use native.Mathlib.Omega.{arith}
use mathlib.Core.Path.{◌≡◌, refl, sym, ◌∙◌, ap}
use mathlib.Core.Bool.{Bool, true, false, false≢true}
use mathlib.Core.List.{List, [], ◌∷◌, ◌++◌, append-nil}
use lib.ListN.{length, length-append}
use lib.Seq.{append_snoc}
use lib.Dec.{leb}
use borrow.Author.Tests.{leb-true, leb-false}
use Rattle.format.specs.Records.{Record}
use Rattle.format.specs.Verdict.{stated}
use Rattle.format.specs.Reader.{step}
use Rattle.format.specs.declared.settings.Settings.{Settings}
use Rattle.format.proofs.Stepped.{unframed}
use Rattle.stream.specs.Running.{going, broken, unready, past, settled, run_bytes}
use Rattle.stream.proofs.Running.{Lacks, header, bytes, lacks, stated_more, low_frame, waits_header, waits_bytes, ready_full}

-- a part of an element that waits waits too
waits_part : (v ys : List ℕ) → 0 < length ys → Lacks (v ++ ys) → unready v ≡ true
waits_part v ys m l = go (leb 3 (length v)) refl l
  where
    n : length (v ++ ys) ≡ length v + length ys
    n = length-append v ys

    go : (t : Bool) → leb 3 (length v) ≡ t → Lacks (v ++ ys) → unready v ≡ true
    go false e l = waits_header v (leb-false 3 (length v) e)
    go true e (header h) = absurd (omega (arith, n, leb-true 3 (length v) e))
    go true e (bytes g h) =
        let k = leb-true 3 (length v) e in
        waits_bytes v k (omega (arith, n, stated_more v ys k))

-- an element is whole with the last of some bytes, and not before
abbrev pub Whole : List ℕ → Type 0
Whole v = (3 ≤ stated v) × (stated v ≡ length v)

whole_lacks : (v ys : List ℕ) → 0 < length ys → Whole (v ++ ys) → unready v ≡ true
whole_lacks v ys m w = go (leb 3 (length v)) refl
  where
    n : length (v ++ ys) ≡ length v + length ys
    n = length-append v ys

    go : (t : Bool) → leb 3 (length v) ≡ t → unready v ≡ true
    go false e = waits_header v (leb-false 3 (length v) e)
    go true e =
        let k = leb-true 3 (length v) e in
        waits_bytes v k (omega (arith, n, stated_more v ys k, w.1))

-- a header of a length under 3
abbrev pub Low : List ℕ → Type 0
Low v = (3 ≤ length v) × (stated v < 3)

low_here : (w zs : List ℕ) → unready w ≡ false → Low (w ++ zs) → Low w
low_here w zs e l = go (leb 3 (length w)) refl
  where
    go : (t : Bool) → leb 3 (length w) ≡ t → Low w
    go true g = let k = leb-true 3 (length w) g in (k, omega (arith, stated_more w zs k, l.1))
    go false g = absurd (false≢true (sym e ∙ waits_header w (leb-false 3 (length w) g)))

module _ (σ : Settings) (before : List Record) (at : ℕ) where
  -- none of the bytes completes the element
  pub run_on : (u ys : List ℕ) → unready (u ++ ys) ≡ true → run_bytes σ (going before at u) ys ≡ going before at (u ++ ys)
  run_on u [] h = ap (going before at) (sym (append-nil u))
  run_on u (x ∷ []) h = rw h refl
  run_on u (x ∷ y ∷ ys) h =
      rw (waits_part (u ++ x ∷ []) (y ∷ ys) (omega arith) (rw (append_snoc u x (y ∷ ys)) (lacks (u ++ x ∷ y ∷ ys) h)))
      (run_on (u ++ x ∷ []) (y ∷ ys) (rw (append_snoc u x (y ∷ ys)) h) ∙ ap (going before at) (append_snoc u x (y ∷ ys)))

  -- the last of them completes it
  pub run_whole :
      (u ys : List ℕ)
      → 0 < length ys
      → Whole (u ++ ys)
      → run_bytes σ (going before at u) ys ≡ past before at (length (u ++ ys)) (step σ before (u ++ ys))
  run_whole u [] m w = absurd (omega arith)
  run_whole u (x ∷ []) m w = rw (ready_full (u ++ x ∷ []) (omega (arith, w.0, w.1)) (omega (arith, w.1))) refl
  run_whole u (x ∷ y ∷ ys) m w =
      rw (whole_lacks (u ++ x ∷ []) (y ∷ ys) (omega arith) (rw (append_snoc u x (y ∷ ys)) w))
      (run_whole (u ++ x ∷ []) (y ∷ ys) (omega arith) (rw (append_snoc u x (y ∷ ys)) w)
      ∙ ap (λ (v : List ℕ). past before at (length v) (step σ before v)) (append_snoc u x (y ∷ ys)))

  pub stays_broken : (k p : ℕ) (xs : List ℕ) → run_bytes σ (broken k p) xs ≡ broken k p
  stays_broken k p [] = refl
  stays_broken k p (x ∷ xs) = stays_broken k p xs

  -- its length is under 3
  pub run_low : (u ys : List ℕ) → unready u ≡ true → Low (u ++ ys) → run_bytes σ (going before at u) ys ≡ broken 6 at
  run_low u [] h l = absurd (omega (arith, no_low (rw (append-nil u) at l.0) (rw (append-nil u) at l.1) (lacks u h)))
    where
      no_low : {v : List ℕ} → 3 ≤ length v → stated v < 3 → Lacks v → 1 ≤ 0
      no_low a b (header g) = absurd (omega arith)
      no_low a b (bytes g k) = absurd (omega arith)
  run_low u (x ∷ ys) h l = go (λ e. run_low (u ++ x ∷ []) ys e (rw (append_snoc u x ys) l)) (unready (u ++ x ∷ [])) refl
    where
      go :
          (unready (u ++ x ∷ []) ≡ true → run_bytes σ (going before at (u ++ x ∷ [])) ys ≡ broken 6 at)
          → (t : Bool)
          → unready (u ++ x ∷ []) ≡ t
          → run_bytes σ (settled σ before at (u ++ x ∷ []) t) ys ≡ broken 6 at
      go rec true e = rec e
      go rec false e =
          let k = low_here (u ++ x ∷ []) ys e (rw (append_snoc u x ys) l) in
          rw (unframed σ before (u ++ x ∷ []) (low_frame (u ++ x ∷ []) k.1)) (stays_broken 6 at ys)
