-- Elements that are taken from some bytes: the first of them, and the pass from byte to byte over them.
-- Assumes nothing.
use Prim.Native.Nat.{ℕ, ◌+◌, ◌<◌, ◌≤◌}
use native.Mathlib.Omega.{arith}
use mathlib.Core.Path.{◌≡◌, refl, sym, ◌∙◌, ap}
use mathlib.Core.Bool.{Bool, true, false, ◌&&◌, and-eq-true_iff}
use lib.Dec.{leb}
use borrow.Author.Tests.{leb-true}
use mathlib.Core.List.{List, [], ◌∷◌, ◌++◌}
use lib.ListN.{length, take, drop, take-append-drop}
use lib.Seq.{length-take-le}
use Rattle.format.specs.Records.{Record}
use Rattle.format.specs.Verdict.{stated, framed}
use Rattle.format.specs.Reader.{Outcome, took, stop, step}
use Rattle.format.specs.declared.settings.Settings.{Settings}
use Rattle.format.proofs.Stepped.{unframed}
use Rattle.pass.specs.Tracks.{Took, none_yet, one_more}
use Rattle.stream.specs.Running.{Run, going, broken, past, run_bytes}
use Rattle.stream.proofs.Running.{same_step, stated_more}
use Rattle.stream.proofs.Runs.{run_whole, stays_broken}
use Rattle.stream.proofs.Arriving.{run_append}

-- none is taken, or a first one
pub data First (σ : Settings) (rs : List Record) (at : ℕ) (bs : List ℕ) : List Record → ℕ → List ℕ → Type 0 where
  none_taken : First σ rs at bs rs at bs
  first_taken :
      {qs : List Record} {p : ℕ} {left : List ℕ} (x : Record)
      → step σ rs bs ≡ took x
      → 3 ≤ stated bs
      → stated bs ≤ length bs
      → Took σ (rs ++ x ∷ []) (at + stated bs) (drop (stated bs) bs) qs p left
      → First σ rs at bs qs p left

add_last :
    (σ : Settings) {rs qs : List Record} {at p : ℕ} {bs left : List ℕ}
    → First σ rs at bs qs p left
    → (x : Record)
    → step σ qs left ≡ took x
    → 3 ≤ stated left
    → stated left ≤ length left
    → First σ rs at bs (qs ++ x ∷ []) (p + stated left) (drop (stated left) left)
add_last σ none_taken x e l g = first_taken x e l g none_yet
add_last σ (first_taken y f m h w) x e l g = first_taken y f m h (one_more x e l g w)

pub first_of : (σ : Settings) {rs qs : List Record} {at p : ℕ} {bs left : List ℕ} → Took σ rs at bs qs p left → First σ rs at bs qs p left
first_of σ none_yet = none_taken
first_of σ (one_more x e l g k) = add_last σ (first_of σ k) x e l g

-- the place goes on
pub took_grows : (σ : Settings) {rs qs : List Record} {at p : ℕ} {bs left : List ℕ} → Took σ rs at bs qs p left → at ≤ p
took_grows σ none_yet = omega arith
took_grows σ (one_more x e l g k) = omega (arith, took_grows σ k)

by_first :
    (σ : Settings) {rs qs : List Record} {at p : ℕ} {bs left : List ℕ}
    → First σ rs at bs qs p left
    → at < p
    → (x : Record) × (step σ rs bs ≡ took x) × (3 ≤ stated bs) × (stated bs ≤ length bs)
    × Took σ (rs ++ x ∷ []) (at + stated bs) (drop (stated bs) bs) qs p left
by_first σ none_taken h = absurd (omega arith)
by_first σ (first_taken x e l g k) h = (x, e, l, g, k)

-- where the place goes on there is a first one
pub next_taken :
    (σ : Settings) {rs qs : List Record} {at p : ℕ} {bs left : List ℕ}
    → Took σ rs at bs qs p left
    → at < p
    → (x : Record) × (step σ rs bs ≡ took x) × (3 ≤ stated bs) × (stated bs ≤ length bs)
    × Took σ (rs ++ x ∷ []) (at + stated bs) (drop (stated bs) bs) qs p left
next_taken σ k h = by_first σ (first_of σ k) h

-- a whole element at the start of some bytes
whole_front : (bs : List ℕ) → 3 ≤ stated bs → stated bs ≤ length bs → stated (take (stated bs) bs) ≡ stated bs
whole_front bs h l =
    let n = length-take-le (stated bs) bs l in
    sym (stated_more (take (stated bs) bs) (drop (stated bs) bs) (omega (arith, n))) ∙ ap stated (take-append-drop (stated bs) bs)

pub run_front :
    (σ : Settings) (rs : List Record) (at : ℕ) (bs : List ℕ)
    → 3 ≤ stated bs
    → stated bs ≤ length bs
    → run_bytes σ (going rs at []) bs ≡ run_bytes σ (past rs at (stated bs) (step σ rs bs)) (drop (stated bs) bs)
run_front σ rs at bs h l =
    let front = take (stated bs) bs in
    let n = length-take-le (stated bs) bs l in
    let s = whole_front bs h l in
    let j = take-append-drop (stated bs) bs in
    let same : step σ rs front ≡ step σ rs bs =
    sym (same_step σ rs front (drop (stated bs) bs) (omega arith) (omega arith) (omega arith)) ∙ ap (step σ rs) j in
    ap (run_bytes σ (going rs at [])) (sym j)
    ∙ run_append σ (going rs at []) front (drop (stated bs) bs)
    ∙ ap (λ (r : Run). run_bytes σ r (drop (stated bs) bs))
    (run_whole σ rs at [] front (omega arith) (omega arith, omega arith) ∙ rw (same, n) refl)

-- the pass from byte to byte goes on where some elements are taken
pub took_run :
    (σ : Settings) {rs qs : List Record} {at p : ℕ} {bs left : List ℕ}
    → Took σ rs at bs qs p left
    → run_bytes σ (going rs at []) bs ≡ run_bytes σ (going qs p []) left
took_run σ none_yet = refl
took_run σ (one_more {qs = qs} {p = p} {left = left} x e l g k) =
    took_run σ k ∙ run_front σ qs p left l g ∙ ap (λ (o : Outcome). run_bytes σ (past qs p (stated left) o) (drop (stated left) left)) e

-- an element that is all there
pub frame : (bs : List ℕ) → framed bs ≡ true → (3 ≤ stated bs) × (stated bs ≤ length bs)
frame bs h =
    let a = (and-eq-true_iff (leb 3 (length bs)) (leb 3 (stated bs) && leb (stated bs) (length bs))).0 h in
    let b = (and-eq-true_iff (leb 3 (stated bs)) (leb (stated bs) (length bs))).0 a.1 in
    (leb-true 3 (stated bs) b.0, leb-true (stated bs) (length bs) b.1)

-- one that stops the pass, where it is all there
pub run_stopped :
    (σ : Settings) (rs : List Record) (at k : ℕ) (bs : List ℕ)
    → step σ rs bs ≡ stop k
    → (k ≡ 6 → ⊥)
    → run_bytes σ (going rs at []) bs ≡ broken k at
run_stopped σ rs at k bs e n = go (framed bs) refl
  where
    go : (t : Bool) → framed bs ≡ t → run_bytes σ (going rs at []) bs ≡ broken k at
    go false f = let z : stop 6 ≡ stop k = sym (unframed σ rs bs f) ∙ e in absurd (n (sym (the_number z)))
      where
        the_number : {a b : ℕ} → stop a ≡ stop b → a ≡ b
        the_number q = cc
    go true f =
        let h = frame bs f in
        run_front σ rs at bs h.0 h.1 ∙ rw e (stays_broken σ rs at k at (drop (stated bs) bs))
