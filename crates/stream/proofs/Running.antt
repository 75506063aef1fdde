-- The pass from byte to byte comes to what the pass over all bytes comes to.
-- Assumes nothing.
use Prim.Native.Nat.{ℕ, zero, suc, ◌+◌, ◌-◌, ◌≤◌, ◌<◌}
use native.Mathlib.Omega.{arith}
use mathlib.Core.Path.{◌≡◌, refl, sym, ◌∙◌, ap}
use mathlib.Core.Bool.{Bool, true, false, ◌&&◌, ◌||◌}
use mathlib.Core.List.{List, [], ◌∷◌, ◌++◌, append-nil}
use lib.ListN.{length, drop, length-append, length-drop, get_or-append}
use lib.Seq.{append_snoc, drop-append-le, take-append-le, drop-append_seam}
use lib.Dec.{ltb, leb}
use borrow.Author.Tests.{le-leb, lt-leb, leb-true, leb-false, ltb-true, ltb-false, lt-ltb, le-ltb}
use Rattle.format.specs.Records.{Record}
use Rattle.format.specs.Verdict.{stated, framed}
use Rattle.format.specs.Decode.{content}
use Rattle.format.specs.Reader.{Outcome, took, stop, step, next, halted, pass}
use Rattle.format.proofs.Stepped.{unframed, same_element}
use Rattle.format.proofs.Passing.{pass_nil}
use Rattle.format.specs.declared.settings.Settings.{Settings}
use Rattle.stream.specs.Running.{going, broken, unready, past, settled, run_bytes, finish}

and-false : (a b : Bool) → b ≡ false → a && b ≡ false
and-false true b h = h
and-false false b h = refl

-- what an element that cannot be judged yet lacks
pub data Lacks (u : List ℕ) : Type 0 where
  header : length u < 3 → Lacks u
  bytes : 3 ≤ length u → length u < stated u → Lacks u

pub lacks : (u : List ℕ) → unready u ≡ true → Lacks u
lacks u h = go (ltb (length u) 3) refl (leb 3 (stated u)) (ltb (length u) (stated u)) refl h
  where
    go : (a : Bool) → ltb (length u) 3 ≡ a → (b c : Bool) → ltb (length u) (stated u) ≡ c → a || b && c ≡ true → Lacks u
    go true p b c q e = header (ltb-true _ _ p)
    go false p true true q e = bytes (ltb-false _ _ p) (ltb-true _ _ q)
    go false p true false q e = let z : ◌≡◌ {A = ℕ} 0 1 = cc in absurd (omega arith)
    go false p false c q e = let z : ◌≡◌ {A = ℕ} 0 1 = cc in absurd (omega arith)

-- one that can be judged: its length is under 3, or reached
data Ready (u : List ℕ) : Type 0 where
  low : 3 ≤ length u → stated u < 3 → Ready u
  full : 3 ≤ stated u → stated u ≤ length u → Ready u

ready : (u : List ℕ) → unready u ≡ false → Ready u
ready u h = go (ltb (length u) 3) refl (leb 3 (stated u)) refl (ltb (length u) (stated u)) refl h
  where
    go :
        (a : Bool)
        → ltb (length u) 3 ≡ a
        → (b : Bool)
        → leb 3 (stated u) ≡ b
        → (c : Bool)
        → ltb (length u) (stated u) ≡ c
        → a || b && c ≡ false
        → Ready u
    go true p b r c q e = let z : ◌≡◌ {A = ℕ} 0 1 = cc in absurd (omega arith)
    go false p true r true q e = let z : ◌≡◌ {A = ℕ} 0 1 = cc in absurd (omega arith)
    go false p true r false q e = full (leb-true _ _ r) (ltb-false _ _ q)
    go false p false r c q e = low (ltb-false _ _ p) (leb-false _ _ r)

lacks_frame : (u : List ℕ) → Lacks u → framed u ≡ false
lacks_frame u (header h) = rw (lt-leb 3 (length u) h) refl
lacks_frame u (bytes g h) = and-false (leb 3 (length u)) _ (and-false (leb 3 (stated u)) _ (lt-leb (stated u) (length u) h))

pub low_frame : (u : List ℕ) → stated u < 3 → framed u ≡ false
low_frame u h = and-false (leb 3 (length u)) _ (rw (lt-leb 3 (stated u) h) refl)

-- the bytes that follow do not change an element
pub stated_more : (u xs : List ℕ) → 3 ≤ length u → stated (u ++ xs) ≡ stated u
stated_more u xs h = rw (get_or-append u xs 0 1 (omega arith), get_or-append u xs 0 2 (omega arith)) refl

pub full_frame : (u : List ℕ) → 3 ≤ stated u → stated u ≤ length u → framed u ≡ true
full_frame u h g = rw (le-leb 3 (length u) (omega arith), le-leb 3 (stated u) h, le-leb (stated u) (length u) g) refl

content_more : (u xs : List ℕ) → 3 ≤ length u → stated u ≤ length u → content (u ++ xs) ≡ content u
content_more u xs h g =
    rw (stated_more u xs h, drop-append-le 3 u xs h)
    (take-append-le (stated u - 3) (drop 3 u) xs (omega (arith, length-drop 3 u)))

pub snoc_length : (u : List ℕ) (x : ℕ) → length (u ++ x ∷ []) ≡ suc (length u)
snoc_length u x = omega (arith, length-append u (x ∷ []))

-- an element that was under way and is ready now has exactly its length
reached : (u : List ℕ) (x : ℕ) → Lacks u → 3 ≤ stated (u ++ x ∷ []) → length (u ++ x ∷ []) ≤ stated (u ++ x ∷ [])
reached u x (header h) g = omega (arith, snoc_length u x)
reached u x (bytes l h) g = omega (arith, snoc_length u x, stated_more u (x ∷ []) l)

pub grown : (u : List ℕ) (x : ℕ) → unready u ≡ true → 3 ≤ stated (u ++ x ∷ []) → length (u ++ x ∷ []) ≤ stated (u ++ x ∷ [])
grown u x h g = reached u x (lacks u h) g

-- whether an element can be judged
pub waits_header : (u : List ℕ) → length u < 3 → unready u ≡ true
waits_header u h = rw (lt-ltb (length u) 3 h) refl

pub waits_bytes : (u : List ℕ) → 3 ≤ length u → length u < stated u → unready u ≡ true
waits_bytes u h g = rw (le-ltb (length u) 3 h, le-leb 3 (stated u) (omega arith), lt-ltb (length u) (stated u) g) refl

pub ready_low : (u : List ℕ) → 3 ≤ length u → stated u < 3 → unready u ≡ false
ready_low u h g = rw (le-ltb (length u) 3 h, lt-leb 3 (stated u) g) refl

pub ready_full : (u : List ℕ) → 3 ≤ length u → stated u ≤ length u → unready u ≡ false
ready_full u h g = rw (le-ltb (length u) 3 h, le-ltb (length u) (stated u) g) (and-false (leb 3 (stated u)) false refl)

module _ (σ : Settings) where
  pub same_step :
      (before : List Record) (u xs : List ℕ)
      → 3 ≤ stated u
      → 3 ≤ length u
      → stated u ≤ length u
      → step σ before (u ++ xs) ≡ step σ before u
  same_step before u xs h l g =
      same_element σ before (u ++ xs) u
      (full_frame (u ++ xs) (omega (arith, stated_more u xs l)) (omega (arith, stated_more u xs l, length-append u xs))
      ∙ sym (full_frame u h g))
      (get_or-append u xs 0 0 (omega arith))
      (content_more u xs l g)

  -- one turn of the pass over all bytes
  turn :
      (n : ℕ) (before : List Record) (at : ℕ) (bs : List ℕ)
      → 0 < length bs
      → length bs ≤ n
      → (m : ℕ) × (n ≡ suc m) × (pass σ n before at bs
      ≡ next (step σ before bs) (λ r. pass σ m (before ++ r ∷ []) (at + stated bs) (drop (stated bs) bs)) at)
  unfolding pass
  turn n before at [] h l = absurd (omega arith)
  turn zero before at (b ∷ bs) h l = absurd (omega arith)
  turn (suc m) before at (b ∷ bs) h l = (m, refl, refl)

  halts :
      (n : ℕ) (before : List Record) (at : ℕ) (bs : List ℕ) {k : ℕ}
      → 0 < length bs
      → length bs ≤ n
      → step σ before bs ≡ stop k
      → pass σ n before at bs ≡ halted k at
  halts n before at bs h l e = (turn n before at bs h l).2 ∙ rw e refl

  pub broken_stays : (k p : ℕ) (xs : List ℕ) → finish (run_bytes σ (broken k p) xs) ≡ halted k p
  broken_stays k p [] = refl
  broken_stays k p (x ∷ xs) = broken_stays k p xs

  -- the pass after the bytes `bs`, with `u` under way, is the pass over `u ++ bs`
  abbrev Passes : List ℕ → Type 0
  Passes bs =
      (u : List ℕ) (n : ℕ) (before : List Record) (at : ℕ)
      → unready u ≡ true
      → length u + length bs ≤ n
      → finish (run_bytes σ (going before at u) bs) ≡ pass σ n before at (u ++ bs)

  at_end :
      (u : List ℕ) (n : ℕ) (before : List Record) (at : ℕ)
      → unready u ≡ true
      → length u ≤ n
      → finish (going before at u) ≡ pass σ n before at u
  at_end [] n before at h l = sym (pass_nil σ n before at)
  at_end (x ∷ u) n before at h l = sym (halts n before at (x ∷ u) (omega arith) l
      (unframed σ before (x ∷ u) (lacks_frame (x ∷ u) (lacks (x ∷ u) h))))

  -- an element is complete, and the pass goes on after it
  judged :
      (xs u : List ℕ) (n : ℕ) (before : List Record) (at : ℕ) (o : Outcome)
      → Passes xs
      → 3 ≤ stated u
      → stated u ≡ length u
      → length u + length xs ≤ n
      → step σ before u ≡ o
      → finish (run_bytes σ (past before at (length u) o) xs) ≡ pass σ n before at (u ++ xs)
  judged xs u n before at (stop k) rec h e l q =
      broken_stays k at xs
      ∙ sym (halts n before at (u ++ xs) (omega (arith, length-append u xs)) (omega (arith, length-append u xs))
      (same_step before u xs h (omega arith) (omega arith) ∙ q))
  judged xs u n before at (took r) rec h e l q =
      let t = turn n before at (u ++ xs) (omega (arith, length-append u xs)) (omega (arith, length-append u xs)) in
      let s = stated_more u xs (omega arith) in
      rec [] t.0 (before ++ r ∷ []) (at + length u) refl (omega (arith, t.1))
      ∙ sym (t.2 ∙ rw (same_step before u xs h (omega arith) (omega arith), q, s, e, drop-append_seam u xs) refl)

  complete :
      (xs u : List ℕ) (x n : ℕ) (before : List Record) (at : ℕ)
      → Passes xs
      → Lacks u
      → Ready (u ++ x ∷ [])
      → length (u ++ x ∷ []) + length xs ≤ n
      → finish (run_bytes σ (past before at (length (u ++ x ∷ [])) (step σ before (u ++ x ∷ []))) xs)
      ≡ pass σ n before at ((u ++ x ∷ []) ++ xs)
  complete xs u x n before at rec k (low g h) l =
      let v = u ++ x ∷ [] in
      rw (unframed σ before v (low_frame v h))
      (broken_stays 6 at xs
      ∙ sym (halts n before at (v ++ xs) (omega (arith, length-append v xs)) (omega (arith, length-append v xs))
      (unframed σ before (v ++ xs) (low_frame (v ++ xs) (omega (arith, stated_more v xs g))))))
  complete xs u x n before at rec k (full g h) l =
      judged xs (u ++ x ∷ []) n before at (step σ before (u ++ x ∷ [])) rec g (omega (arith, reached u x k g)) l refl

  pub run_passes : (bs : List ℕ) → Passes bs
  run_passes [] u n before at h l = rw (append-nil u) (at_end u n before at h (omega arith))
  run_passes (x ∷ xs) u n before at h l = go (run_passes xs) (unready (u ++ x ∷ [])) refl
    where
      go :
          Passes xs
          → (t : Bool)
          → unready (u ++ x ∷ []) ≡ t
          → finish (run_bytes σ (settled σ before at (u ++ x ∷ []) t) xs) ≡ pass σ n before at (u ++ x ∷ xs)
      go rec true e = rec (u ++ x ∷ []) n before at e (omega (arith, snoc_length u x)) ∙ ap (pass σ n before at) (append_snoc u x xs)
      go rec false e =
          complete xs u x n before at rec (lacks u h) (ready (u ++ x ∷ []) e) (omega (arith, snoc_length u x))
          ∙ ap (pass σ n before at) (append_snoc u x xs)
