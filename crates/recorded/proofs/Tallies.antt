-- Line by line, the five numbers of each element are the tallies of all answers that were given to it. No line past 1,000,000 has a
-- reading, so no number is too large for its field.
-- Assumes nothing.
use Prim.Native.Nat.{ℕ, zero, suc, ◌+◌, ◌*◌, ◌<◌, ◌≤◌}
use native.Mathlib.Omega.{arith}
use mathlib.Core.Path.{◌≡◌, refl, sym, ◌∙◌, ap}
use mathlib.Core.Bool.{Bool, true, false, cond}
use mathlib.Core.List.{List, [], ◌∷◌, ◌++◌, append-nil, append_assoc}
use lib.Dec.{ltb, leb, eqb}
use lib.ListN.{length, get_or, replicate, length-append}
use lib.Seq.{sets, length-sets}
use borrow.Author.Tests.{ltb-false, leb-false, eqb-true, eqb-false}
use Rattle.parsing.specs.Scanning.{read}
use Rattle.std.specs.Prelude.{Result, Ok, Err}
use Rattle.parsing.specs.declared.Sample.{Sample}
use Rattle.format.specs.declared.answers.Rule.{Rule}
use Rattle.format.specs.declared.answers.Rule.TheVariants.{PastTheLast, TraceLine}
use Rattle.converting.specs.declared.Outcome.{Outcome}
use Rattle.tallying.specs.Tallies.{readings, tally_of, taken}
use Rattle.tallying.specs.Extremes.{Least, Greatest}
use Rattle.tallying.specs.declared.Tally.{Tally}
use Rattle.tallying.proofs.Law.{kept}
use Rattle.tallying.proofs.Extremes.{least_is, greatest_is}
use Rattle.gauges.specs.Numbers.{tally_at, tally_numbers}
use Rattle.tracing.specs.Lines.{count_of, asked_of, outcome_at, tallied, later}
use Rattle.tracing.specs.Whole.{tallies}
use Rattle.tracing.specs.declared.Asked.{Asked}
use Rattle.recorded.specs.Outcomes.{given, outcomes_of, tally_after}
use Rattle.recorded.proofs.Runs.{beside, inside}

-- the tallies of element k after five numbers are stored for it, and for another
module _ (ts : List ℕ) (k : ℕ) (t : Tally) where
  stored : 5 * k + 5 ≤ length ts → tally_at (sets ts (5 * k) (tally_numbers t)) k ≡ t
  unfolding tally_at
  stored h =
      let at : (j i : ℕ) → i ≡ 5 * k + j → j < 5 → get_or (sets ts (5 * k) (tally_numbers t)) i 0 ≡ get_or (tally_numbers t) j 0 =
      λ j i e q. inside (tally_numbers t) ts (5 * k) j i e h q in
      rw (
        at 0 (5 * k) (omega arith) (omega arith),
        at 1 (5 * k + 1) refl (omega arith),
        at 2 (5 * k + 2) refl (omega arith),
        at 3 (5 * k + 3) refl (omega arith),
        at 4 (5 * k + 4) refl (omega arith),
      ) refl

  other : (j : ℕ) → (j ≡ k → ⊥) → tally_at (sets ts (5 * k) (tally_numbers t)) j ≡ tally_at ts j
  unfolding tally_at
  other j h =
      let at : (a : ℕ) → a < 5 → (i : ℕ) → i ≡ 5 * j + a → get_or (sets ts (5 * k) (tally_numbers t)) i 0 ≡ get_or ts i 0 =
      λ a q i e. beside (tally_numbers t) ts (5 * k) i (λ b p f. h (omega (arith, q, e, p, f))) in
      rw (
        at 0 (omega arith) (5 * j) (omega arith),
        at 1 (omega arith) (5 * j + 1) refl,
        at 2 (omega arith) (5 * j + 2) refl,
        at 3 (omega arith) (5 * j + 3) refl,
        at 4 (omega arith) (5 * j + 4) refl,
      ) refl

-- what a line asks: an element that is there, and not past line 1,000,000
Sound : ℕ → ℕ → Result Asked Rule → Type 0
Sound elements number (Ok a) = (a.element < elements) × (number ≤ 1000000)
Sound elements number (Err r) = Unit {0}

sound : (elements number : ℕ) (p : Result Sample Rule) → Sound elements number (asked_of elements number p)
unfolding Sound
sound elements number (Err r) = tt
sound elements number (Ok l) = go (ltb 1000000 number) refl (leb elements l.element) refl
  where
    go :
        (t : Bool)
        → ltb 1000000 number ≡ t
        → (u : Bool)
        → leb elements l.element ≡ u
        → Sound elements number (cond t (Err TraceLine) (cond u (Err PastTheLast) (count_of l.element l.count)))
    go true e u f = tt
    go false e true f = tt
    go false e false f = (leb-false elements l.element f, ltb-false 1000000 number e)

-- the next number, which is one more up to 1,000,000
later_more : (n : ℕ) → (n ≤ later n) × (later n ≤ 1000000 → later n ≡ n + 1)
later_more n = go (ltb n 18446744073709551615) refl
  where
    go :
        (t : Bool)
        → ltb n 18446744073709551615 ≡ t
        → (n ≤ cond t (n + 1) n) × (cond t (n + 1) n ≤ 1000000 → cond t (n + 1) n ≡ n + 1)
    go true e = (omega arith, λ h. refl)
    go false e = (omega arith, λ h. absurd (omega (arith, h, ltb-false n 18446744073709551615 e)))

-- before any line all are 0
zeros : (n i : ℕ) → get_or {A = ℕ} (replicate n 0) i 0 ≡ 0
zeros zero i = refl
zeros (suc n) zero = refl
zeros (suc n) (suc i) = zeros n i

none_yet : (k : ℕ) → tally_at (replicate 480 0) k ≡ tally_of {E = Rule} []
unfolding tally_at
none_yet k =
    let at : (i : ℕ) → get_or {A = ℕ} (replicate 480 0) i 0 ≡ 0 = zeros 480 in
    rw (at (5 * k), at (5 * k + 1), at (5 * k + 2), at (5 * k + 3), at (5 * k + 4)) refl

module _ (sensors : List ℕ) (elements : ℕ) (few : elements ≤ 96) where
  -- one line: of element k, of another, or of none
  abbrev Taken : ℕ → List ℕ → ℕ → Result Asked Rule → Type 0
  Taken n ts k q =
      (qs : List (Result Outcome Rule))
      → length qs ≤ n
      → tally_at ts k ≡ tally_of qs
      → (length (qs ++ given sensors k q) ≤ later n) × (tally_at (tallied sensors ts q) k ≡ tally_of (qs ++ given sensors k q))

  same_length : (ts : List ℕ) (q : Result Asked Rule) → length (tallied sensors ts q) ≡ length ts
  same_length ts (Ok a) = length-sets ts (5 * a.element) (tally_numbers (taken (tally_at ts a.element) (outcome_at sensors (Ok a))))
  same_length ts (Err r) = refl

  one : (n : ℕ) (ts : List ℕ) (k : ℕ) (q : Result Asked Rule) → length ts ≡ 480 → Sound elements (later n) q → Taken n ts k q
  unfolding Sound
  one n ts k (Err r) l s qs m e = rw (append-nil qs) (omega (arith, m, (later_more n).0), e)
  one n ts k (Ok a) l s qs m e = go (eqb a.element k) refl
    where
      next : later n ≡ n + 1
      next = (later_more n).1 s.1

      go :
          (t : Bool)
          → eqb a.element k ≡ t
          → (length (qs ++ cond t (outcome_at sensors (Ok a) ∷ []) []) ≤ later n)
          × (tally_at (tallied sensors ts (Ok a)) k ≡ tally_of (qs ++ cond t (outcome_at sensors (Ok a) ∷ []) []))
      go true f =
          let here : a.element ≡ k = eqb-true a.element k f in
          let o = outcome_at sensors (count_of k a.count) in
          rw here (
            omega (arith, m, next, length-append qs (o ∷ [])),
            stored ts k (taken (tally_at ts k) o) (omega (arith, s.0, few, l, here))
                ∙ ap (λ (t : Tally). taken t o) e
                ∙ kept qs o (omega (arith, m, next, s.1)),
          )
      go false f =
          rw (append-nil qs) (
            omega (arith, m, next),
            other ts a.element (taken (tally_at ts a.element) (outcome_at sensors (Ok a))) k (λ h. eqb-false a.element k f (sym h)) ∙ e,
          )

  -- any list of lines, after others
  after :
      (k : ℕ) (ls : List (List ℕ)) (n : ℕ) (ts : List ℕ) (qs : List (Result Outcome Rule))
      → length ts ≡ 480
      → length qs ≤ n
      → tally_at ts k ≡ tally_of qs
      → tally_at (tallies sensors elements n ts ls) k ≡ tally_of (qs ++ outcomes_of sensors elements k n ls)
  after k [] n ts qs l m e = rw (append-nil qs) e
  after k (x ∷ ls) n ts qs l m e =
      let q = asked_of elements (later n) (read x) in
      let h = one n ts k q l (sound elements (later n) (read x)) qs m e in
      after k ls (later n) (tallied sensors ts q) (qs ++ given sensors k q) (same_length ts q ∙ l) h.0 h.1
      ∙ ap tally_of (append_assoc qs (given sensors k q) (outcomes_of sensors elements k (later n) ls))

  -- THE THEOREM: after any lines, the numbers of element k are the tallies of the answers that they gave to it
  pub tallies_are :
      (k : ℕ) (ls : List (List ℕ))
      → tally_after sensors elements k ls ≡ tally_of (outcomes_of sensors elements k 0 ls)
  tallies_are k ls = after k ls 0 (replicate 480 0) [] refl (omega arith) (none_yet k)

  -- so they are least, greatest and number of its readings
  pub readings_told :
      (k : ℕ) (ls : List (List ℕ)) (v : ℕ) (vs : List ℕ)
      → readings (outcomes_of sensors elements k 0 ls) ≡ v ∷ vs
      → Least (v ∷ vs) (tally_after sensors elements k ls).least
      × Greatest (v ∷ vs) (tally_after sensors elements k ls).greatest
      × ((tally_after sensors elements k ls).number ≡ length (v ∷ vs))
  readings_told k ls v vs h = rw (tallies_are k ls, h) (least_is v vs, greatest_is v vs, refl)

  -- 'a refused line changes no tally'
  pub refused_line_lem :
      (n : ℕ) (ts x : List ℕ) (j : ℕ) {m : Rule}
      → length ts ≡ 480
      → outcome_at sensors (asked_of elements (later n) (read x)) ≡ Err m
      → tally_at (tallied sensors ts (asked_of elements (later n) (read x))) j ≡ tally_at ts j
  unfolding Sound
  refused_line_lem n ts x j {m} l h = by_asked (asked_of elements (later n) (read x)) (sound elements (later n) (read x)) h
    where
      by_asked :
          (q : Result Asked Rule)
          → Sound elements (later n) q
          → outcome_at sensors q ≡ Err m
          → tally_at (tallied sensors ts q) j ≡ tally_at ts j
      by_asked (Err y) s h = refl
      by_asked (Ok a) s h = go (eqb j a.element) refl
        where
          go : (b : Bool) → eqb j a.element ≡ b → tally_at (tallied sensors ts (Ok a)) j ≡ tally_at ts j
          go true f =
              let k = a.element in
              let here : j ≡ k = eqb-true j k f in
              let o = outcome_at sensors (Ok a) in
              rw here (stored ts k (taken (tally_at ts k) o) (omega (arith, s.0, few, l)) ∙ ap (taken (tally_at ts k)) h)
          go false f =
              let k = a.element in
              other ts k (taken (tally_at ts k) (outcome_at sensors (Ok a))) j (eqb-false j k f)
