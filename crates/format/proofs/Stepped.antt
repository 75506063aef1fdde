-- One step of the pass, test by test: what an element that is taken passed, how large the number is where none is, and what a step looks
-- at. The order of the tests (6, the 97th, 7, the record's own) is named here, and nowhere above.
-- Assumes nothing.
use Prim.Native.Nat.{ℕ, ◌≤◌, ◌<◌}
use native.Mathlib.Omega.{arith}
use mathlib.Core.Path.{◌≡◌, refl, subst}
use mathlib.Core.Bool.{Bool, true, false}
use mathlib.Core.List.{List}
use mathlib.Core.Option.{Option, none, some}
use lib.ListN.{length}
use lib.Dec.{ltb}
use borrow.Author.Tests.{le-ltb, lt-ltb, ltb-true, ltb-false}
use Rattle.format.specs.Slots.{byte}
use Rattle.format.specs.Records.{Record}
use Rattle.format.specs.Table.{element_breaks}
use Rattle.format.specs.Verdict.{framed, known}
use Rattle.format.specs.Decode.{content, decode}
use Rattle.format.specs.Reader.{Outcome, took, stop, or_stop, unless_broken, judge, step}
use Rattle.format.specs.declared.settings.Settings.{Settings}
use Rattle.format.proofs.Kept.{element_small}

or_stop_lem :
    (P : Outcome → Type 0) (t : Bool) (k : ℕ) (o : Outcome) → (t ≡ true → P o) → (t ≡ false → P (stop k)) → P (or_stop t k o)
or_stop_lem P true k o f g = f refl
or_stop_lem P false k o f g = g refl

-- what every test allows
pub record Taken (s : Settings) (before : List Record) (bs : List ℕ) (x : Record) : Type 0 where
  pub framed_6 : framed bs ≡ true
  pub few_11 : length before < 96
  pub known_7 : known (byte bs 0) ≡ true
  pub decoded_8 : decode s.chip (byte bs 0) (content bs) ≡ some x
  pub unbroken : element_breaks s before x ≡ none

module _ (s : Settings) (before : List Record) (bs : List ℕ) where
  -- THE TESTS in their order: a statement on the outcome holds where it holds after each
  pub step_by :
      (P : Outcome → Type 0)
      → (framed bs ≡ false → P (stop 6))
      → (framed bs ≡ true → 96 ≤ length before → P (stop 11))
      → (framed bs ≡ true → length before < 96 → known (byte bs 0) ≡ false → P (stop 7))
      → (framed bs ≡ true
      → length before < 96
      → known (byte bs 0) ≡ true
      → P (judge s before (decode s.chip (byte bs 0) (content bs))))
      → P (step s before bs)
  unfolding step
  step_by P six crowd seven on =
      or_stop_lem P (framed bs) 6 _
      (λ fr.
      or_stop_lem P (ltb (length before) 96) 11 _
      (λ few.
      or_stop_lem P (known (byte bs 0)) 7 _
      (λ kn. on fr (ltb-true _ _ few) kn)
      (λ kn. seven fr (ltb-true _ _ few) kn))
      (λ few. crowd fr (ltb-false _ _ few)))
      six

  -- an element passed them all; the number of a refusal has at most two digits
  abbrev pub Says : Outcome → Type 0
  Says (took x) = Taken s before bs x
  Says (stop k) = k < 100

  pub step_says : Says (step s before bs)
  step_says =
      step_by Says (λ fr. omega arith) (λ fr many. omega arith) (λ fr few kn. omega arith)
      (λ fr few kn. judged fr few kn (decode s.chip (byte bs 0) (content bs)) refl)
    where
      judged :
          framed bs ≡ true
          → length before < 96
          → known (byte bs 0) ≡ true
          → (o : Option Record)
          → decode s.chip (byte bs 0) (content bs) ≡ o
          → Says (judge s before o)
      judged fr few kn none d = omega arith
      judged fr few kn (some x) d = go (element_breaks s before x) refl
        where
          go : (o : Option ℕ) → element_breaks s before x ≡ o → Says (unless_broken x o)
          go none e = record { framed_6 = fr; few_11 = few; known_7 = kn; decoded_8 = d; unbroken = e }
          go (some k) e = element_small s before x k e

  pub taken : {x : Record} → step s before bs ≡ took x → Taken s before bs x
  taken e = subst Says e step_says

  pub stop_small : {k : ℕ} → step s before bs ≡ stop k → k < 100
  stop_small e = subst Says e step_says

  -- from the tests to the outcome
  pub unframed : framed bs ≡ false → step s before bs ≡ stop 6
  unfolding step
  unframed fr = rw fr refl

  pub crowded_out : framed bs ≡ true → 96 ≤ length before → step s before bs ≡ stop 11
  unfolding step
  crowded_out fr many = rw (fr, le-ltb (length before) 96 many) refl

  pub by_identifier :
      framed bs ≡ true
      → length before < 96
      → step s before bs ≡ or_stop (known (byte bs 0)) 7 (judge s before (decode s.chip (byte bs 0) (content bs)))
  unfolding step
  by_identifier fr few = rw (fr, lt-ltb (length before) 96 few) refl

-- no more is looked at than whether the header fits, the identifier and the bytes after the header
pub same_element :
    (s : Settings) (before : List Record) (a b : List ℕ)
    → framed a ≡ framed b
    → byte a 0 ≡ byte b 0
    → content a ≡ content b
    → step s before a ≡ step s before b
unfolding step
same_element s before a b fr id c = rw (fr, id, c) refl
