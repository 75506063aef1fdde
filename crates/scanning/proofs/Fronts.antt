-- A step of the pass looks at one element's bytes alone; and the reader's walk over the bytes of one element takes it, or stops before it.
-- Assumes nothing.
use Prim.Native.Nat.{ℕ, suc, ◌-◌, ◌≤◌}
use native.Mathlib.Omega.{arith}
use mathlib.Core.Path.{◌≡◌, refl, sym, ◌∙◌, ap, subst}
use mathlib.Core.Bool.{true}
use mathlib.Core.List.{List, [], ◌∷◌, ◌++◌}
use lib.ListN.{length, take, drop}
use lib.Seq.{take-take, length-take-le, drop-length}
use borrow.Author.Tests.{le-leb}
use Rattle.format.specs.Slots.{byte}
use Rattle.format.specs.Records.{Record}
use Rattle.format.specs.Verdict.{stated, framed}
use Rattle.format.specs.Decode.{content}
use Rattle.format.specs.Reader.{step, took}
use Rattle.format.specs.declared.settings.Settings.{Settings}
use Rattle.pass.specs.Tracks.{Took, none_yet, one_more}

-- the bytes of an element, as many as it states
module _ (bs : List ℕ) (low : 3 ≤ stated bs) (fits : stated bs ≤ length bs) where
  abbrev pub front : List ℕ
  front = take (stated bs) bs

  pub front_length : length front ≡ stated bs
  front_length = length-take-le (stated bs) bs fits

  front_parts :
      (m : ℕ)
      → stated bs ≡ suc (suc (suc m))
      → (byte front 0 ≡ byte bs 0) × (stated front ≡ stated bs) × (drop 3 front ≡ take m (drop 3 bs))
  front_parts m e =
      subst (λ (n : ℕ). (byte (take n bs) 0 ≡ byte bs 0) × (stated (take n bs) ≡ stated bs) × (drop 3 (take n bs) ≡ take m (drop 3 bs)))
      (sym e)
      (go bs (omega (arith, low, fits)))
    where
      go :
          (l : List ℕ)
          → 3 ≤ length l
          → (byte (take (suc (suc (suc m))) l) 0 ≡ byte l 0) × (stated (take (suc (suc (suc m))) l) ≡ stated l) × (drop 3
          (take (suc (suc (suc m))) l) ≡ take m (drop 3 l))
      go [] h = absurd (omega arith)
      go (a ∷ []) h = absurd (omega arith)
      go (a ∷ b ∷ []) h = absurd (omega arith)
      go (a ∷ b ∷ x ∷ l) h = (refl, refl, refl)

  parts : (byte front 0 ≡ byte bs 0) × (stated front ≡ stated bs) × (drop 3 front ≡ take (stated bs - 3) (drop 3 bs))
  parts = front_parts (stated bs - 3) (omega (arith, low))

  pub front_stated : stated front ≡ stated bs
  front_stated = parts.1

  front_content : content front ≡ content bs
  front_content =
      ap (λ (n : ℕ). take (n - 3) (drop 3 front)) parts.1
      ∙ ap (λ (l : List ℕ). take (stated bs - 3) l) parts.2
      ∙ take-take (stated bs - 3) (stated bs - 3) (drop 3 bs) (omega arith)

  framed_as : (l : List ℕ) → 3 ≤ length l → 3 ≤ stated l → stated l ≤ length l → framed l ≡ true
  framed_as l a b c = simp (le-leb 3 (length l) a, le-leb 3 (stated l) b, le-leb (stated l) (length l) c)

  pub framed_front : framed front ≡ true
  framed_front =
      framed_as front (omega (arith, front_length, low)) (omega (arith, front_stated, low)) (omega (arith, front_length, front_stated))

  pub framed_whole : framed bs ≡ true
  framed_whole = framed_as bs (omega (arith, low, fits)) low fits

  pub front_step : (σ : Settings) (before : List Record) → step σ before front ≡ step σ before bs
  unfolding step
  front_step σ before = rw (framed_front, framed_whole, parts.0, front_content) refl

-- the walk over the bytes of one element: nothing is taken yet, or it is and no byte is left
pub data OneTaken (σ : Settings) (before : List Record) (bs : List ℕ) : List Record → List ℕ → Type 0 where
  not_yet : OneTaken σ before bs before bs
  taken : (x : Record) → step σ before bs ≡ took x → OneTaken σ before bs (before ++ x ∷ []) []

pub one_taken :
    (σ : Settings) (before : List Record) (at : ℕ) (bs : List ℕ) (gone : List Record) (p : ℕ) (left : List ℕ)
    → stated bs ≡ length bs
    → Took σ before at bs gone p left
    → OneTaken σ before bs gone left
one_taken σ before at bs gone p left e none_yet = not_yet
one_taken σ before at bs gone p left e (one_more {qs = qs} {p = q} {left = l} x s low fits w) =
    onward qs l x s low fits (one_taken σ before at bs qs q l e w)
  where
    onward :
        (qs : List Record) (l : List ℕ) (x : Record)
        → step σ qs l ≡ took x
        → 3 ≤ stated l
        → stated l ≤ length l
        → OneTaken σ before bs qs l
        → OneTaken σ before bs (qs ++ x ∷ []) (drop (stated l) l)
    onward qs l x s low fits not_yet =
        subst (λ (m : List ℕ). OneTaken σ before bs (before ++ x ∷ []) m) (sym (ap (λ (n : ℕ). drop n bs) e ∙ drop-length bs)) (taken x s)
    onward qs l x s low fits (taken y z) = absurd (omega (arith, low, fits))
