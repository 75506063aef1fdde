-- The customer's third demand in his own words, which stand in quotation marks. A list of bytes is one of numbers under 256. Each
-- statement is of whatever settings the caller names, and so of each chip.
-- Assumes nothing.
use Prim.Native.Nat.{ℕ}
use mathlib.Core.Path.{◌≡◌, refl, sym, ◌∙◌}
use mathlib.Core.Logic.{◌↔◌}
use mathlib.Core.List.{List}
use lib.ListN.{length}
use Rattle.format.specs.Slots.{Bytes}
use Rattle.format.specs.Records.{Record}
use Rattle.format.specs.Verdict.{Accepts, Verdict, accepted}
use Rattle.format.specs.Reader.{verdict_of}
use Rattle.format.specs.declared.records.Description.{Description}
use Rattle.format.specs.Answers.{Answer}
use Rattle.format.specs.Answers.{Gives as Accepted, Refused}
use Rattle.format.proofs.Theorem.{meets, only, one_list, accepts_passed}
use Rattle.format.specs.declared.settings.Settings.{Settings}

module _ (s : Settings) where
  -- 'Every call ends with an answer for every input': there is an answer for every list of bytes ..
  pub answered : (b : List ℕ) → Bytes b → (a : Answer) × Verdict s b a
  answered b small = (verdict_of s b, meets s b small)

  -- .. and no second
  pub unique : (b : List ℕ) (a a' : Answer) → Bytes b → Verdict s b a → Verdict s b a' → a ≡ a'
  unique b a a' small v v' = sym (only s b a small v) ∙ only s b a' small v'

  -- 'Bytes are accepted exactly when a list of records exists that keeps the rules and limits of document 01 and whose layout is
  -- those bytes, reserved places aside'; the count is its length
  abbrev pub Exists : List ℕ → ℕ → Type 0
  Exists b n = (d : Description) × (rs : List Record) × Accepts s b d rs × (n ≡ length rs)

  exists : (b : List ℕ) (n : ℕ) → Verdict s b (Accepted n) → Exists b n
  exists b n (accepted d rs c) = (d, rs, c, refl)

  pub accepted_exactly : (b : List ℕ) (n : ℕ) → Verdict s b (Accepted n) ↔ Exists b n
  accepted_exactly b n = (exists b n, λ t. rw t.3 (accepted t.0 t.1 t.2))

  -- 'There is then only one such list'
  pub only_one_list :
      (b : List ℕ) (d d' : Description) (rs rs' : List Record)
      → Bytes b
      → Accepts s b d rs
      → Accepts s b d' rs'
      → (d ≡ d') × (rs ≡ rs')
  only_one_list b d d' rs rs' small a a' =
      one_list s b d d' rs rs' small (accepts_passed s b d rs a) (accepts_passed s b d' rs' a')

  -- 'Otherwise the refusal names the first broken rule in document 01's order, and its place'
  pub otherwise_refused :
      (b : List ℕ)
      → Bytes b
      → ((d : Description) (rs : List Record) → Accepts s b d rs → ⊥)
      → (k : ℕ) × (p : ℕ) × Verdict s b (Refused k p)
  otherwise_refused b small no-list = go (verdict_of s b) (meets s b small)
    where
      go : (a : Answer) → Verdict s b a → (k : ℕ) × (p : ℕ) × Verdict s b (Refused k p)
      go (Accepted n) (accepted d rs c) = absurd (no-list d rs c)
      go (Refused k p) v = (k, p, v)
