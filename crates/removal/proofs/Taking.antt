-- 13/14, of the records: an element can be taken out of a table that keeps the rules exactly when nothing names it; with one that is
-- named, the others break 13 or 14 and nothing else.
-- Assumes nothing.
use Prim.Native.Nat.{ℕ, zero, suc}
use native.Mathlib.Omega.{arith}
use mathlib.Core.Path.{◌≡◌, refl, sym, ◌∙◌, subst}
use mathlib.Core.Bool.{true, false, not, false≢true}
use mathlib.Core.List.{List, [], ◌∷◌, ◌++◌, append_assoc}
use mathlib.Core.Logic.{◌↔◌, ◌⊎◌, inl, inr, ⊎_elim, ⊎_map}
use mathlib.Core.Option.{Option, none, some}
use lib.Seq.{append_snoc}
use lib.Dec.{eqb}
use borrow.Author.Tests.{eqb-false, not-true}
use Rattle.format.specs.Records.{Record, zone_number, string_number, text_of}
use Rattle.format.specs.Utf16.{well_formed}
use Rattle.format.specs.Rules.{coded}
use Rattle.format.specs.ZonesAndStrings.{Role, placed, zoning, naming, role, gathered, zone_declared, string_declared}
use Rattle.format.specs.ZonesAndStrings.{zone_named, string_named, zones, strings, zoneless, nameless}
use Rattle.format.specs.Table.{element_breaks, PassKept, Keeps}
use Rattle.format.specs.Asked.{nth}
use Rattle.format.specs.declared.settings.Settings.{Settings}
use Rattle.format.specs.declared.records.Description.{Description}
use Rattle.format.specs.declared.records.Placement.{Placement}
use Rattle.format.proofs.Kept.{and-true, against_unbroken}
use Rattle.format.proofs.Growing.{gathered_append}
use Rattle.format.proofs.Strings.{naming_string, own_nth}
use Rattle.removal.specs.Parts.{Part, keep, leave}
use Rattle.removal.specs.Taking.{without, zones_named, strings_named, named_as, named}
use Rattle.removal.proofs.Parts.{part_same, part_before, part_numbers}
use Rattle.removal.proofs.Among.{In, Within, Apart, in_left, in_right, in_one, in_cases, within_right, part_within, one_apart}
use Rattle.removal.proofs.Passing.{fresh_exactly}
use Rattle.removal.proofs.Naming.{zoned_exactly, named_exactly}
use Rattle.removal.proofs.Keeping.{part_keeps}

-- the first list is the second with this one element taken out
data Out (r : Record) : List Record → List Record → Type 0 where
  here : {rs : List Record} → Out r rs (r ∷ rs)
  later : {s : Record} {ss rs : List Record} → Out r ss rs → Out r (s ∷ ss) (s ∷ rs)

out : (k : ℕ) (rs : List Record) {r : Record} → nth rs k ≡ some r → Out r (without k rs) rs
out k [] h = let z : ◌≡◌ {A = ℕ} 0 1 = cc in absurd (omega arith)
out zero (s ∷ rs) {r} h = let e : r ≡ s = cc in rw e here
out (suc k) (s ∷ rs) h = later (out k rs h)

out_part : {r : Record} {ss rs : List Record} → Out r ss rs → Part Record ss rs
out_part (here {rs}) = leave (part_same rs)
out_part (later o) = keep (out_part o)

pub without_part : (k : ℕ) (rs : List Record) {r : Record} → nth rs k ≡ some r → Part Record (without k rs) rs
without_part k rs at = out_part (out k rs at)

-- a number gathered with the element is its own, or is gathered without it
out_gathered :
    {r : Record} (own : List ℕ) (f : Role → List ℕ) {ss rs : List Record}
    → Out r ss rs
    → (x : ℕ)
    → In x (own ++ gathered f rs)
    → In x (f (role r)) ⊎ In x (own ++ gathered f ss)
out_gathered {r} own f (here {rs}) x i =
    ⊎_elim
    (λ j. inr (in_left x own (gathered f rs) j))
    (λ j. ⊎_map (λ e. e) (in_right x own (gathered f rs)) (in_cases x (f (role r)) (gathered f rs) j))
    (in_cases x own (f (role r) ++ gathered f rs) i)
out_gathered own f (later {s} o) x i =
    ⊎_map (λ e. e) (λ j. rw append_assoc at j) (out_gathered (own ++ f (role s)) f o x (rw append_assoc i))

-- 12: no number that an element declares is declared by another. Of zones and of strings alike
module _ (σ : Settings) (f : Role → List ℕ)
    (new : (before : List Record) (r : Record) → element_breaks σ before r ≡ none → Apart (f (role r)) (gathered f before)) where
  later_apart : (before rs : List Record) → PassKept σ before rs → Apart (gathered f rs) (gathered f before)
  later_apart before [] k x i j = false≢true i
  later_apart before (r ∷ rs) k x i j =
      ⊎_elim
      (λ e. new before r k.1 x e j)
      (λ e. later_apart (before ++ r ∷ []) rs k.2 x e (part_within (part_numbers f (part_before (r ∷ []) (part_same before))) x j))
      (in_cases x (f (role r)) (gathered f rs) i)

  out_apart :
      {r : Record} {ss rs : List Record}
      → Out r ss rs
      → (before : List Record)
      → PassKept σ before rs
      → Apart (f (role r)) (gathered f (before ++ ss))
  out_apart {r} (here {rs}) before k x i j =
      ⊎_elim
      (new before r k.1 x i)
      (λ e.
      later_apart (before ++ r ∷ []) rs k.2 x e
      (rw gathered_append (in_right x (gathered f before) (f (role r) ++ []) (in_left x (f (role r)) [] i))))
      (in_cases x (gathered f before) (gathered f rs) (rw gathered_append at j))
  out_apart (later {s} o) before k x i j = out_apart o (before ++ s ∷ []) k.2 x i (rw append_snoc j)

-- both tests of `fresh`
fresh_new :
    (σ : Settings) (before : List Record) (r : Record)
    → element_breaks σ before r ≡ none
    → Apart (zone_declared (role r)) (zones before) × Apart (string_declared (role r)) (strings before)
fresh_new σ before r h = (fresh_exactly before r).0 (against_unbroken σ before r h).fresh_12

-- 9: no string is numbered 0
unzero : (r : Record) → coded r ≡ true → Apart (string_declared (role r)) (0 ∷ [])
unzero r k = go (role r) refl
  where
    go : (p : Role) → role r ≡ p → Apart (string_declared p) (0 ∷ [])
    go (placed p) e x i j = false≢true i
    go (zoning bytes) e x i j = false≢true i
    go (naming bytes) e x i j =
        let c = subst (λ (s : Record). coded s ≡ true) (naming_string r bytes e) k in
        let n = (and-true (not (eqb (string_number bytes) 0)) (well_formed (text_of bytes)) c).0 in
        eqb-false (string_number bytes) 0 (not-true (eqb (string_number bytes) 0) n) (sym (in_one x (string_number bytes) i) ∙ in_one x 0 j)

-- no element names what it declares itself
self_zone : (p : Role) → Apart (zone_declared p) (zone_named p)
self_zone (placed p) x i j = false≢true i
self_zone (zoning b) x i j = false≢true j
self_zone (naming b) x i j = false≢true i

self_string : (p : Role) → Apart (string_declared p) (string_named p)
self_string (placed p) x i j = false≢true i
self_string (zoning b) x i j = false≢true i
self_string (naming b) x i j = false≢true j

-- 22, as a statement: none of the numbers that the element declares, at most one, is named
free_exactly :
    (d : Description) (rs : List Record) (p : Role)
    → (named_as d rs p ≡ false) ↔ (Apart (zone_declared p) (zones_named rs) × Apart (string_declared p) (strings_named d rs))
free_exactly d rs (placed p) = (λ h. (λ x i j. false≢true i, λ x i j. false≢true i), λ a. refl)
free_exactly d rs (zoning bytes) = (
  λ h. ((one_apart (zone_number bytes) (zones_named rs)).0 h, λ x i j. false≢true i),
  λ a. (one_apart (zone_number bytes) (zones_named rs)).1 a.0,
)
free_exactly d rs (naming bytes) = (
  λ h. (λ x i j. false≢true i, (one_apart (string_number bytes) (strings_named d rs)).0 h),
  λ a. (one_apart (string_number bytes) (strings_named d rs)).1 a.1,
)

-- 13 and 14 after taking one element out, alike: every number named is declared still exactly when what it declared is not named
module _ (names declares : Role → List ℕ) (own base : List ℕ) {r : Record} {ss rs : List Record} (o : Out r ss rs) where
  still :
      Within (own ++ gathered names rs) (base ++ gathered declares rs)
      → Apart (declares (role r)) (own ++ gathered names rs)
      → Within (own ++ gathered names ss) (base ++ gathered declares ss)
  still w free x i =
      let j = within_right own _ _ (part_within (part_numbers names (out_part o))) x i in
      ⊎_elim (λ e. absurd (free x e j)) (λ e. e) (out_gathered base declares o x (w x j))

  only_then :
      Apart (declares (role r)) (names (role r))
      → Apart (declares (role r)) (base ++ gathered declares ss)
      → Within (own ++ gathered names ss) (base ++ gathered declares ss)
      → Apart (declares (role r)) (own ++ gathered names rs)
  only_then self one w x i j = ⊎_elim (self x i) (λ e. one x i (w x e)) (out_gathered own names o x j)

-- THE THEOREM, of one element taken out anywhere
module _ (σ : Settings) (d : Description) {r : Record} {ss rs : List Record} (o : Out r ss rs) (k : Keeps σ d rs)
    (nine : coded r ≡ true) where
  lone_zone : Apart (zone_declared (role r)) (zones ss)
  lone_zone = out_apart σ zone_declared (λ before s h. (fresh_new σ before s h).0) o [] k.passed

  lone_string : Apart (string_declared (role r)) (0 ∷ strings ss)
  lone_string x i j =
      ⊎_elim
      (unzero r nine x i)
      (out_apart σ string_declared (λ before s h. (fresh_new σ before s h).1) o [] k.passed x i)
      (in_cases x (0 ∷ []) (strings ss) j)

  free_keeps : named d rs r ≡ false → Keeps σ d ss
  free_keeps h =
      let f = (free_exactly d rs (role r)).0 h in
      part_keeps d (out_part o) σ k
      ((zoned_exactly ss).1 (still zone_named zone_declared [] [] o ((zoned_exactly rs).0 k.zoned) f.0))
      ((named_exactly d ss).1 (still string_named string_declared (d.string ∷ []) (0 ∷ []) o ((named_exactly d rs).0 k.named) f.1))

  kept_free : zoneless ss ≡ none → nameless d ss ≡ none → named d rs r ≡ false
  kept_free z n =
      (free_exactly d rs (role r)).1 (
        only_then zone_named zone_declared [] [] o (self_zone (role r)) lone_zone ((zoned_exactly ss).0 z),
        only_then string_named string_declared (d.string ∷ []) (0 ∷ []) o (self_string (role r)) lone_string ((named_exactly d ss).0 n),
      )

-- .. of element k
module _ (σ : Settings) (d : Description) (rs : List Record) (k : ℕ) {r : Record} (kept : Keeps σ d rs) (at : nth rs k ≡ some r) where
  nine_of : coded r ≡ true
  nine_of = (own_nth σ [] rs k kept.passed at).codes_9

  pub taken_exactly : Keeps σ d (without k rs) ↔ (named d rs r ≡ false)
  taken_exactly = (
    λ k'. kept_free σ d (out k rs at) kept nine_of k'.zoned k'.named,
    λ h. free_keeps σ d (out k rs at) kept nine_of h,
  )

  -- Document 02's words. 'any element that is not a zone or a string can be removed .. and the result is accepted'
  pub placed_out : (p : Placement) → role r ≡ placed p → Keeps σ d (without k rs)
  placed_out p e = taken_exactly.1 (rw e refl)

  -- 'likewise a zone or string that nothing names'
  pub unnamed_out : named d rs r ≡ false → Keeps σ d (without k rs)
  unnamed_out h = taken_exactly.1 h

  -- 22: 'when something still names it', the others break 13 or, where they do not, 14
  pub named_stays :
      named d rs r ≡ true
      → ((p : ℕ) × (zoneless (without k rs) ≡ some p))
      ⊎ ((p : ℕ) × (zoneless (without k rs) ≡ none) × (nameless d (without k rs) ≡ some p))
  named_stays h = go (zoneless (without k rs)) refl (nameless d (without k rs)) refl
    where
      go :
          (z : Option ℕ)
          → zoneless (without k rs) ≡ z
          → (n : Option ℕ)
          → nameless d (without k rs) ≡ n
          → ((p : ℕ) × (zoneless (without k rs) ≡ some p))
          ⊎ ((p : ℕ) × (zoneless (without k rs) ≡ none) × (nameless d (without k rs) ≡ some p))
      go (some p) e n f = inl (p, e)
      go none e (some p) f = inr (p, e, f)
      go none e none f = absurd (false≢true (sym (kept_free σ d (out k rs at) kept nine_of e f) ∙ h))
