-- 'A list with a record that 8, 9, 10 or 25 would meet does not keep the rules', and the other way round: what append refuses by
-- these stands in no list that keeps the rules, and what it takes breaks none of them.
-- Assumes nothing.
use Prim.Native.Nat.{ℕ, ◌+◌}
use mathlib.Core.Path.{◌≡◌, refl, sym, subst}
use mathlib.Core.Bool.{Bool, true, false}
use mathlib.Core.List.{List, [], ◌∷◌, ◌++◌, append-nil, append_assoc}
use mathlib.Core.Option.{Option, none, some}
use lib.ListN.{length}
use lib.Dec.{leb}
use native.Mathlib.Omega.{arith}
use Rattle.format.specs.Slots.{Slot, written, all_roomy, Bytes}
use Rattle.format.specs.Records.{Record, element_of}
use Rattle.format.specs.Layout.{opening, fixed, part, layout, layouts}
use Rattle.format.specs.Pins.{among}
use Rattle.format.specs.Rules.{first_broken, own_rules, element_roomy}
use Rattle.format.specs.Table.{element_breaks, PassKept, Keeps}
use Rattle.format.specs.Writing.{writing, assemble, assembled_breaks, part_breaks, or_refused, has_room, length_stands, new_length, append_answer}
use Rattle.format.specs.declared.records.Description.{Description}
use Rattle.format.specs.declared.records.Element.{Element}
use Rattle.format.specs.Answers.{Written}
use Rattle.format.specs.Answers.{Gives as Length, Refused}
use Rattle.demands.proofs.Assembled.{body_roomy, kept_break}
use Rattle.demands.specs.Made.{MadeOf}
use Rattle.demands.proofs.Making.{makes, made, none_made}
use Rattle.format.proofs.Slots.{roomy_split}
use Rattle.format.proofs.Lengths.{layouts_append}
use Rattle.writer.proofs.Answering.{good, unbroken}
use Rattle.format.specs.declared.pins.Chip.{Chip}
use Rattle.format.specs.declared.settings.Settings.{Settings}

-- a record in the middle of a list that keeps the rules
module _ (σ : Settings) where
  pub passed_at :
      (xs before : List Record) (r : Record) (after : List Record)
      → PassKept σ xs (before ++ r ∷ after)
      → element_breaks σ (xs ++ before) r ≡ none
  passed_at xs [] r after h = subst (λ (l : List Record). element_breaks σ l r ≡ none) (sym (append-nil xs)) h.1
  passed_at xs (x ∷ before) r after h =
      subst (λ (l : List Record). element_breaks σ l r ≡ none) (append_assoc xs (x ∷ []) before)
      (passed_at (xs ++ x ∷ []) before r after h.2)

  pub layout_roomy :
      (d : Description) (before : List Record) (r : Record) (after : List Record)
      → Keeps σ d (before ++ r ∷ after)
      → all_roomy (layout r) ≡ true
  layout_roomy d before r after k =
      let rs = before ++ r ∷ after in
      let h = (roomy_split (opening d (16 + length (layouts rs))) (layouts rs) k.roomy_25).1 in
      let g = subst (λ (l : List Slot). all_roomy l ≡ true) (layouts_append before (r ∷ after)) h in
      (roomy_split (layout r) (layouts after) (roomy_split (layouts before) (layouts (r ∷ after)) g).1).0

module _ (chip : Chip) where
  pub record Unrefused (r : Record) : Type 0 where
    pub keeps : element_roomy (element_of r) ≡ true
    pub whole : part_breaks (writing chip) (element_of r) (written (part r)) ≡ none

  pub kept_unrefused :
      (d : Description) (before : List Record) (r : Record) (after : List Record)
      → Keeps (writing chip) d (before ++ r ∷ after)
      → Unrefused r
  kept_unrefused d before r after k =
      let q = roomy_split (fixed (element_of r)) (part r) (body_roomy r (layout_roomy (writing chip) d before r after k)) in
      record { keeps = q.0; whole = kept_break (writing chip) before r (passed_at (writing chip) [] before r after k.passed) q.1 }

  -- so append refuses it by 1, 3 and 16 alone
  abbrev pub of_the_buffer : Written → Bool
  of_the_buffer (Length n) = true
  of_the_buffer (Refused k p) = among k (1 ∷ 3 ∷ 16 ∷ [])

  or_buffer :
      (t : Bool) (k : ℕ) (w : Written)
      → among k (1 ∷ 3 ∷ 16 ∷ []) ≡ true
      → of_the_buffer w ≡ true
      → of_the_buffer (or_refused t k 0 w) ≡ true
  or_buffer true k w h g = g
  or_buffer false k w h g = h

  pub refused_keeps_none :
      (b : List ℕ) (d : Description) (before : List Record) (r : Record) (after : List Record)
      → Keeps (writing chip) d (before ++ r ∷ after)
      → of_the_buffer (append_answer chip b (element_of r) (written (part r))) ≡ true
  unfolding append_answer
  refused_keeps_none b d before r after k =
      let u = kept_unrefused d before r after k in
      let e = element_of r in
      let p = written (part r) in
      or_buffer (leb 16 (length b)) 1 _ refl
      (or_buffer (length_stands b) 3 _ refl
      (rw (u.keeps, u.whole) (or_buffer (has_room b (new_length b e p)) 16 (Length (new_length b e p)) refl refl)))

  -- what append takes is the element and the part of a record that breaks neither 25 nor 8, 9, 23 and 10
  pub record Takes (e : Element) (p : List ℕ) (r : Record) : Type 0 where
    pub of_them : MadeOf e p r
    pub room_25 : element_roomy e ≡ true
    pub own_rules_lem : first_broken (own_rules (writing chip) r) ≡ none

  pub taken_keeps :
      (b : List ℕ) (e : Element) (p : List ℕ) (m : ℕ) → Bytes p → append_answer chip b e p ≡ Length m → (r : Record) × Takes e p r
  unfolding part_breaks
  taken_keeps b e p m f w = go (assemble e p) refl (unbroken chip b e p m w)
    where
      go : (o : Option Record) → assemble e p ≡ o → assembled_breaks (writing chip) o ≡ none → (r : Record) × Takes e p r
      go none h k = let z : ◌≡◌ {A = ℕ} 0 1 = cc in absurd (omega arith)
      go (some r) h k = (r, record { of_them = makes r e p f h; room_25 = (good chip b e p m w).keeps; own_rules_lem = k })

  -- and 8 is answered where there is no such record, or one that breaks 8
  pub part_eight : (e : Element) (p : List ℕ) → Bytes p → ((r : Record) → MadeOf e p r → ⊥) → part_breaks (writing chip) e p ≡ some 8
  unfolding part_breaks
  part_eight e p f n = rw (none_made e p f n) refl

  pub part_faults :
      (e : Element) (p : List ℕ) (r : Record)
      → Bytes p
      → MadeOf e p r
      → part_breaks (writing chip) e p ≡ first_broken (own_rules (writing chip) r)
  unfolding part_breaks
  part_faults e p r f m = rw (made r e p f m) refl
