-- No second outcome keeps the words of `remove`: there is only one list of records and only one verdict. And 22 is answered exactly when
-- the closed-up table would be refused.
-- Assumes nothing.
use Prim.Native.Nat.{ℕ, ◌-◌}
use native.Mathlib.Omega.{arith}
use mathlib.Core.Path.{◌≡◌, refl, sym, ◌∙◌, ap, subst}
use mathlib.Core.Bool.{Bool, true, false, false≢true}
use mathlib.Core.List.{List}
use mathlib.Core.Logic.{◌↔◌}
use mathlib.Core.Option.{some}
use lib.ListN.{length}
use Rattle.format.specs.Slots.{Bytes}
use Rattle.format.specs.Records.{Record}
use Rattle.format.specs.Layout.{layout}
use Rattle.format.specs.Verdict.{Accepts, Verdict}
use Rattle.format.specs.Asked.{nth}
use Rattle.format.specs.Writing.{writing}
use Rattle.format.specs.declared.pins.Chip.{Chip}
use Rattle.format.specs.declared.records.Description.{Description}
use Rattle.format.specs.Answers.{Refused as RefusedTable}
use Rattle.format.specs.Answers.{Written}
use Rattle.format.specs.Answers.{Gives as Length, Refused}
use Rattle.format.proofs.Demand3.{unique, only_one_list}
use Rattle.format.proofs.Asking.{never_both}
use Rattle.removal.specs.Taking.{named, place_of, closed_up, closed}
use Rattle.removal.proofs.Closing.{refused_exactly}
use Rattle.removing.specs.Removed.{Removed, refused, judged, Taken, past, stays_named, out}

no : ◌≡◌ {A = ℕ} 0 1 → ⊥
no z = omega arith

-- of the same records
only_taken :
    (b : List ℕ) (d : Description) (rs : List Record) (k : ℕ) (w w' : Written) (c c' : List ℕ)
    → Taken b d rs k w c
    → Taken b d rs k w' c'
    → (w ≡ w') × (c ≡ c')
only_taken b d rs k w w' c c' (past n) (past n') = (refl, refl)
only_taken b d rs k w w' c c' (past n) (stays_named n' h') = absurd (no (cc))
only_taken b d rs k w w' c c' (past n) (out n' h') = absurd (no (cc))
only_taken b d rs k w w' c c' (stays_named n h) (past n') = absurd (no (cc))
only_taken b d rs k w w' c c' (stays_named n h) (stays_named n' h') = (refl, refl)
only_taken b d rs k w w' c c' (stays_named {r = r} n h) (out {r = r'} n' h') =
    let e : r ≡ r' = cc in
    absurd (false≢true (sym h' ∙ ap (named d rs) (sym e) ∙ h))
only_taken b d rs k w w' c c' (out n h) (past n') = absurd (no (cc))
only_taken b d rs k w w' c c' (out {r = r} n h) (stays_named {r = r'} n' h') =
    let e : r ≡ r' = cc in
    absurd (false≢true (sym h ∙ ap (named d rs) e ∙ h'))
only_taken b d rs k w w' c c' (out {r = r} n h) (out {r = r'} n' h') =
    let e : r ≡ r' = cc in (
      ap (λ (x : Record). Length (length b - length (layout x))) e,
      ap (λ (x : Record). closed b (place_of rs k) (length (layout x))) e,
    )

module _ (chip : Chip) (b : List ℕ) (k : ℕ) (small : Bytes b) where
  pub only_remove : (w w' : Written) (c c' : List ℕ) → Removed chip b k w c → Removed chip b k w' c' → (w ≡ w') × (c ≡ c')
  only_remove w w' c c' (judged d rs a t) (judged d' rs' a' t') =
      let q = only_one_list (writing chip) b d d' rs rs' small a a' in
      only_taken b d rs k w w' c c' t
      (subst (λ (x : Description). Taken b x rs k w' c') (sym q.0) (subst (λ (l : List Record). Taken b d' l k w' c') (sym q.1) t'))
  only_remove w w' c c' (judged d rs a t) (refused v) = absurd (never_both (writing chip) b d rs small a v)
  only_remove w w' c c' (refused v) (judged d rs a t) = absurd (never_both (writing chip) b d rs small a v)
  only_remove w w' c c' (refused {j = j} {p = p} v) (refused {j = j'} {p = p'} v') =
      let q = unique (writing chip) b (RefusedTable j p) (RefusedTable j' p') small v v' in
      (cc, refl)

  -- '22 exactly when the closed-up table would be refused'
  module _ (d : Description) (rs : List Record) {r : Record} (a : Accepts (writing chip) b d rs) (at : nth rs k ≡ some r) where
    by_name :
        (t : Bool)
        → named d rs r ≡ t
        → (w : Written) (c : List ℕ)
        → Removed chip b k w c
        → (w ≡ Refused 22 (place_of rs k)) ↔ (t ≡ true)
    by_name true e w c x = (λ q. refl, λ q. (only_remove w _ c b x (judged d rs a (stays_named at e))).0)
    by_name false e w c x =
        let s = (only_remove w _ c _ x (judged d rs a (out at e))).0 in
        (λ q. absurd (no (cc)), λ q. absurd (false≢true q))

    pub twenty_two_exactly :
        (w : Written) (c : List ℕ)
        → Removed chip b k w c
        → (w ≡ Refused 22 (place_of rs k))
        ↔ ((j : ℕ) × (p : ℕ) × Verdict (writing chip) (closed_up b (place_of rs k) (length (layout r))) (RefusedTable j p))
    twenty_two_exactly w c x =
        let n = by_name (named d rs r) refl w c x in
        let v = refused_exactly (writing chip) b d rs k a at small in
        (λ q. v.0 (n.0 q), λ q. n.1 (v.1 q))
