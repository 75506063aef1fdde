-- 15: an element's claims after those of the kept ones, places aside.
-- Assumes nothing.
use Prim.Native.Nat.{ℕ}
use native.Mathlib.Omega.{arith}
use mathlib.Core.Path.{◌≡◌, refl, sym, ◌∙◌, ap, subst}
use mathlib.Core.Bool.{Bool, true, false, ◌&&◌, not}
use mathlib.Core.List.{List, [], ◌∷◌, ◌++◌}
use mathlib.Core.Option.{Option, none, some}
use lib.Dec.{eqb}
use borrow.Author.Tests.{eq-eqb, ne_eqb}
use Rattle.format.specs.Records.{Record, element_of}
use Rattle.format.specs.Layout.{place_after}
use Rattle.format.specs.Rules.{pinned, unless_kept}
use Rattle.format.specs.Claims.{Claim, clashes, Made, made_at, first_clash, claims_of, claims, contested}
use Rattle.format.specs.Writing.{writing}
use Rattle.format.specs.declared.pins.Chip.{Chip}
use Rattle.format.specs.declared.records.Description.{Description}
use Rattle.format.specs.declared.records.Element.{Element}
use Rattle.format.proofs.Kept.{own_kept}
use Rattle.format.proofs.Growing.{claims_snoc}
use Rattle.claims.specs.Taken.{ClaimsAre, HeldIs, whats, free, is_none}
use Rattle.claims.specs.declared.Held.{Held}
use Rattle.claims.specs.declared.Claims.{Claims}
use Rattle.claims.proofs.Firsts.{place_none}
use Rattle.claiming.specs.Bare.{bare}
use Rattle.claiming.proofs.Bare.{bare_same}
use Rattle.saving.specs.Saving.{At, by_claim}
use Rattle.saving.specs.Saving as saving
use Rattle.fates.specs.Noted.{Keeps, Tells}
use Rattle.fates.specs.declared.Kept.{Kept}
use Rattle.fates.specs.declared.Fate.TheVariants.{Stays, Leaves}
use Rattle.sifting.specs.Stages.{Claimed, afterwards}
use Rattle.sifting.proofs.Judging.{kept_alike, keeps_same}

-- whether a list of claims clashes does not go by the places
kept_none : (t : Bool) (p : ℕ) (o : Option ℕ) → is_none (unless_kept t p o) ≡ t && is_none o
kept_none true p o = refl
kept_none false p o = refl

free_none : (e : List Claim) (ms : List Made) → is_none (first_clash e ms) ≡ free e (whats ms)
free_none e [] = refl
free_none e (m ∷ ms) =
    kept_none (not (clashes m.what e)) m.place (first_clash (m.what ∷ e) ms)
    ∙ ap (λ (b : Bool). not (clashes m.what e) && b) (free_none (m.what ∷ e) ms)

whats_append : (ms ns : List Made) → whats (ms ++ ns) ≡ whats ms ++ whats ns
whats_append [] ns = refl
whats_append (m ∷ ms) ns = ap (λ (l : List Claim). m.what ∷ l) (whats_append ms ns)

whats_made : (p : ℕ) (cs : List Claim) → whats (made_at p cs) ≡ cs
whats_made p [] = refl
whats_made p (x ∷ cs) = ap (λ (l : List Claim). x ∷ l) (whats_made p cs)

same_none : (o : Option ℕ) → is_none o ≡ saving.is_none o
same_none none = refl
same_none (some p) = refl

none_is : (o : Option ℕ) → saving.is_none o ≡ true → o ≡ none
none_is none h = refl
none_is (some p) h = let z : ◌≡◌ {A = ℕ} 0 1 = cc in absurd (omega arith)

module _ (c : Chip) (t : List ℕ) (n : Kept) (k : At Record) (h : Keeps c t n k) (d : Description) (kept : List Record) (held : Held)
    (w : Claimed d kept held) where
  -- its claims
  pub claims_there :
      (e : Element) (cs : Claims)
      → e ≡ element_of h.r
      → ((x : Chip) → pinned x (bare e) ≡ true → ClaimsAre cs (claims_of (bare e)))
      → ClaimsAre cs (claims_of k.what)
  claims_there e cs same f =
      let b = bare_same c h.r in
      let p = (own_kept (writing c) h.r h.unbroken).pins_10 in
      let g =
      subst (λ (x : Element). (y : Chip) → pinned y (bare x) ≡ true → ClaimsAre cs (claims_of (bare x))) same f in
      rw (h.what, (kept_alike n.cleared h.r).claims, ← b.0) (g c (b.1 ∙ p))

  module _ (next : Held) (p : ℕ) (is : HeldIs next (w.made ++ made_at p (claims_of k.what))) where
    abbrev more : List Made
    more = w.made ++ made_at p (claims_of k.what)

    same_whats : whats more ≡ whats (claims d (kept ++ k.what ∷ []))
    same_whats =
        whats_append w.made (made_at p (claims_of k.what))
        ∙ ap (λ (l : List Claim). l ++ whats (made_at p (claims_of k.what))) w.same
        ∙ ap (λ (l : List Claim). whats (claims d kept) ++ l)
        (whats_made p (claims_of k.what) ∙ sym (whats_made (place_after kept) (claims_of k.what)))
        ∙ sym (whats_append (claims d kept) (made_at (place_after kept) (claims_of k.what)))
        ∙ ap whats (sym (claims_snoc d kept k.what))

    test : eqb next.clash 65536 ≡ saving.is_none (contested d (kept ++ k.what ∷ []))
    test =
        ap (λ (m : ℕ). eqb m 65536) is.clash_at
        ∙ place_none more [] is.low
        ∙ free_none [] more
        ∙ ap (free []) same_whats
        ∙ sym (free_none [] (claims d (kept ++ k.what ∷ [])))
        ∙ same_none (contested d (kept ++ k.what ∷ []))

    pub claim_stays :
        next.clash ≡ 65536
        → Tells c t n k.place Stays (by_claim d kept k.what) × Claimed d (afterwards kept (by_claim d kept k.what)) next
    claim_stays e =
        let q : saving.is_none (contested d (kept ++ k.what ∷ [])) ≡ true = sym test ∙ eq-eqb next.clash 65536 e in
        rw q (
          keeps_same c t n k h,
          record { made = more; held = is; same = same_whats; clear = none_is (contested d (kept ++ k.what ∷ [])) q },
        )

    pub claim_leaves :
        (next.clash ≡ 65536 → ⊥)
        → Tells c t n k.place (Leaves 15) (by_claim d kept k.what) × Claimed d (afterwards kept (by_claim d kept k.what)) held
    claim_leaves e =
        let q : saving.is_none (contested d (kept ++ k.what ∷ [])) ≡ false = sym test ∙ ne_eqb next.clash 65536 e in
        rw q ((refl, h.place), w)
