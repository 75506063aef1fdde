-- What the bytes at the old place tell of an element that is kept: 13 and 14.
-- Assumes nothing.
use Prim.Native.Nat.{ℕ}
use mathlib.Core.Path.{◌≡◌, refl, sym, ◌∙◌, ap}
use mathlib.Core.Bool.{Bool, true, false, cond}
use mathlib.Core.List.{List, [], ◌∷◌}
use Rattle.format.specs.Records.{Record}
use Rattle.format.specs.Pins.{among}
use Rattle.format.specs.ZonesAndStrings.{role, zone_named, string_named, all_among}
use Rattle.format.specs.Writing.{writing}
use Rattle.format.specs.declared.pins.Chip.{Chip}
use Rattle.format.proofs.Kept.{own_kept}
use Rattle.places.specs.Walks.{RoleBytes}
use Rattle.places.proofs.Roles.{role_bytes}
use Rattle.walking.specs.Walk.{Here}
use Rattle.removal.proofs.Among.{In, in_one, within_all}
use Rattle.saving.specs.Saving.{At, at_place, unindexed, by_zone, by_string}
use Rattle.saving.proofs.Clearing.{Alike, alike_same, unindexed_alike, unindexed_named}
use Rattle.fates.specs.Noted.{Keeps, as_kept, Tells}
use Rattle.claims.specs.declared.Held.{Held}
use Rattle.fates.specs.declared.Kept.{Kept}
use Rattle.fates.specs.declared.Fate.{Fate}
use Rattle.fates.specs.declared.Fate.TheVariants.{Stays, Leaves, Mends}
use Rattle.sifting.specs.Stages.{JudgeIs, JudgeZone, JudgeString, JudgeClaim}
use Rattle.sifting.specs.declared.Stage.{Stage}
use Rattle.sifting.specs.declared.Stage.TheVariants.{Zones, Strings, Pins}
use Rattle.sifting.specs.declared.Judged.{Judged}

-- a record as it is kept differs at most in its index from the one that stands there
pub kept_alike : (clear : Bool) (r : Record) → Alike (as_kept clear r) r
kept_alike clear r = go clear
  where
    go : (t : Bool) → Alike (cond t (unindexed r) r) r
    go true = unindexed_alike r
    go false = alike_same r

module _ (c : Chip) (t : List ℕ) (n : Kept) (k : At Record) (h : Keeps c t n k) where
  pub role_there : RoleBytes t n.place (role h.r)
  role_there =
      rw h.place
      (role_bytes t k.place h.r h.here.stands.rest h.here.stands.starts
      (own_kept (writing c) h.r h.unbroken).shape_8)

  pub here_there : Here c t n.place h.r
  here_there = rw h.place h.here

  -- an element that stays as it is
  pub keeps_same : Keeps c t n (at_place k.place k.what)
  keeps_same = record { r = h.r; here = h.here; unbroken = h.unbroken; place = h.place; what = h.what }

  -- its zone
  pub zone_same : all_among (zone_named (role k.what)) ≡ all_among (zone_named (role h.r))
  zone_same = rw h.what (ap (λ (l : List ℕ). all_among l) (kept_alike n.cleared h.r).zone_n)

  pub zone_stays :
      (ns : List ℕ) (kept : List Record) (m : Bool)
      → m ≡ all_among (zone_named (role h.r)) ns
      → m ≡ true
      → Tells c t n k.place Stays (by_zone ns kept k.what)
  zone_stays ns kept m e z =
      let q : all_among (zone_named (role k.what)) ns ≡ true = ap (λ f. f ns) zone_same ∙ sym e ∙ z in
      rw q keeps_same

  pub zone_leaves :
      (ns : List ℕ) (kept : List Record) (m : Bool) → m ≡ all_among (zone_named (role h.r)) ns → m ≡ false → Tells c t n k.place
      (Leaves 13) (by_zone ns kept k.what)
  zone_leaves ns kept m e z =
      let q : all_among (zone_named (role k.what)) ns ≡ false = ap (λ f. f ns) zone_same ∙ sym e ∙ z in
      rw q (refl, h.place)

  -- its string index, as it stands there or cleared
  even_what : n.cleared ≡ false → k.what ≡ h.r
  even_what e = h.what ∙ rw e refl

  odd_what : n.cleared ≡ true → k.what ≡ unindexed h.r
  odd_what e = h.what ∙ rw e refl

  pub cleared_stays :
      (ns : List ℕ) (kept : List Record)
      → n.cleared ≡ true
      → among 0 ns ≡ true
      → Tells c t n k.place Stays (by_string ns kept k.what)
  cleared_stays ns kept e z =
      let q : all_among (string_named (role k.what)) ns ≡ true =
      rw (odd_what e) (within_all (string_named (role (unindexed h.r))) ns (λ x i. only_zero x (unindexed_named h.r x i))) in
      rw q keeps_same
    where
      only_zero : (x : ℕ) → In x (0 ∷ []) → In x ns
      only_zero x i = rw (in_one x 0 i) z

  pub string_stays :
      (ns : List ℕ) (kept : List Record) (m : Bool)
      → n.cleared ≡ false
      → m ≡ all_among (string_named (role h.r)) ns
      → m ≡ true
      → Tells c t n k.place Stays (by_string ns kept k.what)
  string_stays ns kept m e f z =
      let q : all_among (string_named (role k.what)) ns ≡ true = rw (even_what e) (sym f ∙ z) in
      rw q keeps_same

  pub string_mends :
      (ns : List ℕ) (kept : List Record) (m : Bool)
      → n.cleared ≡ false
      → m ≡ all_among (string_named (role h.r)) ns
      → m ≡ false
      → Tells c t n k.place Mends (by_string ns kept k.what)
  string_mends ns kept m e f z =
      let q : all_among (string_named (role k.what)) ns ≡ false = rw (even_what e) (sym f ∙ z) in
      rw q (
        record {
          r = h.r;
          here = h.here;
          unbroken = h.unbroken;
          place = h.place;
          what = rw (even_what e) refl;
        },
        h.place,
      )

-- by the pass
module _ (c : Chip) (stage : Stage) (t : List ℕ) (n : Kept) (l : List Bool) (h : Held) (r : Judged) where
  pub zone_judges : (f : Fate) → stage ≡ Zones → JudgeZone c t n l f → (r.fate ≡ f) × (r.held ≡ h) → JudgeIs c stage t n l h r
  zone_judges f is z e = rw is (record { judges = λ d ns kept k keeps marks carries. (rw e.0 (z ns kept k keeps marks), tt) })

  pub string_judges : (f : Fate) → stage ≡ Strings → JudgeString c t n l f → (r.fate ≡ f) × (r.held ≡ h) → JudgeIs c stage t n l h r
  string_judges f is z e = rw is (record { judges = λ d ns kept k keeps marks zero. (rw e.0 (z ns kept k keeps marks zero), zero) })

  pub claim_judges : stage ≡ Pins → JudgeClaim c t n h r → JudgeIs c stage t n l h r
  claim_judges is z = rw is (record { judges = λ d ns kept k keeps marks carries. z d kept k keeps carries })
