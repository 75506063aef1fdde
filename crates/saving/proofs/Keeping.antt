-- 'The output is always accepted', of the records: each pass over what is kept brings the rules one nearer, and takes none back.
-- Assumes nothing.
use Prim.Native.Nat.{ℕ, ◌+◌, ◌≤◌}
use native.Mathlib.Omega.{arith}
use mathlib.Core.Path.{◌≡◌, refl, sym, ◌∙◌, ap, subst}
use mathlib.Core.Bool.{true, false, false≢true, true≢false}
use mathlib.Core.List.{List, [], ◌∷◌, ◌++◌, append-nil}
use mathlib.Core.Logic.{◌⊎◌, inl, inr, ⊎_elim}
use mathlib.Core.Option.{Option, none, some}
use lib.ListN.{length, length-drop}
use Rattle.format.specs.Slots.{all_roomy, Bytes}
use Rattle.format.specs.Records.{Record, digital, analogue, fan, led, water, pump, voltage, current, controller, tachometer, zone, string}
use Rattle.format.specs.Records.{external, rgb}
use Rattle.format.specs.Layout.{opening, layouts}
use Rattle.format.specs.ZonesAndStrings.{Role, placed, zoning, naming, role, gathered, zone_declared, string_declared, zone_named}
use Rattle.format.specs.ZonesAndStrings.{string_named, zones, strings, all_among}
use Rattle.format.specs.Claims.{Made, claims_of, made_at, claims, first_clash, contested}
use Rattle.format.specs.Layout.{place_after}
use Rattle.format.specs.Table.{description_breaks, PassKept, Keeps}
use Rattle.format.specs.declared.records.Placement.{Placement}
use Rattle.format.specs.declared.records.Description.{Description}
use Rattle.format.specs.declared.settings.Settings.{Settings}
use Rattle.format.proofs.Slots.{roomy_join}
use Rattle.format.proofs.Growing.{gathered_snoc, claims_snoc}
use Rattle.removal.specs.Parts.{Part}
use Rattle.removal.specs.Taking.{zones_named, strings_named}
use Rattle.removal.proofs.Parts.{part_length, part_slots, part_numbers, part_roomy_lem}
use Rattle.removal.proofs.Among.{In, Within, in_one, in_cases, all_within, part_within}
use Rattle.removal.proofs.Passing.{part_passed}
use Rattle.removal.proofs.Naming.{zoned_exactly, named_exactly}
use Rattle.saving.specs.Saving.{is_none, Saved, records, zoned, string_indexes, mended_description, first_line, named, unclashed}
use Rattle.saving.specs.Saving.{passed, in_zones, ending}
use Rattle.saving.proofs.Alike.{EachAlike, no_more, alike_gathered, alike_length, alike_roomy, alike_passed}
use Rattle.saving.proofs.Reading.{pass_saved}
use Rattle.saving.proofs.Choosing.{choose_holds, choose_gathered, part_records, in_zone, clashless, zoned_part, unclashed_part}
use Rattle.saving.proofs.Mending.{mended_kept, each_alike, all_named, mended_described, mended_claims, mended_opening, mended_string}

pub none_is : (o : Option ℕ) → is_none o ≡ true → o ≡ none
none_is none h = refl
none_is (some k) h = absurd (false≢true h)

-- 13: what has no declared zone declares none, so that all that were declared still are
pub bare_zone : (declared : List ℕ) (p : Role) → all_among (zone_named p) declared ≡ false → zone_declared p ≡ []
bare_zone declared (placed p) e = refl
bare_zone declared (zoning bytes) e = absurd (true≢false e)
bare_zone declared (naming bytes) e = refl

pub within_snoc :
    (numbers : Role → List ℕ) (kept : List Record) (r : Record) (ys : List ℕ)
    → Within (gathered numbers kept) ys
    → Within (numbers (role r)) ys
    → Within (gathered numbers (kept ++ r ∷ [])) ys
within_snoc numbers kept r ys w v x i =
    ⊎_elim (w x) (v x) (in_cases x (gathered numbers kept) (numbers (role r)) (rw (gathered_snoc numbers kept r) at i))

pub zones_declared : (s : Saved) → Within (zones_named (records (zoned s).kept)) (zones (records (zoned s).kept))
zones_declared s =
    let zs = zones (records s.kept) in
    let same : zones (records (zoned s).kept) ≡ zs =
    choose_gathered (in_zone zs) 13 (λ kept. Unit {0}) (λ kept r k e. tt) zone_declared (λ kept r k e. bare_zone zs (role r) e)
    s.lines s.kept tt in
    rw same
    (choose_holds (in_zone zs) 13 (λ kept. Within (zones_named kept) zs)
    (λ kept r w e. within_snoc zone_named kept r zs w (all_within (zone_named (role r)) zs e))
    s.lines s.kept (λ x i. absurd (false≢true i)))

-- 15: what is in no zone claims no pin, so that zone descriptors and strings all stay
unclaiming :
    (numbers : Role → List ℕ)
    → ((p : Placement) → numbers (placed p) ≡ [])
    → (r : Record)
    → (numbers (role r) ≡ []) ⊎ (claims_of r ≡ [])
unclaiming numbers bare (digital d) = inl (bare d.placement)
unclaiming numbers bare (analogue a) = inl (bare a.placement)
unclaiming numbers bare (fan f) = inl (bare f.placement)
unclaiming numbers bare (led l) = inl (bare l.placement)
unclaiming numbers bare (water w) = inl (bare w.placement)
unclaiming numbers bare (pump f) = inl (bare f.placement)
unclaiming numbers bare (voltage v) = inl (bare v.placement)
unclaiming numbers bare (current c) = inl (bare c.placement)
unclaiming numbers bare (controller d bs) = inl (bare d.placement)
unclaiming numbers bare (tachometer d a b) = inl (bare d.placement)
unclaiming numbers bare (zone bytes) = inr refl
unclaiming numbers bare (string bytes) = inr refl
unclaiming numbers bare (external x r g b) = inl (bare x.device.placement)
unclaiming numbers bare (rgb r) = inl (bare r.placement)

module _ (d : Description) where
  clear_snoc : (kept : List Record) (r : Record) → claims_of r ≡ [] → contested d (kept ++ r ∷ []) ≡ contested d kept
  clear_snoc kept r e =
      ap (λ (l : List Made). first_clash [] l)
      (claims_snoc d kept r ∙ ap (λ l. claims d kept ++ made_at (place_after kept) l) e ∙ append-nil (claims d kept))

  pub clear_kept : (s : Saved) → contested d [] ≡ none → contested d (records (unclashed d s).kept) ≡ none
  clear_kept s h =
      choose_holds (clashless d) 15 (λ kept. contested d kept ≡ none) (λ kept r k e. none_is (contested d (kept ++ r ∷ [])) e)
      s.lines s.kept h

  pub clashing_bare :
      (numbers : Role → List ℕ)
      → ((p : Placement) → numbers (placed p) ≡ [])
      → (kept : List Record) (r : Record)
      → contested d kept ≡ none
      → clashless d kept r ≡ false
      → numbers (role r) ≡ []
  clashing_bare numbers bare kept r k e =
      ⊎_elim (λ n. n) (λ c. absurd (true≢false (sym (ap is_none (clear_snoc kept r c ∙ k)) ∙ e))) (unclaiming numbers bare r)

  pub clear_gathered :
      (numbers : Role → List ℕ)
      → ((p : Placement) → numbers (placed p) ≡ [])
      → (s : Saved)
      → contested d [] ≡ none
      → gathered numbers (records (unclashed d s).kept) ≡ gathered numbers (records s.kept)
  clear_gathered numbers bare s h =
      choose_gathered (clashless d) 15 (λ kept. contested d kept ≡ none) (λ kept r k e. none_is (contested d (kept ++ r ∷ [])) e) numbers
      (λ kept r k e. clashing_bare numbers bare kept r k e) s.lines s.kept h

-- 14: the description's index and the elements'
pub named_within :
    (e : Description) (declared : List ℕ) {out mid : List Record}
    → Part Record out mid
    → In e.string (0 ∷ declared)
    → Within (gathered string_named mid) (0 ∷ declared)
    → Within (strings_named e out) (0 ∷ declared)
named_within e declared {out = out} p h w x i =
    ⊎_elim (λ q. subst (λ (y : ℕ). In y (0 ∷ declared)) (sym (in_one x e.string q)) h) (λ q. w x (part_within (part_numbers string_named p) x q))
    (in_cases x (e.string ∷ []) (gathered string_named out) i)

-- what is kept once undeclared zones are dealt with
pub record InZones (σ : Settings) (rs : List Record) : Type 0 where
  pub passed_12 : PassKept σ [] rs
  pub zoned_13 : Within (zones_named rs) (zones rs)
  pub roomy_25 : all_roomy (layouts rs) ≡ true
  pub limit_3 : 16 + length (layouts rs) ≤ 4096

pub in_zones_lem : (σ : Settings) (b : List ℕ) → Bytes b → length b ≤ 4096 → InZones σ (records (in_zones σ b).kept)
in_zones_lem σ b small top =
    let s = passed σ b in
    let h = pass_saved σ b small in
    let p = part_records (zoned_part s) in
    record {
      passed_12 = part_passed σ p h.kept;
      zoned_13 = zones_declared s;
      roomy_25 = part_roomy_lem (part_slots p) h.roomy;
      limit_3 = omega (arith, part_length (part_slots p), h.short, length-drop 16 b);
    }

-- what salvage asks of the description: no 24, and bytes that it stands in
pub record Sound (σ : Settings) (d : Description) : Type 0 where
  pub room : (n : ℕ) → n ≤ 4096 → all_roomy (opening d n) ≡ true
  pub described : description_breaks σ.chip d ≡ none
  pub clear : contested d [] ≡ none

-- THE THEOREM, of the records
module _ (σ : Settings) (d : Description) (z : Saved) (sound : Sound σ d) (h : InZones σ (records z.kept)) where
  pub ending_keeps : Keeps σ (mended_description (string_indexes z) d) (records (ending d z).kept)
  ending_keeps =
      let is : List ℕ = string_indexes z in
      let e = mended_description is d in
      let was = records z.kept in
      let mid = records (named d z).kept in
      let out = records (ending d z).kept in
      let a : EachAlike mid was = rw (mended_kept is (z.lines ++ first_line is d) z.kept) (each_alike is z.kept) in
      let w : Within (gathered string_named mid) is =
      rw (mended_kept is (z.lines ++ first_line is d) z.kept) (all_named (strings was) z.kept) in
      let p : Part Record out mid = part_records (unclashed_part d (named d z)) in
      let zs : zones out ≡ zones was =
      clear_gathered d zone_declared (λ q. refl) (named d z) sound.clear ∙ alike_gathered zone_declared (λ s r l. l.zone_d) a in
      let ss : strings out ≡ strings was =
      clear_gathered d string_declared (λ q. refl) (named d z) sound.clear ∙ alike_gathered string_declared (λ s r l. l.string_d) a in
      let short : 16 + length (layouts out) ≤ 4096 = omega (arith, part_length (part_slots p), alike_length a, h.limit_3) in
      record {
        roomy_25 =
            roomy_join (opening e (16 + length (layouts out))) (layouts out)
            (mended_opening is d (16 + length (layouts out)) (sound.room (16 + length (layouts out)) short))
            (part_roomy_lem (part_slots p) (alike_roomy a h.roomy_25));
        limit = omega (arith, short);
        described = mended_described is d σ.chip ∙ sound.described;
        passed = part_passed σ p (alike_passed σ no_more a h.passed_12);
        zoned =
            (zoned_exactly out).1
            (λ x i.
            rw zs (h.zoned_13 x (rw (alike_gathered zone_named (λ s r l. l.zone_n) a) at (part_within (part_numbers zone_named p) x i))));
        named = (named_exactly e out).1 (rw ss (named_within e (strings was) p (mended_string (strings was) d) w));
        clear = mended_claims is d out ∙ clear_kept d (named d z) sound.clear;
      }
