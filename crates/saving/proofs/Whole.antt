-- 'An accepted table comes out with reserved places at zero and no lines': nothing is left out and nothing is cleared.
-- Assumes nothing.
use Prim.Native.Nat.{ℕ, zero, suc, ◌+◌, ◌≤◌}
use native.Mathlib.Omega.{arith}
use mathlib.Core.Path.{◌≡◌, refl, sym, ◌∙◌, ap}
use mathlib.Core.Bool.{Bool, cond}
use mathlib.Core.List.{List, [], ◌∷◌, ◌++◌, append-nil}
use mathlib.Core.Option.{none}
use lib.ListN.{length, drop, length-drop}
use lib.Seq.{append_snoc}
use borrow.Author.Tests.{lt-ltb}
use Rattle.format.specs.Slots.{Fits}
use Rattle.format.specs.Records.{Record}
use Rattle.format.specs.Layout.{layout, layouts}
use Rattle.format.specs.ZonesAndStrings.{role, gathered, zone_named, string_named, zones, zoneless, nameless}
use Rattle.format.specs.Claims.{contested}
use Rattle.format.specs.Table.{PassKept}
use Rattle.format.specs.Verdict.{stated}
use Rattle.format.specs.declared.records.Description.{Description}
use Rattle.format.specs.declared.settings.Settings.{Settings}
use Rattle.format.proofs.Slots.{starts_split, starts_length}
use Rattle.format.proofs.Decoding.{starts_stated, starts_next}
use Rattle.format.proofs.Stepping.{starts_framed, step_took}
use Rattle.removal.specs.Parts.{keep}
use Rattle.removal.proofs.Parts.{part_none, part_same, part_append}
use Rattle.removal.proofs.Among.{Within, in_here, in_left, in_right, within_all}
use Rattle.removal.proofs.Naming.{zoned_exactly, named_exactly}
use Rattle.removal.proofs.Claims.{part_uncontested}
use Rattle.saving.specs.Saving.{at_place, is_none, Saved, saved, records, Fate, stays, settled, standing, sift, by_pass, zoned}
use Rattle.saving.specs.Saving.{string_indexes, named, unclashed}
use Rattle.saving.proofs.Reading.{records_append}
use Rattle.saving.proofs.Choosing.{choose_all, in_zone, clashless}
use Rattle.saving.proofs.Mending.{mended_all}

-- the pass over elements that break none of its rules
module _ (σ : Settings) where
  pub pass_whole :
      (rs : List Record) (n p : ℕ) (bs : List ℕ) (s : Saved)
      → length bs ≤ n
      → Fits bs (layouts rs)
      → PassKept σ (records s.kept) rs
      → (records (sift (by_pass σ) s (standing n p bs)).kept ≡ records s.kept ++ rs)
      × ((sift (by_pass σ) s (standing n p bs)).lines ≡ s.lines)
  pass_whole [] zero p bs s h f k = (sym (append-nil (records s.kept)), refl)
  pass_whole [] (suc n) p bs s h f k = rw f (sym (append-nil (records s.kept)), refl)
  pass_whole (r ∷ rs) zero p bs s h f k =
      let m = starts_split bs (layout r) (layouts rs) [] f in
      absurd (omega (arith, starts_length bs (layout r) m.0 m.1))
  pass_whole (r ∷ rs) (suc n) p bs s h f k =
      let m = starts_split bs (layout r) (layouts rs) [] f in
      let st = m.1 in
      let long = starts_stated bs r m.0 st in
      let same : m.0 ≡ drop (stated bs) bs = starts_next bs r m.0 st in
      let t : Saved = saved (s.kept ++ at_place p r ∷ []) s.lines in
      let more =
      pass_whole rs n (p + stated bs) (drop (stated bs) bs) t (omega (arith, long, length-drop (stated bs) bs)) (rw same at m.2)
      (rw (records_append s.kept (at_place p r ∷ [])) k.2) in
      let fate : by_pass σ (records s.kept) bs ≡ stays r =
      rw (lt-ltb (length (records s.kept)) 96 k.0, step_took σ (records s.kept) bs r m.0 k.0 k.1 st) refl in
      let rest = standing n (p + stated bs) (drop (stated bs) bs) in
      let e : sift (by_pass σ) s (standing (suc n) p bs) ≡ sift (by_pass σ) t rest =
      ap (λ (u : Bool). sift (by_pass σ) s (cond u (at_place p bs ∷ rest) [])) (starts_framed bs r m.0 st)
      ∙ ap (λ (u : Fate). sift (by_pass σ) (settled s p u) rest) fate in (
        ap (λ (u : Saved). records u.kept) e
            ∙ more.0
            ∙ ap (λ (l : List Record). l ++ rs) (records_append s.kept (at_place p r ∷ []))
            ∙ append_snoc (records s.kept) r rs,
        ap (λ (u : Saved). u.lines) e ∙ more.1,
      )

-- 13, 14 and 15
pub zoned_whole : (s : Saved) → zoneless (records s.kept) ≡ none → zoned s ≡ s
zoned_whole s z =
    let zs = zones (records s.kept) in
    choose_all (in_zone zs) 13 (λ kept more. Within (gathered zone_named more) zs)
    (λ kept r more w.
    let n = zone_named (role r) in (
      within_all n zs (λ x i. w x (in_left x n (gathered zone_named more) i)),
      λ x i. w x (in_right x n (gathered zone_named more) i),
    ))
    s.lines s.kept ((zoned_exactly (records s.kept)).0 z)

module _ (d : Description) where
  pub named_whole : (s : Saved) → nameless d (records s.kept) ≡ none → named d s ≡ s
  named_whole s n =
      let rs = records s.kept in
      let w = (named_exactly d rs).0 n in
      rw (w d.string (in_here d.string (gathered string_named rs)), append-nil)
      (mended_all (string_indexes s) s.lines s.kept (λ x i. w x (in_right x (d.string ∷ []) (gathered string_named rs) i)))

  pub unclashed_whole : (s : Saved) → contested d (records s.kept) ≡ none → unclashed d s ≡ s
  unclashed_whole s h =
      choose_all (clashless d) 15 (λ kept more. contested d (kept ++ more) ≡ none)
      (λ kept r more q. (
        ap is_none (part_uncontested d (part_append (part_same kept) (keep (part_none more))) q),
        rw append_snoc q,
      ))
      s.lines s.kept h
