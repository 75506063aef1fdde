-- Putting right what the reader names first, again and again, gives the same table and the same lines.
-- Assumes nothing.
use Prim.Native.Nat.{ℕ, ◌+◌, ◌≤◌}
use native.Mathlib.Omega.{arith}
use mathlib.Core.Path.{◌≡◌, refl, sym, ◌∙◌, ap, subst}
use mathlib.Core.Bool.{Bool, true, false, cond, false≢true}
use mathlib.Core.List.{List, [], ◌∷◌, ◌++◌, append-nil, append_assoc}
use mathlib.Core.Option.{some}
use lib.ListN.{length, drop, length-drop}
use Rattle.format.specs.Slots.{Bytes}
use Rattle.format.specs.Records.{Record}
use Rattle.format.specs.Layout.{layouts, opening}
use Rattle.format.specs.Pins.{among}
use Rattle.format.specs.Rules.{unless_kept}
use Rattle.format.specs.ZonesAndStrings.{gathered, zone_declared, string_declared, zone_named, string_named, zones, strings, first_naming}
use Rattle.format.specs.ZonesAndStrings.{nameless}
use Rattle.format.specs.Verdict.{unnamed}
use Rattle.format.specs.declared.records.Description.{Description}
use Rattle.format.specs.declared.settings.Settings.{Settings}
use Rattle.format.proofs.Slots.{roomy_split, roomy_join, bytes_drop}
use Rattle.format.proofs.Written.{written_accepted}
use Rattle.removal.proofs.Parts.{part_same}
use Rattle.removal.proofs.Among.{In, Within}
use Rattle.removal.proofs.Naming.{zoned_exactly}
use Rattle.saving.specs.Saving.{At, Line, line, cleared, Saved, saved, records, passed, zoned, string_indexes, unindexed_description}
use Rattle.saving.specs.Saving.{mended_description, first_line, named, in_zones, ending}
use Rattle.saving.specs.Repairing.{Repairs, accepted, clears_first, RepairsPass}
use Rattle.saving.proofs.Alike.{EachAlike, alike_gathered}
use Rattle.saving.proofs.Reading.{pass_saved}
use Rattle.saving.proofs.Choosing.{part_records, zoned_part}
use Rattle.saving.proofs.Mending.{mended_kept, each_alike, all_named, mended_described, mended_claims, mended_opening, mended_string}
use Rattle.saving.proofs.Keeping.{named_within, InZones, in_zones_lem, Sound, ending_keeps}
use Rattle.saving.proofs.First.{Sofar, sofar_passed, sofar_part, sofar_alike}
use Rattle.saving.proofs.Passing.{pass_repairs}
use Rattle.saving.proofs.Stages.{zone_stage, claim_stage, name_stage}

-- 14 of the description
describe_first :
    (σ : Settings) (d e : Description) (ks out : List (At Record)) (ls : List Line) (t : Bool)
    → Sofar σ d (records ks)
    → Within (gathered zone_named (records ks)) (zones (records ks))
    → among d.string (0 ∷ strings (records ks)) ≡ t
    → Repairs σ (cond t d (unindexed_description d)) ks ls e out
    → Repairs σ d ks (cond t [] (line 0 14 cleared ∷ []) ++ ls) e out
describe_first σ d e ks out ls true ok w h m = m
describe_first σ d e ks out ls false ok w h m =
    let rs = records ks in
    let n : nameless d rs ≡ some 0 = ap (λ (t : Bool). unless_kept t 0 (first_naming string_named (0 ∷ strings rs) 16 rs)) h in
    clears_first (unnamed d rs (sofar_passed σ d rs ok) ((zoned_exactly rs).1 w) n) m

-- another description with the same rules and room
sofar_mended :
    (σ : Settings) (declared : List ℕ) (d : Description) (rs : List Record)
    → Sofar σ d rs
    → Sofar σ (mended_description declared d) rs
sofar_mended σ declared d rs k =
    let h = roomy_split (opening d (16 + length (layouts rs))) (layouts rs) k.room in
    record {
      room =
          roomy_join (opening (mended_description declared d) (16 + length (layouts rs))) (layouts rs)
          (mended_opening declared d (16 + length (layouts rs)) h.0) h.1;
      limit = omega (arith, k.limit);
      described = mended_described declared d σ.chip ∙ k.described;
      kept = k.kept;
    }

-- four lists of lines end to end
joined : (a b c f g : List Line) {t u v : List Line} → t ≡ a ++ b → u ≡ (t ++ c) ++ f → v ≡ u ++ g → v ≡ a ++ (b ++ (c ++ (f ++ (g ++ []))))
joined a b c f g h i j = simp (j, i, h, append_assoc, append-nil)

-- 13 to 15, after the pass
module _ (σ : Settings) (d : Description) (s : Saved) (sound : Sound σ d) (ok : Sofar σ d (records s.kept))
    (h : InZones σ (records (zoned s).kept)) where
  pub repaired_rest :
      (ms : List Line) × ((ending d (zoned s)).lines ≡ s.lines ++ ms)
      × Repairs σ d s.kept ms (mended_description (string_indexes (zoned s)) d) (ending d (zoned s)).kept
  repaired_rest =
      let z = zoned s in
      let was = records z.kept in
      let ds = strings was in
      let is = string_indexes z in
      let e = mended_description is d in
      let n = named d z in
      let mid = records n.kept in
      let out = (ending d z).kept in
      let okz : Sofar σ d was = sofar_part σ d (part_records (zoned_part s)) ok in
      let oke : Sofar σ e was = sofar_mended σ is d was okz in
      let a : EachAlike mid was = rw (mended_kept is (z.lines ++ first_line is d) z.kept) (each_alike is z.kept) in
      let zs = alike_gathered zone_declared (λ x y l. l.zone_d) a in
      let zn = alike_gathered zone_named (λ x y l. l.zone_n) a in
      let ss = alike_gathered string_declared (λ x y l. l.string_d) a in
      let w : Within (gathered string_named mid) (0 ∷ ds) =
      rw (mended_kept is (z.lines ++ first_line is d) z.kept) (all_named ds z.kept) in
      let wn = named_within e ds (part_same mid) (mended_string ds d) w in
      let last : Repairs σ e out [] e out = accepted (written_accepted σ e (records out) (ending_keeps σ d z sound h)) in
      let c =
      claim_stage σ d e (mended_claims is d) out [] n.lines n.kept
      (record {
        ok = sofar_alike σ e a oke;
        zoned = λ x i. subst (λ (l : List ℕ). In x l) (sym zs) (h.zoned_13 x (subst (λ (l : List ℕ). In x l) zn i));
        named = λ x i. subst (λ (l : List ℕ). In x (0 ∷ l)) (sym ss) (wn x i);
        clear = sound.clear;
      })
      last in
      let b =
      name_stage σ e ds e out (c.0 ++ []) (saved [] (z.lines ++ first_line is d)) z.kept
      (record { ok = oke; zoned = h.zoned_13; same = refl; first = mended_string ds d; within = λ x i. absurd (false≢true i) })
      c.2 in
      let f = describe_first σ d e z.kept out (b.0 ++ (c.0 ++ [])) (among d.string is) okz h.zoned_13 refl b.2 in
      let g =
      zone_stage σ d e out (first_line is d ++ (b.0 ++ (c.0 ++ []))) (zones (records s.kept)) s.lines s.kept ok refl f in (
        g.0 ++ (first_line is d ++ (b.0 ++ (c.0 ++ []))),
        joined s.lines g.0 (first_line is d) b.0 c.0 g.1 b.1 c.1,
        g.2,
      )

-- THE THEOREM: from the bytes behind a sound description to the table and the lines of salvage
pub repaired :
    (σ : Settings) (b : List ℕ) (d : Description)
    → Bytes b
    → 16 ≤ length b
    → length b ≤ 4096
    → Sound σ d
    → RepairsPass σ d (mended_description (string_indexes (in_zones σ b)) d) (ending d (in_zones σ b)).kept
    [] 16 (drop 16 b) (ending d (in_zones σ b)).lines
repaired σ b d small long top sound =
    let s = passed σ b in
    let rs = records s.kept in
    let e = mended_description (string_indexes (in_zones σ b)) d in
    let out = (ending d (in_zones σ b)).kept in
    let h = pass_saved σ b small in
    let n : 16 + length (layouts rs) ≤ 4096 = omega (arith, h.short, length-drop 16 b) in
    let ok : Sofar σ d rs =
    record {
      room = roomy_join (opening d (16 + length (layouts rs))) (layouts rs) (sound.room (16 + length (layouts rs)) n) h.roomy;
      limit = omega (arith, n);
      described = sound.described;
      kept = h.kept;
    } in
    let t = repaired_rest σ d s sound ok (in_zones_lem σ b small top) in
    let u =
    pass_repairs σ d sound e out t.0 (length (drop 16 b)) (drop 16 b) (omega arith) 16 (saved [] [])
    (record { kept = tt; roomy = refl; top = omega (arith, length-drop 16 b); small = bytes_drop 16 b small }) t.2 in
    subst (λ (l : List Line). RepairsPass σ d e out [] 16 (drop 16 b) l)
    (sym (t.1 ∙ ap (λ (l : List Line). l ++ t.0) u.1))
    u.2
