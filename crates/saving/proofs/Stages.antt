-- 13, 14 and 15, each as steps that put right what the reader names first: before them stands the table that they begin with, behind
-- them the table that they leave, and the lines between are theirs.
-- Assumes nothing.
use Prim.Native.Nat.{ℕ}
use mathlib.Core.Path.{◌≡◌, refl, sym, ◌∙◌, ap, subst}
use mathlib.Core.Bool.{Bool, true, false, cond, false≢true}
use mathlib.Core.List.{List, [], ◌∷◌, ◌++◌, append-nil}
use mathlib.Core.Option.{none, some}
use lib.Seq.{append_snoc}
use lib.Dec.{eqb}
use Rattle.format.specs.Slots.{written}
use Rattle.format.specs.Records.{Record}
use Rattle.format.specs.Layout.{table, place_after}
use Rattle.format.specs.Pins.{among}
use Rattle.format.specs.Rules.{unless_kept}
use Rattle.format.specs.ZonesAndStrings.{Role, role, gathered, zone_declared, string_declared, zone_named, string_named, zones, strings}
use Rattle.format.specs.ZonesAndStrings.{all_among, first_naming, zoneless, nameless}
use Rattle.format.specs.Claims.{contested}
use Rattle.format.specs.Verdict.{Verdict, unzoned, unnamed, clashing}
use Rattle.format.specs.declared.records.Description.{Description}
use Rattle.format.specs.declared.settings.Settings.{Settings}
use Rattle.format.specs.Answers.{Refused}
use Rattle.format.proofs.Growing.{gathered_append}
use Rattle.removal.specs.Parts.{Part, keep, leave}
use Rattle.removal.specs.Taking.{zones_named, strings_named}
use Rattle.removal.proofs.Parts.{part_same, part_append, part_numbers}
use Rattle.removal.proofs.Among.{In, Within, all_within, in_left, part_within}
use Rattle.removal.proofs.Naming.{zoned_exactly, named_exactly}
use Rattle.saving.specs.Saving.{At, at_place, Line, line, left_out, cleared, Saved, saved, records, stays, leaves, mends, settled}
use Rattle.saving.specs.Saving.{sift, unindexed, by_string}
use Rattle.saving.specs.Repairing.{Repairs, leaves_out, clears}
use Rattle.saving.proofs.Clearing.{unindexed_alike, unindexed_named}
use Rattle.saving.proofs.Alike.{EachAlike, one_more, alike_all, alike_append, alike_gathered}
use Rattle.saving.proofs.Reading.{records_append}
use Rattle.saving.proofs.Choosing.{record_snoc, chosen, in_zone, clashless}
use Rattle.saving.proofs.Keeping.{none_is, bare_zone, within_snoc, clashing_bare}
use Rattle.saving.proofs.First.{Sofar, sofar_passed, sofar_part, sofar_alike, naming_first, clash_first}

-- what a stage comes to: more lines, and steps to where it began
abbrev pub Stage : Settings → Description → Saved → List (At Record) → Saved → List Line → Description → List (At Record) → Type 0
Stage σ d s xs t ls e out = (ms : List Line) × (t.lines ≡ s.lines ++ ms) × Repairs σ d (s.kept ++ xs) (ms ++ ls) e out

-- one left out of a list
without : (before : List Record) (r : Record) (after : List Record) → Part Record (before ++ after) (before ++ r ∷ after)
without before r after = part_append (part_same before) (leave (part_same after))

gathered_without :
    (numbers : Role → List ℕ) (before : List Record) (r : Record) (after : List Record)
    → numbers (role r) ≡ []
    → gathered numbers (before ++ after) ≡ gathered numbers (before ++ r ∷ after)
gathered_without numbers before r after e =
    gathered_append numbers before after
    ∙ ap (λ (l : List ℕ). gathered numbers before ++ (l ++ gathered numbers after)) (sym e)
    ∙ sym (gathered_append numbers before (r ∷ after))

-- Leaving out, by a test that the reader's verdict stands on.
module _ (σ : Settings) (d e : Description) (out : List (At Record)) (ls : List Line) (test : List Record → Record → Bool) (number : ℕ)
    (other : eqb number 14 ≡ false)
    (Q : List Record → List Record → Type 0)
    (stay :
    (before : List Record) (r : Record) (after : List Record)
    → Q before (r ∷ after)
    → test before r ≡ true
    → Q (before ++ r ∷ []) after)
    (gone :
    (before : List Record) (r : Record) (after : List Record)
    → Q before (r ∷ after)
    → test before r ≡ false
    → Verdict σ (written (table d (before ++ r ∷ after))) (Refused number (place_after before)) × Q before after) where
  one_stage :
      (s : Saved) (x : At Record) (xs : List (At Record))
      → ((t : Saved)
      → Q (records t.kept) (records xs)
      → Repairs σ d (sift (chosen test number) t xs).kept ls e out
      → Stage σ d t xs (sift (chosen test number) t xs) ls e out)
      → (u : Bool)
      → test (records s.kept) x.what ≡ u
      → Q (records s.kept) (records (x ∷ xs))
      → Repairs σ d (sift (chosen test number) (settled s x.place (cond u (stays x.what) (leaves number))) xs).kept ls e out
      → Stage σ d s (x ∷ xs) (sift (chosen test number) (settled s x.place (cond u (stays x.what) (leaves number))) xs) ls e out
  one_stage s x xs more true h q m =
      let t : Saved = saved (s.kept ++ x ∷ []) s.lines in
      let w = more t (rw (record_snoc s.kept x) (stay (records s.kept) x.what (records xs) q h)) m in
      (w.0, w.1, subst (λ (l : List (At Record)). Repairs σ d l (w.0 ++ ls) e out) (append_snoc s.kept x xs) w.2)
  one_stage s x xs more false h q m =
      let l = line x.place number left_out in
      let g = gone (records s.kept) x.what (records xs) q h in
      let w = more (saved s.kept (s.lines ++ l ∷ [])) g.1 m in
      let v : Verdict σ (written (table d (records (s.kept ++ x ∷ xs)))) (Refused number (place_after (records s.kept))) =
      rw (records_append s.kept (x ∷ xs)) g.0 in
      (l ∷ w.0, w.1 ∙ append_snoc s.lines l w.0, leaves_out {d = d} {n = number} s.kept x xs v other w.2)

  pub stage :
      (s : Saved) (xs : List (At Record))
      → Q (records s.kept) (records xs)
      → Repairs σ d (sift (chosen test number) s xs).kept ls e out
      → Stage σ d s xs (sift (chosen test number) s xs) ls e out
  stage s [] q m = ([], sym (append-nil s.lines), rw append-nil m)
  stage s (x ∷ xs) q m = one_stage s x xs (λ t h n. stage t xs h n) (test (records s.kept) x.what) refl q m

-- 13
record OfZones (σ : Settings) (d : Description) (zs : List ℕ) (before after : List Record) : Type 0 where
  pub ok : Sofar σ d (before ++ after)
  pub same : zones (before ++ after) ≡ zs
  pub within : Within (gathered zone_named before) zs

zone_stay :
    (σ : Settings) (d : Description) (zs : List ℕ) (before : List Record) (r : Record) (after : List Record)
    → OfZones σ d zs before (r ∷ after)
    → in_zone zs before r ≡ true
    → OfZones σ d zs (before ++ r ∷ []) after
zone_stay σ d zs before r after q h =
    record {
      ok = rw (append_snoc before r after) q.ok;
      same = rw (append_snoc before r after) q.same;
      within = within_snoc zone_named before r zs q.within (all_within (zone_named (role r)) zs h);
    }

zone_gone :
    (σ : Settings) (d : Description) (zs : List ℕ) (before : List Record) (r : Record) (after : List Record)
    → OfZones σ d zs before (r ∷ after)
    → in_zone zs before r ≡ false
    → Verdict σ (written (table d (before ++ r ∷ after))) (Refused 13 (place_after before)) × OfZones σ d zs before after
zone_gone σ d zs before r after q h =
    let all = before ++ r ∷ after in
    let z : zoneless all ≡ some (place_after before) =
    ap (λ (l : List ℕ). first_naming zone_named l 16 all) q.same ∙ naming_first zone_named zs 16 before r after q.within h in (
      unzoned d all (sofar_passed σ d all q.ok) z,
      record {
        ok = sofar_part σ d (without before r after) q.ok;
        same = gathered_without zone_declared before r after (bare_zone zs (role r) h) ∙ q.same;
        within = q.within;
      },
    )

pub zone_stage :
    (σ : Settings) (d e : Description) (out : List (At Record)) (ls : List Line) (zs : List ℕ) (ms : List Line) (xs : List (At Record))
    → Sofar σ d (records xs)
    → zones (records xs) ≡ zs
    → Repairs σ d (sift (chosen (in_zone zs) 13) (saved [] ms) xs).kept ls e out
    → Stage σ d (saved [] ms) xs (sift (chosen (in_zone zs) 13) (saved [] ms) xs) ls e out
zone_stage σ d e out ls zs ms xs ok same m =
    stage σ d e out ls (in_zone zs) 13 refl (OfZones σ d zs) (zone_stay σ d zs) (zone_gone σ d zs) (saved [] ms) xs
    (record { ok = ok; same = same; within = λ x i. absurd (false≢true i) }) m

-- 15, with another description that claims the same
module _ (σ : Settings) (d e : Description) (same : (rs : List Record) → contested e rs ≡ contested d rs) where
  pub record OfClaims (before after : List Record) : Type 0 where
    pub ok : Sofar σ e (before ++ after)
    pub zoned : Within (zones_named (before ++ after)) (zones (before ++ after))
    pub named : Within (strings_named e (before ++ after)) (0 ∷ strings (before ++ after))
    pub clear : contested d before ≡ none

  claim_stay :
      (before : List Record) (r : Record) (after : List Record)
      → OfClaims before (r ∷ after)
      → clashless d before r ≡ true
      → OfClaims (before ++ r ∷ []) after
  claim_stay before r after q h =
      record {
        ok = rw (append_snoc before r after) q.ok;
        zoned = rw (append_snoc before r after) q.zoned;
        named = rw (append_snoc before r after) q.named;
        clear = none_is (contested d (before ++ r ∷ [])) h;
      }

  claim_gone :
      (before : List Record) (r : Record) (after : List Record)
      → OfClaims before (r ∷ after)
      → clashless d before r ≡ false
      → Verdict σ (written (table e (before ++ r ∷ after))) (Refused 15 (place_after before)) × OfClaims before after
  claim_gone before r after q h =
      let all = before ++ r ∷ after in
      let p = without before r after in
      let zs = gathered_without zone_declared before r after (clashing_bare d zone_declared (λ x. refl) before r q.clear h) in
      let ss = gathered_without string_declared before r after (clashing_bare d string_declared (λ x. refl) before r q.clear h) in (
        clashing e all (sofar_passed σ e all q.ok) ((zoned_exactly all).1 q.zoned) ((named_exactly e all).1 q.named)
            (same all ∙ clash_first d before r after q.clear h),
        record {
          ok = sofar_part σ e p q.ok;
          zoned = λ x i. subst (λ (l : List ℕ). In x l) (sym zs) (q.zoned x (part_within (part_numbers zone_named p) x i));
          named = λ x i. subst (λ (l : List ℕ). In x (0 ∷ l)) (sym ss) (q.named x (part_within (keep (part_numbers string_named p)) x i));
          clear = q.clear;
        },
      )

  pub claim_stage :
      (out : List (At Record)) (ls : List Line) (ms : List Line) (xs : List (At Record))
      → OfClaims [] (records xs)
      → Repairs σ e (sift (chosen (clashless d) 15) (saved [] ms) xs).kept ls e out
      → Stage σ e (saved [] ms) xs (sift (chosen (clashless d) 15) (saved [] ms) xs) ls e out
  claim_stage out ls ms xs q m =
      stage σ e e out ls (clashless d) 15 refl OfClaims claim_stay claim_gone (saved [] ms) xs q m

-- 14, of the elements
module _ (σ : Settings) (d : Description) (ds : List ℕ) where
  pub record OfNames (before after : List Record) : Type 0 where
    pub ok : Sofar σ d (before ++ after)
    pub zoned : Within (zones_named (before ++ after)) (zones (before ++ after))
    pub same : strings (before ++ after) ≡ ds
    pub first : In d.string (0 ∷ ds)
    pub within : Within (gathered string_named before) (0 ∷ ds)

  name_stay :
      (before : List Record) (r : Record) (after : List Record)
      → OfNames before (r ∷ after)
      → all_among (string_named (role r)) (0 ∷ ds) ≡ true
      → OfNames (before ++ r ∷ []) after
  name_stay before r after q h =
      record {
        ok = rw (append_snoc before r after) q.ok;
        zoned = rw (append_snoc before r after) q.zoned;
        same = rw (append_snoc before r after) q.same;
        first = q.first;
        within = within_snoc string_named before r (0 ∷ ds) q.within (all_within (string_named (role r)) (0 ∷ ds) h);
      }

  name_gone :
      (before : List Record) (r : Record) (after : List Record)
      → OfNames before (r ∷ after)
      → all_among (string_named (role r)) (0 ∷ ds) ≡ false
      → Verdict σ (written (table d (before ++ r ∷ after))) (Refused 14 (place_after before)) × OfNames (before ++ unindexed r ∷ []) after
  name_gone before r after q h =
      let all = before ++ r ∷ after in
      let u = unindexed r in
      let a : EachAlike (before ++ u ∷ after) all = alike_append (alike_all before) (one_more (unindexed_alike r) (alike_all after)) in
      let zs = alike_gathered zone_declared (λ s t l. l.zone_d) a in
      let zn = alike_gathered zone_named (λ s t l. l.zone_n) a in
      let z : Within (zones_named (before ++ u ∷ after)) (zones (before ++ u ∷ after)) =
      λ x i. subst (λ (l : List ℕ). In x l) (sym zs) (q.zoned x (subst (λ (l : List ℕ). In x l) zn i)) in
      let n : nameless d all ≡ some (place_after before) =
      ap (λ (l : List ℕ). unless_kept (among d.string (0 ∷ l)) 0 (first_naming string_named (0 ∷ l) 16 all)) q.same
      ∙ ap (λ (t : Bool). unless_kept t 0 (first_naming string_named (0 ∷ ds) 16 all)) q.first
      ∙ naming_first string_named (0 ∷ ds) 16 before r after q.within h in (
        unnamed d all (sofar_passed σ d all q.ok) ((zoned_exactly all).1 q.zoned) n,
        record {
          ok = rw (append_snoc before u after) (sofar_alike σ d a q.ok);
          zoned = rw (append_snoc before u after) z;
          same = rw (append_snoc before u after) (alike_gathered string_declared (λ s t l. l.string_d) a ∙ q.same);
          first = q.first;
          within = within_snoc string_named before u (0 ∷ ds) q.within (λ x i. in_left x (0 ∷ []) ds (unindexed_named r x i));
        },
      )

  -- from one on, by whether its string is there
  abbrev going : Saved → At Record → List (At Record) → Bool → Saved
  going s x xs u = sift (by_string (0 ∷ ds)) (settled s x.place (cond u (stays x.what) (mends (unindexed x.what)))) xs

  module _ (e : Description) (out : List (At Record)) (ls : List Line) where
    one_name :
        (s : Saved) (x : At Record) (xs : List (At Record))
        → ((t : Saved)
        → OfNames (records t.kept) (records xs)
        → Repairs σ d (sift (by_string (0 ∷ ds)) t xs).kept ls e out
        → Stage σ d t xs (sift (by_string (0 ∷ ds)) t xs) ls e out)
        → (u : Bool)
        → all_among (string_named (role x.what)) (0 ∷ ds) ≡ u
        → OfNames (records s.kept) (records (x ∷ xs))
        → Repairs σ d (going s x xs u).kept ls e out
        → Stage σ d s (x ∷ xs) (going s x xs u) ls e out
    one_name s x xs more true h q m =
        let t : Saved = saved (s.kept ++ x ∷ []) s.lines in
        let w = more t (rw (record_snoc s.kept x) (name_stay (records s.kept) x.what (records xs) q h)) m in
        (w.0, w.1, subst (λ (l : List (At Record)). Repairs σ d l (w.0 ++ ls) e out) (append_snoc s.kept x xs) w.2)
    one_name s x xs more false h q m =
        let l = line x.place 14 cleared in
        let k : At Record = at_place x.place (unindexed x.what) in
        let g = name_gone (records s.kept) x.what (records xs) q h in
        let w = more (saved (s.kept ++ k ∷ []) (s.lines ++ l ∷ [])) (rw (record_snoc s.kept k) g.1) m in
        let v : Verdict σ (written (table d (records (s.kept ++ x ∷ xs)))) (Refused 14 (place_after (records s.kept))) =
        rw (records_append s.kept (x ∷ xs)) g.0 in
        let n : Repairs σ d (s.kept ++ k ∷ xs) (w.0 ++ ls) e out =
        subst (λ (i : List (At Record)). Repairs σ d i (w.0 ++ ls) e out) (append_snoc s.kept k xs) w.2 in
        (l ∷ w.0, w.1 ∙ append_snoc s.lines l w.0, clears {d = d} s.kept x xs v n)

    pub name_stage :
        (s : Saved) (xs : List (At Record))
        → OfNames (records s.kept) (records xs)
        → Repairs σ d (sift (by_string (0 ∷ ds)) s xs).kept ls e out
        → Stage σ d s xs (sift (by_string (0 ∷ ds)) s xs) ls e out
    name_stage s [] q m = ([], sym (append-nil s.lines), rw append-nil m)
    name_stage s (x ∷ xs) q m = one_name s x xs (λ t h n. name_stage t xs h n) (all_among (string_named (role x.what)) (0 ∷ ds)) refl q m
