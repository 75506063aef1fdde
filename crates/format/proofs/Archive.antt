-- The ordinary reader and the archive's. They differ in rule 23 alone, and the archive's rules never break it where 9 is kept. So
-- whenever the ordinary answer is not 23 the archive's is the same; and where the archive accepts a table that holds nothing retired the
-- ordinary reader does, with the same records.
-- Assumes nothing.
use Prim.Native.Nat.{ℕ}
use native.Mathlib.Omega.{arith}
use mathlib.Core.Path.{◌≡◌, refl}
use mathlib.Core.Bool.{Bool, true, false, ◌||◌, not}
use mathlib.Core.List.{List, [], ◌∷◌, ◌++◌}
use mathlib.Core.Option.{Option, some}
use Rattle.format.specs.Records.{Record, digital, analogue, fan, led, water, pump, voltage, current, controller, tachometer, zone}
use Rattle.format.specs.Records.{string, external, rgb, element_of}
use Rattle.format.specs.Pins.{among}
use Rattle.format.specs.Rules.{rule, unless_kept, first_broken, own_rules, shaped, coded, in_use, pinned, bus_types}
use Rattle.format.specs.ZonesAndStrings.{rules_against}
use Rattle.format.specs.Table.{element_breaks, PassKept}
use Rattle.format.specs.Verdict.{Breaks, header, crowded, unknown, unlaid, faulty, Passed, Accepts, Verdict, accepted, short}
use Rattle.format.specs.Verdict.{unrevised, missized, misdescribed, stopped, unzoned, unnamed, clashing}
use Rattle.format.specs.Answers.{number_of}
use Rattle.format.specs.Archive.{with_rules, NoneRetired}
use Rattle.format.specs.declared.settings.Settings.{Settings}
use Rattle.format.specs.declared.settings.Rules.{Rules}
use Rattle.format.specs.declared.settings.Rules.TheVariants.{Ordinary, Archive}
use Rattle.format.specs.declared.records.Description.{Description}
use Rattle.format.specs.Answers.{Answer}
use Rattle.format.proofs.Kept.{own_kept, own_unbroken}

-- a test or its opposite
pub either_way : (t : Bool) → not t || t ≡ true
either_way true = refl
either_way false = refl

-- the archive has every bus type in use that has a code
pub coded_in_use : (r : Record) → coded r ≡ true → in_use Archive (element_of r) ≡ true
coded_in_use (digital d) h = either_way (among d.bus bus_types)
coded_in_use (analogue a) h = refl
coded_in_use (fan f) h = refl
coded_in_use (led l) h = refl
coded_in_use (water w) h = refl
coded_in_use (pump f) h = refl
coded_in_use (voltage v) h = refl
coded_in_use (current c) h = refl
coded_in_use (controller d bs) h = either_way (among d.bus bus_types)
coded_in_use (tachometer d a b) h = either_way (among d.bus bus_types)
coded_in_use (zone bytes) h = refl
coded_in_use (string bytes) h = refl
coded_in_use (external x r g b) h = either_way (among x.device.bus bus_types)
coded_in_use (rgb r) h = refl

-- one test of 23 for another that is kept where 9 is: the first rule broken is the same, 23 aside
other_test :
    (t c u v : Bool) (later : Option ℕ) {x : Option ℕ}
    → (c ≡ true → v ≡ true)
    → unless_kept t 8 (unless_kept c 9 (unless_kept u 23 later)) ≡ x
    → (x ≡ some 23 → ⊥)
    → unless_kept t 8 (unless_kept c 9 (unless_kept v 23 later)) ≡ x
other_test false c u v later f h n = h
other_test true false u v later f h n = h
other_test true true true v later f h n = rw (f refl) h
other_test true true false v later f h n = absurd (n (cc))

-- Under other rules for the same chip, where each record that keeps 9 is one that they have in use.
module _ (s : Settings) (j k : Rules) where
  element_under :
      (before : List Record) (r : Record) {x : Option ℕ}
      → (coded r ≡ true → in_use k (element_of r) ≡ true)
      → element_breaks (with_rules j s) before r ≡ x
      → (x ≡ some 23 → ⊥)
      → element_breaks (with_rules k s) before r ≡ x
  unfolding own_rules
  element_under before r f h n =
      other_test (shaped r) (coded r) (in_use j (element_of r)) (in_use k (element_of r))
      (first_broken (rule 10 (pinned s.chip r) ∷ rules_against before r)) f h n

  abbrev EachInUse : List Record → Type 0
  EachInUse [] = Unit {0}
  EachInUse (r ∷ rs) = (coded r ≡ true → in_use k (element_of r) ≡ true) × EachInUse rs

  passed_under : (before rs : List Record) → EachInUse rs → PassKept (with_rules j s) before rs → PassKept (with_rules k s) before rs
  passed_under before [] f h = tt
  passed_under before (r ∷ rs) f h = (
    h.0,
    element_under before r f.0 h.1 (λ q. let z : ◌≡◌ {A = ℕ} 0 1 = cc in omega arith),
    passed_under (before ++ r ∷ []) rs f.1 h.2,
  )

  accepts_under :
      (b : List ℕ) (d : Description) (rs : List Record)
      → EachInUse rs
      → Accepts (with_rules j s) b d rs
      → Accepts (with_rules k s) b d rs
  accepts_under b d rs f a =
      let h = a.keeps in
      record {
        keeps =
            record {
              roomy_25 = h.roomy_25;
              limit = h.limit;
              described = h.described;
              passed = passed_under [] rs f h.passed;
              zoned = h.zoned;
              named = h.named;
              clear = h.clear;
            };
        fits = a.fits;
      }

module _ (s : Settings) where
  each_coded : (rs : List Record) → EachInUse s Ordinary Archive rs
  each_coded [] = tt
  each_coded (r ∷ rs) = (coded_in_use r, each_coded rs)

  each_current : (rs : List Record) → NoneRetired rs → EachInUse s Archive Ordinary rs
  each_current [] h = tt
  each_current (r ∷ rs) h = (λ c. h.0, each_current rs h.1)

  kept_archive : (before rs : List Record) → PassKept (with_rules Ordinary s) before rs → PassKept (with_rules Archive s) before rs
  kept_archive before rs h = passed_under s Ordinary Archive before rs (each_coded rs) h

  passed_archive :
      (b : List ℕ) (d : Description) (rs : List Record)
      → Passed (with_rules Ordinary s) b d rs
      → Passed (with_rules Archive s) b d rs
  passed_archive b d rs p =
      record { limit = p.limit; fits = p.fits; described = p.described; passed = kept_archive [] rs p.passed }

  -- what the ordinary reader accepts the archive accepts, with the same records; and it holds nothing retired
  pub archive_accepts :
      (b : List ℕ) (d : Description) (rs : List Record)
      → Accepts (with_rules Ordinary s) b d rs
      → Accepts (with_rules Archive s) b d rs
  archive_accepts b d rs a = accepts_under s Ordinary Archive b d rs (each_coded rs) a

  none_retired : (before rs : List Record) → PassKept (with_rules Ordinary s) before rs → NoneRetired rs
  none_retired before [] h = tt
  none_retired before (r ∷ rs) h = (
    (own_kept (with_rules Ordinary s) r (own_unbroken (with_rules Ordinary s) before r h.1)).use_23,
    none_retired (before ++ r ∷ []) rs h.2,
  )

  pub ordinary_current : (b : List ℕ) (d : Description) (rs : List Record) → Accepts (with_rules Ordinary s) b d rs → NoneRetired rs
  ordinary_current b d rs a = none_retired [] rs a.keeps.passed

  -- 'a table without them': where the archive accepts it the ordinary reader does
  pub ordinary_accepts :
      (b : List ℕ) (d : Description) (rs : List Record)
      → NoneRetired rs
      → Accepts (with_rules Archive s) b d rs
      → Accepts (with_rules Ordinary s) b d rs
  ordinary_accepts b d rs h a = accepts_under s Archive Ordinary b d rs (each_current rs h) a

  -- '.. gets the same answer from both': whenever the ordinary answer is not 23
  breaks_archive :
      (before : List Record) (bs : List ℕ) {x : ℕ}
      → Breaks (with_rules Ordinary s) before bs x
      → (x ≡ 23 → ⊥)
      → Breaks (with_rules Archive s) before bs x
  breaks_archive before bs (header more fr) n = header more fr
  breaks_archive before bs (crowded fr many) n = crowded fr many
  breaks_archive before bs (unknown fr few kn) n = unknown fr few kn
  breaks_archive before bs (unlaid fr few kn nothing) n = unlaid fr few kn nothing
  breaks_archive before bs (faulty r few st e) n =
      faulty r few st (element_under s Ordinary Archive before r (coded_in_use r) e (λ q. n (cc)))

  pub same_answer :
      (b : List ℕ) (x : Answer) → Verdict (with_rules Ordinary s) b x → (number_of x ≡ 23 → ⊥) → Verdict (with_rules Archive s) b x
  same_answer b x (accepted d rs a) n = accepted d rs (archive_accepts b d rs a)
  same_answer b x (short h) n = short h
  same_answer b x (unrevised long h) n = unrevised long h
  same_answer b x (missized long one h) n = missized long one h
  same_answer b x (misdescribed d rest o e) n = misdescribed d rest o e
  same_answer b x (stopped d rest rs here o clean st kept br) n =
      stopped d rest rs here o clean st (kept_archive [] rs kept) (breaks_archive rs here br n)
  same_answer b x (unzoned d rs p z) n = unzoned d rs (passed_archive b d rs p) z
  same_answer b x (unnamed d rs p z e) n = unnamed d rs (passed_archive b d rs p) z e
  same_answer b x (clashing d rs p z e c) n = clashing d rs (passed_archive b d rs p) z e c
