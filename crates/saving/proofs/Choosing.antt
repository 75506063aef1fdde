-- Leaving out by a test against those kept so far, as 13 and 15 do: what is left is a part, and has what the test brings.
-- Assumes nothing.
use Prim.Native.Nat.{ℕ}
use mathlib.Core.Path.{◌≡◌, refl, sym, ◌∙◌}
use mathlib.Core.Bool.{Bool, true, false, cond}
use mathlib.Core.List.{List, [], ◌∷◌, ◌++◌, append-nil, append_assoc}
use lib.Seq.{append_snoc}
use Rattle.format.specs.Records.{Record}
use Rattle.format.specs.ZonesAndStrings.{Role, role, gathered, zone_named, zones, all_among}
use Rattle.format.specs.Claims.{contested}
use Rattle.format.specs.declared.records.Description.{Description}
use Rattle.format.proofs.Growing.{gathered_snoc}
use Rattle.removal.specs.Parts.{Part, done, keep, leave}
use Rattle.removal.proofs.Parts.{part_append, part_before}
use Rattle.saving.specs.Saving.{At, Line, Saved, saved, records, Fate, stays, leaves, settled, sift, is_none, zoned, unclashed}
use Rattle.saving.proofs.Sifting.{by_test, sift_through}
use Rattle.saving.proofs.Reading.{records_append}

-- one more
pub record_snoc : (ks : List (At Record)) (k : At Record) → records (ks ++ k ∷ []) ≡ records ks ++ k.what ∷ []
record_snoc ks k = records_append ks (k ∷ [])

module _ (test : List Record → Record → Bool) (number : ℕ) where
  abbrev pub chosen : List Record → Record → Fate
  chosen kept r = cond (test kept r) (stays r) (leaves number)

  -- what holds after one more
  chosen_cases :
      (P : Saved → Type 0) (s : Saved) (x : At Record)
      → (test (records s.kept) x.what ≡ true → P (settled s x.place (stays x.what)))
      → (test (records s.kept) x.what ≡ false → P (settled s x.place (leaves number)))
      → P (settled s x.place (chosen (records s.kept) x.what))
  chosen_cases P s x f g = by_test (λ o. P (settled s x.place o)) (test (records s.kept) x.what) _ _ f g

  -- what is left is a part of what was there
  pub choose_part : (ls : List Line) (xs : List (At Record)) → Part (At Record) (sift chosen (saved [] ls) xs).kept xs
  choose_part ls xs =
      let h =
      sift_through chosen (λ s ys. (gone : List (At Record)) × (gone ++ ys ≡ xs) × Part (At Record) s.kept gone)
      (λ s y ys p.
      chosen_cases (λ t. (gone : List (At Record)) × (gone ++ ys ≡ xs) × Part (At Record) t.kept gone) s y
      (λ e. (p.0 ++ y ∷ [], rw append_snoc p.1, part_append p.2 (keep done)))
      (λ e. (p.0 ++ y ∷ [], rw append_snoc p.1, part_before (y ∷ []) p.2)))
      (saved [] ls) xs ([], refl, done) in
      rw (sym (append-nil h.0) ∙ h.1) at h.2

  -- what each record that is kept brings along
  module _ (P : List Record → Type 0) (step : (kept : List Record) (r : Record) → P kept → test kept r ≡ true → P (kept ++ r ∷ [])) where
    step_at_lem :
        (s : Saved) (x : At Record)
        → P (records s.kept)
        → P (records (settled s x.place (chosen (records s.kept) x.what)).kept)
    step_at_lem s x p =
        chosen_cases (λ t. P (records t.kept)) s x (λ e. rw (record_snoc s.kept x) (step (records s.kept) x.what p e)) (λ e. p)

    pub choose_holds : (ls : List Line) (xs : List (At Record)) → P [] → P (records (sift chosen (saved [] ls) xs).kept)
    choose_holds ls xs p = sift_through chosen (λ s ys. P (records s.kept)) (λ s y ys q. step_at_lem s y q) (saved [] ls) xs p

    -- numbers that nothing left out has are all there
    module _ (numbers : Role → List ℕ)
        (bare : (kept : List Record) (r : Record) → P kept → test kept r ≡ false → numbers (role r) ≡ []) where
      abbrev gathers : Saved → List (At Record) → List ℕ
      gathers s ys = gathered numbers (records s.kept) ++ gathered numbers (records ys)

      gathers_on :
          (s : Saved) (y : At Record) (ys : List (At Record))
          → P (records s.kept)
          → gathers (settled s y.place (chosen (records s.kept) y.what)) ys ≡ gathers s (y ∷ ys)
      gathers_on s y ys p =
          chosen_cases (λ t. gathers t ys ≡ gathers s (y ∷ ys)) s y
          (λ e.
          rw (record_snoc s.kept y, gathered_snoc numbers (records s.kept) y.what)
          (append_assoc (gathered numbers (records s.kept)) (numbers (role y.what)) (gathered numbers (records ys))))
          (λ e. rw (bare (records s.kept) y.what p e) refl)

      pub choose_gathered :
          (ls : List Line) (xs : List (At Record))
          → P []
          → gathered numbers (records (sift chosen (saved [] ls) xs).kept) ≡ gathered numbers (records xs)
      choose_gathered ls xs p =
          let h =
          sift_through chosen (λ s ys. P (records s.kept) × (gathers s ys ≡ gathered numbers (records xs)))
          (λ s y ys q. (step_at_lem s y q.0, gathers_on s y ys q.0 ∙ q.1))
          (saved [] ls) xs (p, refl) in
          rw append-nil at h.1

  -- where every record passes, all stay and no line is made
  pub choose_all :
      (Q : List Record → List Record → Type 0)
      → ((kept : List Record) (r : Record) (rs : List Record) → Q kept (r ∷ rs) → (test kept r ≡ true) × Q (kept ++ r ∷ []) rs)
      → (ls : List Line) (xs : List (At Record))
      → Q [] (records xs)
      → sift chosen (saved [] ls) xs ≡ saved xs ls
  choose_all Q step ls xs q =
      let h =
      sift_through chosen (λ s ys. Q (records s.kept) (records ys) × (saved (s.kept ++ ys) s.lines ≡ saved xs ls))
      (λ s y ys p.
      let t = step (records s.kept) y.what (records ys) p.0 in
      rw t.0 (rw (record_snoc s.kept y) t.1, rw append_snoc p.1))
      (saved [] ls) xs (q, refl) in
      rw append-nil at h.1

-- the records of a part
pub part_records : {ks ls : List (At Record)} → Part (At Record) ks ls → Part Record (records ks) (records ls)
part_records done = done
part_records (keep p) = keep (part_records p)
part_records (leave p) = leave (part_records p)

-- the test of 13, and that of 15
abbrev pub in_zone : List ℕ → List Record → Record → Bool
in_zone declared kept r = all_among (zone_named (role r)) declared

abbrev pub clashless : Description → List Record → Record → Bool
clashless d kept r = is_none (contested d (kept ++ r ∷ []))

pub zoned_part : (s : Saved) → Part (At Record) (zoned s).kept s.kept
zoned_part s = choose_part (in_zone (zones (records s.kept))) 13 s.lines s.kept

pub unclashed_part : (d : Description) (s : Saved) → Part (At Record) (unclashed d s).kept s.kept
unclashed_part d s = choose_part (clashless d) 15 s.lines s.kept
