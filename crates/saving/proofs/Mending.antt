-- Clearing missing string indexes (14): each record is as it was or has index 0, and every index names a string or none.
-- Assumes nothing.
use Prim.Native.Nat.{ℕ, ◌+◌, ◌≤◌}
use native.Mathlib.Omega.{arith}
use mathlib.Core.Path.{◌≡◌, refl}
use mathlib.Core.Bool.{Bool, true, false, cond, false≢true}
use mathlib.Core.List.{List, [], ◌∷◌, ◌++◌, append-nil, map}
use mathlib.Core.Logic.{⊎_elim}
use lib.ListN.{length, length-append}
use lib.Seq.{append_snoc}
use Rattle.format.specs.Slots.{all_roomy}
use Rattle.format.specs.Records.{Record}
use Rattle.format.specs.Layout.{opening}
use Rattle.format.specs.Pins.{among}
use Rattle.format.specs.Rules.{description_rules}
use Rattle.format.specs.ZonesAndStrings.{role, gathered, string_named, all_among}
use Rattle.format.specs.Claims.{contested}
use Rattle.format.specs.Table.{description_breaks}
use Rattle.format.specs.declared.pins.Chip.{Chip}
use Rattle.format.specs.declared.records.Description.{Description}
use Rattle.removal.proofs.Among.{In, Within, in_left, in_right, in_cases, all_within, within_all}
use Rattle.saving.specs.Saving.{At, at_place, Line, line, cleared, Saved, saved, records, stays, mends, settled, sift, unindexed}
use Rattle.saving.specs.Saving.{unindexed_description, mended_description, by_string}
use Rattle.saving.proofs.Sifting.{by_test, sift_through}
use Rattle.saving.proofs.Clearing.{Alike, alike_same, set_roomy, unindexed_alike, unindexed_named}
use Rattle.saving.proofs.Alike.{EachAlike, no_more, one_more}

module _ (declared : List ℕ) where
  abbrev pub mended : Record → Record
  mended r = cond (all_among (string_named (role r)) declared) r (unindexed r)

  abbrev pub mended_at : At Record → At Record
  mended_at k = at_place k.place (mended k.what)

  -- what `named` keeps
  kept_one :
      (s : Saved) (p : ℕ) (t : Bool) (r q : Record)
      → (settled s p (cond t (stays r) (mends q))).kept ≡ s.kept ++ at_place p (cond t r q) ∷ []
  kept_one s p true r q = refl
  kept_one s p false r q = refl

  pub mended_kept : (ls : List Line) (xs : List (At Record)) → (sift (by_string declared) (saved [] ls) xs).kept ≡ map mended_at xs
  mended_kept ls xs =
      let h =
      sift_through (by_string declared) (λ s ys. s.kept ++ map mended_at ys ≡ map mended_at xs)
      (λ s y ys p.
      rw (kept_one s y.place (all_among (string_named (role y.what)) declared) y.what (unindexed y.what), append_snoc) p)
      (saved [] ls) xs refl in
      rw append-nil at h

  -- .. with at most a line each
  lines_one :
      (s : Saved) (p : ℕ) (t : Bool) (r q : Record)
      → length (settled s p (cond t (stays r) (mends q))).lines ≤ length s.lines + 1
  lines_one s p true r q = omega arith
  lines_one s p false r q = omega (arith, length-append s.lines (line p 14 cleared ∷ []))

  pub mended_lines :
      (ls : List Line) (xs : List (At Record))
      → length (sift (by_string declared) (saved [] ls) xs).lines ≤ length ls + length xs
  mended_lines ls xs =
      let h =
      sift_through (by_string declared) (λ s ys. length s.lines + length ys ≤ length ls + length xs)
      (λ s y ys p.
      let n = lines_one s y.place (all_among (string_named (role y.what)) declared) y.what (unindexed y.what) in
      omega (arith, n, p))
      (saved [] ls) xs (omega arith) in
      omega (arith, h)

  -- the records differ at most in their indexes
  pub mended_alike : (r : Record) → Alike (mended r) r
  mended_alike r =
      by_test (λ s. Alike s r) (all_among (string_named (role r)) declared) r (unindexed r) (λ e. alike_same r) (λ e. unindexed_alike r)

  pub each_alike : (xs : List (At Record)) → EachAlike (records (map mended_at xs)) (records xs)
  each_alike [] = no_more
  each_alike (x ∷ xs) = one_more (mended_alike x.what) (each_alike xs)

  -- where none is missing, all stay and no line is made
  pub mended_all :
      (ls : List Line) (xs : List (At Record))
      → Within (gathered string_named (records xs)) declared
      → sift (by_string declared) (saved [] ls) xs ≡ saved xs ls
  mended_all ls xs w =
      let h =
      sift_through (by_string declared)
      (λ s ys. Within (gathered string_named (records ys)) declared × (saved (s.kept ++ ys) s.lines ≡ saved xs ls))
      (λ s y ys p.
      let n = string_named (role y.what) in
      let more = gathered string_named (records ys) in
      rw (within_all n declared (λ x i. p.0 x (in_left x n more i))) (λ x i. p.0 x (in_right x n more i), rw append_snoc p.1))
      (saved [] ls) xs (w, refl) in
      rw append-nil at h.1

-- what a mended record names is declared, and so of all
pub mended_named : (declared : List ℕ) (r : Record) → Within (string_named (role (mended (0 ∷ declared) r))) (0 ∷ declared)
mended_named declared r =
    by_test (λ s. Within (string_named (role s)) (0 ∷ declared)) (all_among (string_named (role r)) (0 ∷ declared)) r (unindexed r)
    (all_within (string_named (role r)) (0 ∷ declared))
    (λ e x i. in_left x (0 ∷ []) declared (unindexed_named r x i))

pub all_named :
    (declared : List ℕ) (xs : List (At Record)) → Within (gathered string_named (records (map (mended_at (0 ∷ declared)) xs))) (0 ∷ declared)
all_named declared [] x i = absurd (false≢true i)
all_named declared (k ∷ ks) x i =
    let here = string_named (role (mended (0 ∷ declared) k.what)) in
    ⊎_elim (mended_named declared k.what x) (all_named declared ks x)
    (in_cases x here (gathered string_named (records (map (mended_at (0 ∷ declared)) ks))) i)

-- the description, with its index as it was or 0: its rules, its claims and its room stay
module _ (declared : List ℕ) (d : Description) where
  pub mended_described : (c : Chip) → description_breaks c (mended_description declared d) ≡ description_breaks c d
  unfolding description_rules
  mended_described c =
      by_test (λ e. description_breaks c e ≡ description_breaks c d) (among d.string declared) d (unindexed_description d)
      (λ e. refl) (λ e. refl)

  pub mended_claims : (rs : List Record) → contested (mended_description declared d) rs ≡ contested d rs
  mended_claims rs =
      by_test (λ e. contested e rs ≡ contested d rs) (among d.string declared) d (unindexed_description d) (λ e. refl) (λ e. refl)

  pub mended_opening : (n : ℕ) → all_roomy (opening d n) ≡ true → all_roomy (opening (mended_description declared d) n) ≡ true
  mended_opening n h =
      by_test (λ e. all_roomy (opening e n) ≡ true) (among d.string declared) d (unindexed_description d) (λ e. h)
      (λ e. set_roomy (opening d n) 4 h)

pub mended_string : (declared : List ℕ) (d : Description) → In (mended_description (0 ∷ declared) d).string (0 ∷ declared)
mended_string declared d =
    by_test (λ e. In e.string (0 ∷ declared)) (among d.string (0 ∷ declared)) d (unindexed_description d) (λ e. e) (λ e. refl)
