-- What the reader names first of a table that keeps the rules up to 12: by 13 and 14 the first element that names what is not
-- declared, by 15 the first that clashes with those before it.
-- Assumes nothing.
use Prim.Native.Nat.{ℕ, ◌+◌, ◌≤◌}
use native.Mathlib.Omega.{arith}
use mathlib.Core.Path.{◌≡◌, refl, sym, ◌∙◌, ap}
use mathlib.Core.Bool.{Bool, true, false, not, true≢false}
use mathlib.Core.List.{List, [], ◌∷◌, ◌++◌, append_assoc}
use mathlib.Core.Option.{none, some}
use lib.ListN.{length, length-append}
use Rattle.format.specs.Slots.{written, all_roomy}
use Rattle.format.specs.Records.{Record}
use Rattle.format.specs.Layout.{layout, layouts, opening, table, place_after}
use Rattle.format.specs.Rules.{unless_kept}
use Rattle.format.specs.ZonesAndStrings.{Role, role, gathered, all_among, first_naming}
use Rattle.format.specs.Claims.{Claim, Made, made_at, clashes, first_clash, claims_of, first_claims, claims_from, claims, contested}
use Rattle.format.specs.Table.{description_breaks, PassKept}
use Rattle.format.specs.Verdict.{Passed}
use Rattle.format.specs.declared.records.Description.{Description}
use Rattle.format.specs.declared.settings.Settings.{Settings}
use Rattle.format.proofs.Kept.{unless_none}
use Rattle.format.proofs.Slots.{roomy_split, roomy_join}
use Rattle.format.proofs.Growing.{claims_from_lem, claims_snoc}
use Rattle.format.proofs.Written.{written_fits, length_written}
use Rattle.removal.specs.Parts.{Part}
use Rattle.removal.proofs.Among.{Within, in_left, in_right, within_all}
use Rattle.removal.proofs.Passing.{part_passed}
use Rattle.removal.proofs.Keeping.{part_limit, part_held}
use Rattle.saving.specs.Saving.{is_none}
use Rattle.saving.proofs.Alike.{EachAlike, no_more, alike_length, alike_roomy, alike_passed}

-- what a table under repair keeps
pub record Sofar (σ : Settings) (d : Description) (rs : List Record) : Type 0 where
  pub room : all_roomy (table d rs) ≡ true
  pub limit : length (table d rs) ≤ 4096
  pub described : description_breaks σ.chip d ≡ none
  pub kept : PassKept σ [] rs

module _ (σ : Settings) (d : Description) where
  pub sofar_passed : (rs : List Record) → Sofar σ d rs → Passed σ (written (table d rs)) d rs
  sofar_passed rs k =
      record {
        limit = omega (arith, length_written (table d rs), k.limit);
        fits = written_fits (table d rs) k.room;
        described = k.described;
        passed = k.kept;
      }

  pub sofar_part : {ss rs : List Record} → Part Record ss rs → Sofar σ d rs → Sofar σ d ss
  sofar_part p k =
      record {
        room = part_held d p k.limit k.room;
        limit = part_limit d p k.limit;
        described = k.described;
        kept = part_passed σ p k.kept;
      }

  pub sofar_alike : {ss rs : List Record} → EachAlike ss rs → Sofar σ d rs → Sofar σ d ss
  sofar_alike {ss} {rs} a k =
      let n = alike_length a in
      let h = roomy_split (opening d (16 + length (layouts rs))) (layouts rs) k.room in
      record {
        room = roomy_join (opening d (16 + length (layouts ss))) (layouts ss) (rw n h.0) (alike_roomy a h.1);
        limit = omega (arith, n, k.limit);
        described = k.described;
        kept = alike_passed σ no_more a k.kept;
      }

-- 13 and 14
pub naming_first :
    (names : Role → List ℕ) (declared : List ℕ) (p : ℕ) (before : List Record) (r : Record) (after : List Record)
    → Within (gathered names before) declared
    → all_among (names (role r)) declared ≡ false
    → first_naming names declared p (before ++ r ∷ after) ≡ some (p + length (layouts before))
naming_first names declared p [] r after w n = let e : p + 0 ≡ p = omega arith in rw (n, e) refl
naming_first names declared p (s ∷ before) r after w n =
    let e : p + length (layout s) + length (layouts before) ≡ p + length (layout s ++ layouts before) =
    omega (arith, length-append (layout s) (layouts before)) in
    let here = within_all (names (role s)) declared (λ x i. w x (in_left x (names (role s)) (gathered names before) i)) in
    rw here
    (naming_first names declared (p + length (layout s)) before r after
    (λ x i. w x (in_right x (names (role s)) (gathered names before) i)) n
    ∙ ap some e)

-- 15: claims before, that do not clash, and then those of one place
claimed : List Claim → List Made → List Claim
claimed earlier [] = earlier
claimed earlier (m ∷ ms) = claimed (m.what ∷ earlier) ms

clash_after :
    (earlier : List Claim) (ms ns : List Made)
    → first_clash earlier ms ≡ none
    → first_clash earlier (ms ++ ns) ≡ first_clash (claimed earlier ms) ns
unfolding claimed
clash_after earlier [] ns h = refl
clash_after earlier (m ∷ ms) ns h =
    let s = unless_none (not (clashes m.what earlier)) m.place (first_clash (m.what ∷ earlier) ms) h in
    rw s.0 (clash_after (m.what ∷ earlier) ms ns s.1)

clash_here :
    (earlier : List Claim) (p : ℕ) (cs : List Claim) (ns : List Made)
    → is_none (first_clash earlier (made_at p cs)) ≡ false
    → first_clash earlier (made_at p cs ++ ns) ≡ some p
clash_here earlier p [] ns h = absurd (true≢false h)
clash_here earlier p (c ∷ cs) ns h = go (not (clashes c earlier)) h (λ e. clash_here (c ∷ earlier) p cs ns e)
  where
    go :
        (t : Bool)
        → is_none (unless_kept t p (first_clash (c ∷ earlier) (made_at p cs))) ≡ false
        → (is_none (first_clash (c ∷ earlier) (made_at p cs)) ≡ false → first_clash (c ∷ earlier) (made_at p cs ++ ns) ≡ some p)
        → unless_kept t p (first_clash (c ∷ earlier) (made_at p cs ++ ns)) ≡ some p
    go true e f = f e
    go false e f = refl

pub clash_first :
    (d : Description) (before : List Record) (r : Record) (after : List Record)
    → contested d before ≡ none
    → is_none (contested d (before ++ r ∷ [])) ≡ false
    → contested d (before ++ r ∷ after) ≡ some (place_after before)
clash_first d before r after h n =
    let cs = made_at (place_after before) (claims_of r) in
    let more = claims_from (place_after before + length (layout r)) after in
    let all : claims d (before ++ r ∷ after) ≡ claims d before ++ (cs ++ more) =
    ap (λ (l : List Made). made_at 0 (first_claims d) ++ l) (claims_from_lem 16 before (r ∷ after))
    ∙ sym (append_assoc (made_at 0 (first_claims d)) (claims_from 16 before) (cs ++ more)) in
    let e : is_none (first_clash (claimed [] (claims d before)) cs) ≡ false =
    sym (ap is_none (clash_after [] (claims d before) cs h))
    ∙ sym (ap (λ (l : List Made). is_none (first_clash [] l)) (claims_snoc d before r))
    ∙ n in
    ap (λ (l : List Made). first_clash [] l) all
    ∙ clash_after [] (claims d before) (cs ++ more) h
    ∙ clash_here (claimed [] (claims d before)) (place_after before) (claims_of r) more e
