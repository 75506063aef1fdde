-- 13 and 14 without places: every number named is declared.
-- Assumes nothing.
use Prim.Native.Nat.{ℕ, ◌+◌}
use mathlib.Core.Path.{◌≡◌, refl}
use mathlib.Core.Bool.{false≢true}
use mathlib.Core.List.{List, [], ◌∷◌}
use mathlib.Core.Logic.{◌↔◌, ⊎_elim}
use mathlib.Core.Option.{none}
use lib.ListN.{length}
use lib.Dec.{eqb}
use borrow.Author.Tests.{eqb-true}
use Rattle.format.specs.Records.{Record}
use Rattle.format.specs.Layout.{layout}
use Rattle.format.specs.Pins.{among}
use Rattle.format.specs.Rules.{unless_kept}
use Rattle.format.specs.ZonesAndStrings.{Role, role, gathered, zone_named, string_named}
use Rattle.format.specs.ZonesAndStrings.{zones, strings, all_among, first_naming, zoneless, nameless}
use Rattle.format.specs.declared.records.Description.{Description}
use Rattle.format.proofs.Kept.{unless_none}
use Rattle.removal.specs.Taking.{zones_named, strings_named}
use Rattle.removal.proofs.Among.{Within, or_cases, or_right, in_here, in_left, in_right, in_cases, all_within, within_all}

module _ (names : Role → List ℕ) (declared : List ℕ) where
  naming_within : (at : ℕ) (rs : List Record) → first_naming names declared at rs ≡ none → Within (gathered names rs) declared
  naming_within at [] h x i = absurd (false≢true i)
  naming_within at (r ∷ rs) h x i =
      let s = unless_none (all_among (names (role r)) declared) at (first_naming names declared (at + length (layout r)) rs) h in
      ⊎_elim
      (all_within (names (role r)) declared s.0 x)
      (naming_within (at + length (layout r)) rs s.1 x)
      (in_cases x (names (role r)) (gathered names rs) i)

  within_naming : (at : ℕ) (rs : List Record) → Within (gathered names rs) declared → first_naming names declared at rs ≡ none
  within_naming at [] w = refl
  within_naming at (r ∷ rs) w =
      simp (
        within_all (names (role r)) declared (λ x i. w x (in_left x (names (role r)) (gathered names rs) i)),
        within_naming (at + length (layout r)) rs (λ x i. w x (in_right x (names (role r)) (gathered names rs) i)),
      )

-- 13
pub zoned_exactly : (rs : List Record) → (zoneless rs ≡ none) ↔ Within (zones_named rs) (zones rs)
zoned_exactly rs = (naming_within zone_named (zones rs) 16 rs, within_naming zone_named (zones rs) 16 rs)

-- 14
pub named_exactly : (d : Description) (rs : List Record) → (nameless d rs ≡ none) ↔ Within (strings_named d rs) (0 ∷ strings rs)
named_exactly d rs = (to (0 ∷ strings rs), from (0 ∷ strings rs))
  where
    to :
        (declared : List ℕ)
        → unless_kept (among d.string declared) 0 (first_naming string_named declared 16 rs) ≡ none
        → Within (strings_named d rs) declared
    to declared h x i =
        let s = unless_none (among d.string declared) 0 (first_naming string_named declared 16 rs) h in
        ⊎_elim
        (λ e. rw (eqb-true x d.string e) s.0)
        (naming_within string_named declared 16 rs s.1 x)
        (or_cases (eqb x d.string) (among x (gathered string_named rs)) i)

    from :
        (declared : List ℕ)
        → Within (strings_named d rs) declared
        → unless_kept (among d.string declared) 0 (first_naming string_named declared 16 rs) ≡ none
    from declared w =
        simp (
          w d.string (in_here d.string (gathered string_named rs)),
          within_naming string_named declared 16 rs (λ x i. w x (or_right (eqb x d.string) (among x (gathered string_named rs)) i)),
        )
