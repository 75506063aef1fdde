-- What is kept is a part of what stood there, in order, each record as it was or with its string index cleared.
-- Assumes nothing.
use Prim.Native.Nat.{ℕ, zero, suc, ◌+◌}
use mathlib.Core.Path.{◌≡◌, refl, ◌∙◌, ap, subst}
use mathlib.Core.List.{List, [], ◌∷◌, ◌++◌, map}
use mathlib.Core.Logic.{◌⊎◌, inl, inr}
use lib.ListN.{length, drop}
use lib.Seq.{drop-drop}
use Rattle.format.specs.Slots.{Bytes}
use Rattle.format.specs.Records.{Record}
use Rattle.format.specs.ZonesAndStrings.{role, string_named, all_among}
use Rattle.format.specs.Verdict.{stated, framed, Stands}
use Rattle.format.specs.declared.pins.Chip.{Chip}
use Rattle.format.specs.declared.records.Description.{Description}
use Rattle.format.specs.declared.settings.Settings.{Settings}
use Rattle.removal.specs.Parts.{Part, done, keep, leave}
use Rattle.saving.specs.Saving.{At, standing, elements, unindexed, string_indexes, first_line, passed, named, in_zones, ending}
use Rattle.saving.proofs.Sifting.{All, by_test}
use Rattle.saving.proofs.Reading.{Reads, nothing, reads, passes_over, pass_saved}
use Rattle.saving.proofs.Choosing.{zoned_part, unclashed_part}
use Rattle.saving.proofs.Mending.{mended_at, mended_kept}

-- the elements are the table's bytes from their places on
pub elements_there : (b : List ℕ) → All (λ x. x.what ≡ drop x.place b) (elements b)
elements_there b = go (length (drop 16 b)) 16 (drop 16 b) refl
  where
    go : (n p : ℕ) (bs : List ℕ) → bs ≡ drop p b → All (λ x. x.what ≡ drop x.place b) (standing n p bs)
    go zero p bs e = tt
    go (suc n) p bs e =
        by_test (All (λ x. x.what ≡ drop x.place b)) (framed bs) _ []
        (λ f. (e, go n (p + stated bs) (drop (stated bs) bs) (ap (drop (stated bs)) e ∙ drop-drop (stated bs) p b)))
        (λ f. tt)

-- of each element that stood there, what became of it
pub data KeptOf (c : Chip) : List (At Record) → List (At (List ℕ)) → Type 0 where
  no_more : KeptOf c [] []
  -- it is kept, at its old place: the record as it stood, or that with its string index 0
  kept :
      {k : At Record} {x : At (List ℕ)} {ks : List (At Record)} {xs : List (At (List ℕ))} (r : Record)
      → Stands c x.what r
      → k.place ≡ x.place
      → (k.what ≡ r) ⊎ (k.what ≡ unindexed r)
      → KeptOf c ks xs
      → KeptOf c (k ∷ ks) (x ∷ xs)
  left : {x : At (List ℕ)} {ks : List (At Record)} {xs : List (At (List ℕ))} → KeptOf c ks xs → KeptOf c ks (x ∷ xs)

-- the pass, 13, 14 and 15, one after the other
together :
    (c : Chip) (is : List ℕ) {out mid was : List (At Record)} {xs : List (At (List ℕ))}
    → Reads c was xs
    → Part (At Record) mid was
    → Part (At Record) out (map (mended_at is) mid)
    → KeptOf c out xs
together c is nothing done done = no_more
together c is (passes_over r) q p = left (together c is r q p)
together c is (reads {k = k} e s r) (keep q) (keep {xs = ys} p) =
    let a = k.what in
    kept a s e
    (by_test (λ m. (m ≡ a) ⊎ (m ≡ unindexed a)) (all_among (string_named (role a)) is) a (unindexed a) (λ t. inl refl) (λ t. inr refl))
    (together c is {out = ys} r q p)
together c is (reads e s r) (keep q) (leave p) = left (together c is r q p)
together c is (reads e s r) (leave q) p = left (together c is r q p)

-- THE THEOREM, whatever the description
pub kept_part : (σ : Settings) (b : List ℕ) (d : Description) → Bytes b → KeptOf σ.chip (ending d (in_zones σ b)).kept (elements b)
kept_part σ b d small =
    let s = passed σ b in
    let z = in_zones σ b in
    let is = string_indexes z in
    together σ.chip is (pass_saved σ b small).there (zoned_part s)
    (subst (λ (l : List (At Record)). Part (At Record) (ending d z).kept l)
    (mended_kept is (z.lines ++ first_line is d) z.kept)
    (unclashed_part d (named d z)))
