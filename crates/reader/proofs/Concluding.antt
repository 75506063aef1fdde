-- The rules over the whole table, from what the pass has gathered.
-- Assumes nothing.
use Prim.Native.Nat.{ℕ, ◌<◌}
use mathlib.Core.Path.{subst, ◌≡◌, refl, sym, ◌∙◌, ap}
use mathlib.Core.Bool.{Bool, true, false, ◌||◌, false≢true}
use mathlib.Core.List.{List, [], ◌∷◌}
use mathlib.Core.Option.{Option, none, some}
use lib.ListN.{get_or}
use lib.Dec.{eqb}
use borrow.Author.Tests.{eq-eqb, ne_eqb, eqb-true}
use Rattle.format.specs.Slots.{byte}
use Rattle.format.specs.Records.{Record}
use Rattle.format.specs.Pins.{among}
use Rattle.format.specs.ZonesAndStrings.{gathered, zones, strings, zone_named, string_named, first_naming, zoneless, nameless}
use Rattle.format.specs.Claims.{Made, first_clash, claims}
use Rattle.format.specs.Decode.{read_description}
use Rattle.format.specs.Reader.{elements_of, over_all, conclude}
use Rattle.format.specs.declared.records.Description.{Description}
use Rattle.format.specs.Answers.{Answer}
use Rattle.format.specs.Answers.{Gives as Accepted, Refused}
use Rattle.flags.specs.Marks.{Marks, Lacks}
use Rattle.claims.specs.Taken.{is_none, place_or, HeldIs}
use Rattle.claims.specs.declared.Held.{Held}
use Rattle.claims.proofs.Firsts.{place_none}
use Rattle.places.specs.Walks.{Walkable, or_zero}
use Rattle.pass.specs.declared.State.{State}
use Rattle.reader.specs.Whole.{Gathered}
use Rattle.reader.proofs.Owed.{none_named, one_named, all_declared, one_undeclared}
use Rattle.format.specs.declared.settings.Settings.{Settings}

-- the first clash, as the state holds it
none_is : (o : Option ℕ) → is_none o ≡ true → o ≡ none
none_is none h = refl
none_is (some p) h = absurd (false≢true h)

some_is : (o : Option ℕ) → is_none o ≡ false → o ≡ some (place_or o)
some_is none h = absurd (false≢true (sym h))
some_is (some p) h = refl

pub no_clash : (h : Held) (cs : List Made) → HeldIs h cs → h.clash ≡ 65536 → first_clash [] cs ≡ none
no_clash h cs k e =
    none_is (first_clash [] cs)
    (sym (place_none cs [] k.low) ∙ eq-eqb (place_or (first_clash [] cs)) 65536 (sym k.clash_at ∙ e))

pub a_clash : (h : Held) (cs : List Made) → HeldIs h cs → (h.clash ≡ 65536 → ⊥) → first_clash [] cs ≡ some h.clash
a_clash h cs k n =
    let m : place_or (first_clash [] cs) ≡ 65536 → ⊥ = λ e. n (k.clash_at ∙ e) in
    some_is (first_clash [] cs)
    (sym (place_none cs [] k.low) ∙ ne_eqb (place_or (first_clash [] cs)) 65536 m)
    ∙ ap some (sym k.clash_at)

-- a table with elements
module _ (σ : Settings) (t : List ℕ) (s : State) (zs ss zu su : List Bool) (g : Gathered σ t s zs ss zu su) where
  abbrev d : Description
  d = read_description σ.chip (byte t)

  abbrev rs : List Record
  rs = g.table.rs

  to_all : {a : Answer} → a ≡ over_all d rs → a ≡ conclude d (elements_of σ t)
  to_all e = e ∙ sym (ap (conclude d) g.table.whole)

  module _ (a : Bool) (l : Lacks zu zs a) where
    zoned : a ≡ false → zoneless rs ≡ none
    zoned e =
        none_named zone_named (zones rs) rs 16
        (all_declared zu zs (gathered zone_named rs) (zones rs) g.zone_use g.zone a l e)

    pub refused_13 :
        a ≡ true
        → (p : ℕ)
        → ((σ : Settings) (w : Walkable σ t) → Marks zs (zones w.rs) → p ≡ or_zero (first_naming zone_named (zones w.rs) 16 w.rs))
        → Refused 13 p ≡ conclude d (elements_of σ t)
    refused_13 e p f =
        let w = one_undeclared zu zs (gathered zone_named rs) (zones rs) g.zone_use g.zone a l e in
        let q = one_named zone_named (zones rs) rs 16 w.0 w.1 w.2 in
        let r : p ≡ q.0 = f σ g.table g.zone ∙ ap or_zero q.1 in
        to_all (rw (q.1, r) refl)

    module _ (b : Bool) (m : Lacks su ss b) (z : a ≡ false) where
      pub refused_14_description :
          b ≡ true → (n : ℕ) → n ≡ byte t 4 → n < 256 → get_or ss n false ≡ false → Refused 14 0 ≡ conclude d (elements_of σ t)
      refused_14_description e n q k h =
          let named_by : ℕ → Type 0 = λ m. among m (0 ∷ strings rs) ≡ false in
          let u : among (byte t 4) (0 ∷ strings rs) ≡ false = subst named_by q (sym (g.string.flag n k) ∙ h) in
          to_all (rw (zoned z, u) refl)

      pub refused_14 :
          b ≡ true
          → (n : ℕ)
          → n ≡ byte t 4
          → n < 256
          → get_or ss n false ≡ true
          → (p : ℕ)
          → ((σ : Settings) (w : Walkable σ t) → Marks ss (0 ∷ strings w.rs) → p
          ≡ or_zero (first_naming string_named (0 ∷ strings w.rs) 16 w.rs))
          → Refused 14 p ≡ conclude d (elements_of σ t)
      refused_14 e n q k h p f =
          let named_by : ℕ → Type 0 = λ m. among m (0 ∷ strings rs) ≡ true in
          let u : among (byte t 4) (0 ∷ strings rs) ≡ true = subst named_by q (sym (g.string.flag n k) ∙ h) in
          let w = one_undeclared su ss (byte t 4 ∷ gathered string_named rs) (0 ∷ strings rs) g.string_use g.string b m e in
          let i = w.0 in
          let v = one_named string_named (0 ∷ strings rs) rs 16 i (other i w.1 w.2 u (eqb i (byte t 4)) refl) w.2 in
          let r : p ≡ v.0 = f σ g.table g.string ∙ ap or_zero v.1 in
          to_all (rw (zoned z, u, v.1, r) refl)
        where
          other :
              (i : ℕ)
              → among i (byte t 4 ∷ gathered string_named rs) ≡ true
              → among i (0 ∷ strings rs) ≡ false
              → among (byte t 4) (0 ∷ strings rs) ≡ true
              → (c : Bool)
              → eqb i (byte t 4) ≡ c
              → among i (gathered string_named rs) ≡ true
          other i h n y true x =
              let named_by : ℕ → Type 0 = λ m. among m (0 ∷ strings rs) ≡ true in
              absurd (false≢true (sym n ∙ subst named_by (sym (eqb-true i (byte t 4) x)) y))
          other i h n y false x = sym (ap (λ (c : Bool). c || among i (gathered string_named rs)) x) ∙ h

      module _ (y : b ≡ false) where
        all_named : (i : ℕ) → among i (byte t 4 ∷ gathered string_named rs) ≡ true → among i (0 ∷ strings rs) ≡ true
        all_named i h =
            all_declared su ss (byte t 4 ∷ gathered string_named rs) (0 ∷ strings rs) g.string_use g.string b m y i h

        named : nameless d rs ≡ none
        named =
            rw (all_named (byte t 4) (ap (λ (c : Bool). c || among (byte t 4) (gathered string_named rs))
            (eq-eqb (byte t 4) (byte t 4) refl)))
            (none_named string_named (0 ∷ strings rs) rs 16 (λ i h. all_named i (later i (eqb i (byte t 4)) h)))
          where
            later : (i : ℕ) (c : Bool) → among i (gathered string_named rs) ≡ true → c || among i (gathered string_named rs) ≡ true
            later i true h = refl
            later i false h = h

        pub refused_15 : (s.held.clash ≡ 65536 → ⊥) → Refused 15 s.held.clash ≡ conclude d (elements_of σ t)
        refused_15 n = to_all (rw (zoned z, named, a_clash s.held (claims d rs) g.held n) refl)

        pub accepted_0 : s.held.clash ≡ 65536 → Accepted s.count ≡ conclude d (elements_of σ t)
        accepted_0 n = to_all (rw (zoned z, named, no_clash s.held (claims d rs) g.held n) (ap Accepted g.count))
