-- 13, 14 and 15 from flags and first places: the least place of an undeclared number is the one that the definitions name.
-- Assumes nothing.
use Prim.Native.Nat.{ℕ, ◌+◌, ◌<◌}
use native.Mathlib.Omega.{arith}
use mathlib.Core.Path.{◌≡◌, refl, sym, ◌∙◌, ap, subst}
use mathlib.Core.Bool.{Bool, true, false, ◌||◌, false≢true}
use mathlib.Core.List.{List, [], ◌∷◌, append-nil}
use mathlib.Core.Option.{none}
use lib.ListN.{length, get_or, set}
use lib.Dec.{eqb}
use borrow.Author.Tests.{eq-eqb, ne_eqb}
use Rattle.format.specs.Records.{Record}
use Rattle.format.specs.Layout.{layout}
use Rattle.format.specs.Pins.{among}
use Rattle.format.specs.ZonesAndStrings.{Role, role, gathered, zones, strings, zone_named, string_named, zoneless, nameless}
use Rattle.format.specs.Claims.{claims, made_at, first_claims}
use Rattle.format.specs.declared.records.Description.{Description}
use Rattle.format.specs.Answers.{Answer}
use Rattle.format.specs.Answers.{Gives as Accepted, Refused}
use Rattle.flags.specs.Marks.{Marks, Lacks}
use Rattle.flags.proofs.Marked.{marks_front}
use Rattle.claims.specs.Taken.{HeldIs}
use Rattle.claims.specs.declared.Held.{Held}
use Rattle.claims.proofs.Sets.{among_append}
use Rattle.pass.specs.Tracks.{Flags}
use Rattle.pass.specs.declared.State.{State}
use Rattle.firsts.specs.Firsts.{pick, first_place, Firsts, LeastTo}
use Rattle.firsts.proofs.Naming.{no_name, a_name}
use Rattle.reader.proofs.Concluding.{no_clash, a_clash}
use Rattle.closing.specs.Ways.{Gone}
use Rattle.ending.specs.Ending.{LackingIs, AloneIs, OverIs}

-- nothing lacks
pub lacking_none : (used seen : List Bool) (places : List ℕ) (t : Bool) → Lacks used seen t → t ≡ false → LackingIs used seen places 0
lacking_none used seen places t l e =
    record {
      least =
          λ f.
          record {
            none_there = λ _ i h k. f i h (unused i h k (get_or used i false) refl);
            one_there = λ n. absurd (n refl);
            no_less = λ i h k n. absurd (n (f i h (unused i h k (get_or used i false) refl)));
          };
    }
  where
    unused : (i : ℕ) → i < 256 → get_or seen i false ≡ false → (t : Bool) → get_or used i false ≡ t → get_or used i false ≡ false
    unused i h k true q = absurd (false≢true (sym k ∙ l.none e i h q))
    unused i h k false q = q

-- a number that no element names has no place
unnamed : (names : Role → List ℕ) (n at : ℕ) (rs : List Record) → among n (gathered names rs) ≡ false → first_place names n at rs ≡ 0
unnamed names n at [] h = refl
unnamed names n at (r ∷ rs) h =
    go (among n (names (role r))) (unnamed names n (at + length (layout r)) rs)
    (sym (among_append n (names (role r)) (gathered names rs)) ∙ h)
  where
    go :
        (t : Bool)
        → (among n (gathered names rs) ≡ false → first_place names n (at + length (layout r)) rs ≡ 0)
        → t || among n (gathered names rs) ≡ false
        → pick t at (first_place names n (at + length (layout r)) rs) ≡ 0
    go true f k = absurd (false≢true (sym k))
    go false f k = f k

-- flags of the numbers that elements name, and of one more or none
module _ (names : Role → List ℕ) (used : List Bool) (ns : List ℕ) (rs : List Record) (m : Marks used ns)
    (named : (i : ℕ) → among i ns ≡ false → among i (gathered names rs) ≡ false) where
  placeless : (l : List ℕ) → Firsts names l rs → (i : ℕ) → i < 256 → get_or used i false ≡ false → get_or l i 0 ≡ 0
  placeless l f i h e = f.place i h ∙ unnamed names i 16 rs (named i (sym (m.flag i h) ∙ e))

  low : (i : ℕ) → (first_place names i 16 rs ≡ 0 → ⊥) → i < 256
  low i n = go (among i ns) refl
    where
      go : (t : Bool) → among i ns ≡ t → i < 256
      go true q = m.low i q
      go false q = absurd (n (unnamed names i 16 rs (named i q)))

-- 13, 14, 15
module _ (string : ℕ) (s : State) (f : Flags) (zp sp : List ℕ) (a : Answer) where
  module _ (d : Description) (rs : List Record) (g : Gone d s f zp sp rs) where
    zone_low : (i : ℕ) → (first_place zone_named i 16 rs ≡ 0 → ⊥) → i < 256
    zone_low = low zone_named f.zone_uses (gathered zone_named rs) rs g.tracks.zone_use (λ i e. e)

    zone_least : {z : ℕ} → LackingIs f.zone_uses f.zones_declared zp z → LeastTo 256 zp f.zones_declared z
    zone_least l =
        l.least (placeless zone_named f.zone_uses (gathered zone_named rs) rs g.tracks.zone_use (λ i e. e) zp g.zone_first)

    or-false : (t u : Bool) → t || u ≡ false → u ≡ false
    or-false true u e = absurd (false≢true (sym e))
    or-false false u e = e

    other : (i : ℕ) → among i (d.string ∷ gathered string_named rs) ≡ false → among i (gathered string_named rs) ≡ false
    other i e = or-false (eqb i d.string) (among i (gathered string_named rs)) e

    string_low : (i : ℕ) → (first_place string_named i 16 rs ≡ 0 → ⊥) → i < 256
    string_low = low string_named f.string_uses (d.string ∷ gathered string_named rs) rs g.tracks.string_use other

    string_least : {t : ℕ} {seen : List Bool} → LackingIs f.string_uses seen sp t → LeastTo 256 sp seen t
    string_least l =
        l.least
        (placeless string_named f.string_uses (d.string ∷ gathered string_named rs) rs g.tracks.string_use other sp
        g.string_first)

    declared : Marks (set f.strings_declared 0 true) (0 ∷ strings rs)
    declared = marks_front f.strings_declared (strings rs) 0 (omega arith) g.tracks.string

  module _ (z : ℕ) (l : LackingIs f.zone_uses f.zones_declared zp z) where
    pub over_13 : (z ≡ 0 → ⊥) → a ≡ Refused 13 z → OverIs string s f zp sp a
    over_13 h p =
        record {
          concludes =
              λ d rs e g.
              p
              ∙ sym
              (rw (a_name zone_named zp f.zones_declared (zones rs) rs z g.zone_first g.tracks.zone (zone_least d rs g l)
              (zone_low d rs g) h)
              refl);
        }

    module _ (h : z ≡ 0) where
      zoned : (d : Description) (rs : List Record) → Gone d s f zp sp rs → zoneless rs ≡ none
      zoned d rs g =
          no_name zone_named zp f.zones_declared (zones rs) rs z g.zone_first g.tracks.zone (zone_least d rs g l)
          (zone_low d rs g) h

      module _ (i : ℕ) (w : (i ≡ string) × (i < 256)) where
        own :
            (t : Bool)
            → get_or (set f.strings_declared 0 true) i false ≡ t
            → (d : Description) (rs : List Record)
            → string ≡ d.string
            → Gone d s f zp sp rs
            → among d.string (0 ∷ strings rs) ≡ t
        own t y d rs e g =
            subst (λ (n : ℕ). among n (0 ∷ strings rs) ≡ t) (w.0 ∙ e) (sym ((declared d rs g).flag i w.1) ∙ y)

        pub over_14_description : get_or (set f.strings_declared 0 true) i false ≡ false → a ≡ Refused 14 0 → OverIs string s f zp sp a
        over_14_description y p = record { concludes = λ d rs e g. p ∙ sym (rw (zoned d rs g, own false y d rs e g) refl) }

        module _ (y : get_or (set f.strings_declared 0 true) i false ≡ true) (t : ℕ)
            (k : LackingIs f.string_uses (set f.strings_declared 0 true) sp t) where
          pub over_14 : (t ≡ 0 → ⊥) → a ≡ Refused 14 t → OverIs string s f zp sp a
          over_14 x p =
              record {
                concludes =
                    λ d rs e g.
                    p
                    ∙ sym
                    (rw (
                      zoned d rs g,
                      own true y d rs e g,
                      a_name string_named sp (set f.strings_declared 0 true) (0 ∷ strings rs) rs t g.string_first (declared d rs g)
                          (string_least d rs g k) (string_low d rs g) x,
                    ) refl);
              }

          module _ (x : t ≡ 0) where
            all_named : (d : Description) (rs : List Record) → string ≡ d.string → Gone d s f zp sp rs → nameless d rs ≡ none
            all_named d rs e g =
                rw (own true y d rs e g)
                (no_name string_named sp (set f.strings_declared 0 true) (0 ∷ strings rs) rs t g.string_first (declared d rs g)
                (string_least d rs g k) (string_low d rs g) x)

            pub over_15 : (s.held.clash ≡ 65536 → ⊥) → a ≡ Refused 15 s.held.clash → OverIs string s f zp sp a
            over_15 q p =
                record {
                  concludes =
                      λ d rs e g.
                      p ∙ sym (rw (zoned d rs g, all_named d rs e g, a_clash s.held (claims d rs) g.tracks.held q) refl);
                }

            pub over_0 : s.held.clash ≡ 65536 → a ≡ Accepted s.count → OverIs string s f zp sp a
            over_0 q p =
                record {
                  concludes =
                      λ d rs e g.
                      p
                      ∙ sym
                      (rw (zoned d rs g, all_named d rs e g, no_clash s.held (claims d rs) g.tracks.held q)
                      (ap Accepted (sym g.tracks.count)));
                }

-- a description alone
module _ (string : ℕ) (h : Held) where
  held_alone : (d : Description) → HeldIs h (made_at 0 (first_claims d)) → HeldIs h (claims d [])
  held_alone d k = rw append-nil k

  pub alone_14 : (string ≡ 0 → ⊥) → AloneIs string h (Refused 14 0)
  alone_14 n = record { says = λ d e k. sym (rw (ne_eqb d.string 0 (λ z. n (e ∙ z))) refl) }

  pub alone_15 : string ≡ 0 → (h.clash ≡ 65536 → ⊥) → AloneIs string h (Refused 15 h.clash)
  alone_15 z n =
      record { says = λ d e k. sym (rw (eq-eqb d.string 0 (sym e ∙ z), a_clash h (claims d []) (held_alone d k) n) refl) }

  pub alone_0 : string ≡ 0 → h.clash ≡ 65536 → AloneIs string h (Accepted 0)
  alone_0 z n =
      record { says = λ d e k. sym (rw (eq-eqb d.string 0 (sym e ∙ z), no_clash h (claims d []) (held_alone d k) n) refl) }
