-- An element and its part make a record exactly where the record has that element and that part as written, and none exactly
-- where there is no such record: `assemble`, which append's words use, said without the reader's cut. A part has no reserved
-- place, so that bytes which fit it are what is written of it.
-- Assumes nothing.
use Prim.Native.Nat.{ℕ, suc}
use native.Mathlib.Omega.{arith}
use mathlib.Core.Path.{◌≡◌, refl, sym, ◌∙◌, ap, subst}
use mathlib.Core.Bool.{Bool, true, false, ◌&&◌, false≢true}
use mathlib.Core.List.{List, [], ◌∷◌, ◌++◌, map}
use mathlib.Core.Option.{Option, none, some}
use lib.ListN.{length}
use borrow.Author.Tests.{lt-ltb}
use Rattle.format.specs.Slots.{Slot, whole, low, high, halves, flag, reserved, written, Fits, all_roomy, Bytes}
use Rattle.format.specs.Records.{Block, Record, digital, analogue, fan, led, water, pump, voltage, current, controller, tachometer, zone}
use Rattle.format.specs.Records.{string, external, rgb, element_of}
use Rattle.format.specs.Layout.{pairs, entries, blocks, part}
use Rattle.format.specs.Decode.{bind, when_nil, cut_blocks, cut_two, cut_three}
use Rattle.format.specs.Writing.{assemble}
use Rattle.format.specs.declared.records.RegisterPair.{RegisterPair}
use Rattle.format.specs.declared.records.BusDevice.{BusDevice}
use Rattle.format.specs.declared.records.ExternalRgb.{ExternalRgb}
use Rattle.format.specs.declared.records.Element.{Element}
use Rattle.format.specs.declared.records.Element.TheVariants.{Digital, Analogue, Fan, Led, Water, Pump, Voltage, Current, Controller}
use Rattle.format.specs.declared.records.Element.TheVariants.{Tachometer, Zone, Text, External, Rgb}
use Rattle.format.proofs.Kept.{and-true}
use Rattle.format.proofs.Blocks.{BlocksFit, blocks_fits, TwoFit, two_fits, ThreeFit, three_fits}
use Rattle.format.proofs.Whole.{written_whole}
use Rattle.demands.specs.Made.{MadeOf}
use Rattle.demands.proofs.Assembled.{assembles}

-- slots without a reserved place
abbrev plain : Slot → Bool
plain (whole v) = true
plain (low v) = false
plain (high v) = false
plain (halves t v) = false
plain (flag t v) = false
plain reserved = false

abbrev all_plain : List Slot → Bool
all_plain [] = true
all_plain (s ∷ ss) = plain s && all_plain ss

plain_append : (ss ts : List Slot) → all_plain ss ≡ true → all_plain ts ≡ true → all_plain (ss ++ ts) ≡ true
plain_append [] ts h k = k
plain_append (s ∷ ss) ts h k =
    let p = and-true (plain s) (all_plain ss) h in
    rw p.0 (plain_append ss ts p.1 k)

pairs_plain : (ps : List RegisterPair) → all_plain (pairs ps) ≡ true
pairs_plain [] = refl
pairs_plain (p ∷ ps) = pairs_plain ps

blocks_plain : (l : List Block) → all_plain (blocks l) ≡ true
blocks_plain [] = refl
blocks_plain (b ∷ l) = plain_append (pairs b.pairs) (blocks l) (pairs_plain b.pairs) (blocks_plain l)

whole_plain : (p : List ℕ) → all_plain (map whole p) ≡ true
whole_plain [] = refl
whole_plain (b ∷ p) = whole_plain p

part_plain : (r : Record) → all_plain (part r) ≡ true
part_plain (digital d) = refl
part_plain (analogue a) = refl
part_plain (fan f) = refl
part_plain (led l) = refl
part_plain (water w) = refl
part_plain (pump f) = refl
part_plain (voltage v) = refl
part_plain (current c) = refl
part_plain (controller d l) = blocks_plain l
part_plain (tachometer d a b) = plain_append (entries a) (entries b) (pairs_plain a) (pairs_plain b)
part_plain (zone bytes) = whole_plain bytes
part_plain (string bytes) = whole_plain bytes
part_plain (external x r g b) =
    plain_append (entries r) (entries g ++ entries b) (pairs_plain r) (plain_append (entries g) (entries b) (pairs_plain g) (pairs_plain b))
part_plain (rgb r) = refl

-- bytes that fit them are what is written of them, and they have room
fits_written : (bs : List ℕ) (ss : List Slot) → all_plain ss ≡ true → Fits bs ss → written ss ≡ bs
fits_written bs [] h f = sym f
fits_written [] (s ∷ ss) h f = absurd f
fits_written (b ∷ bs) (whole v ∷ ss) h f = rw (fits_written bs ss h f.1, f.0) refl
fits_written (b ∷ bs) (low v ∷ ss) h f = absurd (false≢true h)
fits_written (b ∷ bs) (high v ∷ ss) h f = absurd (false≢true h)
fits_written (b ∷ bs) (halves t v ∷ ss) h f = absurd (false≢true h)
fits_written (b ∷ bs) (flag t v ∷ ss) h f = absurd (false≢true h)
fits_written (b ∷ bs) (reserved ∷ ss) h f = absurd (false≢true h)

plain_roomy : (ss : List Slot) → all_plain ss ≡ true → Bytes (written ss) → all_roomy ss ≡ true
plain_roomy [] h f = refl
plain_roomy (whole v ∷ ss) h f = rw (lt-ltb v 256 (f 0)) (plain_roomy ss h (λ i. f (suc i)))
plain_roomy (low v ∷ ss) h f = absurd (false≢true h)
plain_roomy (high v ∷ ss) h f = absurd (false≢true h)
plain_roomy (halves t v ∷ ss) h f = absurd (false≢true h)
plain_roomy (flag t v ∷ ss) h f = absurd (false≢true h)
plain_roomy (reserved ∷ ss) h f = absurd (false≢true h)

pub part_roomy_lem : (r : Record) → Bytes (written (part r)) → all_roomy (part r) ≡ true
part_roomy_lem r f = plain_roomy (part r) (part_plain r) f

never : {A : Type 0} {r : Record} → ◌≡◌ {A = Option Record} none (some r) → A
never h = let z : ◌≡◌ {A = ℕ} 0 1 = cc in absurd (omega arith)

module _ (r : Record) where
  bare : (x : Record) (e : Element) (p : List ℕ) → element_of x ≡ e → part x ≡ [] → when_nil p x ≡ some r → MadeOf e p r
  bare x e [] q w h =
      let z : x ≡ r = cc in
      subst (MadeOf e []) z (record { element = q; as_written = ap written w })
  bare x e (b ∷ p) q w h = never h

  cut :
      (d : BusDevice) (p : List ℕ) (o : Option (List Block))
      → BlocksFit p o
      → bind o (λ l. some (controller d l)) ≡ some r
      → MadeOf (Controller d) p r
  cut d p none f h = never h
  cut d p (some l) f h =
      let z : controller d l ≡ r = cc in
      subst (MadeOf (Controller d) p) z (record { element = refl; as_written = fits_written p (blocks l) (blocks_plain l) f })

  cut_two_lem :
      (d : BusDevice) (p : List ℕ) (o : Option (List RegisterPair × List RegisterPair))
      → TwoFit p o
      → bind o (λ t. some (tachometer d t.0 t.1)) ≡ some r
      → MadeOf (Tachometer d) p r
  cut_two_lem d p none f h = never h
  cut_two_lem d p (some t) f h =
      let z : tachometer d t.0 t.1 ≡ r = cc in
      subst (MadeOf (Tachometer d) p) z
      (record {
        element = refl;
        as_written = fits_written p (entries t.0 ++ entries t.1)
            (part_plain (tachometer d t.0 t.1)) f;
      })

  cut_three_lem :
      (x : ExternalRgb) (p : List ℕ) (o : Option (List RegisterPair × List RegisterPair × List RegisterPair))
      → ThreeFit p o
      → bind o (λ t. some (external x t.0 t.1 t.2)) ≡ some r
      → MadeOf (External x) p r
  cut_three_lem x p none f h = never h
  cut_three_lem x p (some t) f h =
      let y = external x t.0 t.1 t.2 in
      let z : y ≡ r = cc in
      subst (MadeOf (External x) p) z (record { element = refl; as_written = fits_written p (part y) (part_plain y) f })

  content : (x : Record) (e : Element) (p : List ℕ) → element_of x ≡ e → written (part x) ≡ p → some x ≡ some r → MadeOf e p r
  content x e p q w h = let z : x ≡ r = cc in subst (MadeOf e p) z (record { element = q; as_written = w })

  -- what they make has them
  pub makes : (e : Element) (p : List ℕ) → Bytes p → assemble e p ≡ some r → MadeOf e p r
  makes (Digital d) p f h = bare (digital d) _ p refl refl h
  makes (Analogue a) p f h = bare (analogue a) _ p refl refl h
  makes (Fan x) p f h = bare (fan x) _ p refl refl h
  makes (Led l) p f h = bare (led l) _ p refl refl h
  makes (Water w) p f h = bare (water w) _ p refl refl h
  makes (Pump x) p f h = bare (pump x) _ p refl refl h
  makes (Voltage v) p f h = bare (voltage v) _ p refl refl h
  makes (Current c) p f h = bare (current c) _ p refl refl h
  makes (Controller d) p f h = cut d p (cut_blocks (length p) p) (blocks_fits (length p) p f) h
  makes (Tachometer d) p f h = cut_two_lem d p (cut_two p) (two_fits p f) h
  makes Zone p f h = content (zone p) Zone p refl (written_whole p) h
  makes Text p f h = content (string p) Text p refl (written_whole p) h
  makes (External x) p f h = cut_three_lem x p (cut_three p) (three_fits p f) h
  makes (Rgb x) p f h = bare (rgb x) _ p refl refl h

  -- and what has them they make
  pub made : (e : Element) (p : List ℕ) → Bytes p → MadeOf e p r → assemble e p ≡ some r
  made e p f m =
      sym (ap (λ (x : Element). assemble x p) m.element)
      ∙ sym (ap (assemble (element_of r)) m.as_written)
      ∙ assembles r (part_roomy_lem r (subst Bytes (sym m.as_written) f))

-- none exactly where there is no such record
pub makes_none : (e : Element) (p : List ℕ) → Bytes p → assemble e p ≡ none → (r : Record) → MadeOf e p r → ⊥
makes_none e p f h r m = never (sym h ∙ made r e p f m)

pub none_made : (e : Element) (p : List ℕ) → Bytes p → ((r : Record) → MadeOf e p r → ⊥) → assemble e p ≡ none
none_made e p f n = go (assemble e p) refl
  where
    go : (o : Option Record) → assemble e p ≡ o → o ≡ none
    go none h = refl
    go (some r) h = absurd (n r (makes r e p f h))
