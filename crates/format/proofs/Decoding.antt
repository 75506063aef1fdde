-- The record that is decoded fits the bytes, and a record that fits them and is of its kind is decoded.
-- Assumes nothing.
use Prim.Native.Nat.{ℕ, ◌+◌, ◌-◌, ◌≤◌}
use native.Mathlib.Omega.{arith}
use mathlib.Core.Path.{◌≡◌, refl, sym, ◌∙◌, ap}
use mathlib.Core.Bool.{Bool, true, false}
use mathlib.Core.List.{List, [], ◌∷◌, ◌++◌}
use mathlib.Core.Option.{Option, none, some}
use lib.ListN.{length, drop, length-take, length-drop, drop_of_length-le}
use lib.Dec.{eqb, leb}
use borrow.Author.Tests.{eqb-true, le-leb, leb-true}
use Rattle.format.specs.Slots.{Slot, whole, reserved, word, Starts, Fits, byte, Bytes}
use Rattle.format.specs.Records.{Block, Record, digital, analogue, fan, led, water, pump, voltage, current, controller, tachometer}
use Rattle.format.specs.Records.{zone, string, external, rgb, element_of}
use Rattle.format.specs.Layout.{fixed, entries, blocks, id_of, body, layout}
use Rattle.format.specs.Rules.{of_its_kind}
use Rattle.format.specs.Verdict.{stated, Stands}
use Rattle.format.specs.Decode.{read_digital, read_analogue, read_fan, read_led, read_water, read_voltage, read_current, read_device}
use Rattle.format.specs.Decode.{read_external, read_rgb, content, guard, bind, cut_blocks, cut_two, cut_three, pick, decode}
use Rattle.format.specs.declared.records.RegisterPair.{RegisterPair}
use Rattle.format.specs.declared.records.Element.TheVariants.{Controller, Tachometer, External}
use Rattle.format.proofs.Lengths.{fits_length}
use Rattle.format.proofs.Slots.{Over, bytes_drop, bytes_take, starts_over, over_starts, over_at, starts_rest, starts_length}
use Rattle.format.proofs.Slots.{starts_count, starts_split, starts_append, take_fits, fits_take}
use Rattle.format.proofs.Blocks.{BlocksFit, blocks_fits, blocks_only, TwoFit, two_fits, two_only, ThreeFit, three_fits, three_only}
use Rattle.format.proofs.EachKind.{chip_same, optional_standing, address_kind, digital_only, digital_fits, analogue_only}
use Rattle.format.proofs.EachKind.{analogue_fits, fan_only, fan_fits, led_only, led_fits, water_only, water_fits, voltage_only}
use Rattle.format.proofs.EachKind.{voltage_fits, current_only, current_fits, rgb_only, rgb_fits, device_only, controller_fits}
use Rattle.format.proofs.EachKind.{tachometer_fits, external_only, external_fits, whole_only, whole_fits}
use Rattle.format.specs.declared.pins.Chip.{Chip}

-- what decoding says of the bytes after a header
abbrev Reads : Chip → ℕ → List ℕ → Option Record → Type 0
Reads k id c none = Unit {0}
Reads k id c (some r) = (id ≡ id_of (element_of r)) × Fits c (body r) × (of_its_kind k r ≡ true)

pick_cases :
    (P : Option Record → Type 0) (n k : ℕ) (a b : Option Record) → (n ≡ k → P a) → P b → P (pick (eqb n k) a b)
pick_cases P n k a b f g = go (eqb n k) refl
  where
    go : (t : Bool) → eqb n k ≡ t → P (pick t a b)
    go true e = f (eqb-true n k e)
    go false e = g

guard_cases : (k : Chip) (id : ℕ) (c : List ℕ) (t : Bool) (r : Option Record) → (t ≡ true → Reads k id c r) → Reads k id c (guard t r)
guard_cases k id c true r f = f refl
guard_cases k id c false r f = tt

-- a kind of one length
over_fits : (c : List ℕ) (ss : List Slot) → length c ≡ length ss → Over (byte c) ss → Fits c ss
over_fits c ss n o = rw (drop_of_length-le c {i = length ss} (omega arith)) at (over_starts c ss (omega arith) o)

even_fits :
    (k : Chip) (id : ℕ) (c : List ℕ) (n : ℕ) (r : Record)
    → length (body r) ≡ n
    → of_its_kind k r ≡ true
    → id ≡ id_of (element_of r)
    → Over (byte c) (body r)
    → Reads k id c (guard (eqb (length c) n) (some r))
even_fits k id c n r l kind at o =
    guard_cases k id c (eqb (length c) n) (some r) (λ t. (at, over_fits c (body r) (eqb-true (length c) n t ∙ sym l) o, kind))

-- a kind with blocks
blocks_read :
    (k : Chip) (id : ℕ) (c : List ℕ)
    → id ≡ 9
    → 8 ≤ length c
    → (l : Option (List Block))
    → BlocksFit (drop 8 c) l
    → Reads k id c (bind l (λ l. some (controller (read_device k (byte c)) l)))
blocks_read k id c at long none f = tt
blocks_read k id c at long (some l) f =
    let ss = fixed (Controller (read_device k (byte c))) in
    (at, starts_append c ss (blocks l) (drop 8 c) [] (over_starts c ss long (controller_fits k (byte c))) f, address_kind k (byte c))

two_read :
    (k : Chip) (id : ℕ) (c : List ℕ)
    → id ≡ 10
    → 9 ≤ length c
    → (t : Option (List RegisterPair × List RegisterPair))
    → TwoFit (drop 9 c) t
    → Reads k id c (bind t (λ t. some (tachometer (read_device k (byte c)) t.0 t.1)))
two_read k id c at long none f = tt
two_read k id c at long (some t) f =
    let ss = fixed (Tachometer (read_device k (byte c))) in (
      at,
      starts_append c ss (entries t.0 ++ entries t.1) (drop 9 c) [] (over_starts c ss long (tachometer_fits k (byte c))) f,
      address_kind k (byte c),
    )

three_read :
    (k : Chip) (id : ℕ) (c : List ℕ)
    → id ≡ 13
    → 9 ≤ length c
    → (t : Option (List RegisterPair × List RegisterPair × List RegisterPair))
    → ThreeFit (drop 9 c) t
    → Reads k id c (bind t (λ t. some (external (read_external k (byte c)) t.0 t.1 t.2)))
three_read k id c at long none f = tt
three_read k id c at long (some t) f =
    let ss = fixed (External (read_external k (byte c))) in (
      at,
      starts_append c ss (entries t.0 ++ (entries t.1 ++ entries t.2)) (drop 9 c) []
          (over_starts c ss long (external_fits k (byte c))) f,
      address_kind k (byte c),
    )

decode_reads : (k : Chip) (id : ℕ) (c : List ℕ) → Bytes c → Reads k id c (decode k id c)
unfolding decode
decode_reads k id c small =
    let f = byte c in
    let n = length c in
    let P = Reads k id c in
    pick_cases P id 1 _ _ (λ at. even_fits k id c 18 (digital (read_digital k f)) refl (address_kind k f) at (digital_fits k f small))
    (pick_cases P id 2 _ _ (λ at. even_fits k id c 17 (analogue (read_analogue k f)) refl (chip_same k) at (analogue_fits k f small))
    (pick_cases P id 3 _ _ (λ at. even_fits k id c 13 (fan (read_fan k f)) refl
    (simp (chip_same k, optional_standing k (f 6))) at (fan_fits k f small))
    (pick_cases P id 4 _ _ (λ at. even_fits k id c 11 (led (read_led k f)) refl
    (simp (optional_standing k (f 5), optional_standing k (f 7), optional_standing k (f 9))) at (led_fits k f small))
    (pick_cases P id 5 _ _ (λ at. even_fits k id c 12 (water (read_water k f)) refl (chip_same k) at (water_fits k f small))
    (pick_cases P id 6 _ _ (λ at. even_fits k id c 13 (pump (read_fan k f)) refl
    (simp (chip_same k, optional_standing k (f 6))) at (fan_fits k f small))
    (pick_cases P id 7 _ _ (λ at. even_fits k id c 8 (voltage (read_voltage k f)) refl (chip_same k) at (voltage_fits k f small))
    (pick_cases P id 8 _ _ (λ at. even_fits k id c 11 (current (read_current k f)) refl (chip_same k) at (current_fits k f small))
    (pick_cases P id 9 _ _
    (λ at.
    guard_cases k id c (leb 8 n) _
    (λ t. blocks_read k id c at (leb-true 8 n t) (cut_blocks n (drop 8 c)) (blocks_fits n (drop 8 c) (bytes_drop 8 c small))))
    (pick_cases P id 10 _ _
    (λ at.
    guard_cases k id c (leb 9 n) _
    (λ t. two_read k id c at (leb-true 9 n t) (cut_two (drop 9 c)) (two_fits (drop 9 c) (bytes_drop 9 c small))))
    (pick_cases P id 11 _ _ (λ at. (at, whole_fits c, refl))
    (pick_cases P id 12 _ _ (λ at. (at, whole_fits c, refl))
    (pick_cases P id 13 _ _
    (λ at.
    guard_cases k id c (leb 9 n) _
    (λ t. three_read k id c at (leb-true 9 n t) (cut_three (drop 9 c)) (three_fits (drop 9 c) (bytes_drop 9 c small))))
    (pick_cases P id 14 _ _ (λ at. even_fits k id c 8 (rgb (read_rgb k f)) refl (simp (chip_same k)) at (rgb_fits k f small)) tt)))))))))))))

-- a record that fits is decoded
decode_finds : (k : Chip) (c : List ℕ) (r : Record) → Fits c (body r) → of_its_kind k r ≡ true → decode k (id_of (element_of r)) c ≡ some r
unfolding decode
decode_finds k c (digital x) h kind =
    simp (fits_length c (body (digital x)) h, digital_only k (byte c) x (starts_over c (body (digital x)) [] h) kind)
decode_finds k c (analogue x) h kind =
    simp (fits_length c (body (analogue x)) h, analogue_only k (byte c) x (starts_over c (body (analogue x)) [] h) kind)
decode_finds k c (fan x) h kind = simp (fits_length c (body (fan x)) h, fan_only k (byte c) x (starts_over c (body (fan x)) [] h) kind)
decode_finds k c (led x) h kind = simp (fits_length c (body (led x)) h, led_only k (byte c) x (starts_over c (body (led x)) [] h) kind)
decode_finds k c (water x) h kind =
    simp (fits_length c (body (water x)) h, water_only k (byte c) x (starts_over c (body (water x)) [] h) kind)
decode_finds k c (pump x) h kind = simp (fits_length c (body (pump x)) h, fan_only k (byte c) x (starts_over c (body (pump x)) [] h) kind)
decode_finds k c (voltage x) h kind =
    simp (fits_length c (body (voltage x)) h, voltage_only k (byte c) x (starts_over c (body (voltage x)) [] h) kind)
decode_finds k c (current x) h kind =
    simp (fits_length c (body (current x)) h, current_only k (byte c) x (starts_over c (body (current x)) [] h) kind)
decode_finds k c (controller d l) h kind =
    let ss = fixed (Controller d) in
    let m = starts_split c ss (blocks l) [] h in
    let f : Fits (drop 8 c) (blocks l) = rw (starts_rest c ss m.0 m.1) at m.2 in
    simp (
      le-leb 8 (length c) (starts_length c ss m.0 m.1),
      blocks_only l (length c) (drop 8 c) (omega (arith, length-drop 8 c)) f,
      device_only k (byte c) d (blocks l) (starts_over c (body (controller d l)) [] h) kind,
    )
decode_finds k c (tachometer d a b) h kind =
    let ss = fixed (Tachometer d) in
    let m = starts_split c ss (entries a ++ entries b) [] h in
    let f : Fits (drop 9 c) (entries a ++ entries b) = rw (starts_rest c ss m.0 m.1) at m.2 in
    simp (
      le-leb 9 (length c) (starts_length c ss m.0 m.1),
      two_only (drop 9 c) a b f,
      device_only k (byte c) d (reserved ∷ entries a ++ entries b) (starts_over c (body (tachometer d a b)) [] h) kind,
    )
decode_finds k c (zone z) h kind = ap (λ (l : List ℕ). some (zone l)) (sym (whole_only c z h))
decode_finds k c (string z) h kind = ap (λ (l : List ℕ). some (string l)) (sym (whole_only c z h))
decode_finds k c (external x r g b) h kind =
    let ss = fixed (External x) in
    let m = starts_split c ss (entries r ++ (entries g ++ entries b)) [] h in
    let f : Fits (drop 9 c) (entries r ++ (entries g ++ entries b)) = rw (starts_rest c ss m.0 m.1) at m.2 in
    simp (
      le-leb 9 (length c) (starts_length c ss m.0 m.1),
      three_only (drop 9 c) r g b f,
      external_only k (byte c) x (entries r ++ (entries g ++ entries b)) (starts_over c (body (external x r g b)) [] h) kind,
    )
decode_finds k c (rgb x) h kind = simp (fits_length c (body (rgb x)) h, rgb_only k (byte c) x (starts_over c (body (rgb x)) [] h) kind)

-- The header, once for all kinds: a record that fits has the length that stands in its header, and its body fits what follows.
pub starts_stated : (bs : List ℕ) (r : Record) (rest : List ℕ) → Starts bs (layout r) rest → stated bs ≡ length (layout r)
starts_stated bs r rest h =
    let o = starts_over bs (layout r) rest h in
    omega (arith, over_at (byte bs) (layout r) o 1, over_at (byte bs) (layout r) o 2)

pub starts_next : (bs : List ℕ) (r : Record) (rest : List ℕ) → Starts bs (layout r) rest → rest ≡ drop (stated bs) bs
starts_next bs r rest h = rw (starts_stated bs r rest h) (starts_rest bs (layout r) rest h)

abbrev header : Record → List Slot
header r = whole (id_of (element_of r)) ∷ word (3 + length (body r))

starts_content : (bs : List ℕ) (r : Record) (rest : List ℕ) → Starts bs (layout r) rest → Fits (content bs) (body r)
starts_content bs r rest h =
    let c = starts_split bs (header r) (body r) rest h in
    let m : length (body r) ≡ stated bs - 3 = omega (arith, starts_stated bs r rest h) in
    rw (← m, ← (starts_rest bs (header r) c.0 c.1)) (take_fits c.0 (body r) rest c.2)

content_stands :
    (c : Chip) (bs : List ℕ) (r : Record)
    → Bytes bs
    → 3 ≤ stated bs
    → stated bs ≤ length bs
    → byte bs 0 ≡ id_of (element_of r)
    → Fits (content bs) (body r)
    → of_its_kind c r ≡ true
    → Stands c bs r
content_stands c bs r small least most id f k =
    let n : 3 + length (body r) ≡ stated bs =
    omega (arith, starts_count (content bs) (body r) [] f, length-take (stated bs - 3) (drop 3 bs), length-drop 3 bs) in
    record {
      rest = drop (stated bs - 3) (drop 3 bs);
      starts =
          starts_append bs (header r) (body r) (drop 3 bs) (drop (stated bs - 3) (drop 3 bs))
          (over_starts bs (header r) (omega arith) (id, (omega (arith, small 1), (omega (arith, small 1), tt))))
          (fits_take (stated bs - 3) (drop 3 bs) (body r) f);
      kind = k;
    }

-- what is decoded of an element stands at the head of the bytes, and what stands there is decoded
abbrev pub StandsIf : Chip → List ℕ → Option Record → Type 0
StandsIf c bs none = Unit {0}
StandsIf c bs (some r) = Stands c bs r

pub decoded_stands :
    (c : Chip) (bs : List ℕ) → Bytes bs → 3 ≤ stated bs → stated bs ≤ length bs → StandsIf c bs (decode c (byte bs 0) (content bs))
decoded_stands c bs small least most =
    go (decode c (byte bs 0) (content bs)) (decode_reads c (byte bs 0) (content bs)
    (bytes_take (stated bs - 3) (drop 3 bs) (bytes_drop 3 bs small)))
  where
    go : (o : Option Record) → Reads c (byte bs 0) (content bs) o → StandsIf c bs o
    go none h = tt
    go (some r) h = content_stands c bs r small least most h.0 h.1 h.2

pub stands_decoded : (c : Chip) (bs : List ℕ) (r : Record) → Stands c bs r → decode c (byte bs 0) (content bs) ≡ some r
stands_decoded c bs r s =
    rw (starts_over bs (layout r) s.rest s.starts).0
    (decode_finds c (content bs) r (starts_content bs r s.rest s.starts) s.kind)
