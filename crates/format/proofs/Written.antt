-- What is written of a layout fits it and reads back; an accepted table's records are written as that table, reserved places at zero.
-- Assumes nothing.
use Prim.Native.Nat.{ℕ, zero, suc, ◌<◌}
use native.Mathlib.Omega.{arith}
use mathlib.Core.Path.{◌≡◌, refl, sym, ap}
use mathlib.Core.Bool.{Bool, true, false}
use mathlib.Core.List.{List, [], ◌∷◌, ◌++◌}
use mathlib.Core.Option.{some}
use lib.ListN.{length}
use lib.Dec.{ltb}
use borrow.Author.Tests.{ltb-true}
use Rattle.format.specs.Slots.{Slot, whole, low, high, halves, flag, reserved, bit, byte_of, written, Holds, Starts, Fits, roomy}
use Rattle.format.specs.Slots.{all_roomy, byte, Bytes}
use Rattle.format.specs.Records.{Record}
use Rattle.format.specs.Layout.{layout, opening, table}
use Rattle.format.specs.Rules.{of_its_kind, description_kind}
use Rattle.format.specs.Table.{Keeps}
use Rattle.format.specs.Verdict.{Verdict, Accepts, accepted}
use Rattle.format.specs.Cleared.{cleared_byte, cleared}
use Rattle.format.specs.Decode.{content, decode, read_description}
use Rattle.format.specs.declared.records.Description.{Description}
use Rattle.format.specs.Answers.{Gives as Accepted}
use Rattle.format.proofs.Slots.{starts_over}
use Rattle.format.proofs.Kept.{and-true}
use Rattle.format.proofs.EachKind.{description_only}
use Rattle.format.proofs.Decoding.{stands_decoded}
use Rattle.format.specs.declared.pins.Chip.{Chip}
use Rattle.format.specs.declared.settings.Settings.{Settings}

-- each slot
bit_small : (t : Bool) → bit t < 2
bit_small true = omega arith
bit_small false = omega arith

byte_holds : (s : Slot) → roomy s ≡ true → Holds (byte_of s) s
byte_holds (whole v) r = refl
byte_holds (low v) r = omega (arith, ltb-true v 16 r)
byte_holds (high v) r = omega arith
byte_holds (halves t v) r =
    let p = and-true (ltb t 16) (ltb v 16) r in
    omega (arith, ltb-true t 16 p.0, ltb-true v 16 p.1)
byte_holds (flag t v) r = omega (arith, ltb-true v 128 r, bit_small t)
byte_holds reserved r = tt

byte_small : (s : Slot) → roomy s ≡ true → byte_of s < 256
byte_small (whole v) r = ltb-true v 256 r
byte_small (low v) r = omega (arith, ltb-true v 16 r)
byte_small (high v) r = omega (arith, ltb-true v 128 r)
byte_small (halves t v) r =
    let p = and-true (ltb t 16) (ltb v 16) r in
    omega (arith, ltb-true t 16 p.0, ltb-true v 16 p.1)
byte_small (flag t v) r = omega (arith, ltb-true v 128 r, bit_small t)
byte_small reserved r = omega arith

holds_cleared : (b : ℕ) (s : Slot) → Holds b s → byte_of s ≡ cleared_byte b s
holds_cleared b (whole v) h = sym h
holds_cleared b (low v) h = sym h
holds_cleared b (high v) h = omega arith
holds_cleared b (halves t v) h = omega arith
holds_cleared b (flag t v) h = omega arith
holds_cleared b reserved h = refl

-- lists of slots
pub written_starts : (ss : List Slot) (more : List ℕ) → all_roomy ss ≡ true → Starts (written ss ++ more) ss more
written_starts [] more r = refl
written_starts (s ∷ ss) more r =
    let p = and-true (roomy s) (all_roomy ss) r in
    (byte_holds s p.0, written_starts ss more p.1)

pub written_fits : (ss : List Slot) → all_roomy ss ≡ true → Fits (written ss) ss
written_fits [] r = refl
written_fits (s ∷ ss) r =
    let p = and-true (roomy s) (all_roomy ss) r in
    (byte_holds s p.0, written_fits ss p.1)

pub written_bytes : (ss : List Slot) → all_roomy ss ≡ true → Bytes (written ss)
written_bytes [] r i = omega arith
written_bytes (s ∷ ss) r zero = byte_small s (and-true (roomy s) (all_roomy ss) r).0
written_bytes (s ∷ ss) r (suc i) = written_bytes ss (and-true (roomy s) (all_roomy ss) r).1 i

pub length_written : (ss : List Slot) → length (written ss) ≡ length ss
length_written [] = refl
length_written (s ∷ ss) = ap suc (length_written ss)

-- what is written reads back as the same record
pub record_reads_back :
    (c : Chip) (r : Record) (more : List ℕ)
    → all_roomy (layout r) ≡ true
    → of_its_kind c r ≡ true
    → decode c (byte (written (layout r) ++ more) 0) (content (written (layout r) ++ more)) ≡ some r
record_reads_back c r more h k =
    stands_decoded c (written (layout r) ++ more) r (record { rest = more; starts = written_starts (layout r) more h; kind = k })

pub description_reads_back :
    (c : Chip) (d : Description) (n : ℕ) (more : List ℕ)
    → all_roomy (opening d n) ≡ true
    → description_kind c d ≡ true
    → d ≡ read_description c (byte (written (opening d n) ++ more))
description_reads_back c d n more h k =
    description_only c (byte (written (opening d n) ++ more)) d n
    (starts_over (written (opening d n) ++ more) (opening d n) more (written_starts (opening d n) more h)) k

-- records that keep the rules are accepted as they are written
pub written_accepted :
    (s : Settings) (d : Description) (rs : List Record)
    → Keeps s d rs
    → Verdict s (written (table d rs)) (Accepted (length rs))
written_accepted s d rs k = accepted d rs (record { keeps = k; fits = written_fits (table d rs) k.roomy_25 })

-- what bytes fit is written as those bytes with their reserved places at zero
starts_cleared : (bs : List ℕ) (ss : List Slot) → Fits bs ss → written ss ≡ cleared bs ss
starts_cleared bs [] h = refl
starts_cleared [] (s ∷ ss) h = absurd h
starts_cleared (b ∷ bs) (s ∷ ss) h = λ i. holds_cleared b s h.0 i ∷ starts_cleared bs ss h.1 i

-- demand 2, of the layout: the records of an accepted table are written as that table with its reserved places at zero
pub written_again :
    (s : Settings) (b : List ℕ) (d : Description) (rs : List Record)
    → Accepts s b d rs
    → written (table d rs) ≡ cleared b (table d rs)
written_again s b d rs c = starts_cleared b (table d rs) c.fits
