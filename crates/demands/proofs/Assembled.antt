-- A record is assembled again from its element and its part, and what append lays out is the layout of `format`.
-- Assumes nothing.
use Prim.Native.Nat.{ℕ, ◌+◌}
use native.Mathlib.Omega.{arith}
use mathlib.Core.Path.{◌≡◌, refl, sym, ◌∙◌, ap}
use mathlib.Core.Bool.{true}
use mathlib.Core.List.{List, ◌∷◌, ◌++◌, map}
use mathlib.Core.Option.{none, some}
use lib.ListN.{length, length-append}
use Rattle.format.specs.Slots.{Slot, whole, word, written, all_roomy, byte}
use Rattle.format.specs.Records.{Record, digital, analogue, fan, led, water, pump, voltage, current, controller, tachometer, zone, string}
use Rattle.format.specs.Records.{external, rgb, element_of}
use Rattle.format.specs.Layout.{fixed, part, entries, blocks, body, layout, id_of, headed}
use Rattle.format.specs.Rules.{of_its_kind}
use Rattle.format.specs.Table.{element_breaks}
use Rattle.format.specs.Decode.{decode, content}
use Rattle.format.specs.Writing.{assemble, assembled_breaks, part_breaks, element_slots}
use Rattle.format.proofs.Blocks.{blocks_only, two_only, three_only}
use Rattle.format.proofs.Kept.{own_unbroken}
use Rattle.format.proofs.Slots.{roomy_split}
use Rattle.format.proofs.Written.{written_fits, length_written, record_reads_back}
use Rattle.format.proofs.Whole.{written_append, written_whole, length_whole}
use Rattle.format.specs.declared.pins.Chip.{Chip}
use Rattle.format.specs.declared.settings.Settings.{Settings}

-- a record is assembled again from its element and its part
pub assembles : (r : Record) → all_roomy (part r) ≡ true → assemble (element_of r) (written (part r)) ≡ some r
assembles (digital d) h = refl
assembles (analogue a) h = refl
assembles (fan f) h = refl
assembles (led l) h = refl
assembles (water w) h = refl
assembles (pump f) h = refl
assembles (voltage v) h = refl
assembles (current c) h = refl
assembles (controller d l) h =
    rw (blocks_only l (length (written (blocks l))) (written (blocks l)) (omega arith) (written_fits (blocks l) h)) refl
assembles (tachometer d a b) h =
    rw (two_only (written (entries a ++ entries b)) a b (written_fits (entries a ++ entries b) h)) refl
assembles (zone bytes) h = ap (λ (l : List ℕ). some (zone l)) (written_whole bytes)
assembles (string bytes) h = ap (λ (l : List ℕ). some (string l)) (written_whole bytes)
assembles (external x r g b) h =
    rw (three_only (written (entries r ++ (entries g ++ entries b))) r g b (written_fits (entries r ++ (entries g ++ entries b)) h)) refl
assembles (rgb r) h = refl

-- what append lays out is the layout of the record
pub slots_written : (r : Record) → written (element_slots (element_of r) (written (part r))) ≡ written (layout r)
slots_written r =
    let e = element_of r in
    let p = written (part r) in
    let n : length (fixed e ++ map whole p) ≡ length (body r) =
    omega (arith, length-append (fixed e) (map whole p), length-append (fixed e) (part r), length_whole p, length_written (part r)) in
    let w : written (fixed e ++ map whole p) ≡ written (body r) =
    written_append (fixed e) (map whole p)
    ∙ ap (λ (l : List ℕ). written (fixed e) ++ l) (written_whole p)
    ∙ sym (written_append (fixed e) (part r)) in
    again (id_of e) (fixed e ++ map whole p) (body r) n w
  where
    again : (id : ℕ) (ss ts : List Slot) → length ss ≡ length ts → written ss ≡ written ts → written (headed id ss) ≡ written (headed id ts)
    again id ss ts n w = rw (n, w) refl

pub slots_length : (r : Record) → length (element_slots (element_of r) (written (part r))) ≡ length (layout r)
slots_length r =
    sym (length_written (element_slots (element_of r) (written (part r)))) ∙ ap length (slots_written r) ∙ length_written (layout r)

-- and is read back as the same record
pub append_reads_back :
    (chip : Chip) (r : Record) (more : List ℕ)
    → all_roomy (layout r) ≡ true
    → of_its_kind chip r ≡ true
    → decode chip (byte (written (element_slots (element_of r) (written (part r))) ++ more) 0)
    (content (written (element_slots (element_of r) (written (part r))) ++ more))
    ≡ some r
append_reads_back chip r more h k =
    ap (λ (l : List ℕ). decode chip (byte (l ++ more) 0) (content (l ++ more))) (slots_written r) ∙ record_reads_back chip r more h k

-- what keeps the rules is not refused by 25, 8, 9, 23 or 10
pub body_roomy : (r : Record) → all_roomy (layout r) ≡ true → all_roomy (body r) ≡ true
body_roomy r h = (roomy_split (whole (id_of (element_of r)) ∷ word (3 + length (body r))) (body r) h).1

pub kept_break :
    (s : Settings) (before : List Record) (r : Record)
    → element_breaks s before r ≡ none
    → all_roomy (part r) ≡ true
    → part_breaks s (element_of r) (written (part r)) ≡ none
unfolding part_breaks
kept_break s before r h k =
    ap (assembled_breaks s) (assembles r k) ∙ own_unbroken s before r h
