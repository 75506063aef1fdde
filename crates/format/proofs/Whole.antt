-- What is written of slots that follow one another, and of whole bytes: a part, which has no reserved place, is written as the very
-- bytes that it fits.
-- Assumes nothing.
use Prim.Native.Nat.{ℕ, suc}
use mathlib.Core.Path.{◌≡◌, refl, sym, ◌∙◌, ap, subst}
use mathlib.Core.List.{List, [], ◌∷◌, ◌++◌, map, append-nil}
use lib.ListN.{length, take}
use Rattle.format.specs.Slots.{Slot, whole, word, byte_of, written, Starts}
use Rattle.format.specs.Records.{Block, Record, digital, analogue, fan, led, water, pump, voltage, current, controller, tachometer}
use Rattle.format.specs.Records.{zone, string, external, rgb}
use Rattle.format.specs.Layout.{part, pairs, entries, blocks}
use Rattle.format.specs.declared.records.RegisterPair.{RegisterPair}
use Rattle.format.proofs.Written.{length_written}

pub written_append : (ss ts : List Slot) → written (ss ++ ts) ≡ written ss ++ written ts
written_append [] ts = refl
written_append (s ∷ ss) ts = ap (λ (l : List ℕ). byte_of s ∷ l) (written_append ss ts)

pub written_whole : (p : List ℕ) → written (map whole p) ≡ p
written_whole [] = refl
written_whole (b ∷ p) = ap (λ (l : List ℕ). b ∷ l) (written_whole p)

pub length_whole : (p : List ℕ) → length (map whole p) ≡ length p
length_whole [] = refl
length_whole (b ∷ p) = ap suc (length_whole p)

-- no reserved place: nothing but whole bytes
abbrev Wholly : List Slot → Type 0
Wholly ss = ss ≡ map whole (written ss)

pairs_wholly : (ps : List RegisterPair) (ss : List Slot) → Wholly ss → Wholly (pairs ps ++ ss)
pairs_wholly [] ss h = h
pairs_wholly (p ∷ ps) ss h = ap (λ (l : List Slot). word p.address ++ word p.«data» ++ l) (pairs_wholly ps ss h)

blocks_wholly : (bs : List Block) → Wholly (blocks bs)
blocks_wholly [] = refl
blocks_wholly (b ∷ bs) =
    ap (λ (l : List Slot). whole b.speed.0 ∷ whole (length b.pairs) ∷ l) (pairs_wholly b.pairs (blocks bs) (blocks_wholly bs))

entries_wholly : (ps : List RegisterPair) (ss : List Slot) → Wholly ss → Wholly (entries ps ++ ss)
entries_wholly ps ss h = ap (λ (l : List Slot). whole (length ps) ∷ l) (pairs_wholly ps ss h)

last_wholly : (ps : List RegisterPair) → Wholly (entries ps)
last_wholly ps = subst (λ (l : List Slot). Wholly l) (append-nil (entries ps)) (entries_wholly ps [] refl)

bytes_wholly : (bytes : List ℕ) → Wholly (map whole bytes)
bytes_wholly bytes = sym (ap (map whole) (written_whole bytes))

part_wholly : (x : Record) → Wholly (part x)
part_wholly (digital d) = refl
part_wholly (analogue a) = refl
part_wholly (fan f) = refl
part_wholly (led l) = refl
part_wholly (water w) = refl
part_wholly (pump f) = refl
part_wholly (voltage v) = refl
part_wholly (current c) = refl
part_wholly (controller d bs) = blocks_wholly bs
part_wholly (tachometer d a b) = entries_wholly a (entries b) (last_wholly b)
part_wholly (zone bytes) = bytes_wholly bytes
part_wholly (string bytes) = bytes_wholly bytes
part_wholly (external x r g b) = entries_wholly r (entries g ++ entries b) (entries_wholly g (entries b) (last_wholly b))
part_wholly (rgb r) = refl

wholly_there : (bs p rest : List ℕ) → Starts bs (map whole p) rest → p ≡ take (length p) bs
wholly_there bs [] rest h = refl
wholly_there [] (v ∷ p) rest h = absurd h
wholly_there (b ∷ bs) (v ∷ p) rest h = λ i. sym h.0 i ∷ wholly_there bs p rest h.1 i

pub part_written : (x : Record) (bs rest : List ℕ) → Starts bs (part x) rest → written (part x) ≡ take (length (part x)) bs
part_written x bs rest h =
    wholly_there bs (written (part x)) rest (subst (λ (ss : List Slot). Starts bs ss rest) (part_wholly x) h)
    ∙ ap (λ (n : ℕ). take n bs) (length_written (part x))
