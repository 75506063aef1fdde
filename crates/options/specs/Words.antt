-- What a word of a program is.
-- Assumes nothing.
use Rattle.std.specs.Prelude.{ℕ, Bool, true, false, ◌&&◌, List, [], ◌∷◌, eqb, Option, Some, None}
use Rattle.format.specs.Slots.{byte}
use Rattle.format.specs.declared.pins.Chip.{Chip as TheChip}
use Rattle.format.specs.declared.pins.Chip.TheVariants.{C8051F320, C8051F321}
use Rattle.options.specs.declared.Word.{Word}
use Rattle.options.specs.declared.Word.TheVariants.{Chip, Archive, End, Dashed, Plain}

-- two words are the same byte by byte
abbrev pub same_word : List ℕ → List ℕ → Bool
same_word [] [] = true
same_word [] (y ∷ ys) = false
same_word (x ∷ xs) [] = false
same_word (x ∷ xs) (y ∷ ys) = eqb x y && same_word xs ys

-- '--chip', '--archive', '--', '320', '321'
abbrev pub chip_word : List ℕ
chip_word = 45 ∷ 45 ∷ 99 ∷ 104 ∷ 105 ∷ 112 ∷ []

abbrev pub archive_word : List ℕ
archive_word = 45 ∷ 45 ∷ 97 ∷ 114 ∷ 99 ∷ 104 ∷ 105 ∷ 118 ∷ 101 ∷ []

abbrev pub end_word : List ℕ
end_word = 45 ∷ 45 ∷ []

abbrev pub word320 : List ℕ
word320 = 51 ∷ 50 ∷ 48 ∷ []

abbrev pub word321 : List ℕ
word321 = 51 ∷ 50 ∷ 49 ∷ []

abbrev pub pick_word : Bool → Word → Word → Word
pick_word true a b = a
pick_word false a b = b

-- where an option may stand; a dash is 45
abbrev pub word_of : List ℕ → Word
word_of w =
    pick_word
    (same_word w chip_word)
    Chip
    (pick_word (same_word w archive_word) Archive (pick_word (same_word w end_word) End (pick_word (eqb (byte w 0) 45) Dashed Plain)))

abbrev pub pick_chip : Bool → Option TheChip → Option TheChip → Option TheChip
pick_chip true a b = a
pick_chip false a b = b

-- behind '--chip'
abbrev pub chip_of : List ℕ → Option TheChip
chip_of w = pick_chip (same_word w word320) (Some C8051F320) (pick_chip (same_word w word321) (Some C8051F321) None)
