-- The fields inside a variable part: what stands at the head of any bytes, and where in a part its blocks begin.
-- Assumes nothing.
use Rattle.std.specs.Prelude.{ℕ, zero, suc, ◌+◌, ◌*◌, Bool, true, false, ◌&&◌, List, [], length, drop, ltb, leb, Option, Some, None}
use Rattle.format.specs.Slots.{byte}
use Rattle.format.specs.Decode.{word_at, pair_of}
use Rattle.format.specs.declared.records.RegisterPair.{RegisterPair}
use Rattle.parts.specs.declared.SpeedBlock.{SpeedBlock}

-- an answer where a test holds
abbrev pub when_list : Bool → ℕ → Option ℕ
when_list true n = Some n
when_list false n = None

abbrev pub when_pair : Bool → RegisterPair → Option RegisterPair
when_pair true p = Some p
when_pair false p = None

-- ENTRIES and that many pairs of four bytes stand whole at the head of the bytes
abbrev pub whole_list : List ℕ → Bool
whole_list q = leb (1 + 4 * byte q 0) (length q)

-- the bytes past them
abbrev pub after_list : List ℕ → List ℕ
after_list q = drop (1 + 4 * byte q 0) q

-- how many pairs they are
abbrev pub list_at : List ℕ → Option ℕ
list_at q = when_list (whole_list q) (byte q 0)

-- pair i of them: its address and its data, two bytes each
abbrev pub pair_at : List ℕ → ℕ → Option RegisterPair
pair_at q i = when_pair (whole_list q && ltb i (byte q 0)) (pair_of (word_at (byte q) (1 + 4 * i)) (word_at (byte q) (3 + 4 * i)))

-- a speed block is SPEED and then ENTRIES and its pairs
abbrev pub with_speed : ℕ → Option ℕ → Option SpeedBlock
with_speed s (Some n) = Some (record { speed = record { 0 = s }; entries = n })
with_speed s None = None

abbrev pub block_at : List ℕ → Option SpeedBlock
block_at r = with_speed (byte r 0) (list_at (drop 1 r))

-- the bytes past one speed block; none where it does not stand whole
abbrev pub after_block : List ℕ → List ℕ
after_block r = after_list (drop 1 r)

-- the bytes from speed block j on
abbrev pub blocks_from : List ℕ → ℕ → List ℕ
blocks_from bs zero = bs
blocks_from bs (suc j) = blocks_from (after_block bs) j

-- 09h: speed block j, and register pair i of it
abbrev pub block_in : List ℕ → ℕ → Option SpeedBlock
block_in bs j = block_at (blocks_from bs j)

abbrev pub pair_in : List ℕ → ℕ → ℕ → Option RegisterPair
pair_in bs j i = pair_at (drop 1 (blocks_from bs j)) i

-- of so many blocks of ENTRIES and pairs, the bytes from block w on; none past the last
abbrev pub lists_from : ℕ → List ℕ → ℕ → List ℕ
lists_from zero bs w = []
lists_from (suc n) bs zero = bs
lists_from (suc n) bs (suc w) = lists_from n (after_list bs) w

-- 0Ah, which has two: how many register pairs block w has, and pair i of it
abbrev pub list_in : List ℕ → ℕ → Option ℕ
list_in bs w = list_at (lists_from 2 bs w)

abbrev pub list_pair_in : List ℕ → ℕ → ℕ → Option RegisterPair
list_pair_in bs w i = pair_at (lists_from 2 bs w) i

-- the same of 0Dh, which has three: red, green, blue
abbrev pub colour_in : List ℕ → ℕ → Option ℕ
colour_in bs w = list_at (lists_from 3 bs w)

abbrev pub colour_pair_in : List ℕ → ℕ → ℕ → Option RegisterPair
colour_pair_in bs w i = pair_at (lists_from 3 bs w) i
