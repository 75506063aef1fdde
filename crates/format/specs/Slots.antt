-- What one byte of a table holds, with its reserved places marked. Layouts are lists of slots.
-- Assumes nothing.
use Rattle.std.specs.Prelude.{ℕ, ◌+◌, ◌*◌, ◌/◌, ◌%◌, ◌<◌, ◌≡◌, Bool, true, false, ◌&&◌, List, [], ◌∷◌, get_or, ltb}

pub data Slot : Type 0 where
  -- the number is the whole byte
  whole : ℕ → Slot
  -- the number stands in bits 3-0; bits 7-4 are reserved
  low : ℕ → Slot
  -- the number stands in bits 7-1; bit 0 is reserved
  high : ℕ → Slot
  -- the first number stands in bits 7-4, the second in bits 3-0
  halves : ℕ → ℕ → Slot
  -- the flag stands in bit 7, the number in bits 6-0
  flag : Bool → ℕ → Slot
  -- the whole byte is reserved
  reserved : Slot

abbrev pub bit : Bool → ℕ
bit true = 1
bit false = 0

-- 01: 'Reserved places are written as zero': the byte of a slot as it is written
abbrev pub byte_of : Slot → ℕ
byte_of (whole v) = v
byte_of (low v) = v
byte_of (high v) = 2 * v
byte_of (halves t v) = 16 * t + v
byte_of (flag t v) = 128 * bit t + v
byte_of reserved = 0

abbrev pub written : List Slot → List ℕ
written [] = []
written (s ∷ ss) = byte_of s ∷ written ss

-- 01: '.. and not checked on reading': a byte agrees with a slot, reserved places aside
abbrev pub Holds : ℕ → Slot → Type 0
Holds b (whole v) = b ≡ v
Holds b (low v) = b % 16 ≡ v
Holds b (high v) = b / 2 ≡ v
Holds b (halves t v) = (b / 16 ≡ t) × (b % 16 ≡ v)
Holds b (flag t v) = (b / 128 ≡ bit t) × (b % 128 ≡ v)
Holds b reserved = Unit {0}

-- the bytes begin with bytes that agree with the slots, one by one, and go on with the rest
abbrev pub Starts : List ℕ → List Slot → List ℕ → Type 0
Starts bs [] rest = bs ≡ rest
Starts [] (s ∷ ss) rest = ⊥
Starts (b ∷ bs) (s ∷ ss) rest = Holds b s × Starts bs ss rest

-- the layout is those bytes, reserved places aside: they agree one by one, no more of the one than of the other
abbrev pub Fits : List ℕ → List Slot → Type 0
Fits bs ss = Starts bs ss []

-- a slot has room for its number
abbrev pub roomy : Slot → Bool
roomy (whole v) = ltb v 256
roomy (low v) = ltb v 16
roomy (high v) = ltb v 128
roomy (halves t v) = ltb t 16 && ltb v 16
roomy (flag t v) = ltb v 128
roomy reserved = true

abbrev pub all_roomy : List Slot → Bool
all_roomy [] = true
all_roomy (s ∷ ss) = roomy s && all_roomy ss

-- numbers of two and three bytes, 'stored lowest byte first' (000, 3.4.3)
abbrev pub word : ℕ → List Slot
word v = whole (v % 256) ∷ whole (v / 256) ∷ []

abbrev pub triple : ℕ → List Slot
triple v = whole (v % 256) ∷ whole (v / 256 % 256) ∷ whole (v / 65536) ∷ []

-- the byte at a place, 0 past the end; and a list of bytes
abbrev pub byte : List ℕ → ℕ → ℕ
byte bs i = get_or bs i 0

abbrev pub Bytes : List ℕ → Type 0
Bytes bs = (i : ℕ) → byte bs i < 256
