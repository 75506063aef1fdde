-- What is held of the element under way, by its bytes so far, and what the bytes of a piece make of it.
-- Assumes nothing.
use Rattle.std.specs.Prelude.{ℕ, ◌+◌, ◌-◌, ◌*◌, ◌/◌, ◌%◌, ◌<◌, ◌≤◌, ◌≡◌, Bool, true, false, ◌&&◌, cond, List, ◌++◌, length, set, drop, eqb, leb}
use Rattle.format.specs.Slots.{byte, Bytes}
use Rattle.format.specs.Utf16.{units, paired_after, paired}
use Rattle.blocks.proofs.Counting.{counted, count_from, count_of}
use Rattle.underway.specs.declared.Under.{Under}
use Rattle.underway.specs.declared.Units.{Units}
use Rattle.underway.specs.declared.Blocks.{Blocks}

-- the first 30 bytes of an element's are kept
pub record Holds (head v : List ℕ) : Type 0 where
  pub size : length head ≡ 30
  pub same : (i : ℕ) → i < 30 → i < length v → byte head i ≡ byte v i

pub record KeepIs (from : ℕ) (p head head' : List ℕ) : Type 0 where
  pub keeps : (v : List ℕ) → from ≡ length v → Holds head v → Holds head' (v ++ p)

-- so many bytes of a piece are among the first 30
pub record RoomIs (from size r : ℕ) : Type 0 where
  pub there : r ≤ size
  pub within : 0 < r → from + r ≤ 30
  pub all : r < size → 30 ≤ from + r

-- so many bytes of a piece, from one place, stand at another; those before stay
pub record CopiedIs (to from n : ℕ) (p head head' : List ℕ) : Type 0 where
  pub size : length head' ≡ length head
  pub before : (i : ℕ) → i < to → byte head' i ≡ byte head i
  pub there : length head ≡ 30 → (i : ℕ) → i < n → byte head' (to + i) ≡ byte p (from + i)

-- eight of them
abbrev pub eight_at : ℕ → ℕ → List ℕ → List ℕ → List ℕ
eight_at to from p head =
    set (set (set (set (set (set (set (set head to (byte p from)) (to + 1) (byte p (from + 1))) (to + 2) (byte p (from + 2))) (to + 3)
    (byte p (from + 3))) (to + 4) (byte p (from + 4))) (to + 5) (byte p (from + 5))) (to + 6) (byte p (from + 6))) (to + 7)
    (byte p (from + 7))

-- a mark: the whole units of a text are good, and the last is a high surrogate
abbrev pub mark_of : Bool → Bool → ℕ
mark_of true high = cond high 2 0
mark_of false high = cond high 3 1

abbrev pub is_good : ℕ → Bool
is_good m = eqb (m % 2) 0

abbrev pub is_high : ℕ → Bool
is_high m = leb 2 m

-- what is left of a text from a unit on, after units that are good or not and the last of which is a high surrogate or not
abbrev pub left_from : ℕ → Bool → Bool → List ℕ → Bool
left_from k good high t = good && paired_after high (units (drop (2 * k) t))

-- of the bytes of an element: whatever follows, what is left of its text ends where the whole ends
abbrev pub whole_units : List ℕ → ℕ
whole_units v = (length v - 6) / 2

abbrev pub TextIs : ℕ → List ℕ → Type 0
TextIs m v =
    (q : List ℕ) → Bytes (v ++ q) → left_from (whole_units v) (is_good m) (is_high m) (drop 6 (v ++ q)) ≡ paired (units (drop 6 (v ++ q)))

pub record UnitsFrom (u : Under) (r : Units) : Type 0 where
  pub early : u.len < 6 → (r.whole ≡ 0) × (r.good ≡ true) × (r.high ≡ false)
  pub late : 6 ≤ u.len → (r.whole ≡ (u.len - 6) / 2) × (r.good ≡ is_good u.mark) × (r.high ≡ is_high u.mark)
  pub near : u.len ≤ 7 + 2 * r.whole

pub record UnitsOn (t : Units) (had : ℕ) (p : List ℕ) (end r : ℕ) : Type 0 where
  pub on :
      (v q : List ℕ)
      → had ≡ length v
      → t.whole ≤ end
      → Bytes (v ++ (p ++ q))
      → left_from end (is_good r) (is_high r) (drop 6 (v ++ (p ++ q))) ≡ left_from t.whole t.good t.high (drop 6 (v ++ (p ++ q)))

pub record TextOn (u : Under) (p : List ℕ) (r : Under) : Type 0 where
  pub long : r.len ≡ u.len + length p
  pub low : r.at ≤ 10000
  pub on : (v : List ℕ) → u.len ≡ length v → (6 ≤ length v → TextIs u.mark v) → 6 ≤ length (v ++ p) → TextIs r.mark (v ++ p)

-- where an element's part with blocks begins
abbrev pub part_at : ℕ → List ℕ → List ℕ
part_at lead v = drop (12 - lead) v

-- whatever follows, the cut goes on from where it is as from the start; and it waits for an ENTRIES byte, or has all blocks
pub record CutIs (lead most at number : ℕ) (full : Bool) (v : List ℕ) : Type 0 where
  pub ahead :
      (q : List ℕ)
      → count_from (most - number) lead (part_at lead (v ++ q)) (counted at number full) ≡ count_of most lead (part_at lead (v ++ q))
  pub few : number ≤ most
  pub waits : number < most → length v ≤ 12 - lead + at

pub record BlocksFrom (u : Under) (lead : ℕ) (r : Blocks) : Type 0 where
  pub early : u.len ≤ 12 → (r.at ≡ lead) × (r.number ≡ 0) × (r.full ≡ true)
  pub late : 12 < u.len → (r.at ≡ u.at) × (r.number ≡ u.blocks) × (r.full ≡ eqb u.mark 0)
  pub low : lead ≤ 1 → u.at ≤ 10000 → r.at ≤ 10000

pub record BlocksOn (b : Blocks) (lead most had : ℕ) (p : List ℕ) (r : Blocks) : Type 0 where
  pub low : r.at ≤ 10000
  pub on :
      (v : List ℕ)
      → had ≡ length v
      → CutIs lead most b.at b.number b.full v
      → CutIs lead most r.at r.number r.full (v ++ p)

pub record CutOn (u : Under) (lead most : ℕ) (p : List ℕ) (r : Under) : Type 0 where
  pub long : r.len ≡ u.len + length p
  pub low : r.at ≤ 10000
  pub on :
      (v : List ℕ)
      → u.len ≡ length v
      → (12 < length v → CutIs lead most u.at u.blocks (eqb u.mark 0) v)
      → 12 < length (v ++ p)
      → CutIs lead most r.at r.blocks (eqb r.mark 0) (v ++ p)

-- the kinds with blocks
abbrev pub most_of : ℕ → ℕ
most_of id = cond (eqb id 9) 6 (cond (eqb id 10) 2 (cond (eqb id 13) 3 0))

abbrev pub lead_of : ℕ → ℕ
lead_of id = cond (eqb id 9) 1 0

-- what is held of an element, by its bytes
pub record UnderIs (u : Under) (head v : List ℕ) : Type 0 where
  pub long : u.len ≡ length v
  pub low : u.at ≤ 10000
  pub bytes : Bytes v
  pub held : Holds head v
  pub text : byte v 0 ≡ 12 → 6 ≤ length v → TextIs u.mark v
  pub cut :
      (most_of (byte v 0) ≡ 0 → ⊥) → 12 < length v → CutIs (lead_of (byte v 0)) (most_of (byte v 0)) u.at u.blocks (eqb u.mark 0) v

pub record MoreIs (u : Under) (p head : List ℕ) (r : Under) (head' : List ℕ) : Type 0 where
  pub long : r.len ≡ u.len + length p
  pub low : r.at ≤ 10000
  pub grows : (v : List ℕ) → UnderIs u head v → Bytes (v ++ p) → 0 < length (v ++ p) → UnderIs r head' (v ++ p)
