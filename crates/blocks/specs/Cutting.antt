-- The cut of a part into blocks, from one ENTRIES byte to the next, and what it is to say of the blocks that the reader finds.
-- Assumes nothing.
use Rattle.std.specs.Prelude.{ℕ, zero, suc, ◌+◌, ◌*◌, ◌≤◌, ◌≡◌, Bool, true, false, ◌&&◌, not, List, length, drop, eqb, ltb, leb}
use Rattle.std.proofs.Math.Option.{Option, none, some}
use Rattle.format.specs.Slots.{byte}
use Rattle.format.specs.Records.{Block}
use Rattle.format.specs.Rules.{filled}
use Rattle.format.specs.Decode.{bind, when_nil, cut_entries, cut_blocks}
use Rattle.blocks.specs.declared.Cut.{Cut}
use Rattle.blocks.specs.declared.Part.{Part}

abbrev pub cut : ℕ → Bool → Cut
cut at f = record { at = at; full = f }

-- the step: past an ENTRIES byte, its pairs and what stands before the next one; where none is there nothing moves
abbrev pub enter : Bool → ℕ → ℕ → Cut → Cut
enter true lead x c = cut (c.at + 1 + lead + 4 * x) (c.full && not (eqb x 0))
enter false lead x c = cut c.at c.full

-- past one block more, where there is one
abbrev pub past_block : ℕ → List ℕ → Cut → Cut
past_block lead p c = enter (ltb c.at (length p)) lead (byte p c.at) c

-- past so many at most, and so from the first one on
abbrev pub cut_from : ℕ → ℕ → List ℕ → Cut → Cut
cut_from zero lead p c = c
cut_from (suc n) lead p c = cut_from n lead p (past_block lead p c)

abbrev pub cut_of : ℕ → ℕ → List ℕ → Cut
cut_of n lead p = cut_from n lead p (cut lead true)

-- bytes that so many blocks fill, each of them after `lead` bytes more: whether each has a pair
abbrev pub exact : ℕ → ℕ → List ℕ → Option Bool
exact zero lead bs = when_nil bs true
exact (suc n) lead bs =
    bind (cut_entries (drop lead bs)) (λ c. bind (exact n lead c.1) (λ t. some (leb 1 (length c.0) && t)))

abbrev pub is_some : {A : Type 0} → Option A → Bool
is_some none = false
is_some (some a) = true

-- what a part is to say of speed blocks, where there are such
abbrev pub SpeedsAre : Part → Option (List Block) → Type 0
SpeedsAre r none = r.whole ≡ false
SpeedsAre r (some l) = (r.whole ≡ leb 1 (length l) && leb (length l) 6) × (r.whole ≡ true → r.full ≡ filled l)

-- 09h: its speed blocks, under each bound that the bytes do not pass
abbrev pub SpeedPart : List ℕ → Part → Type 0
SpeedPart p r = (m : ℕ) → length p ≤ m → SpeedsAre r (cut_blocks m p)

-- 0Ah and 0Dh: so many blocks of ENTRIES and pairs, which may have none
abbrev pub PairsPart : ℕ → List ℕ → Part → Type 0
PairsPart n p r = (r.whole ≡ is_some (exact n 0 p)) × (r.full ≡ true)
