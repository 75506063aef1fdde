-- 'The bargain each call makes', of a check under settings: the words that it keeps on all inputs, and the bad programs that are tried.
-- Assumes nothing.
use Rattle.std.specs.Prelude.{ℕ, ◌≡◌, List, length}
use Rattle.format.specs.Slots.{Bytes}
use Rattle.format.specs.Records.{Record}
use Rattle.format.specs.Verdict.{Accepts, Verdict}
use Rattle.format.specs.declared.settings.Settings.{Settings}
use Rattle.format.specs.declared.records.Description.{Description}
use Rattle.format.specs.Answers.{Answer}
use Rattle.format.specs.Answers.{Gives as Accepted, Refused}

-- a check as a function: it keeps its words where every list of bytes gets the verdict
abbrev pub KeepsWords : Settings → (List ℕ → Answer) → Type 0
KeepsWords s f = (b : List ℕ) → Bytes b → Verdict s b (f b)

-- 'one that turns every table away'
abbrev pub TurnsAllAway : (List ℕ → Answer) → Type 0
TurnsAllAway f = (b : List ℕ) → Bytes b → (k : ℕ) × (p : ℕ) × (f b ≡ Refused k p)

-- 'one with a single fixed reply'
abbrev pub RepliesOnly : Answer → (List ℕ → Answer) → Type 0
RepliesOnly a f = (b : List ℕ) → Bytes b → f b ≡ a

-- 'an acceptance whose element count is invented': of some accepted table it is not the number of elements in the list
pub record InventsCount (s : Settings) (f : List ℕ → Answer) : Type 0 where
  pub bytes : List ℕ
  pub small : Bytes bytes
  pub description : Description
  pub records : List Record
  pub accepts : Accepts s bytes description records
  pub count : ℕ
  pub answers : f bytes ≡ Accepted count
  pub invented : count ≡ length records → ⊥
