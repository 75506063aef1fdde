-- Text that grows in a buffer, lines of kinds, and what the call gives.
-- Assumes nothing.
use Rattle.std.specs.Prelude.{ℕ, ◌<◌, ◌≤◌, cond, List, [], ◌∷◌, ◌++◌, length, eqb}
use Rattle.std.specs.Prelude.{Option as Maybe, Some, None}
use Rattle.std.proofs.Math.Option.{Option, none, some}
use Rattle.format.specs.Records.{Record}
use Rattle.format.specs.Slots.{byte, written}
use Rattle.format.specs.Layout.{part, layout}
use Rattle.format.specs.Verdict.{Accepts, Verdict}
use Rattle.format.specs.declared.pins.Chip.{Chip}
use Rattle.format.specs.declared.records.Description.{Description}
use Rattle.format.specs.Answers.{Refused}
use Rattle.walking.specs.Walk.{Here}
use Rattle.spelling.specs.Spelling.{Put, decimal, hex_pair, dash}
use Rattle.listing.specs.Lines.{line}
use Rattle.differing.specs.Fields.{ascii}
use Rattle.differing.specs.Differences.{Difference, difference, exchanged, kind, paired, differences, lines}
use Rattle.differing.specs.Compared.{archived}
use Rattle.comparing.specs.Rows.{fields_text, part_text}
use Rattle.comparing.specs.Outcomes.{Outcome}
use Rattle.comparing.specs.Outcomes as outcome

-- an offset, and an identifier, or `-` for the missing one
abbrev pub place_text : Maybe ℕ → List ℕ
place_text None = dash
place_text (Some o) = decimal o

abbrev pub id_text : Maybe ℕ → List ℕ
id_text None = dash
id_text (Some k) = hex_pair k

abbrev pub kind_line : Maybe ℕ → Maybe ℕ → Maybe ℕ → Maybe ℕ → List ℕ
kind_line a b k l = line ((68 ∷ []) ∷ place_text a ∷ place_text b ∷ ascii "kind" ∷ id_text k ∷ id_text l ∷ [])

-- what stands at a place of an accepted table: a record, or nothing at its end
abbrev pub At : Chip → List ℕ → ℕ → Option Record → Type 0
At c t at none = length t ≤ at
At c t at (some x) = (at < length t) × Here c t at x

-- how long that is
abbrev pub long : Option Record → ℕ
long none = 0
long (some x) = length (layout x)

-- the lines of what stands at two places
abbrev pub besides : ℕ → ℕ → Option Record → Option Record → List Difference
besides a b none none = []
besides a b none (some y) = exchanged (difference (decimal b) dash "kind" (hex_pair (kind y)) dash) ∷ []
besides a b (some x) none = difference (decimal a) dash "kind" (hex_pair (kind x)) dash ∷ []
besides a b (some x) (some y) = paired a b x y

-- the same, as the code finds it
abbrev pub pair_text : List ℕ → List ℕ → ℕ → ℕ → List ℕ → List ℕ → List ℕ
pair_text one two a b p q =
    cond (eqb (byte one a) (byte two b)) (fields_text one two a b (byte one a) ++ part_text a b p q) (kind_line (Some a) (Some b) (Some (byte one a)) (Some (byte two b)))

abbrev pub besides_text : List ℕ → List ℕ → ℕ → ℕ → Option Record → Option Record → List ℕ
besides_text one two a b none none = []
besides_text one two a b none (some y) = kind_line None (Some b) None (Some (byte two b))
besides_text one two a b (some x) none = kind_line (Some a) None (Some (byte one a)) None
besides_text one two a b (some x) (some y) = pair_text one two a b (written (part x)) (written (part y))

-- the text of two accepted tables at the front of the lent buffer, and its length; or a refusal, 'with a 1 or 2 before it', the first
-- table's first, and then no byte of the buffer is another
pub data Compares (c : Chip) (b b' buf : List ℕ) : Outcome → List ℕ → Type 0 where
  compared :
      {n : ℕ} {after : List ℕ} (d d' : Description) (rs rs' : List Record)
      → Accepts (archived c) b d rs
      → Accepts (archived c) b' d' rs'
      → Put buf 0 (lines (differences d rs d' rs')) n after
      → Compares c b b' buf (outcome.Text n) after
  first_refused : {k p : ℕ} → Verdict (archived c) b (Refused k p) → Compares c b b' buf (outcome.Refused 1 k p) buf
  second_refused :
      {k p : ℕ} (d : Description) (rs : List Record)
      → Accepts (archived c) b d rs
      → Verdict (archived c) b' (Refused k p)
      → Compares c b b' buf (outcome.Refused 2 k p) buf
