-- What the reader holds of the bytes so far, what one byte more makes of it, and what it answers at the end.
-- Assumes nothing.
use Rattle.std.specs.Prelude.{ℕ, ◌+◌, Bool, true, false, ◌&&◌, List, [], ◌∷◌, ◌++◌, length, take, drop, eqb, ltb, leb}
use Rattle.format.specs.Slots.{byte}
use Rattle.format.specs.Verdict.{stated}
use Rattle.format.specs.Decode.{read_description}
use Rattle.format.specs.Reader.{or_refuse_at0, unless_misdescribed, conclude}
use Rattle.format.specs.Table.{description_breaks}
use Rattle.format.specs.declared.settings.Settings.{Settings}
use Rattle.format.specs.declared.records.Description.{Description}
use Rattle.format.specs.Answers.{Answer}
use Rattle.stream.specs.Running.{Run, run_byte, run_bytes, begin, finish}

-- the description's 16 bytes, as far as they are there; the number of bytes; the pass
pub record State : Type 0 where
  pub first : List ℕ
  pub count : ℕ
  pub run : Run

abbrev pub state : List ℕ → ℕ → Run → State
state f n r = record { first = f; count = n; run = r }

-- what the state is after the bytes: it stands for them and for nothing else
abbrev pub state_of : Settings → List ℕ → State
state_of σ b = state (take 16 b) (length b) (run_bytes σ begin (drop 16 b))

-- more than 4,096 bytes are no table: of those past the 4,097th nothing is kept, not even their number
abbrev pub after : Settings → List ℕ → State
after σ b = state_of σ (take 4097 b)

-- one byte more: of the description, or of the pass; or past the end of every table
abbrev pub got_by : Settings → Bool → Bool → State → ℕ → State
got_by σ true t s x = s
got_by σ false true s x = state (s.first ++ x ∷ []) (s.count + 1) s.run
got_by σ false false s x = state s.first (s.count + 1) (run_byte σ s.run x)

abbrev pub got : Settings → State → ℕ → State
got σ s x = got_by σ (ltb 4096 s.count) (ltb s.count 16) s x

-- a piece, and all pieces
abbrev pub piece : Settings → State → List ℕ → State
piece σ s [] = s
piece σ s (x ∷ xs) = piece σ (got σ s x) xs

abbrev pub pieces : Settings → State → List (List ℕ) → State
pieces σ s [] = s
pieces σ s (p ∷ ps) = pieces σ (piece σ s p) ps

abbrev pub joined : List (List ℕ) → List ℕ
joined [] = []
joined (p ∷ ps) = p ++ joined ps

-- the end: 1, 2 and 3, which are known last and stand first, then what the whole reading says
abbrev pub answer_of : Settings → Description → State → Answer
answer_of σ d s =
    or_refuse_at0 (leb 16 s.count) 1
    (or_refuse_at0 (eqb (byte s.first 0) 1) 2
    (or_refuse_at0 (eqb (stated s.first) s.count && leb (stated s.first) 4096) 3
    (unless_misdescribed (description_breaks σ.chip d) (conclude d (finish s.run)))))

abbrev pub answer : Settings → State → Answer
answer σ s = answer_of σ (read_description σ.chip (byte s.first)) s
