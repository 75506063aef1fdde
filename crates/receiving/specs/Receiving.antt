-- What start, piece and end are to do, by the bytes that the state stands for.
-- Assumes nothing.
use Rattle.std.specs.Prelude.{ℕ, ◌-◌, ◌<◌, ◌≤◌, ◌≡◌, List, [], ◌∷◌, ◌++◌, length, set, take, replicate}
use Rattle.format.specs.Slots.{byte, Bytes}
use Rattle.format.specs.Answers.{value_of}
use Rattle.format.specs.Decode.{read_description}
use Rattle.format.specs.Reader.{verdict_of}
use Rattle.format.specs.declared.settings.Settings.{Settings}
use Rattle.format.specs.Answers.{Answer}
use Rattle.format.specs.Answers.{Refused}
use Rattle.pass.specs.Tracks.{Flags}
use Rattle.stream.specs.Arriving.{state_of}
use Rattle.underway.specs.Under.{Holds}
use Rattle.closing.specs.declared.Way.{Way}
use Rattle.states.specs.Numbers.{code_of, number, way_of}
use Rattle.advancing.specs.Advancing.{Fresh}
use Rattle.ending.specs.Stands.{Lent, lent, Stands, StandsFor}

pub record LeadIs (first : List ℕ) (count : ℕ) (q : List ℕ) (r : ℕ) (first' : List ℕ) : Type 0 where
  pub within : r ≤ length q
  pub early : count < 16 → (r ≡ 16 - count) × ((v : List ℕ) → count ≡ length v → Holds first v → Holds first' (v ++ take (16 - count) q))
  pub late : 16 ≤ count → (r ≡ 0) × (first' ≡ first)

pub record ReadyIs (σ : Settings) (n first : List ℕ) (count : ℕ) (w : Way) : Type 0 where
  pub early : count < 16 → Fresh σ (read_description σ.chip (byte first)) w
  pub late : 16 ≤ count → w ≡ way_of n

pub record ReceiveIs (l : Lent) (q : List ℕ) (l' : Lent) : Type 0 where
  pub live : number l'.numbers 0 ≡ 0
  pub goes :
      (σ : Settings) (c : List ℕ)
      → Bytes q
      → 0 < length q
      → Stands σ (state_of σ c) l
      → Stands σ (state_of σ (c ++ q)) l'

-- start: the settings, and else nothing
pub record StartIs (σ : Settings) (n first head : List ℕ) : Type 0 where
  pub numbers : n ≡ 0 ∷ code_of σ ∷ replicate 14 0
  pub described : first ≡ replicate 30 0
  pub under : head ≡ replicate 30 0

-- a piece: 20 after the end, with the state kept; before it 0, and the state then stands for the piece's bytes too
pub record PieceIs (l : Lent) (p : List ℕ) (r : ℕ) (l' : Lent) : Type 0 where
  pub late : (number l.numbers 0 ≡ 0 → ⊥) → (r ≡ 20) × (l' ≡ l)
  -- 'A piece of no bytes changes nothing'
  pub none : p ≡ [] → l' ≡ l
  pub taken : number l.numbers 0 ≡ 0 → (r ≡ 0) × (number l'.numbers 0 ≡ 0)
  pub goes : (σ : Settings) (b : List ℕ) → StandsFor σ b l → StandsFor σ (b ++ p) l'

-- the end: 20 at 0 after the end, with the state kept; before it what the whole reading answers, and the state is marked as ended
pub record EndIs (n first : List ℕ) (f : Flags) (zp sp : List ℕ) (a : Answer) (n' : List ℕ) : Type 0 where
  pub late : (number n 0 ≡ 0 → ⊥) → (a ≡ Refused 20 0) × (n' ≡ n)
  pub over : number n 0 ≡ 0 → n' ≡ set n 0 1
  pub low : value_of a ≤ 65535
  pub answers : (σ : Settings) (b head : List ℕ) → Bytes b → StandsFor σ b (lent n first head f zp sp) → a ≡ verdict_of σ b
