-- What an element is called, over the records of a table: 'the text part of the element's string, or, where the index is 0, the lent
-- name itself'.
-- Assumes nothing.
use Rattle.std.specs.Prelude.{ℕ, ◌+◌, ◌≡◌, Bool, true, false, List, [], ◌∷◌, length, take, eqb}
use Rattle.std.proofs.Math.Option.{none, some}
use Rattle.format.specs.Records.{Record, string_number, text_of}
use Rattle.format.specs.Layout.{layout, place_after}
use Rattle.format.specs.Utf16.{well_formed}
use Rattle.format.specs.ZonesAndStrings.{Role, placed, zoning, naming, role, string_named}
use Rattle.format.specs.Verdict.{Accepts, Verdict}
use Rattle.format.specs.Asked.{nth}
use Rattle.format.specs.declared.settings.Settings.{Settings}
use Rattle.format.specs.declared.records.Description.{Description}
use Rattle.format.specs.Answers.{Refused as RefusedTable}
use Rattle.std.specs.Prelude.{Result, Ok, Err}
use Rattle.format.specs.Answers.{rule_number}
use Rattle.format.specs.declared.answers.Refusal.{Refusal}
use Rattle.labels.specs.declared.Source.{Source as Place}
use Rattle.labels.specs.declared.Source.TheVariants.{Text as TextAt, Lent as LentName}

-- the text of the string that starts at a place of the table; the lent name; or a refusal
pub data Called : Type 0 where
  text : ℕ → List ℕ → Called
  lent : Called
  refused : ℕ → ℕ → Called

abbrev pub pick_called : Bool → Called → Called → Called
pick_called true a b = a
pick_called false a b = b

-- whether an element is the string with a number; the text of a string
abbrev pub bears : ℕ → Role → Bool
bears n (placed p) = false
bears n (zoning bytes) = false
bears n (naming bytes) = eqb (string_number bytes) n

abbrev pub own_text : Role → List ℕ
own_text (placed p) = []
own_text (zoning bytes) = []
own_text (naming bytes) = text_of bytes

-- the string with a number, among elements that start at a place; the lent name where there is none, which 14 leaves to no accepted
-- table
abbrev pub by_number : ℕ → ℕ → List Record → Called
by_number n at [] = lent
by_number n at (r ∷ rs) =
    pick_called (bears n (role r)) (text at (own_text (role r))) (by_number n (at + length (layout r)) rs)

-- by a string index: '.. where the index is 0, the lent name itself'; 'an element without an index gives the lent name'
abbrev pub by_index : List ℕ → List Record → Called
by_index [] rs = lent
by_index (n ∷ ns) rs = pick_called (eqb n 0) lent (by_number n 16 rs)

-- an element that starts at a place; 'A string element gives its own text'
abbrev pub called_of : List Record → ℕ → Role → Called
called_of rs at (placed p) = by_index (string_named (placed p)) rs
called_of rs at (zoning bytes) = by_index (string_named (zoning bytes)) rs
called_of rs at (naming bytes) = text at (text_of bytes)

-- element k of a table; 'the label call gives the reader's, then 17'
pub data Calls (σ : Settings) (b : List ℕ) (k : ℕ) : Called → Type 0 where
  titled :
      {r : Record} (d : Description) (rs : List Record)
      → Accepts σ b d rs
      → nth rs k ≡ some r
      → Calls σ b k (called_of rs (place_after (take k rs)) (role r))
  past : (d : Description) (rs : List Record) → Accepts σ b d rs → nth rs k ≡ none → Calls σ b k (refused 17 0)
  untitled : {j p : ℕ} → Verdict σ b (RefusedTable j p) → Calls σ b k (refused j p)

-- of which slice a label is a part, and where: a text in the table, its place and its length; or the lent name, whole. Or a refusal
pub data Source : Type 0 where
  Text : ℕ → ℕ → Source
  Lent : Source
  Refused : ℕ → ℕ → Source

-- what a label says, and what a result does
abbrev pub source_of : Place → Source
source_of (TextAt p n) = Text p n
source_of LentName = Lent

abbrev pub sourced : Result Place Refusal → Source
sourced (Ok l) = source_of l
sourced (Err r) = Refused (rule_number r.rule) r.place

-- of which slice it is a part, and where: a string's text is at byte 6 of the string
abbrev pub stands_at : Called → Source
stands_at (text at bytes) = Text (at + 6) (length bytes)
stands_at lent = Lent
stands_at (refused j p) = Refused j p

-- its bytes, with this lent name; 'a refusal gives an empty part'
abbrev pub bytes_of : List ℕ → Called → List ℕ
bytes_of name (text at bytes) = bytes
bytes_of name lent = name
bytes_of name (refused j p) = []

-- 'whoever uses it may count on it': what comes from the table is well-formed; the lent name is not looked at
abbrev pub readable : Called → Bool
readable (text at bytes) = well_formed bytes
readable lent = true
readable (refused j p) = true

-- the words of `find` and of `label`
pub record Found (σ : Settings) (b : List ℕ) (k : ℕ) (r : Source) : Type 0 where
  pub called : Called
  pub calls : Calls σ b k called
  pub place : r ≡ stands_at called
  pub well : readable called ≡ true

-- (of `label` these are the bytes of the part that comes back; from which of the two slices it is, `find` tells: docs/CALLS.md)
pub record Labelled (σ : Settings) (b : List ℕ) (k : ℕ) (name bytes : List ℕ) : Type 0 where
  pub called : Called
  pub calls : Calls σ b k called
  pub same : bytes ≡ bytes_of name called
  pub well : readable called ≡ true
