-- Two tables side by side (02, 5/14): 'descriptions first, then elements paired by position', and the lines as text.
-- Assumes nothing.
use Rattle.std.specs.Prelude.{ℕ, ◌+◌, Bool, true, false, ◌&&◌, cond, List, [], ◌∷◌, ◌++◌, map, length, eqb}
use Prim.Native.String.{String}
use Rattle.format.specs.Records.{Record, element_of}
use Rattle.format.specs.Layout.{id_of, layout}
use Rattle.format.specs.declared.records.Description.{Description}
use Rattle.spelling.specs.Spelling.{decimal, hex_pair, dash}
use Rattle.listing.specs.Lines.{line}
use Rattle.differing.specs.Fields.{shown, described, texts, description_names, element_names, ascii}

-- what one table shows in a line: an offset and a content
pub record Side : Type 0 where
  pub offset : List ℕ
  pub content : List ℕ

-- a line before it is text: a field's name and what each table shows
pub record Difference : Type 0 where
  pub name : String
  pub first : Side
  pub second : Side

-- a difference by its offsets, its field and its contents
abbrev pub difference : List ℕ → List ℕ → String → List ℕ → List ℕ → Difference
difference o o' n c c' = record { name = n; first = record { offset = o; content = c }; second = record { offset = o'; content = c' } }

-- 'the lines have their two sides exchanged'
abbrev pub exchanged : Difference → Difference
exchanged d = record { name = d.name; first = d.second; second = d.first }

-- whether two texts are the same
abbrev pub same : List ℕ → List ℕ → Bool
same [] [] = true
same [] (b ∷ t) = false
same (a ∷ s) [] = false
same (a ∷ s) (b ∷ t) = eqb a b && same s t

-- 'one line per differing field', of fields with these names
abbrev pub differing : List ℕ → List ℕ → List String → List (List ℕ) → List (List ℕ) → List Difference
differing o o' [] ts ts' = []
differing o o' (n ∷ ns) [] ts' = []
differing o o' (n ∷ ns) (t ∷ ts) [] = []
differing o o' (n ∷ ns) (t ∷ ts) (t' ∷ ts') =
    cond (same t t') (differing o o' ns ts ts') (difference o o' n t t' ∷ differing o o' ns ts ts')

-- the identifier of a record
abbrev pub kind : Record → ℕ
kind r = id_of (element_of r)

-- a pair: 'A pair of different kinds has one line and no other'
unfoldable pub paired : ℕ → ℕ → Record → Record → List Difference
paired at at' r r' =
    cond (eqb (kind r) (kind r'))
    (differing (decimal at) (decimal at') (element_names (kind r)) (texts r) (texts r'))
    (difference (decimal at) (decimal at') "kind" (hex_pair (kind r)) (hex_pair (kind r')) ∷ [])

-- 'or an element without a partner': of the first table, from an offset on; '`-` for the missing offset and content'
abbrev pub partnerless : ℕ → List Record → List Difference
partnerless at [] = []
partnerless at (r ∷ rs) = difference (decimal at) dash "kind" (hex_pair (kind r)) dash ∷ partnerless (at + length (layout r)) rs

-- 'then elements paired by position', from an offset in each table on
abbrev pub elementwise : ℕ → ℕ → List Record → List Record → List Difference
elementwise at at' [] rs' = map exchanged (partnerless at' rs')
elementwise at at' (r ∷ rs) [] = partnerless at (r ∷ rs)
elementwise at at' (r ∷ rs) (r' ∷ rs') =
    paired at at' r r' ++ elementwise (at + length (layout r)) (at' + length (layout r')) rs rs'

-- 'descriptions first', which stand at 0
unfoldable pub descriptionwise : Description → Description → List Difference
descriptionwise d d' = differing (decimal 0) (decimal 0) description_names (map shown (described d)) (map shown (described d'))

-- all of them, in the order of the lines; the elements start at 16
abbrev pub differences : Description → List Record → Description → List Record → List Difference
differences d rs d' rs' = descriptionwise d d' ++ elementwise 16 16 rs rs'

-- '`D`, both offsets, field name, first and second content'
unfoldable pub line_of : Difference → List ℕ
line_of d =
    line ((68 ∷ []) ∷ d.first.offset ∷ d.second.offset ∷ ascii d.name ∷ d.first.content ∷ d.second.content ∷ [])

-- the text
abbrev pub lines : List Difference → List ℕ
lines [] = []
lines (d ∷ ds) = line_of d ++ lines ds
