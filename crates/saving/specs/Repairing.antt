-- Salvage told another way: the reader is asked again and again, and what it names first is put right, until it accepts. Each step
-- stands on the verdict of the table as it is then.
-- Assumes nothing.
use Rattle.std.specs.Prelude.{ℕ, ◌+◌, ◌<◌, ◌≡◌, true, false, List, [], ◌∷◌, ◌++◌, length, drop, eqb}
use Rattle.std.proofs.Math.Option.{none}
use Rattle.format.specs.Slots.{written}
use Rattle.format.specs.Records.{Record}
use Rattle.format.specs.Layout.{opening, layouts, table, place_after}
use Rattle.format.specs.Table.{element_breaks}
use Rattle.format.specs.Verdict.{stated, framed, Stands, Breaks, Verdict}
use Rattle.format.specs.declared.settings.Settings.{Settings}
use Rattle.format.specs.declared.records.Description.{Description}
use Rattle.format.specs.Answers.{Gives as Accepted, Refused}
use Rattle.saving.specs.Saving.{At, at_place, Line, line, left_out, cleared, records, unindexed, unindexed_description}

-- 13 to 15, of a table that is a description and records with their old places: the lines that are made, and what is left in the end
pub data Repairs (σ : Settings) : Description → List (At Record) → List Line → Description → List (At Record) → Type 0 where
  accepted :
      {d : Description} {ks : List (At Record)} {n : ℕ}
      → Verdict σ (written (table d (records ks))) (Accepted n)
      → Repairs σ d ks [] d ks
  -- an element is named first, by another rule than 14: it is left out
  leaves_out :
      {d e : Description} {out : List (At Record)} {ls : List Line} {n : ℕ}
      (before : List (At Record)) (k : At Record) (after : List (At Record))
      → Verdict σ (written (table d (records (before ++ k ∷ after)))) (Refused n (place_after (records before)))
      → eqb n 14 ≡ false
      → Repairs σ d (before ++ after) ls e out
      → Repairs σ d (before ++ k ∷ after) (line k.place n left_out ∷ ls) e out
  -- .. by 14: its string index is cleared
  clears :
      {d e : Description} {out : List (At Record)} {ls : List Line} (before : List (At Record)) (k : At Record) (after : List (At Record))
      → Verdict σ (written (table d (records (before ++ k ∷ after)))) (Refused 14 (place_after (records before)))
      → Repairs σ d (before ++ at_place k.place (unindexed k.what) ∷ after) ls e out
      → Repairs σ d (before ++ k ∷ after) (line k.place 14 cleared ∷ ls) e out
  -- the description is named first
  clears_first :
      {d e : Description} {ks out : List (At Record)} {ls : List Line}
      → Verdict σ (written (table d (records ks))) (Refused 14 0)
      → Repairs σ (unindexed_description d) ks ls e out
      → Repairs σ d ks (line 0 14 cleared ∷ ls) e out

-- the bytes of a description, of records and of what is not yet looked at, the length set
abbrev pub so_far : Description → List Record → List ℕ → List ℕ
so_far d rs bs = written (opening d (16 + length (layouts rs) + length bs) ++ layouts rs) ++ bs

-- 6 to 12, and 23: the elements before have been read, and the bytes from an old place on have not
pub data RepairsPass (σ : Settings) (d e : Description) (out : List (At Record)) : List (At Record) → ℕ → List ℕ → List Line → Type 0 where
  -- the end
  ends : {ks : List (At Record)} {p : ℕ} {ls : List Line} → Repairs σ d ks ls e out → RepairsPass σ d e out ks p [] ls
  -- a record stands there that is no 97th and breaks no rule of the pass: it is read
  reads_on :
      {ks : List (At Record)} {p : ℕ} {bs : List ℕ} {ls : List Line} (r : Record)
      → length ks < 96
      → Stands σ.chip bs r
      → element_breaks σ (records ks) r ≡ none
      → RepairsPass σ d e out (ks ++ at_place p r ∷ []) (p + stated bs) (drop (stated bs) bs) ls
      → RepairsPass σ d e out ks p bs ls
  -- it has a header and is no 97th, and it is named first, by a rule of the pass: it is left out
  leaves_over :
      {ks : List (At Record)} {p n : ℕ} {bs : List ℕ} {ls : List Line}
      → Verdict σ (so_far d (records ks) bs) (Refused n (place_after (records ks)))
      → Breaks σ (records ks) bs n
      → framed bs ≡ true
      → length ks < 96
      → RepairsPass σ d e out ks (p + stated bs) (drop (stated bs) bs) ls
      → RepairsPass σ d e out ks p bs (line p n left_out ∷ ls)
  -- by 6, or as a 97th: 'Stop', and 'the stop' gets no line
  stops :
      {ks : List (At Record)} {p : ℕ} {bs : List ℕ} {ls : List Line}
      → 0 < length bs
      → framed bs ≡ false
      → Verdict σ (so_far d (records ks) bs) (Refused 6 (place_after (records ks)))
      → Repairs σ d ks ls e out
      → RepairsPass σ d e out ks p bs ls
  is_full :
      {ks : List (At Record)} {p : ℕ} {bs : List ℕ} {ls : List Line}
      → framed bs ≡ true
      → length ks ≡ 96
      → Verdict σ (so_far d (records ks) bs) (Refused 11 (place_after (records ks)))
      → Repairs σ d ks ls e out
      → RepairsPass σ d e out ks p bs ls
