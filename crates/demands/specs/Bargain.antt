-- 'The bargain each call makes', of a writer as a pair of functions: its words, demand 2 of it, and the bad writers that are tried.
-- Assumes nothing.
use Rattle.std.specs.Prelude.{ℕ, ◌<◌, ◌≤◌, ◌≡◌, List, [], ◌∷◌, ◌++◌, length, drop}
use Rattle.format.specs.Slots.{Bytes, written}
use Rattle.format.specs.Records.{Record, element_of}
use Rattle.format.specs.Layout.{part, table}
use Rattle.format.specs.Cleared.{cleared}
use Rattle.format.specs.Verdict.{Accepts, stated}
use Rattle.format.specs.declared.records.Description.{Description}
use Rattle.format.specs.declared.records.Element.{Element}
use Rattle.format.specs.Answers.{Written}
use Rattle.writer.specs.Calls.{Started, Appended}
use Rattle.format.specs.declared.pins.Chip.{Chip}
use Rattle.format.specs.Writing.{writing}

-- what a call answers, and the buffer after it
pub record Outcome : Type 0 where
  pub answer : Written
  pub after : List ℕ

pub record Writer : Type 0 where
  pub start : List ℕ → Description → Outcome
  pub append : List ℕ → Element → List ℕ → Outcome

-- with this chip named it keeps the words of start and of append on all inputs
pub record KeepsWords (chip : Chip) (w : Writer) : Type 0 where
  pub starts : (b : List ℕ) (d : Description) → Started chip b d (w.start b d).answer (w.start b d).after
  pub appends : (b : List ℕ) (e : Element) (p : List ℕ) → Appended chip b e p (w.append b e p).answer (w.append b e p).after

-- the buffer after append for each record in turn, and with start before them
abbrev pub appends_all : Writer → List ℕ → List Record → List ℕ
appends_all w c [] = c
appends_all w c (r ∷ rs) = appends_all w (w.append c (element_of r) (written (part r))).after rs

abbrev pub writes : Writer → List ℕ → Description → List Record → List ℕ
writes w c d rs = appends_all w (w.start c d).after rs

-- demand 2: 'Writing the records of an accepted table, in their order, into a buffer long enough gives that table again with its
-- reserved places at zero'; the buffer's own bytes stand behind
abbrev pub Demand2For : Chip → Writer → Type 0
Demand2For chip w =
    (b c : List ℕ) (d : Description) (rs : List Record)
    → Bytes b
    → Bytes c
    → Accepts (writing chip) b d rs
    → length b ≤ length c
    → writes w c d rs ≡ cleared b (table d rs) ++ drop (length b) c

-- 'a writer that touches nothing'
pub record TouchesNothing (w : Writer) : Type 0 where
  pub starts : (b : List ℕ) (d : Description) → (w.start b d).after ≡ b
  pub appends : (b : List ℕ) (e : Element) (p : List ℕ) → (w.append b e p).after ≡ b

-- '.. and one that lays out only the first appended element': once the length so far is over 16 it lays out nothing, whatever
-- it does to bytes 0 to 2
abbrev pub LaysOnlyFirst : Writer → Type 0
LaysOnlyFirst w =
    (b : List ℕ) (e : Element) (p : List ℕ) → 16 < stated b → drop 3 (w.append b e p).after ≡ drop 3 b
