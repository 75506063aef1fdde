-- The bad writers of 'The bargain each call makes': none of them keeps demand 2, and what keeps the calls' words does.
-- Assumes nothing.
use Prim.Native.Nat.{ℕ, ◌<◌, ◌≤◌}
use native.Mathlib.Omega.{arith}
use mathlib.Core.Path.{◌≡◌, refl, sym, ◌∙◌, ap}
use mathlib.Core.Bool.{Bool, true, false}
use mathlib.Core.List.{List, [], ◌∷◌, ◌++◌}
use lib.ListN.{length, drop, replicate}
use lib.Dec.{ltb}
use borrow.Author.Tests.{lt-ltb}
use Rattle.format.specs.Slots.{byte, written}
use Rattle.format.specs.Records.{Record, element_of}
use Rattle.format.specs.Layout.{part, table}
use Rattle.format.specs.Cleared.{cleared}
use Rattle.format.specs.Table.{Keeps}
use Rattle.format.specs.Verdict.{stated}
use Rattle.format.specs.Writing.{writing, start_answer, start_leaves, append_answer, append_leaves}
use Rattle.format.specs.declared.records.Element.{Element}
use Rattle.format.specs.declared.records.Element.TheVariants.{Text}
use Rattle.format.specs.Answers.{Written}
use Rattle.format.proofs.KnownTables.{small_bytes}
use Rattle.demands.specs.Runs.{Appends}
use Rattle.demands.specs.Bargain.{Writer, KeepsWords, appends_all, writes, Demand2For, TouchesNothing, LaysOnlyFirst}
use Rattle.demands.proofs.Demand2.{records_written_again}
use Rattle.demands.proofs.Tried.{of_a, text1, text2, tried, none_kept, one_kept, two_kept, tried_accepted, tried_bytes}
use Rattle.format.specs.declared.pins.Chip.{Chip}

module _ (chip : Chip) where
  -- a writer that keeps the calls' words keeps demand 2
  runs : (w : Writer) → KeepsWords chip w → (c : List ℕ) (rs : List Record) → (ws : List Written) × Appends chip c rs ws (appends_all w c rs)
  runs w k c [] = ([], refl)
  runs w k c (r ∷ rs) =
      let o = w.append c (element_of r) (written (part r)) in
      let t = runs w k o.after rs in
      (o.answer ∷ t.0, (o.after, k.appends c (element_of r) (written (part r)), t.1))

  pub words_suffice : (w : Writer) → KeepsWords chip w → Demand2For chip w
  words_suffice w k b c d rs small small' a long =
      let o = w.start c d in
      let t = runs w k o.after rs in
      (records_written_again chip b c d rs o.answer t.0 o.after (writes w c d rs) a long (k.starts c d) t.1).bytes

  -- what demand 2 asks of the tables that are tried, into a buffer of 28 zeros
  abbrev zeros : List ℕ
  zeros = replicate 28 0

  asked :
      (w : Writer) (rs : List Record)
      → Demand2For chip w
      → Keeps (writing chip) of_a rs
      → length (tried rs) ≤ 28
      → writes w zeros of_a rs ≡ cleared (tried rs) (table of_a rs) ++ drop (length (tried rs)) zeros
  asked w rs demand k long =
      demand (tried rs) zeros of_a rs (tried_bytes chip rs k) (small_bytes zeros refl) (tried_accepted chip rs k) long

  -- 'a writer that touches nothing': byte 0 of table A is 1, and stays 0
  pub touches_nothing : (w : Writer) → TouchesNothing w → Demand2For chip w → ⊥
  touches_nothing w idle demand =
      let p = asked w [] demand (none_kept chip) (omega arith) in
      let q : zeros ≡ cleared (tried []) (table of_a []) ++ drop 16 zeros = sym (idle.starts zeros of_a) ∙ p in
      let z : byte zeros 0 ≡ 1 = ap (λ (l : List ℕ). byte l 0) q in
      omega arith

  -- '.. and one that lays out only the first appended element': byte 22, where the second starts, stays 0
  pub only_the_first : (w : Writer) → LaysOnlyFirst w → Demand2For chip w → ⊥
  only_the_first w first demand =
      let p = asked w (text1 ∷ []) demand (one_kept chip) (omega arith) in
      let q = asked w (text1 ∷ text2 ∷ []) demand (two_kept chip) (omega arith) in
      let c = writes w zeros of_a (text1 ∷ []) in
      let so_far : stated c ≡ 22 = ap stated p in
      let same = first c Text (written (part text2)) (omega arith) in
      let one : byte (drop 3 c) 19 ≡ 0 = ap (λ (l : List ℕ). byte (drop 3 l) 19) p in
      let two : byte (drop 3 (writes w zeros of_a (text1 ∷ text2 ∷ []))) 19 ≡ 0x0c = ap (λ (l : List ℕ). byte (drop 3 l) 19) q in
      let z : ◌≡◌ {A = ℕ} 0x0c 0 = sym two ∙ ap (λ (l : List ℕ). byte l 19) same ∙ one in
      omega arith

  -- a writer that leaves the whole buffer as it was, once the length so far is over 16, is one of these
  pub leaves_later :
      (w : Writer)
      → ((b : List ℕ) (e : Element) (p : List ℕ) → 16 < stated b → (w.append b e p).after ≡ b)
      → LaysOnlyFirst w
  leaves_later w h b e p long = ap (λ (l : List ℕ). drop 3 l) (h b e p long)

  -- And there are such writers. One that keeps the words, so that it keeps demand 2:
  abbrev pub exact : Writer
  exact =
      record {
        start = λ b d. record { answer = start_answer chip b d; after = start_leaves (start_answer chip b d) b d };
        append = λ b e p. record { answer = append_answer chip b e p; after = append_leaves (append_answer chip b e p) b e p };
      }

  pub words_kept : KeepsWords chip exact
  words_kept =
      record { starts = λ b d. record { answer = refl; leaves = refl }; appends = λ b e p. record { answer = refl; leaves = refl } }

  -- one that answers as it does, and touches nothing:
  abbrev pub idle : Writer
  idle =
      record {
        start = λ b d. record { answer = start_answer chip b d; after = b };
        append = λ b e p. record { answer = append_answer chip b e p; after = b };
      }

  pub idle_touches_nothing : TouchesNothing idle
  idle_touches_nothing = record { starts = λ b d. refl; appends = λ b e p. refl }

  -- and one that lays out the first element as it does, and no other
  abbrev pub unless_later : Bool → List ℕ → List ℕ → List ℕ
  unless_later true b after = b
  unless_later false b after = after

  abbrev pub first_only : Writer
  first_only =
      record {
        start = exact.start;
        append =
            λ b e p.
            record { answer = append_answer chip b e p; after = unless_later (ltb 16 (stated b)) b (exact.append b e p).after };
      }

  pub first_only_lays_one : LaysOnlyFirst first_only
  first_only_lays_one =
      leaves_later first_only (λ b e p long. ap (λ (t : Bool). unless_later t b (exact.append b e p).after) (lt-ltb 16 (stated b) long))
