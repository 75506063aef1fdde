-- Demand 2, over the calls' own words: 'Writing the records of an accepted table, in their order, into a buffer long enough gives
-- that table again with its reserved places at zero'; the other bytes stay. Of whatever chip the caller names to both.
-- Assumes nothing.
use Prim.Native.Nat.{ℕ, ◌+◌, ◌≤◌}
use native.Mathlib.Omega.{arith}
use mathlib.Core.Path.{◌≡◌, refl, sym, ◌∙◌, ap, subst}
use mathlib.Core.Bool.{true}
use mathlib.Core.List.{List, [], ◌∷◌, ◌++◌}
use mathlib.Core.Option.{none}
use lib.ListN.{length, drop, length-append}
use borrow.Author.Tests.{le-leb}
use Rattle.format.specs.Slots.{whole, word, all_roomy}
use Rattle.format.specs.Records.{Record}
use Rattle.format.specs.Layout.{opening, layouts, table}
use Rattle.format.specs.Cleared.{cleared}
use Rattle.format.specs.Rules.{description_roomy}
use Rattle.format.specs.Table.{description_breaks}
use Rattle.format.specs.Verdict.{Accepts}
use Rattle.format.specs.Writing.{writing, start_answer, start_leaves}
use Rattle.format.specs.declared.records.Description.{Description}
use Rattle.format.specs.Answers.{Written}
use Rattle.format.specs.Answers.{Gives as Length}
use Rattle.format.proofs.Lengths.{fits_length}
use Rattle.format.proofs.Written.{written_again}
use Rattle.writer.specs.Calls.{Started}
use Rattle.demands.specs.Runs.{standing, Appends, AllDone}
use Rattle.format.proofs.Slots.{roomy_split}
use Rattle.demands.proofs.Standing.{appended}
use Rattle.format.specs.declared.pins.Chip.{Chip}

-- start
pub opening_roomy : (d : Description) (n : ℕ) → all_roomy (opening d n) ≡ true → description_roomy d ≡ true
opening_roomy d n h = (roomy_split (whole 1 ∷ word n) (drop 3 (opening d 16)) h).1

pub starts :
    (chip : Chip) (d : Description) (c : List ℕ) → 16 ≤ length c → description_roomy d ≡ true → description_breaks chip d ≡ none
    → start_answer chip c d ≡ Length 16
unfolding start_answer
starts chip d c long h k = rw (le-leb 16 (length c) long, h, k) refl

-- 'into a buffer long enough': the table's bytes, and the buffer's own behind them
pub record Again (b c : List ℕ) (d : Description) (rs : List Record) (w : Written) (ws : List Written) (after : List ℕ) : Type 0 where
  pub started : w ≡ Length 16
  pub each : AllDone ws
  pub bytes : after ≡ cleared b (table d rs) ++ drop (length b) c

pub records_written_again :
    (chip : Chip) (b c : List ℕ) (d : Description) (rs : List Record) (w : Written) (ws : List Written) (c₁ after : List ℕ)
    → Accepts (writing chip) b d rs
    → length b ≤ length c
    → Started chip c d w c₁
    → Appends chip c₁ rs ws after
    → Again b c d rs w ws after
records_written_again chip b c d rs w ws c₁ after a long st run =
    let k = a.keeps in
    let n = 16 + length (layouts rs) in
    let split = roomy_split (opening d n) (layouts rs) k.roomy_25 in
    let size : length b ≡ n = fits_length b (table d rs) a.fits ∙ length-append (opening d n) (layouts rs) in
    let answer : w ≡ Length 16 = st.answer ∙ starts chip d c (omega (arith, size, long)) (opening_roomy d n split.0) k.described in
    let left : c₁ ≡ standing d [] c = st.leaves ∙ ap (λ (v : Written). start_leaves v c d) answer in
    let more =
    appended chip d [] rs c ws after k.passed split.1 (omega (arith, size, long))
    (omega (arith, k.limit, length-append (opening d n) (layouts rs))) (subst (λ (l : List ℕ). Appends chip l rs ws after) left run) in
    record {
      started = answer;
      each = more.0;
      bytes =
          more.1
          ∙ ap (λ (l : List ℕ). l ++ drop n c) (written_again (writing chip) b d rs a)
          ∙ ap (λ (m : ℕ). cleared b (table d rs) ++ drop m c) (sym size);
    }
