-- The buffer while a table is written: the table so far and the buffer's own bytes behind it, from start to the last append.
-- Assumes nothing.
use Prim.Native.Nat.{ℕ, ◌+◌, ◌≤◌}
use native.Mathlib.Omega.{arith}
use mathlib.Core.Path.{◌≡◌, refl, sym, ◌∙◌, ap, subst}
use mathlib.Core.Bool.{true}
use mathlib.Core.List.{List, [], ◌∷◌, ◌++◌, append-nil, append_assoc}
use mathlib.Core.Option.{none}
use lib.ListN.{length, take, drop, length-append, length-drop}
use lib.Seq.{drop-drop, take_at, drop_at}
use borrow.Author.Tests.{le-leb}
use Rattle.format.specs.Slots.{Slot, word, written, all_roomy}
use Rattle.format.specs.Records.{Record, element_of}
use Rattle.format.specs.Layout.{opening, fixed, part, layout, layouts, table}
use Rattle.format.specs.Table.{element_breaks, PassKept}
use Rattle.format.specs.Verdict.{stated}
use Rattle.format.specs.Writing.{writing, element_slots, new_length, append_answer, append_leaves, overwritten}
use Rattle.format.specs.declared.records.Description.{Description}
use Rattle.format.specs.Answers.{Written}
use Rattle.format.specs.Answers.{Gives as Length}
use Rattle.format.proofs.Lengths.{layouts_append, layouts_snoc}
use Rattle.format.proofs.Written.{length_written}
use Rattle.format.proofs.Whole.{written_append}
use Rattle.format.proofs.Slots.{roomy_split}
use Rattle.demands.proofs.Assembled.{body_roomy, kept_break, slots_written, slots_length}
use Rattle.demands.specs.Runs.{standing, Appends, AllDone}
use Rattle.format.specs.declared.pins.Chip.{Chip}

-- the table so far
table_length : (d : Description) (rs : List Record) → length (written (table d rs)) ≡ 16 + length (layouts rs)
table_length d rs = length_written (table d rs) ∙ length-append (opening d (16 + length (layouts rs))) (layouts rs)

pub standing_length :
    (d : Description) (rs : List Record) (c : List ℕ)
    → 16 + length (layouts rs) ≤ length c
    → length (standing d rs c) ≡ length c
standing_length d rs c h =
    omega (
      arith,
      length-append (written (table d rs)) (drop (16 + length (layouts rs)) c),
      table_length d rs,
      length-drop (16 + length (layouts rs)) c,
    )

standing_stated : (d : Description) (rs : List Record) (c : List ℕ) → stated (standing d rs c) ≡ 16 + length (layouts rs)
standing_stated d rs c = omega arith

-- one element overwritten behind the table, and the new length in bytes 1-2
behind : (w x c : List ℕ) (m : ℕ) → length w ≡ m → overwritten m x (w ++ c) ≡ w ++ (x ++ drop (length x) c)
behind w x c m e =
    let a : take m (w ++ c) ≡ w = take_at w c m e in
    let b : drop (m + length x) (w ++ c) ≡ drop (length x) c =
    sym (drop-drop (length x) m (w ++ c)) ∙ ap (λ (l : List ℕ). drop (length x) l) (drop_at w c m e) in
    ap (λ (l : List ℕ). (l ++ x) ++ drop (m + length x) (w ++ c)) a ∙ ap (λ (l : List ℕ). (w ++ x) ++ l) b
    ∙ append_assoc w x (drop (length x) c)

relength :
    (d : Description) (m n : ℕ) (t : List ℕ)
    → overwritten 1 (written (word n)) (written (opening d m) ++ t) ≡ written (opening d n) ++ t
relength d m n t = refl

rejoined : (o l x z : List ℕ) → o ++ (l ++ (x ++ z)) ≡ (o ++ (l ++ x)) ++ z
rejoined o l x z = ap (λ (t : List ℕ). o ++ t) (sym (append_assoc l x z)) ∙ sym (append_assoc o (l ++ x) z)

snoc_written :
    (d : Description) (rs : List Record) (r : Record) (n : ℕ)
    → n ≡ 16 + length (layouts (rs ++ r ∷ []))
    → written (opening d n) ++ (written (layouts rs) ++ written (layout r)) ≡ written (table d (rs ++ r ∷ []))
snoc_written d rs r n e =
    ap (λ (l : List ℕ). written (opening d n) ++ l) (sym (written_append (layouts rs) (layout r)))
    ∙ ap (λ (l : List Slot). written (opening d n) ++ written l) (sym (layouts_snoc rs r))
    ∙ ap (λ (m : ℕ). written (opening d m) ++ written (layouts (rs ++ r ∷ []))) e
    ∙ sym (written_append (opening d (16 + length (layouts (rs ++ r ∷ [])))) (layouts (rs ++ r ∷ [])))

snoc_length :
    (rs : List Record) (r : Record)
    → 16 + length (layouts rs) + length (written (layout r)) ≡ 16 + length (layouts (rs ++ r ∷ []))
snoc_length rs r =
    omega (arith, ap length (layouts_snoc rs r), length-append (layouts rs) (layout r), length_written (layout r))

pub leaves_standing :
    (d : Description) (rs : List Record) (r : Record) (c : List ℕ) (n : ℕ)
    → n ≡ 16 + length (layouts (rs ++ r ∷ []))
    → append_leaves (Length n) (standing d rs c) (element_of r) (written (part r)) ≡ standing d (rs ++ r ∷ []) c
leaves_standing d rs r c n e =
    let m = 16 + length (layouts rs) in
    let x = written (layout r) in
    let o = written (opening d m) in
    let l = written (layouts rs) in
    let z = drop (length x) (drop m c) in
    let inner : overwritten m x (standing d rs c) ≡ o ++ (l ++ (x ++ z)) =
    behind (written (table d rs)) x (drop m c) m (table_length d rs)
    ∙ ap (λ (w : List ℕ). w ++ (x ++ z)) (written_append (opening d m) (layouts rs))
    ∙ append_assoc o l (x ++ z) in
    let rest : z ≡ drop (16 + length (layouts (rs ++ r ∷ []))) c =
    drop-drop (length x) m c ∙ ap (λ (k : ℕ). drop k c) (snoc_length rs r) in
    ap (λ (k : ℕ). overwritten 1 (written (word n))
    (overwritten k (written (element_slots (element_of r) (written (part r)))) (standing d rs c))) (standing_stated d rs c)
    ∙ ap (λ (y : List ℕ). overwritten 1 (written (word n)) (overwritten m y (standing d rs c))) (slots_written r)
    ∙ ap (λ (b : List ℕ). overwritten 1 (written (word n)) b) inner
    ∙ relength d m n (l ++ (x ++ z))
    ∙ rejoined (written (opening d n)) l x z
    ∙ ap (λ (w : List ℕ). w ++ z) (snoc_written d rs r n e)
    ∙ ap (λ (w : List ℕ). written (table d (rs ++ r ∷ [])) ++ w) rest

module _ (chip : Chip) where
  -- append's answer to a record of the list: the new length
  pub answers_length :
      (d : Description) (rs : List Record) (r : Record) (c : List ℕ)
      → element_breaks (writing chip) rs r ≡ none
      → all_roomy (layout r) ≡ true
      → 16 + length (layouts (rs ++ r ∷ [])) ≤ length c
      → 16 + length (layouts (rs ++ r ∷ [])) ≤ 4096
      → append_answer chip (standing d rs c) (element_of r) (written (part r)) ≡ Length (16 + length (layouts (rs ++ r ∷ [])))
  unfolding append_answer
  answers_length d rs r c h k long top =
      let b = standing d rs c in
      let m = 16 + length (layouts rs) in
      let g : length (layouts (rs ++ r ∷ [])) ≡ length (layouts rs) + length (layout r) =
      ap length (layouts_snoc rs r) ∙ length-append (layouts rs) (layout r) in
      let s = standing_stated d rs c in
      let q = roomy_split (fixed (element_of r)) (part r) (body_roomy r k) in
      let lb : length b ≡ length c = standing_length d rs c (omega (arith, g, long)) in
      let new : new_length b (element_of r) (written (part r)) ≡ 16 + length (layouts (rs ++ r ∷ [])) =
      omega (arith, s, slots_length r, g) in
      rw (
        le-leb 16 (length b) (omega (arith, lb, g, long)),
        le-leb 16 (stated b) (omega (arith, s)),
        le-leb (stated b) 4096 (omega (arith, s, g, top)),
        le-leb (stated b) (length b) (omega (arith, s, lb, g, long)),
        q.0,
        kept_break (writing chip) rs r h q.1,
        new,
        le-leb (16 + length (layouts (rs ++ r ∷ []))) (length b) (omega (arith, lb, long)),
        le-leb (16 + length (layouts (rs ++ r ∷ []))) 4096 top,
      ) refl

-- all records of the list, each in turn
rejoin : (before : List Record) (r : Record) (rs : List Record) → before ++ r ∷ rs ≡ (before ++ r ∷ []) ++ rs
rejoin before r rs = sym (append_assoc before (r ∷ []) rs)

pub appended :
    (chip : Chip) (d : Description) (before rs : List Record) (c : List ℕ) (ws : List Written) (after : List ℕ)
    → PassKept (writing chip) before rs
    → all_roomy (layouts rs) ≡ true
    → 16 + length (layouts (before ++ rs)) ≤ length c
    → 16 + length (layouts (before ++ rs)) ≤ 4096
    → Appends chip (standing d before c) rs ws after
    → AllDone ws × (after ≡ standing d (before ++ rs) c)
appended chip d before [] c [] after k h long top run =
    (tt, sym run ∙ ap (λ (l : List Record). standing d l c) (sym (append-nil before)))
appended chip d before [] c (w ∷ ws) after k h long top run = absurd run
appended chip d before (r ∷ rs) c [] after k h long top run = absurd run
appended chip d before (r ∷ rs) c (w ∷ ws) after k h long top run =
    let next = before ++ r ∷ [] in
    let split = roomy_split (layout r) (layouts rs) h in
    let size : length (layouts (before ++ r ∷ rs)) ≡ length (layouts next) + length (layouts rs) =
    ap (λ (l : List Record). length (layouts l)) (rejoin before r rs)
    ∙ ap length (layouts_append next rs)
    ∙ length-append (layouts next) (layouts rs) in
    let n = 16 + length (layouts next) in
    let e = element_of r in
    let p = written (part r) in
    let answer : w ≡ Length n =
    run.1.answer ∙ answers_length chip d before r c k.1 split.0 (omega (arith, size, long)) (omega (arith, size, top)) in
    let leaves : run.0 ≡ standing d next c =
    run.1.leaves
    ∙ ap (λ (v : Written). append_leaves v (standing d before c) e p) answer
    ∙ leaves_standing d before r c n refl in
    let more =
    appended chip d next rs c ws after k.2 split.1
    (subst (λ (l : List Record). 16 + length (layouts l) ≤ length c) (rejoin before r rs) long)
    (subst (λ (l : List Record). 16 + length (layouts l) ≤ 4096) (rejoin before r rs) top)
    (subst (λ (l : List ℕ). Appends chip l rs ws after) leaves run.2) in
    (((n, answer), more.0), more.1 ∙ ap (λ (l : List Record). standing d l c) (sym (rejoin before r rs)))
