-- What the call's words say of the table that is left: it is accepted, and the bytes behind it are what they were.
-- Assumes nothing.
use Prim.Native.Nat.{ℕ, ◌+◌}
use native.Mathlib.Omega.{arith}
use mathlib.Core.Path.{◌≡◌, refl, ◌∙◌, ap}
use mathlib.Core.Bool.{Bool, true, false, cond}
use mathlib.Core.List.{List}
use lib.ListN.{length, take, drop}
use lib.Seq.{take_at, drop_at}
use lib.Dec.{leb}
use Rattle.format.specs.Slots.{Bytes}
use Rattle.format.specs.Verdict.{Verdict}
use Rattle.format.specs.Writing.{writing}
use Rattle.format.specs.declared.pins.Chip.{Chip}
use Rattle.format.specs.Answers.{Gives as Accepted}
use Rattle.saving.specs.Saving.{taken, salvageable}
use Rattle.saving.specs.Lines.{new_table, new_text, answer}
use Rattle.saving.specs.Salvaged.{Done, Refused}
use Rattle.saving.proofs.Theorems.{kept, saved_accepted}
use Rattle.salvaging.specs.Salvages.{Salvages}

-- 'The output is always accepted', of the first n bytes of the buffer
pub record Left (c : Chip) (file out : List ℕ) (n : ℕ) (out' : List ℕ) : Type 0 where
  pub is : Verdict (writing c) (take n out') (Accepted (length (kept c file)))
  pub past_it : drop n out' ≡ drop n out

module _ (c : Chip) (file : List ℕ) (n m : ℕ) where
  done : (room : ℕ) → Done n m ≡ answer c file room → (salvageable c (taken file) ≡ true) × (length (new_table c file) ≡ n)
  unfolding answer
  done room e = go (salvageable c (taken file)) (leb (length (new_table c file)) room) e
    where
      go :
          (a b : Bool)
          → Done n m ≡ cond a (cond b (Done (length (new_table c file)) (length (new_text c file))) (Refused 16 0)) (Refused 24 0)
          → (a ≡ true) × (length (new_table c file) ≡ n)
      go true true e = (refl, cc)
      go true false e = let z : ◌≡◌ {A = ℕ} 0 1 = cc in absurd (omega arith)
      go false b e = let z : ◌≡◌ {A = ℕ} 0 1 = cc in absurd (omega arith)

  pub salvaged_accepted :
      (out lines out' lines' : List ℕ) → Bytes file → Salvages c file out lines (Done n m) out' lines' → Left c file out n out'
  salvaged_accepted out lines out' lines' small s =
      let h = done (length out) s.answers in
      let t = new_table c file in
      let rest = drop (0 + length t) out in
      let same : 0 + length t ≡ n = omega (arith, h.1) in
      let front : take n out' ≡ t = ap (take n) s.table ∙ take_at t rest n h.1 in
      record {
        is = rw front (saved_accepted c file small h.0);
        past_it = ap (drop n) s.table ∙ drop_at t rest n h.1 ∙ ap (λ (k : ℕ). drop k out) same;
      }
