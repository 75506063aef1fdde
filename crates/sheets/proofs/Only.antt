-- What the calls leave, by the list or with a refusal; each number is its claimant's; and no second outcome keeps the words.
-- Assumes nothing.
use Prim.Native.Nat.{ℕ, zero, suc, ◌+◌, ◌<◌}
use native.Mathlib.Omega.{arith}
use native.Mathlib.Nat.{add-zero}
use mathlib.Core.Path.{◌≡◌, refl, sym, ◌∙◌, ap, subst}
use mathlib.Core.Bool.{Bool, true, false, cond}
use mathlib.Core.List.{List, [], ◌∷◌, map}
use lib.ListN.{length, get_or}
use lib.Seq.{ext_get_or}
use lib.Dec.{eqb}
use borrow.Author.Tests.{eqb-true}
use Rattle.format.specs.Slots.{Bytes}
use Rattle.format.specs.Records.{Record}
use Rattle.format.specs.Pins.{every}
use Rattle.format.specs.Verdict.{Verdict, accepted}
use Rattle.format.specs.declared.settings.Settings.{Settings}
use Rattle.format.specs.declared.records.Description.{Description}
use Rattle.format.specs.Answers.{Answer}
use Rattle.format.specs.Answers.{Gives as Accepted, Refused}
use Rattle.format.proofs.Asking.{never_both}
use Rattle.format.proofs.Demand3.{unique, only_one_list}
use Rattle.pinsheet.specs.Sheet.{Claimant, free, fault, place}
use Rattle.sheets.specs.Lines.{number_of, claimant_of, read_from, read, Lines, Filled, Leaves, filled, kept}

module _ (σ : Settings) (b : List ℕ) (f : Description → List Record → List Claimant) (old : List ℕ) where
  pub leaves : (a : Answer) (new : List ℕ) → Bytes b → Verdict σ b a → Filled σ b f new → Leaves σ b f old a new
  leaves a new small v w =
      let same = unique σ b (Accepted (length w.rs)) a small (accepted w.d w.rs w.accepts) v in
      subst (λ (x : Answer). Leaves σ b f old x new) same (filled w)

  pub keeps : (a : Answer) {k p : ℕ} → Verdict σ b a → a ≡ Refused k p → Leaves σ b f old a old
  keeps a v e = subst (λ (x : Answer). Leaves σ b f old x old) (sym e) (kept (subst (λ (x : Answer). Verdict σ b x) e v))

-- a number is its claimant's
number_again : (n : ℕ) → number_of (claimant_of n) ≡ n
number_again n = go (eqb n 65535) (eqb n 65534) refl refl
  where
    go : (s t : Bool) → eqb n 65535 ≡ s → eqb n 65534 ≡ t → number_of (cond s free (cond t fault (place n))) ≡ n
    go true t p q = sym (eqb-true n 65535 p)
    go false true p q = sym (eqb-true n 65534 q)
    go false false p q = refl

again_at : (pins : List ℕ) (j k : ℕ) (ns : List ℕ) → k < length pins → get_or (map number_of (read_from j pins ns)) k 0 ≡ get_or ns (j + k) 0
again_at [] j k ns h = absurd (omega (arith, h))
again_at (p ∷ pins) j zero ns h = number_again (get_or ns j 0) ∙ ap (λ (n : ℕ). get_or ns n 0) (sym (add-zero j))
again_at (p ∷ pins) j (suc k) ns h =
    again_at pins (suc j) k ns (omega (arith, h)) ∙ ap (λ (n : ℕ). get_or ns n 0) {x = suc j + k} {y = j + suc k} (omega arith)

as_many : (pins : List ℕ) (j : ℕ) (ns : List ℕ) → length (map number_of (read_from j pins ns)) ≡ length pins
as_many [] j ns = refl
as_many (p ∷ pins) j ns = ap suc (as_many pins (suc j) ns)

-- EACH NUMBER IS DETERMINED by the sheet
pub as_numbers : (sh : List Claimant) (ns : List ℕ) → Lines sh ns → ns ≡ map number_of sh
unfolding read
as_numbers sh ns l =
    let n = as_many every 0 ns in
    sym
    (ext_get_or 0 (map number_of (read ns)) ns (n ∙ sym l.size)
    (λ k h. again_at every 0 k ns (omega (arith, h, n)) ∙ ap (λ (m : ℕ). get_or ns m 0) {x = 0 + k} {y = k} (omega arith)))
    ∙ ap (map number_of) l.lines

-- NO SECOND OUTCOME keeps the words of `make`, nor of `forward`
pub only_leaves :
    (σ : Settings) (b : List ℕ) (f : Description → List Record → List Claimant) (old : List ℕ) (r r' : Answer) (new new' : List ℕ)
    → Bytes b
    → Leaves σ b f old r new
    → Leaves σ b f old r' new'
    → (r ≡ r') × (new ≡ new')
only_leaves σ b f old r r' new new' small (filled w) (filled w') =
    let same = only_one_list σ b w.d w'.d w.rs w'.rs small w.accepts w'.accepts in
    let sheets : f w.d w.rs ≡ f w'.d w'.rs =
    ap (λ (d : Description). f d w.rs) same.0 ∙ ap (f w'.d) same.1 in (
      ap (λ (l : List Record). Accepted (length l)) same.1,
      as_numbers _ new w.left ∙ ap (map number_of) sheets ∙ sym (as_numbers _ new' w'.left),
    )
only_leaves σ b f old r r' new new' small (filled w) (kept v) = absurd (never_both σ b w.d w.rs small w.accepts v)
only_leaves σ b f old r r' new new' small (kept v) (filled w) = absurd (never_both σ b w.d w.rs small w.accepts v)
only_leaves σ b f old r r' new new' small (kept {k = k} {p = p} v) (kept {k = k'} {p = p'} v') =
    (unique σ b (Refused k p) (Refused k' p') small v v', refl)
