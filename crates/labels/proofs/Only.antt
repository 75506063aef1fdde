-- No second outcome keeps the words of `find` and of `label`; nor a second result of `find`.
-- Assumes nothing.
use Prim.Native.Nat.{ℕ}
use native.Mathlib.Omega.{arith}
use mathlib.Core.Path.{◌≡◌, refl, sym, ◌∙◌, ap}
use mathlib.Core.List.{List}
use lib.ListN.{take}
use Rattle.std.specs.Prelude.{Result, Ok, Err}
use Rattle.format.specs.Slots.{Bytes}
use Rattle.format.specs.Records.{Record}
use Rattle.format.specs.Layout.{place_after}
use Rattle.format.specs.ZonesAndStrings.{role}
use Rattle.format.specs.Asked.{nth}
use Rattle.format.specs.declared.settings.Settings.{Settings}
use Rattle.format.specs.Answers.{Answered, Gives, Refused as RefusedTable, told}
use Rattle.format.specs.declared.answers.Refusal.{Refusal}
use Rattle.format.proofs.Demand3.{unique, only_one_list}
use Rattle.format.proofs.Asking.{never_both}
use Rattle.format.proofs.Refusals.{told_once}
use Rattle.labels.specs.Called.{Source, Text, Lent, Refused, sourced}
use Rattle.labels.specs.declared.Source.{Source as Place}
use Rattle.labels.specs.declared.Source.TheVariants.{Text as TextAt, Lent as LentName}
use Rattle.labels.specs.Called.{Called, called_of, Calls, titled, past, untitled, stands_at, bytes_of, Found, Labelled}

-- what a result says of a label is said by no other result
abbrev answered : Source → Answered Place
answered (Text p n) = Gives (TextAt p n)
answered Lent = Gives LentName
answered (Refused k p) = RefusedTable k p

sourced_told : (r : Result Place Refusal) → answered (sourced r) ≡ told r
sourced_told (Ok (TextAt p n)) = refl
sourced_told (Ok LentName) = refl
sourced_told (Err r) = refl

pub sourced_once : (r q : Result Place Refusal) → sourced r ≡ sourced q → r ≡ q
sourced_once r q e = told_once r q (sym (sourced_told r) ∙ ap answered e ∙ sourced_told q)

module _ (σ : Settings) (b : List ℕ) (k : ℕ) (small : Bytes b) where
  pub only_called : (c c' : Called) → Calls σ b k c → Calls σ b k c' → c ≡ c'
  only_called c c' (titled {r = r} d rs a n) (titled {r = r'} d' rs' a' n') =
      let l = (only_one_list σ b d d' rs rs' small a a').1 in
      let m : nth rs k ≡ nth rs' k = ap (λ (x : List Record). nth x k) l in
      let q : r ≡ r' = cc in
      ap (λ (x : List Record). called_of x (place_after (take k x)) (role r)) l
      ∙ ap (λ (x : Record). called_of rs' (place_after (take k rs')) (role x)) q
  only_called c c' (titled d rs a n) (past d' rs' a' n') =
      let l = (only_one_list σ b d d' rs rs' small a a').1 in
      let m : nth rs k ≡ nth rs' k = ap (λ (x : List Record). nth x k) l in
      let z : ◌≡◌ {A = ℕ} 0 1 = cc in
      absurd (omega arith)
  only_called c c' (titled d rs a n) (untitled v) = absurd (never_both σ b d rs small a v)
  only_called c c' (past d rs a n) (titled d' rs' a' n') =
      let l = (only_one_list σ b d d' rs rs' small a a').1 in
      let m : nth rs k ≡ nth rs' k = ap (λ (x : List Record). nth x k) l in
      let z : ◌≡◌ {A = ℕ} 0 1 = cc in
      absurd (omega arith)
  only_called c c' (past d rs a n) (past d' rs' a' n') = refl
  only_called c c' (past d rs a n) (untitled v) = absurd (never_both σ b d rs small a v)
  only_called c c' (untitled v) (titled d rs a n) = absurd (never_both σ b d rs small a v)
  only_called c c' (untitled v) (past d rs a n) = absurd (never_both σ b d rs small a v)
  only_called c c' (untitled {j = j} {p = p} v) (untitled {j = j'} {p = p'} v') =
      let q = unique σ b (RefusedTable j p) (RefusedTable j' p') small v v' in
      cc

  pub only_find : (r r' : Source) → Found σ b k r → Found σ b k r' → r ≡ r'
  only_find r r' f f' = f.place ∙ ap stands_at (only_called f.called f'.called f.calls f'.calls) ∙ sym f'.place

  pub only_find_result : (r r' : Result Place Refusal) → Found σ b k (sourced r) → Found σ b k (sourced r') → r ≡ r'
  only_find_result r r' f f' = sourced_once r r' (only_find (sourced r) (sourced r') f f')

  pub only_label : (name p p' : List ℕ) → Labelled σ b k name p → Labelled σ b k name p' → p ≡ p'
  only_label name p p' f f' = f.same ∙ ap (bytes_of name) (only_called f.called f'.called f.calls f'.calls) ∙ sym f'.same
