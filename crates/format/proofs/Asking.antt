-- Asking for the description or for element k: there is an answer for every table, and no second.
-- Assumes nothing.
use Prim.Native.Nat.{ℕ, zero, suc}
use native.Mathlib.Omega.{arith}
use mathlib.Core.Path.{◌≡◌, refl, ap}
use mathlib.Core.List.{List, [], ◌∷◌, ◌++◌}
use mathlib.Core.Option.{Option, none, some}
use lib.ListN.{take, drop}
use Rattle.format.specs.Slots.{Bytes, written}
use Rattle.format.specs.Records.{Record, element_of}
use Rattle.format.specs.Layout.{part}
use Rattle.format.specs.Verdict.{Accepts, Verdict, accepted}
use Rattle.format.specs.Reader.{verdict_of}
use Rattle.format.specs.Asked.{nth, Describes, described, undescribed, Gives, given, past, ungiven}
use Rattle.format.specs.declared.records.Description.{Description as Fields}
use Rattle.format.specs.Answers.{Answer}
use Rattle.format.specs.Answers.{Gives as Accepted, Refused}
use Rattle.format.specs.Answers.{Described}
use Rattle.format.specs.Answers.{Gives as Description, Refused as NotDescribed}
use Rattle.format.specs.Answers.{Asked}
use Rattle.format.specs.Answers.{Gives as Element, Refused as NotGiven}
use Rattle.format.proofs.Theorem.{meets, only, one_list, accepts_passed}
use Rattle.format.specs.declared.settings.Settings.{Settings}

-- element k stands between those before it and those behind it
pub nth_split : (rs : List Record) (k : ℕ) {r : Record} → nth rs k ≡ some r → rs ≡ take k rs ++ r ∷ drop (suc k) rs
nth_split [] k h = let z : ◌≡◌ {A = ℕ} 0 1 = cc in absurd (omega arith)
nth_split (x ∷ rs) zero {r} h = let q : x ≡ r = cc in ap (λ (y : Record). y ∷ rs) q
nth_split (x ∷ rs) (suc k) h = ap (λ (l : List Record). x ∷ l) (nth_split rs k h)

module _ (s : Settings) where
  -- an accepted table has no refusal, and one list of records
  pub never_both : (b : List ℕ) {j p : ℕ} (d : Fields) (rs : List Record) → Bytes b → Accepts s b d rs → Verdict s b (Refused j p) → ⊥
  never_both b {j} {p} d rs small a v =
      let x = only s b _ small (accepted d rs a) in
      let y = only s b (Refused j p) small v in
      let z : ◌≡◌ {A = ℕ} 0 1 = cc in
      omega arith

  same_lists :
      (b : List ℕ) (d d' : Fields) (rs rs' : List Record) → Bytes b → Accepts s b d rs → Accepts s b d' rs' → (d ≡ d') × (rs ≡ rs')
  same_lists b d d' rs rs' small a a' = one_list s b d d' rs rs' small (accepts_passed s b d rs a) (accepts_passed s b d' rs' a')

  -- the refusals of one table are the same
  same_refusals :
      (b : List ℕ) {j p j' p' : ℕ} → Bytes b → Verdict s b (Refused j p) → Verdict s b (Refused j' p') → (j ≡ j') × (p ≡ p')
  same_refusals b {j} {p} {j'} {p'} small v v' =
      let x = only s b (Refused j p) small v in
      let y = only s b (Refused j' p') small v' in
      (cc, cc)

  -- the description
  pub describes_unique : (b : List ℕ) (r r' : Described) → Bytes b → Describes s b r → Describes s b r' → r ≡ r'
  describes_unique b r r' small (described d rs a) (described d' rs' a') =
      ap Description (same_lists b d d' rs rs' small a a').0
  describes_unique b r r' small (described d rs a) (undescribed v) = absurd (never_both b d rs small a v)
  describes_unique b r r' small (undescribed v) (described d rs a) = absurd (never_both b d rs small a v)
  describes_unique b r r' small (undescribed v) (undescribed v') = let q = same_refusals b small v v' in cc

  pub describes_some : (b : List ℕ) → Bytes b → (r : Described) × Describes s b r
  describes_some b small = go (verdict_of s b) (meets s b small)
    where
      go : (a : Answer) → Verdict s b a → (r : Described) × Describes s b r
      go (Accepted n) (accepted d rs c) = (Description d, described d rs c)
      go (Refused k p) v = (NotDescribed k p, undescribed v)

  -- element k and its part
  pub gives_unique :
      (b : List ℕ) (k : ℕ) (r r' : Asked) (bs bs' : List ℕ)
      → Bytes b
      → Gives s b k r bs
      → Gives s b k r' bs'
      → (r ≡ r') × (bs ≡ bs')
  gives_unique b k r r' bs bs' small (given {r = x} d rs a n) (given {r = x'} d' rs' a' n') =
      let l = (same_lists b d d' rs rs' small a a').1 in
      let m : nth rs k ≡ nth rs' k = ap (λ (l : List Record). nth l k) l in
      let q : x ≡ x' = cc in
      (ap (λ (y : Record). Element (element_of y)) q, ap (λ (y : Record). written (part y)) q)
  gives_unique b k r r' bs bs' small (given d rs a n) (past d' rs' a' n') =
      let l = (same_lists b d d' rs rs' small a a').1 in
      let m : nth rs k ≡ nth rs' k = ap (λ (l : List Record). nth l k) l in
      let z : ◌≡◌ {A = ℕ} 0 1 = cc in
      absurd (omega arith)
  gives_unique b k r r' bs bs' small (given d rs a n) (ungiven v) = absurd (never_both b d rs small a v)
  gives_unique b k r r' bs bs' small (past d rs a n) (given d' rs' a' n') =
      let l = (same_lists b d d' rs rs' small a a').1 in
      let m : nth rs k ≡ nth rs' k = ap (λ (l : List Record). nth l k) l in
      let z : ◌≡◌ {A = ℕ} 0 1 = cc in
      absurd (omega arith)
  gives_unique b k r r' bs bs' small (past d rs a n) (past d' rs' a' n') = (refl, refl)
  gives_unique b k r r' bs bs' small (past d rs a n) (ungiven v) = absurd (never_both b d rs small a v)
  gives_unique b k r r' bs bs' small (ungiven v) (given d rs a n) = absurd (never_both b d rs small a v)
  gives_unique b k r r' bs bs' small (ungiven v) (past d rs a n) = absurd (never_both b d rs small a v)
  gives_unique b k r r' bs bs' small (ungiven v) (ungiven v') = let q = same_refusals b small v v' in (cc, refl)

  pub gives_some : (b : List ℕ) (k : ℕ) → Bytes b → (r : Asked) × (bs : List ℕ) × Gives s b k r bs
  gives_some b k small = go (verdict_of s b) (meets s b small)
    where
      among_all :
          (d : Fields) (rs : List Record)
          → Accepts s b d rs
          → (o : Option Record)
          → nth rs k ≡ o
          → (r : Asked) × (bs : List ℕ) × Gives s b k r bs
      among_all d rs a none e = (NotGiven 17 0, [], past d rs a e)
      among_all d rs a (some x) e = (Element (element_of x), written (part x), given d rs a e)

      go : (a : Answer) → Verdict s b a → (r : Asked) × (bs : List ℕ) × Gives s b k r bs
      go (Accepted n) (accepted d rs c) = among_all d rs c (nth rs k) refl
      go (Refused j p) v = (NotGiven j p, [], ungiven v)
