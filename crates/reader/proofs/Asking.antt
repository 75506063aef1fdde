-- From a verdict to what the other calls answer: the refusal handed on, the description, element k and its part.
-- Assumes nothing.
use Prim.Native.Nat.{ℕ, zero, suc, ◌≤◌}
use native.Mathlib.Omega.{arith}
use mathlib.Core.Path.{◌≡◌, refl, sym, ◌∙◌, ap, subst}
use mathlib.Core.List.{List, [], ◌∷◌}
use mathlib.Core.Option.{none}
use lib.ListN.{length}
use Rattle.format.specs.Slots.{written, byte, Bytes}
use Rattle.format.specs.Records.{Record, element_of}
use Rattle.format.specs.Layout.{part}
use Rattle.format.specs.Answers.{number_of, value_of}
use Rattle.format.specs.Verdict.{Verdict, accepted}
use Rattle.format.specs.Decode.{read_description}
use Rattle.format.specs.Reader.{verdict_of}
use Rattle.format.specs.Asked.{nth, Describes, described, Gives, given, past}
use Rattle.format.specs.declared.records.Element.{Element as Case}
use Rattle.format.specs.declared.records.Description.{Description as Fields}
use Rattle.format.specs.Answers.{Answer}
use Rattle.format.specs.Answers.{Gives as Accepted, Refused}
use Rattle.format.specs.Answers.{Gives as Description}
use Rattle.format.specs.Answers.{Asked}
use Rattle.format.specs.Answers.{Gives as Element, Refused as NotGiven}
use Rattle.format.proofs.Theorem.{meets}
use Rattle.format.proofs.Strings.{given_text}
use Rattle.walking.specs.Walk.{Located}
use Rattle.walking.proofs.Left.{reads}
use Rattle.reader.specs.Answered.{GivesElement, GivesPart}
use Rattle.format.specs.declared.settings.Settings.{Settings}

-- the reader's function gives the verdict
pub verdict : (σ : Settings) (b : List ℕ) (a : Answer) → Bytes b → a ≡ verdict_of σ b → Verdict σ b a
verdict σ b a small e = rw e (meets σ b small)

-- a refusal of the table, as its number and its place are handed on
pub handed :
    (σ : Settings) (b : List ℕ) (a : Answer) {k p n q : ℕ} → Verdict σ b a → a ≡ Refused k p → (n ≡ number_of a) × (q ≡ value_of a)
    → Verdict σ b (Refused n q)
handed σ b a {n = n} {q = q} v e h =
    let i = h.0 ∙ ap number_of e in
    let j = h.1 ∙ ap value_of e in
    let same : a ≡ Refused n q = cc in
    subst (λ (x : Answer). Verdict σ b x) same v

-- the description
pub long : (σ : Settings) (b : List ℕ) {n : ℕ} → Verdict σ b (Accepted n) → 16 ≤ length b
long σ b (accepted d rs a) = (reads σ b d rs a).0

pub describes :
    (σ : Settings) (b : List ℕ) {n : ℕ} (d : Fields)
    → Verdict σ b (Accepted n)
    → d ≡ read_description σ.chip (byte b)
    → Describes σ b (Description d)
describes σ b d (accepted d' rs a) e =
    subst (λ (x : Fields). Describes σ b (Description x)) ((reads σ b d' rs a).1 ∙ sym e) (described d' rs a)

-- an element past the last
pub nth_past : (rs : List Record) (k : ℕ) → length rs ≤ k → nth rs k ≡ none
nth_past [] k h = refl
nth_past (r ∷ rs) zero h = absurd (omega arith)
nth_past (r ∷ rs) (suc k) h = nth_past rs k (omega arith)

pub gives_past : (σ : Settings) (b : List ℕ) (k : ℕ) {n : ℕ} → Verdict σ b (Accepted n) → n ≤ k → Gives σ b k (NotGiven 17 0) []
gives_past σ b k (accepted d rs a) h = past d rs a (nth_past rs k h)

-- a part, whatever stands beside it
pub gives_part : (σ : Settings) (b : List ℕ) (k : ℕ) (a : Asked) (p : List ℕ) → Gives σ b k a p → GivesPart σ b k p
gives_part σ b k a p g = record { beside = a; gives = g; text = given_text σ b k a p g }

-- element k
module _ (σ : Settings) (b : List ℕ) (k at : ℕ) (l : Located σ b k at) where
  gives_there : Gives σ b k (Element (element_of l.r)) (written (part l.r))
  gives_there = given l.d l.rs l.accepts l.is_nth

  pub element_there : {e : Case} → e ≡ element_of l.r → GivesElement σ b k (Element e)
  element_there e = record { beside = written (part l.r); gives = rw e gives_there }

  pub part_there : {p : List ℕ} → p ≡ written (part l.r) → GivesPart σ b k p
  part_there {p} e = gives_part σ b k (Element (element_of l.r)) p (rw e gives_there)
