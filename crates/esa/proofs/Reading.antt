-- The reader's calls over numbers: no place is over 4,096, and what a match told of an answer goes into the call's words.
-- Assumes nothing.
use Prim.Native.Nat.{ℕ, ◌≤◌}
use native.Mathlib.Omega.{arith}
use mathlib.Core.Path.{◌≡◌, refl, sym, ◌∙◌, subst}
use mathlib.Core.List.{List}
use lib.ListN.{length}
use borrow.Author.Tests.{eq-eqb, ne_eqb}
use Rattle.format.specs.Slots.{Bytes}
use Rattle.format.specs.Layout.{id_of}
use Rattle.format.specs.Answers.{place_of}
use Rattle.format.specs.Asked.{Describes, described, undescribed, Gives}
use Rattle.format.specs.declared.records.Element.{Element as Case}
use Rattle.format.specs.Answers.{Refused as RefusedTable}
use Rattle.format.specs.Answers.{Described}
use Rattle.format.specs.Answers.{Asked}
use Rattle.format.specs.Answers.{Gives as Element, Refused as NotGiven}
use Rattle.format.proofs.Asking.{gives_unique}
use Rattle.format.proofs.Strings.{given_text}
use Rattle.reader.specs.Answered.{GivesElement, GivesPart}
use Rattle.reader.specs.PartPlace.{GivesPlace}
use Rattle.reader.specs.PartPlace.{Placed}
use Rattle.reader.specs.PartPlace.{At, Refused}
use Rattle.reader.proofs.Bounds.{value_bound, place_bound}
use Rattle.reader.proofs.PartPlaces.{placed_bound, part_bound}
use Rattle.esa.specs.Face.{packs, packed_asked}
use Rattle.esa.specs.Fields.{packed_described, described_leaves, fields_leave, DescribedFor, FieldsFor}
use Rattle.esa.specs.Places.{packed_placed, PlacedFor, packed_text, TextPlaced, TextAsked, TextFor}
use Rattle.format.specs.declared.settings.Settings.{Settings}

-- the description
describes_bound : (σ : Settings) (b : List ℕ) (a : Described) → Describes σ b a → place_of a ≤ 4096
describes_bound σ b a (described d rs c) = omega arith
describes_bound σ b a (undescribed {j = j} {p = p} v) = value_bound σ b (RefusedTable j p) v

module _ (σ : Settings) (b : List ℕ) (a a' : Described) (h : Describes σ b a) (is : a ≡ a') where
  pub describes_as : Describes σ b a'
  describes_as = subst (λ (x : Described). Describes σ b x) is h

  pub described_bound : place_of a' ≤ 4096
  described_bound = describes_bound σ b a' describes_as

  pub described_for :
      (n : List ℕ) (r : ℕ) (after : List ℕ) → r ≡ packed_described a' → after ≡ described_leaves σ.chip a' n → DescribedFor σ b n r after
  described_for n r after m l = record { answer = a'; describes = describes_as; number = m; leaves = l }

-- element k
module _ (σ : Settings) (b : List ℕ) (k : ℕ) (a a' : Asked) (g : GivesElement σ b k a) (is : a ≡ a') where
  pub gives_as : GivesElement σ b k a'
  gives_as = subst (λ (x : Asked). GivesElement σ b k x) is g

  pub asked_bound : place_of a' ≤ 4096
  asked_bound = place_bound σ b k a' gives_as.beside gives_as.gives

  -- with the part that was asked for by itself
  pub gives_beside : (p : List ℕ) → Bytes b → GivesPart σ b k p → Gives σ b k a' p
  gives_beside p small h =
      let q = (gives_unique σ b k a' h.beside gives_as.beside p small gives_as.gives h.gives).0 in
      subst (λ (x : Asked). Gives σ b k x p) (sym q) h.gives

  pub fields_for :
      (p n : List ℕ) (r : ℕ) (after : List ℕ)
      → Gives σ b k a' p
      → r ≡ packed_asked a'
      → after ≡ fields_leave σ.chip a' p n
      → FieldsFor σ b k n r after
  fields_for p n r after h m l = record { answer = a'; part = p; gives = h; number = m; leaves = l }

  pub text_for : (r : ℕ) → TextAsked σ a' b k r → TextFor σ b k r
  text_for r t =
      record {
        answer = a';
        part = gives_as.beside;
        gives = gives_as.gives;
        text = t;
        well = given_text σ b k a' gives_as.beside gives_as.gives;
      }

-- the place of its part, and of its text
module _ (σ : Settings) (b : List ℕ) (k : ℕ) (x x' : Placed) (g : GivesPlace σ b k x) (is : x ≡ x') where
  pub place_as : GivesPlace σ b k x'
  place_as = subst (λ (p : Placed). GivesPlace σ b k p) is g

  pub placed_for : (r : ℕ) → r ≡ packed_placed x' → PlacedFor σ b k r
  placed_for r m = record { answer = x'; gives = place_as; number = m }

  pub text_placed : (p : List ℕ) (r : ℕ) → GivesPart σ b k p → r ≡ packed_text x' p → TextPlaced σ b k r
  text_placed p r h m =
      record { beside = h.beside; part = p; gives = h.gives; place = x'; placed = place_as; number = m }

pub at_bound : (σ : Settings) (b : List ℕ) (k : ℕ) (x : Placed) {p n : ℕ} → GivesPlace σ b k x → x ≡ At p n → (p ≤ 4096) × (n ≤ 4096)
at_bound σ b k x {p} {n} g is = let h = placed_bound σ b k p n (place_as σ b k x (At p n) g is) in omega arith

pub refused_bound : (σ : Settings) (b : List ℕ) (k : ℕ) (x : Placed) {j p : ℕ} → GivesPlace σ b k x → x ≡ Refused j p → p ≤ 4096
refused_bound σ b k x {j} {p} g is =
    let h = place_as σ b k x (Refused j p) g is in
    place_bound σ b k (NotGiven j p) h.beside h.gives

pub refused_text :
    (σ : Settings) (b : List ℕ) (k : ℕ) (x : Placed) {j p : ℕ} (r : ℕ) → GivesPlace σ b k x → x ≡ Refused j p → r ≡ packs j p
    → TextPlaced σ b k r
refused_text σ b k x {j} {p} r g is m =
    let h = place_as σ b k x (Refused j p) g is in
    record { beside = NotGiven j p; part = h.beside; gives = h.gives; place = Refused j p; placed = h; number = m }

pub length_bound : (σ : Settings) (b : List ℕ) (k : ℕ) (p : List ℕ) → GivesPart σ b k p → length p ≤ 4096
length_bound σ b k p h = part_bound σ b k h.beside p h.gives

-- the text of an element by its identifier
module _ (σ : Settings) (b : List ℕ) (k : ℕ) (a : Asked) {e : Case} {id : ℕ} (g : GivesElement σ b k a) (is : a ≡ Element e)
    (h : id ≡ id_of e) where
  pub string_for : {r : ℕ} → id ≡ 12 → TextPlaced σ b k r → TextFor σ b k r
  string_for {r} q t = text_for σ b k a (Element e) g is r (rw (eq-eqb (id_of e) 12 (sym h ∙ q)) t)

  pub not_string_for : (id ≡ 12 → ⊥) → TextFor σ b k 0
  not_string_for q = text_for σ b k a (Element e) g is 0 (rw (ne_eqb (id_of e) 12 (λ x. q (h ∙ x))) refl)
