-- No second number keeps the words of the exported calls: there is only one verdict, one description, and one element k with its
-- part. Nor do other bytes in a buffer or in numbers that were written.
-- Assumes nothing.
use Prim.Native.Nat.{ℕ}
use mathlib.Core.Path.{◌≡◌, sym, ◌∙◌, ap, subst}
use mathlib.Core.Bool.{Bool, true, false}
use mathlib.Core.List.{List}
use lib.ListN.{length}
use lib.Dec.{eqb}
use Rattle.format.specs.Slots.{Bytes}
use Rattle.format.specs.Layout.{id_of}
use Rattle.format.specs.Writing.{start_leaves, append_leaves}
use Rattle.format.specs.declared.records.Element.{Element}
use Rattle.format.specs.Answers.{Described}
use Rattle.format.specs.Answers.{Asked}
use Rattle.format.specs.Answers.{Gives as Gave, Refused as NotGiven}
use Rattle.format.specs.Answers.{Written}
use Rattle.format.proofs.Demand3.{unique}
use Rattle.format.proofs.Asking.{describes_unique, gives_unique}
use Rattle.reader.specs.PartPlace.{Placed}
use Rattle.reader.proofs.PartPlaces.{only_place}
use Rattle.esa.specs.Face.{packed, Checked, packed_asked, AskedFor, PartFor}
use Rattle.esa.specs.Fields.{packed_described, described_leaves, fields_leave, DescribedFor, FieldsFor}
use Rattle.esa.specs.Places.{packed_placed, packed_text, PlacedFor, TextPlaced, TextOf, TextAsked, TextFor}
use Rattle.esa.specs.Writing.{packed_written, RewrittenFor, RemovedFor, StartedFor, AppendedOne, AppendedAs, AppendedFor}
use Rattle.rewriting.proofs.Only.{only_rewrite}
use Rattle.removing.proofs.Only.{only_remove}
use Rattle.numbers.specs.From.{description_from, element_from}
use Rattle.std.specs.Prelude.{Option as Maybe, Some as Found, None as Unknown}
use Rattle.format.specs.declared.settings.Settings.{Settings}
use Rattle.format.specs.declared.pins.Chip.{Chip}

pub checked_unique : (σ : Settings) (b : List ℕ) (r r' : ℕ) → Bytes b → Checked σ b r → Checked σ b r' → r ≡ r'
checked_unique σ b r r' small c c' =
    c.number ∙ ap packed (unique σ b c.answer c'.answer small c.verdict c'.verdict) ∙ sym c'.number

pub asked_unique : (σ : Settings) (b : List ℕ) (k r r' : ℕ) → Bytes b → AskedFor σ b k r → AskedFor σ b k r' → r ≡ r'
asked_unique σ b k r r' small a a' =
    a.number
    ∙ ap packed_asked (gives_unique σ b k a.answer a'.answer a.part a'.part small a.gives a'.gives).0
    ∙ sym a'.number

pub part_unique : (σ : Settings) (b : List ℕ) (k r r' : ℕ) → Bytes b → PartFor σ b k r → PartFor σ b k r' → r ≡ r'
part_unique σ b k r r' small a a' =
    a.number
    ∙ ap (λ (l : List ℕ). length l) (gives_unique σ b k a.answer a'.answer a.part a'.part small a.gives a'.gives).1
    ∙ sym a'.number

pub described_unique :
    (σ : Settings) (b n : List ℕ) (r r' : ℕ) (after after' : List ℕ)
    → Bytes b
    → DescribedFor σ b n r after
    → DescribedFor σ b n r' after'
    → (r ≡ r') × (after ≡ after')
described_unique σ b n r r' after after' small d d' =
    let same = describes_unique σ b d.answer d'.answer small d.describes d'.describes in
    let leaves : Described → List ℕ = λ (a : Described). described_leaves σ.chip a n in
    (d.number ∙ ap packed_described same ∙ sym d'.number, d.leaves ∙ ap leaves same ∙ sym d'.leaves)

pub fields_unique :
    (σ : Settings) (b : List ℕ) (k : ℕ) (n : List ℕ) (r r' : ℕ) (after after' : List ℕ)
    → Bytes b
    → FieldsFor σ b k n r after
    → FieldsFor σ b k n r' after'
    → (r ≡ r') × (after ≡ after')
fields_unique σ b k n r r' after after' small f f' =
    let same = gives_unique σ b k f.answer f'.answer f.part f'.part small f.gives f'.gives in
    let by_answer : Asked → List ℕ = λ (a : Asked). fields_leave σ.chip a f.part n in
    let by_part : List ℕ → List ℕ = λ (p : List ℕ). fields_leave σ.chip f'.answer p n in (
      f.number ∙ ap packed_asked same.0 ∙ sym f'.number,
      f.leaves ∙ ap by_answer same.0 ∙ ap by_part same.1 ∙ sym f'.leaves,
    )

pub placed_unique : (σ : Settings) (b : List ℕ) (k r r' : ℕ) → Bytes b → PlacedFor σ b k r → PlacedFor σ b k r' → r ≡ r'
placed_unique σ b k r r' small p p' =
    p.number ∙ ap packed_placed (only_place σ b k p.answer p'.answer small p.gives p'.gives) ∙ sym p'.number

text_placed_unique : (σ : Settings) (b : List ℕ) (k r r' : ℕ) → Bytes b → TextPlaced σ b k r → TextPlaced σ b k r' → r ≡ r'
text_placed_unique σ b k r r' small t t' =
    let parts = (gives_unique σ b k t.beside t'.beside t.part t'.part small t.gives t'.gives).1 in
    let places = only_place σ b k t.place t'.place small t.placed t'.placed in
    t.number
    ∙ ap (λ (p : List ℕ). packed_text t.place p) parts
    ∙ ap (λ (x : Placed). packed_text x t'.part) places
    ∙ sym t'.number

text_asked_unique : (σ : Settings) (a : Asked) (b : List ℕ) (k r r' : ℕ) → Bytes b → TextAsked σ a b k r → TextAsked σ a b k r' → r ≡ r'
text_asked_unique σ (Gave e) b k r r' small t t' = go (eqb (id_of e) 0x0c) t t'
  where
    go : (t : Bool) → TextOf σ t b k r → TextOf σ t b k r' → r ≡ r'
    go true x y = text_placed_unique σ b k r r' small x y
    go false x y = x ∙ sym y
text_asked_unique σ (NotGiven j p) b k r r' small t t' = t ∙ sym t'

pub text_unique : (σ : Settings) (b : List ℕ) (k r r' : ℕ) → Bytes b → TextFor σ b k r → TextFor σ b k r' → r ≡ r'
text_unique σ b k r r' small t t' =
    let same = (gives_unique σ b k t.answer t'.answer t.part t'.part small t.gives t'.gives).0 in
    text_asked_unique σ t'.answer b k r r' small (subst (λ (a : Asked). TextAsked σ a b k r) same t.text) t'.text

-- esa_block, esa_pair, esa_entries, esa_entry, esa_colours and esa_colour promise an equation with one number
pub equal_unique : (v r r' : ℕ) → r ≡ v → r' ≡ v → r ≡ r'
equal_unique v r r' e e' = e ∙ sym e'

pub started_unique :
    (c : Chip) (b n : List ℕ) (r r' : ℕ) (after after' : List ℕ)
    → StartedFor c b n r after
    → StartedFor c b n r' after'
    → (r ≡ r') × (after ≡ after')
started_unique c b n r r' after after' s s' =
    let same : s.answer ≡ s'.answer = s.started.answer ∙ sym s'.started.answer in
    let leaves : Written → List ℕ = λ (w : Written). start_leaves w b (description_from n) in
    (s.number ∙ ap packed_written same ∙ sym s'.number, s.started.leaves ∙ ap leaves same ∙ sym s'.started.leaves)

one_unique :
    (c : Chip) (b : List ℕ) (e : Element) (p : List ℕ) (r r' : ℕ) (after after' : List ℕ)
    → AppendedOne c b e p r after
    → AppendedOne c b e p r' after'
    → (r ≡ r') × (after ≡ after')
one_unique c b e p r r' after after' a a' =
    let same : a.answer ≡ a'.answer = a.appended.answer ∙ sym a'.appended.answer in
    let leaves : Written → List ℕ = λ (w : Written). append_leaves w b e p in
    (a.number ∙ ap packed_written same ∙ sym a'.number, a.appended.leaves ∙ ap leaves same ∙ sym a'.appended.leaves)

as_unique :
    (c : Chip) (f : Maybe Element) (b p : List ℕ) (r r' : ℕ) (after after' : List ℕ)
    → AppendedAs c f b p r after
    → AppendedAs c f b p r' after'
    → (r ≡ r') × (after ≡ after')
as_unique c (Found e) b p r r' after after' a a' = one_unique c b e p r r' after after' a a'
as_unique c Unknown b p r r' after after' a a' = (a.0 ∙ sym a'.0, a.1 ∙ sym a'.1)

pub appended_unique :
    (c : Chip) (b : List ℕ) (id : ℕ) (n p : List ℕ) (r r' : ℕ) (after after' : List ℕ)
    → AppendedFor c b id n p r after
    → AppendedFor c b id n p r' after'
    → (r ≡ r') × (after ≡ after')
appended_unique c b id n p r r' after after' a a' =
    as_unique c (element_from id n) b p r r' after after' a.appended a'.appended

pub rewritten_unique :
    (chip : Chip) (b c : List ℕ) (r r' : ℕ) (after after' : List ℕ)
    → Bytes b
    → RewrittenFor chip b c r after
    → RewrittenFor chip b c r' after'
    → (r ≡ r') × (after ≡ after')
rewritten_unique chip b c r r' after after' small s s' =
    let q = only_rewrite chip b c s.answer s'.answer after after' small s.rewritten s'.rewritten in
    (s.number ∙ ap packed_written q.0 ∙ sym s'.number, q.1)

pub removed_unique :
    (chip : Chip) (b : List ℕ) (k r r' : ℕ) (after after' : List ℕ)
    → Bytes b
    → RemovedFor chip b k r after
    → RemovedFor chip b k r' after'
    → (r ≡ r') × (after ≡ after')
removed_unique chip b k r r' after after' small s s' =
    let q = only_remove chip b k small s.answer s'.answer after after' s.removed s'.removed in
    (s.number ∙ ap packed_written q.0 ∙ sym s'.number, q.1)
