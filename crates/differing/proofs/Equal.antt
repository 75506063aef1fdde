-- 'No lines exactly when the records are equal.'
-- Assumes nothing.
use Prim.Native.Nat.{ℕ, ◌+◌, ◌/◌, ◌%◌}
use native.Mathlib.Omega.{arith}
use mathlib.Core.Path.{◌≡◌, refl, sym, ◌∙◌, ap, subst}
use mathlib.Core.Logic.{◌↔◌}
use mathlib.Core.Bool.{Bool, true, false, cond}
use mathlib.Core.List.{List, [], ◌∷◌, ◌++◌, map}
use lib.ListN.{length, length-append, length-map}
use lib.Dec.{eqb}
use borrow.Author.Tests.{eqb-true}
use Rattle.format.specs.Slots.{Fits, whole, word, written, all_roomy}
use Rattle.format.specs.Records.{Record, element_of}
use Rattle.format.specs.Layout.{id_of, fixed, part, body, layout, layouts, opening, table}
use Rattle.format.specs.Rules.{pinned}
use Rattle.format.specs.Table.{PassKept, Keeps}
use Rattle.format.specs.declared.pins.Chip.{Chip}
use Rattle.format.specs.declared.settings.Settings.{Settings}
use Rattle.format.specs.declared.records.Description.{Description}
use Rattle.format.specs.declared.records.Element.{Element}
use Rattle.format.specs.declared.records.Element.TheVariants.{Digital, Analogue, Fan, Led, Water, Pump, Voltage, Current, Controller}
use Rattle.format.specs.declared.records.Element.TheVariants.{Tachometer, Zone, Text, External, Rgb}
use Rattle.format.proofs.Slots.{roomy_split}
use Rattle.format.proofs.Kept.{own_kept, own_unbroken, description_kept}
use Rattle.format.proofs.Written.{written_fits, written_bytes, length_written}
use Rattle.format.proofs.Whole.{written_append}
use Rattle.format.proofs.Demand3.{only_one_list}
use Rattle.spelling.specs.Spelling.{decimal, hex_pair}
use Rattle.differing.specs.Fields.{shown, hex, contents, described, texts, own_names, description_names, element_names}
use Rattle.differing.specs.Differences.{difference, differing, kind, paired, elementwise, descriptionwise, differences, lines}
use Rattle.differing.proofs.Nothing.{append_nothing, differing_nothing, differences_self, lines_nothing}
use Rattle.differing.proofs.Tells.{AllIn, contents_tell, hex_tells}
use Rattle.differing.proofs.Ranges.{rooms, contents_in, described_in}
use Rattle.differing.proofs.Determined.{bytes_from, opening_from, element_bytes, opening_bytes}

-- there are as many names as fields
pub contents_length : (e : Element) → length (contents e) ≡ length (own_names (id_of e))
contents_length (Digital d) = refl
contents_length (Analogue a) = refl
contents_length (Fan f) = refl
contents_length (Led l) = refl
contents_length (Water w) = refl
contents_length (Pump f) = refl
contents_length (Voltage v) = refl
contents_length (Current c) = refl
contents_length (Controller d) = refl
contents_length (Tachometer d) = refl
contents_length Zone = refl
contents_length Text = refl
contents_length (External x) = refl
contents_length (Rgb r) = refl

texts_length : (r : Record) → length (texts r) ≡ length (element_names (kind r))
texts_length r =
    let cs = contents (element_of r) in
    omega (
      arith,
      length-append (map shown cs) (hex (written (part r)) ∷ []),
      length-map cs shown,
      contents_length (element_of r),
      length-append (own_names (kind r)) ("variable part" ∷ []),
    )

-- what is used of a record that keeps the rules: 25 and 10
pub record Fair (c : Chip) (r : Record) : Type 0 where
  pub fixed_roomy : all_roomy (fixed (element_of r)) ≡ true
  pub part_roomy : all_roomy (part r) ≡ true
  pub pins : pinned c r ≡ true

abbrev pub AllFair : Chip → List Record → Type 0
AllFair c [] = Unit {0}
AllFair c (r ∷ rs) = Fair c r × AllFair c rs

body_roomy : (r : Record) → all_roomy (layout r) ≡ true → all_roomy (body r) ≡ true
body_roomy r h =
    (roomy_split (whole (id_of (element_of r)) ∷ word (3 + length (body r))) (body r) h).1

all_fair : (s : Settings) (before rs : List Record) → all_roomy (layouts rs) ≡ true → PassKept s before rs → AllFair s.chip rs
all_fair s before [] h k = tt
all_fair s before (r ∷ rs) h k =
    let p = roomy_split (layout r) (layouts rs) h in
    let q = roomy_split (fixed (element_of r)) (part r) (body_roomy r p.0) in
    let o = own_kept s r (own_unbroken s before r k.1) in
    (record { fixed_roomy = q.0; part_roomy = q.1; pins = o.pins_10 }, all_fair s (before ++ r ∷ []) rs p.1 k.2)

-- records of one kind with the same texts are written alike
headed_from : ℕ → List ℕ → List ℕ
headed_from id bs = id ∷ (3 + length bs) % 256 ∷ (3 + length bs) / 256 ∷ bs

written_layout : (r : Record) → written (layout r) ≡ headed_from (kind r) (written (fixed (element_of r)) ++ written (part r))
unfolding headed_from
written_layout r = rw (sym (written_append (fixed (element_of r)) (part r)), length_written (body r)) refl

record_told :
    (c : Chip) (r r' : Record)
    → Fair c r
    → Fair c r'
    → kind r ≡ kind r'
    → texts r ≡ texts r'
    → written (layout r) ≡ written (layout r')
record_told c r r' f f' k e =
    let x = element_of r in
    let x' = element_of r' in
    let p = written (part r) in
    let p' = written (part r') in
    let l : length (contents x) ≡ length (contents x') = contents_length x ∙ ap (λ (id : ℕ). length (own_names id)) k
    ∙ sym (contents_length x') in
    let t = contents_tell (omega arith) (contents x) (contents x') (hex p ∷ []) (hex p' ∷ []) l
    (contents_in c r (rooms (fixed x) f.fixed_roomy) f.pins)
    (contents_in c r' (rooms (fixed x') f'.fixed_roomy) f'.pins) e in
    let h : hex p ≡ hex p' = last (hex p) (hex p') t.1 in
    let q = hex_tells p p' (written_bytes (part r) f.part_roomy) (written_bytes (part r') f'.part_roomy) h in
    let y : written (fixed x) ≡ written (fixed x') = element_bytes x ∙ (λ i. bytes_from (k i) (t.0 i)) ∙ sym (element_bytes x') in
    written_layout r ∙ (λ i. headed_from (k i) (y i ++ q i)) ∙ sym (written_layout r')
  where
    last : (s t : List ℕ) → s ∷ [] ≡ t ∷ [] → s ≡ t
    last s t h = cc

-- a pair without a line is of records that are written alike
paired_nothing :
    (c : Chip) (at at' : ℕ) (r r' : Record) → Fair c r → Fair c r' → paired at at' r r' ≡ [] → written (layout r) ≡ written (layout r')
unfolding paired
paired_nothing c at at' r r' f f' h = go (eqb (kind r) (kind r')) refl h
  where
    go :
        (t : Bool)
        → eqb (kind r) (kind r') ≡ t
        → cond t (differing (decimal at) (decimal at') (element_names (kind r)) (texts r) (texts r'))
        (difference (decimal at) (decimal at') "kind" (hex_pair (kind r)) (hex_pair (kind r')) ∷ [])
        ≡ []
        → written (layout r) ≡ written (layout r')
    go true e h =
        let k = eqb-true (kind r) (kind r') e in
        let l : length (texts r') ≡ length (element_names (kind r)) = texts_length r' ∙ ap (λ (id : ℕ). length (element_names id)) (sym k) in
        record_told c r r' f f' k (differing_nothing (decimal at) (decimal at') (element_names (kind r)) (texts r) (texts r')
        (texts_length r) l h)
    go false e h = let z : ◌≡◌ {A = ℕ} 0 1 = cc in absurd (omega arith)

elementwise_nothing :
    (c : Chip) (at at' : ℕ) (rs rs' : List Record)
    → AllFair c rs
    → AllFair c rs'
    → elementwise at at' rs rs' ≡ []
    → written (layouts rs) ≡ written (layouts rs')
elementwise_nothing c at at' [] [] f f' h = refl
elementwise_nothing c at at' [] (r' ∷ rs') f f' h = let z : ◌≡◌ {A = ℕ} 0 1 = cc in absurd (omega arith)
elementwise_nothing c at at' (r ∷ rs) [] f f' h = let z : ◌≡◌ {A = ℕ} 0 1 = cc in absurd (omega arith)
elementwise_nothing c at at' (r ∷ rs) (r' ∷ rs') f f' h =
    let m = at + length (layout r) in
    let m' = at' + length (layout r') in
    let p = append_nothing (paired at at' r r') (elementwise m m' rs rs') h in
    let q = paired_nothing c at at' r r' f.0 f'.0 p.0 in
    let t = elementwise_nothing c m m' rs rs' f.1 f'.1 p.1 in
    written_append (layout r) (layouts rs) ∙ (λ i. q i ++ t i) ∙ sym (written_append (layout r') (layouts rs'))

-- what the rules give of the description and of the elements
pub range : (s : Settings) (d : Description) (rs : List Record) → Keeps s d rs → AllIn 16777216 (described d)
range s d rs k =
    let n = 16 + length (layouts rs) in
    let h = roomy_split (opening d n) (layouts rs) k.roomy_25 in
    described_in s.chip d n (rooms (opening d n) h.0) (description_kept s.chip d k.described).pins_10

pub fair : (s : Settings) (d : Description) (rs : List Record) → Keeps s d rs → AllFair s.chip rs
fair s d rs k = all_fair s [] rs (roomy_split (opening d (16 + length (layouts rs))) (layouts rs) k.roomy_25).1 k.passed

descriptionwise_nothing :
    (s : Settings) (d d' : Description) (rs rs' : List Record) → Keeps s d rs → Keeps s d' rs' → descriptionwise d d' ≡ [] → described d
    ≡ described d'
unfolding descriptionwise
descriptionwise_nothing s d d' rs rs' k k' h =
    let e = differing_nothing (decimal 0) (decimal 0) description_names (map shown (described d)) (map shown (described d')) refl refl h in
    (contents_tell (omega arith) (described d) (described d') [] [] refl (range s d rs k) (range s d' rs' k')
    (ap (λ (l : List (List ℕ)). l ++ []) e)).0

-- tables that are written alike have the same records: 'There is then only one such list'
written_alike :
    (s : Settings) (d d' : Description) (rs rs' : List Record)
    → Keeps s d rs
    → Keeps s d' rs'
    → described d ≡ described d'
    → written (layouts rs) ≡ written (layouts rs')
    → (d ≡ d') × (rs ≡ rs')
written_alike s d d' rs rs' k k' e w =
    let b = written (table d rs) in
    let n = 16 + length (layouts rs) in
    let n' = 16 + length (layouts rs') in
    let l : n ≡ n' = omega (arith, length_written (layouts rs), length_written (layouts rs'), ap length w) in
    let o : written (opening d n) ≡ written (opening d' n') = opening_bytes d n ∙ (λ i. opening_from (l i) (e i))
    ∙ sym (opening_bytes d' n') in
    let q : b ≡ written (table d' rs') =
    written_append (opening d n) (layouts rs) ∙ (λ i. o i ++ w i) ∙ sym (written_append (opening d' n') (layouts rs')) in
    only_one_list s b d d' rs rs' (written_bytes (table d rs) k.roomy_25)
    (record { keeps = k; fits = written_fits (table d rs) k.roomy_25 })
    (record { keeps = k'; fits = subst (λ (x : List ℕ). Fits x (table d' rs')) (sym q) (written_fits (table d' rs') k'.roomy_25) })

-- THE THEOREM: of two descriptions and lists of records that keep the rules
pub no_lines_exactly :
    (s : Settings) (d d' : Description) (rs rs' : List Record)
    → Keeps s d rs
    → Keeps s d' rs'
    → (lines (differences d rs d' rs') ≡ []) ↔ ((d ≡ d') × (rs ≡ rs'))
no_lines_exactly s d d' rs rs' k k' = (to, from)
  where
    to : lines (differences d rs d' rs') ≡ [] → (d ≡ d') × (rs ≡ rs')
    to h =
        let p = append_nothing (descriptionwise d d') (elementwise 16 16 rs rs') (lines_nothing (differences d rs d' rs') h) in
        written_alike s d d' rs rs' k k' (descriptionwise_nothing s d d' rs rs' k k' p.0)
        (elementwise_nothing s.chip 16 16 rs rs' (fair s d rs k) (fair s d' rs' k') p.1)

    from : (d ≡ d') × (rs ≡ rs') → lines (differences d rs d' rs') ≡ []
    from e = rw (sym e.0, sym e.1) (ap lines (differences_self d rs))
