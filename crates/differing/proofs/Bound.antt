-- How long the text of two accepted tables can be: at most 59,016 bytes.
-- Assumes nothing.
use Prim.Native.Nat.{ℕ, ◌+◌, ◌-◌, ◌*◌, ◌/◌, ◌≤◌, ◌<◌}
use Prim.Native.String.{String}
use native.Mathlib.Omega.{arith}
use mathlib.Core.Path.{◌≡◌, refl, sym, ◌∙◌, ap}
use mathlib.Core.Bool.{Bool, true, false, cond}
use mathlib.Core.List.{List, [], ◌∷◌, ◌++◌, map}
use lib.ListN.{length, length-append}
use lib.Dec.{eqb, ltb}
use borrow.Author.Tests.{ltb-false, eqb-true}
use Rattle.format.specs.Slots.{written}
use Rattle.format.specs.Records.{Record, element_of}
use Rattle.format.specs.Layout.{id_of, fixed, part, layout, layouts, opening}
use Rattle.format.specs.Table.{Keeps}
use Rattle.format.specs.declared.pins.Chip.{Chip}
use Rattle.format.specs.declared.settings.Settings.{Settings}
use Rattle.format.specs.declared.records.Description.{Description}
use Rattle.format.specs.declared.records.Element.{Element}
use Rattle.format.specs.declared.records.Element.TheVariants.{Digital, Analogue, Fan, Led, Water, Pump, Voltage, Current, Controller}
use Rattle.format.specs.declared.records.Element.TheVariants.{Tachometer, Zone, Text, External, Rgb}
use Rattle.format.proofs.Written.{length_written}
use Rattle.format.proofs.Lengths.{at_most_96}
use Rattle.spelling.specs.Spelling.{digit, digit_at, decimal, hex_pair, dash, pin_text, pin_or_dash}
use Rattle.differing.specs.Fields.{Content, number, pin, shown, hex, contents, described, texts, own_names, description_names}
use Rattle.differing.specs.Fields.{element_names, ascii}
use Rattle.differing.specs.Differences.{Difference, difference, exchanged, same, differing, kind, paired, partnerless, elementwise}
use Rattle.differing.specs.Differences.{descriptionwise, differences, line_of, lines}
use Rattle.differing.proofs.Tells.{In, AllIn}
use Rattle.differing.proofs.Ranges.{rooms, contents_in}
use Rattle.differing.proofs.Equal.{Fair, AllFair, fair, contents_length}

-- decimals: a digit at a power of ten is only where the number reaches it
digit_count : (p n : ℕ) → (length (digit_at p n) ≤ 1) × (length (digit_at p n) * p ≤ n)
digit_count p n = go (ltb n p) refl
  where
    go : (t : Bool) → ltb n p ≡ t → (length (cond t [] (digit (n / p) ∷ [])) ≤ 1) × (length (cond t [] (digit (n / p) ∷ [])) * p ≤ n)
    go true e = omega arith
    go false e = omega (arith, ltb-false n p e)

decimal_length :
    (n : ℕ) → (length (decimal n) ≤ 8) × (n < 100000 → length (decimal n) ≤ 5) × (n < 10000 → length (decimal n) ≤ 4)
unfolding decimal
decimal_length n =
    simp length-append
    (omega (
      arith,
      digit_count 10000000 n,
      digit_count 1000000 n,
      digit_count 100000 n,
      digit_count 10000 n,
      digit_count 1000 n,
      digit_count 100 n,
      digit_count 10 n,
    ))

pin_length : (p : ℕ) → length (pin_or_dash p) ≤ 4
pin_length p = go (eqb p 0xff)
  where
    go : (t : Bool) → length (cond t dash (pin_text p)) ≤ 4
    go true = omega arith
    go false = omega arith

shown_8 : (c : Content) → length (shown c) ≤ 8
shown_8 (number v) = (decimal_length v).0
shown_8 (pin p) = omega (arith, pin_length p)

shown_5 : (c : Content) → In 65536 c → length (shown c) ≤ 5
shown_5 (number v) h = (decimal_length v).1 (omega arith)
shown_5 (pin p) h = omega (arith, pin_length p)

-- the bytes of several texts
abbrev size : List (List ℕ) → ℕ
size [] = 0
size (t ∷ ts) = length t + size ts

size_append : (ts us : List (List ℕ)) → size (ts ++ us) ≡ size ts + size us
size_append [] us = omega arith
size_append (t ∷ ts) us = let h = size_append ts us in omega arith

size_8 : (cs : List Content) → size (map shown cs) ≤ 8 * length cs
size_8 [] = omega arith
size_8 (c ∷ cs) = omega (arith, shown_8 c, size_8 cs)

size_5 : (cs : List Content) → AllIn 65536 cs → size (map shown cs) ≤ 5 * length cs
size_5 [] i = omega arith
size_5 (c ∷ cs) i = omega (arith, shown_5 c i.0, size_5 cs i.1)

pub hex_length : (bs : List ℕ) → length (hex bs) ≡ 2 * length bs
hex_length [] = refl
hex_length (b ∷ bs) = let h = hex_length bs in omega arith

-- one line, and the lines of two lists of differences
line_length :
    (d : Difference)
    → length (line_of d)
    ≡ 7 + length d.first.offset + length d.second.offset + length (ascii d.name) + length d.first.content + length
    d.second.content
unfolding line_of
line_length d = simp length-append (omega arith)

lines_append : (ds es : List Difference) → length (lines (ds ++ es)) ≡ length (lines ds) + length (lines es)
lines_append [] es = omega arith
lines_append (d ∷ ds) es =
    omega (arith, length-append (line_of d) (lines (ds ++ es)), length-append (line_of d) (lines ds), lines_append ds es)

lines_exchanged : (ds : List Difference) → length (lines (map exchanged ds)) ≡ length (lines ds)
lines_exchanged [] = refl
lines_exchanged (d ∷ ds) =
    omega (
      arith,
      length-append (line_of (exchanged d)) (lines (map exchanged ds)),
      length-append (line_of d) (lines ds),
      line_length d,
      line_length (exchanged d),
      lines_exchanged ds,
    )

-- what lines with these names cost beside their contents: x bytes and the name each
abbrev cost : ℕ → List String → ℕ
cost x [] = 0
cost x (n ∷ ns) = x + length (ascii n) + cost x ns

differing_length :
    (x : ℕ) (o o' : List ℕ) (ns : List String) (ts ts' : List (List ℕ))
    → 7 + length o + length o' ≤ x
    → length (lines (differing o o' ns ts ts')) ≤ cost x ns + size ts + size ts'
differing_length x o o' [] ts ts' h = omega arith
differing_length x o o' (n ∷ ns) [] ts' h = omega arith
differing_length x o o' (n ∷ ns) (t ∷ ts) [] h = omega arith
differing_length x o o' (n ∷ ns) (t ∷ ts) (t' ∷ ts') h = go (same t t') (differing_length x o o' ns ts ts' h)
  where
    go :
        (b : Bool)
        → length (lines (differing o o' ns ts ts')) ≤ cost x ns + size ts + size ts'
        → length (lines (cond b (differing o o' ns ts ts') (difference o o' n t t' ∷ differing o o' ns ts ts')))
        ≤ cost x (n ∷ ns) + size (t ∷ ts) + size (t' ∷ ts')
    go true k = omega arith
    go false k =
        omega (
          arith,
          length-append (line_of (difference o o' n t t')) (lines (differing o o' ns ts ts')),
          line_length (difference o o' n t t'),
        )

-- the costliest kind is 01h: 525 bytes at 21 bytes of layout in each table
names_cost : (e : Element) → cost 15 (element_names (id_of e)) + 10 * length (contents e) ≤ 441 + 4 * (3 + length (fixed e))
names_cost (Digital d) = omega arith
names_cost (Analogue a) = omega arith
names_cost (Fan f) = omega arith
names_cost (Led l) = omega arith
names_cost (Water w) = omega arith
names_cost (Pump f) = omega arith
names_cost (Voltage v) = omega arith
names_cost (Current c) = omega arith
names_cost (Controller d) = omega arith
names_cost (Tachometer d) = omega arith
names_cost Zone = omega arith
names_cost Text = omega arith
names_cost (External x) = omega arith
names_cost (Rgb r) = omega arith

texts_size : (c : Chip) (r : Record) → Fair c r → size (texts r) ≤ 5 * length (contents (element_of r)) + 2 * length (part r)
texts_size c r f =
    let e = element_of r in
    let p = written (part r) in
    omega (
      arith,
      size_append (map shown (contents e)) (hex p ∷ []),
      size_5 (contents e) (contents_in c r (rooms (fixed e) f.fixed_roomy) f.pins),
      hex_length p,
      length_written (part r),
    )

-- a pair
paired_length :
    (c : Chip) (at at' : ℕ) (r r' : Record)
    → at ≤ 4096
    → at' ≤ 4096
    → Fair c r
    → Fair c r'
    → length (lines (paired at at' r r')) ≤ 441 + 2 * (length (layout r) + length (layout r'))
unfolding paired
paired_length c at at' r r' h h' f f' = go (eqb (kind r) (kind r')) refl
  where
    o : length (decimal at) ≤ 4
    o = (decimal_length at).2 (omega arith)

    o' : length (decimal at') ≤ 4
    o' = (decimal_length at').2 (omega arith)

    go :
        (t : Bool)
        → eqb (kind r) (kind r') ≡ t
        → length
        (lines
        (cond t (differing (decimal at) (decimal at') (element_names (kind r)) (texts r) (texts r'))
        (difference (decimal at) (decimal at') "kind" (hex_pair (kind r)) (hex_pair (kind r')) ∷ [])))
        ≤ 441 + 2 * (length (layout r) + length (layout r'))
    go true e =
        let x = element_of r in
        let x' = element_of r' in
        let k = eqb-true (kind r) (kind r') e in
        let m : cost 15 (element_names (kind r')) ≡ cost 15 (element_names (kind r)) = ap (λ (id : ℕ). cost 15 (element_names id)) (sym k) in
        let n : length (contents x') ≡ length (contents x) =
        contents_length x' ∙ ap (λ (id : ℕ). length (own_names id)) (sym k) ∙ sym (contents_length x) in
        omega (
          arith,
          differing_length 15 (decimal at) (decimal at') (element_names (kind r)) (texts r) (texts r') (omega (arith, o, o')),
          texts_size c r f,
          texts_size c r' f',
          names_cost x,
          names_cost x',
          length-append (fixed x) (part r),
          length-append (fixed x') (part r'),
        )
    go false e =
        let d = difference (decimal at) (decimal at') "kind" (hex_pair (kind r)) (hex_pair (kind r')) in
        omega (arith, length-append (line_of d) [], line_length d, o, o')

-- the elements
partnerless_length : (at : ℕ) (rs : List Record) → at + length (layouts rs) ≤ 4096 → length (lines (partnerless at rs)) ≤ 19 * length rs
partnerless_length at [] h = omega arith
partnerless_length at (r ∷ rs) h =
    let d = difference (decimal at) dash "kind" (hex_pair (kind r)) dash in
    let m = at + length (layout r) in
    let l = length-append (layout r) (layouts rs) in
    omega (
      arith,
      length-append (line_of d) (lines (partnerless m rs)),
      line_length d,
      (decimal_length at).2 (omega arith),
      partnerless_length m rs (omega arith),
    )

elementwise_length :
    (c : Chip) (n at at' : ℕ) (rs rs' : List Record)
    → length rs ≤ n
    → length rs' ≤ n
    → at + length (layouts rs) ≤ 4096
    → at' + length (layouts rs') ≤ 4096
    → AllFair c rs
    → AllFair c rs'
    → length (lines (elementwise at at' rs rs')) ≤ 441 * n + 2 * (length (layouts rs) + length (layouts rs'))
elementwise_length c n at at' [] rs' m m' h h' f f' =
    omega (arith, lines_exchanged (partnerless at' rs'), partnerless_length at' rs' h')
elementwise_length c n at at' (r ∷ rs) [] m m' h h' f f' = omega (arith, partnerless_length at (r ∷ rs) h)
elementwise_length c n at at' (r ∷ rs) (r' ∷ rs') m m' h h' f f' =
    let l = length-append (layout r) (layouts rs) in
    let l' = length-append (layout r') (layouts rs') in
    let q = at + length (layout r) in
    let q' = at' + length (layout r') in
    let k = elementwise_length c (n - 1) q q' rs rs' (omega arith) (omega arith) (omega arith) (omega arith) f.1 f'.1 in
    let p = paired_length c at at' r r' (omega arith) (omega arith) f.0 f'.0 in
    let s = lines_append (paired at at' r r') (elementwise q q' rs rs') in
    omega arith

-- THE BOUND
descriptionwise_length : (d d' : Description) → length (lines (descriptionwise d d')) ≤ 360
unfolding descriptionwise
descriptionwise_length d d' =
    let o = (decimal_length 0).2 (omega arith) in
    omega (
      arith,
      differing_length 15 (decimal 0) (decimal 0) description_names (map shown (described d)) (map shown (described d'))
          (omega arith),
      size_8 (described d),
      size_8 (described d'),
    )

pub text_bound :
    (s : Settings) (d d' : Description) (rs rs' : List Record)
    → Keeps s d rs
    → Keeps s d' rs'
    → length (lines (differences d rs d' rs')) ≤ 59016
text_bound s d d' rs rs' k k' =
    let l = length-append (opening d (16 + length (layouts rs))) (layouts rs) in
    let l' = length-append (opening d' (16 + length (layouts rs'))) (layouts rs') in
    let t : 16 + length (layouts rs) ≤ 4096 = omega (arith, k.limit) in
    let t' : 16 + length (layouts rs') ≤ 4096 = omega (arith, k'.limit) in
    let m : length rs ≤ 96 = omega (arith, at_most_96 s [] rs (omega arith) k.passed) in
    let m' : length rs' ≤ 96 = omega (arith, at_most_96 s [] rs' (omega arith) k'.passed) in
    omega (
      arith,
      lines_append (descriptionwise d d') (elementwise 16 16 rs rs'),
      descriptionwise_length d d',
      elementwise_length s.chip 96 16 16 rs rs' m m' t t' (fair s d rs k) (fair s d' rs' k'),
    )
