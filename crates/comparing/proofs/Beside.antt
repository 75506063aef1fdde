-- The code's text of a pair, of what stands at two places and of the descriptions is the one that the definition has.
-- Assumes nothing.
use Prim.Native.Nat.{ℕ, ◌+◌, ◌≤◌}
use native.Mathlib.Omega.{arith}
use mathlib.Core.Path.{◌≡◌, refl, sym, ◌∙◌, ap}
use mathlib.Core.Bool.{Bool, true, false, cond}
use mathlib.Core.List.{List, [], ◌∷◌, ◌++◌, map, append-nil}
use mathlib.Core.Option.{Option, none, some}
use lib.ListN.{length, get_or}
use lib.Dec.{eqb}
use borrow.Author.Tests.{eqb-true}
use Rattle.format.specs.Slots.{byte, written}
use Rattle.format.specs.Records.{Record, element_of}
use Rattle.format.specs.Layout.{fixed, part, layouts, opening}
use Rattle.format.specs.Verdict.{Accepts}
use Rattle.format.specs.declared.pins.Chip.{Chip}
use Rattle.format.specs.declared.settings.Settings.{Settings}
use Rattle.format.specs.declared.records.Description.{Description}
use Rattle.format.proofs.Slots.{Over, starts_over, starts_split}
use Rattle.format.proofs.Written.{written_bytes}
use Rattle.walking.specs.Walk.{Here}
use Rattle.spelling.specs.Spelling.{decimal, hex_pair, dash}
use Rattle.listing.specs.Lines.{line}
use Rattle.differing.specs.Fields.{hex, contents, described, texts, own_names, element_names, description_names, ascii}
use Rattle.differing.specs.Differences.{difference, differing, kind, paired, descriptionwise, line_of, lines}
use Rattle.differing.proofs.Ranges.{rooms, contents_in}
use Rattle.differing.proofs.Equal.{Fair, contents_length, range}
use Rattle.comparing.specs.Rows.{placeds, firsts, counts, rows_text, fields_text, part_text}
use Rattle.std.specs.Prelude.{Some}
use Rattle.comparing.specs.Lines.{kind_line, pair_text, besides, besides_text, At}
use Rattle.comparing.proofs.Codes.{code, codes_text, names_from, codes_from, codes_meant, part_meant, rows_meant, rows_alone}
use Rattle.comparing.proofs.Meant.{kind_names, codes_here, codes_described, description_names_lem}
use Rattle.comparing.proofs.Pairing.{kind_here}

-- a pair
module _ (c : Chip) (one two : List ℕ) (a b : ℕ) (x y : Record) (h : Here c one a x) (i : Here c two b y) (f : Fair c x)
    (g : Fair c y) where
  abbrev p : List ℕ
  p = written (part x)

  abbrev q : List ℕ
  q = written (part y)

  abbrev codes_of : List ℕ → ℕ → ℕ → List ℕ
  codes_of t at k = codes_from t at 0 (get_or placeds k 0) ++ codes_from t at (get_or firsts k 0) (get_or counts k 0)

  fields_meant :
      kind x ≡ kind y
      → codes_text a b (own_names (kind x)) (map code (contents (element_of x))) (map code (contents (element_of y)))
      ≡ fields_text one two a b (kind x)
  fields_meant k =
      let k0 = get_or placeds (kind x) 0 in
      let k1 = get_or firsts (kind x) 0 in
      let k2 = get_or counts (kind x) 0 in
      let u : map code (contents (element_of x)) ≡ codes_of one a (kind x) = sym (codes_here c one a x h) in
      let v : map code (contents (element_of y)) ≡ codes_of two b (kind x) = sym (codes_here c two b y i)
      ∙ ap (λ (n : ℕ). codes_of two b n) (sym k) in
      (λ j. codes_text a b (kind_names x j) (u j) (v j))
      ∙ rows_meant one two a b 0 k0 (names_from k1 k2) (codes_from one a k1 k2) (codes_from two b k1 k2)
      ∙ ap (λ (l : List ℕ). rows_text one two a b 0 k0 ++ l) (rows_alone one two a b k1 k2)

  one_kind :
      kind x ≡ kind y
      → lines (differing (decimal a) (decimal b) (element_names (kind x)) (texts x) (texts y)) ≡ fields_text one two a b (kind x)
      ++ part_text a b p q
  one_kind k =
      let l : length (contents (element_of y)) ≡ length (own_names (kind x)) = contents_length (element_of y)
      ∙ ap (λ (n : ℕ). length (own_names n)) (sym k) in
      let s = fields_meant k in
      let t = part_meant a b p q (written_bytes (part x) f.part_roomy) (written_bytes (part y) g.part_roomy) in
      codes_meant 65536 (omega arith) a b (own_names (kind x)) ("variable part" ∷ []) (contents (element_of x)) (contents (element_of y))
      (hex p ∷ []) (hex q ∷ [])
      (contents_length (element_of x)) l
      (contents_in c x (rooms (fixed (element_of x)) f.fixed_roomy) f.pins)
      (contents_in c y (rooms (fixed (element_of y)) g.fixed_roomy) g.pins)
      ∙ (λ j. s j ++ t j)

  two_kinds :
      lines (difference (decimal a) (decimal b) "kind" (hex_pair (kind x)) (hex_pair (kind y)) ∷ [])
      ≡ kind_line (Some a) (Some b) (Some (kind x)) (Some (kind y))
  unfolding line_of
  two_kinds = append-nil (line ((68 ∷ []) ∷ decimal a ∷ decimal b ∷ ascii "kind" ∷ hex_pair (kind x) ∷ hex_pair (kind y) ∷ []))

  pub pair_meant : a ≤ 4096 → b ≤ 4096 → lines (paired a b x y) ≡ pair_text one two a b p q
  unfolding paired
  pair_meant la lb = go (eqb (kind x) (kind y)) refl ∙ sym by_kind
    where
      by_kind : pair_text one two a b p q ≡ cond (eqb (kind x) (kind y)) (fields_text one two a b (kind x) ++ part_text a b p q)
          (kind_line (Some a) (Some b) (Some (kind x)) (Some (kind y)))
      by_kind =
          let u = kind_here c one a x h in
          let v = kind_here c two b y i in
          λ j. cond (eqb (u j) (v j)) (fields_text one two a b (u j) ++ part_text a b p q) (kind_line (Some a) (Some b) (Some (u j)) (Some (v j)))

      go :
          (t : Bool)
          → eqb (kind x) (kind y) ≡ t
          → lines
          (cond t (differing (decimal a) (decimal b) (element_names (kind x)) (texts x) (texts y))
          (difference (decimal a) (decimal b) "kind" (hex_pair (kind x)) (hex_pair (kind y)) ∷ []))
          ≡ cond t (fields_text one two a b (kind x) ++ part_text a b p q) (kind_line (Some a) (Some b) (Some (kind x)) (Some (kind y)))
      go true e = one_kind (eqb-true (kind x) (kind y) e)
      go false e = two_kinds

-- what stands at two places
abbrev pub Fairly : Chip → Option Record → Type 0
Fairly c none = Unit {0}
Fairly c (some x) = Fair c x

pub besides_meant :
    (c : Chip) (one two : List ℕ) (a b : ℕ) (x y : Option Record)
    → At c one a x
    → At c two b y
    → Fairly c x
    → Fairly c y
    → a ≤ 4096
    → b ≤ 4096
    → lines (besides a b x y) ≡ besides_text one two a b x y
unfolding line_of
besides_meant c one two a b none none h i f g la lb = refl
besides_meant c one two a b none (some y) h i f g la lb =
    let t = kind_here c two b y i.1 in
    append-nil (line ((68 ∷ []) ∷ dash ∷ decimal b ∷ ascii "kind" ∷ dash ∷ hex_pair (kind y) ∷ []))
    ∙ (λ j. line ((68 ∷ []) ∷ dash ∷ decimal b ∷ ascii "kind" ∷ dash ∷ hex_pair (sym t j) ∷ []))
besides_meant c one two a b (some x) none h i f g la lb =
    let t = kind_here c one a x h.1 in
    append-nil (line ((68 ∷ []) ∷ decimal a ∷ dash ∷ ascii "kind" ∷ hex_pair (kind x) ∷ dash ∷ []))
    ∙ (λ j. line ((68 ∷ []) ∷ decimal a ∷ dash ∷ ascii "kind" ∷ hex_pair (sym t j) ∷ dash ∷ []))
besides_meant c one two a b (some x) (some y) h i f g la lb = pair_meant c one two a b x y h.1 i.1 f g la lb

-- the descriptions
over_opening :
    (σ : Settings) (t : List ℕ) (d : Description) (rs : List Record)
    → Accepts σ t d rs
    → Over (byte t) (opening d (16 + length (layouts rs)))
over_opening σ t d rs a =
    let o = opening d (16 + length (layouts rs)) in
    let s = starts_split t o (layouts rs) [] a.fits in
    starts_over t o s.0 s.1

pub descriptions_meant :
    (σ : Settings) (one two : List ℕ) (d d' : Description) (rs rs' : List Record)
    → Accepts σ one d rs
    → Accepts σ two d' rs'
    → lines (descriptionwise d d') ≡ rows_text one two 0 0 5 8
unfolding descriptionwise
descriptions_meant σ one two d d' rs rs' a a' =
    let u : map code (described d) ≡ codes_from one 0 5 8 = sym
    (codes_described one d (16 + length (layouts rs)) (over_opening σ one d rs a)) in
    let v : map code (described d') ≡ codes_from two 0 5 8 = sym
    (codes_described two d' (16 + length (layouts rs')) (over_opening σ two d' rs' a')) in
    codes_meant 16777216 (omega arith) 0 0 description_names [] (described d) (described d') [] [] refl refl (range σ d rs a.keeps)
    (range σ d' rs' a'.keeps)
    ∙ append-nil (codes_text 0 0 description_names (map code (described d)) (map code (described d')))
    ∙ (λ j. codes_text 0 0 (description_names_lem j) (u j) (v j))
    ∙ rows_alone one two 0 0 5 8
