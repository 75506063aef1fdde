-- The lines of a pair, of what stands at two places, and the room for them.
-- Assumes nothing.
use Prim.Native.Nat.{ℕ, ◌+◌, ◌<◌, ◌≤◌}
use native.Mathlib.Omega.{arith}
use native.Mathlib.Nat.{add-zero}
use mathlib.Core.Path.{◌≡◌, sym, ◌∙◌, ap, subst}
use mathlib.Core.Bool.{Bool, cond}
use mathlib.Core.List.{List, ◌++◌}
use mathlib.Core.Option.{Option, none, some}
use lib.ListN.{length, length-append, get_or, drop}
use lib.Seq.{get_or-drop}
use borrow.Author.Tests.{eq-eqb, ne_eqb}
use Rattle.format.specs.Slots.{byte, written}
use Rattle.format.specs.Records.{Record, digital, analogue, fan, led, water, pump, voltage, current, controller, tachometer, zone, string}
use Rattle.format.specs.Records.{external, rgb}
use Rattle.format.specs.Layout.{part, layout}
use Rattle.format.specs.declared.pins.Chip.{Chip}
use Rattle.format.proofs.Slots.{starts_over}
use Rattle.walking.specs.Walk.{Here}
use Rattle.spelling.specs.Spelling.{Put}
use Rattle.spelling.proofs.Putting.{then, put_none}
use Rattle.differing.specs.Differences.{kind}
use Rattle.comparing.specs.Rows.{placeds, firsts, counts, rows_text, fields_text, part_text}
use Rattle.std.specs.Prelude.{Some, None}
use Rattle.comparing.specs.Lines.{kind_line, pair_text, besides_text, At}
use Rattle.comparing.proofs.Naming.{bounded}

-- the rows of an identifier
module _ (one two : List ℕ) (a b id : ℕ) {n : ℕ} (e : n ≡ get_or placeds id 0) where
  pub first_room :
      (at m : ℕ)
      → at + length (fields_text one two a b id) + 68 ≤ m
      → id < 15
      → (at + length (rows_text one two a b 0 n) + 68 ≤ m) × (0 + n ≤ 59)
  first_room at m h small =
      let l = length-append (rows_text one two a b 0 (get_or placeds id 0)) (rows_text one two a b (get_or firsts id 0) (get_or counts id 0)) in
      let q : length (rows_text one two a b 0 n) ≡ length
      (rows_text one two a b 0 (get_or placeds id 0)) = ap (λ (k : ℕ). length (rows_text one two a b 0 k)) e in
      (omega (arith, l, q), omega (arith, e, (bounded id small).0))

  module _ {f k : ℕ} (g : f ≡ get_or firsts id 0) (i : k ≡ get_or counts id 0) where
    both_rows : rows_text one two a b 0 n ++ rows_text one two a b f k ≡ fields_text one two a b id
    both_rows = λ j. rows_text one two a b 0 (e j) ++ rows_text one two a b (g j) (i j)

    pub second_room :
        {c d : List ℕ} {at r : ℕ}
        → at + length (fields_text one two a b id) + 68 ≤ length c
        → id < 15
        → Put c at (rows_text one two a b 0 n) r d
        → (r + length (rows_text one two a b f k) + 68 ≤ length d) × (f + k ≤ 59)
    second_room h small p =
        let l = length-append (rows_text one two a b 0 n) (rows_text one two a b f k) in
        (omega (arith, l, ap length both_rows, p.ends, p.long), omega (arith, g, i, (bounded id small).1))

    pub fields_put :
        {c d x : List ℕ} {at r r' : ℕ}
        → Put c at (rows_text one two a b 0 n) r d
        → Put d r (rows_text one two a b f k) r' x
        → Put c at (fields_text one two a b id) r' x
    fields_put {c} {x = x} {at = at} {r' = r'} p q = subst (λ (l : List ℕ). Put c at l r' x) both_rows (then p q)

-- an element at a place
pub inside : (c : Chip) (t : List ℕ) (at : ℕ) (x : Record) → Here c t at x → at < length t
inside c t at x h = omega (arith, h.size, h.within)

pub kind_here : (c : Chip) (t : List ℕ) (at : ℕ) (x : Record) → Here c t at x → byte t at ≡ kind x
kind_here c t at x h =
    ap (λ (n : ℕ). byte t n) (sym (add-zero at)) ∙ sym (get_or-drop at t 0 0)
    ∙ (starts_over (drop at t) (layout x) h.stands.rest h.stands.starts).0

pub kind_small : (x : Record) → kind x < 15
kind_small (digital d) = omega arith
kind_small (analogue a) = omega arith
kind_small (fan x) = omega arith
kind_small (led l) = omega arith
kind_small (water w) = omega arith
kind_small (pump x) = omega arith
kind_small (voltage v) = omega arith
kind_small (current x) = omega arith
kind_small (controller d bs) = omega arith
kind_small (tachometer d ps qs) = omega arith
kind_small (zone bytes) = omega arith
kind_small (string bytes) = omega arith
kind_small (external x ps qs rs) = omega arith
kind_small (rgb r) = omega arith

-- a pair
module _ (one two : List ℕ) (a b : ℕ) (p q : List ℕ) where
  abbrev choice : Bool → List ℕ
  choice t = cond t (fields_text one two a b (byte one a) ++ part_text a b p q) (kind_line (Some a) (Some b) (Some (byte one a)) (Some (byte two b)))

  pub of_one_kind : byte one a ≡ byte two b → pair_text one two a b p q ≡ fields_text one two a b (byte one a) ++ part_text a b p q
  of_one_kind e = ap choice (eq-eqb (byte one a) (byte two b) e)

  pub of_two_kinds :
      {c d : List ℕ} {at r : ℕ}
      → (byte one a ≡ byte two b → ⊥)
      → Put c at (kind_line (Some a) (Some b) (Some (byte one a)) (Some (byte two b))) r d
      → Put c at (pair_text one two a b p q) r d
  of_two_kinds {c} {d} {at} {r} n put = subst (λ (l : List ℕ). Put c at l r d) (sym (ap choice (ne_eqb (byte one a) (byte two b) n))) put

  module _ {id : ℕ} (e : byte one a ≡ byte two b) (i : id ≡ byte one a) where
    same_fields : length (fields_text one two a b id) ≡ length (fields_text one two a b (byte one a))
    same_fields = ap (λ (k : ℕ). length (fields_text one two a b k)) i

    pub fields_room : (at m : ℕ) → at + length (pair_text one two a b p q) + 68 ≤ m → at + length (fields_text one two a b id) + 68 ≤ m
    fields_room at m h =
        omega (arith, same_fields, ap length (of_one_kind e), length-append (fields_text one two a b (byte one a)) (part_text a b p q))

    module _ {c d : List ℕ} {at r : ℕ} (put : Put c at (fields_text one two a b id) r d) {p' q' : List ℕ} (x : p' ≡ p) (y : q' ≡ q) where
      pub part_room : at + length (pair_text one two a b p q) + 68 ≤ length c → r + length (part_text a b p' q') + 68 ≤ length d
      part_room h =
          let l : length (part_text a b p' q') ≡ length (part_text a b p q) = λ j. length (part_text a b (x j) (y j)) in
          omega (
            arith,
            l,
            same_fields,
            ap length (of_one_kind e),
            length-append (fields_text one two a b (byte one a)) (part_text a b p q),
            put.ends,
            put.long,
          )

      pub pair_put : {r' : ℕ} {o : List ℕ} → Put d r (part_text a b p' q') r' o → Put c at (pair_text one two a b p q) r' o
      pair_put {r'} {o} more =
          subst (λ (l : List ℕ). Put c at l r' o)
          ((λ j. fields_text one two a b (i j) ++ part_text a b (x j) (y j)) ∙ sym (of_one_kind e))
          (then put more)

-- what stands at two places
module _ (one two : List ℕ) (a b : ℕ) where
  abbrev pub Pair : ℕ → ℕ → Type 0
  Pair at m =
      (c : Chip)
      × (x : Record)
      × (y : Record)
      × Here c one a x
      × Here c two b y
      × (a ≤ 4096)
      × (b ≤ 4096)
      × (at + length (pair_text one two a b (written (part x)) (written (part y))) + 68 ≤ m)

  pub pair_there :
      (c : Chip) (x y : Option Record) (at m : ℕ)
      → At c one a x
      → At c two b y
      → a < length one
      → b < length two
      → a ≤ 4096
      → b ≤ 4096
      → at + length (besides_text one two a b x y) + 68 ≤ m
      → Pair at m
  pair_there c none y at m h k i j u v w = absurd (omega arith)
  pair_there c (some x) none at m h k i j u v w = absurd (omega arith)
  pair_there c (some x) (some y) at m h k i j u v w = (c, x, y, h.1, k.1, u, v, w)

  module _ (c : Chip) (x y : Option Record) (h : At c one a x) (k : At c two b y) {buf out : List ℕ} {at r : ℕ} where
    pub both_there :
        a < length one
        → b < length two
        → ((c : Chip) (x y : Record) → Here c one a x → Here c two b y
        → Put buf at (pair_text one two a b (written (part x)) (written (part y))) r out)
        → Put buf at (besides_text one two a b x y) r out
    both_there i j f = go x y h k
      where
        go : (x y : Option Record) → At c one a x → At c two b y → Put buf at (besides_text one two a b x y) r out
        go none y h k = absurd (omega arith)
        go (some x) none h k = absurd (omega arith)
        go (some x) (some y) h k = f c x y h.1 k.1

    pub first_there :
        a < length one
        → length two ≤ b
        → Put buf at (kind_line (Some a) None (Some (byte one a)) None) r out
        → Put buf at (besides_text one two a b x y) r out
    first_there i j put = go x y h k
      where
        go : (x y : Option Record) → At c one a x → At c two b y → Put buf at (besides_text one two a b x y) r out
        go none y h k = absurd (omega arith)
        go (some x) none h k = put
        go (some x) (some y) h k = absurd (omega (arith, k.0))

    pub second_there :
        length one ≤ a
        → b < length two
        → Put buf at (kind_line None (Some b) None (Some (byte two b))) r out
        → Put buf at (besides_text one two a b x y) r out
    second_there i j put = go x y h k
      where
        go : (x y : Option Record) → At c one a x → At c two b y → Put buf at (besides_text one two a b x y) r out
        go none none h k = absurd (omega arith)
        go none (some y) h k = put
        go (some x) y h k = absurd (omega (arith, h.0))

  pub none_there :
      (c : Chip) (x y : Option Record) {buf : List ℕ} {at : ℕ}
      → At c one a x
      → At c two b y
      → length one ≤ a
      → length two ≤ b
      → Put buf at (besides_text one two a b x y) at buf
  none_there c none none {buf} {at} h k i j = put_none buf at
  none_there c none (some y) h k i j = absurd (omega (arith, k.0))
  none_there c (some x) y h k i j = absurd (omega (arith, h.0))
