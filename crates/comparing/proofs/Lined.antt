-- The lines of a field and of a part, put one text behind another; and one turn of the loop over rows.
-- Assumes nothing.
use Prim.Native.Nat.{ℕ, suc, ◌+◌, ◌-◌, ◌*◌, ◌<◌, ◌≤◌}
use native.Mathlib.Omega.{arith}
use mathlib.Core.Path.{◌≡◌, sym, ◌∙◌, ap, subst}
use mathlib.Core.Bool.{Bool, true, false, cond}
use mathlib.Core.List.{List, [], ◌∷◌, ◌++◌, append_assoc}
use lib.ListN.{length, length-append}
use lib.Dec.{eqb}
use borrow.Author.Tests.{eq-eqb, ne_eqb}
use Rattle.spelling.specs.Spelling.{Put, decimal, dash}
use Rattle.spelling.proofs.Putting.{then, put_none}
use Rattle.listing.specs.Lines.{line}
use Rattle.differing.specs.Fields.{hex, ascii}
use Rattle.differing.specs.Differences.{same}
use Rattle.differing.proofs.Bound.{hex_length}
use Rattle.comparing.specs.Rows.{code_at, field_line, row_text, rows_text, part_text}
use Rattle.comparing.proofs.Midst.{Midst, begun, more, ended, room}

abbrev fronted : List ℕ → List ℕ → List ℕ
fronted x y = 68 ∷ 9 ∷ [] ++ ((x ++ 9 ∷ []) ++ (y ++ 9 ∷ []))

-- what follows both offsets
pub behind :
    {c d e : List ℕ} {at r r' : ℕ} (x y : List ℕ) {z : List ℕ}
    → Put c at (fronted x y) r d
    → Put d r z r' e
    → Put c at (68 ∷ 9 ∷ [] ++ ((x ++ 9 ∷ []) ++ ((y ++ 9 ∷ []) ++ z))) r' e
behind {c} {e = e} {at = at} {r' = r'} x y {z} p q =
    subst (λ (l : List ℕ). Put c at l r' e) (ap (λ (l : List ℕ). 68 ∷ 9 ∷ [] ++ l) (append_assoc (x ++ 9 ∷ []) (y ++ 9 ∷ []) z)) (then p q)

-- a number's text, or `-` where the number stands for the missing one, and what ends the field
module _ (k : ℕ) (text : List ℕ) {n absent : ℕ} {c : List ℕ} {at end : ℕ} where
  pub missing :
      {d : List ℕ} {r : ℕ}
      → n ≡ absent
      → 1 ≤ k
      → Put c at (45 ∷ end ∷ []) r d
      → Put c at (cond (eqb n absent) dash text ++ end ∷ []) r d × (r ≤ at + (k + 1))
  missing e l p = (rw (eq-eqb n absent e) p, omega (arith, p.ends))

  pub present :
      {d d' : List ℕ} {r r' : ℕ}
      → (n ≡ absent → ⊥)
      → Put c at text r d
      → r ≤ at + k
      → Put d r (end ∷ []) r' d'
      → Put c at (cond (eqb n absent) dash text ++ end ∷ []) r' d' × (r' ≤ at + (k + 1))
  present e p l q = (rw (ne_eqb n absent e) (then p q), omega (arith, q.ends))

-- bytes in hex and what ends the field: where they end, and the buffer is as long as it was
pub ended_length :
    (p : List ℕ) (end : ℕ) {c d : List ℕ} {at r : ℕ}
    → Put c at (hex p ++ end ∷ []) r d
    → (r ≡ at + 2 * length p + 1) × (length d ≡ length c)
ended_length p end h = (omega (arith, h.ends, length-append (hex p) (end ∷ []), hex_length p), h.long)

-- parts
pub part_same : (c : List ℕ) (at a b : ℕ) (p q : List ℕ) → same p q ≡ true → Put c at (part_text a b p q) at c
part_same c at a b p q e = rw e (put_none c at)

abbrev part_line : ℕ → ℕ → List ℕ → List ℕ → List ℕ
part_line a b p q = line ((68 ∷ []) ∷ decimal a ∷ decimal b ∷ ascii "variable part" ∷ hex p ∷ hex q ∷ [])

pub part_line_lem : (a b : ℕ) (p q : List ℕ) → same p q ≡ false → part_text a b p q ≡ part_line a b p q
part_line_lem a b p q e = ap (λ (t : Bool). cond t [] (part_line a b p q)) e

pub part_space : (a b : ℕ) (p q : List ℕ) → same p q ≡ false → 2 * length p + 2 * length q ≤ length (part_text a b p q)
part_space a b p q e =
    let l : length (part_text a b p q) ≡ length (part_line a b p q) = ap length (part_line_lem a b p q e) in
    let m : 2 * length p + 2 * length q ≤ length (part_line a b p q) = simp length-append (omega (arith, hex_length p, hex_length q)) in
    omega (arith, l, m)

-- a row
module _ (one two : List ℕ) (a b i : ℕ) {v u : ℕ} (e : v ≡ code_at one a i) (f : u ≡ code_at two b i) where
  abbrev chosen : Bool → List ℕ
  chosen t = cond t [] (field_line a b i (code_at one a i) (code_at two b i))

  pub row_same : (c : List ℕ) (at : ℕ) → v ≡ u → Put c at (row_text one two a b i) at c
  row_same c at d =
      subst (λ (l : List ℕ). Put c at l at c)
      (sym (ap chosen (eq-eqb (code_at one a i) (code_at two b i) (sym e ∙ d ∙ f))))
      (put_none c at)

  pub row_differs : {c c' : List ℕ} {at r : ℕ} → (v ≡ u → ⊥) → Put c at (field_line a b i v u) r c' → Put c at (row_text one two a b i) r c'
  row_differs {c} {c'} {at} {r} d p =
      subst (λ (l : List ℕ). Put c at l r c')
      ((λ k. field_line a b i (e k) (f k)) ∙ sym (ap chosen (ne_eqb (code_at one a i) (code_at two b i) (λ q. d (e ∙ q ∙ sym f)))))
      p

-- rows
module _ (one two : List ℕ) (a b : ℕ) where
  pub record Rowed (c : List ℕ) (at from n to end : ℕ) (out : List ℕ) (i : ℕ) : Type 0 where
    pub top : to ≤ 59
    pub below : i ≤ to
    pub midst : Midst c at (rows_text one two a b from n) end out (rows_text one two a b i (to - i))

  pub rows_begun : (c : List ℕ) (at from n : ℕ) {to : ℕ} → from + n ≤ 59 → to ≡ from + n → Rowed c at from n to at c from
  rows_begun c at from n {to} h e =
      let m : n ≡ to - from = omega (arith, e) in
      record {
        top = omega (arith, e);
        below = omega (arith, e);
        midst = subst (λ (k : ℕ). Midst c at (rows_text one two a b from n) at c (rows_text one two a b from k)) m
            (begun c at (rows_text one two a b from n));
      }

  module _ {c : List ℕ} {at from n to end : ℕ} {out : List ℕ} {i : ℕ} (w : Rowed c at from n to end out i) where
    pub rows_room : (end ≤ at + length (rows_text one two a b from n)) × (length out ≡ length c)
    rows_room = let r = room w.midst in (omega (arith, r.0), r.1)

    next : i < to → rows_text one two a b i (to - i) ≡ row_text one two a b i ++ rows_text one two a b (i + 1) (to - (i + 1))
    next h = let e : to - i ≡ suc (to - (i + 1)) = omega arith in ap (λ (k : ℕ). rows_text one two a b i k) e

    pub row_turned :
        {end' : ℕ} {out' : List ℕ}
        → i < to
        → Put out end (row_text one two a b i) end' out'
        → Rowed c at from n to end' out' (i + 1)
    row_turned {end'} {out'} h p =
        record {
          top = w.top;
          below = omega arith;
          midst = more (subst (λ (l : List ℕ). Midst c at (rows_text one two a b from n) end out l) (next h) w.midst) p;
        }

    pub rows_ended : to ≤ i → Put c at (rows_text one two a b from n) end out
    rows_ended h =
        let e : to - i ≡ 0 = omega arith in
        ended (subst (λ (k : ℕ). Midst c at (rows_text one two a b from n) end out (rows_text one two a b i k)) e w.midst)
