-- The lines one behind another: what is put at each turn, and how long it is at most.
-- Assumes nothing.
use Prim.Native.Nat.{ℕ, ◌+◌, ◌*◌, ◌/◌, ◌≤◌, ◌<◌}
use native.Mathlib.Omega.{arith}
use native.Mathlib.Numerals.{add-one}
use mathlib.Core.Path.{◌≡◌, refl, sym, ◌∙◌, ap, subst}
use mathlib.Core.Bool.{Bool, true, false, not, cond}
use mathlib.Core.List.{List, [], ◌∷◌, ◌++◌}
use lib.ListN.{length, get_or, take, length-append}
use lib.Dec.{eqb, ltb}
use borrow.Author.Tests.{lt-ltb, not-true}
use Rattle.format.specs.Pins.{every, on_chip, allowed}
use Rattle.format.specs.Decode.{pin_of}
use Rattle.format.specs.declared.pins.Chip.{Chip}
use Rattle.format.specs.declared.pins.Chip.TheVariants.{C8051F320, C8051F321}
use Rattle.format.specs.declared.pins.Use.TheVariants.{HardwareRevision}
use Rattle.pinsets.proofs.Table.{same, same→eq, all_to, at_below}
use Rattle.spelling.specs.Spelling.{Put, digit, digit_at, decimal, dash, pin_text, pin_or_dash}
use Rattle.spelling.proofs.Putting.{put_none, then}
use Rattle.sheets.specs.Lines.{claimant_of}
use Rattle.pinlines.specs.Text.{line_text, line_at, lines_to, text, line_on}

-- a place has at most five digits
digit_short : (power n : ℕ) → length (digit_at power n) ≤ 1
digit_short power n = go (ltb n power)
  where
    go : (t : Bool) → length (cond t [] (digit (n / power) ∷ [])) ≤ 1
    go true = omega arith
    go false = omega arith

five_short :
    (a b c d e : List ℕ)
    → length a ≤ 1
    → length b ≤ 1
    → length c ≤ 1
    → length d ≤ 1
    → length e ≤ 1
    → length (a ++ b ++ c ++ d ++ e) ≤ 5
five_short a b c d e f g h i j =
    omega (arith, length-append (a ++ b ++ c ++ d) e, length-append (a ++ b ++ c) d, length-append (a ++ b) c, length-append a b)

pub decimal_short : (n : ℕ) → n < 65536 → length (decimal n) ≤ 5
unfolding decimal
decimal_short n h =
    rw (lt-ltb n 10000000 (omega (arith, h)), lt-ltb n 1000000 (omega (arith, h)), lt-ltb n 100000 (omega (arith, h)))
    (five_short (digit_at 10000 n) (digit_at 1000 n) (digit_at 100 n) (digit_at 10 n) (digit n ∷ [])
    (digit_short 10000 n) (digit_short 1000 n) (digit_short 100 n) (digit_short 10 n) (omega arith))

-- the 25 pins: none is FFh, and the chip has those that may be hardware revision pins
abbrev as_on : Chip → ℕ → Bool
as_on c k = same (allowed c HardwareRevision (pin_of c (get_or every k 0))) (on_chip c (get_or every k 0))

all_as_on : (c : Chip) → all_to 25 (as_on c) ≡ true
all_as_on C8051F320 = refl
all_as_on C8051F321 = refl

all_pins : (c : Chip) (k : ℕ) → k < 25 → allowed c HardwareRevision (pin_of c (get_or every k 0)) ≡ on_chip c (get_or every k 0)
all_pins c k h = same→eq _ _ (at_below 25 (as_on c) (all_as_on c) k h)

pin_name : (k : ℕ) → k < 25 → pin_or_dash (get_or every k 0) ≡ pin_text (get_or every k 0)
pin_name k h =
    ap (λ (t : Bool). cond t dash (pin_text (get_or every k 0)))
    (not-true (eqb (get_or every k 0) 0xff) (at_below 25 (λ j. not (eqb (get_or every j 0) 0xff)) refl k h))

line_at_lem : (c : Chip) (ns : List ℕ) (k : ℕ) → k < 25 → line_on c (get_or every k 0) (get_or ns k 0) ≡ line_at c ns k
line_at_lem c ns k h =
    let e = claimant_of (get_or ns k 0) in
    ap (λ (t : Bool). cond t (line_text (pin_or_dash (get_or every k 0)) e) []) (all_pins c k h)
    ∙ ap (λ (p : List ℕ). cond (on_chip c (get_or every k 0)) (line_text p e) []) (pin_name k h)

-- a line of its own, copied behind the others; and none
pub sized : {b text line : List ℕ} {r : ℕ} → Put b 0 text r line → r ≡ length (take r line)
sized p = omega (arith, ap length p.front, p.ends)

module _ (c : Chip) (pin n : ℕ) (out : List ℕ) (at : ℕ) where
  abbrev line_of : List ℕ
  line_of = line_text (pin_or_dash pin) (claimant_of n)

  pub put_there :
      {end r : ℕ} (b line after : List ℕ)
      → allowed c HardwareRevision (pin_of c pin) ≡ true
      → Put b 0 line_of r line × (r ≤ 11)
      → Put out at (take r line) end after
      → Put out at (line_on c pin n) end after × (end ≤ at + 11)
  put_there {end} b line after h p q =
      let text = p.0.front ∙ ap (λ (t : Bool). cond t line_of []) (sym h) in
      (subst (λ (t : List ℕ). Put out at t end after) text q, omega (arith, q.ends, sized p.0, p.1))

  pub put_nothing : allowed c HardwareRevision (pin_of c pin) ≡ false → Put out at (line_on c pin n) at out × (at ≤ at + 11)
  put_nothing h =
      (subst (λ (t : List ℕ). Put out at t at out) (ap (λ (t : Bool). cond t line_of []) (sym h)) (put_none out at), omega arith)

-- THE INVARIANT: the lines of the pins before i stand in the buffer, which was b
pub record Lining (c : Chip) (ns b : List ℕ) (i end : ℕ) (out : List ℕ) : Type 0 where
  pub within : i ≤ 25
  pub put : Put b 0 (lines_to c ns i) end out
  pub bound : end ≤ 11 * i

pub begun : (c : Chip) (ns b : List ℕ) → Lining c ns b 0 0 b
begun c ns b = record { within = omega arith; put = put_none b 0; bound = omega arith }

module _ (c : Chip) (ns b : List ℕ) (i end : ℕ) (out : List ℕ) (l : Lining c ns b i end out) where
  pub room : i < 25 → end + 11 ≤ 275
  room h = omega (arith, h, l.bound)

  pub turned :
      {pin n end' : ℕ} (after : List ℕ)
      → i < 25
      → pin ≡ get_or every i 0
      → n ≡ get_or ns i 0
      → Put out end (line_on c pin n) end' after × (end' ≤ end + 11)
      → Lining c ns b (i + 1) end' after
  turned {pin} {n} {end'} after h p q put =
      let line : line_on c pin n ≡ line_at c ns i = rw (p, q) (line_at_lem c ns i h) in
      let lines : lines_to c ns i ++ line_on c pin n ≡ lines_to c ns (i + 1) =
      ap (λ (t : List ℕ). lines_to c ns i ++ t) line ∙ ap (lines_to c ns) (sym (add-one i)) in
      record {
        within = omega (arith, h);
        put = subst (λ (t : List ℕ). Put b 0 t end' after) lines (then l.put put.0);
        bound = omega (arith, l.bound, put.1);
      }

  pub whole : 25 ≤ i → Put b 0 (text c ns) end out
  unfolding text
  whole h =
      let e : i ≡ 25 = omega (arith, h, l.within) in
      subst (λ (k : ℕ). Put b 0 (lines_to c ns k) end out) e l.put
