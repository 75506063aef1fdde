-- Parts that are put byte by byte, one turn of the loop; and compared.
-- Assumes nothing.
use Prim.Native.Nat.{ℕ, ◌+◌, ◌*◌, ◌<◌, ◌≤◌}
use native.Mathlib.Omega.{arith}
use native.Mathlib.Numerals.{add-one}
use mathlib.Core.Path.{◌≡◌, refl, sym, ◌∙◌, ap, subst}
use mathlib.Core.Bool.{Bool, ◌&&◌}
use mathlib.Core.List.{List, [], ◌∷◌, ◌++◌}
use lib.ListN.{length, get_or, drop, drop_of_length-le}
use lib.Seq.{drop-cons}
use lib.Dec.{eqb}
use Rattle.std.specs.Cmp.Lexicographic.{pointwise}
use Rattle.spelling.specs.Spelling.{Put, hex_pair}
use Rattle.differing.specs.Fields.{hex}
use Rattle.differing.specs.Differences.{same}
use Rattle.differing.proofs.Bound.{hex_length}
use Rattle.comparing.proofs.Midst.{Midst, more, ended, room}

-- a part
module _ {c : List ℕ} {at : ℕ} (p : List ℕ) {end : ℕ} {out : List ℕ} {i : ℕ} (w : Midst c at (hex p) end out (hex (drop i p))) where
  pub part_room : i < length p → (end + 2 ≤ at + 2 * length p) × (length out ≡ length c)
  part_room h =
      let r = room w in
      let e = ap length (ap hex (drop-cons p i 0 h)) in
      (omega (arith, r.0, e, hex_length p), r.1)

  pub part_turned :
      {end' : ℕ} {out' : List ℕ}
      → i < length p
      → Put out end (hex_pair (get_or p i 0)) end' out'
      → Midst c at (hex p) end' out' (hex (drop (i + 1) p))
  part_turned {end'} {out'} h q =
      let s : hex (drop i p) ≡ hex_pair (get_or p i 0) ++ hex (drop (i + 1) p) =
      ap hex (drop-cons p i 0 h) ∙ ap (λ (m : ℕ). hex_pair (get_or p i 0) ++ hex (drop m p)) (sym (add-one i)) in
      more (subst (λ (l : List ℕ). Midst c at (hex p) end out l) s w) q

  pub part_ended : length p ≤ i → Put c at (hex p) end out
  part_ended h = ended (subst (λ (l : List ℕ). Midst c at (hex p) end out l) (ap hex (drop_of_length-le p {i = i} h)) w)

-- `==` on two parts answers whether they are the same
pub alike : (p q : List ℕ) → pointwise eqb p q ≡ same p q
alike [] [] = refl
alike [] (b ∷ q) = refl
alike (a ∷ p) [] = refl
alike (a ∷ p) (b ∷ q) = ap (λ (t : Bool). eqb a b && t) (alike p q)
