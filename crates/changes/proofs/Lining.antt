-- The lines one behind another: what stands in the buffer, and the text of what is left, are the whole text.
-- Assumes nothing.
use Prim.Native.Nat.{ℕ, ◌+◌, ◌*◌, ◌≤◌, ◌<◌}
use native.Mathlib.Omega.{arith}
use native.Mathlib.Numerals.{add-one}
use mathlib.Core.Path.{◌≡◌, refl, sym, ◌∙◌, ap, subst}
use mathlib.Core.List.{List, [], ◌∷◌, ◌++◌, append-nil, append_assoc}
use lib.ListN.{length, drop, get_or, length-append, drop_of_length-le}
use Rattle.spelling.specs.Spelling.{Put, decimal}
use Rattle.spelling.proofs.Putting.{then, put_none}
use Rattle.saving.specs.Saving.{Line}
use Rattle.saving.specs.Lines.{change_text, line_text, text_of}
use Rattle.saving.proofs.Texts.{decimal_length, change_length}
use Rattle.fates.specs.declared.Note.{Note}
use Rattle.fates.specs.Noted.{Each, Codes, change_of}
use Rattle.fates.proofs.Noting.{each_at, each_length}
use Rattle.changes.specs.Written.{PutsChange, PutsLine}

-- a line from its parts
pub line_put :
    {o o₁ o₂ o₃ o₄ : List ℕ} {at a b e r : ℕ} (n : Note) (l : Line)
    → Codes n l
    → Put o at (decimal n.place) a o₁
    → Put o₁ a (9 ∷ []) b o₂
    → Put o₂ b (decimal n.number) e o₃
    → PutsChange o₃ e n.cleared r o₄
    → Put o at (line_text l) r o₄
line_put {o = o} {o₄ = o₄} {at = at} {r = r} n l k p q s t =
    let front = decimal n.place ++ 9 ∷ decimal n.number in
    let same : front ++ (9 ∷ change_text (change_of n.cleared) ++ 10 ∷ []) ≡ line_text l =
    sym (append_assoc front (9 ∷ change_text (change_of n.cleared)) (10 ∷ [])) ∙ rw (k.place, k.number, k.change) refl in
    subst (λ (x : List ℕ). Put o at x r o₄) same (then (then p (then q s)) t)

-- .. of at most 19 bytes
line_short : (n : Note) (l : Line) → Codes n l → length (line_text l) ≤ 19
line_short n l k =
    simp length-append
    (omega (
      arith,
      (decimal_length l.place).0 (omega (arith, k.low)),
      (decimal_length l.number).0 (omega (arith, k.small)),
      change_length l.change,
    ))

-- THE INVARIANT
pub record Lining (ls : List Line) (out₀ : List ℕ) (i end : ℕ) (out : List ℕ) : Type 0 where
  pub so_far : List ℕ
  pub put : Put out₀ 0 so_far end out
  pub bound : end ≤ 19 * i
  pub whole : so_far ++ text_of (drop i ls) ≡ text_of ls

pub begun : (ls : List Line) (out : List ℕ) → Lining ls out 0 0 out
begun ls out = record { so_far = []; put = put_none out 0; bound = omega arith; whole = refl }

module _ (log : List Note) (ls : List Line) (all : Each Codes log ls)
    (out₀ : List ℕ) (i end : ℕ) (out : List ℕ) (w : Lining ls out₀ i end out) where
  pub turned : i < length log → (d : Note) (end' : ℕ) (out' : List ℕ) → PutsLine out end (get_or log i d) end' out' → Lining ls out₀ (i + 1) end' out'
  turned b d end' out' p =
      let s = each_at Codes log ls i all b in
      let k : Codes (get_or log i d) s.x = s.stands d in
      let q = p s.x k in
      let next : text_of (drop i ls) ≡ line_text s.x ++ text_of (drop (i + 1) ls) =
      ap text_of s.same ∙ ap (λ (m : ℕ). line_text s.x ++ text_of (drop m ls)) (sym (add-one i)) in
      record {
        so_far = w.so_far ++ line_text s.x;
        put = then w.put q;
        bound = omega (arith, w.bound, q.ends, line_short (get_or log i d) s.x k);
        whole =
            append_assoc w.so_far (line_text s.x) (text_of (drop (i + 1) ls))
            ∙ ap (λ (t : List ℕ). w.so_far ++ t) (sym next)
            ∙ w.whole;
      }

  pub ended : length log ≤ i → Put out₀ 0 (text_of ls) end out
  ended h =
      let many : length ls ≤ i = omega (arith, h, each_length Codes log ls all) in
      let none_left : drop i ls ≡ [] = drop_of_length-le ls many in
      let q : w.so_far ≡ text_of ls =
      sym (append-nil w.so_far) ∙ ap (λ (l : List Line). w.so_far ++ text_of l) (sym none_left) ∙ w.whole in
      subst (λ (t : List ℕ). Put out₀ 0 t end out) q w.put
