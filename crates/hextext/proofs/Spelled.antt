-- What a line spells can be read off it: its length, and each of its bytes.
-- Assumes nothing.
use Prim.Native.Nat.{ℕ, zero, suc, ◌+◌, ◌*◌, ◌/◌, ◌%◌, ◌<◌}
use native.Mathlib.Omega.{arith}
use native.Mathlib.Nat.{add_assoc}
use native.Mathlib.Numerals.{add-one}
use mathlib.Core.Path.{◌≡◌, refl, sym, ◌∙◌, ap}
use mathlib.Core.Bool.{Bool, true, false, cond}
use mathlib.Core.List.{List, [], ◌∷◌, ◌++◌, append_assoc}
use lib.ListN.{length, take, drop, length-append}
use lib.Seq.{take-suc, get_or-drop, ext_get_or}
use lib.Dec.{ltb}
use borrow.Author.Tests.{ltb-true, ltb-false}
use Rattle.format.specs.Slots.{Bytes, byte}
use Rattle.spelling.specs.Spelling.{hex_digit, hex_pair}
use Rattle.hextext.specs.Text.{hex_text, checksum, data_line, end_line}
use Rattle.hextext.specs.Meaning.{Sent}
use Rattle.hextext.specs.Digits.{digit_value, pair_at}

digit_back : (n : ℕ) → n < 16 → digit_value (hex_digit n) ≡ n
digit_back n h = go (ltb n 10) refl
  where
    go : (t : Bool) → ltb n 10 ≡ t → digit_value (cond t (48 + n) (55 + n)) ≡ n
    go true e = omega (arith, ltb-true n 10 e)
    go false e = omega (arith, ltb-false n 10 e)

pub pair_below : (t : List ℕ) (i : ℕ) → pair_at t i < 256
unfolding pair_at
pair_below t i = omega arith

pair_back : (b : ℕ) (t : List ℕ) → b < 256 → pair_at (hex_pair b ++ t) 0 ≡ b
unfolding pair_at
pair_back b t h = rw (digit_back (b / 16) (omega arith), digit_back (b % 16) (omega arith)) (omega arith)

pair_further : (n i : ℕ) (t : List ℕ) → pair_at t (n + i) ≡ pair_at (drop n t) i
unfolding pair_at
pair_further n i t = rw (get_or-drop n t i 0, get_or-drop n t (i + 1) 0, add_assoc n i 1)

bytes_back_lem : (d t : List ℕ) → Bytes d → (k : ℕ) → k < length d → pair_at (hex_text d ++ t) (2 * k) ≡ byte d k
bytes_back_lem [] t small k h = absurd (omega arith)
bytes_back_lem (b ∷ d) t small zero h = pair_back b (hex_text d ++ t) (small 0)
bytes_back_lem (b ∷ d) t small (suc k) h =
    let on : 2 * suc k ≡ 2 + 2 * k = omega arith in
    rw (on, pair_further 2 (2 * k) (hex_text (b ∷ d) ++ t)) (bytes_back_lem d t (λ i. small (suc i)) k (omega arith))

pub text_length : (d : List ℕ) → length (hex_text d) ≡ 2 * length d
text_length [] = refl
text_length (b ∷ d) = omega (arith, text_length d)

text_append : (s t : List ℕ) → hex_text (s ++ t) ≡ hex_text s ++ hex_text t
text_append [] t = refl
text_append (b ∷ s) t = ap (λ (l : List ℕ). hex_pair b ++ l) (text_append s t)

-- one byte more
module _ (d : List ℕ) (i : ℕ) (h : i < length d) where
  pub text_next : hex_text (take (i + 1) d) ≡ hex_text (take i d) ++ hex_pair (byte d i)
  text_next = rw (add-one, take-suc d i 0 h) (text_append (take i d) (byte d i ∷ []))

pub line_length : (a : ℕ) (d : List ℕ) → length (data_line a d) ≡ 12 + 2 * length d
unfolding data_line
line_length a d = simp length-append (omega (arith, text_length d))

module _ (a : ℕ) (d t : List ℕ) (sent : Sent a d) where
  pub length_back : pair_at (data_line a d ++ t) 1 ≡ length d
  unfolding data_line
  length_back = pair_further 1 0 (data_line a d ++ t) ∙ pair_back (length d) _ (omega (arith, sent.most))

  pub byte_back : (k : ℕ) → k < length d → pair_at (data_line a d ++ t) (9 + 2 * k) ≡ byte d k
  unfolding data_line
  byte_back k h =
      let c = hex_pair (checksum (length d ∷ a / 256 ∷ a % 256 ∷ 0 ∷ d)) in
      let parted = append_assoc (hex_text d ++ c) (10 ∷ []) t ∙ append_assoc (hex_text d) c (10 ∷ t) in
      pair_further 9 (2 * k) (data_line a d ++ t)
      ∙ ap (λ (l : List ℕ). pair_at l (2 * k)) parted
      ∙ bytes_back_lem d (c ++ 10 ∷ t) sent.bytes k h

-- so a text begins with one data line at most
pub same_data : (a : ℕ) (d d' t t' : List ℕ) → Sent a d → Sent a d' → data_line a d ++ t ≡ data_line a d' ++ t' → d ≡ d'
same_data a d d' t t' s s' e =
    let n : length d ≡ length d' = sym (length_back a d t s) ∙ ap (λ (l : List ℕ). pair_at l 1) e ∙ length_back a d' t' s' in
    ext_get_or 0 d d' n
    (λ k h. sym (byte_back a d t s k h) ∙ ap (λ (l : List ℕ). pair_at l (9 + 2 * k)) e ∙ byte_back a d' t' s' k (omega arith))

-- .. and with no data line where it begins with the end
pub never_both : (a : ℕ) (d t t' : List ℕ) → Sent a d → data_line a d ++ t ≡ end_line ++ t' → ⊥
unfolding pair_at
never_both a d t t' s e =
    let z : pair_at (end_line ++ t') 1 ≡ 0 = refl in
    omega (arith, sym (length_back a d t s) ∙ ap (λ (l : List ℕ). pair_at l 1) e ∙ z, s.some)
