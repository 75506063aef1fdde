-- Small texts, and what they mean: no text, the end record alone, and the end record with something wrong.
-- Assumes nothing.
use Prim.Native.Nat.{ℕ, ◌<◌}
use native.Mathlib.Omega.{arith}
use mathlib.Core.Path.{◌≡◌, refl, sym, ◌∙◌, ap}
use mathlib.Core.List.{List, [], ◌∷◌}
use lib.ListN.{get_or-append}
use Rattle.format.specs.Slots.{byte}
use Rattle.hextext.specs.Text.{end_line}
use Rattle.hextext.specs.Digits.{pair_at}
use Rattle.hextext.specs.Meaning.{Line, data_record, end_record, none, bytes, bad, whole, stops, after, Means, means}
use Rattle.hextext.proofs.Sending.{codes}
use Rattle.hextext.proofs.Spelled.{length_back}

-- line 1 is bad: its length is 0, so it is no data record, and by one character it is not the end record
module _ (t : List ℕ) (size : pair_at t 1 ≡ 0) (i : ℕ) (within : i < 12) (other : byte t i ≡ byte end_line i → ⊥) where
  neither : {s : List ℕ} → Line 0 s → s ≡ t → ⊥
  neither (data_record d sent m) e =
      omega (arith, size, sent.some, ap (λ (l : List ℕ). pair_at l 1) e, length_back 0 d m sent)
  neither (end_record m) e = other (ap (λ (l : List ℕ). byte l i) (sym e) ∙ get_or-append end_line m 0 i within)

  bad_line : Means t (bad 1)
  bad_line = means none (stops (λ l. neither l refl))

-- 'a missing end (the line after the last)'
pub no_text : Means [] (bad 1)
unfolding pair_at
no_text = bad_line [] refl 0 (omega arith) (λ e. omega (arith, e))

pub end_alone : Means (codes ":00000001FF\n") (bytes [])
end_alone = means none whole

-- 'an unclosed line is itself bad'
pub unclosed : Means (codes ":00000001FF") (bad 1)
unfolding pair_at
unclosed = bad_line (codes ":00000001FF") refl 11 (omega arith) (λ e. omega (arith, e))

-- 'capitals'; 'one line feed'; address 0; the sum
pub small_letters : Means (codes ":00000001ff\n") (bad 1)
unfolding pair_at
small_letters = bad_line (codes ":00000001ff\n") refl 9 (omega arith) (λ e. omega (arith, e))

pub carriage_return : Means (codes ":00000001FF\r\n") (bad 1)
unfolding pair_at
carriage_return = bad_line (codes ":00000001FF\r\n") refl 11 (omega arith) (λ e. omega (arith, e))

pub end_with_address : Means (codes ":00000101FE\n") (bad 1)
unfolding pair_at
end_with_address = bad_line (codes ":00000101FE\n") refl 6 (omega arith) (λ e. omega (arith, e))

pub wrong_sum : Means (codes ":0000000100\n") (bad 1)
unfolding pair_at
wrong_sum = bad_line (codes ":0000000100\n") refl 9 (omega arith) (λ e. omega (arith, e))

-- 'or anything after it'
pub behind_the_end : Means (codes ":00000001FF\n\n") (bad 2)
behind_the_end = means none (after (10 ∷ []) (omega arith))
