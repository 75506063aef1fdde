-- The digits of a number from the last to the first: what stands behind the digits that are still to come.
-- Assumes nothing.
use Prim.Native.Nat.{ℕ, zero, suc, ◌+◌, ◌-◌, ◌/◌, ◌^◌, ◌<◌, ◌≤◌}
use native.Mathlib.Omega.{arith}
use native.Mathlib.Nat.{pow-succ'}
use mathlib.Core.Path.{◌≡◌, refl, sym, ◌∙◌, ap}
use mathlib.Core.List.{List, [], ◌∷◌, ◌++◌, append_assoc}
use lib.ListN.{length, set, take, drop, length-set, length-drop}
use lib.Seq.{take_all, drop-cons, drop-length, drop-set-lt, get_or-set_same}
use borrow.Author.Tests.{ne_eqb}
use Rattle.spelling.specs.Spelling.{Put, digit}
use Rattle.decimals.specs.Decimals.{leading, decimals, Spelt}

-- THE INVARIANT: the digits of m are still to come, at most `from` of them
pub record Spelling (n : ℕ) (bytes : List ℕ) (from m : ℕ) : Type 0 where
  pub text : leading from m ++ drop from bytes ≡ decimals n
  pub within : from ≤ 19
  pub twenty : length bytes ≡ 20
  pub small : m < 10 ^ from

-- a digit in front of those that stand there
set_front : (l : List ℕ) (i x : ℕ) → i < length l → drop i (set l i x) ≡ x ∷ drop (suc i) l
set_front l i x h =
    drop-cons (set l i x) i 0 (omega (arith, length-set l i x))
    ∙ ap (λ (y : ℕ). y ∷ drop (suc i) (set l i x)) (get_or-set_same l i x 0 h)
    ∙ ap (λ (t : List ℕ). x ∷ t) (drop-set-lt (suc i) l i x (omega arith))

pub first_digit :
    (n x : ℕ) (bytes : List ℕ)
    → length bytes ≡ 20
    → n < 18446744073709551616
    → x ≡ digit n
    → Spelling n (set bytes 19 x) 19 (n / 10)
unfolding decimals
first_digit n x bytes l h e =
    let none : drop 20 bytes ≡ [] = ap (λ (k : ℕ). drop k bytes) (sym l) ∙ drop-length bytes in
    record {
      text = ap (λ (t : List ℕ). leading 19 (n / 10) ++ t) (set_front bytes 19 x (omega arith) ∙ rw (none, e));
      within = omega arith;
      twenty = length-set bytes 19 x ∙ l;
      small = omega arith;
    }

module _ {n from m : ℕ} {bytes : List ℕ} (s : Spelling n bytes from m) where
  pub more_room : (m ≡ 0 → ⊥) → 1 ≤ from
  more_room h = go from s.small
    where
      go : (k : ℕ) → m < 10 ^ k → 1 ≤ k
      go zero l = absurd (h (omega arith))
      go (suc k) l = omega arith

  pub next_digit : (x : ℕ) → (m ≡ 0 → ⊥) → x ≡ digit m → Spelling n (set bytes (from - 1) x) (from - 1) (m / 10)
  next_digit x h e = go from s.text s.within s.small
    where
      go : (k : ℕ) → leading k m ++ drop k bytes ≡ decimals n → k ≤ 19 → m < 10 ^ k → Spelling n (set bytes (k - 1) x) (k - 1) (m / 10)
      go zero t w l = absurd (h (omega arith))
      go (suc k) t w l =
          let one : suc k - 1 ≡ k = omega arith in
          let here = append_assoc (leading k (m / 10)) (digit m ∷ []) (drop (suc k) bytes) in
          rw one
          record {
            text = ap (λ (d : List ℕ). leading k (m / 10) ++ d) (set_front bytes k x (omega (arith, s.twenty)) ∙ rw e) ∙ sym here
                ∙ (rw (ne_eqb m 0 h) at t);
            within = omega arith;
            twenty = length-set bytes k x ∙ s.twenty;
            small = omega (arith, rw pow-succ' at l);
          }

  pub all_digits_lem : m ≡ 0 → Spelt n bytes from
  all_digits_lem h = record { text = sym (none from) ∙ s.text; within = s.within; twenty = s.twenty }
    where
      none : (k : ℕ) → leading k m ++ drop k bytes ≡ drop k bytes
      none zero = refl
      none (suc k) = rw h

-- the last bytes, put into a buffer
pub put_last :
    {n from at r : ℕ} {bytes c after : List ℕ}
    → Spelt n bytes from
    → Put c at (take (20 - from) (drop from bytes)) r after
    → Put c at (decimals n) r after × (r ≤ at + 20)
put_last {from = from} {bytes = bytes} s p =
    let size : length (drop from bytes) ≡ 20 - from = length-drop from bytes ∙ ap (λ (k : ℕ). k - from) s.twenty in
    let all : take (20 - from) (drop from bytes) ≡ drop from bytes = take_all (20 - from) (drop from bytes) (omega (arith, size)) in
    (rw (← s.text, ← all) p, omega (arith, p.ends, ap length all, size))
