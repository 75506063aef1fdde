-- Text put behind text is one text; and the pins of an element, parted by commas.
-- Assumes nothing.
use Prim.Native.Nat.{ℕ, ◌+◌, ◌<◌, ◌≤◌}
use native.Mathlib.Omega.{arith}
use mathlib.Core.Path.{◌≡◌, refl, sym, ◌∙◌, ap}
use mathlib.Core.Bool.{Bool, true, false, cond}
use mathlib.Core.List.{List, [], ◌∷◌, ◌++◌, append_assoc, append-nil}
use lib.ListN.{length, take, drop, take-append-drop, length-append, length-drop}
use lib.Seq.{length-take-le, take_at, drop_at, drop-drop}
use Rattle.format.specs.Writing.{overwritten}
use lib.Dec.{eqb}
use borrow.Author.Tests.{lt-ltb}
use Rattle.spelling.specs.Spelling.{Put, digit_at, upper, dash, pin_text, pin_or_dash, next, used, joined}

pub put_none : (c : List ℕ) (at : ℕ) → Put c at [] at c
put_none c at = record { ends = omega arith; front = sym (append-nil (take at c)); rest = refl; long = refl }

pub put_one : (c : List ℕ) (at : ℕ) (text : List ℕ) → at + length text ≤ length c → Put c at text (at + length text) (overwritten at text c)
put_one c at text fits =
    let n : ℕ = at + length text in
    let head : List ℕ = take at c ++ text in
    let l : length (take at c) ≡ at = length-take-le at c (omega arith) in
    let h : length head ≡ n = length-append (take at c) text ∙ ap (λ (m : ℕ). m + length text) l in
    record {
      ends = refl;
      front = take_at head (drop n c) n h;
      rest = drop_at head (drop n c) n h;
      long = omega (arith, length-append head (drop n c), h, length-drop n c);
    }

pub then :
    {c d e s t : List ℕ} {at r r' : ℕ}
    → Put c at s r d
    → Put d r t r' e
    → Put c at (s ++ t) r' e
then {c = c} {d = d} {e = e} {s = s} {t = t} {at = at} {r = r} {r' = r'} p q =
    let behind : drop r' d ≡ drop r' c =
    ap (λ (m : ℕ). drop m d) q.ends
    ∙ sym (drop-drop (length t) r d)
    ∙ ap (drop (length t)) p.rest
    ∙ drop-drop (length t) r c
    ∙ ap (λ (m : ℕ). drop m c) (sym q.ends) in
    record {
      ends = omega (arith, p.ends, q.ends, length-append s t);
      front = q.front ∙ ap (λ (l : List ℕ). l ++ t) p.front ∙ append_assoc (take at c) s t;
      rest = q.rest ∙ behind;
      long = q.long ∙ p.long;
    }

-- a power that is not reached has no digit, and a number under 10,000 none above its last four
unreached : (power n : ℕ) → n < power → digit_at power n ≡ []
unreached power n under = rw (lt-ltb n power under) refl

pub no_upper : (n : ℕ) → n < 10000 → upper n ≡ []
no_upper n under =
    rw (
      unreached 10000000 n (omega (arith, under)),
      unreached 1000000 n (omega (arith, under)),
      unreached 100000 n (omega (arith, under)),
      unreached 10000 n under,
    ) refl

-- there is one way to put a text
pub put_one_way : (c s : List ℕ) (n n' : ℕ) (after after' : List ℕ) → Put c 0 s n after → Put c 0 s n' after' → (n ≡ n') × (after ≡ after')
put_one_way c s n n' after after' p q =
    let same : n ≡ n' = p.ends ∙ sym q.ends in
    let front : take n after ≡ take n after' = p.front ∙ sym q.front ∙ ap (λ (m : ℕ). take m after') (sym same) in
    let rest : drop n after ≡ drop n after' =
    p.rest ∙ ap (λ (m : ℕ). drop m c) same ∙ sym q.rest ∙ ap (λ (m : ℕ). drop m after') (sym same) in (
      same,
      sym (take-append-drop n after) ∙ ap (λ (l : List ℕ). l ++ drop n after) front ∙ ap (λ (l : List ℕ). take n after' ++ l) rest
          ∙ take-append-drop n after',
    )

-- a used pin, and two more that may be unused
first_used :
    (x y : Bool) (p q r : ℕ)
    → joined (p ∷ cond x [] (q ∷ []) ++ cond y [] (r ∷ []))
    ≡ pin_text p ++ cond x [] (44 ∷ pin_text q) ++ cond y [] (44 ∷ pin_text r)
first_used true true p q r = refl
first_used true false p q r = refl
first_used false true p q r = refl
first_used false false p q r = refl

module _ (one two three : ℕ) where
  abbrev all : List ℕ
  all = joined (used one ++ used two ++ used three)

  pub first_of_three : eqb one 0xff ≡ false → all ≡ pin_or_dash one ++ next two ++ next three
  first_of_three e = rw e (first_used (eqb two 0xff) (eqb three 0xff) one two three)

  pub first_of_two : eqb one 0xff ≡ true → eqb two 0xff ≡ false → all ≡ pin_or_dash two ++ next three
  first_of_two e f = rw (e, f) (first_used true (eqb three 0xff) two 0 three)

  pub last_of_three : eqb one 0xff ≡ true → eqb two 0xff ≡ true → all ≡ pin_or_dash three
  last_of_three e f = rw (e, f) (alone (eqb three 0xff) three)
    where
      alone : (x : Bool) (p : ℕ) → joined (cond x [] (p ∷ [])) ≡ cond x dash (pin_text p)
      alone true p = refl
      alone false p = refl
