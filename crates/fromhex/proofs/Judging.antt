-- Judging a line: whether a text begins with it, and what a data record that begins a text must be.
-- Assumes nothing.
use Prim.Native.Nat.{ℕ, ◌+◌, ◌*◌, ◌≤◌, ◌<◌}
use native.Mathlib.Omega.{arith}
use mathlib.Core.Path.{◌≡◌, refl, sym, ◌∙◌, ap}
use mathlib.Core.Bool.{Bool, true, false}
use mathlib.Core.List.{List, ◌++◌}
use lib.ListN.{length, take, drop, get_or-eq_default}
use lib.Seq.{length-take-le, get_or-take, ext_get_or}
use lib.Dec.{ltb, eqb}
use borrow.Author.Tests.{ltb-true, ltb-false}
use Rattle.std.specs.Prelude.{Some, None}
use Rattle.std.specs.List.{starts_with}
use Rattle.std.proofs.lemmas.Slice.Eq.{starts_is}
use Rattle.std.proofs.lemmas.Bool.Decides.{Decides-eqb}
use Rattle.format.specs.Slots.{Bytes, byte}
use Rattle.hextext.specs.Text.{data_line}
use Rattle.hextext.specs.Meaning.{Sent}
use Rattle.hextext.specs.Digits.{pair_at}
use Rattle.hextext.proofs.Spelled.{pair_below, line_length, length_back, byte_back}
use Rattle.fromhex.specs.Reading.{Begins, begins, begins_not, Opens, opens, opens_not}

-- what std's `starts_with` answers
pub begun : (t l : List ℕ) (r : Bool) → r ≡ starts_with eqb t l → Begins t l r
begun t l r e = go r (starts_is Decides-eqb t l r e)
  where
    go : (r : Bool) → (r ≡ true → t ≡ l ++ drop (length l) t) × ((rest : List ℕ) → t ≡ l ++ rest → r ≡ true) → Begins t l r
    go true h = begins (h.0 refl)
    go false h = begins_not (λ more e. absurd (cc (h.1 more e)))

-- the bytes that the digits of a text stand for
module _ (t into : List ℕ) (n : ℕ) (long : n ≤ length into) (read : (k : ℕ) → k < n → byte into k ≡ pair_at t (9 + 2 * k)) where
  pub read_bytes_lem : Bytes (take n into)
  read_bytes_lem k = go (ltb k n) refl
    where
      go : (x : Bool) → ltb k n ≡ x → byte (take n into) k < 256
      go true e =
          let h = ltb-true k n e in
          omega (arith, get_or-take n into k 0 h, read k h, pair_below t (9 + 2 * k))
      go false e =
          let h : length (take n into) ≤ k = omega (arith, ltb-false k n e, length-take-le n into long) in
          omega (arith, get_or-eq_default (take n into) 0 h)

  -- they are those of any data record that begins it
  pub read_back : {a : ℕ} (d more : List ℕ) → Sent a d → pair_at t 1 ≡ n → t ≡ data_line a d ++ more → take n into ≡ d
  read_back {a} d more sent e is =
      let size : n ≡ length d = sym e ∙ ap (λ (x : List ℕ). pair_at x 1) is ∙ length_back a d more sent in
      let len = length-take-le n into long in
      ext_get_or 0 (take n into) d (len ∙ size)
      (λ k h.
      let h' : k < n = omega arith in
      get_or-take n into k 0 h'
      ∙ read k h'
      ∙ ap (λ (x : List ℕ). pair_at x (9 + 2 * k)) is
      ∙ byte_back a d more sent k (omega arith))

  pub judged : {a : ℕ} → a < 65536 → 1 ≤ n → n ≤ 255 → Begins t (data_line a (take n into)) true → Opens a t into (Some n)
  judged {a} near some most (begins e) =
      let len = length-take-le n into long in
      let size : length (data_line a (take n into)) ≡ 12 + 2 * n = omega (arith, line_length a (take n into)) in
      let sent : Sent a (take n into) = record { address = near; some = omega arith; most = omega arith; bytes = read_bytes_lem } in
      opens sent len (rw size at e)

  pub misjudged : {a : ℕ} → pair_at t 1 ≡ n → Begins t (data_line a (take n into)) false → Opens a t into None
  misjudged {a} size (begins_not h) =
      opens_not (λ d more s e. h more (e ∙ ap (λ (x : List ℕ). data_line a x ++ more) (sym (read_back d more s size e))))

-- there is none past the last address, and none of no bytes
pub far : {a : ℕ} {t into : List ℕ} → 65535 < a → Opens a t into None
far h = opens_not (λ d more s e. omega (arith, s.address))

pub empty : {a : ℕ} {t into : List ℕ} → pair_at t 1 ≡ 0 → Opens a t into None
empty {a} {t} h =
    opens_not (λ d more s e. omega (arith, s.some, ap (λ (x : List ℕ). pair_at x 1) e, length_back a d more s))
