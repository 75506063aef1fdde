-- How long good data records can be, and so how large the number of a bad line; and that the first 918,025 characters of a text
-- decide it. The longest are 65,535 of one byte (14 characters each) and one of 255 (522); the end record has 12 more.
-- Assumes nothing.
use Prim.Native.Nat.{ℕ, ◌+◌, ◌*◌, ◌≤◌}
use native.Mathlib.Omega.{arith}
use mathlib.Core.Path.{◌≡◌, refl, ap}
use mathlib.Core.List.{List, [], ◌∷◌, ◌++◌, append_assoc}
use lib.ListN.{length, drop, length-append}
use Rattle.hextext.specs.Text.{data_line, end_line}
use Rattle.hextext.specs.Meaning.{Line, data_record, end_record, Front, none, more, Meaning, bad, Ends, whole, stops, after, Means, means}
use Rattle.hextext.proofs.Spelled.{line_length}

front_length : {k : ℕ} {t b : List ℕ} → Front k t b → (length t ≡ 12 * k + 2 * length b) × (k ≤ length b)
front_length none = (refl, omega arith)
front_length (more {k = k} {t = t} {b = b} d f s) =
    let p = front_length f in
    let n = length-append b d in (
      omega (arith, p.0, n, length-append t (data_line (length b) d), line_length (length b) d),
      omega (arith, p.1, n, s.some),
    )

pub front_short : {k : ℕ} {t b : List ℕ} → Front k t b → (length t ≤ 918012) × (k ≤ 65536)
front_short none = (omega arith, omega arith)
front_short (more {t = t} {b = b} d f s) =
    let p = front_length f in (
      omega (arith, p.0, p.1, s.address, s.most, length-append t (data_line (length b) d), line_length (length b) d),
      omega (arith, p.1, s.address),
    )

-- the number of a bad line is at most that of what stands behind the end record
pub bad_bound : {t : List ℕ} {l : ℕ} → Means t (bad l) → l ≤ 65538
bad_bound (means {k = k} {b = b} f e) = go e
  where
    go : {rest : List ℕ} {l : ℕ} → Ends k b rest (bad l) → l ≤ 65538
    go (stops h) = omega (arith, (front_short f).1)
    go (after r h) = omega (arith, (front_short f).1)

-- a line that begins a text begins what is cut off the text's end, if it is not cut itself
uncut : (l m x y : List ℕ) → l ++ m ≡ x ++ y → length l ≤ length x → x ≡ l ++ drop (length l) x
uncut [] m x y e h = refl
uncut (a ∷ l) m [] y e h = absurd (omega arith)
uncut (a ∷ l) m (b ∷ x) y e h =
    let head : a ≡ b = cc in
    let tail = uncut l m x y (ap (drop 1) e) (omega arith) in
    cc

module _ {k : ℕ} {t b : List ℕ} (f : Front k t b) (y : List ℕ) where
  still_a_line : {s rest : List ℕ} → 918025 ≤ length t + length rest → Line (length b) s → s ≡ rest ++ y → Line (length b) rest
  still_a_line {rest = rest} long (data_record d s m) e =
      let line = data_line (length b) d in
      let fits : length line ≤ length rest =
      omega (arith, long, line_length (length b) d, (front_short (more d f s)).0, length-append t line) in
      rw (uncut line m rest y e fits) (data_record d s (drop (length line) rest))
  still_a_line {rest = rest} long (end_record m) e =
      rw (uncut end_line m rest y e (omega (arith, long, (front_short f).0))) (end_record (drop 12 rest))

  ends_alike : {rest : List ℕ} {m : Meaning} → 918025 ≤ length t + length rest → Ends k b rest m → Ends k b (rest ++ y) m
  ends_alike long whole = absurd (omega (arith, long, (front_short f).0))
  ends_alike long (stops h) = stops (λ l. h (still_a_line long l refl))
  ends_alike long (after r h) = rw (append_assoc end_line r y) (after (r ++ y) (omega (arith, h, length-append r y)))

-- what a text means by so many characters it means with any more behind them
pub first_decide : (x y : List ℕ) {m : Meaning} → 918025 ≤ length x → Means x m → Means (x ++ y) m
first_decide x y h (means {t = t} {rest = rest} f e) =
    rw (append_assoc t rest y) (means f (ends_alike f y (omega (arith, h, length-append t rest)) e))
