-- The data records of a list of bytes, as long as they are; and the part that goes into one.
-- Assumes nothing.
use Rattle.std.proofs.Common.{ℕ, zero, suc, ◌+◌, ◌*◌, ◌≤◌, ◌<◌, min, ◌≡◌, refl, sym, ap, ◌∙◌, List, ◌++◌, length, take, drop, arith}
use Rattle.std.proofs.lemmas.List.{length-append, length-take, length-drop, take_at, drop_at, take_min, drop_min, drop-drop}
use Rattle.hextext.specs.Text.{data_line, data_lines, line_count, data_text, end_line, hex_of}
use Rattle.hextext.proofs.Spelled.{line_length}

module _ (b : List ℕ) where
  pub lines_length : (k : ℕ) → k ≤ line_count (length b) → length (data_lines k b) ≡ 12 * k + 2 * min (16 * k) (length b)
  lines_length zero h = omega arith
  lines_length (suc k) h =
      let d = take 16 (drop (16 * k) b) in
      omega (
        arith,
        length-append (data_lines k b) (data_line (16 * k) d),
        lines_length k (omega arith),
        line_length (16 * k) d,
        length-take 16 (drop (16 * k) b),
        length-drop (16 * k) b,
      )

  pub hex_length : length (hex_of b) ≡ 12 * line_count (length b) + 2 * length b + 12
  unfolding hex_of
  hex_length =
      omega (arith, length-append (data_text b) end_line, lines_length (line_count (length b)) (omega arith))

  -- 16 bytes come off what is left, or as many as there are
  pub cut :
      (k : ℕ) (part rest : List ℕ)
      → drop (16 * k) b ≡ part ++ rest
      → length part ≡ min 16 (length (drop (16 * k) b))
      → 0 < length (drop (16 * k) b)
      → (part ≡ take 16 (drop (16 * k) b)) × (rest ≡ drop (16 * (k + 1)) b) × (k + 1 ≤ line_count (length b))
  cut k part rest e size some =
      let l = drop (16 * k) b in
      let left = length-drop (16 * k) b in
      let n : ℕ = length part in
      let front : take n l ≡ part = rw e (take_at part rest n refl) in
      let behind : drop n l ≡ rest = rw e (drop_at part rest n refl) in
      let on : drop 16 l ≡ drop (16 * (k + 1)) b = drop-drop 16 (16 * k) b ∙ ap (λ (m : ℕ). drop m b) (omega arith) in (
        sym front ∙ ap (λ (m : ℕ). take m l) size ∙ take_min 16 l,
        sym behind ∙ ap (λ (m : ℕ). drop m l) size ∙ drop_min 16 l ∙ on,
        omega arith,
      )
