-- The walk over a text: its turns, and how it ends.
-- Assumes nothing.
use Prim.Native.Nat.{ℕ, suc, ◌+◌, ◌-◌, ◌*◌, ◌≤◌, ◌<◌}
use native.Mathlib.Omega.{arith}
use native.Mathlib.Numerals.{add-one}
use mathlib.Core.Path.{◌≡◌, refl, sym, ◌∙◌, ap, subst}
use mathlib.Core.Bool.{true, false}
use mathlib.Core.List.{List, [], ◌∷◌, ◌++◌}
use lib.ListN.{length, take, drop, length-append, length-drop, take-append-drop, get_or-append}
use lib.Seq.{take-append_seam, take_all, take_at, take-add, get_or-take}
use Rattle.format.specs.Slots.{byte}
use Rattle.format.specs.Writing.{overwritten}
use Rattle.hextext.specs.Text.{data_line, end_line}
use Rattle.hextext.specs.Meaning.{Line, data_record, end_record, Front, more, bytes, bad, Ends, whole, stops, after, Means, means}
use Rattle.hextext.proofs.Spelled.{line_length}
use Rattle.std.specs.Prelude.{Some, None, Result}
use Rattle.fromhex.specs.declared.BadLine.{BadLine}
use Rattle.fromhex.specs.Reading.{Begins, begins, begins_not, NoData, Opens, opens, opens_not}
use Rattle.fromhex.specs.Reading.{Said, sends, fails, Kept, kept, over, Midway, Through}

no_line : (a : ℕ) {t : List ℕ} → NoData a t → ((m : List ℕ) → t ≡ end_line ++ m → ⊥) → Line a t → ⊥
no_line a h h' (data_record d s m) = h d m s refl
no_line a h h' (end_record m) = h' m refl

-- what stands behind the last good data record
module _ {k : ℕ} {b t : List ℕ} where
  pub ends_whole : Begins t end_line true → length t ≡ 12 → Ends k b t (bytes b)
  ends_whole (begins e) h = rw (e ∙ rest) whole
    where
      rest : end_line ++ drop 12 t ≡ end_line
      rest = ap (λ (x : List ℕ). end_line ++ x) (nil (drop 12 t) (omega (arith, length-drop 12 t)))
        where
          nil : (l : List ℕ) → length l ≡ 0 → l ≡ []
          nil [] h = refl
          nil (x ∷ l) h = absurd (omega arith)

  pub ends_after : Begins t end_line true → (length t ≡ 12 → ⊥) → Ends k b t (bad (k + 2))
  ends_after (begins e) h =
      let n = length-append end_line (drop 12 t) in
      rw e (after (drop 12 t) (omega (arith, ap length e)))

  pub ends_bad : Begins t end_line false → NoData (length b) t → Ends k b t (bad (k + 1))
  ends_bad (begins_not h) h' = stops (no_line (length b) h' h)

pub concluded :
    {k : ℕ} {s b rest : List ℕ} {r : Result ℕ BadLine} → Front k s b → Said (Ends k b rest) b r → Said (Means (s ++ rest)) b r
concluded f (sends e) = sends (means f e)
concluded f (fails e) = fails (means f e)

-- what is kept of the bytes so far, and of them with more
pub kept_head : {b table : List ℕ} → 4096 < length b → Kept b table → byte table 0 ≡ byte b 0
kept_head {b} {table} h (kept e) = sym (get_or-take (length b) table 0 0 (omega arith)) ∙ ap (λ (x : List ℕ). byte x 0) e
kept_head h (over h' e) = e

pub kept_whole : {b table : List ℕ} → length b ≤ 4096 → Kept b table → take (length b) table ≡ b
kept_whole h (kept e) = e
kept_whole h (over h' e) = absurd (omega arith)

module _ {b table : List ℕ} (d : List ℕ) where
  pub kept_all : length b ≤ 4096 → Kept b table → Kept (b ++ d) (overwritten (length b) d table)
  kept_all h k = kept (rw (kept_whole h k) (take-append_seam (b ++ d) (drop (length b + length d) table)))

  pub kept_first : 4096 < length b → Kept b table → Kept (b ++ d) table
  kept_first h k = over (omega (arith, length-append b d)) (kept_head h k ∙ sym (get_or-append b d 0 0 (omega arith)))

-- one turn
pub closed : {a : ℕ} {t into : List ℕ} → Opens a t into None → NoData a t
closed (opens_not h) = h

-- the text from a place on
pub rest_is : {at k n : ℕ} {t table : List ℕ} → Midway t at k n table → take (length t - at) (drop at t) ≡ drop at t
rest_is {at} {t = t} w = take_all (length t - at) (drop at t) (omega (arith, length-drop at t))

pub advances : (t into : List ℕ) (at : ℕ) {n m : ℕ} → Opens n (drop at t) into (Some m) → at < length t
advances t into at {n} {m} (opens s l e) =
    let line = data_line n (take m into) in
    omega (
      arith,
      ap length e,
      length-append line (drop (12 + 2 * m) (drop at t)),
      line_length n (take m into),
      length-drop at t,
    )

pub finished :
    {t into table : List ℕ} {at k n : ℕ} {r : Result ℕ BadLine} (w : Midway t at k n table)
    → Opens n (drop at t) into None
    → ((b : List ℕ) → length b ≡ n → NoData n (drop at t) → Said (Ends k b (drop at t)) b r)
    → Through t table r
finished {t} {at = at} w o says =
    let said = concluded w.front (says w.b w.count (closed o)) in
    record { b = w.b; said = rw (take-append-drop at t) at said; holds = w.holds }

pub turned :
    {t into table table' : List ℕ} {at k n m : ℕ} (w : Midway t at k n table)
    → Opens n (drop at t) into (Some m)
    → Kept (w.b ++ take m into) table'
    → Midway t (at + (12 + 2 * m)) (k + 1) (n + m) table'
turned {t = t} {into = into} {at = at} {k = k} {n = n} {m = m} w (opens s l e) holds =
    let d = take m into in
    let size = line_length n d in
    let line : take (12 + 2 * m) (drop at t) ≡ data_line n d =
    ap (take (12 + 2 * m)) e ∙ take_at (data_line n d) (drop (12 + 2 * m) (drop at t)) (12 + 2 * m) (omega arith) in
    let next = more d w.front (rw w.count s) in
    let front : Front (k + 1) (take at t ++ data_line n d) (w.b ++ d) =
    rw add-one (subst (λ (x : ℕ). Front (suc k) (take at t ++ data_line x d) (w.b ++ d)) w.count next) in
    record {
      b = w.b ++ d;
      front = rw (take-add at (12 + 2 * m) t, line) front;
      count = omega (arith, length-append w.b d, w.count);
      place = omega (arith, w.place);
      within =
          omega (arith, w.within, ap length e, length-append (data_line n d) (drop (12 + 2 * m) (drop at t)), length-drop at t);
      holds = holds;
    }
