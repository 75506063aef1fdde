-- How long the text of the lines can be: an offset of at most four digits, a number of at most two, so at most 17 bytes a line.
-- Assumes nothing.
use Prim.Native.Nat.{ℕ, ◌+◌, ◌*◌, ◌/◌, ◌≤◌, ◌<◌}
use native.Mathlib.Omega.{arith}
use mathlib.Core.Path.{◌≡◌, refl}
use mathlib.Core.Bool.{Bool, true, false, cond}
use mathlib.Core.List.{List, [], ◌∷◌, ◌++◌, append-nil}
use lib.ListN.{length, drop, length-append, length-take, length-drop}
use lib.Dec.{ltb}
use borrow.Author.Tests.{ltb-false}
use Rattle.format.specs.Slots.{Bytes, byte}
use Rattle.format.specs.Records.{Record}
use Rattle.format.specs.Pins.{among}
use Rattle.format.specs.ZonesAndStrings.{role, zones, string_named, all_among}
use Rattle.format.specs.Decode.{read_description}
use Rattle.format.specs.Reader.{Outcome, took, stop, step}
use Rattle.format.specs.Writing.{writing}
use Rattle.format.specs.declared.pins.Chip.{Chip}
use Rattle.format.specs.declared.settings.Settings.{Settings}
use Rattle.format.specs.declared.records.Description.{Description}
use Rattle.format.proofs.Slots.{bytes_take}
use Rattle.format.proofs.Stepped.{Says, step_says}
use Rattle.spelling.specs.Spelling.{digit, digit_at, decimal}
use Rattle.saving.specs.Saving.{taken, At, at_place, elements, Change, left_out, cleared, Line, line, Saved, saved, records, Fate}
use Rattle.saving.specs.Saving.{stays, leaves, mends, unseen, settled, sift, answered, by_pass, passed, by_zone, unindexed}
use Rattle.saving.specs.Saving.{string_indexes, first_line, by_string, named, by_claim, in_zones, ending}
use Rattle.saving.specs.Lines.{change_text, line_text, text_of, new_text}
use Rattle.saving.proofs.Sifting.{All, all_snoc, by_test, sift_through}
use Rattle.saving.proofs.Standing.{Before, standing_before}
use Rattle.saving.proofs.Choosing.{in_zone, clashless}
use Rattle.saving.proofs.Bounds.{at_most_1457}

-- the number on a line has at most two digits
abbrev SmallFate : Fate → Type 0
SmallFate (stays r) = Unit {0}
SmallFate (leaves k) = k < 100
SmallFate (mends r) = Unit {0}
SmallFate unseen = Unit {0}

small_pass : (σ : Settings) (kept : List Record) (bs : List ℕ) → SmallFate (by_pass σ kept bs)
small_pass σ kept bs =
    by_test SmallFate (ltb (length kept) 96) (answered (step σ kept bs)) unseen (λ e. go (step σ kept bs) (step_says σ kept bs)) (λ e. tt)
  where
    go : (o : Outcome) → Says σ kept bs o → SmallFate (answered o)
    go (took r) h = tt
    go (stop k) h = h

small_chosen : (t : Bool) (r : Record) (k : ℕ) → k < 100 → SmallFate (cond t (stays r) (leaves k))
small_chosen true r k h = tt
small_chosen false r k h = h

small_mended : (t : Bool) (r q : Record) → SmallFate (cond t (stays r) (mends q))
small_mended true r q = tt
small_mended false r q = tt

-- each line: an old offset in the table and such a number
abbrev pub Lined : Line → Type 0
Lined l = (l.place < 4096) × (l.number < 100)

-- what is saved so far, and what is still to be looked at
abbrev Fine : Saved → Type 0
Fine s = All (Before 4096) s.kept × All Lined s.lines

fine_settled : (s : Saved) (p : ℕ) (f : Fate) → p + 3 ≤ 4096 → SmallFate f → Fine s → Fine (settled s p f)
fine_settled s p (stays r) h small g = (all_snoc (Before 4096) s.kept (at_place p r) g.0 h, g.1)
fine_settled s p (leaves k) h small g = (g.0, all_snoc Lined s.lines (line p k left_out) g.1 (omega arith, small))
fine_settled s p (mends r) h small g = (
  all_snoc (Before 4096) s.kept (at_place p r) g.0 h,
  all_snoc Lined s.lines (line p 14 cleared) g.1 (omega arith, omega arith),
)
fine_settled s p unseen h small g = g

fine_sift :
    {A : Type 0} (fate : List Record → A → Fate)
    → ((kept : List Record) (a : A) → SmallFate (fate kept a))
    → (s : Saved) (xs : List (At A))
    → All (Before 4096) xs
    → Fine s
    → Fine (sift fate s xs)
fine_sift fate small s xs h g =
    (sift_through fate (λ t ys. All (Before 4096) ys × Fine t)
    (λ t y ys p.
    let ks = records t.kept in
    (p.0.1, fine_settled t y.place (fate ks y.what) p.0.0 (small ks y.what) p.1))
    s xs (h, g)).1

first_fine : (declared : List ℕ) (d : Description) (ls : List Line) → All Lined ls → All Lined (ls ++ first_line declared d)
first_fine declared d ls h =
    by_test (λ (l : List Line). All Lined (ls ++ l)) (among d.string declared) [] (line 0 14 cleared ∷ [])
    (λ e. rw append-nil h)
    (λ e. all_snoc Lined ls (line 0 14 cleared) h (omega arith, omega arith))

pub lines_fine : (σ : Settings) (b : List ℕ) (d : Description) → length b ≤ 4096 → All Lined (ending d (in_zones σ b)).lines
lines_fine σ b d top =
    let s = passed σ b in
    let z = in_zones σ b in
    let n = named d z in
    let n0 = length (drop 16 b) in
    let q : n0 ≤ 4080 = omega (arith, length-drop 16 b) in
    let f =
    fine_sift (by_pass σ) (small_pass σ) (saved [] []) (elements b) (standing_before n0 16 4096 (drop 16 b) (omega arith)) (tt, tt) in
    let zs = zones (records s.kept) in
    let g =
    fine_sift (by_zone zs) (λ kept r. small_chosen (in_zone zs kept r) r 13 (omega arith)) (saved [] s.lines) s.kept
    f.0 (tt, f.1) in
    let is = string_indexes z in
    let m =
    fine_sift (by_string is) (λ kept r. small_mended (all_among (string_named (role r)) is) r (unindexed r))
    (saved [] (z.lines ++ first_line is d)) z.kept g.0 (tt, first_fine is d z.lines g.1) in
    (fine_sift (by_claim d) (λ kept r. small_chosen (clashless d kept r) r 15 (omega arith)) (saved [] n.lines) n.kept
    m.0 (tt, m.1)).1

-- decimals: a digit at a power of ten is only where the number reaches it
digit_count : (p n : ℕ) → (length (digit_at p n) ≤ 1) × (length (digit_at p n) * p ≤ n)
digit_count p n = go (ltb n p) refl
  where
    go : (t : Bool) → ltb n p ≡ t → (length (cond t [] (digit (n / p) ∷ [])) ≤ 1) × (length (cond t [] (digit (n / p) ∷ [])) * p ≤ n)
    go true e = omega arith
    go false e = omega (arith, ltb-false n p e)

pub decimal_length : (n : ℕ) → (n < 10000 → length (decimal n) ≤ 4) × (n < 100 → length (decimal n) ≤ 2)
unfolding decimal
decimal_length n =
    simp length-append
    (omega (
      arith,
      digit_count 10000000 n,
      digit_count 1000000 n,
      digit_count 100000 n,
      digit_count 10000 n,
      digit_count 1000 n,
      digit_count 100 n,
      digit_count 10 n,
    ))

pub change_length : (c : Change) → length (change_text c) ≤ 8
change_length left_out = omega arith
change_length cleared = omega arith

pub line_length : (l : Line) → Lined l → length (line_text l) ≤ 17
line_length l h =
    simp length-append
    (omega (arith, (decimal_length l.place).0 (omega arith), (decimal_length l.number).1 (omega arith), change_length l.change))

pub text_length : (ls : List Line) → All Lined ls → length (text_of ls) ≤ 17 * length ls
text_length [] h = omega arith
text_length (l ∷ ls) h = omega (arith, length-append (line_text l) (text_of ls), line_length l h.0, text_length ls h.1)

-- 'Every text fits into' the lent lines
pub text_short : (c : Chip) (file : List ℕ) → Bytes file → length (new_text c file) ≤ 24769
unfolding new_text
text_short c file small =
    let b = taken file in
    let d = read_description c (byte b) in
    let top : length b ≤ 4096 = omega (arith, length-take 4096 file) in
    omega (
      arith,
      text_length (ending d (in_zones (writing c) b)).lines (lines_fine (writing c) b d top),
      at_most_1457 (writing c) b d (bytes_take 4096 file small) top,
    )
