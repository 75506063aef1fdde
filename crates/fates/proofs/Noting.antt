-- One element more in the two arrays, by its fate; and what an entry at a position stands for.
-- Assumes nothing.
use Prim.Native.Nat.{ℕ, zero, suc, ◌+◌, ◌<◌}
use native.Mathlib.Omega.{arith}
use native.Mathlib.Numerals.{add-one}
use mathlib.Core.Path.{◌≡◌, refl, sym, ◌∙◌, ap, subst}
use mathlib.Core.Bool.{true, false}
use mathlib.Core.List.{List, [], ◌∷◌, ◌++◌}
use lib.ListN.{length, take, drop, get_or, set, length-set}
use lib.Seq.{take-suc-set}
use Rattle.format.specs.Records.{Record}
use Rattle.format.specs.declared.pins.Chip.{Chip}
use Rattle.saving.specs.Saving.{at_place, left_out, cleared, Line, line, Saved, settled}
use Rattle.saving.specs.Saving as saving
use Rattle.fates.specs.Noted.{Each, Keeps, Codes, Notes, Tells, Settles}
use Rattle.fates.specs.declared.Kept.{Kept}
use Rattle.fates.specs.declared.Note.{Note}
use Rattle.fates.specs.declared.Fate.{Fate}
use Rattle.fates.specs.declared.Fate.TheVariants.{Stays, Leaves, Mends}
use Rattle.fates.specs.declared.Counts.{Counts}

module _ {B A : Type 0} (R : B → A → Type 0) where
  pub each_snoc : (ns : List B) (xs : List A) (n : B) (x : A) → Each R ns xs → R n x → Each R (ns ++ n ∷ []) (xs ++ x ∷ [])
  each_snoc [] [] n x e r = (r, tt)
  each_snoc [] (y ∷ ys) n x e r = absurd e
  each_snoc (m ∷ ns) [] n x e r = absurd e
  each_snoc (m ∷ ns) (y ∷ ys) n x e r = (e.0, each_snoc ns ys n x e.1 r)

  pub each_length : (ns : List B) (xs : List A) → Each R ns xs → length ns ≡ length xs
  each_length [] [] e = refl
  each_length [] (y ∷ ys) e = absurd e
  each_length (m ∷ ns) [] e = absurd e
  each_length (m ∷ ns) (y ∷ ys) e = ap suc (each_length ns ys e.1)

  -- what stands at a position, and those behind it
  pub record Spot (ns : List B) (xs : List A) (i : ℕ) : Type 0 where
    pub x : A
    pub same : drop i xs ≡ x ∷ drop (suc i) xs
    pub stands : (d : B) → R (get_or ns i d) x

  pub each_at : (ns : List B) (xs : List A) (i : ℕ) → Each R ns xs → i < length ns → Spot ns xs i
  each_at [] xs i e h = absurd (omega arith)
  each_at (n ∷ ns) [] i e h = absurd e
  each_at (n ∷ ns) (x ∷ xs) zero e h = record { x = x; same = refl; stands = λ d. e.0 }
  each_at (n ∷ ns) (x ∷ xs) (suc i) e h =
      let s = each_at ns xs i e.1 (omega arith) in
      record { x = s.x; same = s.same; stands = s.stands }

  one_more :
      (l : List B) (xs : List A) (i : ℕ) (v : B) (x : A)
      → i < length l
      → Each R (take i l) xs
      → R v x
      → Each R (take (i + 1) (set l i v)) (xs ++ x ∷ [])
  one_more l xs i v x h e r =
      subst (λ (ns : List B). Each R ns (xs ++ x ∷ [])) (sym (ap (λ (m : ℕ). take m (set l i v)) (add-one i) ∙ take-suc-set l i v h))
      (each_snoc (take i l) xs v x e r)

module _ (c : Chip) (t : List ℕ) (kept : List Kept) (log : List Note) (n : Counts) (s : Saved) (h : Notes c t kept log n s) where
  pub noted_kept :
      (v : Kept) (p : ℕ) (r : Record) (m : Counts)
      → n.kept < 96
      → m.kept ≡ n.kept + 1
      → m.lines ≡ n.lines
      → Keeps c t v (at_place p r)
      → Notes c t (set kept n.kept v) log m (settled s p (saving.stays r))
  noted_kept v p r m b e f k =
      record {
        kept_long = length-set kept n.kept v ∙ h.kept_long;
        log_long = h.log_long;
        few = omega (arith, b, e);
        fitting = omega (arith, f, h.fitting);
        keeps = rw e (one_more (Keeps c t) kept s.kept n.kept v (at_place p r) (omega (arith, b, h.kept_long)) h.keeps k);
        codes = rw f h.codes;
      }

  pub noted_line :
      (v : Note) (l : Line) (m : Counts)
      → n.lines < 1649
      → m.kept ≡ n.kept
      → m.lines ≡ n.lines + 1
      → Codes v l
      → Notes c t kept (set log n.lines v) m (saving.saved s.kept (s.lines ++ l ∷ []))
  noted_line v l m b e f k =
      record {
        kept_long = h.kept_long;
        log_long = length-set log n.lines v ∙ h.log_long;
        few = omega (arith, e, h.few);
        fitting = omega (arith, b, f);
        keeps = rw e h.keeps;
        codes = rw f (one_more Codes log s.lines n.lines v l (omega (arith, b, h.log_long)) h.codes k);
      }

-- a line
abbrev pub leaving : ℕ → ℕ → Note
leaving p j = record { place = p; number = j; cleared = false }

abbrev pub clearing : ℕ → Note
clearing p = record { place = p; number = 14; cleared = true }

left_code : (held : Kept) (k j p : ℕ) → held.place < 4096 → j < 256 → j ≡ k → held.place ≡ p → Codes (leaving held.place j) (line p k left_out)
left_code held k j p b w e f = record { place = f; low = omega (arith, b, f); number = e; small = omega (arith, w, e); change = refl }

pub cleared_code : (q p : ℕ) → q < 4096 → q ≡ p → Codes (clearing q) (line p 14 cleared)
cleared_code q p b f = record { place = f; low = omega (arith, b, f); number = refl; small = omega arith; change = refl }

module _ (kept : List Kept) (log : List Note) (n m : Counts) (held : Kept) (few : n.kept < 96) (fit : n.lines < 1649) (low : held.place < 4096)
  where
    pub stays_settles :
        (fate : Fate) → fate ≡ Stays → m.kept ≡ n.kept + 1 → m.lines ≡ n.lines → Settles kept log n held fate m
        (set kept n.kept held) log
    stays_settles fate is e f = rw is (record { more_kept = omega (arith, e); more_lines = omega (arith, f); settles = go })
      where
        go :
            (c : Chip) (t : List ℕ) (s : Saved) (p : ℕ) (g : saving.Fate)
            → Notes c t kept log n s
            → Tells c t held p Stays g
            → Notes c t (set kept n.kept held) log m (settled s p g)
        go c t s p (saving.stays r) h w = noted_kept c t kept log n s h held p r m few e f w
        go c t s p (saving.leaves k) h w = absurd w
        go c t s p (saving.mends r) h w = absurd w
        go c t s p saving.unseen h w = absurd w

    pub leaves_settles :
        (fate : Fate) (j v : ℕ)
        → fate ≡ Leaves j
        → v ≡ j
        → j < 256
        → m.kept ≡ n.kept
        → m.lines ≡ n.lines + 1
        → Settles kept log n held fate m kept (set log n.lines (leaving held.place v))
    leaves_settles fate j v is number small e f = rw is (record { more_kept = omega (arith, e); more_lines = omega (arith, f); settles = go })
      where
        go :
            (c : Chip) (t : List ℕ) (s : Saved) (p : ℕ) (g : saving.Fate)
            → Notes c t kept log n s
            → Tells c t held p (Leaves j) g
            → Notes c t kept (set log n.lines (leaving held.place v)) m (settled s p g)
        go c t s p (saving.stays r) h w = absurd w
        go c t s p (saving.leaves k) h w =
            noted_line c t kept log n s h (leaving held.place v) (line p k left_out) m fit e f
            (left_code held k v p low (omega (arith, number, small)) (number ∙ w.0) w.1)
        go c t s p (saving.mends r) h w = absurd w
        go c t s p saving.unseen h w = absurd w

    abbrev mended : Kept
    mended = record { place = held.place; cleared = true }

    pub mends_settles :
        (fate : Fate)
        → fate ≡ Mends
        → m.kept ≡ n.kept + 1
        → m.lines ≡ n.lines + 1
        → Settles kept log n held fate m (set kept n.kept mended) (set log n.lines (clearing held.place))
    mends_settles fate is e f = rw is (record { more_kept = omega (arith, e); more_lines = omega (arith, f); settles = go })
      where
        mid : Counts
        mid = record { kept = n.kept + 1; lines = n.lines }

        go :
            (c : Chip) (t : List ℕ) (s : Saved) (p : ℕ) (g : saving.Fate)
            → Notes c t kept log n s
            → Tells c t held p Mends g
            → Notes c t (set kept n.kept mended) (set log n.lines (clearing held.place)) m (settled s p g)
        go c t s p (saving.stays r) h w = absurd w
        go c t s p (saving.leaves k) h w = absurd w
        go c t s p (saving.mends r) h w =
            let first = noted_kept c t kept log n s h mended p r mid few refl refl w.0 in
            noted_line c t (set kept n.kept mended) log mid (settled s p (saving.stays r)) first (clearing held.place) (line p 14 cleared) m fit e f
            (cleared_code held.place p low w.1)
        go c t s p saving.unseen h w = absurd w
