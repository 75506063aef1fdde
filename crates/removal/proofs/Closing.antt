-- 13/14, of the bytes: closed up and mended, they are the layout of the others; so they are accepted exactly when nothing names the
-- element that went, and else refused with 13 or 14.
-- Assumes nothing.
use Prim.Native.Nat.{ℕ, zero, suc, ◌+◌, ◌-◌, ◌≤◌}
use native.Mathlib.Omega.{arith}
use mathlib.Core.Path.{◌≡◌, refl, sym, ap, subst}
use mathlib.Core.Bool.{Bool, true, false}
use mathlib.Core.List.{List, [], ◌∷◌, ◌++◌}
use mathlib.Core.Logic.{◌↔◌, ◌⊎◌, inl, inr}
use mathlib.Core.Option.{none, some}
use lib.ListN.{length, take, drop, length-append, length-take, length-drop}
use lib.Seq.{take_at}
use Rattle.format.specs.Slots.{Slot, word, written, Starts, Fits, Bytes}
use Rattle.format.specs.Records.{Record}
use Rattle.format.specs.Layout.{layout, layouts, opening, table, place_after}
use Rattle.format.specs.ZonesAndStrings.{zoneless, nameless}
use Rattle.format.specs.Asked.{nth}
use Rattle.format.specs.Writing.{overwritten}
use Rattle.format.specs.Verdict.{Accepts, Passed, Verdict, unzoned, unnamed}
use Rattle.format.specs.declared.settings.Settings.{Settings}
use Rattle.format.specs.Answers.{Refused}
use Rattle.format.specs.declared.records.Description.{Description}
use Rattle.format.proofs.Slots.{bytes_take, bytes_drop, bytes_append, starts_split, starts_rest}
use Rattle.format.proofs.Asking.{never_both, nth_split}
use Rattle.format.proofs.Lengths.{fits_length, layouts_append}
use Rattle.removal.specs.Taking.{without, place_of, named, cut, closed_up, closed}
use Rattle.removal.proofs.Passing.{part_passed}
use Rattle.removal.proofs.Taking.{without_part, unnamed_out, named_stays}

-- a piece cut out of the bytes is cut out of their layout
cut_starts :
    (ss mid ts : List Slot) (bs rest : List ℕ)
    → Starts bs (ss ++ (mid ++ ts)) rest
    → Starts (cut bs (length ss) (length mid)) (ss ++ ts) rest
cut_starts [] mid ts bs rest h =
    let c = starts_split bs mid ts rest h in
    rw (starts_rest bs mid c.0 c.1) at c.2
cut_starts (s ∷ ss) mid ts [] rest h = absurd h
cut_starts (s ∷ ss) mid ts (b ∷ bs) rest h = (h.0, cut_starts ss mid ts bs rest h.1)

-- bytes 1-2 tell another length
mend_starts :
    (d : Description) (m n : ℕ) (ts : List Slot) (bs rest : List ℕ)
    → Starts bs (opening d m ++ ts) rest
    → Starts (overwritten 1 (written (word n)) bs) (opening d n ++ ts) rest
mend_starts d m n ts [] rest h = absurd h
mend_starts d m n ts (a ∷ []) rest h = absurd h.1
mend_starts d m n ts (a ∷ b ∷ []) rest h = absurd h.1.1
mend_starts d m n ts (a ∷ b ∷ c ∷ bs) rest h = (h.0, (refl, (refl, h.1.1.1)))

-- both, of an element in the middle
closed_slots :
    (b : List ℕ) (d : Description) (n : ℕ) (ss mid ts : List Slot)
    → Fits b (opening d n ++ (ss ++ (mid ++ ts)))
    → Fits (closed_up b (16 + length ss) (length mid)) (opening d (16 + length (ss ++ ts)) ++ (ss ++ ts))
closed_slots b d n ss mid ts h =
    let at : length (opening d n ++ ss) ≡ 16 + length ss = omega arith in
    let c : Fits (cut b (16 + length ss) (length mid)) (opening d n ++ (ss ++ ts)) =
    subst (λ (i : ℕ). Fits (cut b i (length mid)) (opening d n ++ (ss ++ ts))) at (cut_starts (opening d n ++ ss) mid ts b [] h) in
    let m : length (cut b (16 + length ss) (length mid)) ≡ 16 + length (ss ++ ts) =
    omega (arith, fits_length (cut b (16 + length ss) (length mid)) (opening d n ++ (ss ++ ts)) c) in
    rw m (mend_starts d n (16 + length (ss ++ ts)) (ss ++ ts) (cut b (16 + length ss) (length mid)) [] c)

closed_between :
    (b : List ℕ) (d : Description) (xs : List Record) (r : Record) (ys : List Record)
    → Fits b (table d (xs ++ r ∷ ys))
    → Fits (closed_up b (place_after xs) (length (layout r))) (table d (xs ++ ys))
closed_between b d xs r ys h =
    rw (layouts_append xs ys)
    (closed_slots b d _ (layouts xs) (layout r) (layouts ys)
    (subst (λ (l : List Slot). Fits b (opening d (16 + length l) ++ l)) (layouts_append xs (r ∷ ys)) h))

-- .. of element k
without_split : (rs : List Record) (k : ℕ) → without k rs ≡ take k rs ++ drop (suc k) rs
without_split [] zero = refl
without_split [] (suc k) = refl
without_split (s ∷ rs) zero = refl
without_split (s ∷ rs) (suc k) = ap (λ (l : List Record). s ∷ l) (without_split rs k)

-- so many bytes are gone
without_bytes :
    (k : ℕ) (rs : List Record) {r : Record} → nth rs k ≡ some r → length (layouts rs) ≡ length (layouts (without k rs)) + length (layout r)
without_bytes k [] h = let z : ◌≡◌ {A = ℕ} 0 1 = cc in absurd (omega arith)
without_bytes zero (s ∷ rs) {r} h = let e : s ≡ r = cc in rw e (omega (arith, length-append (layout r) (layouts rs)))
without_bytes (suc k) (s ∷ rs) h =
    omega (arith, without_bytes k rs h, length-append (layout s) (layouts rs), length-append (layout s) (layouts (without k rs)))

-- every byte of what is closed up is one
word_bytes : (n : ℕ) → n ≤ 4096 → Bytes (written (word n))
word_bytes n top zero = omega arith
word_bytes n top (suc zero) = omega arith
word_bytes n top (suc (suc i)) = omega arith

closed_bytes : (b : List ℕ) (at n : ℕ) → length b ≤ 4096 → Bytes b → Bytes (closed_up b at n)
closed_bytes b at n limit small =
    let c = cut b at n in
    let top : length c ≤ 4096 = simp (length-append, length-take, length-drop) (omega arith) in
    let back = bytes_drop n (drop at b) (bytes_drop at b small) in
    let f : Bytes c = bytes_append (take at b) (drop n (drop at b)) (bytes_take at b small) back in
    bytes_append (take 1 c ++ written (word (length c))) (drop (1 + 2) c)
    (bytes_append (take 1 c) (written (word (length c))) (bytes_take 1 c f) (word_bytes (length c) top))
    (bytes_drop (1 + 2) c f)

module _ (σ : Settings) (b : List ℕ) (d : Description) (rs : List Record) (k : ℕ) {r : Record} (a : Accepts σ b d rs)
    (at : nth rs k ≡ some r) where
  -- the table without element k
  abbrev pub left : List ℕ
  left = closed_up b (place_of rs k) (length (layout r))

  pub closed_fits : Fits left (table d (without k rs))
  closed_fits =
      subst (λ (l : List Record). Fits left (table d l)) (sym (without_split rs k))
      (closed_between b d (take k rs) r (drop (suc k) rs) (subst (λ (l : List Record). Fits b (table d l)) (nth_split rs k at) a.fits))

  pub left_length : (length left ≡ length b - length (layout r)) × (length (layout r) ≤ length b) × (length b ≤ 4096)
  left_length =
      omega (
        arith,
        fits_length b (table d rs) a.fits,
        fits_length left (table d (without k rs)) closed_fits,
        without_bytes k rs at,
        a.keeps.limit,
      )

  left_passed : Passed σ left d (without k rs)
  left_passed =
      record {
        limit = omega (arith, left_length);
        fits = closed_fits;
        described = a.keeps.described;
        passed = part_passed σ (without_part k rs at) a.keeps.passed;
      }

  -- 'and the result is accepted'
  pub closed_accepted : named d rs r ≡ false → Accepts σ left d (without k rs)
  closed_accepted h = record { keeps = unnamed_out σ d rs k a.keeps at h; fits = closed_fits }

  -- 22: else it would be refused with 13 or 14
  pub closed_refused : named d rs r ≡ true → (p : ℕ) × (Verdict σ left (Refused 13 p) ⊎ Verdict σ left (Refused 14 p))
  closed_refused h = go (named_stays σ d rs k a.keeps at h)
    where
      go :
          ((p : ℕ) × (zoneless (without k rs) ≡ some p))
          ⊎ ((p : ℕ) × (zoneless (without k rs) ≡ none) × (nameless d (without k rs) ≡ some p))
          → (p : ℕ) × (Verdict σ left (Refused 13 p) ⊎ Verdict σ left (Refused 14 p))
      go (inl z) = (z.0, inl (unzoned d (without k rs) left_passed z.1))
      go (inr n) = (n.0, inr (unnamed d (without k rs) left_passed n.1 n.2))

  -- '22 exactly when the closed-up table would be refused'
  pub refused_exactly : Bytes b → (named d rs r ≡ true) ↔ ((j : ℕ) × (p : ℕ) × Verdict σ left (Refused j p))
  refused_exactly small = (there, λ v. back (named d rs r) refl v)
    where
      there : named d rs r ≡ true → (j : ℕ) × (p : ℕ) × Verdict σ left (Refused j p)
      there h = go (closed_refused h)
        where
          go : (p : ℕ) × (Verdict σ left (Refused 13 p) ⊎ Verdict σ left (Refused 14 p)) → (j : ℕ) × (p : ℕ) × Verdict σ left (Refused j p)
          go (p, inl v) = (13, p, v)
          go (p, inr v) = (14, p, v)

      back : (t : Bool) → named d rs r ≡ t → (j : ℕ) × (p : ℕ) × Verdict σ left (Refused j p) → t ≡ true
      back true e v = refl
      back false e v =
          let tiny = closed_bytes b (place_of rs k) (length (layout r)) left_length.2 small in
          absurd (never_both σ left d (without k rs) tiny (closed_accepted e) v.2)

  -- the front of the lent bytes, with what is past it
  pub closed_front : take (length b - length (layout r)) (closed b (place_of rs k) (length (layout r))) ≡ left
  closed_front = take_at left (drop (length b - length (layout r)) b) (length b - length (layout r)) left_length.0
