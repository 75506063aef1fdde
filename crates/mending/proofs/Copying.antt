-- The bytes of what is kept as they stand: how long they are, and runs of them.
-- Assumes nothing.
use Prim.Native.Nat.{ℕ, ◌+◌, ◌-◌, ◌≤◌, ◌<◌}
use native.Mathlib.Omega.{arith}
use native.Mathlib.Numerals.{add-one}
use mathlib.Core.Path.{◌≡◌, refl, sym, ◌∙◌, ap, subst}
use mathlib.Core.List.{List, [], ◌∷◌, ◌++◌, append-nil, append_assoc}
use lib.ListN.{length, take, drop, get_or, length-append, length-drop, take-append-drop}
use lib.Seq.{take-suc, take_all, take-add, drop-drop, length-take-le}
use Rattle.format.specs.Records.{Record}
use Rattle.format.specs.Layout.{layout, layouts}
use Rattle.format.specs.Verdict.{stated}
use Rattle.format.specs.Writing.{overwritten}
use Rattle.format.specs.declared.pins.Chip.{Chip}
use Rattle.spelling.specs.Spelling.{Put}
use Rattle.spelling.proofs.Putting.{then, put_one}
use Rattle.saving.specs.Saving.{At, records}
use Rattle.fates.specs.declared.Kept.{Kept}
use Rattle.fates.specs.Noted.{Each, Keeps}
use Rattle.mending.specs.Laid.{nobody, place_at, raw, raws, RunIs, Copied}
use Rattle.mending.specs.declared.Run.{Run}
use Rattle.mending.proofs.Laying.{raw_length}

raws_append : (t : List ℕ) (xs ys : List Kept) → raws t (xs ++ ys) ≡ raws t xs ++ raws t ys
raws_append t [] ys = refl
raws_append t (x ∷ xs) ys =
    ap (λ (l : List ℕ). raw t x ++ l) (raws_append t xs ys) ∙ sym (append_assoc (raw t x) (raws t xs) (raws t ys))

raws_next :
    (t : List ℕ) (kept : List Kept) (j : ℕ) (v : Kept)
    → j < length kept
    → raws t (take (j + 1) kept) ≡ raws t (take j kept) ++ raw t (get_or kept j v)
raws_next t kept j v h =
    ap (raws t) (ap (λ (m : ℕ). take m kept) (add-one j) ∙ take-suc kept j v h)
    ∙ raws_append t (take j kept) (get_or kept j v ∷ [])
    ∙ ap (λ (l : List ℕ). raws t (take j kept) ++ l) (append-nil (raw t (get_or kept j v)))

-- fewer are no longer
pub raws_most : (t : List ℕ) (kept : List Kept) (j : ℕ) → length (raws t (take j kept)) ≤ length (raws t kept)
raws_most t kept j =
    let a = raws t (take j kept) in
    let b = raws t (drop j kept) in
    let e : raws t kept ≡ a ++ b = ap (raws t) (sym (take-append-drop j kept)) ∙ raws_append t (take j kept) (drop j kept) in
    omega (arith, ap length e, length-append a b)

-- as long as the layouts
pub raws_length :
    (c : Chip) (t : List ℕ) (ns : List Kept) (ks : List (At Record)) → Each (Keeps c t) ns ks → length (raws t ns) ≡ length (layouts (records ks))
raws_length c t [] [] h = refl
raws_length c t [] (k ∷ ks) h = absurd h
raws_length c t (n ∷ ns) [] h = absurd h
raws_length c t (n ∷ ns) (k ∷ ks) h =
    omega (
      arith,
      length-append (raw t n) (raws t ns),
      length-append (layout k.what) (layouts (records ks)),
      raw_length c t n k h.0,
      raws_length c t ns ks h.1,
    )

-- a run so far: from the i-th on
abbrev pub Running : List ℕ → List Kept → ℕ → ℕ → ℕ → Type 0
Running t kept i j to =
    raws t (take j kept) ≡ raws t (take i kept) ++ take (to - place_at kept i) (drop (place_at kept i) t)

module _ (t : List ℕ) (kept : List Kept) (i len : ℕ) where
  pub run_begun : i < length kept → len ≡ stated (drop (place_at kept i) t) → Running t kept i (i + 1) (place_at kept i + len)
  run_begun h e =
      let from = place_at kept i in
      let n : stated (drop from t) ≡ from + len - from = omega (arith, e) in
      raws_next t kept i _ h ∙ ap (λ (m : ℕ). raws t (take i kept) ++ take m (drop from t)) n

  pub run_on :
      (j to : ℕ)
      → j < length kept
      → place_at kept i ≤ to
      → place_at kept j ≡ to
      → len ≡ stated (drop to t)
      → Running t kept i j to
      → Running t kept i (j + 1) (to + len)
  run_on j to h low same e w =
      let from = place_at kept i in
      let a = raws t (take i kept) in
      let b = take (to - from) (drop from t) in
      let m : (to - from) + len ≡ to + len - from = omega (arith, low) in
      let p : from + (to - from) ≡ to = omega (arith, low) in
      let one : raw t (get_or kept j nobody) ≡ take len (drop (to - from) (drop from t)) =
      ap (λ (q : ℕ). take (stated (drop q t)) (drop q t)) same
      ∙ ap (λ (q : ℕ). take q (drop to t)) (sym e)
      ∙ ap (λ (l : List ℕ). take len l) (sym (drop-drop (to - from) from t ∙ ap (λ (q : ℕ). drop q t) p)) in
      raws_next t kept j nobody h
      ∙ ap (λ (l : List ℕ). l ++ raw t (get_or kept j nobody)) w
      ∙ append_assoc a b (raw t (get_or kept j nobody))
      ∙ ap (λ (l : List ℕ). a ++ (b ++ l)) one
      ∙ ap (λ (l : List ℕ). a ++ l) (sym (take-add (to - from) len (drop from t)) ∙ ap (λ (q : ℕ). take q (drop from t)) m)

-- a run is copied behind those before it
module _ (t : List ℕ) (kept : List Kept) (i : ℕ) (r : Run) (w : RunIs t kept i r) (out₀ : List ℕ) (end : ℕ) (out : List ℕ)
    (put : Put out₀ 16 (raws t (take i kept)) end out) (few : 16 + length (raws t kept) ≤ length out₀) where
  abbrev from : ℕ
  from = place_at kept i

  abbrev run : List ℕ
  run = take (r.to - from) (drop from t)

  run_length : length run ≡ r.to - from
  run_length = length-take-le (r.to - from) (drop from t) (omega (arith, w.inside, length-drop from t))

  pub run_room : (end + length run ≤ length out) × (end + (r.to - from) ≤ 16 + length (raws t kept))
  run_room =
      let e : length (raws t (take r.next kept)) ≡ length (raws t (take i kept)) + length run =
      ap length w.bytes ∙ length-append (raws t (take i kept)) run in
      let m = raws_most t kept r.next in
      (omega (arith, e, m, few, put.ends, put.long), omega (arith, e, m, run_length, put.ends))

  pub run_put : (out' : List ℕ) → out' ≡ overwritten end run out → Put out₀ 16 (raws t (take r.next kept)) (end + (r.to - from)) out'
  run_put out' is =
      let a = raws t (take i kept) in
      let p = then put (put_one out end run run_room.0) in
      let q = subst (λ (l : List ℕ). Put out₀ 16 (a ++ run) (end + length run) l) (sym is) p in
      let s = subst (λ (m : ℕ). Put out₀ 16 (a ++ run) (end + m) out') run_length q in
      subst (λ (l : List ℕ). Put out₀ 16 l (end + (r.to - from)) out') (sym w.bytes) s

pub copy_ends :
    (t : List ℕ) (kept : List Kept) (i end : ℕ) (out₀ out : List ℕ)
    → length kept ≤ i
    → Put out₀ 16 (raws t (take i kept)) end out
    → Copied t kept out₀ out
copy_ends t kept i end out₀ out b put =
    let p = subst (λ (l : List Kept). Put out₀ 16 (raws t l) end out) (take_all i kept b) put in
    subst (λ (m : ℕ). Put out₀ 16 (raws t kept) m out) p.ends p
