-- The pass over the elements: what it comes to holds of the bytes, and nothing else does.
-- Assumes nothing.
use Prim.Native.Nat.{ℕ, zero, suc, ◌+◌, ◌≤◌, ◌<◌}
use native.Mathlib.Omega.{arith}
use native.Mathlib.Nat.{add-zero}
use mathlib.Core.Path.{◌≡◌, refl, sym, ◌∙◌, ap, subst}
use mathlib.Core.List.{List, [], ◌∷◌, ◌++◌, append-nil}
use mathlib.Core.Option.{none}
use lib.ListN.{length, drop, length-append, length-drop}
use lib.Seq.{append_snoc}
use Rattle.format.specs.Slots.{Starts, Fits, Bytes}
use Rattle.format.specs.Records.{Record}
use Rattle.format.specs.Layout.{layout, layouts}
use Rattle.format.specs.Table.{element_breaks, PassKept}
use Rattle.format.specs.Verdict.{stated, Breaks}
use Rattle.format.specs.Reader.{step, Outcome, took, stop, Result, halted, through, next, pass}
use Rattle.format.proofs.Slots.{bytes_drop, starts_append, starts_split, starts_length}
use Rattle.format.proofs.Decoding.{starts_stated, starts_next}
use Rattle.format.proofs.Stepping.{Meets, step_meets, step_took, step_stop, breaks_more}
use Rattle.format.specs.declared.settings.Settings.{Settings}

module _ (s : Settings) where
  -- what the pass's result says of the bytes
  abbrev pub Ends : List Record → ℕ → List ℕ → Result → Type 0
  Ends before at bs (halted k q) =
      (rs : List Record) × (here : List ℕ)
      × Starts bs (layouts rs) here
      × PassKept s before rs
      × Breaks s (before ++ rs) here k
      × (q ≡ at + length (layouts rs))
  Ends before at bs (through all) = (rs : List Record) × Fits bs (layouts rs) × PassKept s before rs × (all ≡ before ++ rs)

  -- one element more in front
  ends_more :
      (before : List Record) (at : ℕ) (bs : List ℕ) (r : Record) (o : Result)
      → Meets s before bs (took r)
      → Ends (before ++ r ∷ []) (at + stated bs) (drop (stated bs) bs) o
      → Ends before at bs o
  ends_more before at bs r (halted k q) m h = (
    r ∷ h.0,
    h.1,
    starts_append bs (layout r) (layouts h.0) (drop (stated bs) bs) h.1 m.2 h.2,
    (m.0, m.1, h.3),
    rw append_snoc at h.4,
    omega (arith, h.5, starts_stated bs r _ m.2, length-append (layout r) (layouts h.0)),
  )
  ends_more before at bs r (through all) m h = (
    r ∷ h.0,
    starts_append bs (layout r) (layouts h.0) (drop (stated bs) bs) [] m.2 h.1,
    (m.0, m.1, h.2),
    rw append_snoc at h.3,
  )

  next_ends :
      (n : ℕ) (before : List Record) (at : ℕ) (bs : List ℕ) (go : Record → Result)
      → length bs ≤ suc n
      → ((r : Record) → length (drop (stated bs) bs) ≤ n → Ends (before ++ r ∷ []) (at + stated bs) (drop (stated bs) bs) (go r))
      → (o : Outcome)
      → Meets s before bs o
      → Ends before at bs (next o go at)
  next_ends n before at bs go h rec (took r) m =
      ends_more before at bs r (go r) m
      (rec r (omega (arith, starts_stated bs r _ m.2, length-drop (stated bs) bs)))
  next_ends n before at bs go h rec (stop k) m = ([], bs, refl, tt, rw append-nil m, sym (add-zero at))

  pub pass_meets :
      (n : ℕ) (before : List Record) (at : ℕ) (bs : List ℕ) → Bytes bs → length bs ≤ n → Ends before at bs (pass s n before at bs)
  unfolding pass
  pass_meets zero before at [] small h = ([], refl, tt, sym (append-nil before))
  pass_meets zero before at (b ∷ bs) small h = absurd (omega arith)
  pass_meets (suc n) before at [] small h = ([], refl, tt, sym (append-nil before))
  pass_meets (suc n) before at (b ∷ bs) small h =
      next_ends n before at (b ∷ bs) _ h
      (λ r f. pass_meets n (before ++ r ∷ []) (at + stated (b ∷ bs)) (drop (stated (b ∷ bs)) (b ∷ bs))
      (bytes_drop (stated (b ∷ bs)) (b ∷ bs) small) f)
      (step s before (b ∷ bs))
      (step_meets s before (b ∷ bs) small (omega arith))

  -- the pass over an element that breaks no rule, and at one that does
  pass_took :
      (n : ℕ) (before : List Record) (at : ℕ) (bs : List ℕ) (r : Record) (rest : List ℕ)
      → length bs ≤ suc n
      → length before < 96
      → element_breaks s before r ≡ none
      → Starts bs (layout r) rest
      → pass s (suc n) before at bs ≡ pass s n (before ++ r ∷ []) (at + length (layout r)) rest
  unfolding pass
  pass_took n before at [] r rest h few u st = absurd st
  pass_took n before at (b ∷ bs) r rest h few u st =
      simp (step_took s before (b ∷ bs) r rest few u st, ← (starts_stated (b ∷ bs) r rest st), starts_next (b ∷ bs) r rest st)

  pub pass_stop :
      (n : ℕ) (before : List Record) (at : ℕ) (bs : List ℕ) {k : ℕ}
      → length bs ≤ n
      → 0 < length bs
      → Bytes bs
      → Breaks s before bs k
      → pass s n before at bs ≡ halted k at
  unfolding pass
  pass_stop n before at [] h more small b = absurd (omega arith)
  pass_stop zero before at (x ∷ bs) h more small b = absurd (omega arith)
  pass_stop (suc n) before at (x ∷ bs) h more small b = simp (step_stop s before (x ∷ bs) small b)

  -- over elements that break no rule, the pass comes to what follows them
  pub record Walked (n : ℕ) (before : List Record) (at : ℕ) (bs : List ℕ) (rs : List Record) (here : List ℕ) : Type 0 where
    pub left : ℕ
    pub enough : length here ≤ left
    pub small : Bytes here
    pub same : pass s n before at bs ≡ pass s left (before ++ rs) (at + length (layouts rs)) here

  walk_more :
      (n : ℕ) (before : List Record) (at : ℕ) (bs mid : List ℕ) (r : Record) (rs : List Record) (here : List ℕ)
      → pass s (suc n) before at bs ≡ pass s n (before ++ r ∷ []) (at + length (layout r)) mid
      → Walked n (before ++ r ∷ []) (at + length (layout r)) mid rs here
      → Walked (suc n) before at bs (r ∷ rs) here
  walk_more n before at bs mid r rs here t w =
      record {
        left = w.left;
        enough = w.enough;
        small = w.small;
        same =
            let place : at + length (layout r) + length (layouts rs) ≡ at + length (layouts (r ∷ rs)) =
            omega (arith, length-append (layout r) (layouts rs)) in
            t ∙ rw (append_snoc, place) at w.same;
      }

  pub walk :
      (rs : List Record) (n : ℕ) (before : List Record) (at : ℕ) (bs here : List ℕ)
      → Bytes bs
      → length bs ≤ n
      → Starts bs (layouts rs) here
      → PassKept s before rs
      → Walked n before at bs rs here
  walk [] n before at bs here small h st kept =
      subst (λ (l : List ℕ). Walked n before at bs [] l) st
      (record { left = n; enough = h; small = small; same = simp (append-nil, add-zero) })
  walk (r ∷ rs) zero before at bs here small h st kept =
      let c = starts_split bs (layout r) (layouts rs) here st in
      absurd (omega (arith, starts_length bs (layout r) c.0 c.1))
  walk (r ∷ rs) (suc n) before at bs here small h st kept =
      let c = starts_split bs (layout r) (layouts rs) here st in
      let mid : c.0 ≡ drop (stated bs) bs = starts_next bs r c.0 c.1 in
      walk_more n before at bs c.0 r rs here (pass_took n before at bs r c.0 h kept.0 kept.1 c.1)
      (walk rs n (before ++ r ∷ []) (at + length (layout r)) c.0 here (rw mid (bytes_drop (stated bs) bs small))
      (rw mid (omega (arith, starts_stated bs r c.0 c.1, length-drop (stated bs) bs)))
      c.2
      kept.2)

  pub pass_nil : (n : ℕ) (before : List Record) (at : ℕ) → pass s n before at [] ≡ through before
  unfolding pass
  pass_nil zero before at = refl
  pass_nil (suc n) before at = refl

  -- nothing else ends so
  pub pass_only :
      (n : ℕ) (at : ℕ) (bs : List ℕ) (o : Result) → Bytes bs → length bs ≤ n → Ends [] at bs o → pass s n [] at bs ≡ o
  pass_only n at bs (halted k q) small h e =
      let w = walk e.0 n [] at bs e.1 small h e.2 e.3 in
      w.same
      ∙ pass_stop w.left e.0 _ e.1 w.enough (breaks_more s e.0 e.1 e.4) w.small e.4
      ∙ ap (halted k) (sym e.5)
  pass_only n at bs (through all) small h e =
      let w = walk e.0 n [] at bs [] small h e.1 e.2 in
      w.same ∙ pass_nil w.left e.0 _ ∙ ap through (sym e.3)
