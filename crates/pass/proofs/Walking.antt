-- The code's walk over some bytes follows the reader's pass: the loop is where the pass is.
-- Assumes nothing.
use Prim.Native.Nat.{ℕ, zero, suc, ◌+◌, ◌-◌, ◌≤◌, ◌<◌}
use native.Mathlib.Omega.{arith}
use mathlib.Core.Path.{◌≡◌, refl, sym, ◌∙◌, ap}
use mathlib.Core.List.{List, [], ◌∷◌, ◌++◌}
use lib.ListN.{length, drop, length-drop, drop_of_length-le}
use lib.Seq.{drop-drop}
use Rattle.format.specs.Slots.{Bytes}
use Rattle.format.specs.Records.{Record}
use Rattle.format.specs.Layout.{layout, place_after}
use Rattle.format.specs.Verdict.{stated}
use Rattle.format.specs.Reader.{Outcome, took, stop, step, next, halted, through, pass}
use Rattle.format.specs.declared.settings.Settings.{Settings}
use Rattle.format.specs.declared.records.Description.{Description}
use Rattle.format.proofs.Slots.{bytes_drop}
use Rattle.format.proofs.Decoding.{starts_stated}
use Rattle.format.proofs.Stepped.{unframed}
use Rattle.format.proofs.Stepping.{Meets, step_meets}
use Rattle.format.proofs.Passing.{pass_nil}
use Rattle.format.proofs.Growing.{place_snoc}
use Rattle.pass.specs.Tracks.{Flags, Tracks, Moves, MoveIs, Took, none_yet, one_more, Walked}
use Rattle.pass.specs.declared.State.{State}
use Rattle.pass.specs.Steps.{Moved}
use Rattle.pass.specs.Steps.{Over}
use Rattle.pass.proofs.Moving.{unframed_short}

-- where the loop is: some elements are taken, and the state and the flags track them
pub record Onward (σ : Settings) (d : Description) (t : List ℕ) (base : ℕ) (before : List Record) (s : State) (f : Flags)
    (at : ℕ) : Type 0 where
  pub gone : List Record
  pub way : Took σ before base t gone (base + at) (drop at t)
  pub tracks : Tracks d s f gone
  pub place : base + at ≡ place_after gone

pub begin :
    (σ : Settings) (d : Description) (t : List ℕ) (base : ℕ) (before : List Record) (s : State) (f : Flags)
    → base ≡ place_after before
    → Tracks d s f before
    → Onward σ d t base before s f 0
begin σ d t base before s f e k =
    let z : base + 0 ≡ base = omega arith in
    record { gone = before; way = rw z none_yet; tracks = k; place = omega (arith, e) }

-- what a step that took an element says of it
pub took_stated :
    (σ : Settings) (before : List Record) (bs : List ℕ) (e : Record)
    → Bytes bs
    → 0 < length bs
    → step σ before bs ≡ took e
    → stated bs ≡ length (layout e)
took_stated σ before bs e small more q = go (step σ before bs) q (step_meets σ before bs small more)
  where
    go : (o : Outcome) → o ≡ took e → Meets σ before bs o → stated bs ≡ length (layout e)
    go (took x) p m = let z : x ≡ e = cc in starts_stated bs x _ m.2 ∙ ap (λ (y : Record). length (layout y)) z
    go (stop k) p m = let z : ◌≡◌ {A = ℕ} 0 1 = cc in absurd (omega arith)

module _
    (σ : Settings) (d : Description) (t : List ℕ) (base : ℕ) (before : List Record) (s : State) (f : Flags) (at : ℕ)
    (u : Onward σ d t base before s f at) (small : Bytes t) (r : Moved) (g : Flags) (h : at < length t)
  where
    abbrev here : List ℕ
    here = drop at t

    went :
        (e : Record)
        → step σ u.gone here ≡ took e
        → Moves t at d u.gone s f r g (took e)
        → Onward σ d t base before r.state g (at + r.len)
    went e q i =
        let m : (base + at) + stated here ≡ base + (at + r.len) = omega (arith, i.1) in
        let l : drop (stated here) here ≡ drop (at + r.len) t = drop-drop (stated here) at t
        ∙ ap (λ (n : ℕ). drop (at + n) t) (sym i.1) in
        let w = took_stated σ u.gone here e (bytes_drop at t small) (omega (arith, length-drop at t)) q in
        record {
          gone = u.gone ++ e ∷ [];
          way = rw (m, l) at (one_more e q (omega (arith, i.1, i.2)) (omega (arith, i.1, i.3, length-drop at t)) u.way);
          tracks = i.4;
          place = omega (arith, w, i.1, u.place, place_snoc u.gone e);
        }

    go_on_by :
        (o : Outcome)
        → r.stop ≡ 0
        → step σ u.gone here ≡ o
        → Moves t at d u.gone s f r g o
        → Onward σ d t base before r.state g (at + r.len)
    go_on_by (took e) z q i = went e q i
    go_on_by (stop k) z q i = absurd (omega (arith, i.0, i.1, z))

    pub go_on : MoveIs σ t at base s f r g → r.stop ≡ 0 → Onward σ d t base before r.state g (at + r.len)
    go_on w z = go_on_by (step σ u.gone here) z refl (w.moves d u.gone u.place u.tracks)

    stopped_by :
        (o : Outcome)
        → (r.stop ≡ 0 → ⊥)
        → step σ u.gone here ≡ o
        → Moves t at d u.gone s f r g o
        → (v : Over)
        → v.stop ≡ r.stop
        → v.place ≡ base + at
        → v.state ≡ r.state
        → Walked σ d t base before v g
    stopped_by (took e) z q i v a b c = absurd (z i.0)
    stopped_by (stop k) z q i v a b c =
        let m : base + at - base ≡ at = omega arith in
        record {
          gone = u.gone;
          left = here;
          way = rw b u.way;
          tracks = rw (c, i.2, i.3) u.tracks;
          place = b ∙ u.place;
          rest = rw (b, m) refl;
          ends = λ e. absurd (z (sym a ∙ e));
          more = λ _. omega (arith, length-drop at t);
          stops = λ _. q ∙ ap stop (sym (a ∙ i.0));
        }

    pub stopped :
        MoveIs σ t at base s f r g
        → (r.stop ≡ 0 → ⊥)
        → (v : Over)
        → v.stop ≡ r.stop
        → v.place ≡ base + at
        → v.state ≡ r.state
        → Walked σ d t base before v g
    stopped w z v a b c = stopped_by (step σ u.gone here) z refl (w.moves d u.gone u.place u.tracks) v a b c

module _
    (σ : Settings) (d : Description) (t : List ℕ) (base : ℕ) (before : List Record) (s : State) (f : Flags) (at : ℕ)
    (u : Onward σ d t base before s f at) (v : Over) (b : v.place ≡ base + at) (c : v.state ≡ s)
  where
    same : base + at - base ≡ at
    same = omega arith

    -- one or two bytes are left
    pub cut_short : at < length t → length t ≤ at + 2 → v.stop ≡ 6 → Walked σ d t base before v f
    cut_short h l a =
        record {
          gone = u.gone;
          left = drop at t;
          way = rw b u.way;
          tracks = rw c u.tracks;
          place = b ∙ u.place;
          rest = rw (b, same) refl;
          ends = λ e. absurd (omega (arith, a, e));
          more = λ _. omega (arith, length-drop at t);
          stops = λ _. unframed σ u.gone (drop at t) (unframed_short t at (omega arith)) ∙ ap stop (sym a);
        }

    -- no byte is left
    pub finish : length t ≤ at → v.stop ≡ 0 → Walked σ d t base before v f
    finish h a =
        record {
          gone = u.gone;
          left = drop at t;
          way = rw b u.way;
          tracks = rw c u.tracks;
          place = b ∙ u.place;
          rest = rw (b, same) refl;
          ends = λ _. drop_of_length-le t {i = at} h;
          more = λ z. absurd (z a);
          stops = λ z. absurd (z a);
        }

-- one turn of the pass
turn :
    (σ : Settings) (n : ℕ) (before : List Record) (p : ℕ) (bs : List ℕ)
    → 0 < length bs
    → length bs ≤ n
    → (m : ℕ) × (n ≡ suc m) × (pass σ n before p bs
    ≡ next (step σ before bs) (λ e. pass σ m (before ++ e ∷ []) (p + stated bs) (drop (stated bs) bs)) p)
unfolding pass
turn σ n before p [] h l = absurd (omega arith)
turn σ zero before p (b ∷ bs) h l = absurd (omega arith)
turn σ (suc m) before p (b ∷ bs) h l = (m, refl, refl)

-- the pass over the bytes goes on where some elements are taken
pub took_pass :
    (σ : Settings) {rs qs : List Record} {at p : ℕ} {bs left : List ℕ}
    → Took σ rs at bs qs p left
    → (n : ℕ)
    → length bs ≤ n
    → (m : ℕ) × (length left ≤ m) × (pass σ n rs at bs ≡ pass σ m qs p left)
took_pass σ none_yet n h = (n, h, refl)
took_pass σ (one_more {qs = qs} {p = p} {left = left} x e l g k) n h =
    let i = took_pass σ k n h in
    let t = turn σ i.0 qs p left (omega arith) i.1 in
    (t.0, omega (arith, i.1, t.1, length-drop (stated left) left), i.2 ∙ t.2 ∙ rw e refl)

-- so the walk over a whole table's elements comes to what the pass comes to
module _ (σ : Settings) (d : Description) (t : List ℕ) (base : ℕ) (before : List Record) (r : Over) (f : Flags)
    (w : Walked σ d t base before r f) where
  pub walk_through : r.stop ≡ 0 → pass σ (length t) before base t ≡ through w.gone
  walk_through z =
      let i = took_pass σ w.way (length t) (omega arith) in
      i.2 ∙ ap (pass σ i.0 w.gone r.place) (w.ends z) ∙ pass_nil σ i.0 w.gone r.place

  pub walk_halted : (r.stop ≡ 0 → ⊥) → pass σ (length t) before base t ≡ halted r.stop r.place
  walk_halted z =
      let i = took_pass σ w.way (length t) (omega arith) in
      let q = turn σ i.0 w.gone r.place w.left (w.more z) i.1 in
      i.2 ∙ q.2 ∙ rw (w.stops z) refl
