-- The code's step at a place of the table is the reader's.
-- Assumes nothing.
use Prim.Native.Nat.{ℕ, ◌+◌, ◌-◌, ◌*◌, ◌<◌, ◌≤◌}
use native.Mathlib.Omega.{arith}
use mathlib.Core.Path.{◌≡◌, refl, sym, ◌∙◌, ap}
use mathlib.Core.Bool.{Bool, true, false, ◌&&◌}
use mathlib.Core.List.{List}
use lib.ListN.{length, get_or, take, drop, length-drop}
use lib.Seq.{drop-drop, get_or-drop}
use lib.Dec.{leb}
use borrow.Author.Tests.{le-leb, lt-leb}
use Rattle.format.specs.Slots.{byte}
use Rattle.format.specs.Records.{Record}
use Rattle.format.specs.Verdict.{stated, framed, known}
use Rattle.format.specs.Decode.{content, decode}
use Rattle.format.specs.Reader.{judge, or_stop, Outcome, took, stop}
use Rattle.format.specs.declared.settings.Settings.{Settings}
use Rattle.format.specs.declared.records.Description.{Description}
use Rattle.format.proofs.Stepped.{unframed, crowded_out, by_identifier}
use Rattle.pass.specs.Tracks.{Flags, Low, Went, TakeIs, Moves, MoveIs}
use Rattle.pass.specs.declared.State.{State}
use Rattle.pass.specs.Steps.{Step}
use Rattle.pass.specs.Steps.{Moved}

-- the header
pub stated_at : (t : List ℕ) (at : ℕ) {a b : ℕ} → a ≡ byte t (at + 1) → b ≡ byte t (at + 2) → a + 256 * b ≡ stated (drop at t)
stated_at t at p q = rw (get_or-drop at t 1 0, get_or-drop at t 2 0, p, q) refl

and-false : (a b : Bool) → b ≡ false → a && b ≡ false
and-false true b h = h
and-false false b h = refl

pub unframed_short : (t : List ℕ) (at : ℕ) → length t - at < 3 → framed (drop at t) ≡ false
unframed_short t at h = rw (lt-leb 3 (length (drop at t)) (omega (arith, length-drop at t))) refl

pub unframed_small : (t : List ℕ) (at : ℕ) {n : ℕ} → n ≡ stated (drop at t) → n < 3 → framed (drop at t) ≡ false
unframed_small t at p h =
    and-false (leb 3 (length (drop at t))) _ (rw (lt-leb 3 (stated (drop at t)) (omega (arith, p))) refl)

pub unframed_long : (t : List ℕ) (at : ℕ) {n : ℕ} → n ≡ stated (drop at t) → length t - at < n → framed (drop at t) ≡ false
unframed_long t at p h =
    and-false (leb 3 (length (drop at t))) _
    (and-false (leb 3 (stated (drop at t))) _ (lt-leb (stated (drop at t)) (length (drop at t)) (omega (arith, p, length-drop at t))))

pub framed_good : (t : List ℕ) (at : ℕ) {n : ℕ} → n ≡ stated (drop at t) → 3 ≤ n → n ≤ length t - at → framed (drop at t) ≡ true
framed_good t at p g h =
    rw (
      le-leb 3 (length (drop at t)) (omega (arith, length-drop at t)),
      le-leb 3 (stated (drop at t)) (omega (arith, p)),
      le-leb (stated (drop at t)) (length (drop at t)) (omega (arith, p, length-drop at t)),
    ) refl

pub content_at :
    (t : List ℕ) (at : ℕ) {n : ℕ} → n ≡ stated (drop at t) → 3 ≤ n → take (at + n - (at + 3)) (drop (at + 3) t) ≡ content (drop at t)
content_at t at {n} p g =
    let e : at + n - (at + 3) ≡ stated (drop at t) - 3 = omega (arith, p) in
    rw (e, drop-drop 3 at t) refl

byte_first : (t : List ℕ) (at : ℕ) → byte (drop at t) 0 ≡ byte t at
byte_first t at = get_or-drop at t 0 0 ∙ ap (λ (n : ℕ). get_or t n 0) (omega arith)

module _ (σ : Settings) (t : List ℕ) (at base : ℕ) (s : State) (f : Flags) (r : Moved) (g : Flags) where
  pub move_6 : Low r.state → r.stop ≡ 6 → r.state ≡ s → g ≡ f → framed (drop at t) ≡ false → MoveIs σ t at base s f r g
  move_6 low p q w e =
      record {
        low = low;
        fits = λ z. absurd (omega (arith, z, p));
        moves = λ d before place k. rw (unframed σ before (drop at t) e) (p, omega arith, q, w);
      }

  pub move_11 :
      Low r.state
      → r.stop ≡ 11
      → r.state ≡ s
      → g ≡ f
      → framed (drop at t) ≡ true
      → 96 ≤ s.count
      → MoveIs σ t at base s f r g
  move_11 low p q w e h =
      record {
        low = low;
        fits = λ z. absurd (omega (arith, z, p));
        moves = λ d before place k. rw (crowded_out σ before (drop at t) e (omega (arith, k.count))) (p, omega arith, q, w);
      }

  moved :
      (d : Description) (before : List Record) (q : Step) (o : Outcome)
      → Went d before s f q g o
      → r.stop ≡ q.stop
      → r.state ≡ q.state
      → (r.stop ≡ 0 → (r.len ≡ stated (drop at t)) × (3 ≤ r.len) × (at + r.len ≤ length t))
      → Moves t at d before s f r g o
  moved d before q (took x) w p st l = let m = l (p ∙ w.0) in (p ∙ w.0, m.0, m.1, m.2, rw st w.1)
  moved d before q (stop k) w p st l = (p ∙ w.0, w.1, st ∙ w.2, w.3)

  pub move_on :
      (q : Step) {id n : ℕ} {c : List ℕ}
      → id ≡ byte t at
      → c ≡ content (drop at t)
      → TakeIs σ id c (base + at) s f q g
      → r.stop ≡ q.stop
      → r.state ≡ q.state
      → (r.stop ≡ 0 → r.len ≡ n)
      → n ≡ stated (drop at t)
      → 3 ≤ n
      → n ≤ length t - at
      → at ≤ length t
      → s.count < 96
      → MoveIs σ t at base s f r g
  move_on q {id} {n} {c} i same w p st z l m h k few =
      let d : id ≡ byte (drop at t) 0 = i ∙ sym (byte_first t at) in
      record {
        low = rw st w.low;
        fits = λ o. rw (z o) (m, omega arith);
        moves =
            λ e before place k.
            rw (by_identifier σ before (drop at t) (framed_good t at l m h) (omega (arith, k.count)), ← d, ← same)
            (moved e before q (or_stop (known id) 7 (judge σ before (decode σ.chip id c))) (w.takes e before place k) p st
            (λ o. (z o ∙ l, rw (z o) m, rw (z o) (omega arith))));
      }
