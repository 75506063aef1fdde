-- Whole elements by the walk over a whole table: what it took is named, and the pass goes on after it or is stopped.
-- Assumes nothing.
use Prim.Native.Nat.{ℕ, ◌+◌, ◌-◌, ◌<◌, ◌≤◌}
use native.Mathlib.Omega.{arith}
use mathlib.Core.Path.{◌≡◌, refl, sym, ◌∙◌, ap, subst}
use mathlib.Core.Bool.{Bool, true, false, ◌&&◌, not, and-eq-true_iff, false≢true}
use mathlib.Core.Logic.{◌⊎◌, inl, inr}
use mathlib.Core.List.{List, []}
use lib.ListN.{length, drop, length-drop, drop_of_length-le}
use lib.Dec.{eqb, ltb}
use borrow.Author.Tests.{ltb-true, ltb-false, eqb-true, eqb-false, not-true}
use Rattle.format.specs.Slots.{Bytes}
use Rattle.format.specs.Records.{Record}
use Rattle.format.specs.Layout.{place_after}
use Rattle.format.specs.Verdict.{stated}
use Rattle.format.specs.Reader.{stop, step}
use Rattle.format.specs.declared.settings.Settings.{Settings}
use Rattle.format.specs.declared.records.Description.{Description}
use Rattle.format.proofs.Stepped.{unframed}
use Rattle.pass.specs.Tracks.{Flags, Took, none_yet, one_more, Walked, WalkIs}
use Rattle.pass.specs.declared.State.{State}
use Rattle.pass.specs.Steps.{Over}
use Rattle.pass.proofs.Moving.{unframed_short, unframed_long}
use Rattle.stream.specs.Running.{going, broken, unready, run_bytes}
use Rattle.stream.proofs.Running.{Lacks, header, bytes, lacks, waits_bytes, ready_full}
use Rattle.stream.proofs.Runs.{run_whole}
use Rattle.naming.specs.Naming.{AllNamed}
use Rattle.naming.proofs.Taken.{First, none_taken, first_taken, first_of, took_run, run_stopped}
use Rattle.closing.specs.Ways.{Gone, WayIs, Onward, Whole, Then}
use Rattle.closing.specs.declared.Way.{Way}
use Rattle.closing.specs.declared.Ran.{Ran}
use Rattle.closing.proofs.Ending.{on_after}

-- no element is taken from no bytes
took_nil : (σ : Settings) {rs qs : List Record} {a b : ℕ} {bs left : List ℕ} → Took σ rs a bs qs b left → bs ≡ [] → left ≡ []
took_nil σ none_yet e = e
took_nil σ (one_more x q l g k) e = let z = took_nil σ k e in absurd (omega (arith, l, g, ap length z))

-- of one element that is all there: it is taken, or it is what stops the pass
alone :
    (σ : Settings) {rs qs : List Record} {a b n : ℕ} {bs left : List ℕ}
    → First σ rs a bs qs b left
    → stated bs ≡ length bs
    → 0 < length left
    → step σ qs left ≡ stop n
    → step σ rs bs ≡ stop n
alone σ none_taken e h q = q
alone σ {bs = bs} (first_taken x f l g k) e h q =
    absurd (omega (arith, h, ap length (took_nil σ k (drop_of_length-le bs {i = stated bs} (omega arith)))))

module _
    (σ : Settings) (p : List ℕ) (at : ℕ) (s : State) (f : Flags) (zp sp : List ℕ) (o : Over) (g : Flags) (w : WalkIs σ p at s f o g)
    (d : Description) (before : List Record) (small : Bytes p) (e : at ≡ place_after before) (k : Gone d s f zp sp before)
  where
    walked : Walked σ d p at before o g
    walked = w.walks d before small e k.tracks

    -- the rest, where the walk came to the end of what is all there
    rest_stops : (o.stop ≡ 0) ⊎ (o.stop ≡ 6) → o.place - at < length p → step σ walked.gone (drop (o.place - at) p) ≡ stop 6
    rest_stops (inl z) h =
        let n = ap length (sym walked.rest ∙ walked.ends z) in
        absurd (omega (arith, n, length-drop (o.place - at) p))
    rest_stops (inr z) h = ap (step σ walked.gone) (sym walked.rest) ∙ walked.stops (λ y. omega (arith, y, z)) ∙ ap stop z

    pub whole_goes :
        (r : Ran) (zp' sp' : List ℕ)
        → (o.stop ≡ 0) ⊎ (o.stop ≡ 6)
        → r.taken ≡ o.place - at
        → r.way.at ≡ o.place
        → r.way.state ≡ o.state
        → AllNamed p r.taken at zp sp zp' sp'
        → Onward σ d p at before r g zp' sp'
    whole_goes r zp' sp' z t a b n =
        let l : at + (o.place - at) ≡ o.place = omega (arith, w.from) in
        let path : Took σ before at p walked.gone o.place (drop (o.place - at) p) = rw walked.rest at walked.way in
        let m = n.all σ before walked.gone small (omega (arith, t, w.to, w.from)) e (rw (t, l) path) k.zone_first
        k.string_first in
        record {
          more = walked.gone;
          way = rw (a, t) path;
          left = record { tracks = rw b walked.tracks; zone_first = m.0; string_first = m.1 };
          place = a ∙ walked.place;
          rest = λ h. rw t (rest_stops z (omega (arith, h, t)));
        }

    pub whole_breaks : (o.stop ≡ 0 → ⊥) → (o.stop ≡ 6 → ⊥) → run_bytes σ (going before at []) p ≡ broken o.stop o.place
    whole_breaks n m = took_run σ walked.way ∙ run_stopped σ walked.gone o.place o.stop walked.left (walked.stops n) m

    -- one element that is all there: it is what stops the pass
    pub fixed_breaks :
        Whole p
        → (o.stop ≡ 0 → ⊥)
        → (v : Way) (head zp' sp' : List ℕ)
        → v.stop ≡ o.stop
        → v.at ≡ at
        → Then σ d before at p v head g zp' sp'
    fixed_breaks whole n v head zp' sp' a b =
        let q = alone σ (first_of σ walked.way) whole.1 (walked.more n) (walked.stops n) in
        rw q (a, omega (arith, n), b)

    -- or it is taken
    pub fixed_taken :
        Whole p
        → o.stop ≡ 0
        → (v : Way) (head zp' sp' : List ℕ)
        → length head ≡ 30
        → v.stop ≡ 0
        → v.at ≡ o.place
        → v.under.len ≡ 0
        → v.under.at ≡ 0
        → v.state ≡ o.state
        → AllNamed p (o.place - at) at zp sp zp' sp'
        → Then σ d before at p v head g zp' sp'
    fixed_taken whole z v head zp' sp' size a b c h i n =
        let m = whole_goes (record { taken = o.place - at; way = v }) zp' sp' (inl z) refl b i n in
        let l : length p ≤ o.place - at = omega (arith, ap length (sym walked.rest ∙ walked.ends z), length-drop (o.place - at) p) in
        let q : run_bytes σ (going before at []) p ≡ going m.more v.at [] =
        took_run σ m.way ∙ ap (run_bytes σ (going m.more v.at [])) (drop_of_length-le p {i = o.place - at} l) in
        subst (WayIs d v head g zp' sp') (sym q ∙ run_whole σ before at [] p (omega (arith, whole.0, whole.1)) whole)
        (on_after d v head g zp' sp' m.more a c h size m.place m.left)

-- no whole element begins the bytes
pub waits_is : (p : List ℕ) {n : ℕ} → n ≡ stated p → 3 ≤ length p → ltb (length p) n ≡ unready p
waits_is p {n} e h = ap (ltb (length p)) e ∙ go (ltb (length p) (stated p)) refl
  where
    go : (t : Bool) → ltb (length p) (stated p) ≡ t → ltb (length p) (stated p) ≡ unready p
    go true q = q ∙ sym (waits_bytes p h (ltb-true _ _ q))
    go false q = q ∙ sym (ready_full p h (ltb-false _ _ q))

waits_stop : (σ : Settings) (before : List Record) (p : List ℕ) → Lacks p → step σ before p ≡ stop 6
waits_stop σ before p (header h) = unframed σ before p (unframed_short p 0 (omega arith))
waits_stop σ before p (bytes g h) = unframed σ before p (unframed_long p 0 refl (omega arith))

pub front_none :
    (σ : Settings) (p : List ℕ) (at : ℕ) (s : State) (f : Flags) (zp sp : List ℕ) (d : Description) (before : List Record) (r : Ran)
    → unready p ≡ true
    → at ≡ place_after before
    → Gone d s f zp sp before
    → r.taken ≡ 0
    → r.way.at ≡ at
    → r.way.state ≡ s
    → Onward σ d p at before r f zp sp
front_none σ p at s f zp sp d before r u e k t a b =
    record {
      more = before;
      way = rw (a, t) none_yet;
      left = rw b k;
      place = a ∙ e;
      rest = λ _. rw t (waits_stop σ before p (lacks p u));
    }

-- the numbers that the walk stops with: 6 may mean that the rest is not all there
pub other_stop : (k : ℕ) → not (eqb k 0) && not (eqb k 6) ≡ true → (k ≡ 0 → ⊥) × (k ≡ 6 → ⊥)
other_stop k h =
    let t = (and-eq-true_iff (not (eqb k 0)) (not (eqb k 6))).0 h in
    (eqb-false k 0 (not-true (eqb k 0) t.0), eqb-false k 6 (not-true (eqb k 6) t.1))

pub these_stops : (k : ℕ) → not (eqb k 0) && not (eqb k 6) ≡ false → (k ≡ 0) ⊎ (k ≡ 6)
these_stops k h = go (eqb k 0) refl (eqb k 6) refl h
  where
    go : (a : Bool) → eqb k 0 ≡ a → (b : Bool) → eqb k 6 ≡ b → not a && not b ≡ false → (k ≡ 0) ⊎ (k ≡ 6)
    go true p b q e = inl (eqb-true k 0 p)
    go false p true q e = inr (eqb-true k 6 q)
    go false p false q e = absurd (false≢true (sym e))
