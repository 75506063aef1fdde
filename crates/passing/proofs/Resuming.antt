-- The pass goes on, piece by piece.
-- Assumes nothing.
use Prim.Native.Nat.{ℕ, zero, suc, ◌+◌, ◌<◌, ◌≤◌}
use native.Mathlib.Omega.{arith}
use mathlib.Core.Path.{◌≡◌, refl, sym, ◌∙◌, ap, subst}
use mathlib.Core.Bool.{Bool, true, false, ◌&&◌, false≢true, and-eq-true_iff}
use mathlib.Core.Logic.{◌⊎◌, inl, inr}
use mathlib.Core.List.{List, [], ◌∷◌, ◌++◌}
use lib.Dec.{eqb, ltb}
use borrow.Author.Tests.{eqb-true, eqb-false, ltb-true, ltb-false}
use lib.ListN.{length, take, drop, length-append, take-append-drop, drop_of_length-le}
use lib.Seq.{take_all, length-take-le, drop-drop}
use Rattle.format.specs.Slots.{Bytes}
use Rattle.format.specs.Records.{Record}
use Rattle.format.specs.Layout.{place_after}
use Rattle.format.specs.Reader.{step}
use Rattle.format.specs.declared.settings.Settings.{Settings}
use Rattle.format.specs.declared.records.Description.{Description}
use Rattle.format.proofs.Slots.{bytes_take}
use Rattle.pass.specs.Tracks.{Flags}
use Rattle.pass.specs.declared.State.{State}
use Rattle.stream.specs.Running.{Run, going, broken, past, unready, run_bytes}
use Rattle.stream.proofs.Runs.{run_on, run_whole, run_low, stays_broken}
use Rattle.stream.proofs.Arriving.{run_append}
use Rattle.naming.proofs.Taken.{took_run}
use Rattle.underway.specs.Under.{UnderIs, MoreIs}
use Rattle.underway.specs.declared.Under.{Under}
use Rattle.closing.specs.Ways.{Gone, On, WayIs, WholeIs, Whole, CloseIs}
use Rattle.closing.specs.declared.Way.{Way}
use Rattle.closing.specs.declared.Ran.{Ran}
use Rattle.closing.proofs.Ending.{on_after}
use Rattle.passing.specs.Going.{Shares, waits, low, whole, Turned, ResumeIs}

-- the bytes of an element and of a piece
pub bytes_both : (v p : List ℕ) → Bytes v → Bytes p → Bytes (v ++ p)
bytes_both [] p a b i = b i
bytes_both (x ∷ v) p a b zero = a 0
bytes_both (x ∷ v) p a b (suc i) = bytes_both v p (λ j. a (suc j)) b i

pub bytes_front : (n : ℕ) (p : List ℕ) → Bytes p → Bytes (take n p)
bytes_front n p b = bytes_take n p b

-- no byte is left
none_left : (σ : Settings) (s : Run) (p : List ℕ) (n : ℕ) → length p ≤ n → run_bytes σ s (drop n p) ≡ s
none_left σ s p n h = ap (run_bytes σ s) (drop_of_length-le p {i = n} h)

module _
    (σ : Settings) (d : Description) (before : List Record) (at : ℕ) (v p : List ℕ) (u : Under) (s : State) (head : List ℕ) (f : Flags)
    (zp sp : List ℕ)
    (more : 0 < length p) (small : Bytes p) (k : UnderIs u head v) (wait : unready v ≡ true) (place : at ≡ place_after before)
    (g : Gone d s f zp sp before)
  where
    -- its length is under 3
    pub resume_low :
        (r : Ran) (told take' : ℕ)
        → told < 3
        → Shares v p told take'
        → r.way.stop ≡ 6
        → r.way.at ≡ at
        → Turned σ d (going before at v) p r head f zp sp
    resume_low r told take' t (waits m a b c) x y = absurd (omega arith)
    resume_low r told take' t (low a b c) x y =
        record {
          run = broken 6 at;
          now = (x, omega arith, y);
          same = run_low σ before at v p wait (b, c) ∙ sym (stays_broken σ [] 0 6 at (drop r.taken p));
        }
    resume_low r told take' t (whole a b c h i) x y = absurd (omega arith)

    -- it waits for more bytes
    pub resume_waits :
        (r : Ran) (w : Under) (head' : List ℕ) (told take' : ℕ) (n : ℕ)
        → Shares v p told take'
        → MoreIs u (take n p) head w head'
        → n ≡ take'
        → 3 ≤ told
        → w.len < told
        → r.taken ≡ take'
        → r.way.stop ≡ 0
        → r.way.at ≡ at
        → r.way.under ≡ w
        → r.way.state ≡ s
        → Turned σ d (going before at v) p r head' f zp sp
    resume_waits r w head' told take' n (waits m a b c) t z o l e q x y i =
        let j : take n p ≡ p = ap (λ (n : ℕ). take n p) (z ∙ b) ∙ take_all (length p) p (omega arith) in
        let h = rw j at (t.grows v k (bytes_both v (take n p) k.bytes (bytes_take n p small))) in
        record {
          run = going before at (v ++ p);
          now =
              record {
                goes = q;
                here = x;
                place = place;
                gone = rw i g;
                under = rw y (h (omega (arith, length-append v p)));
                waits = a;
              };
          same = run_on σ before at v p a ∙ sym (none_left σ (going before at (v ++ p)) p r.taken (omega (arith, e, b)));
        }
    resume_waits r w head' told take' n (low a b c) t z o l e q x y i = absurd (omega arith)
    resume_waits r w head' told take' n (whole a b c h m) t z o l e q x y i =
        absurd (omega (arith, l, t.long, k.long, b, z, length-take-le n p (omega arith)))

    -- the last of so many bytes completes it
    whole_run :
        {n : ℕ}
        → 0 < n
        → n ≤ length p
        → Whole (v ++ take n p)
        → run_bytes σ (going before at v) p ≡ run_bytes σ (past before at (length (v ++ take n p)) (step σ before (v ++ take n p))) (drop n p)
    whole_run {n} a b m =
        ap (run_bytes σ (going before at v)) (sym (take-append-drop n p))
        ∙ run_append σ (going before at v) (take n p) (drop n p)
        ∙ ap (λ (o : Run). run_bytes σ o (drop n p)) (run_whole σ before at v (take n p) (omega (arith, length-take-le n p b)) m)

    -- it is whole
    pub resume_whole :
        (r : Ran) (w : Under) (head' : List ℕ) (g' : Flags) (zp' sp' : List ℕ) (told take' : ℕ) (n : ℕ)
        → Shares v p told take'
        → MoreIs u (take n p) head w head'
        → n ≡ take'
        → told ≤ w.len
        → 3 ≤ told
        → CloseIs σ w head' at s f zp sp r.way g' zp' sp'
        → r.taken ≡ take'
        → Turned σ d (going before at v) p r head' g' zp' sp'
    resume_whole r w head' g' zp' sp' told take' n (waits m a b c) t z l x y e =
        absurd (omega (arith, l, t.long, k.long, c, b, z, length-take-le n p (omega arith)))
    resume_whole r w head' g' zp' sp' told take' n (low a b c) t z l x y e = absurd (omega arith)
    resume_whole r w head' g' zp' sp' told take' n (whole a b c h m) t z l x y e =
        let i = z ∙ sym e in
        let j = t.grows v k (bytes_both v (take n p) k.bytes (bytes_take n p small))
        (omega (arith, length-append v (take n p), length-take-le n p (omega arith))) in
        record {
          run = past before at (length (v ++ take n p)) (step σ before (v ++ take n p));
          now = y.then d before (v ++ take n p) j (rw z m) place g;
          same = rw (← i) (whole_run {n = n} (omega arith) (omega arith) (rw z m));
        }

-- a pass that goes is under way
goes_under :
    (d : Description) (w : Way) (head : List ℕ) (f : Flags) (zp sp : List ℕ) (s : Run)
    → w.stop ≡ 0
    → WayIs d w head f zp sp s
    → (before : List Record) × (at : ℕ) × (u : List ℕ) × (s ≡ going before at u) × On d w head f zp sp before at u
goes_under d w head f zp sp (going before at u) z k = (before, at, u, refl, k)
goes_under d w head f zp sp (broken j p) z k = absurd (omega (arith, z, k.0, k.1))

-- one that is stopped is stopped for good
stops_broken :
    (d : Description) (w : Way) (head : List ℕ) (f : Flags) (zp sp : List ℕ) (s : Run)
    → (w.stop ≡ 0 → ⊥)
    → WayIs d w head f zp sp s
    → (j : ℕ) × (p : ℕ) × (s ≡ broken j p)
stops_broken d w head f zp sp (going before at u) n k = absurd (n k.goes)
stops_broken d w head f zp sp (broken j p) n k = (j, p, refl)

module _ (σ : Settings) (d : Description) (s : Run) (p : List ℕ) (r : Ran) (head : List ℕ) (f : Flags) (zp sp : List ℕ)
    (t : Turned σ d s p r head f zp sp) where
  -- then it does not matter how many bytes are taken
  still : (r.way.stop ≡ 0 → ⊥) → (xs : List ℕ) → run_bytes σ t.run xs ≡ t.run
  still n xs =
      let b = stops_broken d r.way head f zp sp t.run n t.now in
      ap (λ (o : Run). run_bytes σ o xs) b.2 ∙ stays_broken σ [] 0 b.0 b.1 xs ∙ sym b.2

  pub stopped_turn : (r.way.stop ≡ 0 → ⊥) → (q : Ran) → q.way ≡ r.way → Turned σ d s p q head f zp sp
  stopped_turn n q e =
      record {
        run = t.run;
        now = rw e t.now;
        same = t.same ∙ still n (drop r.taken p) ∙ sym (still n (drop q.taken p));
      }

  -- the pass goes on with the rest
  pub then_on :
      r.way.stop ≡ 0
      → (rest : List ℕ)
      → rest ≡ drop r.taken p
      → (q r' : Ran) (head' : List ℕ) (f' : Flags) (zp' sp' : List ℕ)
      → r'.way ≡ q.way
      → r'.taken ≡ r.taken + q.taken
      → ((before : List Record) (at : ℕ) (u : List ℕ) → On d r.way head f zp sp before at u
      → Turned σ d (going before at u) rest q head' f' zp' sp')
      → Turned σ d s p r' head' f' zp' sp'
  then_on z rest e q r' head' f' zp' sp' a b next =
      let o = goes_under d r.way head f zp sp t.run z t.now in
      let y = next o.0 o.1 o.2 o.4 in
      record {
        run = y.run;
        now = rw a y.now;
        same =
            t.same
            ∙ ap (λ (x : Run). run_bytes σ x (drop r.taken p)) o.3
            ∙ ap (run_bytes σ (going o.0 o.1 o.2)) (sym e)
            ∙ y.same
            ∙ ap (λ (xs : List ℕ). run_bytes σ y.run (drop q.taken xs)) e
            ∙ ap (run_bytes σ y.run) (drop-drop q.taken r.taken p ∙ ap (λ (n : ℕ). drop n p) (sym b));
      }

  -- it is stopped, or no byte is left
  pub ended : (r.way.stop ≡ 0 → ⊥) ⊎ (length p ≤ r.taken) → WayIs d r.way head f zp sp (run_bytes σ s p)
  ended (inl n) = subst (WayIs d r.way head f zp sp) (sym (t.same ∙ still n (drop r.taken p))) t.now
  ended (inr l) = subst (WayIs d r.way head f zp sp) (sym (t.same ∙ none_left σ t.run p r.taken l)) t.now

pub turn_test : (a n m : ℕ) → eqb a 0 && ltb n m ≡ false → (a ≡ 0 → ⊥) ⊎ (m ≤ n)
turn_test a n m h = go (eqb a 0) refl (ltb n m) refl h
  where
    go : (x : Bool) → eqb a 0 ≡ x → (y : Bool) → ltb n m ≡ y → x && y ≡ false → (a ≡ 0 → ⊥) ⊎ (m ≤ n)
    go false e y q z = inl (eqb-false a 0 e)
    go true e false q z = inr (ltb-false n m q)
    go true e true q z = absurd (false≢true (sym z))

pub turn_both : (a n m : ℕ) → eqb a 0 && ltb n m ≡ true → (a ≡ 0) × (n < m)
turn_both a n m h = let t = (and-eq-true_iff (eqb a 0) (ltb n m)).0 h in (eqb-true a 0 t.0, ltb-true n m t.1)

-- the element under way, from where the pass is
pub resumed_on :
    (σ : Settings) (d : Description) (w : Way) (p : List ℕ) (q : Ran) (head head' : List ℕ) (f f' : Flags) (zp sp zp' sp' : List ℕ)
    → 0 < length p
    → Bytes p
    → ResumeIs σ w.under w.at w.state p head f zp sp q head' f' zp' sp'
    → (before : List Record) (at : ℕ) (u : List ℕ)
    → On d w head f zp sp before at u
    → Turned σ d (going before at u) p q head' f' zp' sp'
resumed_on σ d w p q head head' f f' zp sp zp' sp' m small x before at u o =
    subst (λ (n : ℕ). Turned σ d (going before n u) p q head' f' zp' sp') o.here
    (x.goes d before u m small o.under o.waits (o.here ∙ o.place) o.gone)

-- nothing is under way
none_there : (u : List ℕ) → 0 ≡ length u → u ≡ []
none_there [] e = refl
none_there (x ∷ u) e = absurd (omega arith)

-- whole elements, where nothing is under way
module _
    (σ : Settings) (w : Way) (p : List ℕ) (f : Flags) (zp sp : List ℕ) (r : Ran) (f' : Flags) (zp' sp' : List ℕ)
    (z : w.under.len ≡ 0) (x : WholeIs σ p w.at w.state f zp sp r f' zp' sp')
    (d : Description) (before : List Record) (at : ℕ) (u head : List ℕ) (small : Bytes p) (o : On d w head f zp sp before at u)
  where
    from_there : Turned σ d (going before w.at []) p r head f' zp' sp' → Turned σ d (going before at u) p r head f' zp' sp'
    from_there t =
        subst (λ (s : Run). Turned σ d s p r head f' zp' sp')
        (ap (λ (n : ℕ). going before n []) o.here ∙ ap (going before at) (sym (none_there u (sym z ∙ o.under.long)))) t

    pub whole_turn : Turned σ d (going before at u) p r head f' zp' sp'
    whole_turn = from_there (go (eqb r.way.stop 0) refl)
      where
        go : (t : Bool) → eqb r.way.stop 0 ≡ t → Turned σ d (going before w.at []) p r head f' zp' sp'
        go true e =
            let y = eqb-true r.way.stop 0 e in
            let n = x.goes y d before small (o.here ∙ o.place) o.gone in
            record {
              run = going n.more r.way.at [];
              now = on_after d r.way head f' zp' sp' n.more y x.plain.none_held x.plain.none_cut o.under.held.size
                  n.place n.left;
              same = took_run σ n.way;
            }
        go false e =
            let y = eqb-false r.way.stop 0 e in
            record {
              run = broken r.way.stop r.way.at;
              now = (refl, omega (arith, y), refl);
              same =
                  x.breaks y d before small (o.here ∙ o.place) o.gone
                  ∙ sym (stays_broken σ [] 0 r.way.stop r.way.at (drop r.taken p));
            }
