-- The code's pass is the one that is defined: what is left to do ends where the whole ends.
-- Assumes nothing.
use Prim.Native.Nat.{ℕ, zero, suc, ◌+◌, ◌-◌, ◌*◌, ◌<◌, ◌≤◌}
use native.Mathlib.Omega.{arith}
use mathlib.Core.Path.{◌≡◌, refl, sym, ◌∙◌, ap, subst}
use mathlib.Core.Bool.{true, false}
use mathlib.Core.List.{List, [], ◌∷◌, ◌++◌}
use mathlib.Core.Option.{none}
use lib.ListN.{length, take, drop, length-drop}
use lib.Seq.{drop-drop, length-take-le}
use lib.Dec.{ltb}
use borrow.Author.Tests.{lt-ltb, le-ltb}
use Rattle.format.specs.Slots.{byte, Bytes, Starts}
use Rattle.format.specs.Records.{Record}
use Rattle.format.specs.Layout.{layout, place_after}
use Rattle.format.specs.Table.{element_breaks}
use Rattle.format.specs.Verdict.{stated, framed}
use Rattle.format.specs.Decode.{read_description}
use Rattle.format.specs.Reader.{step, Outcome, took, stop}
use Rattle.format.specs.Writing.{writing}
use Rattle.format.specs.declared.pins.Chip.{Chip}
use Rattle.format.specs.declared.settings.Settings.{Settings}
use Rattle.format.proofs.Slots.{bytes_drop, bytes_take}
use Rattle.format.proofs.Kept.{own_unbroken, unbroken_kind}
use Rattle.format.proofs.Decoding.{starts_stated}
use Rattle.format.proofs.Stepping.{Meets, step_meets}
use Rattle.format.proofs.Growing.{place_snoc}
use Rattle.pass.specs.Tracks.{Flags, Low, Tracks, WalkIs}
use Rattle.pass.proofs.Walking.{took_stated}
use Rattle.pass.specs.declared.State.{State}
use Rattle.pass.specs.Steps.{Over}
use Rattle.saving.specs.Saving.{At, at_place, standing, Saved, saved, records, settled, sift, answered, by_pass}
use Rattle.saving.specs.Saving as saving
use Rattle.fates.specs.Noted.{Keeps, Notes, Tells, Settles}
use Rattle.fates.specs.declared.Kept.{Kept}
use Rattle.fates.specs.declared.Note.{Note}
use Rattle.fates.specs.declared.Counts.{Counts}
use Rattle.fates.specs.declared.Fate.{Fate}
use Rattle.fates.proofs.Noting.{each_length}
use Rattle.scanning.specs.Scanned.{after_pass, Scanned, FateOf}
use Rattle.scanning.specs.declared.Passage.{Passage}
use Rattle.scanning.proofs.Fronts.{front, front_length, front_stated, framed_whole, front_step, OneTaken, not_yet, taken, one_taken}

pub records_snoc : (ks : List (At Record)) (p : ℕ) (r : Record) → records (ks ++ at_place p r ∷ []) ≡ records ks ++ r ∷ []
records_snoc [] p r = refl
records_snoc (k ∷ ks) p r = ap (λ (l : List Record). k.what ∷ l) (records_snoc ks p r)

pub records_length : (ks : List (At Record)) → length (records ks) ≡ length ks
records_length [] = refl
records_length (k ∷ ks) = ap suc (records_length ks)

-- what is held of an element as it stands
abbrev standing_at : ℕ → Kept
standing_at at = record { place = at; cleared = false }

-- what the reader took from the bytes at a place is held there
keeps_taken :
    (c : Chip) (t : List ℕ) (at : ℕ) (before : List Record) (x : Record)
    → Bytes t
    → stated (drop at t) ≤ length (drop at t)
    → 3 ≤ stated (drop at t)
    → step (writing c) before (drop at t) ≡ took x
    → Keeps c t (standing_at at) (at_place at x)
keeps_taken c t at before x small fits low e =
    let bs = drop at t in
    go (step (writing c) before bs) e (step_meets (writing c) before bs (bytes_drop at t small) (omega (arith, fits, low)))
  where
    go : (o : Outcome) → o ≡ took x → Meets (writing c) before (drop at t) o → Keeps c t (standing_at at) (at_place at x)
    go (stop k) q m = let z : ◌≡◌ {A = ℕ} 0 1 = cc in absurd (omega arith)
    go (took y) q m =
        let z : y ≡ x = cc in
        let s = subst (λ (r : Record). Starts (drop at t) (layout r) (drop (stated (drop at t)) (drop at t))) z m.2 in
        let b = subst (λ (r : Record). element_breaks (writing c) before r ≡ none) z m.1 in
        record {
          r = x;
          here =
              record {
                stands = record { rest = drop (stated (drop at t)) (drop at t); starts = s; kind = unbroken_kind (writing c) before x b };
                size = starts_stated (drop at t) x (drop (stated (drop at t)) (drop at t)) s;
                within = omega (arith, fits, low, length-drop at t);
              };
          unbroken = own_unbroken (writing c) before x b;
          place = refl;
          what = refl;
        }

-- THE INVARIANT
pub record Scanning (c : Chip) (t : List ℕ) (kept : List Kept) (log : List Note) (f : Flags) (n : Counts) (s : State) (end at : ℕ) : Type 0 where
  pub so_far : Saved
  pub fuel : ℕ
  pub enough : length (drop at t) ≤ fuel
  pub notes : Notes c t kept log n so_far
  pub tracks : Tracks (read_description c (byte t)) s f (records so_far.kept)
  pub place : end ≡ place_after (records so_far.kept)
  pub behind : end ≤ at
  pub few_lines : 3 * n.lines + 16 ≤ at
  pub onward : sift (by_pass (writing c)) so_far (standing fuel at (drop at t)) ≡ after_pass c t

pub begun :
    (c : Chip) (t : List ℕ) (kept : List Kept) (log : List Note) (f : Flags) (n : Counts) (s : State)
    → length kept ≡ 96
    → length log ≡ 1649
    → n.kept ≡ 0
    → n.lines ≡ 0
    → Tracks (read_description c (byte t)) s f []
    → Scanning c t kept log f n s 16 16
unfolding after_pass
begun c t kept log f n s k l e g w =
    record {
      so_far = saved [] [];
      fuel = length (drop 16 t);
      enough = omega arith;
      notes =
          record { kept_long = k; log_long = l; few = omega (arith, e); fitting = omega (arith, g); keeps = rw e tt; codes = rw g tt };
      tracks = w;
      place = refl;
      behind = omega arith;
      few_lines = omega (arith, g);
      onward = refl;
    }

pub none_standing : (fuel at : ℕ) (bs : List ℕ) → framed bs ≡ false → standing fuel at bs ≡ []
none_standing zero at bs h = refl
none_standing (suc n) at bs h = rw h refl

one_standing :
    (fuel at : ℕ) (bs : List ℕ)
    → framed bs ≡ true
    → standing (suc fuel) at bs ≡ at_place at bs ∷ standing fuel (at + stated bs) (drop (stated bs) bs)
one_standing fuel at bs h = rw h refl

full_sift : (σ : Settings) (s : Saved) (xs : List (At (List ℕ))) → 96 ≤ length (records s.kept) → sift (by_pass σ) s xs ≡ s
full_sift σ s [] h = refl
full_sift σ s (x ∷ xs) h = rw (le-ltb (length (records s.kept)) 96 h) (full_sift σ s xs h)

module _
    (c : Chip) (t : List ℕ) (kept : List Kept) (log : List Note) (f : Flags) (n : Counts) (s : State) (end at : ℕ) (w : Scanning c t kept log f n s end at)
  where
    abbrev before : List Record
    before = records w.so_far.kept

    pub kept_many : length before ≡ n.kept
    kept_many =
        omega (
          arith,
          records_length w.so_far.kept,
          each_length (Keeps c t) (take n.kept kept) w.so_far.kept w.notes.keeps,
          length-take-le n.kept kept (omega (arith, w.notes.few, w.notes.kept_long)),
        )

    pub low : Low s
    low = record { most = omega (arith, w.tracks.count, kept_many, w.notes.few); few = w.tracks.few }

    module _ (r : Passage) (same : r.n ≡ n) (clash : r.clash ≡ s.held.clash) (b : at ≤ length t) (top : length t ≤ 4096) where
      scanned : w.so_far ≡ after_pass c t → Scanned c t kept log f r
      scanned e =
          record {
            notes = rw same (subst (λ (v : Saved). Notes c t kept log n v) e w.notes);
            state = s;
            tracks = subst (λ (v : Saved). Tracks (read_description c (byte t)) s f (records v.kept)) e w.tracks;
            clash = clash;
            few_lines = rw same (omega (arith, w.few_lines, b, top));
          }

      -- the end: no element can stand there, or enough are kept
      pub ended : framed (drop at t) ≡ false → Scanned c t kept log f r
      ended h = scanned (sym (ap (sift (by_pass (writing c)) w.so_far) (none_standing w.fuel at (drop at t) h)) ∙ w.onward)

      pub filled : 96 ≤ n.kept → Scanned c t kept log f r
      filled h =
          scanned
          (sym (full_sift (writing c) w.so_far (standing w.fuel at (drop at t)) (omega (arith, kept_many, h))) ∙ w.onward)

-- one turn
not_zero : (n : ℕ) → ((n ≡ 0 → ⊥) → ⊥) → n ≡ 0
not_zero zero h = refl
not_zero (suc n) h = absurd (h (λ e. omega arith))

module _
    (c : Chip) (t : List ℕ) (kept : List Kept) (log : List Note) (f : Flags) (n : Counts) (s : State) (end at : ℕ) (w : Scanning c t kept log f n s end at)
    (small : Bytes t) (len : ℕ) (states : len ≡ stated (drop at t)) (low : 3 ≤ len) (fits : len ≤ length t - at) (inside : at ≤ length t)
    (room : n.kept < 96) (r : Over) (g : Flags)
    (walk : WalkIs (writing c) (take (at + len - at) (drop at t)) end s f r g)
    (fate : Fate) (fated : FateOf r.stop fate)
    (m : Counts) (kept' : List Kept) (log' : List Note) (settle : Settles kept log n (standing_at at) fate m kept' log')
    (grow : ℕ) (grows : (r.stop ≡ 0 → grow ≡ len) × ((r.stop ≡ 0 → ⊥) → grow ≡ 0) × (grow ≤ len))
  where
    abbrev here : List ℕ
    here = drop at t

    abbrev so : List Record
    so = records w.so_far.kept

    a : 3 ≤ stated here
    a = omega (arith, states, low)

    b : stated here ≤ length here
    b = omega (arith, states, fits, length-drop at t)

    few : ltb (length so) 96 ≡ true
    few = lt-ltb (length so) 96 (omega (arith, kept_many c t kept log f n s end at w, room))

    -- the invariant again, once the fate of the element and what is tracked are known
    again :
        (o : Outcome)
        → step (writing c) so here ≡ o
        → Tells c t (standing_at at) at fate (answered o)
        → Tracks (read_description c (byte t)) r.state g (records (settled w.so_far at (answered o)).kept)
        → end + grow ≡ place_after (records (settled w.so_far at (answered o)).kept)
        → Scanning c t kept' log' g m r.state (end + grow) (at + len)
    again o e tells tracks place = go w.fuel w.enough w.onward
      where
        go :
            (fuel : ℕ)
            → length here ≤ fuel
            → sift (by_pass (writing c)) w.so_far (standing fuel at here) ≡ after_pass c t
            → Scanning c t kept' log' g m r.state (end + grow) (at + len)
        go zero h q = absurd (omega (arith, h, a, b))
        go (suc fuel) h q =
            let next : drop (stated here) here ≡ drop (at + len) t =
            drop-drop (stated here) at t ∙ ap (λ (k : ℕ). drop (at + k) t) (sym states) in
            let far : at + stated here ≡ at + len = omega (arith, states) in
            let fate_is : by_pass (writing c) so here ≡ answered o = rw (few, e) refl in
            record {
              so_far = settled w.so_far at (answered o);
              fuel = fuel;
              enough = omega (arith, h, ap length next, length-drop (stated here) here, a);
              notes = settle.settles c t w.so_far at (answered o) w.notes tells;
              tracks = tracks;
              place = place;
              behind = omega (arith, w.behind, grows.2);
              few_lines = omega (arith, w.few_lines, settle.more_lines, low);
              onward =
                  rw (← next, ← far)
                  (subst (λ (x : saving.Fate). sift (by_pass (writing c)) (settled w.so_far at x)
                  (standing fuel (at + stated here) (drop (stated here) here)) ≡ after_pass c t)
                  fate_is
                  (sym (ap (sift (by_pass (writing c)) w.so_far) (one_standing fuel at here (framed_whole here a b))) ∙ q));
            }

    kept_on :
        (x : Record)
        → step (writing c) so here ≡ took x
        → r.stop ≡ 0
        → Tracks (read_description c (byte t)) r.state g (so ++ x ∷ [])
        → Scanning c t kept' log' g m r.state (end + grow) (at + len)
    kept_on x e z k =
        let h = keeps_taken c t at so x small b a e in
        let size = took_stated (writing c) so here x (bytes_drop at t small) (omega (arith, a, b)) e in
        let snoc = records_snoc w.so_far.kept at x in
        again (took x) e
        (rw (fated.good z) h)
        (rw snoc k)
        (rw snoc (omega (arith, w.place, grows.0 z, place_snoc so x, states, size)))

    left_out :
        (k : ℕ)
        → step (writing c) so here ≡ stop k
        → k ≡ r.stop
        → (r.stop ≡ 0 → ⊥)
        → Tracks (read_description c (byte t)) r.state g so
        → Scanning c t kept' log' g m r.state (end + grow) (at + len)
    left_out k e j z q =
        let out = fated.bad z in
        again (stop k) e
        (rw out.1 (out.2 ∙ sym j, refl))
        q
        (omega (arith, w.place, grows.1 z))

    pub turned : Scanning c t kept' log' g m r.state (end + grow) (at + len)
    turned =
        let size : at + len - at ≡ stated here = omega (arith, states) in
        let cut : take (at + len - at) here ≡ front here a b = ap (λ (k : ℕ). take k here) size in
        let walked =
        (subst (λ (l : List ℕ). WalkIs (writing c) l end s f r g) cut walk).walks (read_description c (byte t)) so
        (bytes_take (stated here) here (bytes_drop at t small)) w.place w.tracks in
        let long = front_length here a b in
        go walked.gone walked.left
        (one_taken (writing c) so end (front here a b) walked.gone r.place walked.left (front_stated here a b ∙ sym long)
        walked.way)
        walked.tracks walked.ends walked.more walked.stops (omega (arith, long, a))
      where
        go :
            (gone : List Record) (left : List ℕ)
            → OneTaken (writing c) so (front here a b) gone left
            → Tracks (read_description c (byte t)) r.state g gone
            → (r.stop ≡ 0 → left ≡ [])
            → ((r.stop ≡ 0 → ⊥) → 0 < length left)
            → ((r.stop ≡ 0 → ⊥) → step (writing c) gone left ≡ stop r.stop)
            → 3 ≤ length (front here a b)
            → Scanning c t kept' log' g m r.state (end + grow) (at + len)
        go gone left not_yet k ends more stops long =
            let z : r.stop ≡ 0 → ⊥ = λ e. omega (arith, ap length (ends e), long) in
            left_out r.stop (sym (front_step here a b (writing c) so) ∙ stops z) refl z k
        go gone left (taken x e) k ends more stops long =
            kept_on x (sym (front_step here a b (writing c) so) ∙ e) (not_zero r.stop (λ z. omega (arith, more z))) k
