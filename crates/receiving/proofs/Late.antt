-- The state after bytes behind the description, where neither its bytes nor flags and places change: a single byte of the element
-- under way, whether it decides something or not, or bytes after a pass that is stopped. Assumes nothing.
use Prim.Native.Nat.{ℕ, ◌+◌, ◌-◌, ◌/◌, ◌%◌, ◌<◌, ◌≤◌}
use native.Mathlib.Omega.{arith}
use mathlib.Core.Path.{◌≡◌, refl, sym, ◌∙◌, subst}
use mathlib.Core.Bool.{Bool, true, false, ◌&&◌, not, false≢true, and-eq-true_iff}
use mathlib.Core.List.{List, [], ◌∷◌, ◌++◌}
use lib.ListN.{length, set, take, drop, length-append, length-set}
use lib.Seq.{take_all, take-append-le, drop-append-le, get_or-set_same, get_or-set_other}
use lib.Dec.{eqb, ltb}
use borrow.Author.Tests.{ltb-true, lt-ltb, eqb-true, eqb-false, not-true}
use Rattle.format.specs.Slots.{byte, Bytes}
use Rattle.format.specs.Table.{description_breaks}
use Rattle.format.specs.Decode.{read_description}
use Rattle.format.specs.declared.settings.Settings.{Settings}
use Rattle.format.specs.declared.records.Description.{Description}
use Rattle.pass.specs.Tracks.{Flags}
use Rattle.stream.specs.Running.{Run, going, broken, run_bytes, begin}
use Rattle.stream.specs.Arriving.{state_of}
use Rattle.stream.proofs.Arriving.{run_append}
use Rattle.closing.specs.Ways.{WayIs}
use Rattle.states.specs.Numbers.{number, way_of}
use Rattle.advancing.specs.Advancing.{opened, PlacedAt}
use Rattle.advancing.specs.Quiet.{Plain, QuietRun}
use Rattle.advancing.proofs.Placing.{stays}
use Rattle.ending.specs.Stands.{lent, Stands}
use Rattle.ending.proofs.Answering.{placed_of}
use Rattle.single.specs.Single.{LengthenIs, QuietNow, Longer}
use Rattle.single.proofs.Adding.{way_counted, beside}
use Rattle.single.proofs.Quieting.{lengthened_beside, lengthened_count, lengthened_size, longer_quiet}
use Rattle.receiving.specs.Receiving.{ReceiveIs}
use Rattle.receiving.proofs.Growing.{opened_bytes}

module _ (n first head : List ℕ) (f : Flags) (zp sp q n' head' : List ℕ) where
  -- so many bytes more are counted
  record Counted : Type 0 where
    size : length n' ≡ 16
    code : number n' 1 ≡ number n 1
    count : number n' 2 ≡ number n 2 + length q

  -- .. and the pass goes on with them
  abbrev GoesOn : Type 0
  GoesOn =
      (σ : Settings) (d : Description) (m : ℕ) (s : Run)
      → QuietNow n s
      → WayIs d (way_of n) head f zp sp s
      → PlacedAt m s
      → Bytes q
      → m + length q ≤ 4097
      → WayIs d (way_of n') head' f zp sp (run_bytes σ s q) × QuietNow n' (run_bytes σ s q)

  -- there is room for them, by what number 15 says where it is ahead
  abbrev Room : Type 0
  Room =
      (number n 2 < number n 15 → (16 < number n 2) × (number n 15 ≤ 4097))
      → (16 < number n 2) × (number n 2 + length q ≤ 4097)

  grows_late :
      Room
      → number n' 0 ≡ 0
      → (length n ≡ 16 → Counted × GoesOn)
      → ReceiveIs (lent n first head f zp sp) q (lent n' first head' f zp sp)
  grows_late room live on = record { live = live; goes = go }
    where
      go :
          (σ : Settings) (c : List ℕ)
          → Bytes q
          → 0 < length q
          → Stands σ (state_of σ c) (lent n first head f zp sp)
          → Stands σ (state_of σ (c ++ q)) (lent n' first head' f zp sp)
      go σ c small some_bytes s =
          let there = room (λ z. let y = s.quiet z in (y.0, y.1)) in
          let much = there.0 in
          let top = there.1 in
          let l = length-append c q in
          let k = (on s.size).0 in
          let same : take 16 (c ++ q) ≡ take 16 c = take-append-le 16 c q (omega (arith, s.count)) in
          let d = read_description σ.chip (byte (take 16 c)) in
          let broken_by = description_breaks σ.chip d in
          let run = run_bytes σ begin (drop 16 c) in
          let after = (on s.size).1 σ d (length c) (opened broken_by run) (λ z. let y = s.quiet z in (y.1, y.2))
          (s.pass (omega (arith, s.count))) (placed_of σ d c (omega (arith, s.count))) small (omega (arith, s.count)) in
          record {
            size = k.size;
            live = live;
            settings = rw k.code s.settings;
            count = k.count ∙ omega (arith, l, s.count);
            first = rw same s.first;
            head = λ z. absurd (omega (arith, z, l, s.count));
            fresh = λ z. absurd (omega (arith, z, l, s.count));
            pass =
                λ _.
                rw (same, drop-append-le 16 c q (omega (arith, s.count)), run_append σ begin (drop 16 c) q)
                (subst (λ (r : Run). WayIs d (way_of n') head' f zp sp r) (opened_bytes σ broken_by run q) after.0);
            quiet =
                λ z.
                let y = after.1 z in
                rw (same, drop-append-le 16 c q (omega (arith, s.count)), run_append σ begin (drop 16 c) q) (
                  omega (arith, k.count),
                  y.0,
                  subst (λ (r : Run). QuietRun (number n' 15 - number n' 2) (way_of n').under r) (opened_bytes σ broken_by run q) y.1,
                );
          }

-- a single byte
pub grows_single :
    (n first head : List ℕ) (f : Flags) (zp sp : List ℕ) (x : ℕ) (n' head' : List ℕ)
    → number n 0 ≡ 0
    → 16 < number n 2
    → number n 2 ≤ 4096
    → Longer n head x n' head'
    → ReceiveIs (lent n first head f zp sp) (x ∷ []) (lent n' first head' f zp sp)
grows_single n first head f zp sp x n' head' z much top g =
    grows_late n first head f zp sp (x ∷ []) n' head' (λ _. (much, omega arith)) (g.ended ∙ z)
    (λ e. (
      record { size = g.size ∙ e; code = g.code; count = g.count e },
      λ σ d m s c w p small l. g.on e σ d f zp sp m s w p small (omega arith),
    ))

-- one that decides nothing
pub grows_quick :
    (n first head : List ℕ) (f : Flags) (zp sp : List ℕ) (x : ℕ) (n' head' : List ℕ)
    → number n 0 ≡ 0
    → number n 2 < number n 15
    → Plain x
    → LengthenIs n head (number n 2) x n' head'
    → ReceiveIs (lent n first head f zp sp) (x ∷ []) (lent n' first head' f zp sp)
grows_quick n first head f zp sp x n' head' z ahead y g =
    let k = number n 2 + 1 in
    let j = number n 5 % 65536 + 1 in
    grows_late n first head f zp sp (x ∷ []) n' head' (λ h. let o = h ahead in (o.0, omega (arith, o.1)))
    (rw g.numbers (beside (set n 2 k) 5 0 j (omega arith) ∙ beside n 2 0 k (omega arith) ∙ z))
    (λ e. (
      record {
        size = lengthened_size n head x n' head' g e;
        code = lengthened_beside n head x n' head' g e 1 (λ i. omega arith) (λ i. omega arith);
        count = lengthened_count n head x n' head' g e;
      },
      λ σ d m s c w p small l.
          let o = c ahead in
          longer_quiet n head x n' head' g e σ d f zp sp m s y ahead o.0 o.1 w p small (omega arith),
    ))

-- a pass that is stopped stays so
module _ (n first head : List ℕ) (f : Flags) (zp sp q : List ℕ) {k : ℕ} (stop : number n 3 ≡ 0 → ⊥) (e : k ≡ number n 2 + length q) where
  not_quiet : (d : Description) (j : ℕ) (s : Run) → WayIs d (way_of n) head f zp sp s → QuietRun j (way_of n).under s → ⊥
  not_quiet d j (going before at u) w c = stop w.goes
  not_quiet d j (broken i p) w c = c

  pub grows_stopped :
      number n 0 ≡ 0
      → 16 < number n 2
      → number n 2 + length q ≤ 4097
      → ReceiveIs (lent n first head f zp sp) q (lent (set n 2 k) first head f zp sp)
  grows_stopped z much top =
      grows_late n first head f zp sp q (set n 2 k) head (λ _. (much, top)) (beside n 2 0 k (omega arith) ∙ z)
      (λ g.
      let a = get_or-set_same n 2 k 0 (omega arith) in
      let b = get_or-set_other n 2 15 k 0 (λ i. omega arith) in (
        record { size = length-set n 2 k ∙ g; code = beside n 2 1 k (omega arith); count = a ∙ e },
        λ σ d m s c w p small l. (
          rw (way_counted n k g) (stays σ (way_of n) q head f zp sp d s stop w),
          λ i. absurd (not_quiet d (number n 15 - number n 2) s w (c (omega (arith, a, b, i, e))).1),
        ),
      ))

-- a piece of one byte is that byte
pub one_byte : (p : List ℕ) (room : ℕ) → length p ≡ 1 → 1 ≤ room → byte p 0 ∷ [] ≡ take room p
one_byte [] room e l = absurd (omega arith)
one_byte (x ∷ []) room e l = sym (take_all room (x ∷ []) (omega arith))
one_byte (x ∷ y ∷ p) room e l = absurd (omega arith)

-- the tests
pub stopped_test : (k s : ℕ) → ltb 16 k && not (eqb s 0) ≡ true → (16 < k) × (s ≡ 0 → ⊥)
stopped_test k s h =
    let t = (and-eq-true_iff (ltb 16 k) (not (eqb s 0))).0 h in
    (ltb-true 16 k t.0, eqb-false s 0 (not-true (eqb s 0) t.1))

pub single_test : (m k : ℕ) → eqb m 1 && ltb 16 k ≡ true → (m ≡ 1) × (16 < k)
single_test m k h =
    let t = (and-eq-true_iff (eqb m 1) (ltb 16 k)).0 h in
    (eqb-true m 1 t.0, ltb-true 16 k t.1)

pub going_test : (k s : ℕ) → ltb 16 k && not (eqb s 0) ≡ false → 16 < k → s ≡ 0
going_test k s h l = go (eqb s 0) refl
  where
    go : (t : Bool) → eqb s 0 ≡ t → s ≡ 0
    go true e = eqb-true s 0 e
    go false e = absurd (false≢true (sym (rw (lt-ltb 16 k l, e) at h)))

pub quick_test : (m k j : ℕ) → eqb m 1 && ltb k j ≡ true → (m ≡ 1) × (k < j)
quick_test m k j h =
    let t = (and-eq-true_iff (eqb m 1) (ltb k j)).0 h in
    (eqb-true m 1 t.0, ltb-true k j t.1)

pub plain_test : (x : ℕ) {t : Bool} → t ≡ not (eqb (x / 8) 27) → t ≡ true → Plain x
plain_test x e y = eqb-false (x / 8) 27 (not-true (eqb (x / 8) 27) (sym e ∙ y))
