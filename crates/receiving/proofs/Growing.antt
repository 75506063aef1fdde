-- The state after the bytes of a piece: those of the description are kept, and the pass goes on with the others.
-- Assumes nothing.
use Prim.Native.Nat.{ℕ, ◌+◌, ◌-◌, ◌<◌, ◌≤◌}
use native.Mathlib.Omega.{arith}
use mathlib.Core.Path.{◌≡◌, refl, sym, ◌∙◌, ap, subst}
use mathlib.Core.Bool.{Bool, true, false}
use mathlib.Core.List.{List, [], ◌++◌}
use mathlib.Core.Option.{Option, none, some}
use lib.ListN.{length, take, drop, length-append, length-drop}
use lib.Seq.{take_all, length-take-le, take-append-le, drop-append-le, take-append-add, drop-append-add}
use lib.Dec.{ltb, leb}
use borrow.Author.Tests.{leb-true, leb-false, ltb-true, ltb-false}
use Rattle.format.specs.Slots.{byte, Bytes}
use Rattle.format.proofs.Slots.{bytes_drop}
use Rattle.format.specs.Table.{description_breaks}
use Rattle.format.specs.Decode.{read_description}
use Rattle.format.specs.declared.settings.Settings.{Settings}
use Rattle.format.specs.declared.records.Description.{Description}
use Rattle.pass.specs.Tracks.{Flags}
use Rattle.stream.specs.Running.{Run, run_bytes, begin}
use Rattle.stream.specs.Arriving.{state_of}
use Rattle.stream.proofs.Runs.{stays_broken}
use Rattle.stream.proofs.Arriving.{run_append, same_description}
use Rattle.underway.specs.Under.{Holds, KeepIs}
use Rattle.closing.specs.Ways.{WayIs}
use Rattle.closing.specs.declared.Way.{Way}
use Rattle.states.specs.Numbers.{settings_of, number, way_of, numbers_of}
use Rattle.advancing.specs.Advancing.{opened, Fresh, AdvanceIs}
use Rattle.ending.specs.Stands.{lent, Stands}
use Rattle.ending.proofs.Answering.{placed_of}
use Rattle.receiving.specs.Receiving.{LeadIs, ReadyIs, ReceiveIs}

-- a pass that the description stopped stays so
pub opened_bytes : (σ : Settings) (o : Option ℕ) (s : Run) (q : List ℕ) → run_bytes σ (opened o s) q ≡ opened o (run_bytes σ s q)
opened_bytes σ none s q = refl
opened_bytes σ (some k) s q = stays_broken σ [] 0 k 0 q

-- the bytes of a table: its first 16, and those from 16 on, with a piece
early_first : (c q : List ℕ) → length c ≤ 16 → take 16 (c ++ q) ≡ c ++ take (16 - length c) q
early_first c q h =
    let e : length c + (16 - length c) ≡ 16 = omega arith in
    ap (λ (n : ℕ). take n (c ++ q)) (sym e) ∙ take-append-add c q (16 - length c)

early_rest : (c q : List ℕ) → length c ≤ 16 → drop 16 (c ++ q) ≡ drop (16 - length c) q
early_rest c q h =
    let e : length c + (16 - length c) ≡ 16 = omega arith in
    ap (λ (n : ℕ). drop n (c ++ q)) (sym e) ∙ drop-append-add c q (16 - length c)

-- all of it before the description is whole
module _ (n first : List ℕ) (f : Flags) (head zp sp q : List ℕ) (n' first' : List ℕ) where
  pub grows_early :
      (w : Way)
      → number n 2 + length q < 16
      → KeepIs (number n 2) q first first'
      → (n' ≡ numbers_of 0 (number n 1) (number n 2 + length q) w) × (way_of n' ≡ w)
      → ReceiveIs (lent n first head f zp sp) q (lent n' first' head f zp sp)
  grows_early w h k e = record { live = rw e.0 refl; goes = go }
    where
      go :
          (σ : Settings) (c : List ℕ)
          → Bytes q
          → 0 < length q
          → Stands σ (state_of σ c) (lent n first head f zp sp)
          → Stands σ (state_of σ (c ++ q)) (lent n' first' head f zp sp)
      go σ c small m s =
          let l = length-append c q in
          let few : length c ≤ 16 = omega (arith, s.count) in
          let all : take 16 (c ++ q) ≡ c ++ q = take_all 16 (c ++ q) (omega (arith, s.count)) in
          record {
            size = rw e.0 refl;
            live = rw e.0 refl;
            settings = rw e.0 s.settings;
            count = rw e.0 (omega (arith, s.count));
            first = rw all (k.keeps c s.count (rw (take_all 16 c few) at s.first));
            head = λ _. s.head few;
            fresh = λ z. absurd (omega (arith, z, s.count));
            pass = λ z. absurd (omega (arith, z, s.count));
            quiet = rw e.0 (λ z. absurd (omega arith));
          }

-- the description is whole with the piece, or was before
module _
    (n first head : List ℕ) (f : Flags) (zp sp q n' first' head' : List ℕ) (f' : Flags) (zp' sp' : List ℕ) (from : ℕ) (before w : Way)
    (string : ℕ) (σ₀ : Settings)
    (h : 16 ≤ number n 2 + length q) (top : number n 2 + length q ≤ 4097)
    (settled : σ₀ ≡ settings_of (number n 1)) (lead : LeadIs first (number n 2) q from first')
    (ready : ReadyIs σ₀ n first' (number n 2) before)
    (named : string ≡ byte first' 4)
    (on : AdvanceIs σ₀ before (leb (number n 2) 16) (take (length q - from) (drop from q)) string head f zp sp w head' f' zp' sp')
    (e : (n' ≡ numbers_of 0 (number n 1) (number n 2 + length q) w) × (way_of n' ≡ w))
  where
    abbrev rest : List ℕ
    rest = take (length q - from) (drop from q)

    left : rest ≡ drop from q
    left = take_all (length q - from) (drop from q) (omega (arith, length-drop from q))

    module _
        (σ : Settings) (c : List ℕ) (small : Bytes q) (some_bytes : 0 < length q)
        (s : Stands σ (state_of σ c) (lent n first head f zp sp)) where
      long : length (c ++ q) ≡ number n 2 + length q
      long = omega (arith, length-append c q, s.count)

      abbrev d : Description
      d = read_description σ.chip (byte (take 16 (c ++ q)))

      abbrev broken_by : Option ℕ
      broken_by = description_breaks σ.chip d

      whole : length (take 16 (c ++ q)) ≡ 16
      whole = length-take-le 16 (c ++ q) (omega (arith, long))

      on_σ : AdvanceIs σ before (leb (number n 2) 16) rest string head f zp sp w head' f' zp' sp'
      on_σ = subst (λ (x : Settings). AdvanceIs x before (leb (number n 2) 16) rest string head f zp sp w head' f' zp' sp')
          (settled ∙ s.settings) on

      ready_σ : ReadyIs σ n first' (number n 2) before
      ready_σ = subst (λ (x : Settings). ReadyIs x n first' (number n 2) before) (settled ∙ s.settings) ready

      -- the description's bytes are kept
      kept : Holds first' (take 16 (c ++ q))
      kept = go (ltb (number n 2) 16) refl
        where
          go : (t : Bool) → ltb (number n 2) 16 ≡ t → Holds first' (take 16 (c ++ q))
          go true p =
              let few = ltb-true (number n 2) 16 p in
              let b : take (16 - number n 2) q ≡ take (16 - length c) q = ap (λ (k : ℕ). take (16 - k) q) s.count in
              rw (early_first c q (omega (arith, s.count)), ← b)
              ((lead.early few).1 c s.count (rw (take_all 16 c (omega (arith, s.count))) at s.first))
          go false p =
              let much = ltb-false (number n 2) 16 p in
              rw ((lead.late much).1, take-append-le 16 c q (omega (arith, s.count))) s.first

      -- before the first element
      fresh : number n 2 ≤ 16 → Fresh σ d before
      fresh few = go (ltb (number n 2) 16) refl
        where
          go : (t : Bool) → ltb (number n 2) 16 ≡ t → Fresh σ d before
          go true p =
              rw (← (same_description σ.chip (byte first') (byte (take 16 (c ++ q)))
              (λ i k. kept.same i (omega arith) (omega (arith, whole)))))
              (ready_σ.early (ltb-true (number n 2) 16 p))
          go false p =
              let much = ltb-false (number n 2) 16 p in
              rw (ready_σ.late much, take-append-le 16 c q (omega (arith, s.count))) (s.fresh (omega (arith, s.count)))

      left_early : number n 2 ≤ 16 → rest ≡ drop 16 (c ++ q)
      left_early few = left ∙ go (ltb (number n 2) 16) refl ∙ sym (early_rest c q (omega (arith, s.count)))
        where
          go : (t : Bool) → ltb (number n 2) 16 ≡ t → drop from q ≡ drop (16 - length c) q
          go true p = rw ((lead.early (ltb-true (number n 2) 16 p)).0, s.count) refl
          go false p =
              let much = ltb-false (number n 2) 16 p in
              let z : 16 - length c ≡ 0 = omega (arith, s.count) in
              rw ((lead.late much).0, z) refl

      left_late : 16 < number n 2 → rest ≡ q
      left_late much = rw (left, (lead.late (omega arith)).0) refl

      bytes_rest : Bytes rest
      bytes_rest = rw left (bytes_drop from q small)

      described : string ≡ d.string
      described = named ∙ kept.same 4 (omega arith) (omega (arith, whole))

      -- the pass after the piece
      passed : 16 < length (c ++ q) → WayIs d w head' f' zp' sp' (opened broken_by (run_bytes σ begin (drop 16 (c ++ q))))
      passed g = go (leb (number n 2) 16) refl
        where
          go : (t : Bool) → leb (number n 2) 16 ≡ t → WayIs d w head' f' zp' sp' (opened broken_by (run_bytes σ begin (drop 16 (c ++ q))))
          go true p =
              let few = leb-true (number n 2) 16 p in
              let l = ap length (left_early few) in
              let m = length-drop 16 (c ++ q) in
              rw (← (left_early few))
              (on_σ.first p d (fresh few) described (s.head (omega (arith, s.count))) bytes_rest (omega (arith, l, m, g))
              (omega (arith, l, m, long)))
          go false p =
              let much = leb-false (number n 2) 16 p in
              let same : take 16 (c ++ q) ≡ take 16 c = take-append-le 16 c q (omega (arith, s.count)) in
              let all = left_late much in
              let k : WayIs d before head f zp sp (opened broken_by (run_bytes σ begin (drop 16 c))) =
              rw (ready_σ.late (omega arith), same) (s.pass (omega (arith, s.count))) in
              rw (drop-append-le 16 c q (omega (arith, s.count)), run_append σ begin (drop 16 c) q)
              (subst (λ (r : Run). WayIs d w head' f' zp' sp' r)
              (ap (run_bytes σ (opened broken_by (run_bytes σ begin (drop 16 c)))) all
              ∙ opened_bytes σ broken_by (run_bytes σ begin (drop 16 c)) q)
              (on_σ.more p d (length c) (opened broken_by (run_bytes σ begin (drop 16 c))) k
              (placed_of σ d c (omega (arith, s.count))) bytes_rest
              (omega (arith, ap length all)) (omega (arith, ap length all, s.count))))

      -- no element yet
      alone : length (c ++ q) ≡ 16 → (w ≡ before) × (head' ≡ head)
      alone g =
          let z : length rest ≡ 0 = omega (arith, ap length (left_early (omega (arith, long))), length-drop 16 (c ++ q), g) in
          let y = on_σ.still z in
          (y.0, y.1)

      grown : Stands σ (state_of σ (c ++ q)) (lent n' first' head' f' zp' sp')
      grown =
          record {
            size = rw e.0 refl;
            live = rw e.0 refl;
            settings = rw e.0 s.settings;
            count = rw e.0 (sym long);
            first = kept;
            head = λ z. let a = alone (omega (arith, long, z)) in rw a.1 (s.head (omega (arith, s.count, long)));
            fresh = λ z. rw (e.1, (alone z).0) (fresh (omega (arith, long, z)));
            pass = λ z. rw e.1 (passed z);
            quiet = rw e.0 (λ z. absurd (omega arith));
          }

    pub grows_on : ReceiveIs (lent n first head f zp sp) q (lent n' first' head' f' zp' sp')
    grows_on = record { live = rw e.0 refl; goes = grown }

-- the description's bytes of a piece
pub lead_now :
    (first : List ℕ) (count : ℕ) (q : List ℕ) (r : ℕ) (first' : List ℕ)
    → count < 16
    → 16 ≤ count + length q
    → r ≡ 16 - count
    → KeepIs count (take (r - 0) q) first first'
    → LeadIs first count q r first'
lead_now first count q r first' h m e k =
    let z : r - 0 ≡ 16 - count = omega arith in
    record { within = omega (arith, e, m); early = λ _. (e, rw (← z) k.keeps); late = λ n. absurd (omega (arith, n, h)) }
