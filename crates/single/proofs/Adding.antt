-- One byte more: of a text, of blocks, of any element, and of the pass.
-- Assumes nothing.
use Prim.Native.Nat.{ℕ, ◌+◌, ◌-◌, ◌*◌, ◌/◌, ◌%◌, ◌≤◌, ◌<◌}
use native.Mathlib.Omega.{arith}
use mathlib.Core.Path.{◌≡◌, refl, sym, ◌∙◌, ap, subst}
use mathlib.Core.Bool.{Bool, true, false, ◌&&◌, not, false≢true, and-eq-true_iff}
use mathlib.Core.List.{List, [], ◌∷◌, ◌++◌, append_assoc}
use lib.ListN.{length, set, length-append, length-set, get_or-append}
use lib.Seq.{get_or-set_same, get_or-set_other}
use lib.Dec.{eqb, ltb}
use borrow.Author.Tests.{ltb-true, eqb-true, eqb-false, ne_eqb, not-true}
use Rattle.format.specs.Slots.{byte, Bytes}
use Rattle.format.specs.Utf16.{agrees}
use Rattle.format.specs.Verdict.{stated}
use Rattle.format.specs.declared.settings.Settings.{Settings}
use Rattle.format.specs.declared.records.Description.{Description}
use Rattle.pass.specs.Tracks.{Flags}
use Rattle.stream.specs.Running.{Run, going, broken, unready, run_bytes}
use Rattle.stream.proofs.Runs.{run_on}
use Rattle.stream.proofs.Running.{waits_header, waits_bytes}
use Rattle.blocks.specs.Cutting.{enter}
use Rattle.blocks.specs.declared.Cut.{Cut}
use Rattle.underway.specs.Under.{Holds, mark_of, is_good, is_high, UnitsFrom, UnitsOn, TextOn, CutIs, CutOn, UnderIs}
use Rattle.underway.specs.declared.Under.{Under}
use Rattle.underway.specs.declared.Units.{Units}
use Rattle.underway.proofs.Unit.{good_mark, high_mark, unit_next, text_grows}
use Rattle.underway.proofs.Block.{within_first, within_next, first_cut}
use Rattle.closing.specs.Ways.{WayIs}
use Rattle.closing.specs.declared.Way.{Way}
use Rattle.passing.proofs.Sharing.{kept_byte, piece_byte, told_is}
use Rattle.passing.proofs.Resuming.{bytes_both}
use Rattle.states.specs.Numbers.{number, way_of}
use Rattle.advancing.specs.Advancing.{PlacedAt}
use Rattle.advancing.specs.Quiet.{QuietRun}
use Rattle.single.specs.Single.{StaysIs, Marked, OneIs, QuietTo, puts, Longer}

abbrev counted : ℕ → Bool → Bool → Units
counted whole good high = record { whole = whole; good = good; high = high }

-- a unit that is no surrogate, where all is good and none is open
pub marked_plain : (mark x : ℕ) → eqb mark 0 && not (eqb (x / 8) 27) ≡ true → Marked mark x 0
marked_plain mark x h =
    let t = (and-eq-true_iff (eqb mark 0) (not (eqb (x / 8) 27))).0 h in
    let z = eqb-true mark 0 t.0 in
    let n = eqb-false (x / 8) 27 (not-true (eqb (x / 8) 27) t.1) in
    let low = ne_eqb (x / 4) 55 (λ e. n (omega (arith, e))) in
    let high = ne_eqb (x / 4) 54 (λ e. n (omega (arith, e))) in
    rw z record { good = rw low refl; high = rw high refl }

-- any
pub marked_any :
    (mark x : ℕ) {g : Bool} {r : ℕ}
    → g ≡ agrees (is_high mark) (eqb (x / 4) 55)
    → r ≡ mark_of (is_good mark && g) (eqb (x / 4) 54)
    → Marked mark x r
marked_any mark x {g} e f =
    let a = is_good mark && g in
    let b = eqb (x / 4) 54 in
    record { good = ap is_good f ∙ good_mark a b ∙ ap (λ (t : Bool). is_good mark && t) e; high = ap is_high f ∙ high_mark a b }

-- a text, from the units that are there to those that are there then
module _ (u : Under) (x : ℕ) (r : Under) (l : r.len ≡ u.len + 1) (o : r.at ≤ 10000) where
  text_one : (t : Units) → UnitsFrom u t → UnitsOn t u.len (x ∷ []) ((u.len + 1 - 6) / 2) r.mark → TextOn u (x ∷ []) r
  text_one t f n = record { long = l; low = o; on = text_grows u (x ∷ []) t r.mark f n }

  -- before the text there is nothing to say
  pub text_first : u.len < 6 → r.mark ≡ 0 → TextOn u (x ∷ []) r
  text_first h m =
      let z : (u.len + 1 - 6) / 2 ≡ 0 = omega arith in
      text_one (counted 0 true false)
      record { early = λ _. (refl, refl, refl); late = λ k. absurd (omega arith); near = omega arith }
      record { on = λ v q e a small. rw (m, z) refl }

  here : 6 ≤ u.len → UnitsFrom u (counted ((u.len - 6) / 2) (is_good u.mark) (is_high u.mark))
  here h = record { early = λ k. absurd (omega arith); late = λ _. (refl, refl, refl); near = omega arith }

  -- the first byte of a unit
  pub text_half : 6 ≤ u.len → u.len % 2 ≡ 0 → r.mark ≡ u.mark → TextOn u (x ∷ []) r
  text_half h e m =
      let z : (u.len + 1 - 6) / 2 ≡ (u.len - 6) / 2 = omega arith in
      text_one (counted ((u.len - 6) / 2) (is_good u.mark) (is_high u.mark)) (here h) record { on = λ v q e a small. rw (m, z) refl }

  -- the second
  pub text_unit : 6 ≤ u.len → (u.len % 2 ≡ 0 → ⊥) → Marked u.mark x r.mark → TextOn u (x ∷ []) r
  text_unit h e m =
      let k = (u.len - 6) / 2 in
      let z : (u.len + 1 - 6) / 2 ≡ k + 1 = omega arith in
      text_one (counted k (is_good u.mark) (is_high u.mark)) (here h)
      record {
        on =
            λ v q e a small.
            rw (z, m.good, m.high)
            (unit_next v (x ∷ []) q k (is_good u.mark) (is_high u.mark) {i = 0} {x = x} small (omega arith) (omega arith)
            (omega arith) refl);
      }

-- blocks
module _ (u : Under) (lead most x : ℕ) (r : Under) (one : lead ≤ 1) (l : r.len ≡ u.len + 1) where
  -- before the first ENTRIES byte
  pub cut_before : r.at ≤ 10000 → u.len < 12 → CutOn u lead most (x ∷ []) r
  cut_before o h = record { long = l; low = o; on = λ v e k m. absurd (omega (arith, e, m, length-append v (x ∷ []))) }

  -- another byte
  pub cut_beside :
      r.at ≡ u.at
      → r.blocks ≡ u.blocks
      → r.mark ≡ u.mark
      → u.at ≤ 10000
      → 12 < u.len
      → (u.len - (12 - lead) ≡ u.at → ⊥)
      → CutOn u lead most (x ∷ []) r
  cut_beside a b c o h n =
      record {
        long = l;
        low = omega (arith, a);
        on =
            λ v e k m.
            let y = k (omega (arith, e)) in
            rw (a, b, c)
            record {
              ahead = λ q. rw (append_assoc v (x ∷ []) q) (y.ahead (x ∷ q));
              few = y.few;
              waits = λ g. let w = y.waits g in omega (arith, w, n, e, length-append v (x ∷ []));
            };
      }

  -- no block may come
  pub cut_full :
      r.at ≡ u.at
      → r.blocks ≡ u.blocks
      → r.mark ≡ u.mark
      → u.at ≤ 10000
      → 12 < u.len
      → most ≤ u.blocks
      → CutOn u lead most (x ∷ []) r
  cut_full a b c o h n =
      record {
        long = l;
        low = omega (arith, a);
        on =
            λ v e k m.
            let y = k (omega (arith, e)) in
            rw (a, b, c)
            record {
              ahead = λ q. rw (append_assoc v (x ∷ []) q) (y.ahead (x ∷ q));
              few = y.few;
              waits = λ g. absurd (omega (arith, g, n));
            };
      }

  -- an ENTRIES byte
  entered :
      (c d : Cut) (number : ℕ)
      → d ≡ enter true lead x c
      → r.at ≡ d.at
      → r.blocks ≡ number + 1
      → eqb r.mark 0 ≡ d.full
      → number < most
      → u.len ≡ 12 - lead + c.at
      → (v : List ℕ)
      → u.len ≡ length v
      → CutIs lead most c.at number c.full v
      → CutIs lead most r.at r.blocks (eqb r.mark 0) (v ++ x ∷ [])
  entered c d number g a b m n here v e k =
      let w = within_next lead most c d number v (x ∷ []) {i = 0} {x = x} (within_first _ _ _ _ _ v (x ∷ []) k) n one
      (omega (arith, here, e)) (omega (arith, here, e)) refl g in
      rw (a, b, m)
      record {
        ahead = λ q. rw (append_assoc v (x ∷ []) q) (w.ahead q);
        few = w.few;
        waits = λ _. omega (arith, here, e, ap (λ (k : Cut). k.at) g, length-append v (x ∷ []));
      }

  module _ (d : Cut) (a : r.at ≡ d.at) (o : d.at ≤ 10000) (m : eqb r.mark 0 ≡ d.full) where
    -- the first
    pub cut_first :
        (c : Cut)
        → c.at ≡ lead
        → c.full ≡ true
        → d ≡ enter true lead x c
        → r.blocks ≡ 1
        → 1 ≤ most
        → u.len ≡ 12
        → CutOn u lead most (x ∷ []) r
    cut_first c p q g b n h =
        record {
          long = l;
          low = omega (arith, a);
          on = λ v e k _. entered c d 0 g a b m n (omega arith) v e (rw (p, q) (first_cut lead most v one (omega (arith, e))));
        }

    -- another one
    pub cut_next :
        (c : Cut)
        → c.at ≡ u.at
        → c.full ≡ eqb u.mark 0
        → d ≡ enter true lead x c
        → r.blocks ≡ u.blocks + 1
        → u.blocks < most
        → 12 < u.len
        → u.len - (12 - lead) ≡ u.at
        → CutOn u lead most (x ∷ []) r
    cut_next c p q g b n h f =
        record {
          long = l;
          low = omega (arith, a);
          on = λ v e k _. entered c d u.blocks g a b m n (omega arith) v e (rw (p, q) (k (omega (arith, e))));
        }

-- the byte is one of the first 30, or is not kept
pub keep_late : (head v : List ℕ) (x : ℕ) → 30 ≤ length v → Holds head v → Holds head (v ++ x ∷ [])
keep_late head v x l h =
    record {
      size = h.size;
      same = λ i a b. h.same i a (omega arith) ∙ sym (get_or-append v (x ∷ []) 0 i (omega arith));
    }

-- it waits still
module _ (head : List ℕ) (had x : ℕ) where
  pub stays_no : StaysIs head had x false
  stays_no = record { few = λ e. absurd (false≢true e); waits = λ e. absurd (false≢true e) }

  pub stays_header : had < 2 → StaysIs head had x true
  stays_header l =
      record {
        few = λ _. omega arith;
        waits = λ _ v h e. waits_header (v ++ x ∷ []) (omega (arith, e, length-append v (x ∷ [])));
      }

  -- by the length that its header gives
  reaches :
      {told : ℕ} (v : List ℕ)
      → told ≡ stated (v ++ x ∷ [])
      → had ≡ length v
      → 2 ≤ had
      → had + 1 < told
      → unready (v ++ x ∷ []) ≡ true
  reaches v t e l m = let n = length-append v (x ∷ []) in waits_bytes (v ++ x ∷ []) (omega (arith, e, n)) (omega (arith, e, n, t))

  -- with the last byte of the header
  pub stays_third : had ≡ 2 → {a b : ℕ} → a ≡ byte head 1 → b ≡ x → StaysIs head had x (ltb 3 (a + 256 * b))
  stays_third l {a} {b} p q =
      let z : 0 ≡ 2 - had = omega arith in
      record {
        few = λ _. omega arith;
        waits =
            λ t v h e.
            reaches v
            (told_is v (x ∷ []) (p ∙ kept_byte head v (x ∷ []) 1 h (omega arith) (omega arith))
            (q ∙ ap (byte (x ∷ [])) z ∙ piece_byte v (x ∷ []) 2 had e (omega arith)))
            e (omega arith) (omega (arith, ltb-true 3 (a + 256 * b) t));
      }

  -- behind it
  pub stays_later :
      3 ≤ had
      → {a b : ℕ}
      → a ≡ byte head 1
      → b ≡ byte head 2
      → a < 256
      → b < 256
      → had < a + 256 * b
      → StaysIs head had x (ltb 1 (a + 256 * b - had))
  stays_later l {a} {b} p q s t m =
      record {
        few = λ _. omega arith;
        waits =
            λ k v h e.
            reaches v
            (told_is v (x ∷ []) (p ∙ kept_byte head v (x ∷ []) 1 h (omega arith) (omega arith))
            (q ∙ kept_byte head v (x ∷ []) 2 h (omega arith) (omega arith)))
            e (omega arith) (omega (arith, ltb-true 1 (a + 256 * b - had) k));
      }

-- the numbers of the state
pub way_counted : (n : List ℕ) (k : ℕ) → length n ≡ 16 → way_of (set n 2 k) ≡ way_of n
way_counted [] k e = refl
way_counted (a ∷ []) k e = refl
way_counted (a ∷ b ∷ []) k e = refl
way_counted (a ∷ b ∷ c ∷ n) k e = refl

abbrev pub onward : List ℕ → Under → Way
onward n u = record { stop = number n 3; at = number n 4; under = u; state = (way_of n).state }

way_put : (n : List ℕ) (k : ℕ) (u : Under) (j : ℕ) → length n ≡ 16 → way_of (puts n k u j) ≡ onward n u
way_put [] k u j e = absurd (omega arith)
way_put (a ∷ []) k u j e = absurd (omega arith)
way_put (a ∷ b ∷ []) k u j e = absurd (omega arith)
way_put (a ∷ b ∷ c ∷ []) k u j e = absurd (omega arith)
way_put (a ∷ b ∷ c ∷ d ∷ []) k u j e = absurd (omega arith)
way_put (a ∷ b ∷ c ∷ d ∷ f ∷ []) k u j e = absurd (omega arith)
way_put (a ∷ b ∷ c ∷ d ∷ f ∷ g ∷ []) k u j e = absurd (omega arith)
way_put (a ∷ b ∷ c ∷ d ∷ f ∷ g ∷ h ∷ []) k u j e = absurd (omega arith)
way_put (a ∷ b ∷ c ∷ d ∷ f ∷ g ∷ h ∷ i ∷ []) k u j e = absurd (omega arith)
way_put (a ∷ b ∷ c ∷ d ∷ f ∷ g ∷ h ∷ i ∷ l ∷ n) k u j e = later n
  where
    later : (n : List ℕ) → way_of (puts (a ∷ b ∷ c ∷ d ∷ f ∷ g ∷ h ∷ i ∷ l ∷ n) k u j) ≡ onward (a ∷ b ∷ c ∷ d ∷ f ∷ g ∷ h ∷ i ∷ l ∷ n) u
    later [] = refl
    later (m ∷ []) = refl
    later (m ∷ o ∷ []) = refl
    later (m ∷ o ∷ p ∷ []) = refl
    later (m ∷ o ∷ p ∷ q ∷ []) = refl
    later (m ∷ o ∷ p ∷ q ∷ r ∷ []) = refl
    later (m ∷ o ∷ p ∷ q ∷ r ∷ s ∷ n) = refl

-- number 0 and 1 stay, and so does their count
pub beside : (n : List ℕ) (i j k : ℕ) → j < i → number (set n i k) j ≡ number n j
beside n i j k l = get_or-set_other n i j k 0 (λ e. omega arith)

under_beside : (n : List ℕ) (k : ℕ) (u : Under) (q j : ℕ) → j < 5 → number (puts n k u q) j ≡ number (set n 2 k) j
under_beside n k u q j l =
    let a = set n 2 k in
    let b = set a 5 u.len in
    let c = set b 6 u.at in
    let d = set c 7 u.blocks in
    let e = set d 8 u.mark in
    beside e 15 j q (omega arith)
    ∙ beside d 8 j u.mark (omega arith)
    ∙ beside c 7 j u.blocks (omega arith)
    ∙ beside b 6 j u.at (omega arith)
    ∙ beside a 5 j u.len (omega arith)

quiet_put : (n : List ℕ) (k : ℕ) (u : Under) (q : ℕ) → length n ≡ 16 → number (puts n k u q) 15 ≡ q
quiet_put n k u q e =
    let a = set n 2 k in
    let b = set a 5 u.len in
    let c = set b 6 u.at in
    let d = set c 7 u.blocks in
    get_or-set_same (set d 8 u.mark) 15 q 0
    (omega (
      arith,
      length-set d 8 u.mark,
      length-set c 7 u.blocks,
      length-set b 6 u.at,
      length-set a 5 u.len,
      length-set n 2 k,
    ))

-- a byte that does not complete the element
module _
    (n head : List ℕ) (x : ℕ) (before-it u : Under) (head' : List ℕ) (quiet : ℕ) {b : Bool} (z : number n 3 ≡ 0)
    (e : before-it ≡ (way_of n).under) (t : b ≡ true) (w : StaysIs head before-it.len x b) (m : OneIs before-it x head u head')
    (c : QuietTo head' u (number n 2 + 1) quiet)
  where
    goes :
        (σ : Settings) (d : Description) (f : Flags) (zp sp : List ℕ) (k : ℕ) (s : Run)
        → WayIs d (way_of n) head f zp sp s
        → PlacedAt k s
        → Bytes (x ∷ [])
        → k < 4097
        → WayIs d (onward n u) head' f zp sp (run_bytes σ s (x ∷ []))
        × (number n 2 + 1 < quiet → QuietRun (quiet - (number n 2 + 1)) u (run_bytes σ s (x ∷ [])))
    goes σ d f zp sp k (broken j p) o q small l = absurd (omega (arith, z, o.0, o.1))
    goes σ d f zp sp k (going before at v) o q small l =
        let h = subst (λ (y : Under). UnderIs y head v) (sym e) o.under in
        let still = w.waits t v h.held h.long in
        let y = m.on record { cut = h.low; room = omega (arith, q.0, h.long) } in
        let g = y.grows v h (bytes_both v (x ∷ []) h.bytes small) (omega (arith, length-append v (x ∷ []))) in
        rw (run_on σ before at v (x ∷ []) still) (
          record { goes = z; here = o.here; place = o.place; gone = o.gone; under = g; waits = still },
          λ i. c.quiet i (v ++ x ∷ []) g,
        )

    pub longer_on : Longer n head x (puts n (number n 2 + 1) u quiet) head'
    longer_on =
        let k = number n 2 + 1 in
        record {
          ended = under_beside n k u quiet 0 (omega arith) ∙ beside n 2 0 k (omega arith);
          size = simp length-set;
          code = under_beside n k u quiet 1 (omega arith) ∙ beside n 2 1 k (omega arith);
          count = λ e. under_beside n k u quiet 2 (omega arith) ∙ get_or-set_same n 2 k 0 (omega arith);
          on =
              λ e σ d f zp sp m s w p small l.
              let g = goes σ d f zp sp m s w p small l in
              let r = run_bytes σ s (x ∷ []) in
              let y = way_put n k u quiet e in
              let i = under_beside n k u quiet 2 (omega arith) ∙ get_or-set_same n 2 k 0 (omega arith) in (
                rw y g.0,
                rw (i, quiet_put n k u quiet e) (λ a. (
                  c.low,
                  subst (λ (v : Under). QuietRun (quiet - k) v r) (sym (ap (λ (v : Way). v.under) y)) (g.1 a),
                )),
              );
        }
