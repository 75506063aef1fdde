-- Bytes that decide nothing: up to which count there are only such, and what one of them makes of the pass.
-- Assumes nothing.
use Prim.Native.Nat.{ℕ, ◌+◌, ◌-◌, ◌*◌, ◌/◌, ◌%◌, ◌≤◌, ◌<◌}
use native.Mathlib.Omega.{arith}
use native.Mathlib.Nat.{mod-eq_of_lt}
use mathlib.Core.Path.{◌≡◌, refl, sym, ◌∙◌, ap, subst}
use mathlib.Core.Bool.{Bool, true, false}
use mathlib.Core.List.{List, [], ◌∷◌, ◌++◌, append-nil, append_assoc}
use lib.ListN.{length, set, length-append, length-set, get_or-append}
use lib.Seq.{get_or-set_same, get_or-set_other}
use lib.Dec.{eqb, ltb, leb}
use borrow.Author.Tests.{ltb-true, ltb-false, leb-true, leb-false, eqb-true, eqb-false, ne_eqb}
use Rattle.format.specs.Slots.{byte, Bytes}
use Rattle.format.specs.declared.settings.Settings.{Settings}
use Rattle.format.specs.declared.records.Description.{Description}
use Rattle.pass.specs.Tracks.{Flags}
use Rattle.stream.specs.Running.{Run, going, broken, run_bytes}
use Rattle.stream.proofs.Runs.{run_on}
use Rattle.stream.proofs.Running.{waits_bytes}
use Rattle.underway.specs.Under.{Holds, TextIs, CutIs, most_of, lead_of, UnderIs}
use Rattle.underway.specs.declared.Under.{Under}
use Rattle.closing.specs.Ways.{WayIs}
use Rattle.closing.specs.declared.Way.{Way}
use Rattle.passing.proofs.Sharing.{kept_byte, told_is}
use Rattle.passing.proofs.Resuming.{bytes_both}
use Rattle.states.specs.Numbers.{number, way_of}
use Rattle.advancing.specs.Advancing.{PlacedAt}
use Rattle.advancing.specs.Quiet.{Plain, Plains, none_there, one_more, Quiet, QuietRun}
use Rattle.single.specs.Single.{NextIs, QuietTo, LengthenIs, QuietNow}
use Rattle.single.proofs.Adding.{text_first, text_half, text_unit, marked_plain, beside, onward}

abbrev even_so : ℕ → Under
even_so n = record { len = n; at = 0; blocks = 0; mark = 0 }

-- a text whose units are good, none open: with such a byte more, and with many
text_byte : (v : List ℕ) (x : ℕ) → Plain x → (6 ≤ length v → TextIs 0 v) → 6 ≤ length (v ++ x ∷ []) → TextIs 0 (v ++ x ∷ [])
text_byte v x n h l = go (ltb (length v) 6) refl (eqb (length v % 2) 0) refl
  where
    go : (t : Bool) → ltb (length v) 6 ≡ t → (e : Bool) → eqb (length v % 2) 0 ≡ e → TextIs 0 (v ++ x ∷ [])
    go true a e b =
        (text_first (even_so (length v)) x (even_so (length v + 1)) refl (omega arith) (ltb-true (length v) 6 a) refl).on v refl h l
    go false a true b =
        (text_half (even_so (length v)) x (even_so (length v + 1)) refl (omega arith) (ltb-false (length v) 6 a)
        (eqb-true (length v % 2) 0 b) refl).on v refl h l
    go false a false b =
        (text_unit (even_so (length v)) x (even_so (length v + 1)) refl (omega arith) (ltb-false (length v) 6 a)
        (eqb-false (length v % 2) 0 b) (marked_plain 0 x (rw (ne_eqb (x / 8) 27 n) refl))).on v refl h l

text_bytes : (v q : List ℕ) → Plains q → (6 ≤ length v → TextIs 0 v) → 6 ≤ length (v ++ q) → TextIs 0 (v ++ q)
text_bytes v [] none_there h l = rw (append-nil v) (h (rw (append-nil v) at l))
text_bytes v (x ∷ q) (one_more n ns) h l =
    let e = append_assoc v (x ∷ []) q in
    subst (TextIs 0) e (text_bytes (v ++ x ∷ []) q ns (λ m. text_byte v x n h m) (rw e l))

-- the count
module _ (head : List ℕ) (u : Under) (count : ℕ) where
  pub quiet_none : QuietTo head u count 0
  quiet_none = record { low = omega arith; quiet = λ l. absurd (omega arith) }

  module _
      {a b id next end r : ℕ}
      (some-there : 3 ≤ u.len) (p : a ≡ byte head 1) (q : b ≡ byte head 2) (i : id ≡ byte head 0)
      (n : NextIs id u next) (short : end < a + 256 * b) (near : end ≤ next) (ahead : u.len < end) (most : r ≤ count + (end - u.len))
      (v : List ℕ) (w : UnderIs u head v) (l : count < r) where
    kind : id ≡ byte v 0
    kind = i ∙ w.held.same 0 (omega arith) (omega (arith, w.long))

    cuts :
        (most_of (byte v 0) ≡ 0 → ⊥)
        → (t : Bool)
        → leb (length v) 12 ≡ t
        → (q : List ℕ)
        → length q ≤ r - count
        → 12 < length (v ++ q)
        → CutIs (lead_of (byte v 0)) (most_of (byte v 0)) u.at u.blocks (eqb u.mark 0) (v ++ q)
    cuts z true t q k m =
        let few = leb-true (length v) 12 t in
        absurd (omega (
          arith,
          n.first (subst (λ (j : ℕ). most_of j ≡ 0 → ⊥) (sym kind) z) (omega (arith, w.long)),
          length-append v q,
          w.long,
        ))
    cuts z false t q k m =
        let many = leb-false (length v) 12 t in
        let y = w.cut z many in
        record {
          ahead = λ q'. rw (append_assoc v q q') (y.ahead (q ++ q'));
          few = y.few;
          waits =
              λ g.
              let s = n.later (subst (λ (j : ℕ). most_of j ≡ 0 → ⊥) (sym kind) z) (omega (arith, w.long))
              (subst (λ (j : ℕ). u.blocks < most_of j) (sym kind) g) w.low in
              let s' = subst (λ (j : ℕ). next ≤ 12 - lead_of j + u.at) kind s in
              omega (arith, s', length-append v q, w.long);
        }

    is_quiet : Quiet u v (r - count)
    is_quiet =
        record {
          begun = omega (arith, w.long);
          waits =
              λ q' k.
              let m = length-append v q' in
              let e = told_is v q' (p ∙ kept_byte head v q' 1 w.held (omega arith) (omega (arith, w.long)))
              (q ∙ kept_byte head v q' 2 w.held (omega arith) (omega (arith, w.long))) in
              waits_bytes (v ++ q') (omega (arith, m, w.long)) (omega (arith, m, w.long, e));
          text =
              λ e q' ns k m.
              let z : u.mark ≡ 0 = n.text (kind ∙ e) (omega arith) in
              rw z (text_bytes v q' ns (λ g. rw z at (w.text e g)) m);
          cut = λ z q' k m. cuts z (leb (length v) 12) refl q' k m;
        }

  pub quiet_some :
      {a b id next end r : ℕ}
      → 3 ≤ u.len
      → a ≡ byte head 1
      → b ≡ byte head 2
      → id ≡ byte head 0
      → NextIs id u next
      → end < a + 256 * b
      → end ≤ next
      → u.len < end
      → r ≤ count + (end - u.len)
      → r ≤ 4097
      → QuietTo head u count r
  quiet_some h p q i n s near ahead most low = record { low = low; quiet = λ l v w. is_quiet h p q i n s near ahead most v w l }

-- one of them
abbrev longer : Under → Under
longer u = record { len = u.len + 1; at = u.at; blocks = u.blocks; mark = u.mark }

quiet_under :
    (u : Under) (head head' v : List ℕ) (x k : ℕ)
    → UnderIs u head v
    → Quiet u v k
    → 0 < k
    → Plain x
    → Bytes (x ∷ [])
    → Holds head' (v ++ x ∷ [])
    → UnderIs (longer u) head' (v ++ x ∷ [])
quiet_under u head head' v x k w c l n small h =
    let e = get_or-append v (x ∷ []) 0 0 c.begun in
    record {
      long = omega (arith, w.long, length-append v (x ∷ []));
      low = w.low;
      bytes = bytes_both v (x ∷ []) w.bytes small;
      held = h;
      text = λ z m. c.text (sym e ∙ z) (x ∷ []) (one_more n none_there) l m;
      cut =
          λ z m.
          subst (λ (i : ℕ). CutIs (lead_of i) (most_of i) u.at u.blocks (eqb u.mark 0) (v ++ x ∷ [])) (sym e)
          (c.cut (subst (λ (i : ℕ). most_of i ≡ 0 → ⊥) e z) (x ∷ []) l m);
    }

quiet_next : (u : Under) (v : List ℕ) (x k : ℕ) → Quiet u v k → 0 < k → Plain x → Quiet (longer u) (v ++ x ∷ []) (k - 1)
quiet_next u v x k c l n =
    let e = get_or-append v (x ∷ []) 0 0 c.begun in
    record {
      begun = omega (arith, length-append v (x ∷ []));
      waits = λ q m. rw (append_assoc v (x ∷ []) q) (c.waits (x ∷ q) (omega arith));
      text =
          λ z q ns m g.
          let a = append_assoc v (x ∷ []) q in
          subst (TextIs u.mark) (sym a) (c.text (sym e ∙ z) (x ∷ q) (one_more n ns) (omega arith) (rw a at g));
      cut =
          λ z q m g.
          let a = append_assoc v (x ∷ []) q in
          subst (λ (i : ℕ). CutIs (lead_of i) (most_of i) u.at u.blocks (eqb u.mark 0) ((v ++ x ∷ []) ++ q)) (sym e)
          (subst (λ (b : List ℕ). CutIs (lead_of (byte v 0)) (most_of (byte v 0)) u.at u.blocks (eqb u.mark 0) b) (sym a)
          (c.cut (subst (λ (i : ℕ). most_of i ≡ 0 → ⊥) e z) (x ∷ q) (omega arith) (rw a at g)));
    }

way_lengthened :
    (n : List ℕ) (k j : ℕ)
    → length n ≡ 16
    → way_of (set (set n 2 k) 5 j) ≡ onward n record { len = j; at = number n 6; blocks = number n 7; mark = number n 8 }
way_lengthened [] k j e = absurd (omega arith)
way_lengthened (a ∷ []) k j e = absurd (omega arith)
way_lengthened (a ∷ b ∷ []) k j e = absurd (omega arith)
way_lengthened (a ∷ b ∷ c ∷ []) k j e = absurd (omega arith)
way_lengthened (a ∷ b ∷ c ∷ d ∷ []) k j e = absurd (omega arith)
way_lengthened (a ∷ b ∷ c ∷ d ∷ f ∷ []) k j e = absurd (omega arith)
way_lengthened (a ∷ b ∷ c ∷ d ∷ f ∷ g ∷ n) k j e = refl

module _ (n head : List ℕ) (x : ℕ) (n' head' : List ℕ) (w : LengthenIs n head (number n 2) x n' head') (full : length n ≡ 16) where
  pub lengthened_beside : (i : ℕ) → (i ≡ 2 → ⊥) → (i ≡ 5 → ⊥) → number n' i ≡ number n i
  lengthened_beside i a b =
      let k = number n 2 + 1 in
      rw w.numbers (get_or-set_other (set n 2 k) 5 i (number n 5 % 65536 + 1) 0 b ∙ get_or-set_other n 2 i k 0 a)

  pub lengthened_count : number n' 2 ≡ number n 2 + 1
  lengthened_count =
      let k = number n 2 + 1 in
      rw w.numbers (beside (set n 2 k) 5 2 (number n 5 % 65536 + 1) (omega arith) ∙ get_or-set_same n 2 k 0 (omega arith))

  pub lengthened_size : length n' ≡ 16
  lengthened_size =
      let k = number n 2 + 1 in
      rw w.numbers (length-set (set n 2 k) 5 (number n 5 % 65536 + 1) ∙ length-set n 2 k ∙ full)

  module _
      (σ : Settings) (d : Description) (f : Flags) (zp sp : List ℕ) (m k : ℕ) (n-plain : Plain x) (small : Bytes (x ∷ []))
      (l : m < 4097) (some_left : 0 < k) where
    lengthened :
        (s : Run)
        → WayIs d (way_of n) head f zp sp s
        → QuietRun k (way_of n).under s
        → PlacedAt m s
        → WayIs d (way_of n') head' f zp sp (run_bytes σ s (x ∷ [])) × QuietRun (k - 1) (way_of n').under (run_bytes σ s (x ∷ []))
    lengthened (broken j p) o c q = absurd c
    lengthened (going before at v) o c q =
        let u = (way_of n).under in
        let had : number n 5 % 65536 ≡ number n 5 = mod-eq_of_lt (omega (arith, o.under.long, q.0)) in
        let h = w.kept.keeps v (had ∙ o.under.long) o.under.held in
        let z : number n 5 % 65536 + 1 ≡ number n 5 + 1 = ap (λ (i : ℕ). i + 1) had in
        let e : way_of n' ≡ onward n (longer u) =
        rw (w.numbers, z) (way_lengthened n (number n 2 + 1) (number n 5 + 1) full) in
        let still = c.waits (x ∷ []) some_left in
        let r = run_on σ before at v (x ∷ []) still in (
          rw (e, r)
              record {
                goes = o.goes;
                here = o.here;
                place = o.place;
                gone = o.gone;
                under = quiet_under u head head' v x k o.under c some_left n-plain small h;
                waits = still;
              },
          subst (λ (y : Under). QuietRun (k - 1) y (run_bytes σ (going before at v) (x ∷ []))) (sym (ap (λ (y : Way). y.under) e))
              (subst (λ (y : Run). QuietRun (k - 1) (longer u) y) (sym r) (quiet_next u v x k c some_left n-plain)),
        )

  pub longer_quiet :
      (σ : Settings) (d : Description) (f : Flags) (zp sp : List ℕ) (m : ℕ) (s : Run)
      → Plain x
      → number n 2 < number n 15
      → number n 15 ≤ 4097
      → QuietRun (number n 15 - number n 2) (way_of n).under s
      → WayIs d (way_of n) head f zp sp s
      → PlacedAt m s
      → Bytes (x ∷ [])
      → m < 4097
      → WayIs d (way_of n') head' f zp sp (run_bytes σ s (x ∷ [])) × QuietNow n' (run_bytes σ s (x ∷ []))
  longer_quiet σ d f zp sp m s y ahead low c o q small l =
      let t = lengthened σ d f zp sp m (number n 15 - number n 2) y small l (omega arith) s o c q in
      let a = lengthened_beside 15 (λ z. omega arith) (λ z. omega arith) in
      let b = lengthened_count in
      let i : number n 15 - number n 2 - 1 ≡ number n' 15 - number n' 2 = omega (arith, a, b) in (
        t.0,
        λ _. (omega (arith, a), subst (λ (j : ℕ). QuietRun j (way_of n').under (run_bytes σ s (x ∷ []))) i t.1),
      )
