-- A run of repairs has one end: the reader gives one answer, its place says which element it is of, and so each step is settled.
-- Assumes nothing.
use Prim.Native.Nat.{ℕ, ◌+◌, ◌≤◌, ◌<◌}
use native.Mathlib.Omega.{arith}
use mathlib.Core.Path.{◌≡◌, refl, sym, ◌∙◌, ap, subst}
use mathlib.Core.Bool.{true, false, false≢true}
use mathlib.Core.List.{List, [], ◌∷◌, ◌++◌}
use mathlib.Core.Option.{none}
use lib.ListN.{length, drop, length-append}
use lib.Dec.{eqb}
use borrow.Author.Tests.{eq-eqb}
use Rattle.format.specs.Slots.{Bytes, written, all_roomy}
use Rattle.format.specs.Records.{Record}
use Rattle.format.specs.Layout.{layout, layouts, opening, table, place_after}
use Rattle.format.specs.Table.{element_breaks}
use Rattle.format.specs.Verdict.{stated, framed, Stands, Breaks, Verdict}
use Rattle.format.specs.Reader.{took, step}
use Rattle.format.specs.declared.records.Description.{Description}
use Rattle.format.specs.declared.settings.Settings.{Settings}
use Rattle.format.specs.Answers.{Answer}
use Rattle.format.specs.Answers.{Gives as Accepted, Refused}
use Rattle.format.proofs.Slots.{roomy_split, roomy_join}
use Rattle.format.proofs.Written.{written_bytes}
use Rattle.format.proofs.Decoding.{stands_decoded}
use Rattle.format.proofs.Stepping.{starts_framed, step_meets, step_took, step_stop}
use Rattle.format.proofs.Lengths.{layouts_append}
use Rattle.format.proofs.Demand3.{unique}
use Rattle.saving.specs.Saving.{At, at_place, Line, saved, records, unindexed, unindexed_description}
use Rattle.saving.specs.Repairing.{Repairs, accepted, leaves_out, clears, clears_first, RepairsPass, ends, reads_on, leaves_over}
use Rattle.saving.specs.Repairing.{stops, is_full}
use Rattle.saving.proofs.Reading.{records_append}
use Rattle.saving.proofs.Clearing.{set_roomy, unindexed_alike}
use Rattle.saving.proofs.Standing.{framed_facts}
use Rattle.saving.proofs.Bounds.{records_length}
use Rattle.saving.proofs.Keeping.{Sound}
use Rattle.saving.proofs.Passing.{Under, under_over, under_took}

-- numbers have room for what they hold, so that what is written is bytes
pub record Room (d : Description) (ks : List (At Record)) : Type 0 where
  pub top : (n : ℕ) → n ≤ 4096 → all_roomy (opening d n) ≡ true
  pub rest : all_roomy (layouts (records ks)) ≡ true
  pub limit : 16 + length (layouts (records ks)) ≤ 4096

-- the slots of two lists, one after the other
joined : (b a : List (At Record)) → layouts (records (b ++ a)) ≡ layouts (records b) ++ layouts (records a)
joined b a = ap (λ (l : List Record). layouts l) (records_append b a) ∙ layouts_append (records b) (records a)

module _ {d : Description} where
  room_bytes : (ks : List (At Record)) → Room d ks → Bytes (written (table d (records ks)))
  room_bytes ks h =
      let rs = records ks in
      let n = 16 + length (layouts rs) in
      written_bytes (table d rs) (roomy_join (opening d n) (layouts rs) (h.top n h.limit) h.rest)

  room_out :
      (before : List (At Record)) (k : At Record) (after : List (At Record))
      → Room d (before ++ k ∷ after)
      → Room d (before ++ after)
  room_out before k after h =
      let b = layouts (records before) in
      let m = layout k.what in
      let a = layouts (records after) in
      let e = joined before (k ∷ after) in
      let f = joined before after in
      let o = roomy_split b (m ++ a) (rw e at h.rest) in
      record {
        top = h.top;
        rest = rw f (roomy_join b a o.0 (roomy_split m a o.1).1);
        limit = omega (arith, h.limit, ap length e, ap length f, length-append b (m ++ a), length-append m a, length-append b a);
      }

  room_clear :
      (before : List (At Record)) (k : At Record) (after : List (At Record))
      → Room d (before ++ k ∷ after)
      → Room d (before ++ at_place k.place (unindexed k.what) ∷ after)
  room_clear before k after h =
      let l = at_place k.place (unindexed k.what) in
      let b = layouts (records before) in
      let m = layout k.what in
      let m' = layout (unindexed k.what) in
      let a = layouts (records after) in
      let e = joined before (k ∷ after) in
      let f = joined before (l ∷ after) in
      let o = roomy_split b (m ++ a) (rw e at h.rest) in
      let i = roomy_split m a o.1 in
      let same = unindexed_alike k.what in
      record {
        top = h.top;
        rest = rw f (roomy_join b (m' ++ a) o.0 (roomy_join m' a (same.room i.0) i.1));
        limit = omega (
          arith,
          h.limit,
          ap length e,
          ap length f,
          length-append b (m ++ a),
          length-append b (m' ++ a),
          length-append m a,
          length-append m' a,
          same.long,
        );
      }

  room_first : (ks : List (At Record)) → Room d ks → Room (unindexed_description d) ks
  room_first ks h = record { top = λ n l. set_roomy (opening d n) 4 (h.top n l); rest = h.rest; limit = h.limit }

-- which element a place is of
same_split :
    (b : List (At Record)) (k : At Record) (a : List (At Record)) (b' : List (At Record)) (k' : At Record) (a' : List (At Record))
    → b ++ k ∷ a ≡ b' ++ k' ∷ a'
    → place_after (records b) ≡ place_after (records b')
    → (b ≡ b') × (k ≡ k') × (a ≡ a')
same_split [] k a [] k' a' e p = (refl, cc, cc)
same_split [] k a (x ∷ b') k' a' e p = absurd (omega (arith, length-append (layout x.what) (layouts (records b'))))
same_split (x ∷ b) k a [] k' a' e p = absurd (omega (arith, length-append (layout x.what) (layouts (records b))))
same_split (x ∷ b) k a (y ∷ b') k' a' e p =
    let one : x ≡ y = cc in
    let rest : b ++ k ∷ a ≡ b' ++ k' ∷ a' = cc in
    let long : length (layout x.what) ≡ length (layout y.what) = ap (λ (z : At Record). length (layout z.what)) one in
    let w =
    same_split b k a b' k' a' rest
    (omega (arith, long, length-append (layout x.what) (layouts (records b)), length-append (layout y.what) (layouts (records b'))))
    in
    (cc w.0, w.1, w.2)

module _ (σ : Settings) where
  -- two answers to one table
  told :
      {d d' : Description} {ks ks' : List (At Record)} {x y : Answer}
      → d ≡ d'
      → ks ≡ ks'
      → Room d ks
      → Verdict σ (written (table d (records ks))) x
      → Verdict σ (written (table d' (records ks'))) y
      → x ≡ y
  told {d} {d'} {ks} {ks'} {x} {y} p q h v w =
      let same : written (table d' (records ks')) ≡ written (table d (records ks)) = cc in
      unique σ (written (table d (records ks))) x y (room_bytes ks h) v (subst (λ (b : List ℕ). Verdict σ b y) same w)

  number : {n m p q : ℕ} → ◌≡◌ {A = Answer} (Refused n p) (Refused m q) → (n ≡ m) × (p ≡ q)
  number e = (cc, cc)

  never : {n m p : ℕ} → Accepted n ≡ Refused m p → ⊥
  never e = let z : ◌≡◌ {A = ℕ} 0 1 = cc in omega arith

  other : {n : ℕ} → eqb n 14 ≡ false → n ≡ 14 → ⊥
  other {n} e f = false≢true (sym e ∙ eq-eqb n 14 f)

  pub one_repair :
      {d d' e e' : Description} {ks ks' out out' : List (At Record)} {ls ls' : List Line}
      → Repairs σ d ks ls e out
      → Repairs σ d' ks' ls' e' out'
      → d ≡ d'
      → ks ≡ ks'
      → Room d ks
      → (ls ≡ ls') × (e ≡ e') × (out ≡ out')
  one_repair (accepted v) (accepted v') p q h = (refl, p, q)
  one_repair (leaves_out b k a v n r) (leaves_out b' k' a' v' n' r') p q h =
      let u = number (told p q h v v') in
      let s = same_split b k a b' k' a' q u.1 in
      let w = one_repair r r' p (cc (s.0, s.2)) (room_out b k a h) in
      (cc (u.0, s.1, w.0), w.1, w.2)
  one_repair (clears b k a v r) (clears b' k' a' v' r') p q h =
      let s = same_split b k a b' k' a' q (number (told p q h v v')).1 in
      let w = one_repair r r' p (cc (s.0, s.1, s.2)) (room_clear b k a h) in
      (cc (s.1, w.0), w.1, w.2)
  one_repair {ks = ks} (clears_first v r) (clears_first v' r') p q h =
      let w = one_repair r r' (ap unindexed_description p) q (room_first ks h) in
      (cc w.0, w.1, w.2)
  one_repair (accepted v) (leaves_out b' k' a' v' n' r') p q h = absurd (never (told p q h v v'))
  one_repair (accepted v) (clears b' k' a' v' r') p q h = absurd (never (told p q h v v'))
  one_repair (accepted v) (clears_first v' r') p q h = absurd (never (told p q h v v'))
  one_repair (leaves_out b k a v n r) (accepted v') p q h = absurd (never (sym (told p q h v v')))
  one_repair (leaves_out b k a v n r) (clears b' k' a' v' r') p q h = absurd (other n (number (told p q h v v')).0)
  one_repair (leaves_out b k a v n r) (clears_first v' r') p q h = absurd (other n (number (told p q h v v')).0)
  one_repair (clears b k a v r) (accepted v') p q h = absurd (never (sym (told p q h v v')))
  one_repair (clears b k a v r) (leaves_out b' k' a' v' n' r') p q h = absurd (other n' (sym (number (told p q h v v')).0))
  one_repair (clears b k a v r) (clears_first v' r') p q h = absurd (omega (arith, (number (told p q h v v')).1))
  one_repair (clears_first v r) (accepted v') p q h = absurd (never (sym (told p q h v v')))
  one_repair (clears_first v r) (leaves_out b' k' a' v' n' r') p q h = absurd (other n' (sym (number (told p q h v v')).0))
  one_repair (clears_first v r) (clears b' k' a' v' r') p q h = absurd (omega (arith, (number (told p q h v v')).1))

-- the pass: what stands at a place is read, left out or the stop, and only one of them
module _ (σ : Settings) (d : Description) (sound : Sound σ d) where
  room_under : (ks : List (At Record)) (bs : List ℕ) → Under σ (saved ks []) bs → Room d ks
  room_under ks bs i = record { top = sound.room; rest = i.roomy; limit = omega (arith, i.top) }

  takes :
      (ks : List (At Record)) (bs : List ℕ) (r : Record)
      → length ks < 96
      → Stands σ.chip bs r
      → element_breaks σ (records ks) r ≡ none
      → step σ (records ks) bs ≡ took r
  takes ks bs r few st e = step_took σ (records ks) bs r st.rest (omega (arith, few, records_length ks)) e st.starts

  header : (bs : List ℕ) (r : Record) → Stands σ.chip bs r → framed bs ≡ true
  header bs r st = starts_framed bs r st.rest st.starts

  onward :
      (ks : List (At Record)) (p : ℕ) (bs : List ℕ) (r : Record)
      → Under σ (saved ks []) bs
      → Stands σ.chip bs r
      → step σ (records ks) bs ≡ took r
      → Under σ (saved (ks ++ at_place p r ∷ []) []) (drop (stated bs) bs)
  onward ks p bs r i st e =
      let more : 0 < length bs = omega (arith, framed_facts bs (header bs r st)) in
      under_took σ d sound (saved ks []) p bs r i (rw e at (step_meets σ (records ks) bs i.small more))

  -- what is read breaks no rule
  either :
      (ks : List (At Record)) (bs : List ℕ) (r : Record) {n : ℕ}
      → length ks < 96
      → Stands σ.chip bs r
      → element_breaks σ (records ks) r ≡ none
      → Bytes bs
      → Breaks σ (records ks) bs n
      → ⊥
  either ks bs r {n} few st e small b =
      let read = takes ks bs r few st e in
      let out = step_stop σ (records ks) bs small b in
      let z : ◌≡◌ {A = ℕ} 0 1 = cc in
      omega arith

  pub one_pass :
      {e e' : Description} {out out' ks ks' : List (At Record)} {p : ℕ} {bs : List ℕ} {ls ls' : List Line}
      → RepairsPass σ d e out ks p bs ls
      → RepairsPass σ d e' out' ks' p bs ls'
      → ks ≡ ks'
      → Under σ (saved ks []) bs
      → (ls ≡ ls') × (e ≡ e') × (out ≡ out')
  one_pass {ks = ks} (ends g) (ends g') q i = one_repair σ g g' refl q (room_under ks [] i)
  one_pass {ks = ks} (ends g) (stops m' f' v' g') q i = elim m' [ ]
  one_pass {ks = ks} (stops m f v g) (ends g') q i = elim m [ ]
  one_pass {ks = ks} {p = p} {bs = bs} (reads_on r few st k w) (reads_on r' few' st' k' w') q i =
      let a = stands_decoded σ.chip bs r st in
      let a' = stands_decoded σ.chip bs r' st' in
      let same : r ≡ r' = cc in
      one_pass w w' (cc) (onward ks p bs r i st (takes ks bs r few st k))
  one_pass {ks = ks} {bs = bs} (leaves_over {n = n} v b f few w) (leaves_over {n = n'} v' b' f' few' w') q i =
      let a = step_stop σ (records ks) bs i.small b in
      let a' = step_stop σ (records ks) bs i.small (subst (λ (l : List (At Record)). Breaks σ (records l) bs n') (sym q) b') in
      let same : n ≡ n' = cc in
      let u = one_pass w w' q (under_over σ d sound (saved ks []) bs [] i) in
      (cc (u.0, same), u.1, u.2)
  one_pass {ks = ks} {bs = bs} (stops m f v g) (stops m' f' v' g') q i = one_repair σ g g' refl q (room_under ks bs i)
  one_pass {ks = ks} {bs = bs} (is_full f all v g) (is_full f' all' v' g') q i = one_repair σ g g' refl q (room_under ks bs i)
  one_pass {ks = ks} {bs = bs} (reads_on r few st k w) (leaves_over {n = n} v b f few' w') q i =
      absurd (either ks bs r few st k i.small (subst (λ (l : List (At Record)). Breaks σ (records l) bs n) (sym q) b))
  one_pass {ks = ks} {ks' = ks'} {bs = bs} (leaves_over {n = n} v b f few w) (reads_on r few' st k w') q i =
      absurd (either ks' bs r few' st k i.small (subst (λ (l : List (At Record)). Breaks σ (records l) bs n) q b))
  one_pass (ends g) (reads_on r few st k w) q i = absurd (false≢true (header [] r st))
  one_pass (ends g) (leaves_over v b f few w) q i = absurd (false≢true f)
  one_pass (ends g) (is_full f all v h) q i = absurd (false≢true f)
  one_pass (reads_on r few st k w) (ends g) q i = absurd (false≢true (header [] r st))
  one_pass {bs = bs} (reads_on r few st k w) (stops m f v g) q i = absurd (false≢true (sym f ∙ header bs r st))
  one_pass (reads_on r few st k w) (is_full f all v g) q i = absurd (omega (arith, ap length q))
  one_pass (leaves_over v b f few w) (ends g) q i = absurd (false≢true f)
  one_pass (leaves_over v b f few w) (stops m f' v' g) q i = absurd (false≢true (sym f' ∙ f))
  one_pass (leaves_over v b f few w) (is_full f' all v' g) q i = absurd (omega (arith, ap length q))
  one_pass {bs = bs} (stops m f v g) (reads_on r few st k w) q i = absurd (false≢true (sym f ∙ header bs r st))
  one_pass (stops m f v g) (leaves_over v' b f' few w) q i = absurd (false≢true (sym f ∙ f'))
  one_pass (stops m f v g) (is_full f' all v' g') q i = absurd (false≢true (sym f ∙ f'))
  one_pass (is_full f all v g) (ends g') q i = absurd (false≢true f)
  one_pass (is_full f all v g) (reads_on r few st k w) q i = absurd (omega (arith, ap length q))
  one_pass (is_full f all v g) (leaves_over v' b f' few w) q i = absurd (omega (arith, ap length q))
  one_pass (is_full f all v g) (stops m f' v' g') q i = absurd (false≢true (sym f' ∙ f))
