-- What append leaves of an accepted table has that table's records and the one that was appended; so where the reader accepts it too,
-- these are its records. Over append's own words.
-- Assumes nothing.
use Prim.Native.Nat.{ℕ, ◌+◌, ◌/◌, ◌%◌, ◌≤◌}
use native.Mathlib.Omega.{arith}
use mathlib.Core.Path.{◌≡◌, refl, sym, ◌∙◌, ap, subst}
use mathlib.Core.Bool.{true}
use mathlib.Core.List.{List, [], ◌∷◌, ◌++◌, append_assoc}
use lib.ListN.{length, take, drop, length-append}
use lib.Seq.{take_at, length-take-le}
use lib.Dec.{ltb}
use borrow.Author.Tests.{lt-ltb}
use Rattle.format.specs.Slots.{Slot, word, written, all_roomy, Fits, Bytes}
use Rattle.format.specs.Records.{Record, element_of}
use Rattle.format.specs.Layout.{opening, fixed, part, body, id_of, layout, layouts, table}
use Rattle.format.specs.Rules.{of_its_kind, element_roomy}
use Rattle.format.specs.Verdict.{stated, Accepts}
use Rattle.format.specs.Writing.{writing, element_slots, overwritten}
use Rattle.format.specs.declared.pins.Chip.{Chip}
use Rattle.format.specs.declared.settings.Settings.{Settings}
use Rattle.format.specs.declared.records.Description.{Description}
use Rattle.format.specs.declared.records.Element.{Element}
use Rattle.format.specs.declared.records.Element.TheVariants.{Digital, Analogue, Fan, Led, Water, Pump, Voltage, Current, Controller}
use Rattle.format.specs.declared.records.Element.TheVariants.{Tachometer, Zone, Text, External, Rgb}
use Rattle.format.specs.Answers.{Gives as Length}
use Rattle.format.proofs.Slots.{starts_append, starts_split, starts_more, roomy_join}
use Rattle.format.proofs.Lengths.{layouts_snoc, snoc_length}
use Rattle.format.proofs.Decoding.{starts_next, stands_decoded}
use Rattle.format.proofs.Opening.{opened_only, table_length, table_split}
use Rattle.format.proofs.Kept.{own_kept, kept_kind, described_kind}
use Rattle.format.proofs.NamedChip.{EachNamed, pass_named}
use Rattle.format.proofs.Theorem.{accepts_passed}
use Rattle.format.proofs.Written.{written_fits, length_written}
use Rattle.writer.specs.Calls.{Appended}
use Rattle.writer.proofs.Answering.{good}
use Rattle.demands.proofs.Assembled.{slots_written}
use Rattle.demands.proofs.Making.{part_roomy_lem}
use Rattle.demands.proofs.Refusals.{Takes, taken_keeps}

-- the numbers of a record that append takes have room
id_roomy : (e : Element) → ltb (id_of e) 256 ≡ true
id_roomy (Digital d) = refl
id_roomy (Analogue a) = refl
id_roomy (Fan f) = refl
id_roomy (Led l) = refl
id_roomy (Water w) = refl
id_roomy (Pump f) = refl
id_roomy (Voltage v) = refl
id_roomy (Current c) = refl
id_roomy (Controller d) = refl
id_roomy (Tachometer d) = refl
id_roomy Zone = refl
id_roomy Text = refl
id_roomy (External x) = refl
id_roomy (Rgb r) = refl

all_roomy_lem :
    (r : Record)
    → length (layout r) ≤ 4096
    → element_roomy (element_of r) ≡ true
    → Bytes (written (part r))
    → all_roomy (layout r) ≡ true
all_roomy_lem r h k f =
    let n = 3 + length (body r) in
    rw (id_roomy (element_of r), lt-ltb (n % 256) 256 (omega arith), lt-ltb (n / 256) 256 (omega (arith, h)))
    (roomy_join (fixed (element_of r)) (part r) k (part_roomy_lem r f))

-- a new length in bytes 1-2
mended :
    (o : List ℕ) (d : Description) (n m : ℕ) (ss : List Slot)
    → Fits o (opening d n ++ ss)
    → Fits (overwritten 1 (written (word m)) o) (opening d m ++ ss)
mended [] d n m ss h = absurd h
mended (a ∷ []) d n m ss h = absurd h.1
mended (a ∷ b ∷ []) d n m ss h = absurd h.1.1
mended (a ∷ b ∷ c ∷ o) d n m ss h = (h.0, (refl, (refl, h.1.1.1)))

module _ (o w z : List ℕ) (m : ℕ) (d : Description) (n : ℕ) (ss : List Slot) (f : Fits o (opening d n ++ ss)) where
  mended_front : overwritten 1 (written (word m)) (o ++ w ++ z) ≡ overwritten 1 (written (word m)) o ++ w ++ z
  mended_front = go o f
    where
      go :
          (o : List ℕ)
          → Fits o (opening d n ++ ss)
          → overwritten 1 (written (word m)) (o ++ w ++ z) ≡ overwritten 1 (written (word m)) o ++ w ++ z
      go [] h = absurd h
      go (a ∷ []) h = absurd h.1
      go (a ∷ b ∷ []) h = absurd h.1.1
      go (a ∷ b ∷ c ∷ o) h = refl

  mended_length : length (overwritten 1 (written (word m)) o) ≡ length o
  mended_length = go o f
    where
      go : (o : List ℕ) → Fits o (opening d n ++ ss) → length (overwritten 1 (written (word m)) o) ≡ length o
      go [] h = absurd h
      go (a ∷ []) h = absurd h.1
      go (a ∷ b ∷ []) h = absurd h.1.1
      go (a ∷ b ∷ c ∷ o) h = refl

  pub front : m ≡ length o + length w → take m (overwritten 1 (written (word m)) (o ++ w ++ z)) ≡ overwritten 1 (written (word m)) o ++ w
  front e =
      let new = overwritten 1 (written (word m)) o in
      ap (take m) mended_front ∙ take_at (new ++ w) z m (omega (arith, e, length-append new w, mended_length))

-- records that stand in the same bytes are the same
pub same_records :
    (c : Chip) (bs : List ℕ) (rs ss : List Record)
    → EachNamed c rs
    → EachNamed c ss
    → Fits bs (layouts rs)
    → Fits bs (layouts ss)
    → rs ≡ ss
same_records c bs [] [] h k f g = refl
same_records c bs [] (s ∷ ss) h k f g = absurd (subst (λ (l : List ℕ). Fits l (layouts (s ∷ ss))) f g)
same_records c bs (r ∷ rs) [] h k f g = absurd (subst (λ (l : List ℕ). Fits l (layouts (r ∷ rs))) g f)
same_records c bs (r ∷ rs) (s ∷ ss) h k f g =
    let a = starts_split bs (layout r) (layouts rs) [] f in
    let b = starts_split bs (layout s) (layouts ss) [] g in
    let x = stands_decoded c bs r (record { rest = a.0; starts = a.1; kind = h.0 }) in
    let y = stands_decoded c bs s (record { rest = b.0; starts = b.1; kind = k.0 }) in
    let first : r ≡ s = cc in
    let there : b.0 ≡ a.0 = starts_next bs s b.0 b.1 ∙ sym (starts_next bs r a.0 a.1) in
    let rest = same_records c a.0 rs ss h.1 k.1 a.2 (subst (λ (l : List ℕ). Fits l (layouts ss)) there b.2) in
    λ i. first i ∷ rest i

each_snoc : (c : Chip) (rs : List Record) (x : Record) → EachNamed c rs → of_its_kind c x ≡ true → EachNamed c (rs ++ x ∷ [])
each_snoc c [] x h k = (k, tt)
each_snoc c (r ∷ rs) x h k = (h.0, each_snoc c rs x h.1 k)

module _
    (σ : Settings) (b : List ℕ) (e : Element) (p : List ℕ) (m : ℕ) (after : List ℕ) (d : Description) (rs : List Record)
    (small : Bytes p) (a : Accepts σ (take (stated b) b) d rs) (w : Appended σ.chip b e p (Length m) after) where
  taken : (x : Record) × Takes σ.chip e p x
  taken = taken_keeps σ.chip b e p m small (sym w.answer)

  -- THE RECORD that was appended
  pub appended_one : Record
  appended_one = taken.0

  laid : written (element_slots e p) ≡ written (layout appended_one)
  unfolding appended_one
  laid =
      let t = taken.1.of_them in
      sym (ap (λ (q : List ℕ). written (element_slots e q)) t.as_written)
      ∙ sym (ap (λ (y : Element). written (element_slots y (written (part taken.0)))) t.element)
      ∙ slots_written taken.0

  laid_length : length (element_slots e p) ≡ length (layout appended_one)
  laid_length = sym (length_written (element_slots e p)) ∙ ap length laid ∙ length_written (layout appended_one)

  old_length : length (take (stated b) b) ≡ stated b
  old_length = length-take-le (stated b) b (omega (arith, (good σ.chip b e p m (sym w.answer)).within))

  -- the bytes that are left
  pub has_both : Fits (take m after) (table d (rs ++ appended_one ∷ []))
  unfolding appended_one
  has_both =
      let x = appended_one in
      let g = good σ.chip b e p m (sym w.answer) in
      let o = take (stated b) b in
      let n = 16 + length (layouts rs) in
      let new = written (element_slots e p) in
      let size : length o ≡ n = table_length o d rs a.fits in
      let all : m ≡ 16 + length (layouts (rs ++ x ∷ [])) = omega (arith, g.is_new, laid_length, old_length, size, snoc_length rs x) in
      let front_is : take m after ≡ overwritten 1 (written (word m)) o ++ new =
      ap (take m) w.leaves
      ∙ front o new (drop (stated b + length new) b) m d n (layouts rs) a.fits
      (omega (arith, g.is_new, old_length, length_written (element_slots e p))) in
      let t = taken.1.of_them in
      let fixed-room = subst (λ (y : Element). element_roomy y ≡ true) (sym t.element) taken.1.room_25 in
      let roomy = all_roomy_lem x (omega (arith, g.top, laid_length)) fixed-room (subst Bytes (sym t.as_written) small) in
      let last : Fits new (layout x) = subst (λ (l : List ℕ). Fits l (layout x)) (sym laid) (written_fits (layout x) roomy) in
      let old = mended o d n m (layouts rs) a.fits in
      let both =
      starts_append (overwritten 1 (written (word m)) o ++ new) (opening d m ++ layouts rs) (layout x) new []
      (starts_more (overwritten 1 (written (word m)) o) (opening d m ++ layouts rs) [] new old)
      last in
      let slots : opening d m ++ layouts rs ++ layout x ≡ table d (rs ++ x ∷ []) =
      append_assoc (opening d m) (layouts rs) (layout x)
      ∙ ap (λ (l : List Slot). opening d m ++ l) (sym (layouts_snoc rs x))
      ∙ ap (λ (k : ℕ). opening d k ++ layouts (rs ++ x ∷ [])) all in
      subst (λ (l : List ℕ). Fits l (table d (rs ++ x ∷ []))) (sym front_is)
      (subst (λ (l : List Slot). Fits (overwritten 1 (written (word m)) o ++ new) l) slots both)

  -- it is of its kind, and so are those before it
  each : EachNamed σ.chip (rs ++ appended_one ∷ [])
  unfolding appended_one
  each =
      let k = own_kept (writing σ.chip) taken.0 taken.1.own_rules_lem in
      each_snoc σ.chip rs taken.0 (pass_named σ [] rs a.keeps.passed) (kept_kind σ.chip taken.0 k.codes_9 k.pins_10)

  -- THE LAW: whatever list is accepted in them is the old one and the new record
  pub appended_records :
      (d' : Description) (rs' : List Record)
      → Accepts σ (take m after) d' rs'
      → (d' ≡ d) × (rs' ≡ rs ++ appended_one ∷ [])
  appended_records d' rs' a' =
      let c = σ.chip in
      let t = take m after in
      let k = accepts_passed σ t d' rs' a' in
      let one = table_split c t d (rs ++ appended_one ∷ []) k.limit has_both (described_kind c d a.keeps.described) in
      let two = table_split c t d' rs' k.limit k.fits (described_kind c d' k.described) in
      let x = opened_only c t d one.rest one.opened in
      let y = opened_only c t d' two.rest two.opened in
      let rest : one.rest ≡ two.rest = x.1 ∙ sym y.1 in (
        y.0 ∙ sym x.0,
        same_records c two.rest rs' (rs ++ appended_one ∷ []) (pass_named σ [] rs' k.passed) each two.fits
            (subst (λ (l : List ℕ). Fits l (layouts (rs ++ appended_one ∷ []))) rest one.fits),
      )
