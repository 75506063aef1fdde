-- The writer's answers, from what its tests found.
-- Assumes nothing.
use Prim.Native.Nat.{ℕ, ◌+◌, ◌≤◌, ◌<◌}
use native.Mathlib.Omega.{arith}
use mathlib.Core.Path.{◌≡◌, refl, sym, ◌∙◌, ap, subst}
use mathlib.Core.Bool.{Bool, true, false, ◌&&◌}
use mathlib.Core.List.{List}
use mathlib.Core.Option.{Option, none, some}
use lib.ListN.{length}
use lib.Dec.{leb}
use borrow.Author.Tests.{le-leb, lt-leb, leb-true}
use Rattle.format.specs.Slots.{word, written}
use Rattle.format.specs.Records.{Record}
use Rattle.format.specs.Layout.{opening, fixed}
use Rattle.format.specs.Rules.{numbered, own_rules, description_rules, description_roomy, element_roomy}
use Rattle.format.specs.Table.{description_breaks}
use Rattle.format.specs.Verdict.{stated}
use Rattle.format.specs.Writing.{writing, assemble, assembled_breaks, part_breaks, element_slots, or_refused, unless_broken_at, has_room}
use Rattle.format.specs.Writing.{length_stands, new_length, start_answer, start_leaves, append_answer, append_leaves, overwritten}
use Rattle.format.specs.declared.records.Description.{Description}
use Rattle.format.specs.declared.records.Element.{Element}
use Rattle.format.specs.declared.records.Element.TheVariants.{Digital, Analogue, Fan, Led, Water, Pump, Voltage, Current, Controller}
use Rattle.format.specs.declared.records.Element.TheVariants.{Tachometer, Zone, Text, External, Rgb}
use Rattle.format.specs.Answers.{Written}
use Rattle.format.specs.Answers.{Gives as Length, Refused}
use Rattle.format.proofs.Kept.{and-true, zero_none, some_number, own_numbered, description_numbered}
use Rattle.writer.specs.Calls.{Started, Appended, room_answer}
use Rattle.format.specs.declared.pins.Chip.{Chip}
use Rattle.format.specs.declared.settings.Settings.{Settings}

-- 0 is no rule's number
description_none : (c : Chip) (d : Description) → numbered (description_breaks c d) ≡ 0 → description_breaks c d ≡ none
description_none c d h = zero_none (description_rules c d) (description_numbered c d) h

part_none : (s : Settings) (e : Element) (p : List ℕ) → numbered (part_breaks s e p) ≡ 0 → part_breaks s e p ≡ none
unfolding part_breaks
part_none s e p h = go (assemble e p) h
  where
    go : (o : Option Record) → numbered (assembled_breaks s o) ≡ 0 → assembled_breaks s o ≡ none
    go none k = absurd (omega (arith, k))
    go (some r) k = zero_none (own_rules s r) (own_numbered s r) k

-- start
module _ (c : Chip) (b : List ℕ) (d : Description) where
  pub start_1 : length b < 16 → Refused 1 0 ≡ start_answer c b d
  unfolding start_answer
  start_1 h = sym (simp (lt-leb 16 (length b) h))

  pub start_25 : 16 ≤ length b → description_roomy d ≡ false → Refused 25 0 ≡ start_answer c b d
  unfolding start_answer
  start_25 h k = sym (rw (le-leb 16 (length b) h, k) refl)

  pub start_fault :
      16 ≤ length b
      → description_roomy d ≡ true
      → (f : ℕ)
      → f ≡ numbered (description_breaks c d)
      → (f ≡ 0 → ⊥)
      → Refused f 0 ≡ start_answer c b d
  unfolding start_answer
  start_fault h k f e n =
      let q : description_breaks c d ≡ some f = some_number (description_breaks c d) (λ z. n (e ∙ z)) ∙ ap some (sym e) in
      sym (rw (le-leb 16 (length b) h, k, q) refl)

  pub start_16 :
      16 ≤ length b → description_roomy d ≡ true → (f : ℕ) → f ≡ numbered (description_breaks c d) → f ≡ 0 → Length 16 ≡ start_answer c b d
  unfolding start_answer
  start_16 h k f e z = sym (rw (le-leb 16 (length b) h, k, description_none c d (sym e ∙ z)) refl)

-- the length of the fixed fields
pub fixed_short : (e : Element) → length (fixed e) ≤ 18
fixed_short (Digital d) = omega arith
fixed_short (Analogue a) = omega arith
fixed_short (Fan f) = omega arith
fixed_short (Led l) = omega arith
fixed_short (Water w) = omega arith
fixed_short (Pump f) = omega arith
fixed_short (Voltage v) = omega arith
fixed_short (Current c) = omega arith
fixed_short (Controller d) = omega arith
fixed_short (Tachometer d) = omega arith
fixed_short Zone = omega arith
fixed_short Text = omega arith
fixed_short (External x) = omega arith
fixed_short (Rgb r) = omega arith

-- room
module _ (b : List ℕ) (n : ℕ) (e : Element) (p : List ℕ) where
  and_no : (a c : Bool) → c ≡ false → a && c ≡ false
  and_no true c h = h
  and_no false c h = refl

  pub too_long : 4096 < n + length (element_slots e p) → Refused 16 0 ≡ room_answer b n e p
  too_long h =
      sym (ap (λ (t : Bool). or_refused t 16 0 (Length (n + length (element_slots e p))))
      (and_no (leb (n + length (element_slots e p)) (length b)) _ (lt-leb (n + length (element_slots e p)) 4096 h)))

  pub past_buffer : length b < n + length (element_slots e p) → Refused 16 0 ≡ room_answer b n e p
  past_buffer h = sym (rw (lt-leb (n + length (element_slots e p)) (length b) h) refl)

  pub fits_there :
      (m : ℕ) → m ≡ n + length (element_slots e p) → m ≤ length b → m ≤ 4096 → Length m ≡ room_answer b n e p
  fits_there m q h k =
      rw q
      (sym (rw (
        le-leb (n + length (element_slots e p)) (length b) (omega arith),
        le-leb (n + length (element_slots e p)) 4096 (omega arith),
      ) refl))

-- append
module _ (c : Chip) (b : List ℕ) (e : Element) (p : List ℕ) where
  pub append_1 : length b < 16 → Refused 1 0 ≡ append_answer c b e p
  unfolding append_answer
  append_1 h = sym (simp (lt-leb 16 (length b) h))

  module _ (long : 16 ≤ length b) where
    pub append_3 : length_stands b ≡ false → Refused 3 0 ≡ append_answer c b e p
    unfolding append_answer
    append_3 k = sym (rw (le-leb 16 (length b) long, k) refl)

    module _ (stands : length_stands b ≡ true) where
      pub append_25 : element_roomy e ≡ false → Refused 25 0 ≡ append_answer c b e p
      unfolding append_answer
      append_25 k = sym (rw (le-leb 16 (length b) long, stands, k) refl)

      module _ (h : element_roomy e ≡ true) (f : ℕ) (q : f ≡ numbered (part_breaks (writing c) e p)) where
        pub append_fault : (f ≡ 0 → ⊥) → Refused f (stated b) ≡ append_answer c b e p
        unfolding append_answer
        append_fault n =
            let w : part_breaks (writing c) e p ≡ some f = some_number (part_breaks (writing c) e p) (λ z. n (q ∙ z)) ∙ ap some (sym q) in
            sym (rw (le-leb 16 (length b) long, stands, h, w) refl)

        pub append_room : f ≡ 0 → room_answer b (stated b) e p ≡ append_answer c b e p
        unfolding append_answer
        append_room z = sym (rw (le-leb 16 (length b) long, stands, h, part_none (writing c) e p (sym q ∙ z)) refl)

-- append, where the length so far is a number that was read
abbrev stands_at : List ℕ → ℕ → Bool
stands_at b n = leb 16 n && (leb n 4096 && leb n (length b))

pub at_most : (b : List ℕ) (n : ℕ) → stands_at b n ≡ true → n ≤ 4096
at_most b n h = leb-true n 4096 (and-true (leb n 4096) (leb n (length b)) (and-true (leb 16 n) _ h).1).0

module _ (c : Chip) (b : List ℕ) (e : Element) (p : List ℕ) (long : 16 ≤ length b) (n : ℕ) (is : n ≡ stated b) where
  stands : (t : Bool) → stands_at b n ≡ t → length_stands b ≡ t
  stands t h = subst (λ (k : ℕ). stands_at b k ≡ t) is h

  pub read_3 : stands_at b n ≡ false → Refused 3 0 ≡ append_answer c b e p
  read_3 h = append_3 c b e p long (stands false h)

  module _ (h : stands_at b n ≡ true) where
    pub read_25 : element_roomy e ≡ false → Refused 25 0 ≡ append_answer c b e p
    read_25 k = append_25 c b e p long (stands true h) k

    module _ (k : element_roomy e ≡ true) (f : ℕ) (q : f ≡ numbered (part_breaks (writing c) e p)) where
      pub read_fault : (f ≡ 0 → ⊥) → Refused f n ≡ append_answer c b e p
      read_fault z = ap (λ (m : ℕ). Refused f m) is ∙ append_fault c b e p long (stands true h) k f q z

      pub read_room : f ≡ 0 → (r : Written) → r ≡ room_answer b n e p → r ≡ append_answer c b e p
      read_room z r w = w ∙ ap (λ (m : ℕ). room_answer b m e p) is ∙ append_room c b e p long (stands true h) k f q z

pub record Good (b : List ℕ) (e : Element) (p : List ℕ) (m : ℕ) : Type 0 where
  pub long : 16 ≤ length b
  pub least : 16 ≤ stated b
  pub keeps : element_roomy e ≡ true
  pub is_new : m ≡ new_length b e p
  pub within : new_length b e p ≤ length b
  pub top : new_length b e p ≤ 4096

or_length : (t : Bool) (k p : ℕ) (w : Written) (m : ℕ) → or_refused t k p w ≡ Length m → (t ≡ true) × (w ≡ Length m)
or_length true k p w m h = (refl, h)
or_length false k p w m h = let z : ◌≡◌ {A = ℕ} 0 1 = cc in absurd (omega arith)

broken_length : (o : Option ℕ) (p : ℕ) (w : Written) (m : ℕ) → unless_broken_at o p w ≡ Length m → w ≡ Length m
broken_length none p w m h = h
broken_length (some k) p w m h = let z : ◌≡◌ {A = ℕ} 0 1 = cc in absurd (omega arith)

pub start_good :
    (c : Chip) (b : List ℕ) (d : Description) (m : ℕ)
    → start_answer c b d ≡ Length m
    → (16 ≤ length b) × (description_roomy d ≡ true)
unfolding start_answer
start_good c b d m h =
    let x = or_length (leb 16 (length b)) 1 0 _ m h in
    let y = or_length (description_roomy d) 25 0 _ m x.1 in
    (leb-true 16 (length b) x.0, y.0)

broken_none : (o : Option ℕ) (p : ℕ) (w : Written) (m : ℕ) → unless_broken_at o p w ≡ Length m → o ≡ none
broken_none none p w m h = refl
broken_none (some k) p w m h = let z : ◌≡◌ {A = ℕ} 0 1 = cc in absurd (omega arith)

pub unbroken :
    (c : Chip) (b : List ℕ) (e : Element) (p : List ℕ) (m : ℕ)
    → append_answer c b e p ≡ Length m
    → part_breaks (writing c) e p ≡ none
unfolding append_answer
unbroken c b e p m h =
    let x = or_length (leb 16 (length b)) 1 0 _ m h in
    let y = or_length (length_stands b) 3 0 _ m x.1 in
    let z = or_length (element_roomy e) 25 0 _ m y.1 in
    broken_none (part_breaks (writing c) e p) (stated b) _ m z.1

pub good : (c : Chip) (b : List ℕ) (e : Element) (p : List ℕ) (m : ℕ) → append_answer c b e p ≡ Length m → Good b e p m
unfolding append_answer
good c b e p m h =
    let x = or_length (leb 16 (length b)) 1 0 _ m h in
    let y = or_length (length_stands b) 3 0 _ m x.1 in
    let z = or_length (element_roomy e) 25 0 _ m y.1 in
    let w = broken_length (part_breaks (writing c) e p) (stated b) _ m z.1 in
    let v = or_length (has_room b (new_length b e p)) 16 0 _ m w in
    let r = and-true (leb (new_length b e p) (length b)) (leb (new_length b e p) 4096) v.0 in
    let s = and-true (leb 16 (stated b)) _ y.0 in
    let u = v.1 in
    record {
      long = leb-true 16 (length b) x.0;
      least = leb-true 16 (stated b) s.0;
      keeps = z.0;
      is_new = cc;
      within = leb-true (new_length b e p) (length b) r.0;
      top = leb-true (new_length b e p) 4096 r.1;
    }

-- an answer with a length, and the bytes that are left
pub started :
    (c : Chip) (b : List ℕ) (d : Description) (r : Written) (after : List ℕ) (m : ℕ)
    → r ≡ start_answer c b d
    → r ≡ Length m
    → after ≡ overwritten 0 (written (opening d 16)) b
    → Started c b d r after
started c b d r after m h q e = record { answer = h; leaves = e ∙ sym (ap (λ (v : Written). start_leaves v b d) q) }

pub appended :
    (c : Chip) (b : List ℕ) (e : Element) (p : List ℕ) (m n : ℕ) (between after : List ℕ)
    → append_answer c b e p ≡ Length m
    → n ≡ stated b
    → between ≡ overwritten n (written (element_slots e p)) b
    → after ≡ overwritten 1 (written (word m)) between
    → Appended c b e p (Length m) after
appended c b e p m n between after h is laid l =
    record {
      answer = sym h;
      leaves =
          l
          ∙ ap (λ (x : List ℕ). overwritten 1 (written (word m)) x) laid
          ∙ ap (λ (k : ℕ). overwritten 1 (written (word m)) (overwritten k (written (element_slots e p)) b)) is;
    }

-- a refusal, and no byte altered
pub not_started :
    (c : Chip) (b : List ℕ) (d : Description) (r : Written) (k m : ℕ)
    → r ≡ start_answer c b d
    → r ≡ Refused k m
    → Started c b d r b
not_started c b d r k m h q = record { answer = h; leaves = sym (ap (λ (v : Written). start_leaves v b d) q) }

pub not_appended :
    (c : Chip) (b : List ℕ) (e : Element) (p : List ℕ) (r : Written) (k m : ℕ) → r ≡ append_answer c b e p → r ≡ Refused k m
    → Appended c b e p r b
not_appended c b e p r k m h q = record { answer = h; leaves = sym (ap (λ (v : Written). append_leaves v b e p) q) }
