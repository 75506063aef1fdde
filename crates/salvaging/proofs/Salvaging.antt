-- From what is decided and what is put to the answer and the bytes of both buffers.
-- Assumes nothing.
use Prim.Native.Nat.{ℕ, ◌+◌, ◌≤◌, ◌<◌}
use native.Mathlib.Omega.{arith}
use mathlib.Core.Path.{◌≡◌, refl, sym, ◌∙◌, ap, subst}
use mathlib.Core.Bool.{Bool, true, false, not, cond}
use mathlib.Core.List.{List, [], append-nil}
use mathlib.Core.Option.{Option, none, some}
use lib.ListN.{length, take, length-take, length-append}
use lib.Seq.{take_all}
use lib.Dec.{eqb}
use borrow.Author.Tests.{le-leb, lt-leb, eq-eqb, ne_eqb}
use Rattle.format.specs.Slots.{byte, Bytes, written}
use Rattle.format.specs.Layout.{table, opening, layouts}
use Rattle.format.specs.Pins.{among}
use Rattle.format.specs.Rules.{numbered, description_rules, strapped}
use Rattle.format.specs.Claims.{made_at, first_claims, first_clash, contested}
use Rattle.format.specs.Table.{description_breaks}
use Rattle.format.specs.Writing.{overwritten}
use Rattle.format.specs.declared.pins.Chip.{Chip}
use Rattle.format.specs.declared.records.Description.{Description}
use Rattle.format.proofs.Slots.{bytes_take}
use Rattle.format.proofs.Kept.{zero_none, description_numbered, description_kept}
use Rattle.format.proofs.Written.{length_written}
use Rattle.claims.specs.Taken.{HeldIs}
use Rattle.claims.specs.Taken as claimed
use Rattle.claims.specs.declared.Held.{Held}
use Rattle.claims.proofs.Firsts.{place_none}
use Rattle.spelling.specs.Spelling.{Put}
use Rattle.spelling.proofs.Putting.{put_one, put_one_way}
use Rattle.saving.specs.Saving.{taken, is_none, salvageable, unindexed_description, records, string_indexes}
use Rattle.saving.specs.Lines.{new_table, new_text, answer}
use Rattle.saving.specs.Salvaged.{Done, Refused}
use Rattle.saving.proofs.Theorems.{salvageable_says}
use Rattle.saving.proofs.Bounds.{table_short}
use Rattle.mending.specs.Laid.{described_as, Fitting, PutsTable}
use Rattle.changes.specs.Written.{Noted, PutsLines}
use Rattle.fates.specs.declared.Kept.{Kept}
use Rattle.fates.specs.declared.Note.{Note}
use Rattle.salvaging.specs.Salvages.{Salvages}
use Rattle.salvaging.specs.Decided.{described, after_zones, after_all, Decided}
use Rattle.salvaging.specs.declared.Plan.{Plan}

-- the first 4,096 bytes
pub all_taken : (file : List ℕ) → length file ≤ 4096 → file ≡ taken file
all_taken file h = sym (take_all 4096 file h)

pub taken_top : (file : List ℕ) → length (taken file) ≤ 4096
taken_top file = omega (arith, length-take 4096 file)

-- 24: what the code asks, one after another
same_none : (o : Option ℕ) → claimed.is_none o ≡ is_none o
same_none none = refl
same_none (some p) = refl

none_number : (o : Option ℕ) → (numbered o ≡ 0 → ⊥) → is_none o ≡ false
none_number none h = absurd (h refl)
none_number (some k) h = refl

module _ (c : Chip) (t : List ℕ) (d : Description) (same : d ≡ described c t) (k : ℕ) (is : k ≡ numbered (description_breaks c d)) where
  pub bad_number : (k ≡ 0 → ⊥) → is_none (description_breaks c (described c t)) ≡ false
  bad_number h = rw (← same) (none_number (description_breaks c d) (λ e. h (is ∙ e)))

  pub good_number : k ≡ 0 → description_breaks c (described c t) ≡ none
  good_number h = rw (← same) (zero_none (description_rules c d) (description_numbered c d) (sym is ∙ h))

-- what the description claims
pub held_first :
    (c : Chip) (t : List ℕ) (d : Description) (held : Held)
    → d ≡ described c t
    → description_breaks c (described c t) ≡ none
    → ((x : Chip) → strapped x d ≡ true → HeldIs held (made_at 0 (first_claims d)))
    → HeldIs held (made_at 0 (first_claims (described c t)))
held_first c t d held same good f =
    subst (λ (x : Description). HeldIs held (made_at 0 (first_claims x))) same
    (f c (subst (λ (x : Description). strapped c x ≡ true) (sym same) (description_kept c (described c t) good).pins_10))

module _ (c : Chip) (t : List ℕ) where
  pub too_short : length t < 16 → false ≡ salvageable c t
  too_short h = sym (rw (lt-leb 16 (length t) h) refl)

  pub unrevised : 16 ≤ length t → (byte t 0 ≡ 1 → ⊥) → false ≡ salvageable c t
  unrevised h e = sym (rw (le-leb 16 (length t) h, ne_eqb (byte t 0) 1 e) refl)

  pub misdescribed : 16 ≤ length t → byte t 0 ≡ 1 → is_none (description_breaks c (described c t)) ≡ false → false ≡ salvageable c t
  misdescribed h e n = sym (rw (le-leb 16 (length t) h, eq-eqb (byte t 0) 1 e, n) refl)

  pub by_claims :
      (held : Held)
      → 16 ≤ length t
      → byte t 0 ≡ 1
      → description_breaks c (described c t) ≡ none
      → HeldIs held (made_at 0 (first_claims (described c t)))
      → eqb held.clash 65536 ≡ salvageable c t
  by_claims held h e n w =
      let made = made_at 0 (first_claims (described c t)) in
      let q : eqb held.clash 65536 ≡ is_none (contested (described c t) []) =
      ap (λ (k : ℕ). eqb k 65536) w.clash_at
      ∙ place_none made [] w.low
      ∙ same_none (first_clash [] made)
      ∙ ap (λ (l : List _). is_none (first_clash [] l)) (sym (append-nil made)) in
      q ∙ sym (rw (le-leb 16 (length t) h, eq-eqb (byte t 0) 1 e, n) refl)

-- the bytes that were taken
module _ (c : Chip) (file t : List ℕ) (same : t ≡ taken file) where
  pub sound_there : (b : Bool) → b ≡ salvageable c t → salvageable c (taken file) ≡ b
  sound_there b e = sym (e ∙ ap (salvageable c) same)

  pub taken_there : Bytes file → (length t ≤ 4096) × Bytes t
  taken_there small = rw same (taken_top file, bytes_take 4096 file small)

-- the refusals
module _ (c : Chip) (file out lines : List ℕ) where
  pub refused_24 : salvageable c (taken file) ≡ false → Salvages c file out lines (Refused 24 0) out lines
  unfolding answer
  refused_24 h = record { answers = rw h refl; table = refl; text = refl }

  module _ (small : Bytes file) (good : salvageable c (taken file) ≡ true) (p : Plan) (kept : List Kept) (log : List Note)
      (w : Decided c (taken file) p kept log) where
    -- the new table, as it is laid out
    same_description : (b : Bool) (d : Description) → described_as (not b) d ≡ cond b d (unindexed_description d)
    same_description true d = refl
    same_description false d = refl

    new_table_lem :
        new_table c file
        ≡ written (table (described_as p.cleared (described c (taken file))) (records (after_all c (taken file)).kept))
    unfolding new_table after_zones after_all
    new_table_lem =
        let d = described c (taken file) in
        ap (λ (x : Description). written (table x (records (after_all c (taken file)).kept)))
        (sym
        (ap (λ (b : Bool). described_as b d) w.clears
        ∙ same_description (among d.string (string_indexes (after_zones c (taken file)))) d))

    new_length_lem : length (new_table c file) ≡ p.len
    new_length_lem =
        let d = described_as p.cleared (described c (taken file)) in
        let rs = records (after_all c (taken file)).kept in
        omega (
          arith,
          ap length new_table_lem,
          length_written (table d rs),
          length-append (opening d (16 + length (layouts rs))) (layouts rs),
          w.size c (after_all c (taken file)).kept w.notes.keeps,
        )

    pub most : p.len ≤ 4096
    most = omega (arith, new_length_lem, (table_short c file small).0)

    pub refused_16 : length out < p.len → Salvages c file out lines (Refused 16 0) out lines
    unfolding answer
    refused_16 h =
        record {
          answers = rw (good, lt-leb (length (new_table c file)) (length out) (omega (arith, h, new_length_lem))) refl;
          table = refl;
          text = refl;
        }

    -- what the writing asks
    pub fitting : p.len ≤ length out → Fitting c (taken file) (take p.kept kept) p.len out
    fitting h =
        let s = (salvageable_says c (taken file)).0 good in
        record {
          ks = (after_all c (taken file)).kept;
          keeps = w.notes.keeps;
          few = omega (arith, length-take p.kept kept, w.notes.few);
          start = s.long;
          revised = s.revised;
          top = taken_top file;
          bytes = bytes_take 4096 file small;
          size = w.size;
          most = most;
          room = h;
        }

    pub noted : Noted (take p.lines log)
    noted = record { ls = (after_all c (taken file)).lines; codes = w.notes.codes; few = omega (arith, length-take p.lines log, w.notes.fitting) }

    -- and what it leaves
    put_over : {b text after : List ℕ} {end : ℕ} → Put b 0 text end after → (end ≡ length text) × (after ≡ overwritten 0 text b)
    put_over {b} {text} {after} {end} q =
        let fits : 0 + length text ≤ length b = omega (arith, q.ends, q.long, ap length q.front, length-take end after) in
        let o = put_one_way b text end (0 + length text) after (overwritten 0 text b) q (put_one b 0 text fits) in
        (omega (arith, q.ends), o.1)

    pub done :
        {end : ℕ} {out' lines' : List ℕ}
        → p.len ≤ length out
        → PutsTable c (taken file) (take p.kept kept) p.cleared p.len out out'
        → PutsLines (take p.lines log) lines end lines'
        → Salvages c file out lines (Done p.len end) out' lines'
    unfolding answer new_text after_all
    done {end} {out'} {lines'} h a b =
        let x = put_over (a (after_all c (taken file)).kept w.notes.keeps) in
        let y = put_over (b (after_all c (taken file)).lines w.notes.codes) in
        record {
          answers =
              rw (good, le-leb (length (new_table c file)) (length out) (omega (arith, h, new_length_lem)), new_length_lem, ← y.0) refl;
          table = x.1 ∙ ap (λ (l : List ℕ). overwritten 0 l out) (sym new_table_lem);
          text = y.1;
        }

-- the same of the bytes as the code took them
module _
    (c : Chip) (file t out lines : List ℕ) (same : t ≡ taken file) (small : Bytes file) (good : salvageable c t ≡ true)
    (p : Plan) (kept : List Kept) (log : List Note) (w : Decided c t p kept log)
  where
    good_there : salvageable c (taken file) ≡ true
    good_there = sym (ap (salvageable c) same) ∙ good

    decided_there : Decided c (taken file) p kept log
    decided_there = subst (λ (x : List ℕ). Decided c x p kept log) same w

    pub no_room : length out < p.len → Salvages c file out lines (Refused 16 0) out lines
    no_room h = refused_16 c file out lines small good_there p kept log decided_there h

    pub room_there : p.len ≤ length out → Fitting c t (take p.kept kept) p.len out
    room_there h =
        subst (λ (x : List ℕ). Fitting c x (take p.kept kept) p.len out) (sym same)
        (fitting c file out lines small good_there p kept log decided_there h)

    pub lines_there : Noted (take p.lines log)
    lines_there = noted c file out lines small good_there p kept log decided_there

    pub salvaged_there :
        {end : ℕ} {out' lines' : List ℕ}
        → p.len ≤ length out
        → PutsTable c t (take p.kept kept) p.cleared p.len out out'
        → PutsLines (take p.lines log) lines end lines'
        → Salvages c file out lines (Done p.len end) out' lines'
    salvaged_there {out' = out'} h a b =
        done c file out lines small good_there p kept log decided_there h
        (subst (λ (x : List ℕ). PutsTable c x (take p.kept kept) p.cleared p.len out out') same a) b
