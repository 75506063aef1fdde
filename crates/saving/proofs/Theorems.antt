-- THE THEOREMS of salvage, of its bytes: the output is always accepted, an accepted table comes out as it is written, and 24 and 16 are
-- given exactly where document 02 says.
-- Assumes nothing.
use Prim.Native.Nat.{ℕ, ◌≤◌, ◌<◌}
use native.Mathlib.Omega.{arith}
use mathlib.Core.Path.{◌≡◌, refl, sym, ◌∙◌, ap}
use mathlib.Core.Bool.{Bool, true, false, ◌&&◌, cond, false≢true}
use mathlib.Core.List.{List, []}
use mathlib.Core.Logic.{◌↔◌, ◌⊎◌, inl, inr, ⊎_elim}
use mathlib.Core.Option.{Option, none, some}
use lib.ListN.{length, drop, length-take, length-drop}
use lib.Seq.{take_all}
use lib.Dec.{eqb, leb}
use borrow.Author.Tests.{leb-true, leb-false, le-leb, lt-leb, eqb-true, eqb-false, eq-eqb}
use Rattle.format.specs.Slots.{byte, written, Bytes}
use Rattle.format.specs.Records.{Record}
use Rattle.format.specs.Layout.{opening, table}
use Rattle.format.specs.Pins.{among}
use Rattle.format.specs.ZonesAndStrings.{zoneless, nameless}
use Rattle.format.specs.Claims.{contested}
use Rattle.format.specs.Table.{description_breaks}
use Rattle.format.specs.Cleared.{cleared}
use Rattle.format.specs.Verdict.{stated, Accepts, Verdict}
use Rattle.format.specs.Decode.{read_description}
use Rattle.format.specs.Writing.{writing}
use Rattle.format.specs.declared.pins.Chip.{Chip}
use Rattle.format.specs.declared.records.Description.{Description}
use Rattle.format.specs.Answers.{Gives as Accepted}
use Rattle.format.proofs.Kept.{and-true, unless_none, described_kind}
use Rattle.format.proofs.Slots.{bytes_take, bytes_drop, over_starts, starts_roomy}
use Rattle.format.proofs.EachKind.{description_fits}
use Rattle.format.proofs.Lengths.{fits_length}
use Rattle.format.proofs.Opening.{table_split, opened_only, opened_facts}
use Rattle.format.proofs.Written.{written_accepted, written_again, length_written}
use Rattle.removal.proofs.Among.{not_so}
use Rattle.removal.proofs.Claims.{part_uncontested}
use Rattle.removal.proofs.Parts.{part_none}
use Rattle.removal.proofs.Keeping.{opening_roomy}
use Rattle.saving.specs.Saving.{At, Line, taken, is_none, sound, salvageable, Saved, saved, records, passed, zoned}
use Rattle.saving.specs.Saving.{string_indexes, mended_description, unclashed, in_zones, ending}
use Rattle.saving.specs.Lines.{text_of, table_of, new_table, new_text, answer}
use Rattle.saving.specs.Salvaged.{Done, Refused}
use Rattle.saving.proofs.Bounds.{table_short}
use Rattle.saving.proofs.Keeping.{none_is, Sound, in_zones_lem, ending_keeps}
use Rattle.saving.specs.Repairing.{RepairsPass}
use Rattle.saving.proofs.Repaired.{repaired}
use Rattle.saving.proofs.OneRun.{one_pass}
use Rattle.saving.proofs.Whole.{pass_whole, zoned_whole, named_whole, unclashed_whole}

-- what no 24 says of the bytes
pub record Salvageable (c : Chip) (b : List ℕ) : Type 0 where
  pub long : 16 ≤ length b
  pub revised : byte b 0 ≡ 1
  pub described : description_breaks c (read_description c (byte b)) ≡ none
  pub clear : contested (read_description c (byte b)) [] ≡ none

pub salvageable_says : (c : Chip) (b : List ℕ) → (salvageable c b ≡ true) ↔ Salvageable c b
salvageable_says c b = (to (read_description c (byte b)) refl, from)
  where
    to : (d : Description) → d ≡ read_description c (byte b) → leb 16 (length b) && (eqb (byte b 0) 1 && sound c d) ≡ true → Salvageable c b
    to d e h =
        let p = and-true (leb 16 (length b)) (eqb (byte b 0) 1 && sound c d) h in
        let q = and-true (eqb (byte b 0) 1) (sound c d) p.1 in
        let r = and-true (is_none (description_breaks c d)) (is_none (contested d [])) q.1 in
        record {
          long = leb-true 16 (length b) p.0;
          revised = eqb-true (byte b 0) 1 q.0;
          described = rw e at (none_is (description_breaks c d) r.0);
          clear = rw e at (none_is (contested d []) r.1);
        }

    from : Salvageable c b → salvageable c b ≡ true
    from s = simp (le-leb 16 (length b) s.long, eq-eqb (byte b 0) 1 s.revised, s.described, s.clear)

sound_start : (c : Chip) (b : List ℕ) → Bytes b → Salvageable c b → Sound (writing c) (read_description c (byte b))
sound_start c b small s =
    let d = read_description c (byte b) in
    let o = description_fits c (byte b) (stated b) small s.revised refl in
    let st = over_starts b (opening d (stated b)) (omega (arith, s.long)) o in
    record {
      room = λ n h. opening_roomy d (stated b) n h (starts_roomy b (opening d (stated b)) (drop 16 b) small st);
      described = s.described;
      clear = s.clear;
    }

-- what is kept and the lines, and the records of the new table with their description
abbrev pub ended : Chip → List ℕ → Saved
ended c file = ending (read_description c (byte (taken file))) (in_zones (writing c) (taken file))

abbrev pub kept : Chip → List ℕ → List Record
kept c file = records (ended c file).kept

abbrev pub new_description : Chip → List ℕ → Description
new_description c file = mended_description (string_indexes (in_zones (writing c) (taken file))) (read_description c (byte (taken file)))

-- 'The output is always accepted', by the ordinary reader with the chip
pub saved_accepted :
    (c : Chip) (file : List ℕ)
    → Bytes file
    → salvageable c (taken file) ≡ true
    → Verdict (writing c) (new_table c file) (Accepted (length (kept c file)))
unfolding new_table
saved_accepted c file small h =
    let b = taken file in
    let d = read_description c (byte b) in
    let z = in_zones (writing c) b in
    let s = bytes_take 4096 file small in
    written_accepted (writing c) (mended_description (string_indexes z) d) (kept c file)
    (ending_keeps (writing c) d z (sound_start c b s ((salvageable_says c b).0 h))
    (in_zones_lem (writing c) b s (omega (arith, length-take 4096 file))))

-- putting right what the reader names first, again and again, gives the same table and the same lines: there is such a run ..
pub put_right :
    (c : Chip) (file : List ℕ)
    → Bytes file
    → salvageable c (taken file) ≡ true
    → RepairsPass (writing c) (read_description c (byte (taken file))) (new_description c file) (ended c file).kept
    [] 16 (drop 16 (taken file)) (ended c file).lines
put_right c file small h =
    let b = taken file in
    let s = bytes_take 4096 file small in
    let o = (salvageable_says c b).0 h in
    repaired (writing c) b (read_description c (byte b)) s o.long (omega (arith, length-take 4096 file)) (sound_start c b s o)

-- .. and every such run ends so
pub put_right_only :
    (c : Chip) (file : List ℕ) (e : Description) (out : List (At Record)) (ls : List Line)
    → Bytes file
    → salvageable c (taken file) ≡ true
    → RepairsPass (writing c) (read_description c (byte (taken file))) e out [] 16 (drop 16 (taken file)) ls
    → (ls ≡ (ended c file).lines) × (e ≡ new_description c file) × (out ≡ (ended c file).kept)
put_right_only c file e out ls small h run =
    let b = taken file in
    let s = bytes_take 4096 file small in
    let o = (salvageable_says c b).0 h in
    one_pass (writing c) (read_description c (byte b)) (sound_start c b s o) run (put_right c file small h) refl
    (record { kept = tt; roomy = refl; top = omega (arith, length-drop 16 b, length-take 4096 file); small = bytes_drop 16 b s })

-- 'An accepted table comes out with reserved places at zero and no lines'
whole_ending :
    (d : Description) (s : Saved)
    → zoneless (records s.kept) ≡ none
    → nameless d (records s.kept) ≡ none
    → contested d (records s.kept) ≡ none
    → (ending d (zoned s) ≡ s) × (table_of d (zoned s) ≡ written (table d (records s.kept)))
whole_ending d s z n c =
    let e : zoned s ≡ s = zoned_whole s z in
    let f : ending d s ≡ s = ap (unclashed d) (named_whole d s n) ∙ unclashed_whole d s c in
    let same : mended_description (string_indexes s) d ≡ d = rw (unless_none (among d.string (string_indexes s)) 0 _ n).0 refl in (
      ap (ending d) e ∙ f,
      ap (table_of d) e
          ∙ ap (λ (x : Description). written (table x (records (ending d s).kept))) same
          ∙ ap (λ (t : Saved). written (table d (records t.kept))) f,
    )

module _ (c : Chip) (file : List ℕ) (d : Description) (rs : List Record) (small : Bytes file) (a : Accepts (writing c) file d rs) where
  record Seen : Type 0 where
    pub all : taken file ≡ file
    pub opens : Salvageable c file
    pub description : read_description c (byte file) ≡ d
    pub elements : records (passed (writing c) file).kept ≡ rs
    pub no_lines : (passed (writing c) file).lines ≡ []

  seen : Seen
  seen =
      let k = a.keeps in
      let top : length file ≤ 4096 = omega (arith, fits_length file (table d rs) a.fits, k.limit) in
      let m = table_split c file d rs top a.fits (described_kind c d k.described) in
      let o = opened_only c file d m.rest m.opened in
      let f = opened_facts c file d m.rest m.opened in
      let p =
      pass_whole (writing c) rs (length (drop 16 file)) 16 (drop 16 file) (saved [] []) (omega arith)
      (rw o.1 at m.fits) k.passed in
      record {
        all = take_all 4096 file top;
        opens =
            record {
              long = f.0;
              revised = f.1;
              described = ap (description_breaks c) (sym o.0) ∙ k.described;
              clear = ap (λ (e : Description). contested e []) (sym o.0) ∙ part_uncontested d (part_none rs) k.clear;
            };
        description = sym o.0;
        elements = p.0;
        no_lines = p.1;
      }

  end_same : ((ending d (in_zones (writing c) file)).lines ≡ []) × (table_of d (in_zones (writing c) file) ≡ written (table d rs))
  end_same =
      let t = seen in
      let s = passed (writing c) file in
      let k = a.keeps in
      let w =
      whole_ending d s (ap zoneless t.elements ∙ k.zoned) (ap (nameless d) t.elements ∙ k.named)
      (ap (contested d) t.elements ∙ k.clear) in
      (ap (λ (u : Saved). u.lines) w.0 ∙ t.no_lines, w.1 ∙ ap (λ (l : List Record). written (table d l)) t.elements)

  pub unchanged_table : new_table c file ≡ written (table d rs)
  unfolding new_table
  unchanged_table =
      let t = seen in
      ap (λ (b : List ℕ). table_of (read_description c (byte b)) (in_zones (writing c) b)) t.all
      ∙ ap (λ (e : Description). table_of e (in_zones (writing c) file)) t.description
      ∙ end_same.1

  pub unchanged_text : new_text c file ≡ []
  unfolding new_text
  unchanged_text =
      let t = seen in
      ap (λ (b : List ℕ). text_of (ending (read_description c (byte b)) (in_zones (writing c) b)).lines) t.all
      ∙ ap (λ (e : Description). text_of (ending e (in_zones (writing c) file)).lines) t.description
      ∙ ap text_of end_same.0

  -- the table with its reserved places at zero, in as many bytes, and no text; or 16
  pub accepted_unchanged : (new_table c file ≡ cleared file (table d rs)) × (new_text c file ≡ [])
  accepted_unchanged = (unchanged_table ∙ written_again (writing c) file d rs a, unchanged_text)

  pub accepted_answer : (room : ℕ) → answer c file room ≡ cond (leb (length file) room) (Done (length file) 0) (Refused 16 0)
  unfolding answer
  accepted_answer room =
      let t = seen in
      let n : length (new_table c file) ≡ length file =
      ap length unchanged_table ∙ length_written (table d rs) ∙ sym (fits_length file (table d rs) a.fits) in
      let ok : salvageable c (taken file) ≡ true = ap (salvageable c) t.all ∙ (salvageable_says c file).1 t.opens in
      rw (ok, n, ap length unchanged_text) refl

-- 24: 'when the description itself answers 1, 2, 4, 5, 10 or a clash among the fault LED's claim and its own'
pub data Damaged (c : Chip) (b : List ℕ) : Type 0 where
  short : length b < 16 → Damaged c b
  unrevised : (byte b 0 ≡ 1 → ⊥) → Damaged c b
  misdescribed : {k : ℕ} → description_breaks c (read_description c (byte b)) ≡ some k → Damaged c b
  clashing : {p : ℕ} → contested (read_description c (byte b)) [] ≡ some p → Damaged c b

-- one of the two
damaged_or : (c : Chip) (b : List ℕ) → Damaged c b ⊎ Salvageable c b
damaged_or c b =
    go (leb 16 (length b)) refl (eqb (byte b 0) 1) refl (description_breaks c (read_description c (byte b))) refl
    (contested (read_description c (byte b)) []) refl
  where
    go :
        (t : Bool)
        → leb 16 (length b) ≡ t
        → (u : Bool)
        → eqb (byte b 0) 1 ≡ u
        → (o : Option ℕ)
        → description_breaks c (read_description c (byte b)) ≡ o
        → (q : Option ℕ)
        → contested (read_description c (byte b)) [] ≡ q
        → Damaged c b ⊎ Salvageable c b
    go false e u f o g q h = inl (short (leb-false 16 (length b) e))
    go true e false f o g q h = inl (unrevised (eqb-false (byte b 0) 1 f))
    go true e true f (some k) g q h = inl (misdescribed g)
    go true e true f none g (some p) h = inl (clashing h)
    go true e true f none g none h =
        inr (record { long = leb-true 16 (length b) e; revised = eqb-true (byte b 0) 1 f; described = g; clear = h })

not_both : (c : Chip) (b : List ℕ) → Damaged c b → Salvageable c b → ⊥
not_both c b (short h) s = omega (arith, h, s.long)
not_both c b (unrevised n) s = n s.revised
not_both c b (misdescribed {k = k} e) s = let d : none ≡ some k = sym s.described ∙ e in let z : ◌≡◌ {A = ℕ} 0 1 = cc in omega arith
not_both c b (clashing {p = p} e) s = let d : none ≡ some p = sym s.clear ∙ e in let z : ◌≡◌ {A = ℕ} 0 1 = cc in omega arith

-- the answer by its two tests
of_24 : (t u : Bool) (n m : ℕ) → cond t (cond u (Done n m) (Refused 16 0)) (Refused 24 0) ≡ Refused 24 0 → t ≡ false
of_24 true true n m e = let z : ◌≡◌ {A = ℕ} 0 1 = cc in absurd (omega arith)
of_24 true false n m e = let z : ◌≡◌ {A = ℕ} 16 24 = cc in absurd (omega (arith, z))
of_24 false u n m e = refl

pub damaged_exactly : (c : Chip) (file : List ℕ) (room : ℕ) → (answer c file room ≡ Refused 24 0) ↔ Damaged c (taken file)
unfolding answer
damaged_exactly c file room = (to, from)
  where
    to : answer c file room ≡ Refused 24 0 → Damaged c (taken file)
    to e =
        let n = length (new_table c file) in
        let f = of_24 (salvageable c (taken file)) (leb n room) n (length (new_text c file)) e in
        ⊎_elim (λ d. d) (λ s. absurd (false≢true (sym f ∙ (salvageable_says c (taken file)).1 s))) (damaged_or c (taken file))

    from : Damaged c (taken file) → answer c file room ≡ Refused 24 0
    from d = rw (not_so (salvageable c (taken file)) (λ e. not_both c (taken file) d ((salvageable_says c (taken file)).0 e))) refl

-- 'then 16': there is a new table, and the buffer has no room for it
of_16 : (t u : Bool) (n m : ℕ) → cond t (cond u (Done n m) (Refused 16 0)) (Refused 24 0) ≡ Refused 16 0 → (t ≡ true) × (u ≡ false)
of_16 true true n m e = let z : ◌≡◌ {A = ℕ} 0 1 = cc in absurd (omega arith)
of_16 true false n m e = (refl, refl)
of_16 false u n m e = let z : ◌≡◌ {A = ℕ} 24 16 = cc in absurd (omega (arith, z))

pub no_room_exactly :
    (c : Chip) (file : List ℕ) (room : ℕ)
    → (answer c file room ≡ Refused 16 0) ↔ ((salvageable c (taken file) ≡ true) × (room < length (new_table c file)))
unfolding answer
no_room_exactly c file room = (to, from)
  where
    to : answer c file room ≡ Refused 16 0 → (salvageable c (taken file) ≡ true) × (room < length (new_table c file))
    to e =
        let n = length (new_table c file) in
        let f = of_16 (salvageable c (taken file)) (leb n room) n (length (new_text c file)) e in
        (f.0, leb-false n room f.1)

    from : (salvageable c (taken file) ≡ true) × (room < length (new_table c file)) → answer c file room ≡ Refused 16 0
    from h = rw (h.0, lt-leb (length (new_table c file)) room h.1) refl

-- and a buffer of the file's length has
pub table_within :
    (c : Chip) (file : List ℕ) → Bytes file → salvageable c (taken file) ≡ true → length (new_table c file) ≤ length (taken file)
table_within c file small h =
    omega (arith, table_short c file small, ((salvageable_says c (taken file)).0 h).long, length-drop 16 (taken file))
