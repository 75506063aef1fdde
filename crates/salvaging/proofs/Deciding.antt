-- The passes one behind another: what each leaves is what the next starts from, and the last is the end.
-- Assumes nothing.
use Prim.Native.Nat.{ℕ, ◌+◌, ◌≤◌, ◌<◌}
use native.Mathlib.Omega.{arith}
use native.Mathlib.Numerals.{add-one}
use mathlib.Core.Path.{◌≡◌, refl, sym, ◌∙◌, ap, subst}
use mathlib.Core.Bool.{Bool, true, false, not, cond, true≢false}
use mathlib.Core.List.{List, [], ◌∷◌, ◌++◌, append-nil}
use mathlib.Core.Option.{none}
use lib.ListN.{length, take, set, get_or, length-set, length-take}
use lib.Seq.{take-suc-set}
use Rattle.format.specs.Slots.{byte}
use Rattle.format.specs.Pins.{among}
use Rattle.format.specs.ZonesAndStrings.{Role, placed, zoning, naming, role, zones, strings, string_declared, zone_named, all_among}
use Rattle.format.specs.Claims.{made_at, first_claims, contested}
use Rattle.format.specs.declared.pins.Chip.{Chip}
use Rattle.flags.specs.Marks.{Marks}
use Rattle.flags.proofs.Marked.{marks_front}
use Rattle.claims.specs.Taken.{HeldIs, whats}
use Rattle.claims.specs.declared.Held.{Held}
use Rattle.saving.specs.Saving.{salvageable, Line, line, cleared, Saved, saved, records, string_indexes, first_line, zoned}
use Rattle.saving.proofs.Choosing.{in_zone, choose_gathered}
use Rattle.saving.proofs.Theorems.{salvageable_says}
use Rattle.fates.specs.Noted.{Each, Codes, Notes}
use Rattle.fates.specs.declared.Kept.{Kept}
use Rattle.fates.specs.declared.Note.{Note}
use Rattle.fates.specs.declared.Counts.{Counts}
use Rattle.fates.proofs.Noting.{each_snoc, clearing, cleared_code}
use Rattle.pass.specs.Tracks.{flags}
use Rattle.scanning.specs.Scanned.{after_pass, Scanned}
use Rattle.scanning.specs.declared.Passage.{Passage}
use Rattle.sifting.specs.Stages.{Given, Ready, Sifted}
use Rattle.sifting.specs.declared.Stage.TheVariants.{Zones, Strings, Pins}
use Rattle.mending.specs.Laid.{Listed}
use Rattle.salvaging.specs.Decided.{described, after_zones, after_strings, after_all, Decided, NotesFirst, Passed, PlanIs}
use Rattle.salvaging.specs.declared.Plan.{Plan}

-- 13 leaves out no string
bare_string : (ns : List ℕ) (p : Role) → all_among (zone_named p) ns ≡ false → string_declared p ≡ []
bare_string ns (placed p) e = refl
bare_string ns (zoning bytes) e = refl
bare_string ns (naming bytes) e = absurd (true≢false e)

strings_stay : (s : Saved) → strings (records (zoned s).kept) ≡ strings (records s.kept)
strings_stay s =
    let ns = zones (records s.kept) in
    choose_gathered (in_zone ns) 13 (λ kept. Unit {0}) (λ kept r p e. tt) string_declared (λ kept r p e. bare_string ns (role r) e)
    s.lines s.kept tt

-- the description's line
pub first_noted : (log : List Note) (n : ℕ) → n < 1649 → NotesFirst log n true (n + 1) (set log n (clearing 0))
first_noted log n b =
    record {
      long = length-set log n (clearing 0);
      more = omega arith;
      notes = λ ls h e.
          subst (λ (ns : List Note). Each Codes ns (ls ++ line 0 14 cleared ∷ []))
          (sym (ap (λ (m : ℕ). take m (set log n (clearing 0))) (add-one n) ∙ take-suc-set log n (clearing 0) h))
          (each_snoc Codes (take n log) ls (clearing 0) (line 0 14 cleared) e (cleared_code 0 0 (omega arith) refl));
    }

pub none_noted : (log : List Note) (n : ℕ) → NotesFirst log n false n log
none_noted log n = record { long = refl; more = omega arith; notes = λ ls h e. rw (append-nil ls) e }

same_line : (b : Bool) (x : List Line) → cond (not b) x [] ≡ cond b [] x
same_line true x = refl
same_line false x = refl

-- which indexes name a string
marks_14 :
    (c : Chip) (t : List ℕ) (ss : List Bool)
    → Marks ss (strings (records (after_pass c t).kept))
    → Marks (set ss 0 true) (string_indexes (after_zones c t))
unfolding after_pass after_zones
marks_14 c t ss m =
    rw (strings_stay (after_pass c t)) (marks_front ss (strings (records (after_pass c t).kept)) 0 (omega arith) m)

-- what the pass leaves for the others
pub passed_on :
    (c : Chip) (t : List ℕ) (kept : List Kept) (log : List Note) (zs ss zu su : List Bool) (r : Passage)
    → Scanned c t kept log (flags zs ss zu su) r
    → Passed c t kept log zs (set ss 0 true) r.n
passed_on c t kept log zs ss zu su r w =
    record { notes = w.notes; zone = w.tracks.zone; index = marks_14 c t ss w.tracks.string; few_lines = w.few_lines }

module _ (c : Chip) (t : List ℕ) (held : Held) (made : HeldIs held (made_at 0 (first_claims (described c t))))
    (clear : contested (described c t) [] ≡ none) where
  -- 13
  module _ (one : List Kept) (log : List Note) (zs ss : List Bool) (a : Counts) (w : Passed c t one log zs ss a) where
    pub given_13 :
        Given c Zones t (take a.kept one) zs held log a.lines (described c t) (zones (records (after_pass c t).kept))
        (saved [] (after_pass c t).lines) (after_pass c t).kept
    given_13 =
        record {
          few = omega (arith, length-take a.kept one, w.notes.few);
          log_long = w.notes.log_long;
          fitting = omega (arith, length-take a.kept one, w.few_lines, w.notes.few);
          keeps = w.notes.keeps;
          codes = w.notes.codes;
          none_yet = refl;
          marks = w.zone;
          carries = tt;
        }

    pub ready_13 : length t ≤ 4096 → Ready c Zones t (take a.kept one) zs held log a.lines
    ready_13 top = record { d = _; ns = _; s = _; ks = _; given = given_13; small = top }

    pub noted_13 :
        {b : Counts} {two : List Kept} {log' : List Note}
        → Sifted c Zones t (take a.kept one) zs held log a.lines b two log'
        → Notes c t two log' b (after_zones c t)
    unfolding after_pass after_zones
    noted_13 s = s.sifts _ _ _ _ given_13

  pub clears_14 :
      (l : List Bool) (index : ℕ)
      → Marks l (string_indexes (after_zones c t))
      → index ≡ byte t 4
      → index < 256
      → not (get_or l index false) ≡ not (among (described c t).string (string_indexes (after_zones c t)))
  clears_14 l index m e s = ap not (m.flag index s ∙ ap (λ (i : ℕ). among i (string_indexes (after_zones c t))) e)

  -- 14
  module _
      (two : List Kept) (log log' : List Note) (ss : List Bool) (b : Counts) (lines : ℕ) (w : Notes c t two log b (after_zones c t)) (few : b.lines ≤ 1456)
      (clears : Bool) (same : clears ≡ not (among (described c t).string (string_indexes (after_zones c t))))
      (first : NotesFirst log b.lines clears lines log') (m : Marks ss (string_indexes (after_zones c t)))
    where
      pub given_14 :
          Given c Strings t (take b.kept two) ss held log' lines (described c t) (string_indexes (after_zones c t))
          (saved [] ((after_zones c t).lines ++ first_line (string_indexes (after_zones c t)) (described c t))) (after_zones c t).kept
      given_14 =
          let x = among (described c t).string (string_indexes (after_zones c t)) in
          record {
            few = omega (arith, length-take b.kept two, w.few);
            log_long = first.long ∙ w.log_long;
            fitting = omega (arith, length-take b.kept two, first.more, few, w.few);
            keeps = w.keeps;
            codes =
                subst (λ (l : List Line). Each Codes (take lines log') ((after_zones c t).lines ++ l))
                (ap (λ (y : Bool). cond y (line 0 14 cleared ∷ []) []) same ∙ same_line x (line 0 14 cleared ∷ []))
                (first.notes (after_zones c t).lines (omega (arith, few, w.log_long)) w.codes);
            none_yet = refl;
            marks = m;
            carries = refl;
          }

      pub ready_14 : length t ≤ 4096 → Ready c Strings t (take b.kept two) ss held log' lines
      ready_14 top = record { d = _; ns = _; s = _; ks = _; given = given_14; small = top }

      pub noted_14 :
          {r : Counts} {one : List Kept} {log'' : List Note}
          → Sifted c Strings t (take b.kept two) ss held log' lines r one log''
          → Notes c t one log'' r (after_strings c t)
      unfolding after_zones after_strings
      noted_14 s = s.sifts _ _ _ _ given_14

  -- 15
  module _ (one : List Kept) (log : List Note) (ss : List Bool) (r : Counts) (w : Notes c t one log r (after_strings c t)) (few : r.lines ≤ 1553)
      (m : Marks ss (string_indexes (after_zones c t))) where
    pub given_15 :
        Given c Pins t (take r.kept one) ss held log r.lines (described c t) (string_indexes (after_zones c t))
        (saved [] (after_strings c t).lines) (after_strings c t).kept
    given_15 =
        record {
          few = omega (arith, length-take r.kept one, w.few);
          log_long = w.log_long;
          fitting = omega (arith, length-take r.kept one, few, w.few);
          keeps = w.keeps;
          codes = w.codes;
          none_yet = refl;
          marks = m;
          carries =
              record {
                made = made_at 0 (first_claims (described c t));
                held = made;
                same = ap whats
                    (sym (append-nil (made_at 0 (first_claims (described c t)))));
                clear = clear;
              };
        }

    pub ready_15 : length t ≤ 4096 → Ready c Pins t (take r.kept one) ss held log r.lines
    ready_15 top = record { d = _; ns = _; s = _; ks = _; given = given_15; small = top }

    pub noted_15 :
        {e : Counts} {kept : List Kept} {log' : List Note}
        → Sifted c Pins t (take r.kept one) ss held log r.lines e kept log'
        → Notes c t kept log' e (after_all c t)
    unfolding after_zones after_strings after_all
    noted_15 s = s.sifts _ _ _ _ given_15

-- all is decided
pub listed : (c : Chip) (t : List ℕ) (kept : List Kept) (log : List Note) (e : Counts) → Notes c t kept log e (after_all c t) → length t ≤ 4096 → Listed t (take e.kept kept)
listed c t kept log e n top =
    record { c = c; ks = (after_all c t).kept; keeps = n.keeps; few = omega (arith, length-take e.kept kept, n.few); top = top }

pub decided :
    (c : Chip) (t : List ℕ) (p : Plan) (kept : List Kept) (log : List Note) (e : Counts) (clears : Bool)
    → PlanIs t (take e.kept kept) e clears p
    → Notes c t kept log e (after_all c t)
    → clears ≡ not (among (described c t).string (string_indexes (after_zones c t)))
    → Decided c t p kept log
decided c t p kept log e clears l n s =
    record {
      notes =
          record {
            kept_long = n.kept_long;
            log_long = n.log_long;
            few = omega (arith, l.keeps, n.few);
            fitting = omega (arith, l.lines, n.fitting);
            keeps = rw l.keeps n.keeps;
            codes = rw l.lines n.codes;
          };
      clears = l.clear ∙ s;
      size = rw l.keeps l.size;
    }

-- 13, 14 and 15, one behind another, from what the pass leaves
module _
    (c : Chip) (t : List ℕ) {held : Held} (top : length t ≤ 4096) (able : salvageable c t ≡ true)
    (made : HeldIs held (made_at 0 (first_claims (described c t)))) {kept : List Kept} {log : List Note} {zs ss : List Bool} {a : Counts}
    (w : Passed c t kept log zs ss a)
  where
    clear : contested (described c t) [] ≡ none
    clear = ((salvageable_says c t).0 able).clear

    pub zones_ready : Ready c Zones t (take a.kept kept) zs held log a.lines
    zones_ready = ready_13 c t held made clear kept log zs ss a w top

    module _
        {b : Counts} {one : List Kept} {log₁ : List Note} (first : Sifted c Zones t (take a.kept kept) zs held log a.lines b one log₁)
        {index : ℕ} (at-4 : index ≡ byte t 4) (small : index < 256) {lines : ℕ} {log₂ : List Note}
        (n : NotesFirst log₁ b.lines (not (get_or ss index false)) lines log₂)
      where
        same : not (get_or ss index false) ≡ not (among (described c t).string (string_indexes (after_zones c t)))
        same = clears_14 c t held made clear ss index w.index at-4 small

        noted_zones : Notes c t one log₁ b (after_zones c t)
        noted_zones = noted_13 c t held made clear kept log zs ss a w first

        few : b.lines ≤ 1456
        few = omega (arith, first.not_many, length-take a.kept kept, w.few_lines, w.notes.few)

        pub strings_ready : Ready c Strings t (take b.kept one) ss held log₂ lines
        strings_ready = ready_14 c t held made clear one log₁ log₂ ss b lines noted_zones few _ same n w.index top

        module _
            {d : Counts} {two : List Kept} {log₃ : List Note} (second : Sifted c Strings t (take b.kept one) ss held log₂ lines d two log₃)
          where
            noted_strings : Notes c t two log₃ d (after_strings c t)
            noted_strings = noted_14 c t held made clear one log₁ log₂ ss b lines noted_zones few _ same n w.index second

            few_then : d.lines ≤ 1553
            few_then = omega (arith, few, n.more, second.not_many, length-take b.kept one, noted_zones.few)

            pub pins_ready : Ready c Pins t (take d.kept two) ss held log₃ d.lines
            pins_ready = ready_15 c t held made clear two log₃ ss d noted_strings few_then w.index top

            module _
                {e : Counts} {kept₄ : List Kept} {log₄ : List Note} (third : Sifted c Pins t (take d.kept two) ss held log₃ d.lines e kept₄ log₄)
              where
                noted_all : Notes c t kept₄ log₄ e (after_all c t)
                noted_all = noted_15 c t held made clear two log₃ ss d noted_strings few_then w.index third

                pub all_listed : Listed t (take e.kept kept₄)
                all_listed = listed c t kept₄ log₄ e noted_all top

                pub all_decided : {p : Plan} → PlanIs t (take e.kept kept₄) e (not (get_or ss index false)) p → Decided c t p kept₄ log₄
                all_decided {p} l = decided c t p kept₄ log₄ e _ l noted_all same
