-- A description with no element behind it and string index 0: nothing is kept, nothing is changed, and the new table has 16 bytes.
-- Assumes nothing.
use Prim.Native.Nat.{ℕ}
use native.Mathlib.Omega.{arith}
use mathlib.Core.Path.{◌≡◌, refl, sym, ◌∙◌, ap}
use mathlib.Core.Bool.{Bool, true, false, not, cond}
use mathlib.Core.List.{List, [], ◌∷◌}
use lib.ListN.{length, drop, replicate, length-replicate}
use Rattle.format.specs.Slots.{byte}
use Rattle.format.specs.Pins.{among}
use Rattle.format.specs.Writing.{writing}
use Rattle.format.specs.declared.pins.Chip.{Chip}
use Rattle.pass.proofs.Moving.{unframed_short}
use Rattle.spelling.proofs.Putting.{put_none}
use Rattle.saving.specs.Saving.{line, cleared, Saved, saved, elements, sift, by_pass, zoned, string_indexes, named, unclashed}
use Rattle.scanning.specs.Scanned.{after_pass}
use Rattle.scanning.proofs.Scanning.{none_standing}
use Rattle.mending.specs.Laid.{LengthIs, PutsOpening, PutsTable}
use Rattle.changes.specs.Written.{PutsLines}
use Rattle.fates.specs.declared.Kept.{Kept}
use Rattle.fates.specs.declared.Note.{Note}
use Rattle.salvaging.specs.Decided.{described, after_zones, after_all, Alone, Decided}
use Rattle.salvaging.specs.declared.Plan.{Plan}

-- nothing is noted
abbrev pub nothing : Plan
nothing = record { kept = 0; lines = 0; cleared = false; len = 16 }

abbrev pub no_kept : List Kept
no_kept = replicate 96 (record { place = 0; cleared = false })

abbrev pub no_log : List Note
no_log = replicate 1649 (record { place = 0; number = 0; cleared = false })

pub kept_long : length no_kept ≡ 96
kept_long = length-replicate {A = Kept} 96 (record { place = 0; cleared = false })

pub log_long : length no_log ≡ 1649
log_long = length-replicate {A = Note} 1649 (record { place = 0; number = 0; cleared = false })

module _ (c : Chip) (t : List ℕ) (a : Alone t) where
  no_elements : elements t ≡ []
  no_elements = none_standing (length (drop 16 t)) 16 (drop 16 t) (unframed_short t 16 (omega (arith, a.0)))

  no_pass : after_pass c t ≡ saved [] []
  unfolding after_pass
  no_pass = ap (sift (by_pass (writing c)) (saved [] [])) no_elements

  no_zones : after_zones c t ≡ saved [] []
  unfolding after_pass after_zones
  no_zones = ap zoned no_pass

  no_index : among (byte t 4) (0 ∷ []) ≡ true
  no_index = ap (λ (i : ℕ). among i (0 ∷ [])) a.1

  no_change : after_all c t ≡ saved [] []
  unfolding after_zones after_all
  no_change =
      ap (λ (s : Saved). unclashed (described c t) (named (described c t) s)) no_zones
      ∙ ap (λ (b : Bool). saved [] (cond b [] (line 0 14 cleared ∷ []))) no_index

  no_size : LengthIs t [] 16
  no_size chip [] all = refl
  no_size chip (k ∷ ks) all = absurd all

  pub alone_decided : Decided c t nothing no_kept no_log
  alone_decided =
      record {
        notes =
            rw no_change
            (record {
              kept_long = kept_long;
              log_long = log_long;
              few = omega arith;
              fitting = omega arith;
              keeps = tt;
              codes = tt;
            });
        clears =
            sym
            (ap (λ (s : Saved). not (among (described c t).string (string_indexes s))) no_zones ∙ ap not no_index);
        size = no_size;
      }

  pub alone_put : {out after : List ℕ} → PutsOpening c t false 16 out after → PutsTable c t [] false 16 out after
  alone_put p [] all = p
  alone_put p (k ∷ ks) all = absurd all

pub no_lines : (lines : List ℕ) → PutsLines [] lines 0 lines
no_lines lines [] all = put_none lines 0
no_lines lines (l ∷ ls) all = absurd all
