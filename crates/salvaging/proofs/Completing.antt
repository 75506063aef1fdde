-- Where every number that is named is declared and no claim of what the pass keeps clashes, 13, 14 and 15 change nothing.
-- Assumes nothing.
use Prim.Native.Nat.{ℕ, ◌≤◌}
use native.Mathlib.Omega.{arith}
use mathlib.Core.Path.{◌≡◌, refl, sym, ◌∙◌, ap}
use mathlib.Core.Bool.{Bool, true, false, not}
use mathlib.Core.List.{List, ◌∷◌}
use mathlib.Core.Option.{none}
use lib.ListN.{length, take, set}
use Rattle.format.specs.Records.{Record}
use Rattle.format.specs.Pins.{among}
use Rattle.format.specs.ZonesAndStrings.{gathered, zones, strings, zone_named, string_named, zoneless, nameless}
use Rattle.format.specs.Claims.{claims, contested}
use Rattle.format.specs.declared.pins.Chip.{Chip}
use Rattle.flags.proofs.Marked.{marks_front}
use Rattle.removal.proofs.Among.{in_here}
use Rattle.removal.proofs.Naming.{zoned_exactly, named_exactly}
use Rattle.pass.specs.Tracks.{flags}
use Rattle.reader.proofs.Owed.{all_declared}
use Rattle.reader.proofs.Concluding.{no_clash}
use Rattle.saving.specs.Saving.{Saved, records, string_indexes, named, unclashed}
use Rattle.saving.proofs.Whole.{zoned_whole, named_whole, unclashed_whole}
use Rattle.fates.specs.declared.Kept.{Kept}
use Rattle.fates.specs.declared.Note.{Note}
use Rattle.fates.specs.Noted.{Notes}
use Rattle.scanning.specs.Scanned.{after_pass, Scanned}
use Rattle.scanning.specs.declared.Passage.{Passage}
use Rattle.mending.specs.Laid.{Listed}
use Rattle.salvaging.specs.Decided.{described, after_zones, after_all, Decided, Complete, PlanIs}
use Rattle.salvaging.specs.declared.Plan.{Plan}
use Rattle.salvaging.proofs.Deciding.{listed, decided}

module _ (c : Chip) (t : List ℕ) (kept : List Kept) (log : List Note) (zs ss zu su : List Bool) (r : Passage) (w : Scanned c t kept log (flags zs ss zu su) r)
    (e : Complete zs (set ss 0 true) zu su r.clash) where
  abbrev rs : List Record
  rs = records (after_pass c t).kept

  no_13 : zoneless rs ≡ none
  no_13 =
      (zoned_exactly rs).1 (all_declared zu zs (gathered zone_named rs) (zones rs) w.tracks.zone_use w.tracks.zone false e.0 refl)

  all_indexes : (i : ℕ) → among i ((described c t).string ∷ gathered string_named rs) ≡ true → among i (0 ∷ strings rs) ≡ true
  all_indexes =
      all_declared su (set ss 0 true) ((described c t).string ∷ gathered string_named rs) (0 ∷ strings rs) w.tracks.string_use
      (marks_front ss (strings rs) 0 (omega arith) w.tracks.string) false e.1 refl

  no_14 : nameless (described c t) rs ≡ none
  no_14 = (named_exactly (described c t) rs).1 all_indexes

  no_15 : contested (described c t) rs ≡ none
  no_15 = no_clash w.state.held (claims (described c t) rs) w.tracks.held (sym w.clash ∙ e.2)

  same_zones : after_zones c t ≡ after_pass c t
  unfolding after_pass after_zones
  same_zones = zoned_whole (after_pass c t) no_13

  same_all : after_all c t ≡ after_pass c t
  unfolding after_pass after_zones after_all
  same_all =
      ap (λ (s : Saved). unclashed (described c t) (named (described c t) s)) same_zones
      ∙ ap (unclashed (described c t)) (named_whole (described c t) (after_pass c t) no_14)
      ∙ unclashed_whole (described c t) (after_pass c t) no_15

  noted_all : Notes c t kept log r.n (after_all c t)
  noted_all = rw same_all w.notes

  pub listed_all : length t ≤ 4096 → Listed t (take r.n.kept kept)
  listed_all top = listed c t kept log r.n noted_all top

  nothing_clears : false ≡ not (among (described c t).string (string_indexes (after_zones c t)))
  nothing_clears =
      sym
      (ap (λ (s : Saved). not (among (described c t).string (string_indexes s))) same_zones
      ∙ ap not (all_indexes (described c t).string (in_here (described c t).string (gathered string_named rs))))

  pub decided_all : (p : Plan) → PlanIs t (take r.n.kept kept) r.n false p → Decided c t p kept log
  decided_all p l = decided c t p kept log r.n false l noted_all nothing_clears
