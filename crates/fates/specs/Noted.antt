-- What the entries of the two arrays stand for.
-- Assumes nothing.
use Rattle.std.specs.Prelude.{ℕ, ◌+◌, ◌<◌, ◌≤◌, ◌≡◌, Bool, true, cond, List, [], ◌∷◌, length, take}
use Rattle.std.proofs.Math.Option.{none}
use Rattle.format.specs.Records.{Record}
use Rattle.format.specs.Rules.{first_broken, own_rules}
use Rattle.format.specs.Writing.{writing}
use Rattle.format.specs.declared.pins.Chip.{Chip}
use Rattle.walking.specs.Walk.{Here}
use Rattle.saving.specs.Saving.{At, at_place, Change, left_out, cleared, Line, Saved, settled, unindexed}
use Rattle.saving.specs.Saving as saving
use Rattle.fates.specs.declared.Kept.{Kept}
use Rattle.fates.specs.declared.Note.{Note}
use Rattle.fates.specs.declared.Fate.{Fate}
use Rattle.fates.specs.declared.Fate.TheVariants.{Stays, Leaves, Mends}
use Rattle.fates.specs.declared.Counts.{Counts}

-- each entry stands for what has its position in the other list
abbrev pub Each : {B A : Type 0} → (B → A → Type 0) → List B → List A → Type 0
Each R [] [] = Unit {0}
Each R [] (a ∷ more) = ⊥
Each R (n ∷ ns) [] = ⊥
Each R (n ∷ ns) (a ∷ more) = R n a × Each R ns more

-- the record that is kept of one that stands there
abbrev pub as_kept : Bool → Record → Record
as_kept clear r = cond clear (unindexed r) r

-- what stands for an element that is kept: a record stands at its old place, and breaks no rule of its own
pub record Keeps (c : Chip) (t : List ℕ) (n : Kept) (k : At Record) : Type 0 where
  pub r : Record
  pub here : Here c t k.place r
  pub unbroken : first_broken (own_rules (writing c) r) ≡ none
  pub place : n.place ≡ k.place
  pub what : k.what ≡ as_kept n.cleared r

-- what stands for a line
abbrev pub change_of : Bool → Change
change_of clear = cond clear cleared left_out

pub record Codes (n : Note) (l : Line) : Type 0 where
  pub place : n.place ≡ l.place
  pub low : l.place < 4096
  pub number : n.number ≡ l.number
  pub small : l.number < 512
  pub change : change_of n.cleared ≡ l.change

-- both arrays, with so many entries in use, hold what is saved so far of the bytes
pub record Notes (c : Chip) (t : List ℕ) (kept : List Kept) (log : List Note) (n : Counts) (s : Saved) : Type 0 where
  pub kept_long : length kept ≡ 96
  pub log_long : length log ≡ 1649
  pub few : n.kept ≤ 96
  pub fitting : n.lines ≤ 1649
  pub keeps : Each (Keeps c t) (take n.kept kept) s.kept
  pub codes : Each Codes (take n.lines log) s.lines

-- the code's fate of an element that is held so is that of the definitions
abbrev pub Tells : Chip → List ℕ → Kept → ℕ → Fate → saving.Fate → Type 0
Tells c t held p Stays (saving.stays r) = Keeps c t held (at_place p r)
Tells c t held p Stays (saving.leaves k) = ⊥
Tells c t held p Stays (saving.mends r) = ⊥
Tells c t held p Stays saving.unseen = ⊥
Tells c t held p (Leaves j) (saving.stays r) = ⊥
Tells c t held p (Leaves j) (saving.leaves k) = (j ≡ k) × (held.place ≡ p)
Tells c t held p (Leaves j) (saving.mends r) = ⊥
Tells c t held p (Leaves j) saving.unseen = ⊥
Tells c t held p Mends (saving.stays r) = ⊥
Tells c t held p Mends (saving.leaves k) = ⊥
Tells c t held p Mends (saving.mends r) = Keeps c t (record { place = held.place; cleared = true }) (at_place p r) × (held.place ≡ p)
Tells c t held p Mends saving.unseen = ⊥

-- one more is settled
pub record Settles (kept : List Kept) (log : List Note) (n : Counts) (held : Kept) (fate : Fate) (m : Counts) (kept' : List Kept) (log' : List Note) : Type 0 where
  pub more_kept : m.kept ≤ n.kept + 1
  pub more_lines : m.lines ≤ n.lines + 1
  pub settles :
      (c : Chip) (t : List ℕ) (s : Saved) (p : ℕ) (f : saving.Fate)
      → Notes c t kept log n s
      → Tells c t held p fate f
      → Notes c t kept' log' m (settled s p f)
