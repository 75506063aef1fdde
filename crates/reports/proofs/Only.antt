-- No second outcome keeps the words of the three calls; of the state that a piece leaves, that whatever keeps them stands for the same
-- bytes, so that what follows is answered alike (receiving/proofs/EveryCutting, `alike`).
-- Assumes nothing.
use Prim.Native.Nat.{ℕ}
use mathlib.Core.Path.{◌≡◌, sym, ◌∙◌, ap}
use mathlib.Core.List.{List, [], ◌++◌}
use Rattle.format.specs.Slots.{Bytes}
use Rattle.format.specs.declared.settings.Settings.{Settings}
use Rattle.pass.specs.Tracks.{Flags}
use Rattle.states.specs.Numbers.{number}
use Rattle.ending.specs.Stands.{Lent, lent, StandsFor}
use Rattle.receiving.specs.Receiving.{PieceIs}
use Rattle.reports.specs.Face.{packed, StartedFor, EndedFor}

pub start_only :
    (σ : Settings) (r s : ℕ) (n first head n' first' head' : List ℕ)
    → StartedFor σ r n first head
    → StartedFor σ s n' first' head'
    → (r ≡ s) × (n ≡ n') × (first ≡ first') × (head ≡ head')
start_only σ r s n first head n' first' head' a b = (
  a.zero ∙ sym b.zero,
  a.starts.numbers ∙ sym b.starts.numbers,
  a.starts.described ∙ sym b.starts.described,
  a.starts.under ∙ sym b.starts.under,
)

module _ (l : Lent) (p : List ℕ) (r s : ℕ) (m m' : Lent) (a : PieceIs l p r m) (b : PieceIs l p s m') where
  -- after the end, and of no bytes, every byte of the state; before it the answer, and what the state stands for
  pub piece_late_only : (number l.numbers 0 ≡ 0 → ⊥) → (r ≡ s) × (m ≡ m')
  piece_late_only z = ((a.late z).0 ∙ sym (b.late z).0, (a.late z).1 ∙ sym (b.late z).1)

  pub piece_none_only : p ≡ [] → m ≡ m'
  piece_none_only e = a.none e ∙ sym (b.none e)

  pub piece_only : number l.numbers 0 ≡ 0 → r ≡ s
  piece_only z = (a.taken z).0 ∙ sym (b.taken z).0

  pub piece_stands : (σ : Settings) (c : List ℕ) → StandsFor σ c l → StandsFor σ (c ++ p) m × StandsFor σ (c ++ p) m'
  piece_stands σ c s = (a.goes σ c s, b.goes σ c s)

module _ (n first : List ℕ) (f : Flags) (zp sp : List ℕ) (r s : ℕ) (n' m' : List ℕ) (a : EndedFor n first f zp sp r n')
    (b : EndedFor n first f zp sp s m') where
  pub end_late_only : (number n 0 ≡ 0 → ⊥) → (r ≡ s) × (n' ≡ m')
  end_late_only z = (
    a.number ∙ ap packed ((a.ends.late z).0 ∙ sym (b.ends.late z).0) ∙ sym b.number,
    (a.ends.late z).1 ∙ sym (b.ends.late z).1,
  )

  -- of a state that no start gave the numbers that are left, and of one that stands for bytes the answer too
  pub end_left_only : number n 0 ≡ 0 → n' ≡ m'
  end_left_only z = a.ends.over z ∙ sym (b.ends.over z)

  pub end_only : (σ : Settings) (c head : List ℕ) → Bytes c → StandsFor σ c (lent n first head f zp sp) → r ≡ s
  end_only σ c head small k =
      a.number ∙ ap packed (a.ends.answers σ c head small k ∙ sym (b.ends.answers σ c head small k)) ∙ sym b.number
