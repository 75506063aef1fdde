-- Lines as the bytes of a trace: each is ended by a line feed, 10, and has none inside.
-- Assumes nothing.
use Rattle.std.specs.Prelude.{ℕ, ◌≡◌, List, [], ◌∷◌, ◌++◌}

abbrev pub fed : List (List ℕ) → List ℕ
fed [] = []
fed (l ∷ ls) = l ++ 10 ∷ fed ls

abbrev pub Unfed : List ℕ → Type 0
Unfed [] = Unit {0}
Unfed (b ∷ bs) = (b ≡ 10 → ⊥) × Unfed bs

abbrev pub AllUnfed : List (List ℕ) → Type 0
AllUnfed [] = Unit {0}
AllUnfed (l ∷ ls) = Unfed l × AllUnfed ls
