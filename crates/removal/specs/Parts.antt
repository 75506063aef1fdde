-- A part of a list.
-- Assumes nothing.
use Rattle.std.specs.Prelude.{List, [], ◌∷◌}

-- the first list is the second with elements left out, none or some or all, the others in their order
pub data Part (A : Type 0) : List A → List A → Type 0 where
  done : Part A [] []
  keep : {x : A} {xs ys : List A} → Part A xs ys → Part A (x ∷ xs) (x ∷ ys)
  leave : {y : A} {xs ys : List A} → Part A xs ys → Part A xs (y ∷ ys)
