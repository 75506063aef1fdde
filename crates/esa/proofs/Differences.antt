-- The call for differences over numbers: none is too large, and there is no second outcome.
-- Assumes nothing.
use Prim.Native.Nat.{ℕ}
use native.Mathlib.Omega.{arith}
use mathlib.Core.Path.{◌≡◌, sym, ◌∙◌, ap}
use mathlib.Core.List.{List}
use Rattle.format.specs.Slots.{Bytes}
use Rattle.format.specs.declared.pins.Chip.{Chip}
use Rattle.format.specs.Answers.{Refused as RefusedTable}
use Rattle.reader.proofs.Bounds.{value_bound}
use Rattle.differing.specs.Compared.{archived}
use Rattle.differing.proofs.Bound.{text_bound}
use Rattle.comparing.specs.Lines.{Compares, compared, first_refused, second_refused}
use Rattle.comparing.specs.Outcomes.{Outcome}
use Rattle.comparing.proofs.Only.{only_outcome}
use Rattle.esa.specs.Differences.{packed_outcome, Fitted, DiffFor}

pub compares_fitted : (c : Chip) (b b' buf : List ℕ) (x : Outcome) (after : List ℕ) → Compares c b b' buf x after → Fitted x
compares_fitted c b b' buf x after (compared d d' rs rs' a a' put) =
    omega (arith, put.ends, text_bound (archived c) d d' rs rs' a.keeps a'.keeps)
compares_fitted c b b' buf x after (first_refused {k = k} {p = p} v) = (omega arith, value_bound (archived c) b (RefusedTable k p) v)
compares_fitted c b b' buf x after (second_refused {k = k} {p = p} d rs a v) = (
  omega arith,
  value_bound (archived c) b' (RefusedTable k p) v,
)

-- no second outcome
pub diff_unique :
    (c : Chip) (b b' buf : List ℕ) (r r' : ℕ) (after after' : List ℕ)
    → Bytes b
    → Bytes b'
    → DiffFor c b b' buf r after
    → DiffFor c b b' buf r' after'
    → (r ≡ r') × (after ≡ after')
diff_unique c b b' buf r r' after after' small small' f f' =
    let q = only_outcome c b b' buf small small' f.answer f'.answer after after' f.compares f'.compares in
    (f.number ∙ ap packed_outcome q.0 ∙ sym f'.number, q.1)
