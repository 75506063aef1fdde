-- No second outcome keeps the words of start or of append: answer and bytes are equations.
-- Assumes nothing.
use Prim.Native.Nat.{ℕ}
use mathlib.Core.Path.{◌≡◌, sym, ◌∙◌, ap}
use mathlib.Core.List.{List}
use Rattle.format.specs.Writing.{start_leaves, append_leaves}
use Rattle.format.specs.declared.records.Description.{Description}
use Rattle.format.specs.declared.records.Element.{Element}
use Rattle.format.specs.Answers.{Written}
use Rattle.writer.specs.Calls.{Started, Appended}
use Rattle.format.specs.declared.pins.Chip.{Chip}

pub only_start :
    (c : Chip) (b : List ℕ) (d : Description) (r r' : Written) (after after' : List ℕ)
    → Started c b d r after
    → Started c b d r' after'
    → (r ≡ r') × (after ≡ after')
only_start c b d r r' after after' p q =
    let e : r ≡ r' = p.answer ∙ sym q.answer in
    (e, p.leaves ∙ ap (λ (v : Written). start_leaves v b d) e ∙ sym q.leaves)

pub only_append :
    (c : Chip) (b : List ℕ) (e : Element) (p : List ℕ) (r r' : Written) (after after' : List ℕ)
    → Appended c b e p r after
    → Appended c b e p r' after'
    → (r ≡ r') × (after ≡ after')
only_append c b e p r r' after after' u v =
    let i : r ≡ r' = u.answer ∙ sym v.answer in
    (i, u.leaves ∙ ap (λ (w : Written). append_leaves w b e p) i ∙ sym v.leaves)
