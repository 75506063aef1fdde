-- No second outcome keeps the words of `text`.
-- Assumes nothing.
use Prim.Native.Nat.{ℕ}
use mathlib.Core.Path.{◌≡◌}
use mathlib.Core.List.{List}
use Rattle.format.specs.declared.pins.Chip.{Chip}
use Rattle.spelling.specs.Spelling.{Put}
use Rattle.spelling.proofs.Putting.{put_one_way}
use Rattle.pinlines.specs.Text.{text}

pub only_text :
    (c : Chip) (ns b : List ℕ) (n n' : ℕ) (after after' : List ℕ)
    → Put b 0 (text c ns) n after
    → Put b 0 (text c ns) n' after'
    → (n ≡ n') × (after ≡ after')
only_text c ns b n n' after after' p q = put_one_way b (text c ns) n n' after after' p q
