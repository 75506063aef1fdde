-- `close_up` meets its contract: what is moved and mended is closed up.
-- Assumes nothing.
use Prim.Native.Nat.{ℕ, ◌-◌}
use native.Mathlib.Omega.{arith}
use mathlib.Core.Path.{◌≡◌, ◌∙◌, ap}
use mathlib.Core.List.{List}
use lib.ListN.{length}
use Rattle.format.specs.Slots.{word, written}
use Rattle.format.specs.Writing.{overwritten}
use Rattle.removing.proofs.Moving.{closes}
use Rattle.removing.proofs.close_up.Goals as goal

pub returns : goal.returns
returns c =
    let b = c.args.t.now in
    let u = c.move_down.new.t in
    let l : length u - c.args.n ≡ length b - c.args.n = omega arith in (
      l,
      c.put_length.ensures
          ∙ ap (λ (i : ℕ). overwritten 1 (written (word i)) u) l
          ∙ ap (λ (x : List ℕ). overwritten 1 (written (word (length b - c.args.n))) x) c.move_down.ensures
          ∙ closes b c.args.at c.args.n c.requires,
    )
