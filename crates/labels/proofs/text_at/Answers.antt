-- `text_at` meets its contract: the string's length, less what stands before its text.
-- Assumes nothing.
use Prim.Native.Nat.{ℕ, ◌+◌}
use native.Mathlib.Omega.{arith}
use mathlib.Core.Path.{ap}
use Rattle.labels.specs.Called.{Text}
use Rattle.labels.proofs.Telling.{string_length}
use Rattle.labels.proofs.text_at.Goals as goal

pub length_at-requires : goal.length_at-requires
length_at-requires c =
    let p = c.requires in
    omega (arith, string_length c.args.t.now c.args.at p.0 p.1 p.2, p.1.within)

pub overflow_sub-result : goal.overflow_sub-result
overflow_sub-result c =
    let p = c.requires in
    omega (arith, c.length_at.ensures, string_length c.args.t.now c.args.at p.0 p.1 p.2)

pub returns : goal.returns
returns c =
    let t = c.args.t.now in
    λ x h e. ap (λ (n : ℕ). Text (c.args.at + 6) n) (omega (arith, c.length_at.ensures, string_length t c.args.at x h e))
