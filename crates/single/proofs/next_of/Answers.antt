-- `next_of` meets its contract, by the kind.
-- Assumes nothing.
use mathlib.Core.Path.{◌≡◌, refl, sym, subst}
use Prim.Native.Nat.{ℕ}
use Rattle.underway.specs.Under.{most_of}
use Rattle.single.proofs.next_of.Goals as goal

pub returns-then-u-eq0 : goal.returns-then-u-eq0
returns-then-u-eq0 c =
    let e = subst (λ (i : ℕ). most_of i ≡ 0) (sym c.if-id-eq12.true) refl in
    record { text = λ _ _. c.if-u-eq0.true; first = λ n. absurd (n e); later = λ n. absurd (n e) }
