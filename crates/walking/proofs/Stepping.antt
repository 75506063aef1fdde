-- What a step of the walk gives, told of the table that is walked over: the place and what is left behind it; and the end.
-- Assumes nothing.
use Prim.Native.Nat.{ℕ, ◌+◌, ◌≤◌, ◌<◌}
use mathlib.Core.Path.{◌≡◌, refl, sym, subst}
use mathlib.Core.List.{List}
use lib.ListN.{length, drop}
use Rattle.std.specs.declared.option.Option.TheVariants.{Some, None}
use Rattle.format.specs.Verdict.{stated}
use Rattle.walking.specs.declared.Places.{Places}
use Rattle.walking.specs.Steps.{GivesPlace}

-- the step gave this place of the table, and left the walk in this state
pub record Came (t : List ℕ) (at p : ℕ) (after : Places) : Type 0 where
  pub table : after.table.now ≡ t
  pub here : at ≡ p
  pub before_end : p < length t
  pub next : after.at ≡ p + stated (drop p t)

module _ {t : List ℕ} (s s' : Places) (e : s.table.now ≡ t) where
  pub came : {p : ℕ} → GivesPlace s (Some p) s' → Came t s.at p s'
  came {p} g =
      subst (λ (l : List ℕ). Came l s.at p s') e
      (subst (λ (n : ℕ). Came s.table.now s.at n s') (sym g.1.0)
      (record { table = g.0; here = refl; before_end = g.1.1; next = g.1.2 }))

  pub over : GivesPlace s None s' → length t ≤ s.at
  over g = subst (λ (l : List ℕ). length l ≤ s.at) e g.1.0
