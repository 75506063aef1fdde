-- A trace begins, over numbers: no answer is too large, and there is no second outcome.
-- Assumes nothing.
use Prim.Native.Nat.{ℕ, ◌≤◌}
use mathlib.Core.Path.{◌≡◌, sym, ◌∙◌, ap}
use mathlib.Core.List.{List}
use Rattle.format.specs.Slots.{Bytes}
use Rattle.format.specs.Answers.{value_of}
use Rattle.format.specs.Writing.{writing}
use Rattle.format.specs.declared.pins.Chip.{Chip}
use Rattle.format.specs.declared.settings.Settings.{Settings}
use Rattle.format.specs.Answers.{Answer}
use Rattle.format.specs.Answers.{Gives as Accepted, Refused}
use Rattle.reader.proofs.Bounds.{value_bound}
use Rattle.readying.specs.Starting.{StartIs, begun, refused}
use Rattle.readying.proofs.Only.{start_only}
use Rattle.esa.specs.Face.{packed}
use Rattle.esa.specs.Traces.{TraceStartFor}

pub start_bound : (σ : Settings) (t n s ts : List ℕ) (a : Answer) (n' s' ts' : List ℕ) → StartIs σ t n s ts a n' s' ts' → value_of a ≤ 4096
start_bound σ t n s ts a n' s' ts' (begun {count = c} v g) = value_bound σ t (Accepted c) v
start_bound σ t n s ts a n' s' ts' (refused {number = k} {place = p} v) = value_bound σ t (Refused k p) v

pub trace_start_unique :
    (c : Chip) (t n s ts : List ℕ) (r r' : ℕ) (n₁ n₂ s₁ s₂ ts₁ ts₂ : List ℕ)
    → Bytes t
    → TraceStartFor c t n s ts r n₁ s₁ ts₁
    → TraceStartFor c t n s ts r' n₂ s₂ ts₂
    → (r ≡ r') × (n₁ ≡ n₂) × (s₁ ≡ s₂) × (ts₁ ≡ ts₂)
trace_start_unique c t n s ts r r' n₁ n₂ s₁ s₂ ts₁ ts₂ small f g =
    let q = start_only (writing c) t n s ts small f.started g.started in
    (f.number ∙ ap packed q.0 ∙ sym g.number, q.1, q.2, q.3)
