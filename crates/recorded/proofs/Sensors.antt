-- The sensors that a start lays are read back as those of the table's records: VMIN, VMAX and PPR are under 256, as their slots have room.
-- Assumes nothing.
use Prim.Native.Nat.{ℕ, zero, suc, ◌+◌, ◌*◌, ◌<◌, ◌≤◌}
use native.Mathlib.Omega.{arith}
use native.Mathlib.Nat.{mod-eq_of_lt}
use mathlib.Core.Path.{◌≡◌, refl, sym, ◌∙◌, ap}
use mathlib.Core.Bool.{true}
use mathlib.Core.List.{List, [], ◌∷◌}
use mathlib.Core.Option.{some}
use lib.ListN.{length, get_or, replicate}
use lib.Seq.{sets, length-sets}
use borrow.Author.Tests.{ltb-true}
use Rattle.std.specs.Prelude.{Option as Maybe, Some, None, Result}
use Rattle.format.specs.Slots.{Slot, reserved, roomy, all_roomy, Bytes}
use Rattle.format.specs.Records.{Record, element_of}
use Rattle.format.specs.Records.{digital, analogue, fan, led, water, pump, voltage, current}
use Rattle.format.specs.Records.{controller, tachometer, zone, string, external, rgb}
use Rattle.format.specs.Layout.{layout, layouts, opening}
use Rattle.format.specs.Asked.{nth}
use Rattle.format.specs.Verdict.{Accepts}
use Rattle.format.specs.declared.settings.Settings.{Settings}
use Rattle.format.specs.declared.records.Description.{Description}
use Rattle.format.specs.Answers.{Gives as Accepted}
use Rattle.format.proofs.Kept.{and-true}
use Rattle.format.proofs.Slots.{roomy_split}
use Rattle.format.proofs.Lengths.{at_most_96}
use Rattle.format.proofs.Demand3.{only_one_list}
use Rattle.converting.specs.Outcomes.{outcome_of}
use Rattle.format.specs.declared.answers.Rule.{Rule}
use Rattle.converting.specs.declared.Converted.{Converted}
use Rattle.sensing.specs.Answers.{sensor_of, Answers}
use Rattle.sensing.specs.declared.Sensor.{Sensor}
use Rattle.sensing.specs.declared.Sensor.TheVariants.{Current, Voltage, Points, Pulses}
use Rattle.gauges.specs.Numbers.{sensor_from, sensor_at, sensor_numbers}
use Rattle.gauges.specs.Meaning.{answer_of}
use Rattle.gauges.proofs.Answer.{answer_meets}
use Rattle.readying.specs.Starting.{laid, Gathered, StartIs}
use Rattle.readying.specs.Starting.StartIs.{begun}
use Rattle.tracing.specs.Lines.{count_of, outcome_at}
use Rattle.recorded.proofs.Runs.{beside, inside}

-- the numbers that are read modulo 256 are under it
Narrow : Maybe Sensor → Type 0
Narrow (Some (Current imin imax)) = Unit {0}
Narrow (Some (Voltage vmin vmax)) = (vmin.0 < 256) × (vmax.0 < 256)
Narrow (Some (Points p)) = Unit {0}
Narrow (Some (Pulses ppr)) = ppr < 256
Narrow None = Unit {0}

-- .. of a record whose slots have room
room_at : (ss : List Slot) (i : ℕ) → all_roomy ss ≡ true → roomy (get_or ss i reserved) ≡ true
room_at [] i h = refl
room_at (s ∷ ss) zero h = (and-true (roomy s) (all_roomy ss) h).0
room_at (s ∷ ss) (suc i) h = room_at ss i (and-true (roomy s) (all_roomy ss) h).1

narrow : (r : Record) → all_roomy (layout r) ≡ true → Narrow (sensor_of (element_of r))
unfolding Narrow
narrow (digital d) h = tt
narrow (analogue a) h = tt
narrow (fan f) h = ltb-true f.ppr 256 (room_at (layout (fan f)) 10 h)
narrow (led l) h = tt
narrow (water w) h = tt
narrow (pump f) h = ltb-true f.ppr 256 (room_at (layout (pump f)) 10 h)
narrow (voltage v) h = (
  ltb-true v.vmin.0 256 (room_at (layout (voltage v)) 10 h),
  ltb-true v.vmax.0 256 (room_at (layout (voltage v)) 9 h),
)
narrow (current c) h = tt
narrow (controller d bs) h = tt
narrow (tachometer d a b) h = tt
narrow (zone bytes) h = tt
narrow (string bytes) h = tt
narrow (external x r g b) h = tt
narrow (rgb r) h = tt

-- six numbers, from which the sensor is read back
six : (z : Maybe Sensor) → length (sensor_numbers z) ≡ 6
six (Some (Current imin imax)) = refl
six (Some (Voltage vmin vmax)) = refl
six (Some (Points p)) = refl
six (Some (Pulses ppr)) = refl
six None = refl

abbrev read_from : List ℕ → Maybe Sensor
read_from v = sensor_from (get_or v 0 0) (get_or v 1 0) (get_or v 2 0) (get_or v 3 0) (get_or v 4 0) (get_or v 5 0)

back : (z : Maybe Sensor) → Narrow z → read_from (sensor_numbers z) ≡ z
unfolding Narrow
back (Some (Current imin imax)) h = refl
back (Some (Voltage vmin vmax)) h = rw (mod-eq_of_lt h.0, mod-eq_of_lt h.1) refl
back (Some (Points p)) h = refl
back (Some (Pulses ppr)) h = rw (mod-eq_of_lt h) refl
back None h = refl

-- the sensor of element k after six numbers are stored for it, and for another
module _ (s : List ℕ) (k : ℕ) (z : Maybe Sensor) where
  stored : 6 * k + 6 ≤ length s → Narrow z → sensor_at (sets s (6 * k) (sensor_numbers z)) k ≡ z
  unfolding sensor_at
  stored h n =
      let at : (j i : ℕ) → i ≡ 6 * k + j → j < 6 → get_or (sets s (6 * k) (sensor_numbers z)) i 0 ≡ get_or (sensor_numbers z) j 0 =
      λ j i e q. inside (sensor_numbers z) s (6 * k) j i e (omega (arith, h, six z)) (omega (arith, q, six z)) in
      rw (
        at 0 (6 * k) (omega arith) (omega arith),
        at 1 (6 * k + 1) refl (omega arith),
        at 2 (6 * k + 2) refl (omega arith),
        at 3 (6 * k + 3) refl (omega arith),
        at 4 (6 * k + 4) refl (omega arith),
        at 5 (6 * k + 5) refl (omega arith),
      ) (back z n)

  other : (j : ℕ) → (j ≡ k → ⊥) → sensor_at (sets s (6 * k) (sensor_numbers z)) j ≡ sensor_at s j
  unfolding sensor_at
  other j h =
      let at : (a : ℕ) → a < 6 → (i : ℕ) → i ≡ 6 * j + a → get_or (sets s (6 * k) (sensor_numbers z)) i 0 ≡ get_or s i 0 =
      λ a q i e. beside (sensor_numbers z) s (6 * k) i (λ b p f. h (omega (arith, q, e, p, f, six z))) in
      rw (
        at 0 (omega arith) (6 * j) (omega arith),
        at 1 (omega arith) (6 * j + 1) refl,
        at 2 (omega arith) (6 * j + 2) refl,
        at 3 (omega arith) (6 * j + 3) refl,
        at 4 (omega arith) (6 * j + 4) refl,
        at 5 (omega arith) (6 * j + 5) refl,
      ) refl

-- those of records from element k on leave the ones before them, and each is read back
before : (rs : List Record) (s : List ℕ) (k j : ℕ) → j < k → sensor_at (laid s k rs) j ≡ sensor_at s j
before [] s k j h = refl
before (r ∷ rs) s k j h =
    before rs (sets s (6 * k) (sensor_numbers (sensor_of (element_of r)))) (k + 1) j (omega (arith, h))
    ∙ other s k (sensor_of (element_of r)) j (λ e. omega (arith, e, h))

each :
    (rs : List Record) (s : List ℕ) (k i j : ℕ) {r : Record}
    → nth rs i ≡ some r
    → j ≡ k + i
    → 6 * (k + length rs) ≤ length s
    → all_roomy (layouts rs) ≡ true
    → sensor_at (laid s k rs) j ≡ sensor_of (element_of r)
each [] s k i j at e h room = let z : ◌≡◌ {A = ℕ} 0 1 = cc in absurd (omega arith)
each (q ∷ rs) s k zero j {r} at e h room =
    let same : r ≡ q = cc in
    let here : j ≡ k = omega (arith, e) in
    let z = sensor_of (element_of q) in
    rw (same, here)
    (before rs (sets s (6 * k) (sensor_numbers z)) (k + 1) k (omega arith)
    ∙ stored s k z (omega (arith, h)) (narrow q (roomy_split (layout q) (layouts rs) room).0))
each (q ∷ rs) s k (suc i) j at e h room =
    let v = sensor_numbers (sensor_of (element_of q)) in
    let rest = (roomy_split (layout q) (layouts rs) room).1 in
    each rs (sets s (6 * k) v) (k + 1) i j at (omega (arith, e)) (omega (arith, h, length-sets s (6 * k) v)) rest

-- THE THEOREM: of an accepted table, the sensor that is laid for element k is the one of its record k
pub sensor_laid :
    (σ : Settings) (t : List ℕ) {s : List ℕ} {d : Description} {rs : List Record} {r : Record} (k : ℕ)
    → Bytes t
    → Gathered σ t s
    → Accepts σ t d rs
    → nth rs k ≡ some r
    → sensor_at s k ≡ sensor_of (element_of r)
sensor_laid σ t {s} {d} {rs} {r} k small g a at =
    let same = (only_one_list σ t d g.d rs g.rs small a g.accepts).1 in
    let few = at_most_96 σ [] rs (omega arith) a.keeps.passed in
    let room = (roomy_split (opening d (16 + length (layouts rs))) (layouts rs) a.keeps.roomy_25).1 in
    ap (λ (l : List ℕ). sensor_at l k) (g.sensors ∙ ap (laid (replicate 576 0) 0) (sym same))
    ∙ each rs (replicate 576 0) 0 k k at (omega arith) (omega (arith, few)) room

-- so, after a start, a trace answers a count of element k with what that record's sensor answers
pub record_answers :
    (σ : Settings) (t n s ts : List ℕ) {count : ℕ} {n' s' ts' : List ℕ} {d : Description} {rs : List Record} {r : Record} (k c : ℕ)
    → Bytes t
    → StartIs σ t n s ts (Accepted count) n' s' ts'
    → Accepts σ t d rs
    → nth rs k ≡ some r
    → (v : Result Converted Rule) × Answers (sensor_of (element_of r)) c v × (outcome_at s' (count_of k c) ≡ outcome_of v)
record_answers σ t n s ts {s' = s'} {r = r} k c small (begun v g) a at =
    let z = sensor_of (element_of r) in
    (answer_of z c, answer_meets z c, ap (λ (y : Maybe Sensor). outcome_of (answer_of y c)) (sensor_laid σ t k small g a at))
