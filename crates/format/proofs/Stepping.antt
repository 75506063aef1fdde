-- One step of the pass: what `step` answers holds of what stands there, and nothing else does.
-- Assumes nothing.
use Prim.Native.Nat.{ℕ, ◌≤◌, ◌<◌}
use native.Mathlib.Omega.{arith}
use mathlib.Core.Path.{◌≡◌, refl, ◌∙◌}
use mathlib.Core.Bool.{true, ◌&&◌}
use mathlib.Core.List.{List}
use mathlib.Core.Option.{Option, none, some}
use lib.ListN.{length, drop}
use lib.Dec.{leb}
use borrow.Author.Tests.{le-leb, leb-true}
use Rattle.format.specs.Slots.{Starts, byte, Bytes}
use Rattle.format.specs.Records.{Record, digital, analogue, fan, led, water, pump, voltage, current, controller, tachometer, zone}
use Rattle.format.specs.Records.{string, external, rgb, element_of}
use Rattle.format.specs.Layout.{layout, id_of}
use Rattle.format.specs.Table.{element_breaks}
use Rattle.format.specs.Verdict.{stated, framed, known, Breaks, header, crowded, unknown, unlaid, faulty}
use Rattle.format.specs.Decode.{content, decode}
use Rattle.format.specs.Reader.{Outcome, took, stop, unless_broken, judge, step}
use Rattle.format.proofs.Slots.{starts_over, starts_length}
use Rattle.format.proofs.Kept.{and-true, unbroken_kind}
use Rattle.format.proofs.Stepped.{step_by, unframed, crowded_out, by_identifier}
use Rattle.format.proofs.Decoding.{starts_stated, starts_next, StandsIf, decoded_stands, stands_decoded}
use Rattle.format.specs.declared.settings.Settings.{Settings}

-- rule 6 as numbers
framed_facts : (bs : List ℕ) → framed bs ≡ true → (3 ≤ length bs) × (3 ≤ stated bs) × (stated bs ≤ length bs)
framed_facts bs h =
    let p = and-true (leb 3 (length bs)) (leb 3 (stated bs) && leb (stated bs) (length bs)) h in
    let q = and-true (leb 3 (stated bs)) (leb (stated bs) (length bs)) p.1 in
    (leb-true _ _ p.0, leb-true _ _ q.0, leb-true _ _ q.1)

pub starts_framed : (bs : List ℕ) (r : Record) (rest : List ℕ) → Starts bs (layout r) rest → framed bs ≡ true
starts_framed bs r rest h =
    let n = starts_stated bs r rest h in
    let l = starts_length bs (layout r) rest h in
    simp (le-leb 3 (length bs) (omega arith), le-leb 3 (stated bs) (omega arith), le-leb (stated bs) (length bs) (omega arith))

-- rule 7: the identifier of a record is known
id_known : (r : Record) → known (id_of (element_of r)) ≡ true
id_known (digital d) = refl
id_known (analogue a) = refl
id_known (fan f) = refl
id_known (led l) = refl
id_known (water w) = refl
id_known (pump f) = refl
id_known (voltage v) = refl
id_known (current c) = refl
id_known (controller d bs) = refl
id_known (tachometer d a b) = refl
id_known (zone bytes) = refl
id_known (string bytes) = refl
id_known (external x r g b) = refl
id_known (rgb r) = refl

starts_known : (bs : List ℕ) (r : Record) (rest : List ℕ) → Starts bs (layout r) rest → known (byte bs 0) ≡ true
starts_known bs r rest h = rw (starts_over bs (layout r) rest h).0 (id_known r)

-- what a step's outcome says of the bytes
abbrev pub Meets : Settings → List Record → List ℕ → Outcome → Type 0
Meets s before bs (took r) =
    (length before < 96) × (element_breaks s before r ≡ none) × Starts bs (layout r) (drop (stated bs) bs)
Meets s before bs (stop k) = Breaks s before bs k

judge_meets :
    (s : Settings) (before : List Record) (bs : List ℕ)
    → framed bs ≡ true
    → length before < 96
    → known (byte bs 0) ≡ true
    → (o : Option Record)
    → decode s.chip (byte bs 0) (content bs) ≡ o
    → StandsIf s.chip bs o
    → Meets s before bs (judge s before o)
judge_meets s before bs fr few kn none d h = unlaid fr few kn λ r st. none_stands (stands_decoded s.chip bs r st)
  where
    none_stands : {r : Record} → decode s.chip (byte bs 0) (content bs) ≡ some r → ⊥
    none_stands e = let z : ◌≡◌ {A = ℕ} 0 1 = cc in omega arith
judge_meets s before bs fr few kn (some r) d h = go (element_breaks s before r) refl
  where
    go : (o : Option ℕ) → element_breaks s before r ≡ o → Meets s before bs (unless_broken r o)
    go none e = (few, e, rw (starts_next bs r h.rest h.starts) at h.starts)
    go (some k) e = faulty r few h e

pub step_meets : (s : Settings) (before : List Record) (bs : List ℕ) → Bytes bs → 0 < length bs → Meets s before bs (step s before bs)
step_meets s before bs small more =
    step_by s before bs (Meets s before bs) (header more) crowded unknown
    (λ fr few kn.
    let f = framed_facts bs fr in
    judge_meets s before bs fr few kn (decode s.chip (byte bs 0) (content bs)) refl (decoded_stands s.chip bs small f.1 f.2))

-- a record that stands there and breaks no rule is taken
pub step_took :
    (s : Settings) (before : List Record) (bs : List ℕ) (r : Record) (rest : List ℕ)
    → length before < 96
    → element_breaks s before r ≡ none
    → Starts bs (layout r) rest
    → step s before bs ≡ took r
step_took s before bs r rest few e h =
    let d = stands_decoded s.chip bs r (record { rest = rest; starts = h; kind = unbroken_kind s before r e }) in
    by_identifier s before bs (starts_framed bs r rest h) few ∙ simp (starts_known bs r rest h, d, e)

-- what breaks a rule is answered by its number
pub step_stop : (s : Settings) (before : List Record) (bs : List ℕ) {k : ℕ} → Bytes bs → Breaks s before bs k → step s before bs ≡ stop k
step_stop s before bs small (header more fr) = unframed s before bs fr
step_stop s before bs small (crowded fr many) = crowded_out s before bs fr many
step_stop s before bs small (unknown fr few kn) = by_identifier s before bs fr few ∙ simp kn
step_stop s before bs small (unlaid fr few kn nothing) =
    let f = framed_facts bs fr in
    by_identifier s before bs fr few
    ∙ simp kn (go (decode s.chip (byte bs 0) (content bs)) (decoded_stands s.chip bs small f.1 f.2))
  where
    go : (o : Option Record) → StandsIf s.chip bs o → judge s before o ≡ stop 8
    go none h = refl
    go (some r) h = absurd (nothing r h)
step_stop s before bs small (faulty r few h e) =
    by_identifier s before bs (starts_framed bs r h.rest h.starts) few
    ∙ simp (starts_known bs r h.rest h.starts, stands_decoded s.chip bs r h, e)

pub breaks_more : (s : Settings) (before : List Record) (bs : List ℕ) {k : ℕ} → Breaks s before bs k → 0 < length bs
breaks_more s before bs (header more fr) = more
breaks_more s before bs (crowded fr many) = omega (arith, framed_facts bs fr)
breaks_more s before bs (unknown fr few kn) = omega (arith, framed_facts bs fr)
breaks_more s before bs (unlaid fr few kn nothing) = omega (arith, framed_facts bs fr)
breaks_more s before bs (faulty r few h e) = omega (arith, starts_length bs (layout r) h.rest h.starts)
