-- A bare table breaks no rule and has no element.
-- Assumes nothing.
use Prim.Native.Nat.{ℕ}
use native.Mathlib.Omega.{arith}
use mathlib.Core.Path.{◌≡◌, refl, sym, ◌∙◌, ap}
use mathlib.Core.Bool.{Bool, true, ◌&&◌, false≢true}
use mathlib.Core.List.{List, []}
use mathlib.Core.Option.{Option, none}
use lib.ListN.{length, length-drop}
use lib.Dec.{eqb}
use borrow.Author.Tests.{eqb-true}
use Rattle.format.specs.Slots.{byte}
use Rattle.format.specs.Rules.{typed, powered}
use Rattle.format.specs.Pins.{unused, allowed_or_unused}
use Rattle.format.specs.Table.{description_breaks}
use Rattle.format.specs.Verdict.{stated}
use Rattle.format.specs.Decode.{read_description}
use Rattle.format.specs.Reader.{through, pass, elements_of, conclude, over_all, unless_misdescribed, verdict_of}
use Rattle.format.specs.declared.records.Description.{Description}
use Rattle.format.specs.Answers.{Gives as Accepted}
use Rattle.format.proofs.Kept.{and-true, kept_description}
use Rattle.reader.specs.Bare.{plain, bare_table}
use Rattle.reader.proofs.Reading.{answer_on}
use Rattle.format.specs.declared.pins.Chip.{Chip}
use Rattle.format.specs.declared.settings.Settings.{Settings}
use Rattle.format.specs.declared.pins.Use.{Use}
use Rattle.format.specs.declared.pins.Use.TheVariants.{HardwareRevision}
use Rattle.std.specs.Prelude.{Option as Optional}
use Rattle.format.specs.declared.pins.Pin.{Pin}
use Rattle.std.specs.Prelude.{None, Some}
use Rattle.format.specs.Claims.{own_used}

six : (a b c d e f : Bool) → a && b && c && d && e && f ≡ true → (a ≡ true) × (b ≡ true) × (c ≡ true) × (d ≡ true) × (e ≡ true) × (f ≡ true)
six a b c d e f h =
    let p = and-true (a && b && c && d && e) f h in
    let q = and-true (a && b && c && d) e p.0 in
    let r = and-true (a && b && c) d q.0 in
    let s = and-true (a && b) c r.0 in
    let t = and-true a b s.0 in
    (t.0, t.1, s.1, r.1, q.1, p.1)

-- an unused place is allowed, and claims nothing
unused_allowed : (c : Chip) (u : Use) (p : Optional Pin) → unused p ≡ true → allowed_or_unused c u p ≡ true
unused_allowed c u None h = refl
unused_allowed c u (Some p) h = absurd (false≢true h)

unused_none : (p : Optional Pin) → unused p ≡ true → own_used p ≡ []
unused_none None h = refl
unused_none (Some p) h = absurd (false≢true h)

-- a plain description breaks no rule, names no string, and leaves the fault LED's claim the only one
module _ (d : Description) (h : plain d ≡ true) where
  tests :
      (eqb d.string 0 ≡ true)
      × (typed d ≡ true)
      × (powered d ≡ true)
      × (unused d.revision0 ≡ true)
      × (unused d.revision1 ≡ true)
      × (unused d.revision2 ≡ true)
  tests = six (eqb d.string 0) (typed d) (powered d) (unused d.revision0) (unused d.revision1) (unused d.revision2) h

  plain_keeps : (c : Chip) → description_breaks c d ≡ none
  plain_keeps c =
      let u = unused_allowed c HardwareRevision in
      kept_description c d
      (record {
        type_4 = tests.1;
        power_5 = tests.2;
        pins_10 = rw (u d.revision0 tests.3, u d.revision1 tests.4, u d.revision2 tests.5) refl;
      })

  plain_accepted : over_all d [] ≡ Accepted 0
  plain_accepted =
      rw (tests.0, unused_none d.revision0 tests.3, unused_none d.revision1 tests.4, unused_none d.revision2 tests.5)
      refl

-- no bytes after the description
nothing_after : (σ : Settings) (t : List ℕ) → length t ≡ 16 → elements_of σ t ≡ through []
unfolding pass
nothing_after σ t h = rw (length-drop 16 t, h) refl

pub bare_accepted : (σ : Settings) (t : List ℕ) → bare_table σ.chip t ≡ true → Accepted 0 ≡ verdict_of σ t
bare_accepted σ t h =
    let d = read_description σ.chip (byte t) in
    let p = and-true (eqb (length t) 16) (eqb (byte t 0) 1 && eqb (stated t) 16 && plain d) h in
    let q = and-true (eqb (byte t 0) 1 && eqb (stated t) 16) (plain d) p.1 in
    let r = and-true (eqb (byte t 0) 1) (eqb (stated t) 16) q.0 in
    let n = eqb-true (length t) 16 p.0 in
    let m = eqb-true (stated t) 16 r.1 in
    sym
    (ap (λ (o : Option ℕ). unless_misdescribed o (conclude d (elements_of σ t))) (plain_keeps d q.1 σ.chip)
    ∙ ap (conclude d) (nothing_after σ t n)
    ∙ plain_accepted d q.1)
    ∙ answer_on σ t (omega arith) (eqb-true (byte t 0) 1 r.0) (omega arith) (omega arith)
