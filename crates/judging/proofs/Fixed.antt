-- The fixed bytes of an element are among the first 30, which are kept; and its text, where it ends.
-- Assumes nothing.
use Prim.Native.Nat.{ℕ, ◌+◌, ◌%◌, ◌<◌, ◌≤◌}
use native.Mathlib.Omega.{arith}
use mathlib.Core.Path.{◌≡◌, refl, sym, ◌∙◌, ap, subst}
use mathlib.Core.Bool.{Bool, true, false, ◌&&◌, not}
use mathlib.Core.List.{List, [], append-nil}
use lib.ListN.{length, take, drop, length-drop}
use lib.Seq.{get_or-take, get_or-drop, drop-drop}
use lib.Dec.{eqb, ltb, leb}
use borrow.Author.Tests.{ltb-true, ltb-false, le-ltb, lt-ltb, leb-true, leb-false}
use Rattle.format.specs.Slots.{byte}
use Rattle.format.specs.Utf16.{units, paired, well_formed}
use Rattle.format.specs.Decode.{read_device}
use Rattle.format.specs.Pins.{among}
use Rattle.format.specs.Rules.{chip_identifiers}
use Rattle.format.specs.declared.pins.Chip.{Chip}
use Rattle.format.specs.declared.settings.Settings.{Settings}
use Rattle.blocks.specs.declared.Part.{Part}
use Rattle.found.specs.Judged.{Judged, DeviceFound}
use Rattle.found.specs.Judged.{Finding}
use Rattle.found.proofs.Judging.{controller_short, controller_judged, tachometer_short, tachometer_judged, external_short, external_judged}
use Rattle.rules.proofs.Units.{all_units}
use Rattle.underway.specs.Under.{is_good, is_high, whole_units, Holds, UnderIs}
use Rattle.underway.specs.declared.Under.{Under}
use Rattle.judging.specs.Whole.{SpeedIs, PairsIs, DeviceIs}

-- a device has no more than its first seven bytes after the header
same_device : (c : Chip) (f g : ℕ → ℕ) → ((i : ℕ) → i < 7 → f i ≡ g i) → read_device c f ≡ read_device c g
same_device c f g h =
    rw (
      h 0 (omega arith),
      h 1 (omega arith),
      h 2 (omega arith),
      h 3 (omega arith),
      h 4 (omega arith),
      h 5 (omega arith),
      h 6 (omega arith),
    ) refl

-- a byte after the header, as it is kept and as it came
pub after_header :
    (head v : List ℕ)
    → Holds head v
    → (i : ℕ)
    → i < 27
    → i + 3 < length v
    → byte (take 27 (drop 3 head)) i ≡ byte (drop 3 v) i
after_header head v h i a b =
    get_or-take 27 (drop 3 head) i 0 a ∙ get_or-drop 3 head i 0 ∙ h.same (3 + i) (omega arith) (omega arith) ∙ sym (get_or-drop 3 v i 0)

module _ (s : Settings) (u : Under) (head : List ℕ) (part : Part) (r : Finding)
    (f : DeviceFound s (read_device s.chip (byte (take 27 (drop 3 head)))) part r)
  where
    found_of : (v : List ℕ) → UnderIs u head v → 10 < length v → DeviceFound s (read_device s.chip (byte (drop 3 v))) part r
    found_of v w l =
        subst (λ d. DeviceFound s d part r)
        (same_device s.chip (byte (take 27 (drop 3 head))) (byte (drop 3 v))
        (λ i h. after_header head v w.held i (omega arith) (omega arith))) f

    pub controller_is : SpeedIs u part → DeviceIs s 9 u head r
    controller_is k = record { judged = λ v w e. go v w e (ltb 10 (length v)) refl }
      where
        go : (v : List ℕ) → UnderIs u head v → byte v 0 ≡ 9 → (t : Bool) → ltb 10 (length v) ≡ t → Judged s 9 (drop 3 v) r
        go v w e true q =
            let l = ltb-true 10 (length v) q in
            controller_judged s (drop 3 v) r part (found_of v w l) (omega (arith, length-drop 3 v))
            (rw (drop-drop 8 3 v) (k.says v w.long (λ m. rw e at (w.cut (rw e (λ z. omega (arith, z))) m))))
        go v w e false q =
            let l = ltb-false 10 (length v) q in
            controller_short s (drop 3 v) r (omega (arith, length-drop 3 v)) (f.misshapen (k.short (omega (arith, w.long))))

    pub tachometer_is : PairsIs 2 u part → DeviceIs s 10 u head r
    tachometer_is k = record { judged = λ v w e. go v w e (ltb 11 (length v)) refl }
      where
        go : (v : List ℕ) → UnderIs u head v → byte v 0 ≡ 10 → (t : Bool) → ltb 11 (length v) ≡ t → Judged s 10 (drop 3 v) r
        go v w e true q =
            let l = ltb-true 11 (length v) q in
            tachometer_judged s (drop 3 v) r part (found_of v w (omega arith)) (omega (arith, length-drop 3 v))
            (rw (drop-drop 9 3 v) (k.says v w.long (λ m. rw e at (w.cut (rw e (λ z. omega (arith, z))) m))))
        go v w e false q =
            let l = ltb-false 11 (length v) q in
            tachometer_short s (drop 3 v) r (omega (arith, length-drop 3 v)) (f.misshapen (k.short (omega (arith, w.long))))

    pub external_is :
        (b : Part) → PairsIs 3 u b → part.whole ≡ b.whole → part.full ≡ among (byte head 11) chip_identifiers → DeviceIs s 13 u head r
    external_is b k p i = record { judged = λ v w e. go v w e (ltb 11 (length v)) refl }
      where
        go : (v : List ℕ) → UnderIs u head v → byte v 0 ≡ 13 → (t : Bool) → ltb 11 (length v) ≡ t → Judged s 13 (drop 3 v) r
        go v w e true q =
            let l = ltb-true 11 (length v) q in
            external_judged s (drop 3 v) r part (found_of v w (omega arith)) (omega (arith, length-drop 3 v))
            (p ∙ rw (drop-drop 9 3 v) (k.says v w.long (λ m. rw e at (w.cut (rw e (λ z. omega (arith, z))) m))).0)
            (i ∙ ap (λ (x : ℕ). among x chip_identifiers) (w.held.same 11 (omega arith) l ∙ sym (get_or-drop 3 v 8 0)))
        go v w e false q =
            let l = ltb-false 11 (length v) q in
            external_short s (drop 3 v) r (omega (arith, length-drop 3 v)) (f.misshapen (p ∙ k.short (omega (arith, w.long))))

-- a text where it ends
under_two : (m : ℕ) → ltb m 2 ≡ not (leb 2 m)
under_two m = go (leb 2 m) refl
  where
    go : (t : Bool) → leb 2 m ≡ t → ltb m 2 ≡ not t
    go true e = le-ltb m 2 (leb-true 2 m e)
    go false e = lt-ltb m 2 (leb-false 2 m e)

pub text_ended :
    (u : Under) (head v : List ℕ)
    → UnderIs u head v
    → byte v 0 ≡ 12
    → 6 ≤ u.len
    → eqb (u.len % 2) 0 && (eqb (u.mark % 2) 0 && ltb u.mark 2) ≡ well_formed (drop 3 (drop 3 v))
text_ended u head v w e l =
    let n = length-drop 6 v in
    let k = w.long in
    let t = w.text e (omega arith) [] (rw (append-nil v) w.bytes) in
    let x : paired (units (drop 6 v)) ≡ is_good u.mark && not (is_high u.mark) =
    sym (rw (append-nil v) at t) ∙ sym (all_units (drop 6 v) (whole_units v) (is_good u.mark) (is_high u.mark) (omega arith)) in
    let y : u.len % 2 ≡ length (drop 6 v) % 2 = omega arith in
    rw (drop-drop 3 3 v, x, under_two u.mark, y) refl
