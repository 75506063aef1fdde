-- The pins that a record's claims name are the three shared ones and the three of its own, one case a kind; so to enter these is to enter
-- its claims. The same of the description.
-- Assumes nothing.
use Prim.Native.Nat.{ℕ}
use mathlib.Core.Path.{◌≡◌, refl, sym, ◌∙◌, ap, subst}
use mathlib.Core.Bool.{Bool, true, false, ◌||◌, not, or-false, or_assoc}
use mathlib.Core.List.{List, [], ◌∷◌, ◌++◌, append-nil}
use lib.Dec.{eqb}
use borrow.Author.Tests.{eqb-true, not-true}
use Rattle.format.specs.Slots.{byte}
use Rattle.format.specs.Records.{Record, digital, analogue, fan, led, water, pump, voltage, current, controller, tachometer, zone, string}
use Rattle.format.specs.Records.{external, rgb, element_of}
use Rattle.format.specs.Layout.{optional_byte, id_of}
use Rattle.format.specs.Pins.{among, every}
use Rattle.format.specs.Rules.{selected, pinned}
use Rattle.format.specs.Claims.{Claim, claim, alone, Made, made_at, own, own_used, on_bus, reference, of_motor, claims_of, first_claims}
use Rattle.format.specs.Decode.{pick_pin, pin_of, optional_of, read_description}
use Rattle.format.specs.declared.pins.Chip.{Chip}
use Rattle.format.specs.declared.pins.Pin.{Pin}
use Rattle.std.specs.Prelude.{Option}
use Rattle.format.specs.declared.pins.Pin.{Pin}
use Rattle.std.specs.Prelude.{None, Some}
use Rattle.format.specs.declared.pins.Use.TheVariants.{ChipSelect}
use Rattle.format.specs.declared.records.Address.{Address}
use Rattle.format.specs.declared.records.Address.TheVariants.{Bus, Select}
use Rattle.format.specs.declared.records.PwmFan.{PwmFan}
use Rattle.format.specs.declared.records.Element.{Element}
use Rattle.format.proofs.Kept.{allowed_used}
use Rattle.claims.proofs.Sets.{at_among}
use Rattle.claims.proofs.Tests.{taut2, taut3, taut4}
use Rattle.shown.specs.Own.{three, no_pins, select_of, fan_pins, own_pins}
use Rattle.shown.specs.declared.OwnPins.{OwnPins}
use Rattle.pinsheet.specs.Sheet.{Claimant, entered, blank, sheet}
use Rattle.pinsheet.proofs.Sheet.{entered_append, sheet_entered}
use Rattle.sheets.specs.Lines.{read, Lines}
use Rattle.sheets.specs.Named.{is_one, by_pins, bus_pins, shared_pins}
use Rattle.sheets.proofs.Entering.{named, entered_same, is_one_lem}

named_append : (p : ℕ) (cs ds : List Claim) → among p (named (cs ++ ds)) ≡ among p (named cs) || among p (named ds)
named_append p [] ds = refl
named_append p (c ∷ cs) ds =
    rw (named_append p cs ds) (sym (or_assoc (eqb p c.pin) (among p (named cs)) (among p (named ds))))

module _ (p : ℕ) (pin : among p every ≡ true) where
  -- FFh is no pin
  none : eqb p 0xff ≡ false
  none = not-true (eqb p 0xff) (at_among every (λ q. not (eqb q 0xff)) refl p pin)

  used : (o : Option Pin) → among p (named (own_used o)) ≡ eqb p (optional_byte o)
  used None = sym none
  used (Some q) = or-false (eqb p q.0)

  three_used :
      (a b c : Option Pin)
      → among p (named (own_used a ++ own_used b ++ own_used c)) ≡ is_one p (three (optional_byte a) (optional_byte b) (optional_byte c))
  three_used a b c =
      rw (named_append p (own_used a ++ own_used b) (own_used c), named_append p (own_used a) (own_used b), used a, used b, used c)
      (or_assoc (eqb p (optional_byte a)) (eqb p (optional_byte b)) (eqb p (optional_byte c)))

  -- by three shared pins and three of its own
  abbrev By : List Claim → OwnPins → OwnPins → Type 0
  By cs s o = among p (named cs) ≡ is_one p s || is_one p o

  on_bus_lem : (c : Chip) (a : Address) → selected c a ≡ true → By (on_bus a) (bus_pins (select_of a)) (three (select_of a) 0xff 0xff)
  on_bus_lem c (Bus a) h =
      rw none
      (taut2 (λ x y. x || (y || false)) (λ x y. (x || (y || false)) || (false || (false || false))) refl (eqb p 0x03) (eqb p 0x04))
  on_bus_lem c (Select q) h =
      rw (not-true (eqb q.0 0xff) (allowed_used c ChipSelect q h), none)
      (taut4
      (λ x y z w. x || (y || (z || (w || false))))
      (λ x y z w. (x || (y || z)) || (w || (false || false)))
      refl (eqb p 0x00) (eqb p 0x01) (eqb p 0x02) (eqb p q.0))

  sensor : (q : Pin) → By (reference ∷ own q ∷ []) (three 0x07 0xff 0xff) (three q.0 0xff 0xff)
  sensor q =
      rw none
      (taut2 (λ x y. x || (y || false)) (λ x y. (x || (false || false)) || (y || (false || false))) refl (eqb p 0x07) (eqb p q.0))

  motor : (f : PwmFan) → By (of_motor f) no_pins (fan_pins f)
  motor f =
      rw (used f.tachometer, none)
      (taut2 (λ x y. x || y) (λ x y. false || (x || (y || false))) refl (eqb p f.pwm.0) (eqb p (optional_byte f.tachometer)))

  -- what stands beside no shared pin
  alone_by : (o : OwnPins) → is_one p no_pins || is_one p o ≡ is_one p o
  alone_by o = rw none refl

  by_pins_lem :
      (c : Chip) (x : Record)
      → pinned c x ≡ true
      → By (claims_of x) (shared_pins (id_of (element_of x)) (own_pins (element_of x)).one) (own_pins (element_of x))
  by_pins_lem c (digital d) h = on_bus_lem c d.address h
  by_pins_lem c (analogue a) h = sensor a.pin
  by_pins_lem c (fan f) h = motor f
  by_pins_lem c (led l) h = three_used l.one.pin l.two.pin l.three.pin ∙ sym (alone_by _)
  by_pins_lem c (water w) h = sensor w.pin
  by_pins_lem c (pump f) h = motor f
  by_pins_lem c (voltage v) h = sensor v.pin
  by_pins_lem c (current x) h = sensor x.pin
  by_pins_lem c (controller d bs) h = on_bus_lem c d.address h
  by_pins_lem c (tachometer d a b) h = on_bus_lem c d.address h
  by_pins_lem c (zone bytes) h = rw none refl
  by_pins_lem c (string bytes) h = rw none refl
  by_pins_lem c (external x r g b) h = on_bus_lem c x.device.address h
  by_pins_lem c (rgb r) h =
      rw none
      (taut3 (λ x y z. x || (y || (z || false))) (λ x y z. false || (x || (y || z))) refl
      (eqb p r.red.0) (eqb p r.green.0) (eqb p r.blue.0))

-- entered one after the other
pub entered_both :
    (c : Chip) (x : Record) (at : ℕ) (s o : OwnPins) (old : List Claimant)
    → pinned c x ≡ true
    → s ≡ shared_pins (id_of (element_of x)) (own_pins (element_of x)).one
    → o ≡ own_pins (element_of x)
    → entered every (made_at at (by_pins o)) (entered every (made_at at (by_pins s)) old) ≡ entered every (made_at at (claims_of x)) old
entered_both c x at s o old h es eo =
    sym (entered_append every (made_at at (by_pins s)) (made_at at (by_pins o)) old)
    ∙ entered_same every at (by_pins s ++ by_pins o) (claims_of x) old
    (λ p m.
    named_append p (by_pins s) (by_pins o)
    ∙ rw (is_one_lem p s, is_one_lem p o, es, eo) (sym (by_pins_lem p m c x h)))

-- no pins
pub no_pins_lem : (at : ℕ) (old : List Claimant) → entered every (made_at at (by_pins no_pins)) old ≡ entered every [] old
no_pins_lem at old = entered_same every at (by_pins no_pins) [] old (λ p m. is_one_lem p no_pins ∙ rw (none p m) refl)

-- the description: what the fault LED claims is the fault LED's already
optional_byte_lem : (c : Chip) (b : ℕ) → optional_byte (optional_of c b) ≡ b
optional_byte_lem c b = go (eqb b 0xff) refl
  where
    go : (t : Bool) → eqb b 0xff ≡ t → optional_byte (pick_pin t (pin_of c b)) ≡ b
    go true e = sym (eqb-true b 0xff e)
    go false e = refl

fault_entered : entered every (made_at 0 (claim alone 0x10 ∷ [])) (blank every) ≡ blank every
fault_entered = refl

pub description_entered :
    (c : Chip) (t : List ℕ)
    → entered every (made_at 0 (by_pins (three (byte t 9) (byte t 10) (byte t 11)))) (blank every) ≡ sheet (read_description c (byte t)) []
description_entered c t =
    let d = read_description c (byte t) in
    let straps = own_used d.revision0 ++ own_used d.revision1 ++ own_used d.revision2 in
    let pins = three (byte t 9) (byte t 10) (byte t 11) in
    entered_same every 0 (by_pins pins) straps (blank every)
    (λ p m.
    is_one_lem p pins
    ∙ sym (three_used p m d.revision0 d.revision1 d.revision2
    ∙ rw (optional_byte_lem c (byte t 9), optional_byte_lem c (byte t 10), optional_byte_lem c (byte t 11)) refl))
    ∙ ap (λ (o : List Claimant). entered every (made_at 0 straps) o) (sym fault_entered)
    ∙ sym (entered_append every (made_at 0 (claim alone 0x10 ∷ [])) (made_at 0 straps) (blank every))
    ∙ ap (λ (l : List Made). entered every l (blank every)) (sym (append-nil (made_at 0 (first_claims d))))
    ∙ sym (sheet_entered d [])

-- of the numbers that are left
pub lines_by : {a b : List Claimant} {ns : List ℕ} → a ≡ b → Lines a ns → Lines b ns
lines_by {ns = ns} e l = subst (λ (s : List Claimant). Lines s ns) e l

pub first_lines :
    (c : Chip) (t mid new : List ℕ) {pins : OwnPins}
    → pins ≡ three (byte t 9) (byte t 10) (byte t 11)
    → read mid ≡ blank every
    → Lines (entered every (made_at 0 (by_pins pins)) (read mid)) new
    → Lines (sheet (read_description c (byte t)) []) new
first_lines c t mid new {pins} e b l =
    lines_by
    (ap (λ (o : List Claimant). entered every (made_at 0 (by_pins pins)) o) b
    ∙ ap (λ (p : OwnPins). entered every (made_at 0 (by_pins p)) (blank every)) e
    ∙ description_entered c t)
    l

pub both_lines :
    (c : Chip) (x : Record) (at : ℕ) (old mid new : List ℕ) {e : Element} {id : ℕ} {s o : OwnPins}
    → pinned c x ≡ true
    → e ≡ element_of x
    → id ≡ id_of e
    → o ≡ own_pins e
    → s ≡ shared_pins id o.one
    → Lines (entered every (made_at at (by_pins s)) (read old)) mid
    → Lines (entered every (made_at at (by_pins o)) (read mid)) new
    → Lines (entered every (made_at at (claims_of x)) (read old)) new
both_lines c x at old mid new {e} {id} {s} {o} h q i p r first second =
    let own : o ≡ own_pins (element_of x) = p ∙ ap own_pins q in
    let shared : s ≡ shared_pins (id_of (element_of x)) (own_pins (element_of x)).one =
    r ∙ ap (λ (n : ℕ). shared_pins n o.one) (i ∙ ap id_of q) ∙ ap (λ (y : OwnPins). shared_pins (id_of (element_of x)) y.one) own in
    lines_by
    (ap (λ (y : List Claimant). entered every (made_at at (by_pins o)) y) first.lines ∙ entered_both c x at s o (read old) h shared own)
    second
