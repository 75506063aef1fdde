-- What sets of pins say of a list of claims.
-- Assumes nothing.
use Rattle.std.specs.Prelude.{ℕ, ◌^◌, ◌<◌, ◌≡◌, Bool, true, false, ◌&&◌, not, List, [], ◌∷◌, ◌++◌, eqb, ltb}
use Rattle.std.proofs.Math.Option.{Option, none, some}
use Rattle.format.specs.Pins.{among, every, listed}
use Rattle.format.specs.Claims.{Manner, shared, select, alone, Claim, clashes, Made, first_clash, own_used}
use Rattle.std.specs.Prelude.{Option as Optional}
use Rattle.format.specs.declared.pins.Pin.{Pin}
use Rattle.std.specs.Prelude.{None, Some}
use Rattle.format.specs.declared.pins.Use.TheVariants.{ChipSelect}
use Rattle.pinsets.specs.Sets.{pin_index, has_bit}
use Rattle.claims.specs.declared.Claims.{Claims}
use Rattle.claims.specs.declared.Held.{Held}

-- a word is the set of the pins of a list: pin i of the 25 in bit i
pub record IsSet (w : ℕ) (pins : List ℕ) : Type 0 where
  pub small : w < 2 ^ 25
  pub bits : (p : ℕ) → among p every ≡ true → has_bit w (pin_index p) ≡ among p pins

-- the pins that are claimed alone, and those that are claimed jointly: shared pins and chip selects
abbrev pub is_alone : Manner → Bool
is_alone shared = false
is_alone select = false
is_alone alone = true

abbrev pub add_if : Bool → ℕ → List ℕ → List ℕ
add_if true p ps = p ∷ ps
add_if false p ps = ps

abbrev pub alone_pins : List Claim → List ℕ
alone_pins [] = []
alone_pins (c ∷ cs) = add_if (is_alone c.manner) c.pin (alone_pins cs)

abbrev pub joint_pins : List Claim → List ℕ
joint_pins [] = []
joint_pins (c ∷ cs) = add_if (not (is_alone c.manner)) c.pin (joint_pins cs)

-- the pin of a place that may be unused, and whether it is one of the 25
abbrev pub used_pin : Optional Pin → List ℕ
used_pin None = []
used_pin (Some p) = p.0 ∷ []

abbrev pub on_pin : Optional Pin → Bool
on_pin None = true
on_pin (Some p) = among p.0 every

-- three such places, and the claims on them
abbrev pub on_pins : Optional Pin → Optional Pin → Optional Pin → Bool
on_pins p q r = on_pin p && (on_pin q && on_pin r)

abbrev pub own_three : Optional Pin → Optional Pin → Optional Pin → List Claim
own_three p q r = own_used p ++ own_used q ++ own_used r

-- claims as records that keep 10 make them: the shared pins and those that may be a chip select are apart, all pins exist
abbrev pub pins_of : Manner → List ℕ
pins_of shared = 0x00 ∷ 0x01 ∷ 0x02 ∷ 0x03 ∷ 0x04 ∷ 0x07 ∷ []
pins_of select = listed ChipSelect
pins_of alone = every

abbrev pub proper : List Claim → Bool
proper [] = true
proper (c ∷ cs) = among c.pin (pins_of c.manner) && proper cs

-- none of these claims clashes with an earlier one
abbrev pub free : List Claim → List Claim → Bool
free earlier [] = true
free earlier (c ∷ cs) = not (clashes c earlier) && free (c ∷ earlier) cs

abbrev pub is_none : Option ℕ → Bool
is_none none = true
is_none (some p) = false

-- one element's claims, and whether they clash among themselves
pub record ClaimsAre (r : Claims) (cs : List Claim) : Type 0 where
  pub alone_set : IsSet r.alone (alone_pins cs)
  pub joint_set : IsSet r.joint (joint_pins cs)
  pub among_themselves : eqb r.twice 0 ≡ free [] cs
  pub are_proper : proper cs ≡ true

-- the place of the first clash; 65,536 where there is none, which no place is
abbrev pub place_or : Option ℕ → ℕ
place_or none = 65536
place_or (some p) = p

abbrev pub low_places : List Made → Bool
low_places [] = true
low_places (m ∷ ms) = ltb m.place 65536 && low_places ms

-- what is claimed, without the places
abbrev pub whats : List Made → List Claim
whats [] = []
whats (m ∷ ms) = m.what ∷ whats ms

-- all claims so far
pub record HeldIs (h : Held) (ms : List Made) : Type 0 where
  pub alone_set : IsSet h.alone (alone_pins (whats ms))
  pub joint_set : IsSet h.joint (joint_pins (whats ms))
  pub clash_at : h.clash ≡ place_or (first_clash [] ms)
  pub are_proper : proper (whats ms) ≡ true
  pub low : low_places ms ≡ true
