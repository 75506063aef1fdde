-- From what the code finds of one kind to what is to be found: no record is there, or the one that is decoded is judged.
-- Assumes nothing.
use Prim.Native.Nat.{ℕ, ◌-◌, ◌<◌, ◌≤◌}
use native.Mathlib.Omega.{arith}
use mathlib.Core.Path.{◌≡◌, refl, sym, ◌∙◌, ap, subst}
use mathlib.Core.Bool.{true, false, false≢true, and-false}
use mathlib.Core.List.{List}
use mathlib.Core.Option.{Option, none, some}
use lib.ListN.{length, take, drop, length-drop}
use lib.Seq.{take_all}
use lib.Dec.{eqb, leb}
use borrow.Author.Tests.{eq-eqb, ne_eqb, le-leb, lt-leb, leb-true}
use Rattle.format.specs.Slots.{byte}
use Rattle.format.specs.Pins.{among}
use Rattle.format.specs.Records.{Record, controller, tachometer, external}
use Rattle.format.specs.Rules.{numbered, own_rules, pinned, chip_identifiers}
use Rattle.format.specs.FanList.{fan_pins}
use Rattle.format.specs.Decode.{external_of, decode, guard, bind, read_device, read_external, cut_blocks, cut_two, cut_three}
use Rattle.format.specs.declared.settings.Settings.{Settings}
use Rattle.format.specs.declared.records.BusDevice.{BusDevice}
use Rattle.format.proofs.Kept.{own_numbered, zero_none, own_kept}
use Rattle.format.proofs.Broken.{miscoded}
use Rattle.rules.specs.Broken.{DeviceBreaks}
use Rattle.blocks.specs.Cutting.{is_some, exact, SpeedPart, PairsPart}
use Rattle.blocks.specs.declared.Part.{Part}
use Rattle.blocks.proofs.EachKind.{two, three}
use Rattle.blocks.proofs.Faults.{speed_fault, pairs_fault}
use Rattle.claims.specs.declared.Claims.{Claims}
use Rattle.found.specs.Judged.{own_fault, FansAre, Finding, Together, Judged, ClaimsOf, BusClaims, DeviceFound}
use Rattle.found.specs.declared.Fans.{Fans}
use Rattle.std.specs.Prelude.{Option as Optional, None, Result}
use Rattle.format.specs.Answers.{fault_of}
use Rattle.format.specs.declared.answers.Rule.{Rule}

-- a record that breaks no rule by itself keeps 10
own_pinned : (s : Settings) (x : Record) → own_fault s (some x) ≡ 0 → pinned s.chip x ≡ true
own_pinned s x h = (own_kept s x (zero_none (own_rules s x) (own_numbered s x) h)).pins_10

module _ (s : Settings) (id : ℕ) (c : List ℕ) (r : Finding) where
  -- no record is there
  pub none_there : decode s.chip id c ≡ none → r.fault ≡ 8 → Judged s id c r
  none_there d p =
      record {
        right = p ∙ sym (ap (own_fault s) d);
        long = λ e. absurd (omega (arith, p, e));
        claimed = λ e. absurd (omega (arith, p, e));
        counted = λ e. absurd (omega (arith, p, e));
      }

  -- a record is there: its fault is found, and where it has none its claims are made
  judged :
      (x : Record)
      → decode s.chip id c ≡ some x
      → 5 ≤ length c
      → r.fault ≡ own_fault s (some x)
      → (r.fault ≡ 0 → ClaimsOf x r.claims)
      → (r.fault ≡ 0 → FansAre r.fans (fan_pins x))
      → Judged s id c r
  judged x d l p f g =
      record {
        right = p ∙ sym (ap (own_fault s) d);
        long = λ n. l;
        claimed =
            λ n z w.
            let v : x ≡ z = cc in
            subst (λ (z : Record). ClaimsOf z r.claims) v (f n) s.chip (own_pinned s z (rw v at (sym p ∙ n)));
        counted = λ n z w. let v : x ≡ z = cc in subst (λ (z : Record). FansAre r.fans (fan_pins z)) v (g n);
      }

  -- a kind of a fixed length
  module _ {X : Type 0} (kind : X → Record) (read : (ℕ → ℕ) → X) (n : ℕ)
      (d : decode s.chip id c ≡ guard (eqb (length c) n) (some (kind (read (byte c))))) where
    pub wrong_length : (length c ≡ n → ⊥) → r.fault ≡ 8 → Judged s id c r
    wrong_length h p = none_there (d ∙ rw (ne_eqb (length c) n h) refl) p

    pub right_length :
        (x : X) {kept : Result (Unit {0}) Rule} {claims : Claims} {fans : Optional Fans}
        → length c ≡ n
        → leb 5 n ≡ true
        → x ≡ read (byte c)
        → fault_of kept ≡ own_fault s (some (kind x))
        → ClaimsOf (kind x) claims
        → FansAre fans (fan_pins (kind x))
        → Together kept claims fans r
        → Judged s id c r
    right_length x l m e p f g q =
        judged (kind x) (d ∙ rw (eq-eqb (length c) n l, ← e) refl) (omega (arith, leb-true 5 n m)) (q.fault ∙ p) (λ z. rw (q.claimed z) f)
        (λ z. rw (q.counted z) g)

  -- a device on a bus, by its fixed bytes and what its part says
  device_judged :
      {A : Type 0} (kind : A → Record) (o : Option A)
      → decode s.chip id c ≡ bind o (λ a. some (kind a))
      → 5 ≤ length c
      → r.fault ≡ own_fault s (bind o (λ a. some (kind a)))
      → (r.fault ≡ 0 → (a : A) → ClaimsOf (kind a) r.claims)
      → (r.fault ≡ 0 → (a : A) → FansAre r.fans (fan_pins (kind a)))
      → Judged s id c r
  device_judged kind none d l p f g = none_there d p
  device_judged kind (some a) d l p f g = judged (kind a) d l p (λ n. f n a) (λ n. g n a)

-- what is found of a device: 8 by its part, or what its fixed fields say
module _ (s : Settings) (d : BusDevice) (part : Part) (r : Finding) where
  pub found_8 : part.whole ≡ false → r.fault ≡ 8 → DeviceFound s d part r
  found_8 w p =
      record {
        misshapen = λ _. p;
        breaks = λ v. absurd (false≢true (sym w ∙ v));
        claimed = λ n. absurd (omega (arith, n, p));
        counted = λ n. absurd (omega (arith, n, p));
      }

  -- 9 by the part: after 8, and before all others
  pub found_9 : part.whole ≡ true → part.full ≡ false → r.fault ≡ 9 → DeviceFound s d part r
  found_9 w f p =
      record {
        misshapen = λ v. absurd (false≢true (sym v ∙ w));
        breaks =
            λ _. record {
              of_controller = λ bs h e. p ∙ sym (ap numbered (miscoded s (controller d bs) h (simp (e ∙ f, and-false))));
              of_tachometer = λ a b e. absurd (false≢true (sym f ∙ e));
              of_external = λ i a b c e. p
                  ∙ sym (ap numbered (miscoded s (external (external_of d i) a b c) refl (simp (e ∙ f, and-false))));
            };
        claimed = λ n. absurd (omega (arith, n, p));
        counted = λ n. absurd (omega (arith, n, p));
      }

  pub found_whole :
      (e : BusDevice) {kept : Result (Unit {0}) Rule} {claims : Claims} {fans : Optional Fans}
      → part.whole ≡ true
      → part.full ≡ true
      → e ≡ d
      → DeviceBreaks s e true (fault_of kept)
      → BusClaims e.address claims
      → fans ≡ None
      → Together kept claims fans r
      → DeviceFound s d part r
  found_whole e w u q b f g p =
      record {
        misshapen = λ v. absurd (false≢true (sym v ∙ w));
        breaks = λ _. rw (p.fault, u, ← q) b;
        claimed = λ z. rw (p.claimed z, ← q) f;
        counted = λ z. rw (p.counted z) g;
      }

-- the part of an element, as the code takes it
pub rest : (n : ℕ) (b : List ℕ) → take (length b - n) (drop n b) ≡ drop n b
rest n b = take_all (length b - n) (drop n b) (omega (arith, length-drop n b))

module _ (s : Settings) (c : List ℕ) (r : Finding) where
  -- with no room for the fixed bytes no record is there
  pub controller_short : length c < 8 → r.fault ≡ 8 → Judged s 9 c r
  unfolding decode
  controller_short h p = none_there s 9 c r (simp (lt-leb 8 (length c) h)) p

  pub tachometer_short : length c < 9 → r.fault ≡ 8 → Judged s 10 c r
  unfolding decode
  tachometer_short h p = none_there s 10 c r (simp (lt-leb 9 (length c) h)) p

  pub external_short : length c < 9 → r.fault ≡ 8 → Judged s 13 c r
  unfolding decode
  external_short h p = none_there s 13 c r (simp (lt-leb 9 (length c) h)) p

  module _ (part : Part) (f : DeviceFound s (read_device s.chip (byte c)) part r) where
    -- 09h
    pub controller_judged : 8 ≤ length c → SpeedPart (drop 8 c) part → Judged s 9 c r
    unfolding decode
    controller_judged h q =
        device_judged s 9 c r (λ l. controller (read_device s.chip (byte c)) l) (cut_blocks (length c) (drop 8 c))
        (simp (le-leb 8 (length c) h)) (omega arith)
        (speed_fault s part r.fault f.misshapen (read_device s.chip (byte c)) (cut_blocks (length c) (drop 8 c))
        (q (length c) (omega (arith, length-drop 8 c))) (λ w. (f.breaks w).of_controller))
        (λ n l. f.claimed n)
        (λ n l. f.counted n)

    -- 0Ah
    pub tachometer_judged : 9 ≤ length c → PairsPart 2 (drop 9 c) part → Judged s 10 c r
    unfolding decode
    tachometer_judged h e =
        device_judged s 10 c r (λ q. tachometer (read_device s.chip (byte c)) q.0 q.1) (cut_two (drop 9 c))
        (simp (le-leb 9 (length c) h)) (omega arith)
        (pairs_fault s part r.fault f.misshapen (λ q. tachometer (read_device s.chip (byte c)) q.0 q.1) (cut_two (drop 9 c))
        (e.0 ∙ two (drop 9 c)) (λ w q. (f.breaks w).of_tachometer q.0 q.1 e.1))
        (λ n q. f.claimed n)
        (λ n q. f.counted n)

    -- 0Dh
    pub external_judged :
        9 ≤ length c → part.whole ≡ is_some (exact 3 0 (drop 9 c)) → part.full ≡ among (byte c 8) chip_identifiers → Judged s 13 c r
    unfolding decode
    external_judged h e i =
        device_judged s 13 c r (λ q. external (read_external s.chip (byte c)) q.0 q.1 q.2) (cut_three (drop 9 c))
        (simp (le-leb 9 (length c) h)) (omega arith)
        (pairs_fault s part r.fault f.misshapen (λ q. external (read_external s.chip (byte c)) q.0 q.1 q.2)
        (cut_three (drop 9 c)) (e ∙ three (drop 9 c)) (λ w q. (f.breaks w).of_external (byte c 8) q.0 q.1 q.2 (sym i)))
        (λ n q. f.claimed n)
        (λ n q. f.counted n)
