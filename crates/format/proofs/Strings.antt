-- Which records are strings, by the element that they are of and by what they are to the others; and their text, which is
-- well-formed in an accepted table.
-- Assumes nothing.
use Prim.Native.Nat.{ℕ, zero, suc}
use native.Mathlib.Omega.{arith}
use mathlib.Core.Path.{◌≡◌, refl, sym, ◌∙◌, ap, subst}
use mathlib.Core.Bool.{true, not}
use mathlib.Core.List.{List, [], ◌∷◌, ◌++◌}
use mathlib.Core.Option.{some}
use lib.Dec.{eqb}
use Rattle.format.specs.Slots.{written}
use Rattle.format.specs.Records.{Record, digital, analogue, fan, led, water, pump, voltage, current, controller, tachometer, zone}
use Rattle.format.specs.Records.{string, external, rgb, element_of, string_number, text_of}
use Rattle.format.specs.Layout.{part}
use Rattle.format.specs.Utf16.{well_formed}
use Rattle.format.specs.Rules.{coded}
use Rattle.format.specs.ZonesAndStrings.{naming, role}
use Rattle.format.specs.Table.{PassKept}
use Rattle.format.specs.Asked.{nth, Gives, given, past, ungiven}
use Rattle.format.specs.declared.settings.Settings.{Settings}
use Rattle.format.specs.declared.records.Element.TheVariants.{Text}
use Rattle.format.specs.Answers.{Asked}
use Rattle.format.specs.Answers.{Gives as Element}
use Rattle.format.proofs.Kept.{and-true, OwnKept, own_kept, own_unbroken}
use Rattle.format.proofs.Whole.{written_whole}

-- a record is a string, or neither its element nor its role is one
data IfString (r : Record) : Type 0 where
  is_string_of : (bytes : List ℕ) → r ≡ string bytes → IfString r
  is_none : (element_of r ≡ Text → ⊥) → ((bytes : List ℕ) → role r ≡ naming bytes → ⊥) → IfString r

no : ◌≡◌ {A = ℕ} 0 1 → ⊥
no z = omega arith

if_string : (r : Record) → IfString r
if_string (digital d) = is_none (λ e. no (cc)) (λ bytes e. no (cc))
if_string (analogue a) = is_none (λ e. no (cc)) (λ bytes e. no (cc))
if_string (fan f) = is_none (λ e. no (cc)) (λ bytes e. no (cc))
if_string (led l) = is_none (λ e. no (cc)) (λ bytes e. no (cc))
if_string (water w) = is_none (λ e. no (cc)) (λ bytes e. no (cc))
if_string (pump p) = is_none (λ e. no (cc)) (λ bytes e. no (cc))
if_string (voltage v) = is_none (λ e. no (cc)) (λ bytes e. no (cc))
if_string (current c) = is_none (λ e. no (cc)) (λ bytes e. no (cc))
if_string (controller d bs) = is_none (λ e. no (cc)) (λ bytes e. no (cc))
if_string (tachometer d a b) = is_none (λ e. no (cc)) (λ bytes e. no (cc))
if_string (zone bytes) = is_none (λ e. no (cc)) (λ bytes e. no (cc))
if_string (string bytes) = is_string_of bytes refl
if_string (external d p q r) = is_none (λ e. no (cc)) (λ bytes e. no (cc))
if_string (rgb r) = is_none (λ e. no (cc)) (λ bytes e. no (cc))

pub naming_string : (r : Record) (bytes : List ℕ) → role r ≡ naming bytes → r ≡ string bytes
naming_string r bytes e = go (if_string r)
  where
    go : IfString r → r ≡ string bytes
    go (is_string_of b q) =
        let x : naming b ≡ naming bytes = sym (ap role q) ∙ e in
        let y : b ≡ bytes = cc in
        q ∙ ap string y
    go (is_none m n) = absurd (n bytes e)

-- what keeps its own rules has a text that is well-formed
kept_text : (s : Settings) (r : Record) → element_of r ≡ Text → OwnKept s r → well_formed (text_of (written (part r))) ≡ true
kept_text s r e k = go (if_string r)
  where
    go : IfString r → well_formed (text_of (written (part r))) ≡ true
    go (is_string_of bytes q) =
        let c = subst (λ (x : Record). coded x ≡ true) q k.codes_9 in
        let p : written (part r) ≡ bytes = ap (λ (x : Record). written (part x)) q ∙ written_whole bytes in
        rw p (and-true (not (eqb (string_number bytes) 0)) (well_formed (text_of bytes)) c).1
    go (is_none m n) = absurd (m e)

pub own_nth : (s : Settings) (before rs : List Record) (k : ℕ) {r : Record} → PassKept s before rs → nth rs k ≡ some r → OwnKept s r
own_nth s before [] k h n = absurd (no (cc))
own_nth s before (x ∷ rs) zero {r} h n =
    let q : x ≡ r = cc in
    subst (λ (y : Record). OwnKept s y) q (own_kept s x (own_unbroken s before x h.1))
own_nth s before (x ∷ rs) (suc k) h n = own_nth s (before ++ x ∷ []) rs k h.2 n

-- 'the string reader says so and whoever uses it may count on it'
pub given_text :
    (s : Settings) (b : List ℕ) (k : ℕ) (a : Asked) (p : List ℕ)
    → Gives s b k a p
    → a ≡ Element Text
    → well_formed (text_of p) ≡ true
given_text s b k a p (given {r = r} d rs c n) e =
    let q : element_of r ≡ Text = cc in
    kept_text s r q (own_nth s [] rs k c.keeps.passed n)
given_text s b k a p (past d rs c n) e = absurd (no (cc))
given_text s b k a p (ungiven v) e = absurd (no (cc))
