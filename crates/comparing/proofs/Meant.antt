-- What the rows read in the bytes of an element and of a description are the contents of its record; so the code's text is the one that
-- the definition has.
-- Assumes nothing.
use Prim.Native.Nat.{ℕ, zero, suc, ◌+◌, ◌*◌, ◌/◌, ◌%◌}
use native.Mathlib.Omega.{arith}
use mathlib.Core.Path.{◌≡◌, refl, sym, ◌∙◌, ap}
use mathlib.Core.Bool.{Bool, true, cond}
use mathlib.Core.List.{List, [], ◌∷◌, ◌++◌, map}
use lib.ListN.{get_or, drop}
use lib.Seq.{get_or-drop}
use lib.Dec.{eqb}
use borrow.Author.Tests.{not-true}
use Rattle.format.specs.Slots.{Holds, byte}
use Rattle.format.specs.Records.{Record, digital, analogue, fan, led, water, pump, voltage, current, controller, tachometer, zone, string}
use Rattle.format.specs.Records.{external, rgb, element_of}
use Rattle.format.specs.Layout.{address, layout, opening}
use Rattle.format.specs.Rules.{of_its_bus, chosen, of_its_kind}
use Rattle.format.specs.declared.pins.Chip.{Chip}
use Rattle.format.specs.declared.records.Description.{Description}
use Rattle.format.specs.declared.records.Address.{Address}
use Rattle.format.specs.declared.records.Address.TheVariants.{Bus, Select}
use Rattle.format.proofs.Slots.{Over, over_at, starts_over}
use Rattle.format.proofs.Kept.{and-true}
use Rattle.walking.specs.Walk.{Here}
use Rattle.differing.specs.Fields.{addressed, contents, described, own_names, description_names}
use Rattle.differing.specs.Differences.{kind}
use Rattle.comparing.specs.Rows.{ways, offsets, names, firsts, counts, placeds, pin_code, reading, code_at}
use Rattle.comparing.proofs.Codes.{code, names_from, codes_from}

-- the contents of rows in bytes that are given one by one
abbrev code_in : (ℕ → ℕ) → ℕ → ℕ
code_in f i = reading (get_or ways i 0) (f (get_or offsets i 0)) (f (get_or offsets i 0 + 1)) (f (get_or offsets i 0 + 2))

abbrev codes_in : (ℕ → ℕ) → ℕ → ℕ → List ℕ
codes_in f i zero = []
codes_in f i (suc n) = code_in f i ∷ codes_in f (i + 1) n

code_in_lem : (t : List ℕ) (at i : ℕ) → code_at t at i ≡ code_in (byte (drop at t)) i
code_in_lem t at i =
    let k = get_or offsets i 0 in
    let p : byte t (at + k) ≡ byte (drop at t) k = sym (get_or-drop at t k 0) in
    let m : at + k + 1 ≡ at + (k + 1) = omega arith in
    let n : at + k + 2 ≡ at + (k + 2) = omega arith in
    let q : byte t (at + k + 1) ≡ byte (drop at t) (k + 1) = ap (byte t) m ∙ sym (get_or-drop at t (k + 1) 0) in
    let r : byte t (at + k + 2) ≡ byte (drop at t) (k + 2) = ap (byte t) n ∙ sym (get_or-drop at t (k + 2) 0) in
    λ j. reading (get_or ways i 0) (p j) (q j) (r j)

codes_in_lem : (t : List ℕ) (at i n : ℕ) → codes_from t at i n ≡ codes_in (byte (drop at t)) i n
codes_in_lem t at i zero = refl
codes_in_lem t at i (suc n) = λ j. code_in_lem t at i j ∷ codes_in_lem t at (i + 1) n j

-- one field before others
infixr 4 ◌then◌
◌then◌ : {x y : ℕ} {xs ys : List ℕ} → x ≡ y → xs ≡ ys → x ∷ xs ≡ y ∷ ys
◌then◌ p q = λ i. p i ∷ q i

two : {x y v : ℕ} → x ≡ v % 256 → y ≡ v / 256 → x + 256 * y ≡ v
two p q = omega (arith, p, q)

three : {x y z v : ℕ} → x ≡ v % 256 → y ≡ v / 256 % 256 → z ≡ v / 65536 → x + 256 * y + 65536 * z ≡ v
three p q r = omega (arith, p, q, r)

pinned : {x p : ℕ} → x ≡ p → pin_code x ≡ pin_code p
pinned e = ap pin_code e

addressed_so :
    (a : Address) (x y : ℕ) {bus : ℕ}
    → x % 16 ≡ bus
    → Holds y (address a)
    → of_its_bus bus a ≡ true
    → cond (eqb (x % 16) 3) (pin_code y) (y / 2) ≡ code (addressed a)
addressed_so (Bus v) x y {bus} e h k =
    ap (λ (t : Bool). cond t (pin_code y) (y / 2)) (ap (λ (n : ℕ). eqb n 3) e ∙ not-true (eqb bus 3) k) ∙ h
addressed_so (Select p) x y {bus} e h k =
    ap (λ (t : Bool). cond t (pin_code y) (y / 2)) (ap (λ (n : ℕ). eqb n 3) e ∙ k) ∙ ap pin_code h

abbrev rows_in : (ℕ → ℕ) → ℕ → List ℕ
rows_in f id = codes_in f 0 (get_or placeds id 0) ++ codes_in f (get_or firsts id 0) (get_or counts id 0)

-- each kind
kind_read :
    (c : Chip) (f : ℕ → ℕ) (x : Record)
    → Over f (layout x)
    → of_its_kind c x ≡ true
    → rows_in f (kind x) ≡ map code (contents (element_of x))
unfolding ways offsets firsts counts placeds reading
kind_read c f (digital d) o k =
    let g = over_at f (layout (digital d)) o in
    let a = (and-true (of_its_bus d.bus d.address) (chosen c d.address) k).0 in
    g 3 then g 4 then g 5 then g 6 then g 7 then g 8 then addressed_so d.address (f 8) (f 9) (g 8) (g 9) a
    then two (g 11) (g 12) then two (g 13) (g 14) then two (g 15) (g 16) then g 17 then two (g 18) (g 19) then g 20 then refl
kind_read c f (analogue a) o k =
    let g = over_at f (layout (analogue a)) o in
    g 3 then g 4 then g 5 then g 6 then g 7 then g 8 then pinned (g 9)
    then two (g 10) (g 11) then two (g 12) (g 13) then two (g 14) (g 15) then two (g 16) (g 17) then two (g 18) (g 19) then refl
kind_read c f (fan x) o k =
    let g = over_at f (layout (fan x)) o in
    g 3 then g 4 then g 5 then g 6 then g 7 then pinned (g 8) then pinned (g 9) then g 10
    then two (g 11) (g 12) then two (g 13) (g 14) then g 15 then refl
kind_read c f (led l) o k =
    let g = over_at f (layout (led l)) o in
    g 3 then g 4 then g 5 then g 6 then g 7 then pinned (g 8) then (g 9).0 then (g 9).1
    then pinned (g 10) then (g 11).0 then (g 11).1 then pinned (g 12) then (g 13).0 then (g 13).1 then refl
kind_read c f (water w) o k =
    let g = over_at f (layout (water w)) o in
    g 3 then g 4 then g 5 then g 6 then g 7 then pinned (g 8) then two (g 9) (g 10) then two (g 11) (g 12) then two (g 13) (g 14) then refl
kind_read c f (pump x) o k =
    let g = over_at f (layout (pump x)) o in
    g 3 then g 4 then g 5 then g 6 then g 7 then pinned (g 8) then pinned (g 9) then g 10
    then two (g 11) (g 12) then two (g 13) (g 14) then g 15 then refl
kind_read c f (voltage v) o k =
    let g = over_at f (layout (voltage v)) o in
    g 3 then g 4 then g 5 then g 6 then g 7 then pinned (g 8) then g 9 then g 10 then refl
kind_read c f (current x) o k =
    let g = over_at f (layout (current x)) o in
    g 3 then g 4 then g 5 then g 6 then g 7 then pinned (g 8) then two (g 10) (g 11) then two (g 12) (g 13) then refl
kind_read c f (controller d bs) o k =
    let g = over_at f (layout (controller d bs)) o in
    let a = (and-true (of_its_bus d.bus d.address) (chosen c d.address) k).0 in
    g 3 then g 4 then g 5 then g 6 then g 7 then g 8 then addressed_so d.address (f 8) (f 9) (g 8) (g 9) a then refl
kind_read c f (tachometer d ps qs) o k =
    let g = over_at f (layout (tachometer d ps qs)) o in
    let a = (and-true (of_its_bus d.bus d.address) (chosen c d.address) k).0 in
    g 3 then g 4 then g 5 then g 6 then g 7 then g 8 then addressed_so d.address (f 8) (f 9) (g 8) (g 9) a then refl
kind_read c f (zone bytes) o k = refl
kind_read c f (string bytes) o k = refl
kind_read c f (external x ps qs rs) o k =
    let g = over_at f (layout (external x ps qs rs)) o in
    let a = (and-true (of_its_bus x.device.bus x.device.address) (chosen c x.device.address) k).0 in
    g 3 then g 4 then g 5 then g 6 then g 7 then g 8 then addressed_so x.device.address (f 8) (f 9) (g 8) (g 9) a then g 11 then refl
kind_read c f (rgb r) o k =
    let g = over_at f (layout (rgb r)) o in
    g 3 then g 4 then g 5 then g 6 then g 7 then pinned (g 8) then pinned (g 9) then pinned (g 10) then refl

-- .. with its names
pub kind_names :
    (x : Record)
    → own_names (kind x) ≡ names_from 0 (get_or placeds (kind x) 0) ++ names_from (get_or firsts (kind x) 0) (get_or counts (kind x) 0)
unfolding names firsts counts placeds
kind_names (digital d) = refl
kind_names (analogue a) = refl
kind_names (fan x) = refl
kind_names (led l) = refl
kind_names (water w) = refl
kind_names (pump x) = refl
kind_names (voltage v) = refl
kind_names (current x) = refl
kind_names (controller d bs) = refl
kind_names (tachometer d ps qs) = refl
kind_names (zone bytes) = refl
kind_names (string bytes) = refl
kind_names (external x ps qs rs) = refl
kind_names (rgb r) = refl

-- an element at a place
pub codes_here :
    (c : Chip) (t : List ℕ) (at : ℕ) (x : Record)
    → Here c t at x
    → codes_from t at 0 (get_or placeds (kind x) 0) ++ codes_from t at (get_or firsts (kind x) 0) (get_or counts (kind x) 0)
    ≡ map code (contents (element_of x))
codes_here c t at x h =
    let f = byte (drop at t) in
    let p = codes_in_lem t at 0 (get_or placeds (kind x) 0) in
    let q = codes_in_lem t at (get_or firsts (kind x) 0) (get_or counts (kind x) 0) in
    (λ i. p i ++ q i) ∙ kind_read c f x (starts_over (drop at t) (layout x) h.stands.rest h.stands.starts) h.stands.kind

-- the description
description_read : (f : ℕ → ℕ) (d : Description) (n : ℕ) → Over f (opening d n) → codes_in f 5 8 ≡ map code (described d)
unfolding ways offsets reading
description_read f d n o =
    let g = over_at f (opening d n) o in
    g 3 then g 4 then three (g 5) (g 6) (g 7) then (g 8).0 then (g 8).1 then pinned (g 9) then pinned (g 10) then pinned (g 11) then refl

pub codes_described : (t : List ℕ) (d : Description) (n : ℕ) → Over (byte t) (opening d n) → codes_from t 0 5 8 ≡ map code (described d)
codes_described t d n o = codes_in_lem t 0 5 8 ∙ description_read (byte t) d n o

pub description_names_lem : description_names ≡ names_from 5 8
unfolding names
description_names_lem = refl
