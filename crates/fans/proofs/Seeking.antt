-- The walk over the bytes: what is left to seek ends where the whole ends, and the count is that of the elements behind.
-- Assumes nothing.
use Prim.Native.Nat.{ℕ, ◌+◌, ◌-◌, ◌≤◌, ◌<◌}
use native.Mathlib.Omega.{arith}
use mathlib.Core.Path.{◌≡◌, refl, sym, ◌∙◌, ap, subst}
use mathlib.Core.Bool.{Bool, true, false, cond}
use mathlib.Core.List.{List, [], ◌∷◌, ◌++◌}
use lib.ListN.{length, take, drop, length-append}
use Rattle.format.specs.Slots.{Fits}
use Rattle.format.specs.Records.{Record}
use Rattle.format.specs.Layout.{layout}
use Rattle.format.specs.Verdict.{stated, Accepts, Verdict, accepted}
use Rattle.format.specs.declared.settings.Settings.{Settings}
use Rattle.format.specs.declared.records.Description.{Description}
use Rattle.format.specs.Answers.{Gives as Accepted}
use Rattle.format.proofs.Lengths.{at_most_96}
use Rattle.walking.specs.Walk.{Walk}
use Rattle.walking.proofs.Left.{Next, next, onward, ended}
use Rattle.fans.specs.InZone.{motor_in, visit, in_zone, Shown, Zones, seen}
use Rattle.fans.specs.declared.Visit.{Visit}
use Rattle.format.specs.Answers.{Gives as Seen}
use Rattle.fans.proofs.Walking.{sought, stops}

abbrev pub Sought : ℕ → List Record → ℕ → List Record → List Record → Type 0
Sought z rs count done left = (in_zone z rs ≡ sought z count left) × (count ≡ length done)

-- THE INVARIANT, with whatever list is accepted
abbrev pub Seeking : List ℕ → ℕ → ℕ → ℕ → Type 0
Seeking t z at count = (σ : Settings) (d : Description) (rs : List Record) → Accepts σ t d rs → Walk σ t at (Sought z rs count)

pub begun : (t : List ℕ) (z : ℕ) → Seeking t z 16 0
begun t z σ d rs a = record { d = d; done = []; left = rs; accepts = a; place = refl; state = (sym (stops z rs), refl) }

-- the element at this place: the bytes that a visit is lent are its own, and no 97th is visited
module _ (σ : Settings) (t : List ℕ) (z at count : ℕ) (rs : List Record) (w : Walk σ t at (Sought z rs count))
    (g : Next σ t at w.done w.left) where
  few : count < 96
  few =
      omega (
        arith,
        w.state.1,
        at_most_96 σ [] (w.done ++ w.left) (omega arith) w.accepts.keeps.passed,
        length-append w.done w.left,
        ap length g.same,
      )

  lent : {n : ℕ} → n ≡ stated (drop at t) → Fits (take (at + n - at) (drop at t)) (layout g.r)
  lent {n} is =
      let e : stated (drop at t) ≡ at + n - at = omega (arith, is) in
      subst (λ (m : ℕ). Fits (take m (drop at t)) (layout g.r)) e g.bytes

module _ (t : List ℕ) (z at count : ℕ) (s : Seeking t z at count) (p : Shown t) (h : at < length t) where
  abbrev here : Walk p.settings t at (Sought z p.records count)
  here = s p.settings p.description p.records p.accepts

  abbrev element : Next p.settings t at here.done here.left
  element = next p.settings t at (Sought z p.records count) here h

  pub room : (3 ≤ stated (drop at t)) × (at + stated (drop at t) ≤ length t)
  room = omega (arith, element.here.size, element.here.within)

  pub visitable : {n : ℕ} → n ≡ stated (drop at t) → ((x : Record) × Fits (take (at + n - at) (drop at t)) (layout x)) × (count < 96)
  visitable is = (
    (element.r, lent p.settings t z at count p.records here element is),
    few p.settings t z at count p.records here element,
  )

-- what a visit gives decides the rest
visited :
    (z n : ℕ) (r : Record) (rs : List Record) (v : Visit) {b : Bool}
    → v ≡ visit (motor_in z r) (n + 1)
    → v.hit ≡ b
    → sought z n (r ∷ rs) ≡ cond b v (sought z v.count rs)
visited z n r rs v e y = go ∙ ap (λ (b : Bool). cond b v (sought z v.count rs)) y
  where
    by : (t : Bool) → cond t (visit true (n + 1)) (sought z (n + 1) rs) ≡ cond t (visit t (n + 1)) (sought z (n + 1) rs)
    by true = refl
    by false = refl

    go : sought z n (r ∷ rs) ≡ cond v.hit v (sought z v.count rs)
    go = rw e (by (motor_in z r))

-- a visit to the element at this place, of so many bytes
module _ (t : List ℕ) (z at count : ℕ) (s : Seeking t z at count) (h : at < length t) {n : ℕ} (is : n ≡ stated (drop at t)) (v : Visit)
    (tells : (x : Record) → Fits (take (at + n - at) (drop at t)) (layout x) → v ≡ visit (motor_in z x) (count + 1)) where
  first :
      (σ : Settings) (rs : List Record) (w : Walk σ t at (Sought z rs count)) (g : Next σ t at w.done w.left) {b : Bool}
      → v.hit ≡ b
      → in_zone z rs ≡ cond b v (sought z v.count g.others)
  first σ rs w g y =
      w.state.0
      ∙ ap (sought z count) g.same
      ∙ visited z count g.r g.others v (tells g.r (lent σ t z at count rs w g is)) y

  pub hit : v.hit ≡ true → (σ : Settings) (d : Description) (rs : List Record) → Accepts σ t d rs → v ≡ in_zone z rs
  hit y σ d rs a =
      let w = s σ d rs a in
      sym (first σ rs w (next σ t at (Sought z rs count) w h) y)

  pub turned : v.hit ≡ false → Seeking t z (at + n) v.count
  turned y σ d rs a =
      let w = s σ d rs a in
      onward σ t at (Sought z rs count) w (Sought z rs v.count) h is (λ g. (
        first σ rs w g y,
        omega (
          arith,
          w.state.1,
          ap (λ (u : Visit). u.count) (tells g.r (lent σ t z at count rs w g is)),
          length-append w.done (g.r ∷ []),
        ),
      ))

pub not_there :
    (t : List ℕ) (z at count : ℕ)
    → Seeking t z at count
    → length t ≤ at
    → (σ : Settings) (d : Description) (rs : List Record)
    → Accepts σ t d rs
    → visit false count ≡ in_zone z rs
not_there t z at count s h σ d rs a = sym (ended σ t at (Sought z rs count) (s σ d rs a) h).state.0

-- the public form: the check shows the acceptance
pub shown : (σ : Settings) (b : List ℕ) {n : ℕ} → Verdict σ b (Accepted n) → Shown b
shown σ b (accepted d rs a) = record { settings = σ; description = d; records = rs; accepts = a }

pub zoned :
    (σ : Settings) (b : List ℕ) (z : ℕ) {n : ℕ} (v : Visit)
    → Verdict σ b (Accepted n)
    → ((σ : Settings) (d : Description) (rs : List Record) → Accepts σ b d rs → v ≡ in_zone z rs)
    → Zones σ b z (Seen v)
zoned σ b z v (accepted d rs a) w = rw (w σ d rs a) (seen d rs a)
