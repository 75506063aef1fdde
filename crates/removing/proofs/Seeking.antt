-- The walk for whoever names a number: what is left to search ends where the whole ends.
-- Assumes nothing.
use Prim.Native.Nat.{ℕ, ◌+◌, ◌≤◌, ◌<◌}
use mathlib.Core.Path.{◌≡◌, refl, sym, ◌∙◌, ap}
use mathlib.Core.Bool.{Bool, true, false, ◌||◌}
use mathlib.Core.List.{List, []}
use lib.ListN.{length, drop}
use Rattle.format.specs.Records.{Record}
use Rattle.format.specs.Pins.{among}
use Rattle.format.specs.ZonesAndStrings.{Role, role, gathered}
use Rattle.format.specs.Verdict.{stated, Accepts}
use Rattle.format.specs.declared.settings.Settings.{Settings}
use Rattle.format.specs.declared.records.Description.{Description}
use Rattle.format.proofs.Kept.{own_kept, own_unbroken}
use Rattle.claims.proofs.Sets.{among_append}
use Rattle.walking.specs.Walk.{Walk}
use Rattle.walking.proofs.Left.{Next, next, onward, ended}
use Rattle.places.specs.Walks.{RoleBytes, names_of}
use Rattle.places.proofs.Roles.{role_bytes}
use Rattle.removing.specs.Judging.{TellsNames}

pub record Sought (zone : Bool) (n : ℕ) (rs done left : List Record) : Type 0 where
  pub same : among n (gathered (names_of zone) rs) ≡ among n (gathered (names_of zone) left)

-- the loop's invariant, with whatever list is accepted
abbrev pub Seeking : List ℕ → Bool → ℕ → ℕ → Type 0
Seeking t zone n at = (σ : Settings) (d : Description) (rs : List Record) → Accepts σ t d rs → Walk σ t at (Sought zone n rs)

pub begun : (t : List ℕ) (zone : Bool) (n : ℕ) → Seeking t zone n 16
begun t zone n σ d rs a = record { d = d; done = []; left = rs; accepts = a; place = refl; state = record { same = refl } }

-- the element at this place: the bytes that tell what it names
role_here :
    (σ : Settings) (t : List ℕ) (at : ℕ) {done left : List Record} (g : Next σ t at done left) → RoleBytes t at (role g.r)
role_here σ t at {done} g =
    let own = own_kept σ g.r (own_unbroken σ done g.r g.keeps) in
    role_bytes t at g.r g.here.stands.rest g.here.stands.starts own.shape_8

module _ (σ : Settings) (t : List ℕ) (zone : Bool) (n at : ℕ) (rs : List Record) (w : Walk σ t at (Sought zone n rs))
    (h : at < length t) where
  abbrev element : Next σ t at w.done w.left
  element = next σ t at (Sought zone n rs) w h

  pub some_role : (x : Role) × RoleBytes t at x
  some_role = (role element.r, role_here σ t at element)

-- what is told of the element at this place
module _ (t : List ℕ) (zone : Bool) (n at : ℕ) (s : Seeking t zone n at) (h : at < length t) (r : Bool)
    (tells : (x : Role) → RoleBytes t at x → r ≡ among n (names_of zone x)) where
  first :
      (σ : Settings) (rs : List Record) (w : Walk σ t at (Sought zone n rs)) (g : Next σ t at w.done w.left) {b : Bool}
      → r ≡ b
      → among n (gathered (names_of zone) rs) ≡ b || among n (gathered (names_of zone) g.others)
  first σ rs w g e =
      w.state.same
      ∙ ap (λ (l : List Record). among n (gathered (names_of zone) l)) g.same
      ∙ among_append n (names_of zone (role g.r)) (gathered (names_of zone) g.others)
      ∙ ap (λ (b : Bool). b || among n (gathered (names_of zone) g.others)) (sym (tells (role g.r) (role_here σ t at g)) ∙ e)

  pub hit : r ≡ true → TellsNames t zone n true
  hit e σ d rs a = let w = s σ d rs a in sym (first σ rs w (next σ t at (Sought zone n rs) w h) e)

  pub turned : r ≡ false → Seeking t zone n (at + stated (drop at t))
  turned e σ d rs a =
      let w = s σ d rs a in
      onward σ t at (Sought zone n rs) w (Sought zone n rs) h refl (λ g. record { same = first σ rs w g e })

pub not_there : (t : List ℕ) (zone : Bool) (n at : ℕ) → Seeking t zone n at → length t ≤ at → TellsNames t zone n false
not_there t zone n at s h σ d rs a = sym (ended σ t at (Sought zone n rs) (s σ d rs a) h).state.same
