-- The walk for the string with a number: what is left to search ends where the whole ends.
-- Assumes nothing.
use Prim.Native.Nat.{ℕ, ◌+◌, ◌≤◌, ◌<◌}
use native.Mathlib.Omega.{arith}
use mathlib.Core.Path.{◌≡◌, refl, sym, ◌∙◌, ap}
use mathlib.Core.Bool.{true, false}
use mathlib.Core.List.{List, [], ◌∷◌, ◌++◌, append_assoc}
use lib.ListN.{length, drop}
use Rattle.format.specs.Records.{Record}
use Rattle.format.specs.Layout.{layout, place_after}
use Rattle.format.specs.ZonesAndStrings.{role}
use Rattle.format.specs.Verdict.{stated, Accepts}
use Rattle.format.specs.declared.settings.Settings.{Settings}
use Rattle.format.specs.declared.records.Description.{Description}
use Rattle.format.proofs.Lengths.{snoc_length}
use Rattle.walking.specs.Walk.{Walk}
use Rattle.walking.proofs.Left.{Next, onward, ended}
use Rattle.labels.specs.Called.{text, lent, pick_called, bears, own_text, by_number}

abbrev pub Sought : ℕ → List Record → List Record → List Record → Type 0
Sought n rs done left = (done ++ left ≡ rs) × (by_number n 16 rs ≡ by_number n (place_after done) left)

pub begun : (σ : Settings) (t : List ℕ) (n : ℕ) (d : Description) (rs : List Record) → Accepts σ t d rs → Walk σ t 16 (Sought n rs)
begun σ t n d rs a = record { d = d; done = []; left = rs; accepts = a; place = refl; state = (refl, refl) }

module _ (σ : Settings) (t : List ℕ) (at n : ℕ) (rs : List Record) (w : Walk σ t at (Sought n rs)) where
  -- the element at this place is the first that is left
  first :
      (g : Next σ t at w.done w.left)
      → by_number n 16 rs ≡ pick_called (bears n (role g.r)) (text at (own_text (role g.r)))
      (by_number n (at + length (layout g.r)) g.others)
  first g =
      w.state.1
      ∙ ap (λ (l : List Record). by_number n (place_after w.done) l) g.same
      ∙ ap (λ (m : ℕ). by_number n m (g.r ∷ g.others)) (sym w.place)

  pub found_here : (g : Next σ t at w.done w.left) → bears n (role g.r) ≡ true → text at (own_text (role g.r)) ≡ by_number n 16 rs
  found_here g e = sym (first g ∙ rw e refl)

  pub turned :
      {m : ℕ}
      → at < length t
      → m ≡ stated (drop at t)
      → ((g : Next σ t at w.done w.left) → bears n (role g.r) ≡ false)
      → Walk σ t (at + m) (Sought n rs)
  turned h e other =
      onward σ t at (Sought n rs) w (Sought n rs) h e (λ g. (
        append_assoc w.done (g.r ∷ []) g.others ∙ ap (λ (l : List Record). w.done ++ l) (sym g.same) ∙ w.state.0,
        first g ∙ (rw (other g) refl) ∙ ap (λ (m : ℕ). by_number n m g.others) (behind g),
      ))
    where
      behind : (g : Next σ t at w.done w.left) → at + length (layout g.r) ≡ place_after (w.done ++ g.r ∷ [])
      behind g = omega (arith, w.place, snoc_length w.done g.r)

  pub not_there : length t ≤ at → lent ≡ by_number n 16 rs
  not_there h = sym (ended σ t at (Sought n rs) w h).state.1
