-- From where a label is to its bytes: a text in the table stands there, and no place is past its end.
-- Assumes nothing.
use Prim.Native.Nat.{ℕ, ◌+◌, ◌-◌, ◌≤◌}
use native.Mathlib.Omega.{arith}
use mathlib.Core.Path.{◌≡◌, refl, sym, ◌∙◌, ap}
use mathlib.Core.List.{List, []}
use lib.ListN.{length, take, drop}
use Rattle.format.specs.declared.settings.Settings.{Settings}
use Rattle.labels.specs.Called.{Source}
use Rattle.labels.specs.Called.{Text, Lent, Refused}
use Rattle.labels.specs.Called.{Called, text, lent, refused, stands_at, bytes_of, Found, Labelled}
use Rattle.labels.proofs.Standing.{Standing, stands}

-- from where a label is to its bytes
module _ (t name : List ℕ) where
  pub text_room : (c : Called) {p n : ℕ} → Text p n ≡ stands_at c → Standing t c → p + n ≤ length t
  text_room (text at bytes) {p} {n} e h =
      let x : p ≡ at + 6 = cc in
      let y : n ≡ length bytes = cc in
      omega (arith, x, y, h.room)
  text_room lent e h = let z : ◌≡◌ {A = ℕ} 0 1 = cc in absurd (omega arith)
  text_room (refused j q) e h = let z : ◌≡◌ {A = ℕ} 0 1 = cc in absurd (omega arith)

  pub text_bytes : (c : Called) {p n : ℕ} → Text p n ≡ stands_at c → Standing t c → take (p + n - p) (drop p t) ≡ bytes_of name c
  text_bytes (text at bytes) {p} {n} e h =
      let x : p ≡ at + 6 = cc in
      let y : n ≡ length bytes = cc in
      let z : p + n - p ≡ length bytes = omega (arith, y) in
      ap (λ (m : ℕ). take m (drop p t)) z ∙ ap (λ (m : ℕ). take (length bytes) (drop m t)) x ∙ h.there
  text_bytes lent e h = let z : ◌≡◌ {A = ℕ} 0 1 = cc in absurd (omega arith)
  text_bytes (refused j q) e h = let z : ◌≡◌ {A = ℕ} 0 1 = cc in absurd (omega arith)

  pub lent_bytes : (c : Called) → Lent ≡ stands_at c → name ≡ bytes_of name c
  lent_bytes (text at bytes) e = let z : ◌≡◌ {A = ℕ} 0 1 = cc in absurd (omega arith)
  lent_bytes lent e = refl
  lent_bytes (refused j q) e = let z : ◌≡◌ {A = ℕ} 0 1 = cc in absurd (omega arith)

  pub no_bytes : (c : Called) {j p : ℕ} → Refused j p ≡ stands_at c → [] ≡ bytes_of name c
  no_bytes (text at bytes) e = let z : ◌≡◌ {A = ℕ} 0 1 = cc in absurd (omega arith)
  no_bytes lent e = let z : ◌≡◌ {A = ℕ} 0 1 = cc in absurd (omega arith)
  no_bytes (refused j q) e = refl

  -- no place that is too large
  pub text_bound : (c : Called) {p n : ℕ} → Text p n ≡ stands_at c → Standing t c → p + n ≤ 4096
  text_bound (text at bytes) {p} {n} e h = omega (arith, text_room (text at bytes) e h, h.top)
  text_bound lent e h = let z : ◌≡◌ {A = ℕ} 0 1 = cc in absurd (omega arith)
  text_bound (refused j q) e h = let z : ◌≡◌ {A = ℕ} 0 1 = cc in absurd (omega arith)

  pub refused_bound : (c : Called) {j p : ℕ} → Refused j p ≡ stands_at c → Standing t c → p ≤ 4096
  refused_bound (text at bytes) e h = let z : ◌≡◌ {A = ℕ} 0 1 = cc in absurd (omega arith)
  refused_bound lent e h = let z : ◌≡◌ {A = ℕ} 0 1 = cc in absurd (omega arith)
  refused_bound (refused j q) {p = p} e h = let x : p ≡ q = cc in omega (arith, x, h)

-- the words of `find` into those of `label`
module _ (σ : Settings) (t : List ℕ) (k : ℕ) (x : Source) (f : Found σ t k x) where
  standing : Standing t f.called
  standing = stands σ t k f.called f.calls

  labelled : (name bytes : List ℕ) → bytes ≡ bytes_of name f.called → Labelled σ t k name bytes
  labelled name bytes e =
      record { called = f.called; calls = f.calls; same = e; well = f.well }

  pub found_room : {p n : ℕ} → x ≡ Text p n → (p + n ≤ length t) × (p + n ≤ 4096)
  found_room is = (text_room t [] f.called (sym is ∙ f.place) standing, text_bound t [] f.called (sym is ∙ f.place) standing)

  pub found_refused : {j p : ℕ} → x ≡ Refused j p → p ≤ 4096
  found_refused is = refused_bound t [] f.called (sym is ∙ f.place) standing

  pub text_labelled : {p n : ℕ} → x ≡ Text p n → (name : List ℕ) → Labelled σ t k name (take (p + n - p) (drop p t))
  text_labelled {p} {n} is name =
      labelled name (take (p + n - p) (drop p t)) (text_bytes t name f.called (sym is ∙ f.place) standing)

  pub lent_labelled : x ≡ Lent → (name : List ℕ) → Labelled σ t k name name
  lent_labelled is name = labelled name name (lent_bytes t name f.called (sym is ∙ f.place))

  pub none_labelled : {j p : ℕ} → x ≡ Refused j p → (name : List ℕ) → Labelled σ t k name []
  none_labelled is name = labelled name [] (no_bytes t name f.called (sym is ∙ f.place))
