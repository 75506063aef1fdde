-- The pass from where the description is whole, and what bytes more make of it.
-- Assumes nothing.
use Rattle.std.specs.Prelude.{ℕ, ◌+◌, ◌<◌, ◌≤◌, ◌≡◌, Bool, true, false, List, length, set, replicate}
use Rattle.std.proofs.Math.Option.{Option, none, some}
use Rattle.format.specs.Slots.{Bytes}
use Rattle.format.specs.Claims.{made_at, first_claims}
use Rattle.format.specs.Table.{description_breaks}
use Rattle.format.specs.declared.settings.Settings.{Settings}
use Rattle.format.specs.declared.records.Description.{Description}
use Rattle.claims.specs.Taken.{HeldIs}
use Rattle.pass.specs.Tracks.{Flags, flags, Low}
use Rattle.stream.specs.Running.{Run, going, broken, run_bytes, begin}
use Rattle.closing.specs.Ways.{WayIs}
use Rattle.closing.specs.declared.Way.{Way}

-- a description that breaks a rule stops the pass before it begins
abbrev pub opened : Option ℕ → Run → Run
opened none s = s
opened (some k) s = broken k 0

-- the pass at 16, before any element
pub record AtSixteen (d : Description) (w : Way) : Type 0 where
  pub goes : w.stop ≡ 0
  pub here : w.at ≡ 16
  pub none_held : w.under.len ≡ 0
  pub none_cut : w.under.at ≡ 0
  pub count : w.state.count ≡ 0
  pub zones : w.state.zones ≡ 0
  pub fans : w.state.last ≡ 0
  pub held : HeldIs w.state.held (made_at 0 (first_claims d))

pub record Fresh (σ : Settings) (d : Description) (w : Way) : Type 0 where
  pub good : description_breaks σ.chip d ≡ none → AtSixteen d w
  pub bad : (k : ℕ) → description_breaks σ.chip d ≡ some k → (w.stop ≡ k) × (0 < k) × (w.at ≡ 0)

-- numbers that the pass can go on from
pub record Sound (w : Way) (more : ℕ) : Type 0 where
  pub ends : w.at + w.under.len + more ≤ 4097
  pub cut : w.under.at ≤ 10000
  pub low : Low w.state

pub record SoundIs (w : Way) (more : ℕ) (r : Bool) : Type 0 where
  pub yes : r ≡ true → Sound w more
  pub no : r ≡ false → Sound w more → ⊥

pub record Cleared (string : ℕ) (f : Flags) (zp sp : List ℕ) : Type 0 where
  pub all : f ≡ flags (replicate 256 false) (replicate 256 false) (replicate 256 false) (set (replicate 256 false) string true)
  pub zone_first : zp ≡ replicate 256 0
  pub string_first : sp ≡ replicate 256 0
  pub low : string < 256

-- flags and places before the bytes of a piece: clear before the first element, then as they are
pub record ClearIs (fresh : Bool) (string : ℕ) (f : Flags) (zp sp : List ℕ) (f' : Flags) (zp' sp' : List ℕ) : Type 0 where
  pub first : fresh ≡ true → Cleared string f' zp' sp'
  pub later : fresh ≡ false → (f' ≡ f) × (zp' ≡ zp) × (sp' ≡ sp)

-- a pass after so many bytes: the element under way ends there, and no more than 96 are gone by; the number of a rule is a byte
abbrev pub PlacedAt : ℕ → Run → Type 0
PlacedAt n (going before at u) = (at + length u ≡ n) × (length before ≤ 96)
PlacedAt n (broken k p) = k < 256

pub record GoIs (σ : Settings) (w : Way) (q head : List ℕ) (f : Flags) (zp sp : List ℕ) (r : Way) (head' : List ℕ) (f' : Flags)
    (zp' sp' : List ℕ) : Type 0 where
  pub more :
      (d : Description) (n : ℕ) (s : Run)
      → w.stop ≡ 0
      → WayIs d w head f zp sp s
      → PlacedAt n s
      → Bytes q
      → 0 < length q
      → n + length q ≤ 4097
      → WayIs d r head' f' zp' sp' (run_bytes σ s q)

pub record AdvanceIs (σ : Settings) (w : Way) (fresh : Bool) (q : List ℕ) (string : ℕ) (head : List ℕ) (f : Flags) (zp sp : List ℕ)
    (r : Way) (head' : List ℕ) (f' : Flags) (zp' sp' : List ℕ) : Type 0 where
  pub still : length q ≡ 0 → (r ≡ w) × (head' ≡ head) × (f' ≡ f) × (zp' ≡ zp) × (sp' ≡ sp)
  pub first :
      fresh ≡ true
      → (d : Description)
      → Fresh σ d w
      → string ≡ d.string
      → length head ≡ 30
      → Bytes q
      → 0 < length q
      → 16 + length q ≤ 4097
      → WayIs d r head' f' zp' sp' (opened (description_breaks σ.chip d) (run_bytes σ begin q))
  pub more :
      fresh ≡ false
      → (d : Description) (n : ℕ) (s : Run)
      → WayIs d w head f zp sp s
      → PlacedAt n s
      → Bytes q
      → 0 < length q
      → n + length q ≤ 4097
      → WayIs d r head' f' zp' sp' (run_bytes σ s q)
