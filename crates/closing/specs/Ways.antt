-- What the state, the flags, the first places and the bytes that are kept say of the pass so far, and what a whole element makes of it.
-- Assumes nothing.
use Rattle.std.specs.Prelude.{ℕ, ◌+◌, ◌<◌, ◌≤◌, ◌≡◌, ◌⊎◌, Bool, true, List, [], length, drop}
use Rattle.format.specs.Slots.{byte, Bytes}
use Rattle.format.specs.Records.{Record}
use Rattle.format.specs.Layout.{place_after}
use Rattle.format.specs.ZonesAndStrings.{zone_named, string_named}
use Rattle.format.specs.Verdict.{stated}
use Rattle.format.specs.Reader.{stop, step}
use Rattle.format.specs.declared.settings.Settings.{Settings}
use Rattle.format.specs.declared.records.Description.{Description}
use Rattle.pass.specs.Tracks.{Flags, flags, Low, Tracks, Took}
use Rattle.pass.specs.declared.State.{State}
use Rattle.found.specs.Judged.{Judged}
use Rattle.found.specs.Judged.{Finding}
use Rattle.firsts.specs.Firsts.{Firsts}
use Rattle.stream.specs.Running.{Run, going, broken, unready, past, run_bytes}
use Rattle.underway.specs.Under.{UnderIs}
use Rattle.underway.specs.declared.Under.{Under}
use Rattle.closing.specs.declared.Way.{Way}
use Rattle.closing.specs.declared.Ran.{Ran}

-- what the elements gone by have left
pub record Gone (d : Description) (s : State) (f : Flags) (zp sp : List ℕ) (before : List Record) : Type 0 where
  pub tracks : Tracks d s f before
  pub zone_first : Firsts zone_named zp before
  pub string_first : Firsts string_named sp before

-- the pass is under way
pub record On (d : Description) (w : Way) (head : List ℕ) (f : Flags) (zp sp : List ℕ) (before : List Record) (at : ℕ)
    (u : List ℕ) : Type 0 where
  pub goes : w.stop ≡ 0
  pub here : w.at ≡ at
  pub place : at ≡ place_after before
  pub gone : Gone d w.state f zp sp before
  pub under : UnderIs w.under head u
  pub waits : unready u ≡ true

abbrev pub WayIs : Description → Way → List ℕ → Flags → List ℕ → List ℕ → Run → Type 0
WayIs d w head f zp sp (going before at u) = On d w head f zp sp before at u
WayIs d w head f zp sp (broken k p) = (w.stop ≡ k) × (0 < k) × (w.at ≡ p)

-- numbers that the pass can go on from, and nothing under way
pub record Plain (w : Way) (most : ℕ) : Type 0 where
  pub low : Low w.state
  pub none_held : w.under.len ≡ 0
  pub none_cut : w.under.at ≡ 0
  pub within : w.at ≤ most

-- the whole elements at the start of some bytes: all that are there, or up to one that stops the pass
pub record Onward (σ : Settings) (d : Description) (p : List ℕ) (at : ℕ) (before : List Record) (r : Ran) (f : Flags)
    (zp sp : List ℕ) : Type 0 where
  pub more : List Record
  pub way : Took σ before at p more r.way.at (drop r.taken p)
  pub left : Gone d r.way.state f zp sp more
  pub place : r.way.at ≡ place_after more
  pub rest : r.taken < length p → step σ more (drop r.taken p) ≡ stop 6

pub record WholeIs (σ : Settings) (p : List ℕ) (at : ℕ) (s : State) (f : Flags) (zp sp : List ℕ) (r : Ran) (f' : Flags)
    (zp' sp' : List ℕ) : Type 0 where
  pub plain : Plain r.way (at + length p)
  pub within : r.taken ≤ length p
  pub here : r.way.stop ≡ 0 → r.way.at ≡ at + r.taken
  pub goes :
      r.way.stop ≡ 0
      → (d : Description) (before : List Record)
      → Bytes p
      → at ≡ place_after before
      → Gone d s f zp sp before
      → Onward σ d p at before r f' zp' sp'
  pub breaks :
      (r.way.stop ≡ 0 → ⊥)
      → (d : Description) (before : List Record)
      → Bytes p
      → at ≡ place_after before
      → Gone d s f zp sp before
      → run_bytes σ (going before at []) p ≡ broken r.way.stop r.way.at

-- an element that is all there, and no more
abbrev pub Whole : List ℕ → Type 0
Whole v = (3 ≤ stated v) × (stated v ≡ length v)

-- what the pass comes to after a whole element at a place
abbrev pub Then : Settings → Description → List Record → ℕ → List ℕ → Way → List ℕ → Flags → List ℕ → List ℕ → Type 0
Then σ d before at v r head f zp sp = WayIs d r head f zp sp (past before at (length v) (step σ before v))

pub record FixedIs (σ : Settings) (p : List ℕ) (at : ℕ) (s : State) (f : Flags) (zp sp : List ℕ) (r : Way) (f' : Flags)
    (zp' sp' : List ℕ) : Type 0 where
  pub plain : Plain r (at + length p)
  pub then :
      (d : Description) (before : List Record) (head : List ℕ)
      → length head ≡ 30
      → Bytes p
      → Whole p
      → at ≡ place_after before
      → Gone d s f zp sp before
      → Then σ d before at p r head f' zp' sp'

pub record TextClosed (u : Under) (head : List ℕ) (at : ℕ) (s : State) (ss : List Bool) (r : Way) (ss' : List Bool) : Type 0 where
  pub plain : Plain r (at + u.len)
  pub then :
      (σ : Settings) (d : Description) (before : List Record) (v : List ℕ) (zs zu su : List Bool) (zp sp : List ℕ)
      → UnderIs u head v
      → Whole v
      → byte v 0 ≡ 12
      → at ≡ place_after before
      → Gone d s (flags zs ss zu su) zp sp before
      → Then σ d before at v r head (flags zs ss' zu su) zp sp

pub record DeviceClosed (id : ℕ) (e : Finding) (u : Under) (head : List ℕ) (at : ℕ) (s : State) (zu su : List Bool) (zp sp : List ℕ)
    (r : Way) (zu' su' : List Bool) (zp' sp' : List ℕ) : Type 0 where
  pub plain : Plain r (at + u.len)
  pub then :
      (σ : Settings) (d : Description) (before : List Record) (v : List ℕ) (zs ss : List Bool)
      → UnderIs u head v
      → Whole v
      → byte v 0 ≡ id
      → (id ≡ 9) ⊎ ((id ≡ 10) ⊎ (id ≡ 13))
      → Judged σ id (drop 3 v) e
      → at ≡ place_after before
      → Gone d s (flags zs ss zu su) zp sp before
      → Then σ d before at v r head (flags zs ss zu' su') zp' sp'

pub record CloseIs (σ : Settings) (u : Under) (head : List ℕ) (at : ℕ) (s : State) (f : Flags) (zp sp : List ℕ) (r : Way) (f' : Flags)
    (zp' sp' : List ℕ) : Type 0 where
  pub plain : Plain r (at + u.len)
  pub then :
      (d : Description) (before : List Record) (v : List ℕ)
      → UnderIs u head v
      → Whole v
      → at ≡ place_after before
      → Gone d s f zp sp before
      → Then σ d before at v r head f' zp' sp'
