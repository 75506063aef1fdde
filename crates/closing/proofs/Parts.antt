-- Strings and devices on a bus, whole after a cut: judged by what is held of them as if all their bytes were there.
-- Assumes nothing.
use Prim.Native.Nat.{ℕ, ◌+◌, ◌<◌, ◌≤◌}
use native.Mathlib.Omega.{arith}
use mathlib.Core.Path.{◌≡◌, refl, sym, ◌∙◌, ap, subst}
use mathlib.Core.Bool.{Bool, true, false}
use mathlib.Core.Logic.{◌⊎◌, inl, inr}
use mathlib.Core.List.{List}
use lib.ListN.{length, take, drop, length-drop}
use lib.Dec.{eqb}
use borrow.Author.Tests.{eqb-true, eqb-false}
use Rattle.format.specs.Slots.{byte, Bytes}
use Rattle.format.specs.Records.{Record}
use Rattle.format.specs.Layout.{place_after}
use Rattle.format.specs.ZonesAndStrings.{placed, role}
use Rattle.format.specs.Rules.{numbered, first_broken, own_rules}
use Rattle.format.specs.FanList.{fan_pins}
use Rattle.format.specs.Claims.{claims_of}
use Rattle.claims.specs.Taken.{ClaimsAre}
use Rattle.format.specs.Decode.{read_placement}
use Rattle.format.specs.declared.settings.Settings.{Settings}
use Rattle.format.specs.declared.records.Description.{Description}
use Rattle.format.proofs.Slots.{bytes_drop}
use Rattle.found.specs.Judged.{FansAre, Judged}
use Rattle.found.specs.Judged.{Finding}
use Rattle.pass.specs.Tracks.{flags, StepIs, TextJudged, PlacedStep, TakeIs}
use Rattle.pass.specs.declared.State.{State}
use Rattle.pass.specs.Steps.{Step}
use Rattle.pass.proofs.Stepped.{own_fault_lem}
use Rattle.pass.proofs.Taking.{take_text, take_placed}
use Rattle.underway.specs.Under.{UnderIs}
use Rattle.underway.specs.declared.Under.{Under}
use Rattle.judging.specs.Whole.{TextIs, NumberIs}
use Rattle.judging.proofs.Fixed.{after_header}
use Rattle.naming.specs.Naming.{Names}
use Rattle.naming.proofs.Named.{named}
use Rattle.closing.specs.Ways.{Gone, Whole, Then}
use Rattle.closing.specs.declared.Way.{Way}
use Rattle.closing.proofs.Ending.{went_then}

-- what the pass is to be after a step: on by the element's bytes, or stopped at its place
pub record After (w : Way) (r : Step) (at len : ℕ) : Type 0 where
  pub none_held : w.under.len ≡ 0
  pub none_cut : w.under.at ≡ 0
  pub same : w.stop ≡ r.stop
  pub good : r.stop ≡ 0 → (w.at ≡ at + len) × (w.state ≡ r.state)
  pub bad : (r.stop ≡ 0 → ⊥) → w.at ≡ at

module _ (u : Under) (head : List ℕ) (at : ℕ) (s : State) (r : Step) (w : Way) (o : After w r at u.len) (few : s.count < 96) where
  here : (v : List ℕ) → UnderIs u head v → r.stop ≡ 0 → (w.at ≡ at + length v) × (w.state ≡ r.state)
  here v k z = let g = o.good z in (g.0 ∙ ap (λ (n : ℕ). at + n) k.long, g.1)

  -- 0Ch
  pub text_closes :
      (own n : ℕ) (ss ss' : List Bool)
      → TextIs u head own
      → NumberIs u head n
      → TextJudged own n s ss r ss'
      → (σ : Settings) (d : Description) (before : List Record) (v : List ℕ) (zs zu su : List Bool) (zp sp : List ℕ)
      → UnderIs u head v
      → Whole v
      → byte v 0 ≡ 12
      → at ≡ place_after before
      → Gone d s (flags zs ss zu su) zp sp before
      → Then σ d before at v w head (flags zs ss' zu su) zp sp
  text_closes own n ss ss' t m j σ d before v zs zu su zp sp k whole e p g =
      let c = drop 3 v in
      let small = bytes_drop 3 v k.bytes in
      let step = j.steps σ c small (t.says v k e σ) (m.says v k) at zs zu su in
      let take = take_text σ 12 c at s (flags zs ss zu su) r (flags zs ss' zu su) j.low refl step in
      let none : Names 12 c at zp sp zp sp = record
      { text = λ _. (refl, refl); zoning = λ z. absurd (omega (arith, z)); placed = λ _ n. absurd (n refl) } in
      went_then σ d before v s (flags zs ss zu su) r (flags zs ss' zu su) zp sp w head k.bytes whole e p k.held.size
      (omega (arith, few, g.tracks.count))
      (take.takes d before p g.tracks)
      (λ x q z. named σ.chip 12 c small x q before zp sp zp sp p none g.zone_first g.string_first)
      o.none_held
      o.none_cut
      o.same
      (here v k)
      o.bad

-- the step of a device, by the bytes that are kept and by all
module _ (e : Finding) (b c : List ℕ) (at : ℕ) (s : State) (zu su : List Bool) (r : Step) (zu' su' : List Bool) where
  pub placed_as :
      PlacedStep e b at s zu su r zu' su'
      → (e.fault ≡ 0 → read_placement (byte b) ≡ read_placement (byte c))
      → PlacedStep e c at s zu su r zu' su'
  placed_as p q =
      record {
        low = p.low;
        faulty = p.faulty;
        steps = λ σ x v f k w zs ss. go σ x v f k w zs ss (eqb e.fault 0) refl;
      }
    where
      go :
          (σ : Settings) (x : Record)
          → role x ≡ placed (read_placement (byte c))
          → e.fault ≡ numbered (first_broken (own_rules σ x))
          → (e.fault ≡ 0 → ClaimsAre e.claims (claims_of x))
          → (e.fault ≡ 0 → FansAre e.fans (fan_pins x))
          → (zs ss : List Bool)
          → (t : Bool)
          → eqb e.fault 0 ≡ t
          → StepIs σ x at s (flags zs ss zu su) r (flags zs ss zu' su')
      go σ x v f k w zs ss true z = let y = eqb-true e.fault 0 z in p.steps σ x (v ∙ ap placed (sym (q y))) f k w zs ss
      go σ x v f k w zs ss false z =
          let y = eqb-false e.fault 0 z in
          let h = p.faulty y in
          own_fault_lem σ x at s (flags zs ss zu su) r (flags zs ss zu' su') f y h.0 h.1 (rw (h.2, h.3) refl)

same_placement : (f g : ℕ → ℕ) → ((i : ℕ) → i < 5 → f i ≡ g i) → read_placement f ≡ read_placement g
same_placement f g h = rw (h 0 (omega arith), h 1 (omega arith), h 2 (omega arith), h 3 (omega arith), h 4 (omega arith)) refl

module _ (u : Under) (head : List ℕ) (at : ℕ) (s : State) (r : Step) (w : Way) (o : After w r at u.len) (few : s.count < 96) where
  -- 09h, 0Ah, 0Dh
  pub device_closes :
      (id : ℕ) (e : Finding) (zu su zu' su' : List Bool) (zp sp zp' sp' : List ℕ)
      → PlacedStep e (take 27 (drop 3 head)) at s zu su r zu' su'
      → (r.stop ≡ 0 → Names id (take 27 (drop 3 head)) at zp sp zp' sp')
      → (σ : Settings) (d : Description) (before : List Record) (v : List ℕ) (zs ss : List Bool)
      → UnderIs u head v
      → Whole v
      → byte v 0 ≡ id
      → (id ≡ 9) ⊎ ((id ≡ 10) ⊎ (id ≡ 13))
      → Judged σ id (drop 3 v) e
      → at ≡ place_after before
      → Gone d s (flags zs ss zu su) zp sp before
      → Then σ d before at v w head (flags zs ss zu' su') zp' sp'
  device_closes id e zu su zu' su' zp sp zp' sp' p n σ d before v zs ss k whole first kind j place g =
      went_then σ d before v s (flags zs ss zu su) r (flags zs ss zu' su') zp' sp' w head k.bytes whole first place k.held.size
      (omega (arith, few, g.tracks.count))
      ((take_it kind).takes d before place g.tracks)
      (λ x q z. named σ.chip id c small x q before zp sp zp' sp' place (names z) g.zone_first g.string_first)
      o.none_held
      o.none_cut
      o.same
      (λ z. let h = o.good z in (h.0 ∙ ap (λ (n : ℕ). at + n) k.long, h.1))
      o.bad
    where
      b : List ℕ
      b = take 27 (drop 3 head)

      c : List ℕ
      c = drop 3 v

      small : Bytes c
      small = bytes_drop 3 v k.bytes

      same : 5 ≤ length c → (i : ℕ) → i < 5 → byte b i ≡ byte c i
      same l i h = after_header head v k.held i (omega arith) (omega (arith, l, length-drop 3 v))

      step : PlacedStep e c at s zu su r zu' su'
      step = placed_as e b c at s zu su r zu' su' p (λ z. same_placement (byte b) (byte c) (same (j.long z)))

      take_it : (id ≡ 9) ⊎ ((id ≡ 10) ⊎ (id ≡ 13)) → TakeIs σ id c at s (flags zs ss zu su) r (flags zs ss zu' su')
      take_it (inl q) = take_placed σ id 9 c at s zs ss zu su e r zu' su' q refl (subst (λ (i : ℕ). Judged σ i c e) q j) step
      take_it (inr (inl q)) = take_placed σ id 10 c at s zs ss zu su e r zu' su' q refl (subst (λ (i : ℕ). Judged σ i c e) q j) step
      take_it (inr (inr q)) = take_placed σ id 13 c at s zs ss zu su e r zu' su' q refl (subst (λ (i : ℕ). Judged σ i c e) q j) step

      no_fault : r.stop ≡ 0 → e.fault ≡ 0
      no_fault z = go (eqb e.fault 0) refl
        where
          go : (t : Bool) → eqb e.fault 0 ≡ t → e.fault ≡ 0
          go true q = eqb-true e.fault 0 q
          go false q = let y = eqb-false e.fault 0 q in absurd (y (sym (p.faulty y).0 ∙ z))

      not_11 : (id ≡ 9) ⊎ ((id ≡ 10) ⊎ (id ≡ 13)) → (id ≡ 11 → ⊥) × (id ≡ 12 → ⊥)
      not_11 (inl q) = (λ z. omega (arith, q, z), λ z. omega (arith, q, z))
      not_11 (inr (inl q)) = (λ z. omega (arith, q, z), λ z. omega (arith, q, z))
      not_11 (inr (inr q)) = (λ z. omega (arith, q, z), λ z. omega (arith, q, z))

      names : r.stop ≡ 0 → Names id c at zp sp zp' sp'
      names z =
          let l = j.long (no_fault z) in
          record {
            text = λ q. absurd ((not_11 kind).1 q);
            zoning = λ q. absurd ((not_11 kind).0 q);
            placed = λ x y. rw (same l 4 (omega arith), same l 0 (omega arith)) at ((n z).placed x y);
          }
