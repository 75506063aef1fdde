-- An element that a cut went through, once it is whole, by its identifier and its length.
-- Assumes nothing.
use Prim.Native.Nat.{ℕ, zero, suc, ◌+◌, ◌<◌, ◌≤◌}
use native.Mathlib.Omega.{arith}
use mathlib.Core.Path.{◌≡◌, refl, sym, ◌∙◌, ap, subst}
use mathlib.Core.Bool.{true, false}
use mathlib.Core.List.{List, [], ◌∷◌}
use lib.ListN.{length, take, drop, length-drop}
use lib.Seq.{ext_get_or, get_or-take, length-take-le}
use Rattle.format.specs.Slots.{byte}
use Rattle.format.specs.Records.{Record}
use Rattle.format.specs.Layout.{place_after}
use Rattle.format.specs.Verdict.{known}
use Rattle.format.specs.declared.settings.Settings.{Settings}
use Rattle.format.specs.declared.records.Description.{Description}
use Rattle.found.specs.Judged.{Judged}
use Rattle.found.specs.Judged.{Finding}
use Rattle.pass.specs.Tracks.{Flags}
use Rattle.pass.specs.declared.State.{State}
use Rattle.underway.specs.Under.{Holds, UnderIs}
use Rattle.underway.specs.declared.Under.{Under}
use Rattle.closing.specs.Ways.{Gone, Plain, Whole, Then, FixedIs}
use Rattle.closing.specs.declared.Way.{Way}
use Rattle.closing.proofs.Ending.{the_step, crowded_then}
use Rattle.closing.proofs.Long.{long_outcome}

-- the identifier, and all bytes of an element that is no longer than what is kept
pub first_kept : (u : Under) (head v : List ℕ) → UnderIs u head v → Whole v → byte v 0 ≡ byte head 0
first_kept u head v k w = sym (k.held.same 0 (omega arith) (omega (arith, w.0, w.1)))

kept_whole : (head v : List ℕ) → Holds head v → length v ≤ 30 → take (length v) head ≡ v
kept_whole head v h l =
    let n = length-take-le (length v) head (omega (arith, h.size)) in
    ext_get_or 0 (take (length v) head) v n (λ i a. get_or-take (length v) head i 0 (omega (arith, a, n))
    ∙ h.same i (omega (arith, a, n)) (omega (arith, a, n)))

pub judged_as : (σ : Settings) (k id : ℕ) (c : List ℕ) (e : Finding) → id ≡ k → Judged σ k c e → Judged σ id c e
judged_as σ k id c e q j = subst (λ (i : ℕ). Judged σ i c e) (sym q) j

take_short : (n : ℕ) (l : List ℕ) → length (take n l) ≤ n
take_short zero l = omega arith
take_short (suc n) [] = omega arith
take_short (suc n) (x ∷ l) = omega (arith, take_short n l)

pub plain_fixed : (w : Way) (at n m : ℕ) (l : List ℕ) → n ≡ m → Plain w (at + length (take n l)) → Plain w (at + m)
plain_fixed w at n m l e k =
    record { low = k.low; none_held = k.none_held; none_cut = k.none_cut; within = omega (arith, k.within, take_short n l, e) }

module _ (σ : Settings) (u : Under) (head : List ℕ) (at : ℕ) (s : State) (f : Flags) (zp sp : List ℕ) (w : Way) where
  abbrev Closes : Flags → List ℕ → List ℕ → Type 0
  Closes g zp' sp' =
      (d : Description) (before : List Record) (v : List ℕ)
      → UnderIs u head v
      → Whole v
      → at ≡ place_after before
      → Gone d s f zp sp before
      → Then σ d before at v w head g zp' sp'

  pub closed_11 : 96 ≤ s.count → w.stop ≡ 11 → w.at ≡ at → Closes f zp sp
  closed_11 n e q d before v k whole p g =
      crowded_then σ d before v s f (record { stop = 0; state = s }) f zp sp w head k.bytes whole refl p k.held.size
      (omega (arith, n, g.tracks.count)) e q

  pub closed_long :
      {id j : ℕ}
      → id ≡ byte head 0
      → s.count < 96
      → (id ≡ 9 → ⊥)
      → (id ≡ 10 → ⊥)
      → (id ≡ 12 → ⊥)
      → (id ≡ 13 → ⊥)
      → 30 < u.len
      → (known id ≡ true → j ≡ 8) × (known id ≡ false → j ≡ 7)
      → w.stop ≡ j
      → w.at ≡ at
      → Closes f zp sp
  closed_long {id} {j} i n a b c e l m t q d before v k whole p g =
      let first : byte v 0 ≡ id = first_kept u head v k whole ∙ sym i in
      let o = long_outcome σ before id (drop 3 v) (omega (arith, l, k.long, length-drop 3 v)) a b c e m in
      let z = the_step σ d before v s f (record { stop = 0; state = s }) f zp sp w head k.bytes whole first p k.held.size
      (omega (arith, n, g.tracks.count)) ∙ o.0 in
      rw z (t, o.1, q)

  pub closed_fixed :
      (g : Flags) (zp' sp' : List ℕ) (n : ℕ) → n ≡ u.len → u.len ≤ 30 → FixedIs σ (take n head) at s f zp sp w g zp' sp'
      → Closes g zp' sp'
  closed_fixed g zp' sp' n m l x d before v k whole p y =
      let e : take n head ≡ v = ap (λ (n : ℕ). take n head) (m ∙ k.long) ∙ kept_whole head v k.held (omega (arith, l, k.long)) in
      (subst (λ (p : List ℕ). FixedIs σ p at s f zp sp w g zp' sp') e x).then d before head k.held.size k.bytes whole p y
