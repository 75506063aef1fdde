-- What elements name is noted, one after the other.
-- Assumes nothing.
use Prim.Native.Nat.{ℕ, ◌+◌, ◌-◌, ◌<◌, ◌≤◌}
use native.Mathlib.Omega.{arith}
use mathlib.Core.Path.{◌≡◌, refl, sym, ◌∙◌, ap, subst}
use mathlib.Core.Bool.{Bool, true, false}
use mathlib.Core.List.{List, [], ◌∷◌, ◌++◌}
use mathlib.Core.Option.{some}
use lib.ListN.{length, drop, length-drop}
use lib.Seq.{drop-drop, get_or-drop}
use Rattle.format.specs.Slots.{byte, Bytes}
use Rattle.format.specs.Records.{Record, zone, string}
use Rattle.format.specs.Layout.{place_after}
use Rattle.format.specs.ZonesAndStrings.{zone_named, string_named}
use Rattle.format.specs.Decode.{content, decode}
use Rattle.format.specs.Verdict.{stated}
use Rattle.format.specs.declared.settings.Settings.{Settings}
use Rattle.format.proofs.Slots.{bytes_drop, bytes_take}
use Rattle.format.proofs.Stepped.{taken}
use Rattle.format.proofs.Growing.{place_snoc}
use Rattle.pass.specs.Tracks.{Took}
use Rattle.pass.proofs.Walking.{took_stated}
use Rattle.naming.proofs.Taken.{First, none_taken, first_taken, first_of, next_taken, took_grows}
use Rattle.format.specs.declared.pins.Chip.{Chip}
use Rattle.pass.proofs.Taking.{Placed, decode_placed}
use Rattle.firsts.specs.Firsts.{Firsts}
use Rattle.firsts.proofs.Naming.{firsts_same, firsts_put}
use lib.Dec.{eqb}
use borrow.Author.Tests.{eqb-true, eqb-false}
use Rattle.naming.specs.Naming.{Names}

module _ (chip : Chip) (id : ℕ) (c : List ℕ) (small : Bytes c) (x : Record) (e : decode chip id c ≡ some x) where
  zone_only : id ≡ 11 → x ≡ zone c
  unfolding decode
  zone_only i = let z : some (zone c) ≡ some x = sym (rw i refl) ∙ e in cc

  text_only : id ≡ 12 → x ≡ string c
  unfolding decode
  text_only i = let z : some (string c) ≡ some x = sym (rw i refl) ∙ e in cc

  pub named :
      (before : List Record) (zp sp zp' sp' : List ℕ) {at : ℕ}
      → at ≡ place_after before
      → Names id c at zp sp zp' sp'
      → Firsts zone_named zp before
      → Firsts string_named sp before
      → Firsts zone_named zp' (before ++ x ∷ []) × Firsts string_named sp' (before ++ x ∷ [])
  named before zp sp zp' sp' {at} p n f g = go (eqb id 11) refl (eqb id 12) refl
    where
      go :
          (t : Bool)
          → eqb id 11 ≡ t
          → (u : Bool)
          → eqb id 12 ≡ u
          → Firsts zone_named zp' (before ++ x ∷ []) × Firsts string_named sp' (before ++ x ∷ [])
      go true q u v =
          let i = eqb-true id 11 q in
          let w = n.zoning i in
          let y = zone_only i in (
            rw w.0 (firsts_same zone_named zp before x f (rw y refl)),
            rw w.1 (firsts_put string_named sp before x g (byte c 1) at (rw y refl) (small 1) p),
          )
      go false q true v =
          let i = eqb-true id 12 v in
          let w = n.text i in
          let y = text_only i in (
            rw w.0 (firsts_same zone_named zp before x f (rw y refl)),
            rw w.1 (firsts_same string_named sp before x g (rw y refl)),
          )
      go false q false v =
          let w = n.placed (eqb-false id 11 q) (eqb-false id 12 v) in
          let y = subst (Placed c) e (decode_placed chip id c (eqb-false id 11 q) (eqb-false id 12 v)) in (
            rw w.0 (firsts_put zone_named zp before x f (byte c 4) at (rw y refl) (small 4) p),
            rw w.1 (firsts_put string_named sp before x g (byte c 0) at (rw y refl) (small 0) p),
          )

-- the loop: some elements are noted, and others are ahead
pub record Sofar (σ : Settings) (p : List ℕ) (to base : ℕ) (zp sp : List ℕ) (gone : List Record) (i : ℕ) : Type 0 where
  pub mid : List Record
  pub ahead : Took σ mid (base + i) (drop i p) gone (base + to) (drop to p)
  pub place : base + i ≡ place_after mid
  pub zones : Firsts zone_named zp mid
  pub strings : Firsts string_named sp mid

pub sofar_none :
    (σ : Settings) (p : List ℕ) (to base : ℕ) (zp sp : List ℕ) (before gone : List Record)
    → base ≡ place_after before
    → Took σ before base p gone (base + to) (drop to p)
    → Firsts zone_named zp before
    → Firsts string_named sp before
    → Sofar σ p to base zp sp gone 0
sofar_none σ p to base zp sp before gone e k f g =
    let z : base + 0 ≡ base = omega arith in
    record { mid = before; ahead = rw z k; place = z ∙ e; zones = f; strings = g }

pub sofar_next :
    (σ : Settings) (p : List ℕ) (to base : ℕ) (zp sp : List ℕ) (gone : List Record) (i r : ℕ) (zp' sp' : List ℕ)
    → Bytes p
    → to ≤ length p
    → i < to
    → (3 ≤ stated (drop i p) → i + stated (drop i p) ≤ length p → (r ≡ stated (drop i p))
    × Names (byte p i) (content (drop i p)) (base + i) zp sp zp' sp')
    → Sofar σ p to base zp sp gone i
    → Sofar σ p to base zp' sp' gone (i + r)
sofar_next σ p to base zp sp gone i r zp' sp' small t l n w =
    let k = next_taken σ w.ahead (omega arith) in
    let bs = drop i p in
    let m = n k.2 (omega (arith, k.3, length-drop i p)) in
    let first : byte bs 0 ≡ byte p i = get_or-drop i p 0 0 ∙ ap (byte p) (omega arith) in
    let s = bytes_take (stated bs - 3) (drop 3 bs) (bytes_drop 3 bs (bytes_drop i p small)) in
    let d : decode σ.chip (byte p i) (content bs) ≡ some k.0 = rw first at (taken σ w.mid bs k.1).decoded_8 in
    let f = named σ.chip (byte p i) (content bs) s k.0 d w.mid zp sp zp' sp' w.place m.1 w.zones w.strings in
    let q = took_stated σ w.mid bs k.0 (bytes_drop i p small) (omega (arith, k.2, k.3)) k.1 in
    let a : base + i + stated bs ≡ base + (i + r) = omega (arith, m.0) in
    let b : drop (stated bs) bs ≡ drop (i + r) p = drop-drop (stated bs) i p ∙ ap (λ (n : ℕ). drop (i + n) p) (sym m.0) in
    record {
      mid = w.mid ++ k.0 ∷ [];
      ahead = rw (a, b) at k.4;
      place = omega (arith, q, m.0, w.place, place_snoc w.mid k.0);
      zones = f.0;
      strings = f.1;
    }

no_more :
    (σ : Settings) (zp sp : List ℕ) {rs qs : List Record} {a b : ℕ} {bs left : List ℕ}
    → First σ rs a bs qs b left
    → Firsts zone_named zp rs
    → Firsts string_named sp rs
    → b ≤ a
    → Firsts zone_named zp qs × Firsts string_named sp qs
no_more σ zp sp none_taken f g h = (f, g)
no_more σ zp sp (first_taken x e l m k) f g h = absurd (omega (arith, took_grows σ k))

pub sofar_all :
    (σ : Settings) (p : List ℕ) (to base : ℕ) (zp sp : List ℕ) (gone : List Record) (i : ℕ)
    → to ≤ i
    → Sofar σ p to base zp sp gone i
    → Firsts zone_named zp gone × Firsts string_named sp gone
sofar_all σ p to base zp sp gone i l w = no_more σ zp sp (first_of σ w.ahead) w.zones w.strings (omega arith)
