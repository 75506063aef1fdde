-- The pass before the first element: where the description is whole, and with all flags and places clear.
-- Assumes nothing.
use Prim.Native.Nat.{ℕ, ◌+◌, ◌<◌, ◌≤◌}
use native.Mathlib.Omega.{arith}
use mathlib.Core.Path.{◌≡◌, refl, sym, ◌∙◌, ap, subst}
use mathlib.Core.Bool.{Bool, true, false, ◌&&◌, false≢true, and-eq-true_iff}
use mathlib.Core.List.{List, []}
use mathlib.Core.Option.{Option, none, some}
use lib.ListN.{length, replicate, length-replicate, get_or-replicate}
use lib.Dec.{leb}
use borrow.Author.Tests.{leb-true, le-leb}
use Rattle.format.specs.Slots.{Bytes}
use Rattle.format.specs.Rules.{numbered, strapped, description_rules}
use Rattle.format.specs.ZonesAndStrings.{Role, zone_named, string_named}
use Rattle.format.specs.Claims.{made_at, first_claims}
use Rattle.format.specs.Table.{description_breaks}
use Rattle.format.specs.declared.pins.Chip.{Chip}
use Rattle.format.specs.declared.settings.Settings.{Settings}
use Rattle.format.specs.declared.records.Description.{Description}
use Rattle.format.proofs.Kept.{zero_none, description_numbered, description_kept}
use Rattle.claims.specs.Taken.{HeldIs}
use Rattle.pass.specs.Tracks.{Flags}
use Rattle.firsts.specs.Firsts.{Firsts}
use Rattle.reader.proofs.Reading.{at_start}
use Rattle.stream.specs.Running.{going, run_bytes, begin}
use Rattle.closing.specs.Ways.{Gone, WayIs}
use Rattle.closing.specs.declared.Way.{Way}
use Rattle.closing.proofs.Ending.{on_after}
use Rattle.advancing.specs.Advancing.{opened, AtSixteen, Fresh, Sound, SoundIs, Cleared, ClearIs, GoIs, AdvanceIs}
use Rattle.advancing.proofs.Placing.{stays}

no_firsts : (names : Role → List ℕ) → Firsts names (replicate 256 0) []
no_firsts names = record { size = length-replicate {A = ℕ} 256 0; place = λ n h. get_or-replicate 256 n 0 0 h }

-- the description is whole
module _ (σ : Settings) (d e : Description) (k : ℕ) (r : Way) (same : e ≡ d) (f : k ≡ numbered (description_breaks σ.chip e)) where
  number : k ≡ numbered (description_breaks σ.chip d)
  number = f ∙ ap (λ (x : Description). numbered (description_breaks σ.chip x)) same

  pub open_bad : (k ≡ 0 → ⊥) → r.stop ≡ k → r.at ≡ 0 → Fresh σ d r
  open_bad n p q =
      record {
        good = λ z. absurd (n (number ∙ ap numbered z));
        bad = λ j z. let y : k ≡ j = number ∙ ap numbered z in (p ∙ y, omega (arith, n, y), q);
      }

  pub open_good :
      k ≡ 0
      → r.stop ≡ 0
      → r.at ≡ 16
      → r.under.len ≡ 0
      → r.under.at ≡ 0
      → r.state.count ≡ 0
      → r.state.zones ≡ 0
      → r.state.last ≡ 0
      → ((c : Chip) → strapped c e ≡ true → HeldIs r.state.held (made_at 0 (first_claims e)))
      → Fresh σ d r
  open_good z p q l m a b c h =
      let free : description_breaks σ.chip d ≡ none = zero_none (description_rules σ.chip d) (description_numbered σ.chip d)
      (sym number ∙ z) in
      let w = (description_kept σ.chip d free).pins_10 in
      record {
        good =
            λ _.
            record {
              goes = p;
              here = q;
              none_held = l;
              none_cut = m;
              count = a;
              zones = b;
              fans = c;
              held = subst (λ (x : Description). HeldIs r.state.held (made_at 0 (first_claims x))) same
                  (h σ.chip (subst (λ (x : Description). strapped σ.chip x ≡ true) (sym same) w));
            };
        bad = λ j y. absurd (none_some (sym free ∙ y));
      }
    where
      none_some : {j : ℕ} → none ≡ some j → ⊥
      none_some q = let z : ◌≡◌ {A = ℕ} 0 1 = cc in absurd (omega arith)

-- the flags are clear, and the first bytes come
module _ (σ : Settings) (w : Way) (q : List ℕ) (string : ℕ) (head : List ℕ) (f : Flags) (zp sp : List ℕ) (c : Cleared string f zp sp) where
  pub begins :
      (r : Way) (head' : List ℕ) (f' : Flags) (zp' sp' : List ℕ)
      → GoIs σ w q head f zp sp r head' f' zp' sp'
      → (d : Description)
      → AtSixteen d w
      → string ≡ d.string
      → length head ≡ 30
      → Bytes q
      → 0 < length q
      → 16 + length q ≤ 4097
      → WayIs d r head' f' zp' sp' (run_bytes σ begin q)
  begins r head' f' zp' sp' x d a e size small m l =
      x.more d 16 begin a.goes
      (subst (λ (n : ℕ). WayIs d w head f zp sp (going [] n [])) a.here
      (on_after d w head f zp sp [] a.goes a.none_held a.none_cut size a.here (gone d a e)))
      (refl, omega arith)
      small
      m
      l
    where
      gone : (d : Description) → AtSixteen d w → string ≡ d.string → Gone d w.state f zp sp []
      gone d a e =
          record {
            tracks = rw c.all (at_start d w.state string c.low e a.count a.zones a.held a.fans);
            zone_first = rw c.zone_first (no_firsts zone_named);
            string_first = rw c.string_first (no_firsts string_named);
          }

-- four tests in a row
pub sound_all :
    (w : Way) (m k : ℕ) {r : Bool}
    → r ≡ ((leb m k && leb w.under.at 10000) && leb w.state.count 96) && leb w.state.zones 12
    → w.at + w.under.len + k ≡ 4097
    → SoundIs w m r
sound_all w m k {r} e s = record { yes = λ z. good (sym e ∙ z); no = λ z x. false≢true (sym z ∙ e ∙ all x) }
  where
    good : ((leb m k && leb w.under.at 10000) && leb w.state.count 96) && leb w.state.zones 12 ≡ true → Sound w m
    good h =
        let a = (and-eq-true_iff ((leb m k && leb w.under.at 10000) && leb w.state.count 96) (leb w.state.zones 12)).0 h in
        let b = (and-eq-true_iff (leb m k && leb w.under.at 10000) (leb w.state.count 96)).0 a.0 in
        let c = (and-eq-true_iff (leb m k) (leb w.under.at 10000)).0 b.0 in
        record {
          ends = omega (arith, leb-true m k c.0);
          cut = leb-true w.under.at 10000 c.1;
          low = record { most = leb-true w.state.count 96 b.1; few = leb-true w.state.zones 12 a.1 };
        }

    all : Sound w m → ((leb m k && leb w.under.at 10000) && leb w.state.count 96) && leb w.state.zones 12 ≡ true
    all x =
        rw (
          le-leb m k (omega (arith, x.ends)),
          le-leb w.under.at 10000 x.cut,
          le-leb w.state.count 96 x.low.most,
          le-leb w.state.zones 12 x.low.few,
        ) refl

pub unsound : (w : Way) (m : ℕ) {r : Bool} → r ≡ false → (Sound w m → ⊥) → SoundIs w m r
unsound w m e n = record { yes = λ z. absurd (false≢true (sym e ∙ z)); no = λ _. n }

-- bytes of elements, the first of all or more of them
module _ (σ : Settings) (w : Way) (fresh : Bool) (q : List ℕ) (string : ℕ) (head : List ℕ) (f : Flags) (zp sp : List ℕ) where
  pub advance_none : length q ≡ 0 → AdvanceIs σ w fresh q string head f zp sp w head f zp sp
  advance_none z =
      record {
        still = λ _. (refl, refl, refl, refl, refl);
        first = λ _ d k e size small m l. absurd (omega arith);
        more = λ _ d n s k p small m l. absurd (omega arith);
      }

  pub advance_stopped : (length q ≡ 0 → ⊥) → (w.stop ≡ 0 → ⊥) → AdvanceIs σ w fresh q string head f zp sp w head f zp sp
  advance_stopped a n =
      record {
        still = λ z. absurd (a z);
        first = λ _ d k e size small m l. go d k (description_breaks σ.chip d) refl;
        more = λ _ d m s k p small h l. stays σ w q head f zp sp d s n k;
      }
    where
      go :
          (d : Description)
          → Fresh σ d w
          → (o : Option ℕ)
          → description_breaks σ.chip d ≡ o
          → WayIs d w head f zp sp (opened o (run_bytes σ begin q))
      go d k none z = absurd (n (k.good z).goes)
      go d k (some j) z = k.bad j z

  pub advance_begun :
      (f₁ : Flags) (zp₁ sp₁ : List ℕ) (r : Way) (head' : List ℕ) (f' : Flags) (zp' sp' : List ℕ)
      → (length q ≡ 0 → ⊥)
      → w.stop ≡ 0
      → fresh ≡ true
      → Cleared string f₁ zp₁ sp₁
      → GoIs σ w q head f₁ zp₁ sp₁ r head' f' zp' sp'
      → AdvanceIs σ w fresh q string head f zp sp r head' f' zp' sp'
  advance_begun f₁ zp₁ sp₁ r head' f' zp' sp' a g y c x =
      record {
        still = λ z. absurd (a z);
        first = λ _ d k e size small m l. go d k (description_breaks σ.chip d) refl
            (λ t. begins σ w q string head f₁ zp₁ sp₁ c r head' f' zp' sp' x d t e size small m l);
        more = λ z. absurd (false≢true (sym z ∙ y));
      }
    where
      go :
          (d : Description)
          → Fresh σ d w
          → (o : Option ℕ)
          → description_breaks σ.chip d ≡ o
          → (AtSixteen d w → WayIs d r head' f' zp' sp' (run_bytes σ begin q))
          → WayIs d r head' f' zp' sp' (opened o (run_bytes σ begin q))
      go d k none z t = t (k.good z)
      go d k (some j) z t = let b = k.bad j z in absurd (omega (arith, b.0, b.1, g))

  pub advance_on :
      (r : Way) (head' : List ℕ) (f' : Flags) (zp' sp' : List ℕ)
      → (length q ≡ 0 → ⊥)
      → w.stop ≡ 0
      → fresh ≡ false
      → GoIs σ w q head f zp sp r head' f' zp' sp'
      → AdvanceIs σ w fresh q string head f zp sp r head' f' zp' sp'
  advance_on r head' f' zp' sp' a g y x =
      record {
        still = λ z. absurd (a z);
        first = λ z. absurd (false≢true (sym y ∙ z));
        more = λ _ d n s k p small m l. x.more d n s g k p small m l;
      }

  -- by whether they are the first
  pub advance_after :
      (f₁ : Flags) (zp₁ sp₁ : List ℕ) (r : Way) (head' : List ℕ) (f' : Flags) (zp' sp' : List ℕ)
      → (length q ≡ 0 → ⊥)
      → w.stop ≡ 0
      → ClearIs fresh string f zp sp f₁ zp₁ sp₁
      → GoIs σ w q head f₁ zp₁ sp₁ r head' f' zp' sp'
      → AdvanceIs σ w fresh q string head f zp sp r head' f' zp' sp'
  advance_after f₁ zp₁ sp₁ r head' f' zp' sp' a g c x = go fresh refl
    where
      go : (t : Bool) → fresh ≡ t → AdvanceIs σ w fresh q string head f zp sp r head' f' zp' sp'
      go true e = advance_begun f₁ zp₁ sp₁ r head' f' zp' sp' a g e (c.first e) x
      go false e = let y = c.later e in advance_on r head' f' zp' sp' a g e (rw (y.0, y.1, y.2) at x)
