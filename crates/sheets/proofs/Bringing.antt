-- The last element of an accepted table, entered on the old sheet.
-- Assumes nothing.
use Prim.Native.Nat.{ℕ, suc, ◌-◌, ◌<◌}
use native.Mathlib.Omega.{arith}
use mathlib.Core.Path.{◌≡◌, refl, sym, ◌∙◌, ap, subst}
use mathlib.Core.Bool.{true}
use mathlib.Core.List.{List, [], ◌∷◌, ◌++◌}
use lib.ListN.{length, take, drop, take-append-drop, length-drop}
use Rattle.format.specs.Slots.{Bytes}
use Rattle.format.specs.Records.{Record}
use Rattle.format.specs.Pins.{every}
use Rattle.format.specs.Rules.{pinned}
use Rattle.format.specs.Claims.{Made, made_at, claims_of}
use Rattle.format.specs.Verdict.{Accepts, Verdict, accepted}
use Rattle.format.specs.declared.settings.Settings.{Settings}
use Rattle.format.specs.Answers.{Gives as Accepted}
use Rattle.format.proofs.Demand3.{unique}
use Rattle.walking.specs.Walk.{Here, Walk, Located}
use Rattle.walking.proofs.Left.{Next, next, top}
use Rattle.shown.specs.Own.{no_pins}
use Rattle.shown.specs.declared.OwnPins.{OwnPins}
use Rattle.pinsheet.specs.Sheet.{entered, forward}
use Rattle.pinsheet.proofs.Sheet.{last_snoc}
use Rattle.sheets.specs.Lines.{read, Lines, Filled}
use Rattle.sheets.specs.Named.{by_pins}
use Rattle.sheets.proofs.Naming.{lines_by, no_pins_lem}
use Rattle.sheets.proofs.Filling.{keeps_10}

abbrev Nothing : List Record → List Record → Type 0
Nothing done left = Unit {0}

no_more : (l : List Record) → length l ≡ 0 → l ≡ []
no_more [] h = refl
no_more (r ∷ l) h = absurd (omega (arith, h))

module _
    (σ : Settings) (t : List ℕ) (n at : ℕ)
    (small : Bytes t) (v : Verdict σ t (Accepted n)) (h : 0 < n) (l : Located σ t (n - 1) at) where
  count : length l.rs ≡ n
  count = cc (unique σ t (Accepted (length l.rs)) (Accepted n) small (accepted l.d l.rs l.accepts) v)

  halves : Accepts σ t l.d (take (n - 1) l.rs ++ drop (n - 1) l.rs)
  halves = subst (λ (k : List Record). Accepts σ t l.d k) (sym (take-append-drop (n - 1) l.rs)) l.accepts

  walk : Walk σ t at Nothing
  walk =
      record {
        d = l.d;
        done = take (n - 1) l.rs;
        left = drop (n - 1) l.rs;
        accepts = halves;
        place = l.place;
        state = tt;
      }

  before_end : at < length t
  before_end = omega (arith, l.here.size, l.here.within)

  abbrev done : List Record
  done = take (n - 1) l.rs

  last : Next σ t at done (drop (n - 1) l.rs)
  unfolding walk
  last = next σ t at Nothing walk before_end

  pub low : at < 4096
  low = omega (arith, before_end, top σ t at Nothing walk)

  only_left : drop (n - 1) l.rs ≡ last.r ∷ []
  only_left =
      let n' : length (drop (n - 1) l.rs) ≡ suc (length last.others) = ap length last.same in
      last.same
      ∙ ap (λ (k : List Record). last.r ∷ k) (no_more last.others (omega (arith, n', length-drop (n - 1) l.rs, count, h)))

  pub brought :
      (old new : List ℕ)
      → ((x : Record) → Here σ.chip t at x → pinned σ.chip x ≡ true → Lines (entered every (made_at at (claims_of x)) (read old)) new)
      → Filled σ t (λ d rs. forward rs (read old)) new
  brought old new enters =
      let r = last.r in
      record {
        d = l.d;
        rs = done ++ r ∷ [];
        accepts = subst (λ (k : List Record). Accepts σ t l.d (done ++ k)) only_left halves;
        left =
            lines_by
            (ap (λ (m : ℕ). entered every (made_at m (claims_of r)) (read old)) l.place
            ∙ ap (λ (ms : List Made). entered every ms (read old)) (sym (last_snoc 16 done r)))
            (enters r last.here (keeps_10 σ t at done (drop (n - 1) l.rs) last));
      }

-- no element, and so nothing to enter
pub stays :
    (σ : Settings) (t : List ℕ) {n : ℕ} (old new : List ℕ) {pins : OwnPins}
    → Verdict σ t (Accepted n)
    → n ≡ 0
    → pins ≡ no_pins
    → Lines (entered every (made_at 0 (by_pins pins)) (read old)) new
    → Filled σ t (λ d rs. forward rs (read old)) new
stays σ t old new (accepted d rs a) z e l =
    record {
      d = d;
      rs = [];
      accepts = subst (λ (k : List Record). Accepts σ t d k) (no_more rs z) a;
      left = lines_by (ap (λ (p : OwnPins). entered every (made_at 0 (by_pins p)) (read old)) e ∙ no_pins_lem 0 (read old)) l;
    }
