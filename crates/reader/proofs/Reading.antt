-- From the pass to the whole answer: what is gathered, the description before it, and the first three rules.
-- Assumes nothing.
use Prim.Native.Nat.{ℕ, ◌-◌, ◌≤◌, ◌<◌}
use native.Mathlib.Omega.{arith}
use mathlib.Core.Path.{◌≡◌, refl, sym, ◌∙◌, ap, subst}
use mathlib.Core.Bool.{Bool, true, false}
use mathlib.Core.List.{List, [], ◌∷◌, append-nil}
use mathlib.Core.Option.{Option, none}
use lib.ListN.{length, set, take, drop, replicate, length-drop}
use lib.Seq.{take_all}
use Rattle.format.proofs.Slots.{bytes_drop}
use borrow.Author.Tests.{eq-eqb, le-leb}
use Rattle.format.specs.Slots.{byte, Bytes}
use Rattle.format.specs.ZonesAndStrings.{strings}
use Rattle.format.specs.Rules.{numbered, description_rules, strapped}
use Rattle.format.specs.Claims.{made_at, first_claims}
use Rattle.format.specs.Table.{description_breaks}
use Rattle.format.specs.Verdict.{stated}
use Rattle.format.specs.Decode.{read_description}
use Rattle.format.specs.Reader.{pass, elements_of, conclude, unless_misdescribed, after_description, verdict_of}
use Rattle.format.specs.declared.records.Description.{Description}
use Rattle.format.specs.Answers.{Answer}
use Rattle.format.specs.Answers.{Refused}
use Rattle.format.proofs.Kept.{zero_none, some_number, description_numbered, description_kept}
use Rattle.flags.specs.Marks.{Marks}
use Rattle.flags.proofs.Marked.{marks_clear, marks_put, marks_front}
use Rattle.claims.specs.Taken.{HeldIs}
use Rattle.pass.specs.Tracks.{Flags, flags, Tracks, Walked, WalkIs}
use Rattle.pass.proofs.Walking.{walk_halted, walk_through}
use Rattle.pass.specs.declared.State.{State}
use Rattle.pass.specs.Steps.{Over}
use Rattle.reader.specs.Whole.{Gathered}
use Rattle.format.specs.declared.pins.Chip.{Chip}
use Rattle.format.specs.declared.settings.Settings.{Settings}

-- before the first element, with all flags clear but the description's string index
pub at_start :
    (d : Description) (s : State) (n : ℕ)
    → n < 256
    → n ≡ d.string
    → s.count ≡ 0
    → s.zones ≡ 0
    → HeldIs s.held (made_at 0 (first_claims d))
    → s.last ≡ 0
    → Tracks d s (flags (replicate 256 false) (replicate 256 false) (replicate 256 false) (set (replicate 256 false) n true)) []
at_start d s n low e c z h l =
    record {
      count = c;
      zoned = z;
      few = omega (arith, z);
      zone = marks_clear;
      string = marks_clear;
      zone_use = marks_clear;
      string_use =
          subst (λ (m : ℕ). Marks (set (replicate 256 false) n true) (m ∷ [])) e (marks_put (replicate 256 false) [] n low marks_clear);
      held = rw append-nil h;
      fans = l;
    }

-- the walk over the bytes from 16 on, as the code takes them
pub walked :
    (σ : Settings) (t : List ℕ) (s : State) (f : Flags) (r : Over) (g : Flags)
    → Bytes t
    → Tracks (read_description σ.chip (byte t)) s f []
    → WalkIs σ (take (length t - 16) (drop 16 t)) 16 s f r g
    → Walked σ (read_description σ.chip (byte t)) (drop 16 t) 16 [] r g
walked σ t s f r g small k w =
    let e : take (length t - 16) (drop 16 t) ≡ drop 16 t = take_all (length t - 16) (drop 16 t) (omega (arith, length-drop 16 t)) in
    (subst (λ (l : List ℕ). WalkIs σ l 16 s f r g) e w).walks (read_description σ.chip (byte t)) [] (bytes_drop 16 t small) refl k

-- where the pass stopped
pub stopped_there :
    (σ : Settings) (d : Description) (t : List ℕ) (r : Over) (f : Flags)
    → Walked σ d (drop 16 t) 16 [] r f
    → (r.stop ≡ 0 → ⊥)
    → Refused r.stop r.place ≡ conclude d (elements_of σ t)
stopped_there σ d t r f w n = sym (ap (conclude d) (walk_halted σ d (drop 16 t) 16 [] r f w n))

-- where it came through
pub came_through :
    (σ : Settings) (t : List ℕ) (r : Over) (zs ss zu su : List Bool)
    → Walked σ (read_description σ.chip (byte t)) (drop 16 t) 16 [] r (flags zs ss zu su)
    → r.stop ≡ 0
    → Bytes t
    → 16 ≤ length t
    → length t ≤ 4096
    → Gathered σ t r.state zs (set ss 0 true) zu su
came_through σ t r zs ss zu su w n b l m =
    let k = w.tracks in
    let e = walk_through σ (read_description σ.chip (byte t)) (drop 16 t) 16 [] r (flags zs ss zu su) w n in
    record {
      table = record { bytes = b; long = l; top = m; rs = w.gone; whole = e };
      count = k.count;
      zone = k.zone;
      string = marks_front ss (strings w.gone) 0 (omega arith) k.string;
      zone_use = k.zone_use;
      string_use = k.string_use;
      held = k.held;
    }

-- the description
good_none : (c : Chip) (d : Description) → numbered (description_breaks c d) ≡ 0 → description_breaks c d ≡ none
good_none c d h = zero_none (description_rules c d) (description_numbered c d) h

pub misdescribed_there :
    (σ : Settings) (d : Description) (bs : List ℕ) (k : ℕ) → k ≡ numbered (description_breaks σ.chip d) → (k ≡ 0 → ⊥) → Refused k 0
    ≡ after_description σ d bs
misdescribed_there σ d bs k e n =
    rw e (sym (ap (λ (o : Option ℕ). unless_misdescribed o (conclude d (pass σ (length bs) [] 16 bs)))
    (some_number (description_breaks σ.chip d) (λ z. n (e ∙ z)))))

well_described :
    (σ : Settings) (d : Description) (bs : List ℕ) (k : ℕ) (a : Answer)
    → k ≡ numbered (description_breaks σ.chip d)
    → k ≡ 0
    → a ≡ conclude d (pass σ (length bs) [] 16 bs)
    → a ≡ after_description σ d bs
well_described σ d bs k a e z p =
    p ∙ sym (ap (λ (o : Option ℕ). unless_misdescribed o (conclude d (pass σ (length bs) [] 16 bs))) (good_none σ.chip d (sym e ∙ z)))

-- after a good description
module _ (σ : Settings) (t : List ℕ) (d : Description) (k : ℕ) (e : d ≡ read_description σ.chip (byte t))
    (f : k ≡ numbered (description_breaks σ.chip d)) (z : k ≡ 0) where
  pub good_strapped : strapped σ.chip d ≡ true
  good_strapped = (description_kept σ.chip d (good_none σ.chip d (sym f ∙ z))).pins_10

  pub after_elements :
      (a : Answer)
      → a ≡ conclude (read_description σ.chip (byte t)) (elements_of σ t)
      → a ≡ after_description σ (read_description σ.chip (byte t)) (drop 16 t)
  after_elements a p = well_described σ (read_description σ.chip (byte t)) (drop 16 t) k a (rw e at f) z p

-- after the first three rules
module _ (σ : Settings) (t : List ℕ) where
  pub answer_on :
      16 ≤ length t
      → byte t 0 ≡ 1
      → stated t ≡ length t
      → length t ≤ 4096
      → after_description σ (read_description σ.chip (byte t)) (drop 16 t) ≡ verdict_of σ t
  unfolding verdict_of
  answer_on h e p n =
      sym (simp (le-leb 16 (length t) h, eq-eqb (byte t 0) 1 e, eq-eqb (stated t) (length t) p, le-leb (stated t) 4096 (omega (arith, p))))
