-- The end: where the pass is, and the rules before it, give the answer of the definitions.
-- Assumes nothing.
use Prim.Native.Nat.{ℕ, ◌+◌, ◌*◌, ◌%◌, ◌<◌, ◌≤◌}
use native.Mathlib.Omega.{arith}
use native.Mathlib.Nat.{mod-eq_of_lt}
use mathlib.Core.Path.{◌≡◌, refl, sym, ◌∙◌, subst}
use mathlib.Core.Bool.{Bool, true, false, false≢true}
use mathlib.Core.List.{List, [], ◌∷◌}
use mathlib.Core.Option.{Option, none, some}
use lib.ListN.{length, take, drop, drop_of_length-le, length-drop}
use lib.Seq.{length-take-le}
use lib.Dec.{eqb, leb}
use borrow.Author.Tests.{le-leb, lt-leb, eq-eqb, ne_eqb, eqb-true, eqb-false}
use Rattle.format.specs.Slots.{byte}
use Rattle.format.specs.Verdict.{stated}
use Rattle.format.specs.Rules.{description_rules}
use Rattle.format.specs.Table.{description_breaks}
use Rattle.format.specs.Reader.{over_all, conclude, unless_misdescribed}
use Rattle.format.specs.declared.pins.Chip.{Chip}
use Rattle.format.specs.declared.settings.Settings.{Settings}
use Rattle.format.specs.declared.records.Description.{Description}
use Rattle.format.specs.Answers.{Answer}
use Rattle.format.specs.Answers.{Refused}
use Rattle.format.proofs.Kept.{broken_small, description_numbered}
use Rattle.pass.specs.Tracks.{Flags}
use Rattle.stream.specs.Running.{Run, going, broken, run_bytes, begin, finish}
use Rattle.stream.specs.Arriving.{after}
use Rattle.closing.specs.Ways.{WayIs}
use Rattle.closing.specs.declared.Way.{Way}
use Rattle.states.specs.Numbers.{number, way_of}
use Rattle.advancing.specs.Advancing.{opened, Fresh, PlacedAt}
use Rattle.advancing.proofs.Placing.{placed_bytes}
use Rattle.ending.specs.Stands.{lent, described, StandsFor}
use Rattle.ending.specs.Ending.{AloneIs, OverIs, PassedIs, VerdictIs}

-- the number of a rule of the description is a byte
description_small : (c : Chip) (d : Description) (k : ℕ) → description_breaks c d ≡ some k → k < 256
description_small c d k e = omega (arith, broken_small (description_rules c d) (description_numbered c d) k e)

-- where the pass is
module _ (w : Way) (bare : Bool) (string : ℕ) (f : Flags) (zp sp : List ℕ) (a : Answer) where
  pub passed_stop : (w.stop ≡ 0 → ⊥) → a ≡ Refused (w.stop % 256) w.at → PassedIs w bare string f zp sp a
  passed_stop n p =
      record { fresh = λ _ σ d k e. first σ d k (description_breaks σ.chip d) refl; pass = λ _ d head m s k q e. later d head m s k q }
    where
      number_of : {k : ℕ} → w.stop ≡ k → k < 256 → w.stop % 256 ≡ k
      number_of e h = rw e (mod-eq_of_lt h)

      first :
          (σ : Settings) (d : Description)
          → Fresh σ d w
          → (o : Option ℕ)
          → description_breaks σ.chip d ≡ o
          → a ≡ unless_misdescribed o (over_all d [])
      first σ d k none q = absurd (n (k.good q).goes)
      first σ d k (some j) q =
          let b = k.bad j q in
          p ∙ rw (number_of b.0 (description_small σ.chip d j q), b.2) refl

      later : (d : Description) (head : List ℕ) (m : ℕ) (s : Run) → WayIs d w head f zp sp s → PlacedAt m s → a ≡ conclude d (finish s)
      later d head m (going before at u) k q = absurd (n k.goes)
      later d head m (broken i j) k q = p ∙ rw (number_of k.0 q, k.2) refl

  module _ (z : w.stop ≡ 0) where
    pub passed_alone : bare ≡ true → AloneIs string w.state.held a → PassedIs w bare string f zp sp a
    passed_alone t x =
        record {
          fresh = λ _ σ d k e. first σ d k e (description_breaks σ.chip d) refl;
          pass = λ y. absurd (false≢true (sym y ∙ t));
        }
      where
        first :
            (σ : Settings) (d : Description)
            → Fresh σ d w
            → string ≡ d.string
            → (o : Option ℕ)
            → description_breaks σ.chip d ≡ o
            → a ≡ unless_misdescribed o (over_all d [])
        first σ d k e none q = x.says d e (k.good q).held
        first σ d k e (some j) q = let b = k.bad j q in absurd (omega (arith, b.0, b.1, z))

    module _ (t : bare ≡ false) where
      later :
          ((d : Description) (head : List ℕ) (s : Run) → WayIs d w head f zp sp s → string ≡ d.string → a ≡ conclude d (finish s))
          → PassedIs w bare string f zp sp a
      later g = record { fresh = λ y. absurd (false≢true (sym t ∙ y)); pass = λ _ d head m s k q e. g d head s k e }

      pub passed_6 : (w.under.len ≡ 0 → ⊥) → a ≡ Refused 6 w.at → PassedIs w bare string f zp sp a
      passed_6 n p = later (λ d head s k e. go d head s k)
        where
          go : (d : Description) (head : List ℕ) (s : Run) → WayIs d w head f zp sp s → a ≡ conclude d (finish s)
          go d head (going before at []) k = absurd (n k.under.long)
          go d head (going before at (x ∷ u)) k = p ∙ rw k.here refl
          go d head (broken i j) k = absurd (omega (arith, k.0, k.1, z))

      pub passed_over : w.under.len ≡ 0 → OverIs string w.state f zp sp a → PassedIs w bare string f zp sp a
      passed_over l x = later go
        where
          go : (d : Description) (head : List ℕ) (s : Run) → WayIs d w head f zp sp s → string ≡ d.string → a ≡ conclude d (finish s)
          go d head (going before at []) k e = x.concludes d before e k.gone
          go d head (going before at (y ∷ u)) k e = absurd (omega (arith, k.under.long, l))
          go d head (broken i j) k e = absurd (omega (arith, k.0, k.1, z))

-- a description that breaks a rule
concluding : (d : Description) (o : Option ℕ) (s : Run) → conclude d (finish (opened o s)) ≡ unless_misdescribed o (conclude d (finish s))
concluding d none s = refl
concluding d (some k) s = refl

-- where the pass of a table is after its bytes
pub placed_of :
    (σ : Settings) (d : Description) (c : List ℕ)
    → 16 ≤ length c
    → PlacedAt (length c) (opened (description_breaks σ.chip d) (run_bytes σ begin (drop 16 c)))
placed_of σ d c h = go (description_breaks σ.chip d) refl
  where
    there : PlacedAt (length c) (run_bytes σ begin (drop 16 c))
    there =
        let e : 16 + length (drop 16 c) ≡ length c = omega (arith, length-drop 16 c) in
        subst (λ (n : ℕ). PlacedAt n (run_bytes σ begin (drop 16 c))) e (placed_bytes σ 16 begin (drop 16 c) (refl, omega arith))

    go : (o : Option ℕ) → description_breaks σ.chip d ≡ o → PlacedAt (length c) (opened o (run_bytes σ begin (drop 16 c)))
    go none q = there
    go (some k) q = description_small σ.chip d k q

-- all rules
module _ (n first : List ℕ) (f : Flags) (zp sp : List ℕ) (a : Answer) where
  abbrev For : Settings → List ℕ → List ℕ → Type 0
  For σ b head = StandsFor σ b (lent n first head f zp sp)

  abbrev cap : List ℕ → List ℕ
  cap b = take 4097 b

  abbrev breaks : Settings → List ℕ → Option ℕ
  breaks σ b = description_breaks σ.chip (described σ (after σ b))

  long : (σ : Settings) (b head : List ℕ) → For σ b head → number n 2 ≡ length (cap b)
  long σ b head s = s.count

  pub verdict_1 : number n 2 < 16 → a ≡ Refused 1 0 → VerdictIs n first f zp sp a
  verdict_1 h p =
      record { answers = λ σ b head s. p ∙ sym (rw (lt-leb 16 (length (cap b)) (omega (arith, long σ b head s))) refl) }

  module _ (h : 16 ≤ number n 2) where
    enough : (σ : Settings) (b head : List ℕ) → For σ b head → leb 16 (length (cap b)) ≡ true
    enough σ b head s = le-leb 16 (length (cap b)) (omega (arith, long σ b head s))

    same : (σ : Settings) (b head : List ℕ) → For σ b head → (i : ℕ) → i < 16 → byte first i ≡ byte (take 16 (cap b)) i
    same σ b head s i k =
        s.first.same i (omega arith) (omega (arith, length-take-le 16 (cap b) (omega (arith, long σ b head s))))

    pub verdict_2 : (byte first 0 ≡ 1 → ⊥) → a ≡ Refused 2 0 → VerdictIs n first f zp sp a
    verdict_2 m p =
        record {
          answers =
              λ σ b head s.
              p
              ∙ sym
              (rw (enough σ b head s, ne_eqb (byte (take 16 (cap b)) 0) 1 (λ e. m (same σ b head s 0 (omega arith) ∙ e))) refl);
        }

    module _ (e : byte first 0 ≡ 1) (u v : ℕ) (uu : u ≡ byte first 1) (vv : v ≡ byte first 2) where
      revised : (σ : Settings) (b head : List ℕ) → For σ b head → eqb (byte (take 16 (cap b)) 0) 1 ≡ true
      revised σ b head s = eq-eqb _ 1 (sym (same σ b head s 0 (omega arith)) ∙ e)

      told : (σ : Settings) (b head : List ℕ) → For σ b head → stated (take 16 (cap b)) ≡ u + 256 * v
      told σ b head s = rw (uu, vv, same σ b head s 1 (omega arith), same σ b head s 2 (omega arith)) refl

      pub verdict_3 : (u + 256 * v ≡ number n 2 → ⊥) → a ≡ Refused 3 0 → VerdictIs n first f zp sp a
      verdict_3 m p =
          record {
            answers =
                λ σ b head s.
                p
                ∙ sym
                (rw (
                  enough σ b head s,
                  revised σ b head s,
                  ne_eqb (stated (take 16 (cap b))) (length (cap b)) (λ q. m (sym (told σ b head s) ∙ q ∙ sym (long σ b head s))),
                ) refl);
          }

      module _ (m : u + 256 * v ≡ number n 2) where
        fits : (σ : Settings) (b head : List ℕ) → For σ b head → eqb (stated (take 16 (cap b))) (length (cap b)) ≡ true
        fits σ b head s = eq-eqb _ (length (cap b)) (told σ b head s ∙ m ∙ long σ b head s)

        pub verdict_3_over : 4096 < u + 256 * v → a ≡ Refused 3 0 → VerdictIs n first f zp sp a
        verdict_3_over k p =
            record {
              answers =
                  λ σ b head s.
                  p
                  ∙ sym
                  (rw (
                    enough σ b head s,
                    revised σ b head s,
                    fits σ b head s,
                    lt-leb (stated (take 16 (cap b))) 4096 (omega (arith, told σ b head s)),
                  ) refl);
            }

        pub verdict_on :
            {bare : Bool} {string : ℕ}
            → u + 256 * v ≤ 4096
            → bare ≡ eqb (number n 2) 16
            → string ≡ byte first 4
            → PassedIs (way_of n) bare string f zp sp a
            → VerdictIs n first f zp sp a
        verdict_on {bare} {string} k t i x =
            record {
              answers =
                  λ σ b head s.
                  by σ b head s (eqb (number n 2) 16) refl
                  ∙ sym
                  (rw (
                    enough σ b head s,
                    revised σ b head s,
                    fits σ b head s,
                    le-leb (stated (take 16 (cap b))) 4096 (omega (arith, told σ b head s)),
                  ) refl);
            }
          where
            by :
                (σ : Settings) (b head : List ℕ)
                → For σ b head
                → (y : Bool)
                → eqb (number n 2) 16 ≡ y
                → a ≡ unless_misdescribed (breaks σ b) (conclude (described σ (after σ b)) (finish (after σ b).run))
            by σ b head s true w =
                let l : length (cap b) ≡ 16 = sym (long σ b head s) ∙ eqb-true (number n 2) 16 w in
                rw (drop_of_length-le (cap b) {i = 16} (omega arith))
                (x.fresh (t ∙ w) σ (described σ (after σ b)) (s.fresh l) (i ∙ same σ b head s 4 (omega arith)))
            by σ b head s false w =
                let l : 16 < length (cap b) = omega (arith, h, long σ b head s, eqb-false (number n 2) 16 w) in
                x.pass (t ∙ w) (described σ (after σ b)) head (length (cap b)) (opened (breaks σ b) (after σ b).run)
                (s.pass l)
                (placed_of σ (described σ (after σ b)) (cap b) (omega arith))
                (i ∙ same σ b head s 4 (omega arith))
                ∙ concluding (described σ (after σ b)) (breaks σ b) (after σ b).run
