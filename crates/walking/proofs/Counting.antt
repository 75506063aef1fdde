-- The walk to element k: so many elements lie behind, and element k is among those that are left.
-- Assumes nothing.
use Prim.Native.Nat.{ℕ, ◌+◌, ◌≤◌, ◌<◌}
use native.Mathlib.Omega.{arith}
use mathlib.Core.Path.{◌≡◌, refl, sym, ◌∙◌, ap}
use mathlib.Core.List.{List, [], ◌∷◌, ◌++◌}
use mathlib.Core.Option.{some}
use lib.ListN.{length, drop, length-append}
use lib.Seq.{take_at}
use Rattle.format.specs.Records.{Record}
use Rattle.format.specs.Layout.{place_after}
use Rattle.format.specs.Verdict.{stated, Verdict}
use Rattle.format.specs.Asked.{nth}
use Rattle.format.specs.declared.settings.Settings.{Settings}
use Rattle.format.specs.Answers.{Gives as Accepted}
use Rattle.walking.specs.Walk.{Walk, Located}
use Rattle.walking.proofs.Left.{Next, begin, next, onward, unfinished}

nth_part : (done : List Record) (r : Record) (others : List Record) → nth (done ++ r ∷ others) (length done) ≡ some r
nth_part [] r others = refl
nth_part (x ∷ done) r others = nth_part done r others

first_is :
    (done left : List Record) (r : Record) (others : List Record) (k : ℕ)
    → left ≡ r ∷ others
    → length done ≡ k
    → nth (done ++ left) k ≡ some r
first_is done left r others k e n = rw (e, ← n) (nth_part done r others)

abbrev Counted : ℕ → ℕ → List Record → List Record → Type 0
Counted k i done left = (length done ≡ i) × (k < i + length left)

-- the loop's invariant
pub record Count (σ : Settings) (t : List ℕ) (k at i : ℕ) : Type 0 where
  pub walk : Walk σ t at (Counted k i)
  pub not_past : i ≤ k

pub begun : (σ : Settings) (t : List ℕ) (k n : ℕ) → Verdict σ t (Accepted n) → k < n → Count σ t k 16 0
begun σ t k n v h = record { walk = begin σ t (Counted k 0) v (λ rs e. (refl, omega (arith, e))); not_past = omega arith }

module _ (σ : Settings) (t : List ℕ) (k at i : ℕ) (c : Count σ t k at i) where
  before_end : at < length t
  before_end = unfinished σ t at (Counted k i) c.walk (omega (arith, c.walk.state.1, c.not_past))

  pub here : Next σ t at c.walk.done c.walk.left
  here = next σ t at (Counted k i) c.walk before_end

  pub turned : {n : ℕ} → n ≡ stated (drop at t) → i < k → Count σ t k (at + n) (i + 1)
  turned e h =
      record {
        walk =
            onward σ t at (Counted k i) c.walk (Counted k (i + 1)) before_end e (λ g. (
              length-append c.walk.done (g.r ∷ []) ∙ ap (λ (n : ℕ). n + 1) c.walk.state.0,
              omega (arith, c.walk.state.1, ap length g.same),
            ));
        not_past = omega arith;
      }

  pub there : k ≤ i → Located σ t k at
  there h =
      let w = c.walk in
      let e : length w.done ≡ k = omega (arith, w.state.0, c.not_past) in
      record {
        d = w.d;
        rs = w.done ++ w.left;
        accepts = w.accepts;
        r = here.r;
        is_nth = first_is w.done w.left here.r here.others k here.same e;
        place = w.place ∙ ap place_after (sym (take_at w.done w.left k e));
        here = here.here;
      }
