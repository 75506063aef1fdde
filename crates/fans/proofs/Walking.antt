-- The walk that stops at the first hit gives the answer: by induction over the records, from any count on.
-- Assumes nothing.
use Prim.Native.Nat.{ℕ, suc, ◌+◌}
use native.Mathlib.Omega.{arith}
use mathlib.Core.Path.{◌≡◌, refl, sym, ◌∙◌, ap}
use mathlib.Core.Bool.{Bool, true, false, cond}
use mathlib.Core.List.{List, [], ◌∷◌, ◌++◌}
use mathlib.Core.Option.{Option, none, some}
use lib.ListN.{length}
use Rattle.format.specs.Records.{Record}
use Rattle.fans.specs.InZone.{motor_in, later, first_motor, visit, visits, in_zone}
use Rattle.fans.specs.declared.Visit.{Visit}

-- 'walk only to the first fan or pump of the zone and stop', after so many visits; each 'adds one'
abbrev pub sought : ℕ → ℕ → List Record → Visit
sought z n [] = visit false n
sought z n (r ∷ rs) = cond (motor_in z r) (visit true (n + 1)) (sought z (n + 1) rs)

-- an answer with so many visits before
abbrev after : ℕ → Visit → Visit
after n v = visit v.hit (n + v.count)

one_more :
    (t : Bool) (n all : ℕ) (o : Option ℕ)
    → cond t (visit true (n + 1)) (after (n + 1) (visits all o)) ≡ after n (visits (suc all) (cond t (some 0) (later o)))
one_more true n all o = refl
one_more false n all none = ap (λ (k : ℕ). visit false k) (omega arith)
one_more false n all (some k) = ap (λ (k : ℕ). visit true k) (omega arith)

sought_after : (z n : ℕ) (rs : List Record) → sought z n rs ≡ after n (in_zone z rs)
sought_after z n [] = ap (λ (k : ℕ). visit false k) (omega arith)
sought_after z n (r ∷ rs) =
    ap (λ (v : Visit). cond (motor_in z r) (visit true (n + 1)) v) (sought_after z (n + 1) rs)
    ∙ one_more (motor_in z r) n (length rs) (first_motor z rs)

-- THE LAW
pub stops : (z : ℕ) (rs : List Record) → sought z 0 rs ≡ in_zone z rs
stops z rs = sought_after z 0 rs ∙ go (first_motor z rs)
  where
    go : (o : Option ℕ) → after 0 (visits (length rs) o) ≡ visits (length rs) o
    go none = ap (λ (k : ℕ). visit false k) (omega arith)
    go (some k) = ap (λ (n : ℕ). visit true n) (omega arith)

-- what stands behind the hit does not matter
sought_behind :
    (z n : ℕ) (done : List Record) (r : Record) (xs ys : List Record)
    → motor_in z r ≡ true
    → sought z n (done ++ r ∷ xs) ≡ sought z n (done ++ r ∷ ys)
sought_behind z n [] r xs ys e = rw e refl
sought_behind z n (x ∷ done) r xs ys e =
    ap (λ (v : Visit). cond (motor_in z x) (visit true (n + 1)) v) (sought_behind z (n + 1) done r xs ys e)

pub behind_the_hit :
    (z : ℕ) (done : List Record) (r : Record) (xs ys : List Record)
    → motor_in z r ≡ true
    → in_zone z (done ++ r ∷ xs) ≡ in_zone z (done ++ r ∷ ys)
behind_the_hit z done r xs ys e =
    sym (stops z (done ++ r ∷ xs)) ∙ sought_behind z 0 done r xs ys e ∙ stops z (done ++ r ∷ ys)
