-- No second outcome keeps the words of `compare`: neither the answer nor a byte of the buffer; nor a second result.
-- Assumes nothing.
use Prim.Native.Nat.{ℕ, ◌<◌}
use native.Mathlib.Omega.{arith}
use mathlib.Core.Path.{◌≡◌, refl, sym, ◌∙◌, ap}
use mathlib.Core.List.{List, ◌++◌}
use lib.ListN.{length, take, drop, take-append-drop}
use Rattle.std.specs.Prelude.{Result, Ok, Err}
use Rattle.format.specs.Slots.{Bytes}
use Rattle.format.specs.declared.pins.Chip.{Chip}
use Rattle.format.specs.Answers as answer
use Rattle.format.specs.Answers.{Answer, rule_number}
use Rattle.format.proofs.Asking.{never_both}
use Rattle.format.proofs.Demand3.{unique, only_one_list}
use Rattle.format.proofs.Refusals.{rule_once}
use Rattle.spelling.specs.Spelling.{Put}
use Rattle.differing.specs.Differences.{differences, lines}
use Rattle.differing.specs.Compared.{archived}
use Rattle.comparing.specs.Lines.{Compares, compared, first_refused, second_refused}
use Rattle.comparing.specs.Outcomes.{Outcome, which_number, outcome_of}
use Rattle.comparing.specs.Outcomes as outcome
use Rattle.comparing.specs.declared.Which.{Which}
use Rattle.comparing.specs.declared.Which.TheVariants.{First, Second}
use Rattle.comparing.specs.declared.RefusedTable.{RefusedTable}

-- a text is put in one way
put_once : (c s t : List ℕ) (at r r' : ℕ) (d e : List ℕ) → s ≡ t → Put c at s r d → Put c at t r' e → (r ≡ r') × (d ≡ e)
put_once c s t at r r' d e q p p' =
    let n : r ≡ r' = omega (arith, p.ends, p'.ends, ap length q) in
    let f : take r d ≡ take r e = p.front ∙ ap (λ (l : List ℕ). take at c ++ l) q ∙ sym p'.front ∙ ap (λ (m : ℕ). take m e) (sym n) in
    let b : drop r d ≡ drop r e = p.rest ∙ ap (λ (m : ℕ). drop m c) n ∙ sym p'.rest ∙ ap (λ (m : ℕ). drop m e) (sym n) in
    (n, sym (take-append-drop r d) ∙ (λ i. f i ++ b i) ∙ take-append-drop r e)

module _ (c : Chip) (b b' buf : List ℕ) (small : Bytes b) (small' : Bytes b') where
  same_refusal :
      (t : List ℕ) (w k p k' p' : ℕ) → Bytes t → Compares c b b' buf (outcome.Refused w k p) buf → ◌≡◌ {A = Answer} (answer.Refused k p) (answer.Refused k' p')
      → outcome.Refused w k p ≡ outcome.Refused w k' p'
  same_refusal t w k p k' p' s v q = cc

  pub only_outcome :
      (x y : Outcome) (d e : List ℕ) → Compares c b b' buf x d → Compares c b b' buf y e → (x ≡ y) × (d ≡ e)
  only_outcome x y d e (compared {n = n} u u' rs rs' a a' put) (compared {n = m} v v' qs qs' z z' put') =
      let p = only_one_list (archived c) b u v rs qs small a z in
      let q = only_one_list (archived c) b' u' v' rs' qs' small' a' z' in
      let r = put_once buf (lines (differences u rs u' rs')) (lines (differences v qs v' qs')) 0 n m d e
      (λ i. lines (differences (p.0 i) (p.1 i) (q.0 i) (q.1 i))) put put' in
      (ap outcome.Text r.0, r.1)
  only_outcome x y d e (compared u u' rs rs' a a' put) (first_refused v) = absurd (never_both (archived c) b u rs small a v)
  only_outcome x y d e (compared u u' rs rs' a a' put) (second_refused w qs z v) = absurd (never_both (archived c) b' u' rs' small' a' v)
  only_outcome x y d e (first_refused v) (compared u u' rs rs' a a' put) = absurd (never_both (archived c) b u rs small a v)
  only_outcome x y d e (first_refused {k = k} {p = p} v) (first_refused {k = k'} {p = p'} v') = (
    same_refusal b 1 k p k' p' small (first_refused v) (unique (archived c) b (answer.Refused k p) (answer.Refused k' p') small v v'),
    refl,
  )
  only_outcome x y d e (first_refused v) (second_refused w qs z v') = absurd (never_both (archived c) b w qs small z v)
  only_outcome x y d e (second_refused w qs z v) (compared u u' rs rs' a a' put) = absurd (never_both (archived c) b' u' rs' small' a' v)
  only_outcome x y d e (second_refused w qs z v) (first_refused v') = absurd (never_both (archived c) b w qs small z v')
  only_outcome x y d e (second_refused {k = k} {p = p} w qs z v) (second_refused {k = k'} {p = p'} w' qs' z' v') = (
    same_refusal b' 2 k p k' p' small' (second_refused w qs z v)
        (unique (archived c) b' (answer.Refused k p) (answer.Refused k' p') small' v v'),
    refl,
  )

-- what a result says is said by no other result
abbrev length_of : Outcome → ℕ
length_of (outcome.Text n) = n
length_of (outcome.Refused w k p) = 0

abbrev table_of : Outcome → ℕ
table_of (outcome.Text n) = 0
table_of (outcome.Refused w k p) = w

abbrev number_of : Outcome → ℕ
number_of (outcome.Text n) = 0
number_of (outcome.Refused w k p) = k

abbrev place_of : Outcome → ℕ
place_of (outcome.Text n) = 0
place_of (outcome.Refused w k p) = p

which_once : (w v : Which) → which_number w ≡ which_number v → w ≡ v
which_once First First e = refl
which_once First Second e = absurd (omega (arith, e))
which_once Second First e = absurd (omega (arith, e))
which_once Second Second e = refl

which_above : (w : Which) → 0 < which_number w
which_above First = omega arith
which_above Second = omega arith

pub outcome_once : (r q : Result ℕ RefusedTable) → outcome_of r ≡ outcome_of q → r ≡ q
outcome_once (Ok n) (Ok m) e = ap Ok (ap length_of e)
outcome_once (Ok n) (Err q) e = let t = ap table_of e in let above = which_above q.which in absurd (omega (arith, t, above))
outcome_once (Err r) (Ok m) e = let t = ap table_of e in let above = which_above r.which in absurd (omega (arith, t, above))
outcome_once (Err r) (Err q) e =
    let w = which_once r.which q.which (ap table_of e) in
    let k = rule_once r.refusal.rule q.refusal.rule (ap number_of e) in
    let p = ap place_of e in
    λ i. Err (record { which = w i; refusal = record { rule = k i; place = p i } })

-- so `compare` has no second result
pub only_outcome_result :
    (c : Chip) (b b' buf : List ℕ) (r r' : Result ℕ RefusedTable) (d e : List ℕ)
    → Bytes b
    → Bytes b'
    → Compares c b b' buf (outcome_of r) d
    → Compares c b b' buf (outcome_of r') e
    → (r ≡ r') × (d ≡ e)
only_outcome_result c b b' buf r r' d e small small' x y =
    let o = only_outcome c b b' buf small small' (outcome_of r) (outcome_of r') d e x y in (outcome_once r r' o.0, o.1)

-- the buffer keeps its length
pub compares_long : (c : Chip) (b b' buf : List ℕ) (x : Outcome) (after : List ℕ) → Compares c b b' buf x after → length after ≡ length buf
compares_long c b b' buf x after (compared d d' rs rs' a a' put) = put.long
compares_long c b b' buf x after (first_refused v) = refl
compares_long c b b' buf x after (second_refused d rs a v) = refl
