-- The request's sentences of the bytes of two tables: there is one text and no second; it is empty exactly when the records
-- are equal, and exchanging the tables exchanges the sides of its lines.
-- Assumes nothing.
use Prim.Native.Nat.{ℕ}
use mathlib.Core.Path.{◌≡◌}
use mathlib.Core.Logic.{◌↔◌}
use mathlib.Core.List.{List, [], map}
use Rattle.format.specs.Slots.{Bytes}
use Rattle.format.specs.Records.{Record}
use Rattle.format.specs.Verdict.{Accepts, Verdict, accepted}
use Rattle.format.specs.declared.pins.Chip.{Chip}
use Rattle.format.specs.declared.records.Description.{Description}
use Rattle.format.specs.Answers.{Answer}
use Rattle.format.specs.Answers.{Gives as Accepted, Refused}
use Rattle.format.proofs.Asking.{never_both}
use Rattle.format.proofs.Demand3.{answered, unique, only_one_list}
use Rattle.differing.specs.Differences.{exchanged, differences, lines}
use Rattle.differing.specs.Compared.{archived, refusal, Compared, compared, first_refused, second_refused}
use Rattle.differing.proofs.Exchange.{differences_exchanged}
use Rattle.differing.proofs.Equal.{no_lines_exactly}

same_refusal :
    (c : Chip) (b : List ℕ) (w k p k' p' : ℕ) → Bytes b → Verdict (archived c) b (Refused k p) → Verdict (archived c) b (Refused k' p')
    → refusal w k p ≡ refusal w k' p'
same_refusal c b w k p k' p' small v v' = let q = unique (archived c) b (Refused k p) (Refused k' p') small v v' in cc

-- no second text
pub only_text : (c : Chip) (b b' s t : List ℕ) → Bytes b → Bytes b' → Compared c b b' s → Compared c b b' t → s ≡ t
only_text c b b' s t small small' (compared d d' rs rs' a a') (compared e e' qs qs' x x') =
    let p = only_one_list (archived c) b d e rs qs small a x in
    let q = only_one_list (archived c) b' d' e' rs' qs' small' a' x' in
    λ i. lines (differences (p.0 i) (p.1 i) (q.0 i) (q.1 i))
only_text c b b' s t small small' (compared d d' rs rs' a a') (first_refused v) = absurd (never_both (archived c) b d rs small a v)
only_text c b b' s t small small' (compared d d' rs rs' a a') (second_refused e qs x v) = absurd
    (never_both (archived c) b' d' rs' small' a' v)
only_text c b b' s t small small' (first_refused v) (compared d d' rs rs' a a') = absurd (never_both (archived c) b d rs small a v)
only_text c b b' s t small small' (first_refused v) (first_refused v') = same_refusal c b 1 _ _ _ _ small v v'
only_text c b b' s t small small' (first_refused v) (second_refused d rs a v') = absurd (never_both (archived c) b d rs small a v)
only_text c b b' s t small small' (second_refused e qs x v) (compared d d' rs rs' a a') = absurd
    (never_both (archived c) b' d' rs' small' a' v)
only_text c b b' s t small small' (second_refused d rs a v') (first_refused v) = absurd (never_both (archived c) b d rs small a v)
only_text c b b' s t small small' (second_refused d rs a v) (second_refused d' rs' a' v') = same_refusal c b' 2 _ _ _ _ small' v v'

-- and there is one
pub some_text : (c : Chip) (b b' : List ℕ) → Bytes b → Bytes b' → (t : List ℕ) × Compared c b b' t
some_text c b b' small small' = first (answered (archived c) b small).0 (answered (archived c) b small).1
    (answered (archived c) b' small').0 (answered (archived c) b' small').1
  where
    first : (x : Answer) → Verdict (archived c) b x → (y : Answer) → Verdict (archived c) b' y → (t : List ℕ) × Compared c b b' t
    first (Refused k p) v y w = (refusal 1 k p, first_refused v)
    first (Accepted n) (accepted d rs a) (Refused k p) w = (refusal 2 k p, second_refused d rs a w)
    first (Accepted n) (accepted d rs a) (Accepted m) (accepted d' rs' a') =
        (lines (differences d rs d' rs'), compared d d' rs rs' a a')

-- 'No lines exactly when the records are equal', and 'with the tables exchanged, the lines have their two sides exchanged'
module _ (c : Chip) (b b' : List ℕ) (d d' : Description) (rs rs' : List Record) (a : Accepts (archived c) b d rs)
    (a' : Accepts (archived c) b' d' rs') where
  pub empty_exactly : (lines (differences d rs d' rs') ≡ []) ↔ ((d ≡ d') × (rs ≡ rs'))
  empty_exactly = no_lines_exactly (archived c) d d' rs rs' a.keeps a'.keeps

  pub other_way_round : Compared c b' b (lines (map exchanged (differences d rs d' rs')))
  other_way_round = rw (differences_exchanged d d' rs rs') at (compared d' d rs' rs a' a)
