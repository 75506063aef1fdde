-- 15 under leaving elements out: a part of the claims of a table clashes nowhere if the whole does not. Places, which move, aside.
-- Assumes nothing.
use Prim.Native.Nat.{ℕ, ◌+◌}
use mathlib.Core.Path.{◌≡◌, refl, sym, ◌∙◌, ap, subst}
use mathlib.Core.Bool.{Bool, true, false, ◌&&◌, ◌||◌, not, true≢false}
use mathlib.Core.List.{List, [], ◌∷◌, ◌++◌}
use mathlib.Core.Option.{none}
use lib.ListN.{length}
use lib.Dec.{eqb}
use borrow.Author.Tests.{not-true}
use Rattle.format.specs.Records.{Record}
use Rattle.format.specs.Layout.{layout}
use Rattle.format.specs.Claims.{Claim, together, clashes, Made, made_at, first_clash, claims_of, claims_from, first_claims, claims, contested}
use Rattle.format.specs.declared.records.Description.{Description}
use Rattle.format.proofs.Kept.{and-true, unless_none}
use Rattle.removal.specs.Parts.{Part, done, keep, leave}
use Rattle.removal.proofs.Parts.{part_same, part_append, part_through}

-- what is claimed, without the places
abbrev whats : List Made → List Claim
whats [] = []
whats (m ∷ ms) = m.what ∷ whats ms

abbrev pub all_claims : List Record → List Claim
all_claims [] = []
all_claims (r ∷ rs) = claims_of r ++ all_claims rs

-- no claim clashes with an earlier one
abbrev pub clear : List Claim → List Claim → Bool
clear earlier [] = true
clear earlier (c ∷ cs) = not (clashes c earlier) && clear (c ∷ earlier) cs

unclashed : (earlier : List Claim) (ms : List Made) → first_clash earlier ms ≡ none → clear earlier (whats ms) ≡ true
unclashed earlier [] h = refl
unclashed earlier (m ∷ ms) h =
    let s = unless_none (not (clashes m.what earlier)) m.place (first_clash (m.what ∷ earlier) ms) h in
    simp (s.0, unclashed (m.what ∷ earlier) ms s.1)

cleared : (earlier : List Claim) (ms : List Made) → clear earlier (whats ms) ≡ true → first_clash earlier ms ≡ none
cleared earlier [] h = refl
cleared earlier (m ∷ ms) h =
    let s = and-true (not (clashes m.what earlier)) (clear (m.what ∷ earlier) (whats ms)) h in
    simp (s.0, cleared (m.what ∷ earlier) ms s.1)

whats_made : (at : ℕ) (cs : List Claim) (ms : List Made) → whats (made_at at cs ++ ms) ≡ cs ++ whats ms
whats_made at [] ms = refl
whats_made at (c ∷ cs) ms = ap (λ (l : List Claim). c ∷ l) (whats_made at cs ms)

whats_from : (at : ℕ) (rs : List Record) → whats (claims_from at rs) ≡ all_claims rs
whats_from at [] = refl
whats_from at (r ∷ rs) =
    whats_made at (claims_of r) (claims_from (at + length (layout r)) rs)
    ∙ ap (λ (l : List Claim). claims_of r ++ l) (whats_from (at + length (layout r)) rs)

whats_all : (d : Description) (rs : List Record) → whats (claims d rs) ≡ first_claims d ++ all_claims rs
whats_all d rs = whats_made 0 (first_claims d) (claims_from 16 rs) ∙ ap (λ (l : List Claim). first_claims d ++ l) (whats_from 16 rs)

-- 15, without places
pub clear_all : (d : Description) (rs : List Record) → contested d rs ≡ none → clear [] (first_claims d ++ all_claims rs) ≡ true
clear_all d rs h = subst (λ (l : List Claim). clear [] l ≡ true) (whats_all d rs) (unclashed [] (claims d rs) h)

pub all_clear : (d : Description) (rs : List Record) → clear [] (first_claims d ++ all_claims rs) ≡ true → contested d rs ≡ none
all_clear d rs h = cleared [] (claims d rs) (subst (λ (l : List Claim). clear [] l ≡ true) (sym (whats_all d rs)) h)

-- fewer claims
or-false : (a b : Bool) → a || b ≡ false → (a ≡ false) × (b ≡ false)
or-false true b h = absurd (true≢false h)
or-false false b h = (refl, h)

part_clashes : (c : Claim) {cs es : List Claim} → Part Claim cs es → clashes c es ≡ false → clashes c cs ≡ false
part_clashes c done h = refl
part_clashes c (keep {x = a} {xs = cs} {ys = es} p) h =
    let s = or-false (eqb c.pin a.pin && not (together c.manner a.manner)) (clashes c es) h in
    simp (s.0, part_clashes c p s.1)
part_clashes c (leave {y = a} {xs = cs} {ys = es} p) h =
    part_clashes c p (or-false (eqb c.pin a.pin && not (together c.manner a.manner)) (clashes c es) h).1

-- THE LAW: fewer claims after fewer clash nowhere
pub part_clear :
    {before before' cs es : List Claim} → Part Claim before before' → Part Claim cs es → clear before' es ≡ true → clear before cs ≡ true
part_clear u done h = refl
part_clear {before} {before'} u (keep {x = c} {xs = cs} {ys = es} p) h =
    let s = and-true (not (clashes c before')) (clear (c ∷ before') es) h in
    simp (part_clashes c u (not-true (clashes c before') s.0), part_clear (keep u) p s.1)
part_clear {before} {before'} u (leave {y = c} {xs = cs} {ys = es} p) h =
    part_clear (leave u) p (and-true (not (clashes c before')) (clear (c ∷ before') es) h).1

pub part_uncontested : (d : Description) {ss rs : List Record} → Part Record ss rs → contested d rs ≡ none → contested d ss ≡ none
part_uncontested d {ss} {rs} p h =
    all_clear d ss
    (part_clear done (part_append (part_same (first_claims d)) (part_through claims_of all_claims refl (λ r rs. refl) p)) (clear_all d rs h))
