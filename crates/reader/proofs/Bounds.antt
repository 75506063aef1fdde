-- No answer's value is over 4,096: the number of elements and every place.
-- Assumes nothing.
use Prim.Native.Nat.{ℕ, ◌+◌, ◌≤◌}
use native.Mathlib.Omega.{arith}
use mathlib.Core.Path.{◌≡◌, refl, ap}
use mathlib.Core.Bool.{Bool, true, false, ◌&&◌, not}
use mathlib.Core.List.{List, [], ◌∷◌, ◌++◌}
use mathlib.Core.Option.{Option, some}
use lib.ListN.{length, length-append, length-drop}
use lib.Dec.{leb}
use borrow.Author.Tests.{leb-true, le-leb}
use Rattle.format.specs.Records.{Record}
use Rattle.format.specs.Layout.{layout, layouts, place_after}
use Rattle.format.specs.Pins.{among}
use Rattle.format.specs.Rules.{unless_kept}
use Rattle.format.specs.ZonesAndStrings.{zone_named, zones, Role, role, all_among, first_naming, strings, string_named}
use Rattle.format.specs.Claims.{Claim, clashes, Made, made_at, first_clash, claims_of, claims_from, first_claims, claims}
use Rattle.format.specs.Verdict.{Verdict, Passed, accepted, short, unrevised, missized, misdescribed, stopped, unzoned, unnamed, clashing}
use Rattle.format.specs.Answers.{value_of, place_of}
use Rattle.format.specs.Asked.{Gives, given, past, ungiven}
use Rattle.format.specs.declared.records.Description.{Description}
use Rattle.format.specs.Answers.{Answer}
use Rattle.format.specs.Answers.{Refused}
use Rattle.format.specs.Answers.{Asked}
use Rattle.format.proofs.Kept.{and-true}
use Rattle.format.proofs.Lengths.{at_most_96}
use Rattle.format.proofs.Slots.{starts_length}
use Rattle.format.proofs.Opening.{opened_only, opened_facts, table_length}
use Rattle.format.specs.declared.settings.Settings.{Settings}

-- a place that is found first is one that was there
unless_below : (t : Bool) (k m : ℕ) (o : Option ℕ) {p : ℕ} → k ≤ m → ((q : ℕ) → o ≡ some q → q ≤ m) → unless_kept t k o ≡ some p → p ≤ m
unless_below true k m o {p} h f e = f p e
unless_below false k m o {p} h f e = let z : k ≡ p = cc in omega arith

naming_below :
    (names : Role → List ℕ) (declared : List ℕ) (at : ℕ) (rs : List Record) (p : ℕ)
    → first_naming names declared at rs ≡ some p
    → p ≤ at + length (layouts rs)
naming_below names declared at [] p e = let z : ◌≡◌ {A = ℕ} 0 1 = cc in absurd (omega arith)
naming_below names declared at (r ∷ rs) p e =
    unless_below (all_among (names (role r)) declared) at (at + length (layouts (r ∷ rs))) _ (omega arith)
    (λ q w. omega (arith, naming_below names declared (at + length (layout r)) rs q w, length-append (layout r) (layouts rs)))
    e

-- all claims are made up to a place
abbrev below : ℕ → List Made → Bool
below m [] = true
below m (c ∷ cs) = leb c.place m && below m cs

clash_below : (m : ℕ) (cs : List Made) (e : List Claim) (p : ℕ) → below m cs ≡ true → first_clash e cs ≡ some p → p ≤ m
clash_below m [] e p b h = let z : ◌≡◌ {A = ℕ} 0 1 = cc in absurd (omega arith)
clash_below m (c ∷ cs) e p b h =
    let k = and-true (leb c.place m) (below m cs) b in
    unless_below (not (clashes c.what e)) c.place m _ (leb-true c.place m k.0)
    (λ q w. clash_below m cs (c.what ∷ e) q k.1 w) h

made_below : (m at : ℕ) (cs : List Claim) (ms : List Made) → at ≤ m → below m ms ≡ true → below m (made_at at cs ++ ms) ≡ true
made_below m at [] ms h k = k
made_below m at (c ∷ cs) ms h k = rw (le-leb at m h) (made_below m at cs ms h k)

from_below : (m at : ℕ) (rs : List Record) → at + length (layouts rs) ≤ m → below m (claims_from at rs) ≡ true
from_below m at [] h = refl
from_below m at (r ∷ rs) h =
    made_below m at (claims_of r) (claims_from (at + length (layout r)) rs) (omega arith)
    (from_below m (at + length (layout r)) rs (omega (arith, length-append (layout r) (layouts rs))))

claims_below : (d : Description) (rs : List Record) → below (place_after rs) (claims d rs) ≡ true
claims_below d rs =
    made_below (place_after rs) 0 (first_claims d) (claims_from 16 rs) (omega arith) (from_below (place_after rs) 16 rs (omega arith))

passed_top : (σ : Settings) (b : List ℕ) (d : Description) (rs : List Record) → Passed σ b d rs → place_after rs ≤ 4096
passed_top σ b d rs p = omega (arith, p.limit, table_length b d rs p.fits)

pub value_bound : (σ : Settings) (b : List ℕ) (a : Answer) → Verdict σ b a → value_of a ≤ 4096
value_bound σ b a (accepted d rs c) = omega (arith, at_most_96 σ [] rs (omega arith) c.keeps.passed)
value_bound σ b a (short h) = omega arith
value_bound σ b a (unrevised h n) = omega arith
value_bound σ b a (missized h e n) = omega arith
value_bound σ b a (misdescribed d rest o e) = omega arith
value_bound σ b a (stopped d rest rs here o clean s kept br) =
    omega (
      arith,
      starts_length rest (layouts rs) here s,
      ap length (opened_only σ.chip b d rest o).1,
      length-drop 16 b,
      o.limit,
      (opened_facts σ.chip b d rest o).0,
    )
value_bound σ b a (unzoned d rs p z) =
    omega (arith, naming_below zone_named (zones rs) 16 rs _ z, passed_top σ b d rs p)
value_bound σ b a (unnamed d rs p z n) =
    unless_below (among d.string (0 ∷ strings rs)) 0 4096 (first_naming string_named (0 ∷ strings rs) 16 rs) (omega arith)
    (λ q w. omega (arith, naming_below string_named (0 ∷ strings rs) 16 rs q w, passed_top σ b d rs p))
    n
value_bound σ b a (clashing d rs p z n c) =
    omega (arith, clash_below (place_after rs) (claims d rs) [] _ (claims_below d rs) c, passed_top σ b d rs p)

pub place_bound : (σ : Settings) (b : List ℕ) (k : ℕ) (a : Asked) (p : List ℕ) → Gives σ b k a p → place_of a ≤ 4096
place_bound σ b k a p (given d rs c n) = omega arith
place_bound σ b k a p (past d rs c n) = omega arith
place_bound σ b k a p (ungiven {j = j} {p = q} v) = value_bound σ b (Refused j q) v
