-- First places as elements come, and what the least of them says of 13 and 14.
-- Assumes nothing.
use Prim.Native.Nat.{ℕ, ◌+◌, ◌<◌, ◌≤◌}
use native.Mathlib.Omega.{arith}
use mathlib.Core.Path.{◌≡◌, refl, sym, ◌∙◌, ap}
use mathlib.Core.Bool.{Bool, true, false, ◌&&◌, ◌||◌, false≢true}
use mathlib.Core.List.{List, [], ◌∷◌, ◌++◌}
use mathlib.Core.Option.{Option, none, some}
use lib.ListN.{length, get_or, set, length-set, length-append}
use lib.Seq.{get_or-set_same, get_or-set_other}
use lib.Dec.{eqb}
use borrow.Author.Tests.{eqb-true, eqb-false, eq-eqb, ne_eqb}
use Rattle.format.specs.Records.{Record}
use Rattle.format.specs.Layout.{layout, layouts, place_after}
use Rattle.format.specs.Pins.{among}
use Rattle.format.specs.Rules.{unless_kept}
use Rattle.format.specs.ZonesAndStrings.{Role, role, all_among, first_naming}
use Rattle.flags.specs.Marks.{Marks}
use Rattle.firsts.specs.Firsts.{pick, note_by, noted, first_place, Firsts, LeastTo, or_zero}

-- one element more
place_snoc :
    (names : Role → List ℕ) (n at : ℕ) (rs : List Record) (x : Record)
    → 0 < at
    → first_place names n at (rs ++ x ∷ [])
    ≡ pick (eqb (first_place names n at rs) 0) (pick (among n (names (role x))) (at + length (layouts rs)) 0) (first_place names n at rs)
place_snoc names n at [] x h = let e : at + 0 ≡ at = omega arith in rw e refl
place_snoc names n at (r ∷ rs) x h = go (among n (names (role r))) (place_snoc names n (at + length (layout r)) rs x (omega arith))
  where
    l : at + length (layout r) + length (layouts rs) ≡ at + length (layout r ++ layouts rs)
    l = omega (arith, length-append (layout r) (layouts rs))

    go :
        (t : Bool)
        → first_place names n (at + length (layout r)) (rs ++ x ∷ [])
        ≡ pick (eqb (first_place names n (at + length (layout r)) rs) 0)
        (pick (among n (names (role x))) (at + length (layout r) + length (layouts rs)) 0)
        (first_place names n (at + length (layout r)) rs)
        → pick t at (first_place names n (at + length (layout r)) (rs ++ x ∷ []))
        ≡ pick (eqb (pick t at (first_place names n (at + length (layout r)) rs)) 0)
        (pick (among n (names (role x))) (at + length (layout r ++ layouts rs)) 0)
        (pick t at (first_place names n (at + length (layout r)) rs))
    go true e = sym (rw (ne_eqb at 0 (λ q. omega arith)) refl)
    go false e = rw l at e

module _ (names : Role → List ℕ) (l : List ℕ) (before : List Record) (x : Record) (f : Firsts names l before) where
  pub firsts_same : names (role x) ≡ [] → Firsts names l (before ++ x ∷ [])
  firsts_same e =
      record {
        size = f.size;
        place = λ n h. f.place n h
            ∙ sym (place_snoc names n 16 before x (omega arith)
            ∙ rw e (go (first_place names n 16 before) (eqb (first_place names n 16 before) 0) refl));
      }
    where
      go : (p : ℕ) (t : Bool) → eqb p 0 ≡ t → pick t 0 p ≡ p
      go p true q = sym (eqb-true p 0 q)
      go p false q = refl

  pub firsts_put :
      (n at : ℕ) → names (role x) ≡ n ∷ [] → n < 256 → at ≡ place_after before → Firsts names (noted l n at) (before ++ x ∷ [])
  firsts_put n at e h p =
      record {
        size = sized (eqb (get_or l n 0) 0);
        place = λ i k. go i k (eqb i n) refl (eqb (first_place names i 16 before) 0) refl
            ∙ sym (place_snoc names i 16 before x (omega arith) ∙ rw (e, ← p) refl);
      }
    where
      sized : (t : Bool) → length (note_by t l n at) ≡ 256
      sized true = length-set l n at ∙ f.size
      sized false = f.size

      go :
          (i : ℕ)
          → i < 256
          → (t : Bool)
          → eqb i n ≡ t
          → (u : Bool)
          → eqb (first_place names i 16 before) 0 ≡ u
          → get_or (noted l n at) i 0 ≡ pick u (pick (t || false) at 0) (first_place names i 16 before)
      go i k true q true v =
          let z : get_or l n 0 ≡ 0 = f.place n h ∙ ap (λ (j : ℕ). first_place names j 16 before) (sym (eqb-true i n q)) ∙ eqb-true _ 0 v in
          rw (eq-eqb (get_or l n 0) 0 z, eqb-true i n q) (get_or-set_same l n at 0 (omega (arith, f.size)))
      go i k true q false v =
          let z : get_or l n 0 ≡ 0 → ⊥ =
          λ y. eqb-false (first_place names i 16 before) 0 v (sym (f.place i k) ∙ ap (λ (j : ℕ). get_or l j 0) (eqb-true i n q) ∙ y) in
          rw (ne_eqb (get_or l n 0) 0 z) (f.place i k)
      go i k false q u v = other (eqb (get_or l n 0) 0) ∙ f.place i k ∙ sym (same u v)
        where
          other : (t : Bool) → get_or (note_by t l n at) i 0 ≡ get_or l i 0
          other true = get_or-set_other l n i at 0 (eqb-false i n q)
          other false = refl

          same :
              (u : Bool)
              → eqb (first_place names i 16 before) 0 ≡ u
              → pick u 0 (first_place names i 16 before) ≡ first_place names i 16 before
          same true v = sym (eqb-true (first_place names i 16 before) 0 v)
          same false v = refl

-- a place is none of those before
no_sooner : (names : Role → List ℕ) (n at : ℕ) (rs : List Record) → (first_place names n at rs ≡ 0 → ⊥) → at ≤ first_place names n at rs
no_sooner names n at [] h = absurd (h refl)
no_sooner names n at (r ∷ rs) h = go (among n (names (role r))) h (no_sooner names n (at + length (layout r)) rs)
  where
    go :
        (t : Bool)
        → (pick t at (first_place names n (at + length (layout r)) rs) ≡ 0 → ⊥)
        → ((first_place names n (at + length (layout r)) rs ≡ 0 → ⊥)
        → at + length (layout r) ≤ first_place names n (at + length (layout r)) rs)
        → at ≤ pick t at (first_place names n (at + length (layout r)) rs)
    go true h f = omega arith
    go false h f = omega (arith, f h)

-- of some numbers all are among others, or one is not
data Found (xs ns : List ℕ) : Bool → Type 0 where
  all : ((n : ℕ) → among n xs ≡ true → among n ns ≡ true) → Found xs ns true
  one : (n : ℕ) → among n xs ≡ true → among n ns ≡ false → Found xs ns false

find : (xs ns : List ℕ) → Found xs ns (all_among xs ns)
find [] ns = all (λ n h. absurd (false≢true h))
find (x ∷ xs) ns = go (among x ns) refl (all_among xs ns) (find xs ns)
  where
    here :
        (n : ℕ) (t : Bool)
        → eqb n x ≡ t
        → t || among n xs ≡ true
        → (among n xs ≡ true → among n ns ≡ true)
        → among x ns ≡ true
        → among n ns ≡ true
    here n true q h f e = rw (eqb-true n x q) e
    here n false q h f e = f h

    later : (n : ℕ) (t : Bool) → among n xs ≡ true → t || among n xs ≡ true
    later n true h = refl
    later n false h = h

    go : (t : Bool) → among x ns ≡ t → (u : Bool) → Found xs ns u → Found (x ∷ xs) ns (t && u)
    go true e true (all f) = all (λ n h. here n (eqb n x) refl h (f n) e)
    go true e false (one n h k) = one n (later n (eqb n x) h) k
    go false e u w = one x (rw (eq-eqb x x refl) refl) e

-- the first element that names an undeclared number stands at the least place of such a number
pub record Least (names : Role → List ℕ) (declared : List ℕ) (at : ℕ) (rs : List Record) (p : ℕ) : Type 0 where
  pub number : ℕ
  pub undeclared : among number declared ≡ false
  pub there : first_place names number at rs ≡ p
  pub no_less : (n : ℕ) → among n declared ≡ false → (first_place names n at rs ≡ 0 → ⊥) → p ≤ first_place names n at rs
  pub from : at ≤ p

abbrev Named : (Role → List ℕ) → List ℕ → ℕ → List Record → Option ℕ → Type 0
Named names declared at rs none = (n : ℕ) → among n declared ≡ false → first_place names n at rs ≡ 0
Named names declared at rs (some p) = Least names declared at rs p

naming :
    (names : Role → List ℕ) (declared : List ℕ) (at : ℕ) (rs : List Record)
    → Named names declared at rs (first_naming names declared at rs)
naming names declared at [] = λ n h. refl
naming names declared at (r ∷ rs) = go (all_among (names (role r)) declared) (find (names (role r)) declared)
    (first_naming names declared next rs) (naming names declared next rs)
  where
    next : ℕ
    next = at + length (layout r)

    not_here :
        ((n : ℕ) → among n (names (role r)) ≡ true → among n declared ≡ true)
        → (n : ℕ)
        → among n declared ≡ false
        → first_place names n at (r ∷ rs) ≡ first_place names n next rs
    not_here f n h = by (among n (names (role r))) refl
      where
        by : (t : Bool) → among n (names (role r)) ≡ t → pick t at (first_place names n next rs) ≡ first_place names n next rs
        by true q = absurd (false≢true (sym h ∙ f n q))
        by false q = refl

    go :
        (t : Bool)
        → Found (names (role r)) declared t
        → (o : Option ℕ)
        → Named names declared next rs o
        → Named names declared at (r ∷ rs) (unless_kept t at o)
    go true (all f) none w = λ n h. not_here f n h ∙ w n h
    go true (all f) (some p) w =
        record {
          number = w.number;
          undeclared = w.undeclared;
          there = not_here f w.number w.undeclared ∙ w.there;
          no_less = λ n h k. rw (not_here f n h) (w.no_less n h (λ z. k (not_here f n h ∙ z)));
          from = omega (arith, w.from);
        }
    go false (one n h k) o w =
        record {
          number = n;
          undeclared = k;
          there = rw h refl;
          no_less = λ i g z. no_sooner names i at (r ∷ rs) z;
          from = omega arith;
        }

-- so the least place in the array is its place, or 0
module _
    (names : Role → List ℕ) (l : List ℕ) (s : List Bool) (declared : List ℕ) (rs : List Record) (r : ℕ)
    (f : Firsts names l rs) (m : Marks s declared) (w : LeastTo 256 l s r)
    (low : (n : ℕ) → (first_place names n 16 rs ≡ 0 → ⊥) → n < 256) where
  unseen : (n : ℕ) → n < 256 → among n declared ≡ false → get_or s n false ≡ false
  unseen n h e = m.flag n h ∙ e

  by_naming : (o : Option ℕ) → Named names declared 16 rs o → r ≡ or_zero o
  by_naming none k = go (eqb r 0) refl
    where
      go : (t : Bool) → eqb r 0 ≡ t → r ≡ 0
      go true q = eqb-true r 0 q
      go false q =
          let z = eqb-false r 0 q in
          let o = w.one_there z in
          sym o.3 ∙ f.place o.0 o.1 ∙ k o.0 (sym (m.flag o.0 o.1) ∙ o.2)
  by_naming (some p) k = go (eqb r 0) refl
    where
      small : k.number < 256
      small = low k.number (λ z. omega (arith, z, k.there, k.from))

      here : get_or l k.number 0 ≡ p
      here = f.place k.number small ∙ k.there

      go : (t : Bool) → eqb r 0 ≡ t → r ≡ p
      go true q =
          absurd (omega (arith, here, k.from, w.none_there (eqb-true r 0 q) k.number small (unseen k.number small k.undeclared)))
      go false q =
          let z = eqb-false r 0 q in
          let o = w.one_there z in
          let a = w.no_less k.number small (unseen k.number small k.undeclared) (λ y. omega (arith, y, here, k.from)) in
          let e : r ≡ first_place names o.0 16 rs = sym o.3 ∙ f.place o.0 o.1 in
          let b = k.no_less o.0 (sym (m.flag o.0 o.1) ∙ o.2) (λ y. z (e ∙ y)) in
          omega (arith, a, b, here, e)

  pub least_naming : r ≡ or_zero (first_naming names declared 16 rs)
  least_naming = by_naming (first_naming names declared 16 rs) (naming names declared 16 rs)

  pub no_name : r ≡ 0 → first_naming names declared 16 rs ≡ none
  no_name e = go (first_naming names declared 16 rs) (naming names declared 16 rs)
    where
      go : (o : Option ℕ) → Named names declared 16 rs o → o ≡ none
      go none k = refl
      go (some p) k = absurd (omega (arith, k.from, by_naming (some p) k, e))

  pub a_name : (r ≡ 0 → ⊥) → first_naming names declared 16 rs ≡ some r
  a_name e = go (first_naming names declared 16 rs) (naming names declared 16 rs)
    where
      go : (o : Option ℕ) → Named names declared 16 rs o → o ≡ some r
      go none k = absurd (e (by_naming none k))
      go (some p) k = ap some (sym (by_naming (some p) k))

-- a number is noted
pub note_none : (l : List ℕ) (n at : ℕ) {i : ℕ} → i ≡ n → get_or l i 0 ≡ 0 → set l i at ≡ noted l n at
note_none l n at e h = rw (e, eq-eqb (get_or l n 0) 0 (rw e at h)) refl

pub note_some : (l : List ℕ) (n at : ℕ) {i : ℕ} → i ≡ n → (get_or l i 0 ≡ 0 → ⊥) → l ≡ noted l n at
note_some l n at e h = sym (rw (ne_eqb (get_or l n 0) 0 (rw e at h)) refl)
