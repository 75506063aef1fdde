-- D91: well-formed text is UTF-16. Its units are those of a list of scalar values, and the units of every such list are well-formed.
-- Assumes nothing.
use Prim.Native.Nat.{ℕ, suc, ◌+◌, ◌-◌, ◌*◌, ◌/◌, ◌%◌, ◌<◌, ◌≤◌}
use native.Mathlib.Omega.{arith}
use mathlib.Core.Path.{◌≡◌, refl, sym, ◌∙◌, ap}
use mathlib.Core.Logic.{◌↔◌}
use mathlib.Core.Bool.{Bool, true, false, ◌&&◌, ◌||◌, cond, false≢true}
use mathlib.Core.List.{List, [], ◌∷◌, ◌++◌}
use lib.ListN.{length}
use lib.Dec.{eqb, ltb, leb}
use borrow.Author.Tests.{le-leb, lt-ltb, le-ltb, leb-true, leb-false, ltb-true, ltb-false, eqb-true}
use Rattle.format.specs.Slots.{Bytes}
use Rattle.format.specs.Utf16.{units, high_surrogate, low_surrogate, agrees, paired_after, paired, well_formed, scalar, units_of, utf16}
use Rattle.format.specs.Utf16.{scalars}
use Rattle.format.proofs.Kept.{and-true}
use Rattle.format.proofs.Utf16.{within_run, below_run, above_run}

-- the units of a scalar value, and what follows them
single : (c : ℕ) (us : List ℕ) → high_surrogate c ≡ false → low_surrogate c ≡ false → paired (c ∷ us) ≡ paired us
single c us h l = rw (h, l) refl

pair : (h l : ℕ) (us : List ℕ) → 0xd800 ≤ h → h ≤ 0xdbff → 0xdc00 ≤ l → l ≤ 0xdfff → paired (h ∷ l ∷ us) ≡ paired us
pair h l us a b c d =
    rw (
      below_run 0xdc00 h 0xdfff (omega arith),
      within_run 0xd800 h 0xdbff a b,
      within_run 0xdc00 l 0xdfff c d,
      above_run 0xd800 l 0xdbff (omega arith),
    )
    refl

-- a scalar value is no surrogate
no_surrogate : (c : ℕ) → scalar c ≡ true → (high_surrogate c ≡ false) × (low_surrogate c ≡ false)
no_surrogate c s = go (ltb c 0xd800) refl s
  where
    go : (t : Bool) → ltb c 0xd800 ≡ t → t || leb 0xe000 c && leb c 0x10ffff ≡ true → (high_surrogate c ≡ false) × (low_surrogate c ≡ false)
    go true e k = let h = ltb-true c 0xd800 e in (below_run 0xd800 c 0xdbff h, below_run 0xdc00 c 0xdfff (omega arith))
    go false e k =
        let h = leb-true 0xe000 c (and-true (leb 0xe000 c) (leb c 0x10ffff) k).0 in
        (above_run 0xd800 c 0xdbff (omega arith), above_run 0xdc00 c 0xdfff (omega arith))

scalar_top : (c : ℕ) → scalar c ≡ true → c ≤ 0x10ffff
scalar_top c s = go (ltb c 0xd800) refl s
  where
    go : (t : Bool) → ltb c 0xd800 ≡ t → t || leb 0xe000 c && leb c 0x10ffff ≡ true → c ≤ 0x10ffff
    go true e k = omega (arith, ltb-true c 0xd800 e)
    go false e k = leb-true c 0x10ffff (and-true (leb 0xe000 c) (leb c 0x10ffff) k).1

one_scalar : (c : ℕ) (us : List ℕ) → scalar c ≡ true → paired (units_of c ++ us) ≡ paired us
one_scalar c us s = go (ltb c 0x10000) refl
  where
    go :
        (t : Bool)
        → ltb c 0x10000 ≡ t
        → paired (cond t (c ∷ []) ((0xd800 + (c - 0x10000) / 0x400) ∷ (0xdc00 + (c - 0x10000) % 0x400) ∷ []) ++ us) ≡ paired us
    go true e = let n = no_surrogate c s in single c us n.0 n.1
    go false e =
        let h = ltb-false c 0x10000 e in
        let k = scalar_top c s in
        pair (0xd800 + (c - 0x10000) / 0x400) (0xdc00 + (c - 0x10000) % 0x400) us (omega arith) (omega arith) (omega arith) (omega arith)

pub utf16_paired : (cs : List ℕ) → scalars cs ≡ true → paired (utf16 cs) ≡ true
utf16_paired [] s = refl
utf16_paired (c ∷ cs) s =
    let k = and-true (scalar c) (scalars cs) s in
    one_scalar c (utf16 cs) k.0 ∙ utf16_paired cs k.1

-- and back
abbrev Units : List ℕ → Type 0
Units [] = Unit {0}
Units (u ∷ us) = (u < 0x10000) × Units us

pub record Decoded (us : List ℕ) : Type 0 where
  pub values : List ℕ
  pub all : scalars values ≡ true
  pub encoded : utf16 values ≡ us

low_scalar : (u : ℕ) → u < 0x10000 → high_surrogate u ≡ false → low_surrogate u ≡ false → scalar u ≡ true
low_scalar u small h l = go (ltb u 0xd800) refl (leb 0xe000 u) refl
  where
    go : (t : Bool) → ltb u 0xd800 ≡ t → (v : Bool) → leb 0xe000 u ≡ v → t || v && leb u 0x10ffff ≡ true
    go true e v f = refl
    go false e true f = le-leb u 0x10ffff (omega arith)
    go false e false f =
        let a = ltb-false u 0xd800 e in
        let b = leb-false 0xe000 u f in
        absurd (between (leb u 0xdbff) refl a b)
      where
        between : (t : Bool) → leb u 0xdbff ≡ t → 0xd800 ≤ u → u < 0xe000 → ⊥
        between true e a b = false≢true (sym h ∙ within_run 0xd800 u 0xdbff a (leb-true u 0xdbff e))
        between false e a b = false≢true (sym l ∙ within_run 0xdc00 u 0xdfff (omega (arith, leb-false u 0xdbff e)) (omega arith))

low_units : (u : ℕ) → u < 0x10000 → units_of u ≡ u ∷ []
low_units u h = rw (lt-ltb u 0x10000 h) refl

high_units :
    (h l c : ℕ)
    → 0xd800 ≤ h
    → h ≤ 0xdbff
    → 0xdc00 ≤ l
    → l ≤ 0xdfff
    → c ≡ 0x10000 + (h - 0xd800) * 0x400 + (l - 0xdc00)
    → (scalar c ≡ true) × (units_of c ≡ h ∷ l ∷ [])
high_units h l c p q r s e =
    let m : 0xd800 + (c - 0x10000) / 0x400 ≡ h = omega arith in
    let n : 0xdc00 + (c - 0x10000) % 0x400 ≡ l = omega arith in (
      rw (le-ltb c 0xd800 (omega arith), le-leb 0xe000 c (omega arith), le-leb c 0x10ffff (omega arith)) refl,
      rw (le-ltb c 0x10000 (omega arith), m, n) refl,
    )

-- a run that holds a number
run_facts : (a b c : ℕ) → leb a b && leb b c ≡ true → (a ≤ b) × (b ≤ c)
run_facts a b c h =
    let k = and-true (leb a b) (leb b c) h in
    (leb-true a b k.0, leb-true b c k.1)

agrees_false : (b : Bool) → agrees false b ≡ true → b ≡ false
agrees_false true h = absurd (false≢true h)
agrees_false false h = refl

join_single : (u : ℕ) (us : List ℕ) → u < 0x10000 → high_surrogate u ≡ false → low_surrogate u ≡ false → Decoded us → Decoded (u ∷ us)
join_single u us small h l d =
    record {
      values = u ∷ d.values;
      all = rw (low_scalar u small h l) d.all;
      encoded = ap (λ (x : List ℕ). x ++ utf16 d.values) (low_units u small) ∙ ap (λ (x : List ℕ). u ∷ x) d.encoded;
    }

join_pair : (u v : ℕ) (us : List ℕ) → high_surrogate u ≡ true → low_surrogate v ≡ true → Decoded us → Decoded (u ∷ v ∷ us)
join_pair u v us h l d =
    let a = run_facts 0xd800 u 0xdbff h in
    let b = run_facts 0xdc00 v 0xdfff l in
    let c = 0x10000 + (u - 0xd800) * 0x400 + (v - 0xdc00) in
    let k = high_units u v c a.0 a.1 b.0 b.1 refl in
    record {
      values = c ∷ d.values;
      all = rw k.0 d.all;
      encoded = ap (λ (x : List ℕ). x ++ utf16 d.values) k.1 ∙ ap (λ (x : List ℕ). u ∷ v ∷ x) d.encoded;
    }

pub decoded : (us : List ℕ) → Units us → paired us ≡ true → Decoded us
decoded [] small h = record { values = []; all = refl; encoded = refl }
decoded (u ∷ []) small h =
    let k = and-true (agrees false (low_surrogate u)) (paired_after (high_surrogate u) []) h in
    join_single u [] small.0 (agrees_false (high_surrogate u) k.1) (agrees_false (low_surrogate u) k.0) (decoded [] tt refl)
decoded (u ∷ v ∷ us) small h =
    go (high_surrogate u) refl k.1 (λ p. decoded (v ∷ us) small.1 p) (λ p. decoded us small.1.1 p)
  where
    k : (agrees false (low_surrogate u) ≡ true) × (paired_after (high_surrogate u) (v ∷ us) ≡ true)
    k = and-true (agrees false (low_surrogate u)) (paired_after (high_surrogate u) (v ∷ us)) h

    go :
        (t : Bool)
        → high_surrogate u ≡ t
        → paired_after t (v ∷ us) ≡ true
        → (paired (v ∷ us) ≡ true → Decoded (v ∷ us))
        → (paired us ≡ true → Decoded us)
        → Decoded (u ∷ v ∷ us)
    go false e p next later = join_single u (v ∷ us) small.0 e (agrees_false (low_surrogate u) k.0) (next p)
    go true e p next later =
        let q = and-true (low_surrogate v) (paired_after (high_surrogate v) us) p in
        let no = above_run 0xd800 v 0xdbff (omega (arith, (run_facts 0xdc00 v 0xdfff q.0).0)) in
        join_pair u v us e q.0 (later (rw no at q.1))

-- THE THEOREM
units_small : (bytes : List ℕ) → Bytes bytes → Units (units bytes)
units_small [] small = tt
units_small (a ∷ []) small = tt
units_small (a ∷ b ∷ bytes) small = (omega (arith, small 0, small 1), units_small bytes (λ i. small (suc (suc i))))

pub is_utf16 : (bytes : List ℕ) → Bytes bytes → (well_formed bytes ≡ true) ↔ ((length bytes % 2 ≡ 0) × Decoded (units bytes))
is_utf16 bytes small = (there, back)
  where
    there : well_formed bytes ≡ true → (length bytes % 2 ≡ 0) × Decoded (units bytes)
    there h =
        let k = and-true (eqb (length bytes % 2) 0) (paired (units bytes)) h in
        (eqb-true (length bytes % 2) 0 k.0, decoded (units bytes) (units_small bytes small) k.1)

    back : (length bytes % 2 ≡ 0) × Decoded (units bytes) → well_formed bytes ≡ true
    back h = rw h.0 (ap paired (sym h.1.encoded) ∙ utf16_paired h.1.values h.1.all)
