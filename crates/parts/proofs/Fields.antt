-- Demand 2, of the variable parts: every field read from what is written of the records is the field, and past the last there is
-- nothing. One law reads ENTRIES and its pairs; speed blocks and the lists of 0Ah and 0Dh go through it.
-- Assumes nothing.
use Prim.Native.Nat.{ℕ, zero, suc, ◌+◌, ◌*◌, ◌/◌, ◌%◌}
use native.Mathlib.Omega.{arith}
use mathlib.Core.Path.{◌≡◌, refl, sym, ◌∙◌, ap, subst}
use mathlib.Core.Bool.{true}
use mathlib.Core.List.{List, [], ◌∷◌, ◌++◌, append-nil}
use mathlib.Core.Option.{Option, none, some}
use lib.ListN.{length, drop, length-append, get_elem?}
use lib.Seq.{drop_at, get_or-drop}
use lib.Dec.{ltb, leb-suc-suc, leb-suc-zero}
use borrow.Author.Tests.{le-leb, lt-ltb}
use Rattle.format.specs.Slots.{Slot, byte, written}
use Rattle.format.specs.Records.{Block}
use Rattle.format.specs.Layout.{pairs, entries, blocks}
use Rattle.format.specs.Decode.{word_at, pair_of}
use Rattle.format.specs.declared.records.RegisterPair.{RegisterPair}
use Rattle.format.proofs.Whole.{written_append}
use Rattle.std.specs.Prelude.{Some}
use Rattle.parts.specs.Inside.{when_pair, whole_list, after_list, list_at, pair_at, with_speed, block_at, blocks_from, lists_from, block_in}
use Rattle.parts.specs.Inside.{pair_in, list_in, list_pair_in, colour_in, colour_pair_in}
use Rattle.parts.specs.Fields.{block_field, pair_field, block_pair_field, list_field, list_pair_field}
use Rattle.parts.proofs.Reading.{none_left}

length_pairs : (ps : List RegisterPair) → length (written (pairs ps)) ≡ 4 * length ps
length_pairs [] = refl
length_pairs (p ∷ ps) = let h = length_pairs ps in omega arith

-- a word further on, without the bytes before
word_drop : (k : ℕ) (l : List ℕ) (n m : ℕ) → m ≡ k + n → word_at (byte l) m ≡ word_at (byte (drop k l)) n
word_drop k l n m e =
    let z : k + n + 1 ≡ k + (n + 1) = omega arith in
    rw (e, z, get_or-drop k l n 0, get_or-drop k l (n + 1) 0) refl

-- the words of each pair, from the byte after ENTRIES
words :
    (ps : List RegisterPair) (more : List ℕ) (i : ℕ)
    → (let f = byte (written (pairs ps) ++ more) in when_pair (ltb i (length ps)) (pair_of (word_at f (4 * i)) (word_at f (2 + 4 * i))))
    ≡ pair_field (get_elem? ps i)
words [] more i = rw (leb-suc-zero i) refl
words (p ∷ ps) more zero =
    let a : p.address % 256 + 256 * (p.address / 256) ≡ p.address = omega arith in
    let d : p.«data» % 256 + 256 * (p.«data» / 256) ≡ p.«data» = omega arith in
    rw (lt-ltb 0 (suc (length ps)) (omega arith), a, d) refl
words (p ∷ ps) more (suc i) =
    let l = written (pairs (p ∷ ps)) ++ more in
    let a = word_drop 4 l (4 * i) (4 * suc i) (omega arith) in
    let d = word_drop 4 l (2 + 4 * i) (2 + 4 * suc i) (omega arith) in
    rw (leb-suc-suc (suc i) (length ps), a, d) (words ps more i)

-- ENTRIES and its pairs, with more behind
module _ (ps : List RegisterPair) (more : List ℕ) where
  abbrev bytes : List ℕ
  bytes = written (entries ps) ++ more

  whole_there : whole_list bytes ≡ true
  whole_there =
      le-leb (1 + 4 * length ps) (length bytes) (omega (arith, length_pairs ps, length-append (written (pairs ps)) more))

  past_there : after_list bytes ≡ more
  past_there = drop_at (written (entries ps)) more (1 + 4 * length ps) (omega (arith, length_pairs ps))

  list_there : list_at bytes ≡ Some (length ps)
  list_there = rw whole_there refl

  pair_there : (i : ℕ) → pair_at bytes i ≡ pair_field (get_elem? ps i)
  pair_there i =
      rw (whole_there, word_drop 1 bytes (4 * i) (1 + 4 * i) refl, word_drop 1 bytes (2 + 4 * i) (3 + 4 * i) (omega arith))
      (words ps more i)

-- an answer about the head of the bytes, at each speed block
module _
    {A : Type 0} (f : List ℕ → A) (g : Option Block → A)
    (last : f [] ≡ g none)
    (each : (b : Block) (more : List ℕ) → f (b.speed.0 ∷ bytes b.pairs more) ≡ g (some b))
  where
    at_block : (l : List Block) (j : ℕ) → f (blocks_from (written (blocks l)) j) ≡ g (get_elem? l j)
    at_block [] j = rw (sym (none_left [] j refl)) last
    at_block (b ∷ l) zero = rw (written_append (entries b.pairs) (blocks l)) (each b (written (blocks l)))
    at_block (b ∷ l) (suc j) =
        rw (written_append (entries b.pairs) (blocks l), past_there b.pairs (written (blocks l))) (at_block l j)

-- 09h: speed block j, and register pair i of it
pub block_fields : (l : List Block) (j : ℕ) → block_in (written (blocks l)) j ≡ block_field (get_elem? l j)
block_fields =
    at_block block_at block_field refl (λ b more. ap (with_speed b.speed.0) (list_there b.pairs more))

pub pair_fields : (l : List Block) (j i : ℕ) → pair_in (written (blocks l)) j i ≡ block_pair_field i (get_elem? l j)
pair_fields l j i =
    at_block (λ r. pair_at (drop 1 r) i) (block_pair_field i) refl (λ b more. pair_there b.pairs more i) l j

-- lists one after the other, and an answer about the head of the bytes at each of them
abbrev lists : List (List RegisterPair) → List Slot
lists [] = []
lists (ps ∷ ls) = entries ps ++ lists ls

module _
    {A : Type 0} (f : List ℕ → A) (g : Option (List RegisterPair) → A)
    (last : f [] ≡ g none)
    (each : (ps : List RegisterPair) (more : List ℕ) → f (bytes ps more) ≡ g (some ps))
  where
    at_list : (ls : List (List RegisterPair)) (w : ℕ) → f (lists_from (length ls) (written (lists ls)) w) ≡ g (get_elem? ls w)
    at_list [] w = last
    at_list (ps ∷ ls) zero = rw (written_append (entries ps) (lists ls)) (each ps (written (lists ls)))
    at_list (ps ∷ ls) (suc w) =
        let e = ap after_list (written_append (entries ps) (lists ls)) ∙ past_there ps (written (lists ls)) in
        ap (λ (q : List ℕ). f (lists_from (length ls) q w)) e ∙ at_list ls w

    -- two of them, and three
    of_two : (a b : List RegisterPair) (w : ℕ) → f (lists_from 2 (written (entries a ++ entries b)) w) ≡ g (get_elem? (a ∷ b ∷ []) w)
    of_two a b w =
        subst (λ (ss : List Slot). f (lists_from 2 (written (entries a ++ ss)) w) ≡ g (get_elem? (a ∷ b ∷ []) w)) (append-nil (entries b))
        (at_list (a ∷ b ∷ []) w)

    of_three :
        (a b c : List RegisterPair) (w : ℕ)
        → f (lists_from 3 (written (entries a ++ (entries b ++ entries c))) w) ≡ g (get_elem? (a ∷ b ∷ c ∷ []) w)
    of_three a b c w =
        subst (λ (ss : List Slot). f (lists_from 3 (written (entries a ++ (entries b ++ ss))) w) ≡ g (get_elem? (a ∷ b ∷ c ∷ []) w))
        (append-nil (entries c))
        (at_list (a ∷ b ∷ c ∷ []) w)

-- 0Ah: block w, and register pair i of it
pub list_fields :
    (a b : List RegisterPair) (w : ℕ) → list_in (written (entries a ++ entries b)) w ≡ list_field (get_elem? (a ∷ b ∷ []) w)
list_fields = of_two list_at list_field refl list_there

pub list_pair_fields :
    (a b : List RegisterPair) (w i : ℕ)
    → list_pair_in (written (entries a ++ entries b)) w i ≡ list_pair_field i (get_elem? (a ∷ b ∷ []) w)
list_pair_fields a b w i = of_two (λ q. pair_at q i) (list_pair_field i) refl (λ ps more. pair_there ps more i) a b w

-- 0Dh: the same of red, green, blue
pub colour_fields :
    (r g b : List RegisterPair) (w : ℕ)
    → colour_in (written (entries r ++ (entries g ++ entries b))) w ≡ list_field (get_elem? (r ∷ g ∷ b ∷ []) w)
colour_fields = of_three list_at list_field refl list_there

pub colour_pair_fields :
    (r g b : List RegisterPair) (w i : ℕ)
    → colour_pair_in (written (entries r ++ (entries g ++ entries b))) w i ≡ list_pair_field i (get_elem? (r ∷ g ∷ b ∷ []) w)
colour_pair_fields r g b w i = of_three (λ q. pair_at q i) (list_pair_field i) refl (λ ps more. pair_there ps more i) r g b w
