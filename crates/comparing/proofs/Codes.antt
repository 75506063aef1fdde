-- The lines of fields by their contents as numbers: comparing the numbers is comparing the texts.
-- Assumes nothing.
use Prim.Native.Nat.{ℕ, zero, suc, ◌+◌, ◌-◌, ◌≤◌}
use Prim.Native.String.{String}
use native.Mathlib.Omega.{arith}
use mathlib.Core.Path.{◌≡◌, refl, sym, ◌∙◌, ap}
use mathlib.Core.Bool.{Bool, true, false, cond}
use mathlib.Core.List.{List, [], ◌∷◌, ◌++◌, map, append-nil, append_assoc}
use lib.ListN.{length, get_or}
use lib.Dec.{eqb}
use borrow.Author.Tests.{lt-ltb, le-ltb, eqb-true, eqb-false}
use Rattle.format.specs.Slots.{Bytes}
use Rattle.spelling.specs.Spelling.{decimal, pin_or_dash}
use Rattle.listing.specs.Lines.{line}
use Rattle.differing.specs.Fields.{Content, number, pin, shown, hex, ascii}
use Rattle.differing.specs.Differences.{Difference, difference, same, differing, line_of, lines}
use Rattle.differing.proofs.Tells.{In, AllIn, shown_tells}
use Rattle.differing.proofs.Comparing.{by_test, parts_same}
use Rattle.comparing.specs.Rows.{names, pin_code, code_text, code_at, row_text, rows_text, part_text}

-- a content as one number
abbrev pub code : Content → ℕ
code (number v) = v
code (pin p) = pin_code p

-- its text
pub code_text_lem : {m : ℕ} → m ≤ 16777216 → (k : Content) → In m k → code_text (code k) ≡ shown k
code_text_lem top (number v) i = ap (λ (t : Bool). cond t (decimal v) (pin_or_dash (v - 16777216))) (lt-ltb v 16777216 (omega arith))
code_text_lem top (pin p) i =
    let e : pin_code p - 16777216 ≡ p = omega arith in
    ap (λ (t : Bool). cond t (decimal (pin_code p)) (pin_or_dash (pin_code p - 16777216))) (le-ltb (pin_code p) 16777216 (omega arith))
    ∙ ap pin_or_dash e

-- the same number, the same text
pub code_same :
    {m : ℕ} → m ≤ 16777216 → (k l : Content) → In m k → In m l → same (shown k) (shown l) ≡ eqb (code k) (code l)
code_same {m} top k l i j =
    by_test (shown k) (shown l) (eqb (code k) (code l))
    (λ e. sym (code_text_lem top k i) ∙ ap code_text (eqb-true (code k) (code l) e) ∙ code_text_lem top l j)
    (λ e q. eqb-false (code k) (code l) e (ap code (shown_tells {m = m} (omega arith) k l i j q)))

-- the lines of fields with these names and numbers
abbrev pub line_by : ℕ → ℕ → String → ℕ → ℕ → List ℕ
line_by a b n v w = line ((68 ∷ []) ∷ decimal a ∷ decimal b ∷ ascii n ∷ code_text v ∷ code_text w ∷ [])

abbrev pub codes_text : ℕ → ℕ → List String → List ℕ → List ℕ → List ℕ
codes_text a b [] vs ws = []
codes_text a b (n ∷ ns) [] ws = []
codes_text a b (n ∷ ns) (v ∷ vs) [] = []
codes_text a b (n ∷ ns) (v ∷ vs) (w ∷ ws) = cond (eqb v w) [] (line_by a b n v w) ++ codes_text a b ns vs ws

-- a line or none, and what follows
chosen : (t : Bool) (d : Difference) (ds : List Difference) → lines (cond t ds (d ∷ ds)) ≡ cond t [] (line_of d) ++ lines ds
chosen true d ds = refl
chosen false d ds = refl

module _ (m : ℕ) (top : m ≤ 16777216) (a b : ℕ) where
  abbrev o : List ℕ
  o = decimal a

  abbrev o' : List ℕ
  o' = decimal b

  one_line :
      (n : String) (k l : Content) → In m k → In m l
      → cond (same (shown k) (shown l)) [] (line_of (difference o o' n (shown k) (shown l)))
      ≡ cond (eqb (code k) (code l)) [] (line_by a b n (code k) (code l))
  unfolding line_of
  one_line n k l i j =
      (λ x. cond (code_same top k l i j x) [] (line
      ((68 ∷ []) ∷ o ∷ o' ∷ ascii n ∷ sym (code_text_lem top k i) x ∷ sym (code_text_lem top l j) x ∷ [])))

  pub codes_meant :
      (ns ms : List String) (cs cs' : List Content) (ts ts' : List (List ℕ))
      → length cs ≡ length ns
      → length cs' ≡ length ns
      → AllIn m cs
      → AllIn m cs'
      → lines (differing o o' (ns ++ ms) (map shown cs ++ ts) (map shown cs' ++ ts')) ≡ codes_text a b ns (map code cs) (map code cs')
      ++ lines (differing o o' ms ts ts')
  codes_meant [] ms [] [] ts ts' l l' i i' = refl
  codes_meant [] ms [] (c' ∷ cs') ts ts' l l' i i' = absurd (omega arith)
  codes_meant [] ms (c ∷ cs) cs' ts ts' l l' i i' = absurd (omega arith)
  codes_meant (n ∷ ns) ms [] cs' ts ts' l l' i i' = absurd (omega arith)
  codes_meant (n ∷ ns) ms (c ∷ cs) [] ts ts' l l' i i' = absurd (omega arith)
  codes_meant (n ∷ ns) ms (c ∷ cs) (c' ∷ cs') ts ts' l l' i i' =
      let rest = differing o o' (ns ++ ms) (map shown cs ++ ts) (map shown cs' ++ ts') in
      let k = codes_meant ns ms cs cs' ts ts' (omega arith) (omega arith) i.1 i'.1 in
      let e = one_line n c c' i.0 i'.0 in
      chosen (same (shown c) (shown c')) (difference o o' n (shown c) (shown c')) rest
      ∙ (λ x. e x ++ k x)
      ∙ sym (append_assoc (cond (eqb (code c) (code c')) [] (line_by a b n (code c) (code c')))
      (codes_text a b ns (map code cs) (map code cs')) (lines (differing o o' ms ts ts')))

-- the variable parts
pub part_meant :
    (a b : ℕ) (p q : List ℕ) → Bytes p → Bytes q
    → lines (differing (decimal a) (decimal b) ("variable part" ∷ []) (hex p ∷ []) (hex q ∷ [])) ≡ part_text a b p q
unfolding line_of
part_meant a b p q h k =
    chosen (same (hex p) (hex q)) (difference (decimal a) (decimal b) "variable part" (hex p) (hex q)) []
    ∙ append-nil (cond (same (hex p) (hex q)) [] (line ((68 ∷ []) ∷ decimal a ∷ decimal b ∷ ascii "variable part" ∷ hex p ∷ hex q ∷ [])))
    ∙ ap (λ (t : Bool). cond t [] (line ((68 ∷ []) ∷ decimal a ∷ decimal b ∷ ascii "variable part" ∷ hex p ∷ hex q ∷ [])))
    (parts_same p q h k)

-- rows: their names, and their contents in a table
abbrev pub names_from : ℕ → ℕ → List String
names_from i zero = []
names_from i (suc n) = get_or names i "" ∷ names_from (i + 1) n

abbrev pub codes_from : List ℕ → ℕ → ℕ → ℕ → List ℕ
codes_from t at i zero = []
codes_from t at i (suc n) = code_at t at i ∷ codes_from t at (i + 1) n

pub rows_meant :
    (one two : List ℕ) (a b i n : ℕ) (ms : List String) (us us' : List ℕ)
    → codes_text a b (names_from i n ++ ms) (codes_from one a i n ++ us) (codes_from two b i n ++ us') ≡ rows_text one two a b i n
    ++ codes_text a b ms us us'
rows_meant one two a b i zero ms us us' = refl
rows_meant one two a b i (suc n) ms us us' =
    ap (λ (l : List ℕ). row_text one two a b i ++ l) (rows_meant one two a b (i + 1) n ms us us')
    ∙ sym (append_assoc (row_text one two a b i) (rows_text one two a b (i + 1) n) (codes_text a b ms us us'))

pub rows_alone :
    (one two : List ℕ) (a b i n : ℕ)
    → codes_text a b (names_from i n) (codes_from one a i n) (codes_from two b i n) ≡ rows_text one two a b i n
rows_alone one two a b i zero = refl
rows_alone one two a b i (suc n) = ap (λ (l : List ℕ). row_text one two a b i ++ l) (rows_alone one two a b (i + 1) n)
