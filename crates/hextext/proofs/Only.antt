-- A text has one meaning.
-- Assumes nothing.
use Prim.Native.Nat.{ℕ, ◌<◌}
use native.Mathlib.Omega.{arith}
use mathlib.Core.Path.{◌≡◌, refl, sym, ◌∙◌, ap}
use mathlib.Core.Bool.{Bool, true, false}
use mathlib.Core.List.{List, [], ◌++◌, append_assoc, append-nil}
use lib.ListN.{length, drop, length-append}
use lib.Seq.{drop-append_seam}
use lib.Dec.{ltb}
use borrow.Author.Tests.{ltb-true, ltb-false}
use Rattle.hextext.specs.Text.{data_line, end_line}
use Rattle.hextext.specs.Meaning.{Sent, data_record, end_record, Front, none, more}
use Rattle.hextext.specs.Meaning.{Meaning, bytes, Ends, whole, stops, after, Means, means}
use Rattle.hextext.proofs.Spelled.{same_data, never_both}

-- as many data records from the front of a text are the same, and so is what follows them
same_front :
    {k k' : ℕ} {t t' b b' : List ℕ} (r r' : List ℕ)
    → Front k t b
    → Front k' t' b'
    → k ≡ k'
    → t ++ r ≡ t' ++ r'
    → (b ≡ b') × (r ≡ r')
same_front r r' none none n e = (refl, e)
same_front r r' none (more d f s) n e = absurd (omega arith)
same_front r r' (more d f s) none n e = absurd (omega arith)
same_front r r' (more {t = t} {b = b} d f s) (more {t = t'} {b = b'} d' f' s') n e =
    let l = data_line (length b) d in
    let l' = data_line (length b') d' in
    let p =
    same_front (l ++ r) (l' ++ r') f f' (omega arith) (sym (append_assoc t l r) ∙ e ∙ append_assoc t' l' r') in
    let a : length b' ≡ length b = ap length (sym p.0) in
    let q : l ++ r ≡ data_line (length b) d' ++ r' = rw a at p.1 in
    let same : d ≡ d' = same_data (length b) d d' r r' s (rw a at s') q in
    let back : r ≡ drop (length l) (l ++ r') = sym (drop-append_seam l r) ∙ ap (drop (length l)) (rw (sym same) at q) in
    (cc, back ∙ drop-append_seam l r')

-- a text with more than k data records, cut behind the first k
record Cut (k : ℕ) (t : List ℕ) : Type 0 where
  front : List ℕ
  b : List ℕ
  d : List ℕ
  rest : List ℕ
  is : t ≡ front ++ (data_line (length b) d ++ rest)
  good : Front k front b
  sent : Sent (length b) d

cut : (k : ℕ) {k' : ℕ} {t b : List ℕ} → Front k' t b → k < k' → Cut k t
cut k none h = absurd (omega arith)
cut k (more {k = j} {t = t} {b = b} d f s) h = go (ltb k j) refl (λ h'. cut k f h')
  where
    go : (x : Bool) → ltb k j ≡ x → (k < j → Cut k t) → Cut k (t ++ data_line (length b) d)
    go true e before =
        let c = before (ltb-true k j e) in
        let l = data_line (length b) d in
        let m = data_line (length c.b) c.d in
        record {
          front = c.front;
          b = c.b;
          d = c.d;
          rest = c.rest ++ l;
          is =
              ap (λ (x : List ℕ). x ++ l) c.is
              ∙ append_assoc c.front (m ++ c.rest) l
              ∙ ap (λ (x : List ℕ). c.front ++ x) (append_assoc m c.rest l);
          good = c.good;
          sent = c.sent;
        }
    go false e before =
        let same : j ≡ k = omega (arith, ltb-false k j e) in
        record {
          front = t;
          b = b;
          d = d;
          rest = [];
          is = ap (λ (x : List ℕ). t ++ x) (sym (append-nil (data_line (length b) d)));
          good = rw same at f;
          sent = s;
        }

-- where a text ends, no data record follows
no_more :
    {k : ℕ} {b rest : List ℕ} {m : Meaning} (d t : List ℕ)
    → Ends k b rest m
    → Sent (length b) d
    → rest ≡ data_line (length b) d ++ t
    → ⊥
no_more {b = b} d t whole s e = never_both (length b) d t [] s (sym e)
no_more {b = b} d t (stops h) s e = h (rw e (data_record d s t))
no_more {b = b} d t (after rest h) s e = never_both (length b) d t rest s (sym e)

same_end :
    {k : ℕ} {b b' rest rest' : List ℕ} {m m' : Meaning}
    → Ends k b rest m
    → Ends k b' rest' m'
    → b ≡ b'
    → rest ≡ rest'
    → m ≡ m'
same_end whole whole p q = ap bytes p
same_end whole (stops h) p q = absurd (h (rw (sym q) (end_record [])))
same_end whole (after r h) p q = absurd (omega (arith, h, ap length q, length-append end_line r))
same_end (stops h) whole p q = absurd (h (rw q (end_record [])))
same_end (stops h) (stops h') p q = refl
same_end (stops h) (after r h') p q = absurd (h (rw q (end_record r)))
same_end (after r h) whole p q = absurd (omega (arith, h, ap length q, length-append end_line r))
same_end (after r h) (stops h') p q = absurd (h' (rw (sym q) (end_record r)))
same_end (after r h) (after r' h') p q = refl

-- nor does another reading of it go on
no_longer :
    {k k' : ℕ} {t t' b b' rest : List ℕ} {m : Meaning} (rest' : List ℕ)
    → Front k t b
    → Ends k b rest m
    → Front k' t' b'
    → t ++ rest ≡ t' ++ rest'
    → k < k'
    → ⊥
no_longer {k = k} {t' = t'} {b = b} {rest = rest} rest' f e f' same h =
    let c = cut k f' h in
    let l = data_line (length c.b) c.d in
    let split : t' ++ rest' ≡ c.front ++ (l ++ (c.rest ++ rest')) =
    ap (λ (x : List ℕ). x ++ rest') c.is ∙ simp append_assoc in
    let p = same_front rest (l ++ (c.rest ++ rest')) f c.good refl (same ∙ split) in
    no_more c.d (c.rest ++ rest') e (rw (sym p.0) at c.sent) (rw (sym p.0) at p.1)

one_text : {t t' : List ℕ} {m m' : Meaning} → Means t m → Means t' m' → t ≡ t' → m ≡ m'
one_text (means {k = k} {rest = rest} {m = m} f e) (means {k = k'} {rest = rest'} {m = m'} f' e') same =
    go (ltb k k') (ltb k' k) refl refl
  where
    go : (x y : Bool) → ltb k k' ≡ x → ltb k' k ≡ y → m ≡ m'
    go true y p q = absurd (no_longer rest' f e f' same (ltb-true k k' p))
    go false true p q = absurd (no_longer rest f' e' f (sym same) (ltb-true k' k q))
    go false false p q =
        let n : k' ≡ k = omega (arith, ltb-false k k' p, ltb-false k' k q) in
        let r = same_front rest rest' f f' (sym n) same in
        same_end e (rw n at e') r.0 r.1

pub one_meaning : (t : List ℕ) (m m' : Meaning) → Means t m → Means t m' → m ≡ m'
one_meaning t m m' p q = one_text p q refl
