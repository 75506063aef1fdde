-- The calls: a piece after the end or of no bytes, bytes past the 4,097th, the end.
-- Assumes nothing.
use Prim.Native.Nat.{ℕ, ◌+◌, ◌-◌, ◌%◌, ◌<◌, ◌≤◌}
use native.Mathlib.Omega.{arith}
use native.Mathlib.Nat.{mod-lt, mod-eq_of_lt}
use mathlib.Core.Path.{◌≡◌, refl, sym, ◌∙◌, ap, subst}
use mathlib.Core.Bool.{Bool, true, false}
use mathlib.Core.List.{List, [], ◌∷◌, ◌++◌, append-nil}
use lib.ListN.{length, take, set}
use lib.Seq.{take_all, length-take-le, take-append-le, take-append-add}
use lib.Dec.{ltb, leb}
use borrow.Author.Tests.{ltb-true, ltb-false, leb-true, leb-false}
use Rattle.format.specs.Slots.{Bytes}
use Rattle.format.proofs.Slots.{bytes_take}
use Rattle.format.specs.Answers.{value_of}
use Rattle.format.specs.Reader.{verdict_of}
use Rattle.format.specs.declared.settings.Settings.{Settings}
use Rattle.format.specs.Answers.{Answer}
use Rattle.format.specs.Answers.{Gives as Accepted, Refused}
use Rattle.format.proofs.Theorem.{meets}
use Rattle.reader.proofs.Bounds.{value_bound}
use Rattle.pass.specs.Tracks.{Flags}
use Rattle.stream.specs.Arriving.{state_of, after}
use Rattle.stream.proofs.Arriving.{answer_after}
use Rattle.states.specs.Numbers.{number}
use Rattle.states.proofs.Settled.{back}
use Rattle.ending.specs.Stands.{Lent, lent, Stands, StandsFor}
use Rattle.ending.specs.Ending.{VerdictIs}
use Rattle.receiving.specs.Receiving.{ReceiveIs, StartIs, PieceIs, EndIs}

-- what start leaves stands for no bytes, whatever the flags and places
pub begun :
    (σ : Settings) (n first head : List ℕ)
    → StartIs σ n first head
    → (f : Flags) (zp sp : List ℕ)
    → StandsFor σ [] (lent n first head f zp sp)
begun σ n first head s f zp sp =
    record {
      size = rw s.numbers refl;
      live = rw s.numbers refl;
      settings = rw s.numbers (back σ);
      count = rw s.numbers refl;
      first = record { size = rw s.described refl; same = λ i a b. absurd (omega arith) };
      head = λ _. rw s.under refl;
      fresh = λ z. absurd (omega (arith, z));
      pass = λ z. absurd (omega (arith, z));
      quiet = rw s.numbers (λ z. absurd (omega arith));
    }

-- a piece cut to the room
pub cut_to : (p : List ℕ) (room end : ℕ) → end ≤ room → (end < room → end ≡ length p) → take (end - 0) p ≡ take room p
cut_to p room end h f = go (ltb end room) refl
  where
    go : (t : Bool) → ltb end room ≡ t → take (end - 0) p ≡ take room p
    go true e =
        let k = ltb-true end room e in
        let l = f k in
        take_all (end - 0) p (omega arith) ∙ sym (take_all room p (omega arith))
    go false e =
        let k = ltb-false end room e in
        let z : end - 0 ≡ room = omega arith in
        rw z refl

-- what is taken of a piece has room
pub short_take : (n : ℕ) (p : List ℕ) (count : ℕ) → n ≤ 4097 - count → count ≤ 4096 → count + length (take (n - 0) p) ≤ 4097
short_take n p count h m = omega (arith, h, m, at_most (n - 0) p)
  where
    at_most : (n : ℕ) (p : List ℕ) → length (take n p) ≤ n
    at_most n p = go (leb n (length p)) refl
      where
        go : (t : Bool) → leb n (length p) ≡ t → length (take n p) ≤ n
        go true e = omega (arith, length-take-le n p (leb-true n (length p) e))
        go false e = let k = leb-false n (length p) e in omega (arith, ap length (take_all n p (omega arith)))

-- the bytes up to the 4,097th
full : (σ : Settings) (b p : List ℕ) → 4096 < length (take 4097 b) → after σ b ≡ after σ (b ++ p)
full σ b p h = go (leb 4097 (length b)) refl
  where
    go : (t : Bool) → leb 4097 (length b) ≡ t → after σ b ≡ after σ (b ++ p)
    go true e = ap (state_of σ) (sym (take-append-le 4097 b p (leb-true 4097 (length b) e)))
    go false e = let k = leb-false 4097 (length b) e in absurd (omega (arith, h, ap length (take_all 4097 b (omega arith))))

room_for : (b p : List ℕ) (n : ℕ) → n ≡ length (take 4097 b) → n ≤ 4096 → take 4097 b ++ take (4097 - n) p ≡ take 4097 (b ++ p)
room_for b p n e h = go (leb 4097 (length b)) refl
  where
    go : (t : Bool) → leb 4097 (length b) ≡ t → take 4097 b ++ take (4097 - n) p ≡ take 4097 (b ++ p)
    go true q = let k = leb-true 4097 (length b) q in absurd (omega (arith, e, h, length-take-le 4097 b k))
    go false q =
        let k = leb-false 4097 (length b) q in
        let all : take 4097 b ≡ b = take_all 4097 b (omega arith) in
        let l : n ≡ length b = e ∙ ap length all in
        let m : length b + (4097 - n) ≡ 4097 = omega (arith, l, k) in
        rw all (sym (take-append-add b p (4097 - n)) ∙ ap (λ (i : ℕ). take i (b ++ p)) m)

module _ (l : Lent) (p : List ℕ) where
  pub piece_late : (number l.numbers 0 ≡ 0 → ⊥) → PieceIs l p 20 l
  piece_late n =
      record { late = λ _. (refl, refl); none = λ _. refl; taken = λ z. absurd (n z); goes = λ σ b s. absurd (n s.live) }

  module _ (z : number l.numbers 0 ≡ 0) where
    pub piece_over : 4096 < number l.numbers 2 → PieceIs l p 0 l
    piece_over h =
        record {
          late = λ n. absurd (n z);
          none = λ _. refl;
          taken = λ _. (refl, z);
          goes = λ σ b s. rw (← (full σ b p (omega (arith, h, s.count)))) s;
        }

    pub piece_none : length p ≡ 0 → PieceIs l p 0 l
    piece_none e =
        record {
          late = λ n. absurd (n z);
          none = λ _. refl;
          taken = λ _. (refl, z);
          goes = λ σ b s. rw (nothing p e, append-nil b) s;
        }
      where
        nothing : (p : List ℕ) → length p ≡ 0 → p ≡ []
        nothing [] e = refl
        nothing (x ∷ xs) e = absurd (omega arith)

    pub piece_goes :
        (q : List ℕ) (l' : Lent)
        → number l.numbers 2 ≤ 4096
        → (length p ≡ 0 → ⊥)
        → q ≡ take (4097 - number l.numbers 2) p
        → Bytes p
        → ReceiveIs l q l'
        → PieceIs l p 0 l'
    piece_goes q l' h n e small r =
        record {
          late = λ y. absurd (y z);
          none = λ y. absurd (n (ap length y));
          taken = λ _. (refl, r.live);
          goes =
              λ σ b s.
              let k : take 4097 b ++ q ≡ take 4097 (b ++ p) = rw e (room_for b p (number l.numbers 2) s.count h) in
              subst (λ (c : List ℕ). Stands σ (state_of σ c) l') k
              (r.goes σ (take 4097 b) (rw e (bytes_take (4097 - number l.numbers 2) p small)) some_bytes s);
        }
      where
        some_bytes : 0 < length q
        some_bytes = go (leb (4097 - number l.numbers 2) (length p)) refl
          where
            go : (t : Bool) → leb (4097 - number l.numbers 2) (length p) ≡ t → 0 < length q
            go true y =
                omega (
                  arith,
                  h,
                  ap length e,
                  length-take-le (4097 - number l.numbers 2) p
                      (leb-true (4097 - number l.numbers 2) (length p) y),
                )
            go false y =
                let k = leb-false (4097 - number l.numbers 2) (length p) y in
                omega (arith, n, ap length e, ap length (take_all (4097 - number l.numbers 2) p (omega (arith, k))))

    -- where the count is below number 15, the state says that there is room
    pub piece_quick :
        (q : List ℕ) (l' : Lent)
        → number l.numbers 2 < number l.numbers 15
        → (length p ≡ 0 → ⊥)
        → (number l.numbers 2 ≤ 4096 → q ≡ take (4097 - number l.numbers 2) p)
        → Bytes p
        → ReceiveIs l q l'
        → PieceIs l p 0 l'
    piece_quick q l' ahead n e small r =
        record {
          late = λ y. absurd (y z);
          none = λ y. absurd (n (ap length y));
          taken = λ _. (refl, r.live);
          goes =
              λ σ b s.
              let h : number l.numbers 2 ≤ 4096 = omega (arith, ahead, (s.quiet ahead).1) in
              (piece_goes q l' h n (e h) small r).goes σ b s;
        }

-- a place in two bytes
under : (k : ℕ) → k % 65536 ≤ 65535
under k = let h : k % 65536 < 65536 = mod-lt k (omega arith) in omega arith

pub bounded_0 :
    (a : Answer) (k : ℕ) → a ≡ Accepted k → (value_of (Accepted (k % 65536)) ≤ 65535) × (value_of a ≤ 65535 → Accepted (k % 65536) ≡ a)
bounded_0 a k e =
    (under k, λ h. let m : k ≤ 65535 = rw e at h in ap Accepted (mod-eq_of_lt (omega arith)) ∙ sym e)

pub bounded_k :
    (a : Answer) (j p : ℕ)
    → a ≡ Refused j p
    → (value_of (Refused j (p % 65536)) ≤ 65535) × (value_of a ≤ 65535 → Refused j (p % 65536) ≡ a)
bounded_k a j p e =
    (under p, λ h. let m : p ≤ 65535 = rw e at h in ap (Refused j) (mod-eq_of_lt (omega arith)) ∙ sym e)

-- the end
module _ (n first : List ℕ) (f : Flags) (zp sp : List ℕ) where
  pub end_late : (number n 0 ≡ 0 → ⊥) → EndIs n first f zp sp (Refused 20 0) n
  end_late m =
      record { late = λ _. (refl, refl); over = λ z. absurd (m z); low = omega arith; answers = λ σ b head small s. absurd (m s.live) }

  pub end_now :
      (a r : Answer)
      → number n 0 ≡ 0
      → VerdictIs n first f zp sp a
      → (value_of r ≤ 65535) × (value_of a ≤ 65535 → r ≡ a)
      → EndIs n first f zp sp r (set n 0 1)
  end_now a r z v k =
      record {
        late = λ m. absurd (m z);
        over = λ _. refl;
        low = k.0;
        answers =
            λ σ b head small s.
            let e : a ≡ verdict_of σ b = v.answers σ b head s ∙ answer_after σ b in
            let m : value_of (verdict_of σ b) ≤ 4096 = value_bound σ b (verdict_of σ b) (meets σ b small) in
            k.1 (rw e (omega (arith, m))) ∙ e;
      }
