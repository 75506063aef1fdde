-- THE THEOREM: start, pieces, end. However a table is cut, the end answers what the whole reading answers, and ever after it is 20 at 0.
-- Assumes nothing.
use Prim.Native.Nat.{ℕ}
use native.Mathlib.Omega.{arith}
use mathlib.Core.Path.{◌≡◌, refl, sym, ◌∙◌, ap, subst}
use mathlib.Core.List.{List, [], ◌∷◌, ◌++◌, append-nil, append_assoc}
use lib.Seq.{get_or-set_same}
use Rattle.format.specs.Slots.{Bytes}
use Rattle.format.specs.Verdict.{Verdict}
use Rattle.format.specs.Reader.{verdict_of}
use Rattle.format.specs.declared.settings.Settings.{Settings}
use Rattle.format.specs.Answers.{Answer}
use Rattle.format.specs.Answers.{Refused}
use Rattle.format.proofs.Theorem.{meets, only}
use Rattle.stream.specs.Arriving.{joined}
use Rattle.states.specs.Numbers.{number}
use Rattle.ending.specs.Stands.{Lent, lent, StandsFor}
use Rattle.receiving.specs.Receiving.{StartIs, PieceIs, EndIs}
use Rattle.receiving.proofs.Calls.{begun}

-- the calls over a whole state: a start sets numbers and bytes, whatever flags and places it is lent; an end sets numbers alone
abbrev pub Started : Settings → Lent → Type 0
Started σ l = StartIs σ l.numbers l.first l.head

abbrev pub Ended : Lent → Answer → Lent → Type 0
Ended l a m =
    EndIs l.numbers l.first l.marks l.zone_first l.string_first a m.numbers
    × (m ≡ lent m.numbers l.first l.head l.marks l.zone_first l.string_first)

-- calls of piece, one after the other, with what each answers
pub data Fed : Lent → List (List ℕ) → List ℕ → Lent → Type 0 where
  fed_none : {l : Lent} → Fed l [] [] l
  fed_more :
      {l m n : Lent} {p : List ℕ} {ps : List (List ℕ)} {r : ℕ} {rs : List ℕ}
      → PieceIs l p r m
      → Fed m ps rs n
      → Fed l (p ∷ ps) (r ∷ rs) n

-- every answer is the same
pub data Each (k : ℕ) : List ℕ → Type 0 where
  each_none : Each k []
  each_more : {r : ℕ} {rs : List ℕ} → r ≡ k → Each k rs → Each k (r ∷ rs)

pub fed_stands :
    {σ : Settings} {l n : Lent} {ps : List (List ℕ)} {rs : List ℕ} (b : List ℕ)
    → Fed l ps rs n
    → StandsFor σ b l
    → StandsFor σ (b ++ joined ps) n × Each 0 rs
fed_stands {σ} {l} b fed_none s = (subst (λ (c : List ℕ). StandsFor σ c l) (sym (append-nil b)) s, each_none)
fed_stands {σ} {n = n} b (fed_more {p = p} {ps = ps} w k) s =
    let v = fed_stands (b ++ p) k (w.goes σ b s) in
    (subst (λ (c : List ℕ). StandsFor σ c n) (append_assoc b p (joined ps)) v.0, each_more (w.taken s.live).0 v.1)

module _
    (σ : Settings) (l m n : Lent) (ps : List (List ℕ)) (rs : List ℕ) (a : Answer) (started : Started σ l) (fed : Fed l ps rs m)
    (ended : Ended m a n) (small : Bytes (joined ps)) where
  stood : StandsFor σ (joined ps) m × Each 0 rs
  stood = fed_stands [] fed (begun σ l.numbers l.first l.head started l.marks l.zone_first l.string_first)

  -- no piece is answered anything but 0
  pub no_verdict_before : Each 0 rs
  no_verdict_before = stood.1

  pub every_cutting : a ≡ verdict_of σ (joined ps)
  every_cutting = ended.0.answers σ (joined ps) m.head small stood.0

  -- so it keeps the words of a verdict, as `reader::check` does, and no other answer does
  pub every_verdict : Verdict σ (joined ps) a
  every_verdict = rw every_cutting (meets σ (joined ps) small)

  pub as_the_whole : (c : Answer) → Verdict σ (joined ps) c → a ≡ c
  as_the_whole c v = every_cutting ∙ only σ (joined ps) c small v

  -- the end is over
  pub then_over : number n.numbers 0 ≡ 1
  then_over =
      let s = stood.0 in
      rw (ended.0.over s.live) (get_or-set_same m.numbers 0 1 0 (omega (arith, s.size)))

-- after the end a piece or an end is 20 at 0, and the state as it was
over_piece : (l m : Lent) (p : List ℕ) (r : ℕ) → number l.numbers 0 ≡ 1 → PieceIs l p r m → (r ≡ 20) × (m ≡ l)
over_piece l m p r e w = w.late (λ z. omega (arith, e, z))

pub over_pieces : {l m : Lent} {ps : List (List ℕ)} {rs : List ℕ} → number l.numbers 0 ≡ 1 → Fed l ps rs m → Each 20 rs × (m ≡ l)
over_pieces e fed_none = (each_none, refl)
over_pieces {l} {m} e (fed_more {m = o} {p = p} {ps = ps} {r = r} w k) =
    let y = over_piece l o p r e w in
    let v = over_pieces (ap (λ (x : Lent). number x.numbers 0) y.1 ∙ e) k in
    (each_more y.0 v.0, v.1 ∙ y.1)

pub over_end : (l m : Lent) (a : Answer) → number l.numbers 0 ≡ 1 → Ended l a m → (a ≡ Refused 20 0) × (m ≡ l)
over_end l m a e w =
    let y = w.0.late (λ z. omega (arith, e, z)) in
    (y.0, w.1 ∙ ap (λ (n : List ℕ). lent n l.first l.head l.marks l.zone_first l.string_first) y.1)

-- the state that a piece leaves: two that stand for the same bytes answer alike for ever, however what follows is cut
module _
    (σ : Settings) (b : List ℕ) (l m l' m' : Lent) (ps qs : List (List ℕ)) (rs ts : List ℕ) (a c : Answer)
    (s : StandsFor σ b l) (t : StandsFor σ b m) (f : Fed l ps rs l') (g : Fed m qs ts m') (same : joined ps ≡ joined qs)
    (small : Bytes (b ++ joined ps)) (l'' m'' : Lent) where
  pub alike : Ended l' a l'' → Ended m' c m'' → (a ≡ c) × Each 0 rs × Each 0 ts
  alike x y =
      let v = fed_stands b f s in
      let w = fed_stands b g t in
      let k : StandsFor σ (b ++ joined ps) m' = rw same w.0 in
      (x.0.answers σ (b ++ joined ps) l'.head small v.0 ∙ sym (y.0.answers σ (b ++ joined ps) m'.head small k), v.1, w.1)
