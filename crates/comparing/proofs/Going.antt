-- Two tables walked side by side: what the loop of `compare` keeps, one turn, and the end.
-- Assumes nothing.
use Prim.Native.Nat.{ℕ, ◌+◌, ◌-◌, ◌<◌, ◌≤◌}
use native.Mathlib.Omega.{arith}
use native.Mathlib.Nat.{add-zero}
use mathlib.Core.Path.{◌≡◌, refl, sym, ◌∙◌, ap, subst}
use mathlib.Core.Bool.{Bool, true, false, ◌||◌, false≢true}
use mathlib.Core.List.{List, [], ◌∷◌, ◌++◌, append_assoc}
use mathlib.Core.Option.{Option, none, some}
use lib.ListN.{length, length-append}
use lib.Dec.{ltb}
use borrow.Author.Tests.{ltb-true, ltb-false, le-ltb}
use Rattle.format.specs.Records.{Record}
use Rattle.format.specs.Layout.{layout}
use Rattle.format.specs.Verdict.{Accepts, Verdict, accepted}
use Rattle.format.specs.declared.pins.Chip.{Chip}
use Rattle.format.specs.declared.settings.Settings.{Settings}
use Rattle.format.specs.declared.records.Description.{Description}
use Rattle.format.specs.Answers.{Answer}
use Rattle.format.specs.Answers.{Gives as Accepted, Refused}
use Rattle.walking.specs.Walk.{Here, Walk}
use Rattle.walking.proofs.Left.{top, next, onward, unfinished}
use Rattle.spelling.specs.Spelling.{Put}
use Rattle.spelling.proofs.Putting.{then}
use Rattle.differing.specs.Differences.{Difference, partnerless, elementwise, descriptionwise, differences, line_of, lines}
use Rattle.differing.specs.Compared.{archived}
use Rattle.differing.proofs.Equal.{AllFair, fair}
use Rattle.differing.proofs.Bound.{text_bound}
use Rattle.comparing.specs.Rows.{rows_text}
use Rattle.comparing.specs.Lines.{At, long, besides, besides_text, Compares, compared, second_refused}
use Rattle.comparing.specs.Outcomes as outcome
use Rattle.comparing.proofs.Midst.{Midst, begun, more, ended, room}
use Rattle.comparing.proofs.Beside.{Fairly, besides_meant, descriptions_meant}

-- both tables are accepted
pub record Agreed (c : Chip) (one two : List ℕ) : Type 0 where
  pub d : Description
  pub d' : Description
  pub rs : List Record
  pub rs' : List Record
  pub first : Accepts (archived c) one d rs
  pub second : Accepts (archived c) two d' rs'

accepted_so :
    (c : Chip) (t : List ℕ) {σ : Settings} {a : Answer} {n : ℕ}
    → σ ≡ archived c
    → Verdict σ t a
    → a ≡ Accepted n
    → Verdict (archived c) t (Accepted n)
accepted_so c t {σ} {a} {n} e v k = subst (λ (s : Settings). Verdict s t (Accepted n)) e (subst (λ (x : Answer). Verdict σ t x) k v)

pub agreed :
    (c : Chip) (one two : List ℕ) {σ σ' : Settings} {x x' : Answer} {n m : ℕ}
    → σ ≡ archived c
    → Verdict σ one x
    → x ≡ Accepted n
    → σ' ≡ archived c
    → Verdict σ' two x'
    → x' ≡ Accepted m
    → Agreed c one two
agreed c one two e v k e' v' k' = go (accepted_so c one e v k) (accepted_so c two e' v' k')
  where
    go : {n m : ℕ} → Verdict (archived c) one (Accepted n) → Verdict (archived c) two (Accepted m) → Agreed c one two
    go (accepted d rs a) (accepted d' rs' a') = record { d = d; d' = d'; rs = rs; rs' = rs'; first = a; second = a' }

pub refused_so :
    (c : Chip) (t : List ℕ) {σ : Settings} {k p : ℕ}
    → σ ≡ archived c
    → Verdict σ t (Refused k p)
    → Verdict (archived c) t (Refused k p)
refused_so c t {k = k} {p = p} e v = subst (λ (s : Settings). Verdict s t (Refused k p)) e v

pub second_refused_lem :
    (c : Chip) (one two buf : List ℕ) {σ : Settings} {x : Answer} {n k p : ℕ}
    → σ ≡ archived c
    → Verdict σ one x
    → x ≡ Accepted n
    → Verdict (archived c) two (Refused k p)
    → Compares c one two buf (outcome.Refused 2 k p) buf
second_refused_lem c one two buf {k = k} {p = p} e v q w = go (accepted_so c one e v q)
  where
    go : {n : ℕ} → Verdict (archived c) one (Accepted n) → Compares c one two buf (outcome.Refused 2 k p) buf
    go (accepted d rs a) = second_refused d rs a w

-- the two tests of the loop
neither : (s t : Bool) → s || t ≡ false → (s ≡ false) × (t ≡ false)
neither true t e = absurd (false≢true (sym e))
neither false t e = (refl, e)

some_left : (a b n m : ℕ) → ltb a n || ltb b m ≡ true → n ≤ a → m ≤ b → ⊥
some_left a b n m e h k = false≢true ((λ j. sym (le-ltb a n h) j || sym (le-ltb b m k) j) ∙ e)

none_left : (a b n m : ℕ) → ltb a n || ltb b m ≡ false → (n ≤ a) × (m ≤ b)
none_left a b n m e = let p = neither (ltb a n) (ltb b m) e in (ltb-false a n p.0, ltb-false b m p.1)

-- the first of what is left, and the others
abbrev head : List Record → Option Record
head [] = none
head (r ∷ rs) = some r

abbrev tail : List Record → List Record
tail [] = []
tail (r ∷ rs) = rs

abbrev Left : List Record → List Record → List Record → Type 0
Left left done l = l ≡ left

module _ (c : Chip) (t : List ℕ) (at : ℕ) where
  first_left : (r : Record) (rs : List Record) (w : Walk (archived c) t at (Left (r ∷ rs))) → (at < length t) × Here c t at r
  first_left r rs w =
      let h = unfinished (archived c) t at (Left (r ∷ rs)) w (omega (arith, ap length w.state)) in
      let g = next (archived c) t at (Left (r ∷ rs)) w h in
      let e = same g.r r g.others rs (sym g.same ∙ w.state) in
      (h, subst (λ (x : Record). Here c t at x) e g.here)
    where
      same : (x y : Record) (xs ys : List Record) → x ∷ xs ≡ y ∷ ys → x ≡ y
      same x y xs ys e = cc

  at_now : (left : List Record) → Walk (archived c) t at (Left left) → At c t at (head left)
  at_now [] w = go (ltb at (length t)) refl
    where
      go : (b : Bool) → ltb at (length t) ≡ b → length t ≤ at
      go true e =
          let g = next (archived c) t at (Left []) w (ltb-true at (length t) e) in
          absurd (omega (arith, ap length g.same, ap length w.state))
      go false e = ltb-false at (length t) e
  at_now (r ∷ rs) w = first_left r rs w

  onward_now :
      (left : List Record) {n : ℕ}
      → Walk (archived c) t at (Left left)
      → n ≡ at + long (head left)
      → Walk (archived c) t n (Left (tail left))
  onward_now [] {n} w e = subst (λ (m : ℕ). Walk (archived c) t m (Left [])) (sym (e ∙ add-zero at)) w
  onward_now (r ∷ rs) {n} w e =
      let f = first_left r rs w in
      subst (λ (m : ℕ). Walk (archived c) t m (Left rs)) (sym e)
      (onward (archived c) t at (Left (r ∷ rs)) w (Left rs) f.0 (sym f.1.size)
      (λ g. rest g.r r g.others rs (sym g.same ∙ w.state)))
    where
      rest : (x y : Record) (xs ys : List Record) → x ∷ xs ≡ y ∷ ys → xs ≡ ys
      rest x y xs ys e = cc

  bound_now : (left : List Record) {n : ℕ} → Walk (archived c) t at (Left left) → at ≤ 4096 → n ≡ at + long (head left) → n ≤ 4096
  bound_now [] w h e = omega arith
  bound_now (r ∷ rs) w h e =
      let f = (first_left r rs w).1 in
      omega (arith, f.size, f.within, top (archived c) t at (Left (r ∷ rs)) w)

fair_head : (c : Chip) (left : List Record) → AllFair c left → Fairly c (head left) × AllFair c (tail left)
fair_head c [] f = (tt, tt)
fair_head c (r ∷ rs) f = (f.0, f.1)

-- the lines of what is left are those of the first, and then the others'
lines_append : (ds es : List Difference) → lines (ds ++ es) ≡ lines ds ++ lines es
lines_append [] es = refl
lines_append (d ∷ ds) es = ap (λ (l : List ℕ). line_of d ++ l) (lines_append ds es) ∙ sym (append_assoc (line_of d) (lines ds) (lines es))

alone : (a b : ℕ) (rs : List Record) → partnerless a rs ≡ elementwise a b rs []
alone a b [] = refl
alone a b (r ∷ rs) = refl

unfolded :
    (a b : ℕ) (left left' : List Record)
    → elementwise a b left left' ≡ besides a b (head left) (head left')
    ++ elementwise (a + long (head left)) (b + long (head left')) (tail left) (tail left')
unfolded a b [] [] = refl
unfolded a b [] (r' ∷ rs') = refl
unfolded a b (r ∷ rs) [] = ap (λ (l : List Difference). besides a b (some r) none ++ l) (alone (a + length (layout r)) (b + 0) rs)
unfolded a b (r ∷ rs) (r' ∷ rs') = refl

-- THE INVARIANT
module _ (c : Chip) (one two : List ℕ) (g : Agreed c one two) where
  abbrev all : List ℕ
  all = lines (elementwise 16 16 g.rs g.rs')

  pub record Going (buf : List ℕ) (from end : ℕ) (out : List ℕ) (a b : ℕ) : Type 0 where
    pub left : List Record
    pub left' : List Record
    pub here : Walk (archived c) one a (Left left)
    pub here' : Walk (archived c) two b (Left left')
    pub low : a ≤ 4096
    pub low' : b ≤ 4096
    pub fairs : AllFair c left
    pub fairs' : AllFair c left'
    pub midst : Midst buf from all end out (lines (elementwise a b left left'))

  pub going_begun : (buf : List ℕ) (from : ℕ) → Going buf from from buf 16 16
  going_begun buf from =
      record {
        left = g.rs;
        left' = g.rs';
        here = record { d = g.d; done = []; left = g.rs; accepts = g.first; place = refl; state = refl };
        here' = record { d = g.d'; done = []; left = g.rs'; accepts = g.second; place = refl; state = refl };
        low = omega arith;
        low' = omega arith;
        fairs = fair (archived c) g.d g.rs g.first.keeps;
        fairs' = fair (archived c) g.d' g.rs' g.second.keeps;
        midst = begun buf from all;
      }

  -- the text of the descriptions, which comes first, and the room for all of it
  pub opened : lines (descriptionwise g.d g.d') ≡ rows_text one two 0 0 5 8
  opened = descriptions_meant (archived c) one two g.d g.d' g.rs g.rs' g.first g.second

  pub enough : length (rows_text one two 0 0 5 8) + length all ≤ 59016
  enough =
      omega (
        arith,
        text_bound (archived c) g.d g.d' g.rs g.rs' g.first.keeps g.second.keeps,
        ap length (lines_append (descriptionwise g.d g.d') (elementwise 16 16 g.rs g.rs')),
        length-append (lines (descriptionwise g.d g.d')) all,
        ap length opened,
      )

  module _ {buf : List ℕ} {from end : ℕ} {out : List ℕ} {a b : ℕ} (w : Going buf from end out a b) where
    pub x : Option Record
    x = head w.left

    pub y : Option Record
    y = head w.left'

    pub there : At c one a x
    unfolding x
    there = at_now c one a w.left w.here

    pub there' : At c two b y
    unfolding y
    there' = at_now c two b w.left' w.here'

    meant : lines (besides a b x y) ≡ besides_text one two a b x y
    unfolding x y
    meant =
        besides_meant c one two a b (head w.left) (head w.left') (at_now c one a w.left w.here)
        (at_now c two b w.left' w.here')
        (fair_head c w.left w.fairs).0 (fair_head c w.left' w.fairs').0 w.low w.low'

    pub split :
        lines (elementwise a b w.left w.left') ≡ besides_text one two a b x y
        ++ lines (elementwise (a + long x) (b + long y) (tail w.left) (tail w.left'))
    unfolding x y
    split =
        ap lines (unfolded a b w.left w.left')
        ∙ lines_append (besides a b (head w.left) (head w.left'))
        (elementwise (a + long (head w.left)) (b + long (head w.left')) (tail w.left) (tail w.left'))
        ∙ ap (λ (l : List ℕ). l ++ lines (elementwise (a + long (head w.left)) (b + long (head w.left')) (tail w.left)
        (tail w.left'))) meant

    pub space :
        from ≡ 0 + length (rows_text one two 0 0 5 8)
        → (end + length (besides_text one two a b x y) ≤ 59016) × (length out ≡ length buf)
    space e =
        let r = room w.midst in (
          omega (
            arith,
            r.0,
            e,
            enough,
            ap length split,
            length-append (besides_text one two a b x y) (lines (elementwise (a + long x) (b + long y) (tail w.left) (tail w.left'))),
          ),
          r.1,
        )

    pub turned :
        {end' : ℕ} {out' : List ℕ} {a' b' : ℕ}
        → Put out end (besides_text one two a b x y) end' out'
        → a' ≡ a + long x
        → b' ≡ b + long y
        → Going buf from end' out' a' b'
    unfolding x y
    turned {end'} {out'} {a'} {b'} p e f =
        let m = more (subst (λ (l : List ℕ). Midst buf from all end out l) split w.midst) p in
        record {
          left = tail w.left;
          left' = tail w.left';
          here = onward_now c one a w.left w.here e;
          here' = onward_now c two b w.left' w.here' f;
          low = bound_now c one a w.left w.here w.low e;
          low' = bound_now c two b w.left' w.here' w.low' f;
          fairs = (fair_head c w.left w.fairs).1;
          fairs' = (fair_head c w.left' w.fairs').1;
          midst = subst (λ (l : List ℕ). Midst buf from all end' out' l)
              (λ j. lines (elementwise (sym e j) (sym f j) (tail w.left) (tail w.left'))) m;
        }

    -- each turn comes nearer to the end
    pub nearer :
        {a' b' : ℕ} → ltb a (length one) || ltb b (length two) ≡ true → a' ≡ a + long x → b' ≡ b + long y
        → (length one - a') + (length two - b') < (length one - a) + (length two - b)
    unfolding x y
    nearer t e f = go w.left w.left' (at_now c one a w.left w.here) (at_now c two b w.left' w.here') e f
      where
        go :
            (l l' : List Record) {a' b' : ℕ}
            → At c one a (head l)
            → At c two b (head l')
            → a' ≡ a + long (head l)
            → b' ≡ b + long (head l')
            → (length one - a') + (length two - b') < (length one - a) + (length two - b)
        go [] [] h i e f = absurd (some_left a b (length one) (length two) t h i)
        go [] (r' ∷ rs') h i e f = omega (arith, i.0)
        go (r ∷ rs) [] h i e f = omega (arith, h.0)
        go (r ∷ rs) (r' ∷ rs') h i e f = omega (arith, h.0, i.0)

    pub whole :
        {c₀ : List ℕ}
        → ltb a (length one) || ltb b (length two) ≡ false
        → Put c₀ 0 (rows_text one two 0 0 5 8) from buf
        → Compares c one two c₀ (outcome.Text end) out
    whole {c₀} t p = go w.left w.left' (at_now c one a w.left w.here) (at_now c two b w.left' w.here') w.midst
      where
        go :
            (l l' : List Record)
            → At c one a (head l)
            → At c two b (head l')
            → Midst buf from all end out (lines (elementwise a b l l'))
            → Compares c one two c₀ (outcome.Text end) out
        go [] [] h i m =
            let e : rows_text one two 0 0 5 8 ++ all ≡ lines (differences g.d g.rs g.d' g.rs') =
            ap (λ (l : List ℕ). l ++ all) (sym opened)
            ∙ sym (lines_append (descriptionwise g.d g.d') (elementwise 16 16 g.rs g.rs')) in
            compared g.d g.d' g.rs g.rs' g.first g.second
            (subst (λ (l : List ℕ). Put c₀ 0 l end out) e (then p (ended m)))
        go [] (r' ∷ rs') h i m = absurd (omega (arith, i.0, none_left a b (length one) (length two) t))
        go (r ∷ rs) l' h i m = absurd (omega (arith, h.0, none_left a b (length one) (length two) t))
