-- The laws of every walk over the elements of an accepted table: how it begins, the element at a place, one turn, and the end.
-- Whatever list is accepted will do: none asks for there being only one.
-- Assumes nothing.
use Prim.Native.Nat.{ℕ, ◌+◌, ◌≤◌, ◌<◌}
use native.Mathlib.Omega.{arith}
use mathlib.Core.Path.{◌≡◌, refl, sym, ◌∙◌, ap, subst}
use mathlib.Core.List.{List, [], ◌∷◌, ◌++◌, append-nil, append_assoc}
use mathlib.Core.Option.{none}
use lib.ListN.{length, take, drop, length-append, length-drop}
use lib.Seq.{drop-drop}
use Rattle.format.specs.Slots.{Slot, Fits, byte}
use Rattle.format.specs.Records.{Record}
use Rattle.format.specs.Layout.{layout, layouts, opening, table, place_after}
use Rattle.format.specs.Table.{PassKept, element_breaks}
use Rattle.format.specs.Verdict.{stated, Accepts, Verdict, accepted}
use Rattle.format.specs.Decode.{read_description}
use Rattle.format.specs.declared.settings.Settings.{Settings}
use Rattle.format.specs.declared.records.Description.{Description}
use Rattle.format.specs.Answers.{Gives as Accepted}
use Rattle.format.proofs.Slots.{starts_split, starts_rest, starts_length, take_fits}
use Rattle.format.proofs.Opening.{opened_only, opened_facts, table_length, table_split}
use Rattle.format.proofs.Lengths.{layouts_append, snoc_length}
use Rattle.format.proofs.Decoding.{starts_stated}
use Rattle.format.proofs.Kept.{unbroken_kind, described_kind}
use Rattle.format.proofs.Theorem.{accepts_passed}
use Rattle.walking.specs.Division.{Divided}
use Rattle.walking.specs.Walk.{Here, Walk}
use Rattle.walking.proofs.Division.{divided}

-- the description of an accepted table is the one that is read
pub reads :
    (σ : Settings) (t : List ℕ) (d : Description) (rs : List Record)
    → Accepts σ t d rs
    → (16 ≤ length t) × (d ≡ read_description σ.chip (byte t))
reads σ t d rs a =
    let p = accepts_passed σ t d rs a in
    let s = table_split σ.chip t d rs p.limit p.fits (described_kind σ.chip d p.described) in
    ((opened_facts σ.chip t d s.rest s.opened).0, (opened_only σ.chip t d s.rest s.opened).0)

-- what is left at a place: its layout is the rest of the bytes, and it keeps the rules after what lies behind
fits_from :
    (t : List ℕ) (d : Description) (done left : List Record)
    → Fits t (table d (done ++ left))
    → Fits (drop (place_after done) t) (layouts left)
fits_from t d done left f =
    let o = opening d (16 + length (layouts (done ++ left))) in
    let a = starts_split t o (layouts (done ++ left)) [] f in
    let g = subst (λ (l : List Slot). Fits a.0 l) (layouts_append done left) a.2 in
    let b = starts_split a.0 (layouts done) (layouts left) [] g in
    let e : b.0 ≡ drop (place_after done) t =
    starts_rest a.0 (layouts done) b.0 b.1
    ∙ ap (λ (l : List ℕ). drop (length (layouts done)) l) (starts_rest t o a.0 a.1)
    ∙ drop-drop (length (layouts done)) 16 t in
    subst (λ (l : List ℕ). Fits l (layouts left)) e b.2

kept_from : (σ : Settings) (before done left : List Record) → PassKept σ before (done ++ left) → PassKept σ (before ++ done) left
kept_from σ before [] left h = subst (λ (l : List Record). PassKept σ l left) (sym (append-nil before)) h
kept_from σ before (r ∷ done) left h =
    subst (λ (l : List Record). PassKept σ l left) (append_assoc before (r ∷ []) done) (kept_from σ (before ++ r ∷ []) done left h.2)

-- the element at a place, its bytes, and what is left after it
pub record Next (σ : Settings) (t : List ℕ) (at : ℕ) (done left : List Record) : Type 0 where
  pub r : Record
  pub others : List Record
  pub same : left ≡ r ∷ others
  pub here : Here σ.chip t at r
  pub bytes : Fits (take (stated (drop at t)) (drop at t)) (layout r)
  pub keeps : element_breaks σ done r ≡ none

first_left :
    (σ : Settings) (t : List ℕ) (at : ℕ) (done left : List Record)
    → Fits (drop at t) (layouts left)
    → PassKept σ done left
    → at < length t
    → Next σ t at done left
first_left σ t at done [] f k h = absurd (omega (arith, length-drop at t, ap length f))
first_left σ t at done (r ∷ rs) f k h =
    let bs = drop at t in
    let c = starts_split bs (layout r) (layouts rs) [] f in
    let n = starts_stated bs r c.0 c.1 in
    record {
      r = r;
      others = rs;
      same = refl;
      here =
          record {
            stands = record { rest = c.0; starts = c.1; kind = unbroken_kind σ done r k.1 };
            size = n;
            within = omega (arith, n, starts_length bs (layout r) c.0 c.1, length-drop at t);
          };
      bytes = rw n (take_fits bs (layout r) c.0 c.1);
      keeps = k.1;
    }

-- an accepted table is divided from its first element on
pub accepted_divided : (σ : Settings) (t : List ℕ) (d : Description) (rs : List Record) → Accepts σ t d rs → Divided t 16
accepted_divided σ t d rs a = divided t 16 rs (fits_from t d [] rs a.fits)

pub verdict_divided : (σ : Settings) (t : List ℕ) {n : ℕ} → Verdict σ t (Accepted n) → Divided t 16
verdict_divided σ t (accepted d rs a) = accepted_divided σ t d rs a

-- all records of the table lie behind
pub record Whole (σ : Settings) (t : List ℕ) (S : List Record → List Record → Type 0) : Type 0 where
  pub d : Description
  pub rs : List Record
  pub accepts : Accepts σ t d rs
  pub state : S rs []

pub begin :
    (σ : Settings) (t : List ℕ) (S : List Record → List Record → Type 0) {n : ℕ}
    → Verdict σ t (Accepted n)
    → ((rs : List Record) → length rs ≡ n → S [] rs)
    → Walk σ t 16 S
begin σ t S (accepted d rs a) s = record { d = d; done = []; left = rs; accepts = a; place = refl; state = s rs refl }

module _ (σ : Settings) (t : List ℕ) (at : ℕ) (S : List Record → List Record → Type 0) (w : Walk σ t at S) where
  pub top : length t ≤ 4096
  top = (accepts_passed σ t w.d (w.done ++ w.left) w.accepts).limit

  pub next : at < length t → Next σ t at w.done w.left
  next h =
      first_left σ t at w.done w.left
      (subst (λ (n : ℕ). Fits (drop n t) (layouts w.left)) (sym w.place) (fits_from t w.d w.done w.left w.accepts.fits))
      (kept_from σ [] w.done w.left w.accepts.keeps.passed)
      h

  pub here : at < length t → (x : Record) × Here σ.chip t at x
  here h = ((next h).r, (next h).here)

  pub onward :
      (S' : List Record → List Record → Type 0) {n : ℕ}
      → at < length t
      → n ≡ stated (drop at t)
      → ((g : Next σ t at w.done w.left) → S' (w.done ++ g.r ∷ []) g.others)
      → Walk σ t (at + n) S'
  onward S' {n} h e step =
      let g = next h in
      let all : w.done ++ w.left ≡ (w.done ++ g.r ∷ []) ++ g.others =
      ap (λ (l : List Record). w.done ++ l) g.same ∙ sym (append_assoc w.done (g.r ∷ []) g.others) in
      record {
        d = w.d;
        done = w.done ++ g.r ∷ [];
        left = g.others;
        accepts = subst (λ (l : List Record). Accepts σ t w.d l) all w.accepts;
        place = omega (arith, w.place, e, g.here.size, snoc_length w.done g.r);
        state = step g;
      }

  -- the rest of the table is as long as what is left
  rest_length : length t ≡ at + length (layouts w.left)
  rest_length =
      omega (
        arith,
        w.place,
        table_length t w.d (w.done ++ w.left) w.accepts.fits,
        ap length (layouts_append w.done w.left),
        length-append (layouts w.done) (layouts w.left),
      )

  pub unfinished : 0 < length w.left → at < length t
  unfinished h = go w.left rest_length h
    where
      go : (left : List Record) → length t ≡ at + length (layouts left) → 0 < length left → at < length t
      go [] e h = absurd (omega arith)
      go (r ∷ left) e h = omega arith

  pub ended : length t ≤ at → Whole σ t S
  ended h = go w.left rest_length w.accepts w.state
    where
      go :
          (left : List Record)
          → length t ≡ at + length (layouts left)
          → Accepts σ t w.d (w.done ++ left)
          → S w.done left
          → Whole σ t S
      go [] e a s = record {
        d = w.d;
        rs = w.done;
        accepts = subst (λ (l : List Record). Accepts σ t w.d l)
            (append-nil w.done) a;
        state = s;
      }
      go (r ∷ left) e a s = absurd (omega arith)
