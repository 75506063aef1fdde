-- The search for the first element that names an undeclared number: what is left to search ends where the whole ends.
-- Assumes nothing.
use Prim.Native.Nat.{ℕ, ◌+◌, ◌≤◌, ◌<◌}
use native.Mathlib.Omega.{arith}
use mathlib.Core.Path.{◌≡◌, refl, sym, ◌∙◌, ap, subst}
use mathlib.Core.Bool.{Bool, true, false}
use mathlib.Core.List.{List, [], ◌∷◌, ◌++◌}
use mathlib.Core.Option.{none, some}
use lib.ListN.{length, drop, length-drop}
use lib.Seq.{drop-drop}
use Rattle.format.specs.Slots.{Starts, Fits}
use Rattle.format.specs.Records.{Record}
use Rattle.format.specs.Layout.{layout, layouts}
use Rattle.format.specs.Rules.{shaped}
use Rattle.format.specs.ZonesAndStrings.{Role, role, all_among, first_naming}
use Rattle.format.specs.Table.{PassKept, element_breaks}
use Rattle.format.specs.Verdict.{stated}
use Rattle.format.specs.Reader.{elements_of, Result, halted, through}
use Rattle.format.proofs.Slots.{bytes_drop, starts_split, starts_length}
use Rattle.format.proofs.Kept.{own_kept, own_unbroken}
use Rattle.format.proofs.Decoding.{starts_stated, starts_next}
use Rattle.format.proofs.Passing.{Ends, pass_meets}
use Rattle.flags.specs.Marks.{Marks}
use Rattle.places.specs.Walks.{RoleBytes, Walkable, or_zero}
use Rattle.places.proofs.Roles.{role_bytes}
use Rattle.format.specs.declared.settings.Settings.{Settings}

-- the elements of a table that the pass came through
pub came : (σ : Settings) (t : List ℕ) (w : Walkable σ t) → Fits (drop 16 t) (layouts w.rs) × PassKept σ [] w.rs
came σ t w = go (elements_of σ t) w.whole (pass_meets σ (length (drop 16 t)) [] 16 (drop 16 t) (bytes_drop 16 t w.bytes) (omega arith))
  where
    go : (o : Result) → o ≡ through w.rs → Ends σ [] 16 (drop 16 t) o → Fits (drop 16 t) (layouts w.rs) × PassKept σ [] w.rs
    go (halted k p) e h = let z : ◌≡◌ {A = ℕ} 0 1 = cc in absurd (omega arith)
    go (through all) e h =
        let q : h.0 ≡ w.rs = cc h.3 in
        (subst (λ (l : List Record). Fits (drop 16 t) (layouts l)) q h.1, subst (λ (l : List Record). PassKept σ [] l) q h.2)

pub kept_shaped : (σ : Settings) (before : List Record) (r : Record) → element_breaks σ before r ≡ none → shaped r ≡ true
kept_shaped σ before r h = (own_kept σ r (own_unbroken σ before r h)).shape_8

-- what stands at a place before the end, and what follows it
pub record Head (σ : Settings) (t : List ℕ) (at : ℕ) (todo : List Record) (before : List Record) : Type 0 where
  pub first : Record
  pub others : List Record
  pub same : todo ≡ first ∷ others
  pub starts : Starts (drop at t) (layout first) (drop (at + stated (drop at t)) t)
  pub next : Fits (drop (at + stated (drop at t)) t) (layouts others)
  pub within : at + stated (drop at t) ≤ length t
  pub size : stated (drop at t) ≡ length (layout first)
  pub keeps : element_breaks σ before first ≡ none
  pub later : PassKept σ (before ++ first ∷ []) others

pub head :
    (σ : Settings) (t : List ℕ) (at : ℕ) (todo before : List Record)
    → Fits (drop at t) (layouts todo)
    → PassKept σ before todo
    → at < length t
    → Head σ t at todo before
head σ t at [] before f k h = absurd (omega (arith, length-drop at t, ap length f))
head σ t at (r ∷ rs) before f k h =
    let c = starts_split (drop at t) (layout r) (layouts rs) [] f in
    let d : c.0 ≡ drop (at + stated (drop at t)) t = starts_next (drop at t) r c.0 c.1 ∙ drop-drop (stated (drop at t)) at t in
    let n = starts_stated (drop at t) r c.0 c.1 in
    record {
      first = r;
      others = rs;
      same = refl;
      starts = rw d at c.1;
      next = rw d at c.2;
      within = omega (arith, n, starts_length (drop at t) (layout r) c.0 c.1, length-drop at t);
      size = n;
      keeps = k.1;
      later = k.2;
    }

-- the list is the only one
pub same_list : (σ : Settings) (t : List ℕ) (rs rs' : List Record) → elements_of σ t ≡ through rs → elements_of σ t ≡ through rs' → rs ≡ rs'
same_list σ t rs rs' p q = let e : through rs ≡ through rs' = sym p ∙ q in cc

-- the loop's invariant
pub record Search (σ : Settings) (names : Role → List ℕ) (declared : List Record → List ℕ) (l : List Bool) (t : List ℕ)
    (at : ℕ) : Type 0 where
  pub rs : List Record
  pub todo : List Record
  pub done : List Record
  pub whole : elements_of σ t ≡ through rs
  pub fits : Fits (drop at t) (layouts todo)
  pub kept : PassKept σ done todo
  pub within : at ≤ length t
  pub marked : Marks l (declared rs)
  pub same : first_naming names (declared rs) 16 rs ≡ first_naming names (declared rs) at todo

module _ (σ : Settings) (names : Role → List ℕ) (declared : List Record → List ℕ) (l : List Bool) (t : List ℕ) where
  pub begin : (w : Walkable σ t) → Marks l (declared w.rs) → Search σ names declared l t 16
  begin w m =
      let c = came σ t w in
      record { rs = w.rs; todo = w.rs; done = []; whole = w.whole; fits = c.0; kept = c.1; within = w.long; marked = m; same = refl }

  module _ (at : ℕ) (s : Search σ names declared l t at) where
    pub here : at < length t → Head σ t at s.todo s.done
    here h = head σ t at s.todo s.done s.fits s.kept h

    bytes_here : (h : at < length t) → RoleBytes t at (role (here h).first)
    bytes_here h =
        let g = here h in
        role_bytes t at g.first _ g.starts (kept_shaped σ s.done g.first g.keeps)

    pub some_role : at < length t → (x : Role) × RoleBytes t at x
    some_role h = (role (here h).first, bytes_here h)

    went :
        (h : at < length t)
        → all_among (names (role (here h).first)) (declared s.rs) ≡ true
        → Search σ names declared l t (at + stated (drop at t))
    went h e =
        let g = here h in
        record {
          rs = s.rs;
          todo = g.others;
          done = s.done ++ g.first ∷ [];
          whole = s.whole;
          fits = g.next;
          kept = g.later;
          within = g.within;
          marked = s.marked;
          same =
              s.same
              ∙ ap (λ (l : List Record). first_naming names (declared s.rs) at l) g.same
              ∙ simp (e, g.size);
        }

    found_here :
        (h : at < length t)
        → all_among (names (role (here h).first)) (declared s.rs) ≡ false
        → at ≡ or_zero (first_naming names (declared s.rs) 16 s.rs)
    found_here h e =
        let g = here h in
        let p : first_naming names (declared s.rs) 16 s.rs ≡ some at =
        s.same ∙ ap (λ (l : List Record). first_naming names (declared s.rs) at l) g.same ∙ simp e in
        rw p

    none_left : length t ≤ at → 0 ≡ or_zero (first_naming names (declared s.rs) 16 s.rs)
    none_left h = rw s.same (go s.todo s.fits)
      where
        go : (todo : List Record) → Fits (drop at t) (layouts todo) → 0 ≡ or_zero (first_naming names (declared s.rs) at todo)
        go [] f = refl
        go (r ∷ todo) f = absurd
            (omega (
              arith,
              starts_length (drop at t) (layout r) _ (starts_split (drop at t) (layout r) (layouts todo) [] f).1,
              length-drop at t,
            ))

    -- the same, as the code's test tells it
    module _ (h : at < length t) (r : Bool) (tells : (x : Role) (ns : List ℕ) → RoleBytes t at x → Marks l ns → r
        ≡ all_among (names x) ns) where
      told : r ≡ all_among (names (role (here h).first)) (declared s.rs)
      told = tells (role (here h).first) (declared s.rs) (bytes_here h) s.marked

      pub go_on : r ≡ true → Search σ names declared l t (at + stated (drop at t))
      go_on e = went h (sym told ∙ e)

      pub found : r ≡ false → (rs : List Record) → elements_of σ t ≡ through rs → at ≡ or_zero (first_naming names (declared rs) 16 rs)
      found e rs w = rw (same_list σ t rs s.rs w s.whole) (found_here h (sym told ∙ e))

    pub finish : length t ≤ at → (rs : List Record) → elements_of σ t ≡ through rs → 0 ≡ or_zero (first_naming names (declared rs) 16 rs)
    finish h rs w = rw (same_list σ t rs s.rs w s.whole) (none_left h)
