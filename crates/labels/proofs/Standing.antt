-- An element of an accepted table: what the code reads at its place; and a string's text, which stands there and is well-formed.
-- Assumes nothing.
use Prim.Native.Nat.{ℕ, suc, ◌+◌, ◌≤◌}
use native.Mathlib.Omega.{arith}
use mathlib.Core.Path.{◌≡◌, refl, sym, ◌∙◌, ap, subst}
use mathlib.Core.Bool.{Bool, true, false, not}
use mathlib.Core.List.{List, [], ◌∷◌, ◌++◌, map, append_assoc}
use mathlib.Core.Option.{none, some}
use lib.ListN.{length, take, drop, get_or}
use lib.Seq.{drop-drop, get_or-drop}
use lib.Dec.{eqb}
use borrow.Author.Tests.{leb-true}
use Rattle.format.specs.Slots.{whole, word}
use Rattle.format.specs.Records.{Record, string, string_number, text_of}
use Rattle.format.specs.Layout.{body, layout, place_after}
use Rattle.format.specs.Utf16.{well_formed}
use Rattle.format.specs.Rules.{shaped}
use Rattle.format.specs.ZonesAndStrings.{Role, placed, zoning, naming, role}
use Rattle.format.specs.Table.{element_breaks}
use Rattle.format.specs.Verdict.{Accepts, Verdict, accepted}
use Rattle.format.specs.Asked.{nth}
use Rattle.format.specs.declared.pins.Chip.{Chip}
use Rattle.format.specs.declared.settings.Settings.{Settings}
use Rattle.format.specs.declared.records.Description.{Description}
use Rattle.format.specs.Answers.{Gives as Accepted, Refused as RefusedTable}
use Rattle.format.proofs.Slots.{starts_over, starts_split, starts_rest}
use Rattle.format.proofs.Whole.{written_whole, length_whole, part_written}
use Rattle.format.proofs.Lengths.{snoc_length}
use Rattle.format.proofs.Kept.{and-true, OwnKept, own_kept, own_unbroken}
use Rattle.format.proofs.Asking.{nth_split}
use Rattle.format.proofs.Strings.{naming_string}
use Rattle.walking.specs.Walk.{Here, Walk, Located}
use Rattle.walking.proofs.Left.{Next, top, next, unfinished}
use Rattle.places.proofs.Roles.{role_bytes}
use Rattle.reader.proofs.Bounds.{value_bound}
use Rattle.reader.proofs.Asking.{nth_past}
use Rattle.labels.specs.Called.{Called, text, lent, refused, pick_called, bears, own_text, by_number, by_index, called_of, Calls, titled}
use Rattle.labels.specs.Called.{past, untitled, stands_at, readable, Found}
use Rattle.labels.specs.Called.{Source}
use Rattle.labels.specs.Roled.{StringBytes, IfString, Roled}

-- a text that stands in the table: at byte 6 of its string
pub record Held (t : List ℕ) (at : ℕ) (bytes : List ℕ) : Type 0 where
  pub top : length t ≤ 4096
  pub room : at + 6 + length bytes ≤ length t
  pub there : take (length bytes) (drop (at + 6) t) ≡ bytes
  pub well : well_formed bytes ≡ true

-- a string at a place has three bytes before its text
module _ (c : Chip) (t : List ℕ) (at : ℕ) where
  string_bytes : (bytes : List ℕ) → Here c t at (string bytes) → shaped (string bytes) ≡ true → StringBytes t at bytes
  string_bytes [] h s = absurd (omega (arith, leb-true 6 3 s))
  string_bytes (x ∷ []) h s = absurd (omega (arith, leb-true 6 4 s))
  string_bytes (x ∷ y ∷ []) h s = absurd (omega (arith, leb-true 6 5 s))
  string_bytes (x ∷ y ∷ z ∷ bytes) h s =
      let o = starts_over (drop at t) (layout (string (x ∷ y ∷ z ∷ bytes))) h.stands.rest h.stands.starts in
      record {
        long = omega arith;
        size = omega (arith, h.size, length_whole bytes);
        number = sym (get_or-drop at t 3 0) ∙ o.1.1.1.0;
      }

  held :
      (σ : Settings) (bytes : List ℕ) → length t ≤ 4096 → Here c t at (string bytes) → OwnKept σ (string bytes) → Held t at (text_of bytes)
  held σ [] m h k = absurd (omega (arith, leb-true 6 3 k.shape_8))
  held σ (x ∷ []) m h k = absurd (omega (arith, leb-true 6 4 k.shape_8))
  held σ (x ∷ y ∷ []) m h k = absurd (omega (arith, leb-true 6 5 k.shape_8))
  held σ (x ∷ y ∷ z ∷ bytes) m h k =
      let front = whole 0x0c ∷ word (3 + length (body (string (x ∷ y ∷ z ∷ bytes)))) ++ whole x ∷ whole y ∷ whole z ∷ [] in
      let s = starts_split (drop at t) front (map whole bytes) h.stands.rest h.stands.starts in
      let r : s.0 ≡ drop (at + 6) t = starts_rest (drop at t) front s.0 s.1 ∙ drop-drop 6 at t in
      record {
        top = m;
        room = omega (arith, h.within, h.size, length_whole bytes);
        there =
            sym
            (sym (written_whole bytes)
            ∙ part_written (string bytes) s.0 h.stands.rest s.2
            ∙ ap (λ (n : ℕ). take n s.0) (length_whole bytes)
            ∙ ap (λ (l : List ℕ). take (length bytes) l) r);
        well = (and-true (not (eqb x 0)) (well_formed bytes) k.codes_9).1;
      }

-- the records of an accepted table, cut before one of them
module _ (σ : Settings) (t : List ℕ) (d : Description) (done : List Record) (r : Record) (left : List Record)
    (a : Accepts σ t d (done ++ r ∷ left)) where
  abbrev here_walk : Walk σ t (place_after done) (λ x y. Unit {0})
  here_walk = record { d = d; done = done; left = r ∷ left; accepts = a; place = refl; state = tt }

  here_next : Next σ t (place_after done) done (r ∷ left)
  here_next =
      next σ t (place_after done) (λ x y. Unit {0}) here_walk (unfinished σ t (place_after done) (λ x y. Unit {0}) here_walk (omega arith))

  here_same : here_next.r ≡ r
  here_same = cc here_next.same

  stands_here : Here σ.chip t (place_after done) r
  stands_here = subst (λ (x : Record). Here σ.chip t (place_after done) x) here_same here_next.here

  own_here : OwnKept σ r
  own_here = own_kept σ r (own_unbroken σ done r (subst (λ (x : Record). element_breaks σ done x ≡ none) here_same here_next.keeps))

  if_string : (x : Role) → role r ≡ x → IfString t (place_after done) x
  if_string (placed p) e = tt
  if_string (zoning bytes) e = tt
  if_string (naming bytes) e =
      let q = naming_string r bytes e in
      string_bytes σ.chip t (place_after done) bytes
      (subst (λ (x : Record). Here σ.chip t (place_after done) x) q stands_here)
      (subst (λ (x : Record). shaped x ≡ true) q own_here.shape_8)

  pub roled : Roled t (place_after done) (role r)
  roled =
      record {
        kind = role_bytes t (place_after done) r stands_here.stands.rest stands_here.stands.starts own_here.shape_8;
        within = stands_here.within;
        string = if_string (role r) refl;
      }

  pub held_here : (bytes : List ℕ) → role r ≡ naming bytes → Held t (place_after done) (text_of bytes)
  held_here bytes e =
      let q = naming_string r bytes e in
      held σ.chip t (place_after done) σ bytes
      (top σ t (place_after done) (λ x y. Unit {0}) here_walk)
      (subst (λ (x : Record). Here σ.chip t (place_after done) x) q stands_here)
      (subst (λ (x : Record). OwnKept σ x) q own_here)

-- an element on the walk, and element k
pub roled_next :
    (σ : Settings) (t : List ℕ) (at : ℕ) (S : List Record → List Record → Type 0) (w : Walk σ t at S)
    → (g : Next σ t at w.done w.left)
    → Roled t at (role g.r)
roled_next σ t at S w g =
    subst (λ (m : ℕ). Roled t m (role g.r)) (sym w.place)
    (roled σ t w.d w.done g.r g.others (subst (λ (l : List Record). Accepts σ t w.d (w.done ++ l)) g.same w.accepts))

module _ (σ : Settings) (t : List ℕ) (d : Description) (rs : List Record) (k : ℕ) {r : Record} (a : Accepts σ t d rs)
    (n : nth rs k ≡ some r) where
  cut_there : Accepts σ t d (take k rs ++ r ∷ drop (suc k) rs)
  cut_there = subst (λ (l : List Record). Accepts σ t d l) (nth_split rs k n) a

  pub roled_at : Roled t (place_after (take k rs)) (role r)
  roled_at = roled σ t d (take k rs) r (drop (suc k) rs) cut_there

  held_at : (bytes : List ℕ) → role r ≡ naming bytes → Held t (place_after (take k rs)) (text_of bytes)
  held_at = held_here σ t d (take k rs) r (drop (suc k) rs) cut_there

module _ (σ : Settings) (t : List ℕ) (k at : ℕ) (l : Located σ t k at) where
  pub located_roled : Roled t at (role l.r)
  located_roled =
      subst (λ (m : ℕ). Roled t m (role l.r)) (sym l.place) (roled_at σ t l.d l.rs k l.accepts l.is_nth)

-- an element past the last
pub past_last : (σ : Settings) (t : List ℕ) (k : ℕ) {n : ℕ} → Verdict σ t (Accepted n) → n ≤ k → Calls σ t k (refused 17 0)
past_last σ t k (accepted d rs a) h = past d rs a (nth_past rs k h)

-- THE LAW: what an element is called by, if it comes from the table, stands there; and no refusal is past 4,096
abbrev pub Standing : List ℕ → Called → Type 0
Standing t (text at bytes) = Held t at bytes
Standing t lent = Unit {0}
Standing t (refused j p) = p ≤ 4096

standing_pick : (t : List ℕ) (b : Bool) (x y : Called) → Standing t x → Standing t y → Standing t (pick_called b x y)
standing_pick t true x y h k = h
standing_pick t false x y h k = k

standing_number :
    (σ : Settings) (t : List ℕ) (d : Description) (n : ℕ) (done left : List Record)
    → Accepts σ t d (done ++ left)
    → Standing t (by_number n (place_after done) left)
standing_number σ t d n done [] a = tt
standing_number σ t d n done (r ∷ left) a =
    let e : place_after (done ++ r ∷ []) ≡ place_after done + length (layout r) = omega (arith, snoc_length done r) in
    let b = subst (λ (l : List Record). Accepts σ t d l) (sym (append_assoc done (r ∷ []) left)) a in
    go (role r) refl (subst (λ (m : ℕ). Standing t (by_number n m left)) e (standing_number σ t d n (done ++ r ∷ []) left b))
  where
    go :
        (x : Role)
        → role r ≡ x
        → Standing t (by_number n (place_after done + length (layout r)) left)
        → Standing t (pick_called (bears n x) (text (place_after done) (own_text x)) (by_number n (place_after done + length (layout r)) left))
    go (placed p) e later = later
    go (zoning bytes) e later = later
    go (naming bytes) e later =
        standing_pick t (eqb (string_number bytes) n) (text (place_after done) (text_of bytes))
        (by_number n (place_after done + length (layout r)) left) (held_here σ t d done r left a bytes e) later

pub stands : (σ : Settings) (t : List ℕ) (k : ℕ) (c : Called) → Calls σ t k c → Standing t c
stands σ t k c (titled {r = r} d rs a n) = go (role r) refl
  where
    by_index_lem : (i : ℕ) → Standing t (by_index (i ∷ []) rs)
    by_index_lem i = standing_pick t (eqb i 0) lent (by_number i 16 rs) tt (standing_number σ t d i [] rs a)

    go : (x : Role) → role r ≡ x → Standing t (called_of rs (place_after (take k rs)) x)
    go (placed p) e = by_index_lem p.string
    go (zoning bytes) e = by_index_lem (get_or bytes 1 0)
    go (naming bytes) e = held_at σ t d rs k a n bytes e
stands σ t k c (past d rs a n) = omega arith
stands σ t k c (untitled {j = j} {p = p} v) = value_bound σ t (RefusedTable j p) v

-- so it can be read
standing_readable : (t : List ℕ) (c : Called) → Standing t c → readable c ≡ true
standing_readable t (text at bytes) h = h.well
standing_readable t lent h = refl
standing_readable t (refused j p) h = refl

pub label_readable : (σ : Settings) (t : List ℕ) (k : ℕ) (c : Called) → Calls σ t k c → readable c ≡ true
label_readable σ t k c h = standing_readable t c (stands σ t k c h)

-- the words of `find` of an element that stands there
module _ (σ : Settings) (t : List ℕ) (k at : ℕ) (l : Located σ t k at) where
  pub found_there : {r : Source} → r ≡ stands_at (called_of l.rs at (role l.r)) → Found σ t k r
  found_there e =
      let there = titled l.d l.rs l.accepts l.is_nth in
      record {
        called = called_of l.rs (place_after (take k l.rs)) (role l.r);
        calls = there;
        place = e ∙ ap (λ (m : ℕ). stands_at (called_of l.rs m (role l.r))) l.place;
        well = label_readable σ t k _ there;
      }
