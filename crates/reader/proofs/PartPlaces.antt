-- The place of element k's part: it is behind its fixed fields, within the table, and there is no second; nor a second result.
-- Assumes nothing.
use Prim.Native.Nat.{ℕ, zero, suc, ◌+◌, ◌-◌, ◌≤◌}
use native.Mathlib.Omega.{arith}
use mathlib.Core.Path.{◌≡◌, refl, sym, ◌∙◌, ap}
use mathlib.Core.List.{List, [], ◌∷◌}
use mathlib.Core.Option.{some}
use lib.ListN.{length, take, drop, length-append}
use Rattle.std.specs.Prelude.{Result, Ok, Err}
use Rattle.format.specs.Slots.{written, Bytes}
use Rattle.format.specs.Records.{Record, element_of}
use Rattle.format.specs.Layout.{fixed, part, layout, layouts, place_after}
use Rattle.format.specs.Verdict.{stated}
use Rattle.format.specs.Asked.{nth, Gives, given, past, ungiven}
use Rattle.format.specs.declared.records.Element.{Element as Case}
use Rattle.format.specs.Answers.{Asked}
use Rattle.format.specs.Answers.{Gives as Element}
use Rattle.format.specs.Answers as answer
use Rattle.format.specs.Answers.{Answered, told}
use Rattle.format.specs.declared.answers.Refusal.{Refusal}
use Rattle.format.proofs.Theorem.{one_list, accepts_passed}
use Rattle.format.proofs.Opening.{table_length}
use Rattle.format.proofs.Written.{length_written}
use Rattle.format.proofs.Asking.{gives_unique}
use Rattle.format.proofs.Refusals.{told_once}
use Rattle.walking.specs.Walk.{Located}
use Rattle.reader.specs.PartPlace.{Placed}
use Rattle.reader.specs.PartPlace.{At, Refused}
use Rattle.reader.specs.PartPlace.{placed, placed_at, GivesPlace}
use Rattle.reader.specs.declared.Span.{Span}
use Rattle.format.specs.declared.settings.Settings.{Settings}

pub placed_there :
    (σ : Settings) (b : List ℕ) (k at : ℕ) (l : Located σ b k at) {from len : ℕ}
    → from ≡ at + 3 + length (fixed (element_of l.r))
    → len ≡ stated (drop at b)
    → GivesPlace σ b k (At from (at + len - from))
placed_there σ b k at l {from} {len} e n =
    let r = l.r in
    let starts : from ≡ place_after (take k l.rs) + (3 + length (fixed (element_of r))) = omega (arith, e, l.place) in
    let size : at + len - from ≡ length (part r) =
    omega (arith, e, n, l.here.size, length-append (fixed (element_of r)) (part r)) in
    record {
      description = l.d;
      records = l.rs;
      accepts = l.accepts;
      element = r;
      is_nth = l.is_nth;
      there = ap (λ (p : ℕ). At p (at + len - from)) starts
          ∙ ap (λ (m : ℕ). At (place_after (take k l.rs) + (3 + length (fixed (element_of r)))) m) size;
    }

-- the part ends within the table
nth_room :
    (rs : List Record) (k : ℕ) {r : Record}
    → nth rs k ≡ some r
    → length (layouts (take k rs)) + length (layout r) ≤ length (layouts rs)
nth_room [] k h = let z : ◌≡◌ {A = ℕ} 0 1 = cc in absurd (omega arith)
nth_room (x ∷ rs) zero {r} h =
    let q : x ≡ r = cc in
    omega (arith, length-append (layout x) (layouts rs), ap (λ (y : Record). length (layout y)) q)
nth_room (x ∷ rs) (suc k) {r} h =
    omega (arith, nth_room rs k h, length-append (layout x) (layouts (take k rs)), length-append (layout x) (layouts rs))

pub placed_bound : (σ : Settings) (b : List ℕ) (k p n : ℕ) → GivesPlace σ b k (At p n) → p + n ≤ 4096
placed_bound σ b k p n g =
    let r = g.element in
    let a = accepts_passed σ b g.description g.records g.accepts in
    let x : p ≡ place_after (take k g.records) + (3 + length (fixed (element_of r))) = cc in
    let y : n ≡ length (part r) = cc in
    omega (
      arith,
      x,
      y,
      nth_room g.records k g.is_nth,
      length-append (fixed (element_of r)) (part r),
      a.limit,
      table_length b g.description g.records a.fits,
    )

pub part_bound : (σ : Settings) (b : List ℕ) (k : ℕ) (a : Asked) (p : List ℕ) → Gives σ b k a p → length p ≤ 4096
part_bound σ b k a p (given {r = r} d rs c n) =
    let s = accepts_passed σ b d rs c in
    omega (
      arith,
      length_written (part r),
      nth_room rs k n,
      length-append (fixed (element_of r)) (part r),
      s.limit,
      table_length b d rs s.fits,
    )
part_bound σ b k a p (past d rs c n) = omega arith
part_bound σ b k a p (ungiven v) = omega arith

-- no second place
gave : (σ : Settings) (b : List ℕ) (k p n : ℕ) → GivesPlace σ b k (At p n) → (e : Case) × (q : List ℕ) × Gives σ b k (Element e) q
gave σ b k p n g = (element_of g.element, written (part g.element), given g.description g.records g.accepts g.is_nth)

never : (σ : Settings) (b : List ℕ) (k p n j q : ℕ) → Bytes b → GivesPlace σ b k (At p n) → GivesPlace σ b k (Refused j q) → ⊥
never σ b k p n j q small g h =
    let x = gave σ b k p n g in
    let e = (gives_unique σ b k _ _ _ _ small x.2 h.gives).0 in
    let z : ◌≡◌ {A = ℕ} 0 1 = cc in
    omega arith

pub only_place : (σ : Settings) (b : List ℕ) (k : ℕ) (r r' : Placed) → Bytes b → GivesPlace σ b k r → GivesPlace σ b k r' → r ≡ r'
only_place σ b k (At p n) (At p' n') small g h =
    let l = (one_list σ b g.description h.description g.records h.records small
    (accepts_passed σ b g.description g.records g.accepts)
    (accepts_passed σ b h.description h.records h.accepts)).1 in
    let m : nth g.records k ≡ nth h.records k = ap (λ (rs : List Record). nth rs k) l in
    let e : g.element ≡ h.element = cc in
    g.there
    ∙ ap (λ (rs : List Record). placed_at (place_after (take k rs)) g.element) l
    ∙ ap (λ (x : Record). placed_at (place_after (take k h.records)) x) e
    ∙ sym h.there
only_place σ b k (At p n) (Refused j q) small g h = absurd (never σ b k p n j q small g h)
only_place σ b k (Refused j q) (At p n) small g h = absurd (never σ b k p n j q small h g)
only_place σ b k (Refused j q) (Refused j' q') small g h =
    let e = (gives_unique σ b k _ _ _ _ small g.gives h.gives).0 in
    cc

-- what a result says of a place is said by no other result
abbrev answered : Placed → Answered Span
answered (At p n) = answer.Gives (record { place = p; len = n })
answered (Refused k p) = answer.Refused k p

placed_told : (r : Result Span Refusal) → answered (placed r) ≡ told r
placed_told (Ok s) = refl
placed_told (Err r) = refl

pub placed_once : (r q : Result Span Refusal) → placed r ≡ placed q → r ≡ q
placed_once r q e = told_once r q (sym (placed_told r) ∙ ap answered e ∙ placed_told q)

-- so `part_place` has no second result
pub only_place_result :
    (σ : Settings) (b : List ℕ) (k : ℕ) (r r' : Result Span Refusal)
    → Bytes b
    → GivesPlace σ b k (placed r)
    → GivesPlace σ b k (placed r')
    → r ≡ r'
only_place_result σ b k r r' small g h = placed_once r r' (only_place σ b k (placed r) (placed r') small g h)
