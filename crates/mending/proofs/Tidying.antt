-- The loop that tidies what was copied: what it has passed is written as its records are, the rest stands as it did.
-- Assumes nothing.
use Prim.Native.Nat.{ℕ, ◌+◌, ◌≤◌, ◌<◌}
use native.Mathlib.Omega.{arith}
use native.Mathlib.Numerals.{add-one}
use mathlib.Core.Path.{◌≡◌, refl, sym, ◌∙◌, ap, subst}
use mathlib.Core.List.{List, [], ◌++◌, append-nil, append_assoc}
use lib.ListN.{length, take, drop, get_or, length-append, drop_of_length-le, take-append-drop}
use lib.Seq.{drop-cons, length-take-le}
use Rattle.format.specs.Slots.{Slot, byte, written}
use Rattle.format.specs.Records.{Record}
use Rattle.format.specs.Layout.{opening, layout, layouts, table, place_after}
use Rattle.format.specs.Verdict.{stated}
use Rattle.format.specs.Writing.{overwritten}
use Rattle.format.specs.declared.pins.Chip.{Chip}
use Rattle.format.specs.declared.records.Description.{Description}
use Rattle.format.proofs.Whole.{written_append}
use Rattle.format.proofs.Written.{length_written}
use Rattle.spelling.specs.Spelling.{Put}
use Rattle.spelling.proofs.Putting.{then, put_one}
use Rattle.saving.specs.Saving.{At, records}
use Rattle.fates.specs.declared.Kept.{Kept}
use Rattle.fates.specs.Noted.{Each, Keeps}
use Rattle.reserved.specs.Zeroed.{reach}
use Rattle.mending.specs.Laid.{nobody, place_at, tidied, raw, raws, Copyable, Copied, Tidies, Fitting}
use Rattle.mending.proofs.Laying.{size_there, inside, reach_there, tidied_there}
use Rattle.mending.proofs.Listing.{leftover, spot, keeps_at, left_length, left_written, none_left, Summing}
use Rattle.mending.proofs.Copying.{raws_length}

-- THE INVARIANT, between the bytes before and those behind
pub record Tidying (t : List ℕ) (ns : List Kept) (ks : List (At Record)) (x y : List ℕ) (i end : ℕ) (out : List ℕ) : Type 0 where
  pub so_far : List ℕ
  pub place : length (x ++ so_far) ≡ end
  pub stands : out ≡ (x ++ so_far) ++ (raws t (drop i ns) ++ y)
  pub whole : so_far ++ written (leftover ks i) ≡ written (layouts (records ks))

pub tidy_begun :
    (t : List ℕ) (ns : List Kept) (ks : List (At Record)) (x y out : List ℕ)
    → length x ≡ 16
    → out ≡ x ++ (raws t ns ++ y)
    → Tidying t ns ks x y 0 16 out
tidy_begun t ns ks x y out l e =
    record { so_far = []; place = rw (append-nil x) l; stands = rw (append-nil x) e; whole = refl }

module _ (c : Chip) (t : List ℕ) (kept : List Kept) (ks : List (At Record)) (all : Each (Keeps c t) kept ks) where
  -- there is room for what is left
  pub tidy_room :
      (i end : ℕ) (b : i < length kept)
      → Summing t kept i end
      → (end + reach (byte t (place_at kept i)) ≤ 16 + length (raws t kept)) × (end + 5 ≤ 16 + length (raws t kept))
  tidy_room i end b sum =
      let k = keeps_at c t kept ks all i b in
      let x = (spot c t kept ks all i b).x in
      let here : end + length (layout x.what) ≤ 16 + length (raws t kept) =
      omega (arith, sum c ks all, left_length c t kept ks all i b, raws_length c t kept ks all) in
      (omega (arith, here, reach_there c t _ x k), omega (arith, here, inside c t _ x k))

  module _ (x y : List ℕ) (i end : ℕ) (out : List ℕ) (w : Tidying t kept ks x y i end out) where
    pub tidy_on :
        (b : i < length kept) (out' : List ℕ) (len : ℕ)
        → out' ≡ tidied (byte t (place_at kept i)) (get_or kept i nobody).cleared end out
        → len ≡ stated (drop (place_at kept i) t)
        → Tidying t kept ks x y (i + 1) (end + len) out'
    tidy_on b out' len is size =
        let held = get_or kept i nobody in
        let k = (spot c t kept ks all i b).x in
        let h = keeps_at c t kept ks all i b in
        let new = written (layout k.what) in
        let before = x ++ w.so_far in
        let behind = raws t (drop (i + 1) kept) ++ y in
        let next : raws t (drop i kept) ≡ raw t held ++ raws t (drop (i + 1) kept) =
        ap (raws t) (drop-cons kept i nobody b) ∙ ap (λ (m : ℕ). raw t held ++ raws t (drop m kept)) (sym (add-one i)) in
        let there : out ≡ before ++ (raw t held ++ behind) =
        w.stands
        ∙ ap (λ (l : List ℕ). before ++ (l ++ y)) next
        ∙ ap (λ (l : List ℕ). before ++ l) (append_assoc (raw t held) (raws t (drop (i + 1) kept)) y) in
        let tidy : tidied (byte t (place_at kept i)) held.cleared end out ≡ before ++ (new ++ behind) =
        subst (λ (m : ℕ). tidied (byte t (place_at kept i)) held.cleared m out ≡ before ++ (new ++ behind)) w.place
        (tidied_there c t held k h before behind out there) in
        record {
          so_far = w.so_far ++ new;
          place =
              omega (
                arith,
                w.place,
                ap length (append_assoc x w.so_far new),
                length-append before new,
                length_written (layout k.what),
                size,
                size_there c t held k h,
              );
          stands =
              is
              ∙ tidy
              ∙ sym (append_assoc before new behind)
              ∙ ap (λ (l : List ℕ). l ++ behind) (append_assoc x w.so_far new);
          whole =
              append_assoc w.so_far new (written (leftover ks (i + 1)))
              ∙ ap (λ (l : List ℕ). w.so_far ++ l) (sym (left_written c t kept ks all i b))
              ∙ w.whole;
        }

    pub tidy_ends : length kept ≤ i → out ≡ x ++ (written (layouts (records ks)) ++ y)
    tidy_ends b =
        let none = none_left c t kept ks all i b in
        let gone : drop i kept ≡ [] =
        drop_of_length-le kept {i = i} b in
        let q : w.so_far ≡ written (layouts (records ks)) =
        sym (append-nil w.so_far) ∙ ap (λ (l : List Slot). w.so_far ++ written l) (sym none) ∙ w.whole in
        w.stands
        ∙ ap (λ (l : List Kept). (x ++ w.so_far) ++ (raws t l ++ y)) gone
        ∙ append_assoc x w.so_far y
        ∙ ap (λ (l : List ℕ). x ++ (l ++ y)) q

  -- what the table asks of its buffer is what its elements ask
  pub copyable : {len : ℕ} {out b : List ℕ} → Fitting c t kept len out → length b ≡ length out → Copyable t kept b
  copyable p same =
      let e = raws_length c t kept ks all in
      record {
        list = record { c = c; ks = ks; keeps = all; few = p.few; top = p.top };
        most = omega (arith, e, p.size c ks all, p.most);
        room = omega (arith, e, p.size c ks all, p.room, same);
      }

  -- the description, the copy and what is tidied are the table
  pub table_put :
      (d : Description) (len : ℕ) (b b₁ b₂ b₃ : List ℕ)
      → len ≡ place_after (records ks)
      → len ≤ length b
      → Put b 0 (written (opening d len)) 16 b₁
      → Copied t kept b₁ b₂
      → Tidies t kept b₂ b₃
      → Put b 0 (written (table d (records ks))) len b₃
  table_put d len b b₁ b₂ b₃ size fits p q tidy =
      let r = raws t kept in
      let room : 16 + length r ≤ length b₁ = omega (arith, raws_length c t kept ks all, size, fits, p.long) in
      let w = written (layouts (records ks)) in
      let x = take 16 b₁ in
      let y = drop (16 + length r) b₁ in
      let same : length r ≡ length w = raws_length c t kept ks all ∙ sym (length_written (layouts (records ks))) in
      let split : b₂ ≡ x ++ (r ++ y) =
      sym (take-append-drop (16 + length r) b₂)
      ∙ ap (λ (l : List ℕ). l ++ drop (16 + length r) b₂) q.front
      ∙ ap (λ (l : List ℕ). (x ++ r) ++ l) q.rest
      ∙ append_assoc x r y in
      let over : b₃ ≡ overwritten 16 w b₁ =
      tidy c ks x y all (length-take-le 16 b₁ (omega (arith, room))) split
      ∙ sym (append_assoc x w y)
      ∙ ap (λ (m : ℕ). (x ++ w) ++ drop (16 + m) b₁) same in
      let put : Put b₁ 16 w (16 + length w) b₃ = rw over (put_one b₁ 16 w (omega (arith, room, same))) in
      let e : 16 + length w ≡ len = omega (arith, length_written (layouts (records ks)), size) in
      let text : written (opening d len) ++ w ≡ written (table d (records ks)) =
      sym (written_append (opening d len) (layouts (records ks)))
      ∙ ap (λ (m : ℕ). written (opening d m ++ layouts (records ks))) size in
      subst (λ (l : List ℕ). Put b 0 l len b₃) text (subst (λ (m : ℕ). Put b 0 (written (opening d len) ++ w) m b₃) e (then p put))
