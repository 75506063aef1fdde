-- The description in the buffer, and one element that was copied there.
-- Assumes nothing.
use Prim.Native.Nat.{ℕ, ◌+◌, ◌≤◌}
use native.Mathlib.Omega.{arith}
use native.Mathlib.Nat.{add-zero}
use mathlib.Core.Path.{◌≡◌, refl, sym, ◌∙◌, ap, subst}
use mathlib.Core.Bool.{Bool, true, false, cond}
use mathlib.Core.List.{List, [], ◌∷◌, ◌++◌}
use lib.ListN.{length, drop, set, length-drop}
use lib.Seq.{length-take-le, get_or-drop}
use Rattle.format.specs.Slots.{byte, Bytes, written, whole, word, Starts}
use Rattle.format.specs.Records.{Record, element_of}
use Rattle.format.specs.Layout.{opening, id_of, layout}
use Rattle.format.specs.Rules.{description_roomy, shaped}
use Rattle.format.specs.ZonesAndStrings.{role}
use Rattle.format.specs.Verdict.{stated}
use Rattle.format.specs.Decode.{read_description}
use Rattle.format.specs.Writing.{overwritten, writing}
use Rattle.format.specs.declared.pins.Chip.{Chip}
use Rattle.format.specs.declared.records.Description.{Description}
use Rattle.format.proofs.Slots.{starts_over, over_starts, starts_more, take_fits, starts_roomy, roomy_split}
use Rattle.format.proofs.EachKind.{description_fits}
use Rattle.format.proofs.Kept.{own_kept}
use Rattle.places.specs.Walks.{RoleBytes}
use Rattle.places.proofs.Roles.{role_bytes}
use Rattle.walking.specs.Walk.{Here}
use Rattle.spelling.specs.Spelling.{Put}
use Rattle.spelling.proofs.Putting.{put_one}
use Rattle.saving.specs.Saving.{At, unindexed, unindexed_description}
use Rattle.saving.proofs.Clearing.{unindexed_alike}
use Rattle.fates.specs.declared.Kept.{Kept}
use Rattle.fates.specs.Noted.{Keeps}
use Rattle.reserved.specs.Zeroed.{reach, zeroed}
use Rattle.reserved.proofs.Zeroing.{zeroed_behind, zeroed_there, reach_within}
use Rattle.mending.specs.Laid.{cleared_at, tidied, raw, described_as, PutsOpening}
use Rattle.mending.proofs.Clearing.{cleared_behind, long_enough}

-- the description that stands in the bytes has room for its numbers
pub read_roomy : (c : Chip) (t : List ℕ) → Bytes t → 16 ≤ length t → byte t 0 ≡ 1 → description_roomy (read_description c (byte t)) ≡ true
read_roomy c t small long one =
    let d = read_description c (byte t) in
    let st = over_starts t (opening d (stated t)) (omega (arith, long)) (description_fits c (byte t) (stated t) small one refl) in
    let roomy = starts_roomy t (opening d (stated t)) (drop 16 t) small st in
    (roomy_split (whole 1 ∷ word (stated t)) (drop 3 (opening d 16)) roomy).1

-- it is laid out for a table of 16 bytes; then the length is mended, and the index cleared
mended_length :
    (d : Description) (n : ℕ) (b : List ℕ)
    → overwritten 1 (written (word n)) (overwritten 0 (written (opening d 16)) b) ≡ overwritten 0 (written (opening d n)) b
mended_length d n b = refl

cleared_index :
    (d : Description) (n : ℕ) (b : List ℕ)
    → set (overwritten 0 (written (opening d n)) b) 4 0 ≡ overwritten 0 (written (opening (unindexed_description d) n)) b
cleared_index d n b = refl

module _ (d : Description) (n : ℕ) (b b₁ b₂ : List ℕ) (laid : b₁ ≡ overwritten 0 (written (opening d 16)) b)
    (mend : b₂ ≡ overwritten 1 (written (word n)) b₁) (room : 16 ≤ length b) where
  both : b₂ ≡ overwritten 0 (written (opening d n)) b
  both = mend ∙ ap (λ (l : List ℕ). overwritten 1 (written (word n)) l) laid ∙ mended_length d n b

  module _ (c : Chip) (t : List ℕ) (cleared : Bool) (same : d ≡ read_description c (byte t)) where
    opens :
        (x : Description) (after : List ℕ)
        → x ≡ described_as cleared (read_description c (byte t))
        → after ≡ overwritten 0 (written (opening x n)) b
        → PutsOpening c t cleared n b after
    opens x after e q =
        subst (λ (y : Description). Put b 0 (written (opening y n)) 16 after) e (rw q (put_one b 0 (written (opening x n)) (omega arith)))

    pub opened_as_it_is : cleared ≡ false → PutsOpening c t cleared n b b₂
    opened_as_it_is is = opens d b₂ (same ∙ sym (ap (λ (x : Bool). described_as x (read_description c (byte t))) is)) both

    pub opened_cleared : cleared ≡ true → PutsOpening c t cleared n b (set b₂ 4 0)
    opened_cleared is =
        opens (unindexed_description d) (set b₂ 4 0)
        (ap unindexed_description same ∙ sym (ap (λ (x : Bool). described_as x (read_description c (byte t))) is))
        (ap (λ (l : List ℕ). set l 4 0) both ∙ cleared_index d n b)

-- one element
module _ (c : Chip) (t : List ℕ) (n : Kept) (k : At Record) (h : Keeps c t n k) where
  pub stands_there : Here c t n.place h.r
  stands_there = rw h.place h.here

  whole_shape : shaped h.r ≡ true
  whole_shape = (own_kept (writing c) h.r h.unbroken).shape_8

  role_there : RoleBytes t n.place (role h.r)
  role_there = rw h.place (role_bytes t k.place h.r h.here.stands.rest h.here.stands.starts whole_shape)

  same_size : length (layout k.what) ≡ length (layout h.r)
  same_size = rw h.what (go n.cleared)
    where
      go : (b : Bool) → length (layout (cond b (unindexed h.r) h.r)) ≡ length (layout h.r)
      go true = (unindexed_alike h.r).long
      go false = refl

  -- as many bytes as it states, within the table, and enough for an index
  pub size_there : length (layout k.what) ≡ stated (drop n.place t)
  size_there = same_size ∙ sym stands_there.size

  pub inside : (n.place + length (layout k.what) ≤ length t) × (5 ≤ length (layout k.what))
  inside = (omega (arith, size_there, stands_there.within), omega (arith, same_size, long_enough h.r whole_shape))

  pub id_there : byte t n.place ≡ id_of (element_of h.r)
  id_there =
      let st = stands_there.stands in
      ap (λ (m : ℕ). byte t m) (sym (add-zero n.place))
      ∙ sym (get_or-drop n.place t 0 0)
      ∙ (starts_over (drop n.place t) (layout h.r) st.rest st.starts).0

  pub reach_there : reach (byte t n.place) ≤ length (layout k.what)
  reach_there = rw id_there (omega (arith, same_size, reach_within h.r))

  pub raw_length : length (raw t n) ≡ length (layout k.what)
  raw_length =
      length-take-le (stated (drop n.place t)) (drop n.place t) (omega (arith, stands_there.within, length-drop n.place t))
      ∙ sym size_there

  -- the bytes of the element as they stand, behind others and before others
  module _ (x more out : List ℕ) (is : out ≡ x ++ (raw t n ++ more)) where
    starts_there : Starts (raw t n ++ more) (layout h.r) more
    starts_there =
        let st = stands_there.stands in
        starts_more (raw t n) (layout h.r) [] more
        (rw stands_there.size (take_fits (drop n.place t) (layout h.r) st.rest st.starts))

    zeroed_here : zeroed (byte t n.place) (length x) out ≡ x ++ (written (layout h.r) ++ more)
    zeroed_here =
        ap (zeroed (byte t n.place) (length x)) is
        ∙ zeroed_behind (byte t n.place) x (raw t n ++ more)
        ∙ ap (λ (l : List ℕ). x ++ l)
        (ap (λ (id : ℕ). zeroed id 0 (raw t n ++ more)) id_there
        ∙ zeroed_there c (raw t n ++ more) more h.r stands_there.stands.kind starts_there)

    -- its index cleared or not
    pub tidied_there : tidied (byte t n.place) n.cleared (length x) out ≡ x ++ (written (layout k.what) ++ more)
    tidied_there = go n.cleared refl
      where
        as_kept_lem : (r : Record) → k.what ≡ r → x ++ (written (layout r) ++ more) ≡ x ++ (written (layout k.what) ++ more)
        as_kept_lem r e = ap (λ (y : Record). x ++ (written (layout y) ++ more)) (sym e)

        go : (b : Bool) → n.cleared ≡ b → tidied (byte t n.place) b (length x) out ≡ x ++ (written (layout k.what) ++ more)
        go true f =
            ap (cleared_at (byte t n.place) (length x)) zeroed_here
            ∙ cleared_behind h.r t n.place x more role_there whole_shape
            ∙ as_kept_lem (unindexed h.r) (h.what ∙ rw f refl)
        go false f = zeroed_here ∙ as_kept_lem h.r (h.what ∙ rw f refl)
