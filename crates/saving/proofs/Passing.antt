-- The pass as steps that put right what the reader names first: behind the elements that have been read it names the next one that
-- breaks a rule, and that is left out, or it stops there.
-- Assumes nothing.
use Prim.Native.Nat.{ℕ, zero, suc, ◌+◌, ◌≤◌, ◌<◌}
use native.Mathlib.Omega.{arith}
use mathlib.Core.Path.{◌≡◌, refl, sym, ◌∙◌, ap, subst}
use mathlib.Core.Bool.{Bool, true, false, cond}
use mathlib.Core.List.{List, [], ◌∷◌, ◌++◌, append-nil, append_assoc}
use lib.ListN.{length, drop, length-append, length-drop}
use lib.Seq.{append_snoc}
use lib.Dec.{ltb}
use borrow.Author.Tests.{ltb-true, ltb-false}
use Rattle.format.specs.Slots.{Slot, Starts, Bytes, written, all_roomy}
use Rattle.format.specs.Records.{Record}
use Rattle.format.specs.Layout.{layout, layouts, opening, place_after}
use Rattle.format.specs.Table.{PassKept}
use Rattle.format.specs.Verdict.{stated, framed, Stands, Breaks, header, crowded, Verdict, stopped}
use Rattle.format.specs.Reader.{Outcome, took, stop, step}
use Rattle.format.specs.declared.records.Description.{Description}
use Rattle.format.specs.declared.settings.Settings.{Settings}
use Rattle.format.specs.Answers.{Refused}
use Rattle.format.proofs.Kept.{described_kind, unbroken_kind}
use Rattle.format.proofs.Slots.{roomy_join, bytes_drop, starts_length, starts_roomy}
use Rattle.format.proofs.Decoding.{starts_stated}
use Rattle.format.proofs.Lengths.{at_most_96, layouts_snoc, snoc_length}
use Rattle.format.proofs.Growing.{pass_snoc}
use Rattle.format.proofs.Stepping.{Meets, step_meets}
use Rattle.format.proofs.Whole.{written_append}
use Rattle.format.proofs.Written.{written_starts, length_written}
use Rattle.saving.specs.Saving.{At, at_place, Line, line, left_out, Saved, saved, records, Fate, unseen, settled, sift, standing}
use Rattle.saving.specs.Saving.{answered, by_pass}
use Rattle.saving.specs.Repairing.{Repairs, so_far, RepairsPass, ends, reads_on, leaves_over, stops, is_full}
use Rattle.saving.proofs.Standing.{framed_facts}
use Rattle.saving.proofs.Reading.{records_append}
use Rattle.saving.proofs.Keeping.{Sound}
use Rattle.saving.proofs.Bounds.{records_length}

-- 6 to 12, and 23: what stands behind the elements that have been read is named first
pub record Under (σ : Settings) (s : Saved) (bs : List ℕ) : Type 0 where
  pub kept : PassKept σ [] (records s.kept)
  pub roomy : all_roomy (layouts (records s.kept)) ≡ true
  pub top : 16 + length (layouts (records s.kept)) + length bs ≤ 4096
  pub small : Bytes bs

module _ (σ : Settings) (d : Description) (sound : Sound σ d) where
  stopped_here :
      (s : Saved) (bs : List ℕ) (k : ℕ)
      → Under σ s bs
      → Breaks σ (records s.kept) bs k
      → Verdict σ (so_far d (records s.kept) bs) (Refused k (place_after (records s.kept)))
  stopped_here s bs k i br =
      let rs = records s.kept in
      let n = 16 + length (layouts rs) + length bs in
      let o = opening d n in
      let rest = written (layouts rs) ++ bs in
      let same : so_far d rs bs ≡ written o ++ rest =
      ap (λ (l : List ℕ). l ++ bs) (written_append o (layouts rs)) ∙ append_assoc (written o) (written (layouts rs)) bs in
      let long : length (so_far d rs bs) ≡ n =
      omega (
        arith,
        ap (λ (l : List ℕ). length l) same,
        length-append (written o) rest,
        length-append (written (layouts rs)) bs,
        length_written o,
        length_written (layouts rs),
      ) in
      let st : Starts (so_far d rs bs) o rest =
      subst (λ (l : List ℕ). Starts l o rest) (sym same) (written_starts o rest (sound.room n i.top)) in
      stopped d rest rs bs
      (record {
        limit = omega (arith, long, i.top);
        starts = subst (λ (m : ℕ). Starts (so_far d rs bs) (opening d m) rest) (sym long) st;
        kind = described_kind σ.chip d sound.described;
      })
      sound.described (written_starts (layouts rs) bs i.roomy) i.kept br

  pub under_over : (s : Saved) (bs : List ℕ) (ls : List Line) → Under σ s bs → Under σ (saved s.kept ls) (drop (stated bs) bs)
  under_over s bs ls i =
      record {
        kept = i.kept;
        roomy = i.roomy;
        top = omega (arith, i.top, length-drop (stated bs) bs);
        small = bytes_drop (stated bs) bs i.small;
      }

  pub under_took :
      (s : Saved) (p : ℕ) (bs : List ℕ) (r : Record)
      → Under σ s bs
      → Meets σ (records s.kept) bs (took r)
      → Under σ (saved (s.kept ++ at_place p r ∷ []) s.lines) (drop (stated bs) bs)
  under_took s p bs r i m =
      let rs = records s.kept in
      let e : records (s.kept ++ at_place p r ∷ []) ≡ rs ++ r ∷ [] = records_append s.kept (at_place p r ∷ []) in
      let n = starts_stated bs r (drop (stated bs) bs) m.2 in
      record {
        kept = rw e (pass_snoc σ [] rs r i.kept m.0 m.1);
        roomy =
            ap (λ (l : List Record). all_roomy (layouts l)) e
            ∙ ap (λ (l : List Slot). all_roomy l) (layouts_snoc rs r)
            ∙ roomy_join (layouts rs) (layout r) i.roomy (starts_roomy bs (layout r) (drop (stated bs) bs) i.small m.2);
        top =
            omega (
              arith,
              i.top,
              ap (λ (l : List Record). length (layouts l)) e,
              snoc_length rs r,
              n,
              length-drop (stated bs) bs,
              starts_length bs (layout r) (drop (stated bs) bs) m.2,
            );
        small = bytes_drop (stated bs) bs i.small;
      }

  unseen_all : (s : Saved) (xs : List (At (List ℕ))) → ltb (length (records s.kept)) 96 ≡ false → sift (by_pass σ) s xs ≡ s
  unseen_all s [] h = refl
  unseen_all s (x ∷ xs) h =
      ap (λ (t : Bool). sift (by_pass σ) (settled s x.place (cond t (answered (step σ (records s.kept) x.what)) unseen)) xs) h
      ∙ unseen_all s xs h

  -- from one on, by what becomes of it
  abbrev pub going : ℕ → ℕ → List ℕ → Saved → Fate → Saved
  going n p bs s f = sift (by_pass σ) (settled s p f) (standing n (p + stated bs) (drop (stated bs) bs))

  module _ (e : Description) (out : List (At Record)) (ms : List Line) where
    -- what the pass comes to from a place on: more lines, and steps from there
    abbrev pub Onward : Saved → ℕ → List ℕ → Saved → Type 0
    Onward s p bs t = (ns : List Line) × (t.lines ≡ s.lines ++ ns) × RepairsPass σ d e out s.kept p bs (ns ++ ms)

    -- .. as it is said of the elements behind this one
    abbrev pub Later : ℕ → List ℕ → Type 0
    Later n bs =
        (p : ℕ) (t : Saved)
        → Under σ t bs
        → Repairs σ d (sift (by_pass σ) t (standing n p bs)).kept ms e out
        → Onward t p bs (sift (by_pass σ) t (standing n p bs))

    by_outcome :
        (n p : ℕ) (bs : List ℕ) (s : Saved)
        → Later n (drop (stated bs) bs)
        → framed bs ≡ true
        → length (records s.kept) < 96
        → Under σ s bs
        → (o : Outcome)
        → Meets σ (records s.kept) bs o
        → Repairs σ d (going n p bs s (answered o)).kept ms e out
        → Onward s p bs (going n p bs s (answered o))
    by_outcome n p bs s later f few i (took r) m g =
        let w = later (p + stated bs) (saved (s.kept ++ at_place p r ∷ []) s.lines) (under_took s p bs r i m) g in
        let st : Stands σ.chip bs r =
        record { rest = drop (stated bs) bs; starts = m.2; kind = unbroken_kind σ (records s.kept) r m.1 } in
        (w.0, w.1, reads_on {ks = s.kept} r (omega (arith, few, records_length s.kept)) st m.1 w.2)
    by_outcome n p bs s later f few i (stop k) m g =
        let l = line p k left_out in
        let w = later (p + stated bs) (saved s.kept (s.lines ++ l ∷ [])) (under_over s bs (s.lines ++ l ∷ []) i) g in
        let few' : length s.kept < 96 = omega (arith, few, records_length s.kept) in
        (l ∷ w.0, w.1 ∙ append_snoc s.lines l w.0, leaves_over (stopped_here s bs k i m) m f few' w.2)

    by_count :
        (n p : ℕ) (bs : List ℕ) (s : Saved)
        → Later n (drop (stated bs) bs)
        → framed bs ≡ true
        → Under σ s bs
        → (u : Bool)
        → ltb (length (records s.kept)) 96 ≡ u
        → Repairs σ d (going n p bs s (cond u (answered (step σ (records s.kept) bs)) unseen)).kept ms e out
        → Onward s p bs (going n p bs s (cond u (answered (step σ (records s.kept) bs)) unseen))
    by_count n p bs s later f i true h g =
        let rs = records s.kept in
        by_outcome n p bs s later f (ltb-true (length rs) 96 h) i (step σ rs bs)
        (step_meets σ rs bs i.small (omega (arith, framed_facts bs f))) g
    by_count n p bs s later f i false h g =
        let rs = records s.kept in
        let stay = unseen_all s (standing n (p + stated bs) (drop (stated bs) bs)) h in
        let many = ltb-false (length rs) 96 h in
        let all : length s.kept ≡ 96 = omega (arith, many, records_length s.kept, at_most_96 σ [] rs (omega arith) i.kept) in (
          [],
          ap (λ (t : Saved). t.lines) stay ∙ sym (append-nil s.lines),
          is_full f all (stopped_here s bs 11 i (crowded f (omega (arith, many))))
              (subst (λ (t : Saved). Repairs σ d t.kept ms e out) stay g),
        )

    by_header :
        (n p : ℕ) (bs : List ℕ) (s : Saved)
        → 0 < length bs
        → (framed bs ≡ true → Later n (drop (stated bs) bs))
        → Under σ s bs
        → (u : Bool)
        → framed bs ≡ u
        → Repairs σ d (sift (by_pass σ) s (cond u (at_place p bs ∷ standing n (p + stated bs) (drop (stated bs) bs)) [])).kept ms e out
        → Onward s p bs (sift (by_pass σ) s (cond u (at_place p bs ∷ standing n (p + stated bs) (drop (stated bs) bs)) []))
    by_header n p bs s more later i true f g = by_count n p bs s (later f) f i (ltb (length (records s.kept)) 96) refl g
    by_header n p bs s more later i false f g = ([], sym (append-nil s.lines), stops more f (stopped_here s bs 6 i (header more f)) g)

    pub pass_repairs : (n : ℕ) (bs : List ℕ) → length bs ≤ n → Later n bs
    pass_repairs zero [] h p s i g = ([], sym (append-nil s.lines), ends g)
    pass_repairs (suc n) [] h p s i g = ([], sym (append-nil s.lines), ends g)
    pass_repairs zero (b ∷ bs) h p s i g = absurd (omega arith)
    pass_repairs (suc n) (b ∷ bs) h p s i g =
        let all : List ℕ = b ∷ bs in
        by_header n p all s (omega arith)
        (λ f. pass_repairs n (drop (stated all) all) (omega (arith, framed_facts all f, length-drop (stated all) all)))
        i (framed all) refl g
