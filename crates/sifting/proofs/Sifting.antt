-- The loop over what is kept: what is left to do ends where the whole ends.
-- Assumes nothing.
use Prim.Native.Nat.{ℕ, ◌+◌, ◌<◌, ◌≤◌}
use native.Mathlib.Omega.{arith}
use native.Mathlib.Numerals.{add-one}
use mathlib.Core.Path.{◌≡◌, refl, sym, ◌∙◌, ap, subst}
use mathlib.Core.Bool.{Bool}
use mathlib.Core.List.{List, [], ◌∷◌}
use lib.ListN.{length, drop, get_or, drop_of_length-le}
use Rattle.format.specs.Records.{Record}
use Rattle.format.specs.declared.pins.Chip.{Chip}
use Rattle.format.specs.declared.records.Description.{Description}
use Rattle.claims.specs.declared.Held.{Held}
use Rattle.saving.specs.Saving.{At, at_place, Saved, records, settled}
use Rattle.saving.specs.Saving as saving
use Rattle.saving.proofs.Reading.{records_append}
use Rattle.fates.specs.Noted.{Keeps, Notes, Settles}
use Rattle.fates.specs.declared.Kept.{Kept}
use Rattle.fates.specs.declared.Note.{Note}
use Rattle.fates.specs.declared.Counts.{Counts}
use Rattle.fates.proofs.Noting.{Spot, each_at, each_length}
use Rattle.sifting.specs.Stages.{by_stage, Carries, afterwards, JudgeIs, Given, Sifted}
use Rattle.sifting.specs.declared.Stage.{Stage}
use Rattle.sifting.specs.declared.Judged.{Judged}

-- the records that are kept, by the fate
after_records : (s : Saved) (p : ℕ) (f : saving.Fate) → records (settled s p f).kept ≡ afterwards (records s.kept) f
after_records s p (saving.stays r) = records_append s.kept (at_place p r ∷ [])
after_records s p (saving.leaves k) = refl
after_records s p (saving.mends r) = records_append s.kept (at_place p r ∷ [])
after_records s p saving.unseen = refl

-- THE INVARIANT, of whatever was given
pub record So (c : Chip) (stage : Stage) (t : List ℕ) (from : List Kept) (l : List Bool) (h : Held) (log : List Note) (m : ℕ) (i : ℕ) (held : Held)
    (r : Counts) (to : List Kept) (log' : List Note) (d : Description) (ns : List ℕ) (s : Saved) (ks : List (At Record)) : Type 0 where
  pub so_far : Saved
  pub notes : Notes c t to log' r so_far
  pub carries : Carries stage ns d (records so_far.kept) held
  pub onward : saving.sift (by_stage stage ns d) so_far (drop i ks) ≡ saving.sift (by_stage stage ns d) s ks

pub record Sifting (c : Chip) (stage : Stage) (t : List ℕ) (from : List Kept) (l : List Bool) (h : Held) (log : List Note) (m : ℕ) (i : ℕ)
    (held : Held) (r : Counts) (to : List Kept) (log' : List Note) : Type 0 where
  pub within : i ≤ length from
  pub fewer : r.kept ≤ i
  pub not_many : r.lines ≤ m + i
  pub so :
      (d : Description) (ns : List ℕ) (s : Saved) (ks : List (At Record))
      → Given c stage t from l h log m d ns s ks
      → So c stage t from l h log m i held r to log' d ns s ks

module _ (c : Chip) (stage : Stage) (t : List ℕ) (from : List Kept) (l : List Bool) (h : Held) (log : List Note) (m : ℕ) where
  pub begun : (r : Counts) (to : List Kept) → length to ≡ 96 → r.kept ≡ 0 → r.lines ≡ m → Sifting c stage t from l h log m 0 h r to log
  begun r to long e f =
      record {
        within = omega arith;
        fewer = omega (arith, e);
        not_many = omega (arith, f);
        so = λ d ns s ks g.
            record {
              so_far = s;
              notes =
                  record {
                    kept_long = long;
                    log_long = g.log_long;
                    few = omega (arith, e);
                    fitting = omega (arith, f, g.fitting);
                    keeps = rw (e, g.none_yet) tt;
                    codes = rw f g.codes;
                  };
              carries = subst (λ (k : List (At Record)). Carries stage ns d (records k) h) (sym g.none_yet) g.carries;
              onward = refl;
            };
      }

  -- the element at a position
  module _ (d : Description) (ns : List ℕ) (s : Saved) (ks : List (At Record)) (g : Given c stage t from l h log m d ns s ks) (i : ℕ)
      (b : i < length from) where
    pub spot : Spot (Keeps c t) from ks i
    spot = each_at (Keeps c t) from ks i g.keeps b

    pub keeps_at : (v : Kept) → Keeps c t (get_or from i v) spot.x
    keeps_at = spot.stands

    pub low_at : (v : Kept) → length t ≤ 4096 → (get_or from i v).place < 4096
    low_at v top =
        let k = keeps_at v in
        omega (arith, k.place, k.here.within, k.here.size, top)

  module _
      (i : ℕ) (held : Held) (r : Counts) (to : List Kept) (log' : List Note) (w : Sifting c stage t from l h log m i held r to log') (b : i < length from)
      (v : Kept) (judged : Judged) (judge : JudgeIs c stage t (get_or from i v) l held judged)
      (r' : Counts) (to' : List Kept) (log'' : List Note) (settle : Settles to log' r (get_or from i v) judged.fate r' to' log'')
    where
      pub turned : Sifting c stage t from l h log m (i + 1) judged.held r' to' log''
      turned =
          record {
            within = omega arith;
            fewer = omega (arith, settle.more_kept, w.fewer);
            not_many = omega (arith, settle.more_lines, w.not_many);
            so = λ d ns s ks g.
                let o = w.so d ns s ks g in
                let x = spot d ns s ks g i b in
                let f = by_stage stage ns d (records o.so_far.kept) x.x.what in
                let j = judge.judges d ns (records o.so_far.kept) x.x (keeps_at d ns s ks g i b v) g.marks o.carries in
                record {
                  so_far = settled o.so_far x.x.place f;
                  notes = settle.settles c t o.so_far x.x.place f o.notes j.0;
                  carries = rw (after_records o.so_far x.x.place f) j.1;
                  onward =
                      ap (λ (k : ℕ). saving.sift (by_stage stage ns d) (settled o.so_far x.x.place f) (drop k ks)) (add-one i)
                      ∙ sym (ap (saving.sift (by_stage stage ns d) o.so_far) x.same)
                      ∙ o.onward;
                };
          }

  module _ (i : ℕ) (held : Held) (r : Counts) (to : List Kept) (log' : List Note) (w : Sifting c stage t from l h log m i held r to log') (b : length from ≤ i) where
    pub ended : Sifted c stage t from l h log m r to log'
    ended =
        record {
          fewer = omega (arith, w.fewer, w.within);
          not_many = omega (arith, w.not_many, w.within);
          sifts = λ d ns s ks g.
              let o = w.so d ns s ks g in
              let many : length ks ≤ i =
              omega (arith, b, each_length (Keeps c t) from ks g.keeps) in
              let none_left : drop i ks ≡ [] = drop_of_length-le ks many in
              let e : o.so_far ≡ saving.sift (by_stage stage ns d) s ks =
              sym (ap (saving.sift (by_stage stage ns d) o.so_far) none_left) ∙ o.onward in
              subst (λ (v : Saved). Notes c t to log' r v) e o.notes;
        }
