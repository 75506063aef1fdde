-- What the pass keeps: records that stand there, in order, no 97th, which break none of its rules against those kept before.
-- Assumes nothing.
use Prim.Native.Nat.{ℕ, zero, suc, ◌+◌, ◌≤◌}
use native.Mathlib.Omega.{arith}
use mathlib.Core.Path.{◌≡◌, refl, sym, ◌∙◌, ap}
use mathlib.Core.Bool.{Bool, true, false, cond}
use mathlib.Core.List.{List, [], ◌∷◌, ◌++◌, append-nil}
use lib.ListN.{length, drop, length-append, length-drop}
use lib.Seq.{append_snoc}
use lib.Dec.{ltb}
use Rattle.format.specs.Slots.{Bytes, all_roomy}
use Rattle.format.specs.Records.{Record}
use Rattle.format.specs.Layout.{layout, layouts}
use Rattle.format.specs.Table.{PassKept}
use Rattle.format.specs.Verdict.{stated, framed, Stands}
use Rattle.format.specs.Reader.{Outcome, took, stop, step}
use Rattle.format.specs.declared.pins.Chip.{Chip}
use Rattle.format.specs.declared.settings.Settings.{Settings}
use Rattle.format.proofs.Kept.{unbroken_kind}
use Rattle.format.proofs.Slots.{bytes_drop, starts_roomy, roomy_join}
use Rattle.format.proofs.Decoding.{starts_stated}
use Rattle.format.proofs.Stepping.{Meets, step_meets}
use Rattle.format.proofs.Growing.{pass_snoc}
use Rattle.saving.specs.Saving.{At, Saved, saved, records, settled, answered, by_pass, unseen, standing, elements, passed}
use Rattle.saving.proofs.Sifting.{All, by_test, sift_through}
use Rattle.saving.proofs.Standing.{Whole, framed_facts, standing_whole}

pub records_append : (ks ls : List (At Record)) → records (ks ++ ls) ≡ records ks ++ records ls
records_append [] ls = refl
records_append (k ∷ ks) ls = ap (λ (l : List Record). k.what ∷ l) (records_append ks ls)

-- records that stand where elements do, some elements passed over
pub data Reads (c : Chip) : List (At Record) → List (At (List ℕ)) → Type 0 where
  nothing : Reads c [] []
  reads :
      {k : At Record} {x : At (List ℕ)} {ks : List (At Record)} {xs : List (At (List ℕ))}
      → k.place ≡ x.place
      → Stands c x.what k.what
      → Reads c ks xs
      → Reads c (k ∷ ks) (x ∷ xs)
  passes_over : {x : At (List ℕ)} {ks : List (At Record)} {xs : List (At (List ℕ))} → Reads c ks xs → Reads c ks (x ∷ xs)

pub reads_append :
    (c : Chip) {ks ls : List (At Record)} {xs ys : List (At (List ℕ))} → Reads c ks xs → Reads c ls ys → Reads c (ks ++ ls) (xs ++ ys)
reads_append c nothing q = q
reads_append c (reads e s p) q = reads e s (reads_append c p q)
reads_append c (passes_over p) q = passes_over (reads_append c p q)

-- 25 and 3: what stands in bytes fits them, and is no longer than they are
pub reads_roomy :
    (c : Chip) {ks : List (At Record)} {xs : List (At (List ℕ))} → Reads c ks xs → All Whole xs → all_roomy (layouts (records ks)) ≡ true
reads_roomy c nothing w = refl
reads_roomy c (reads {k = k} {x = x} {ks = ks} e s p) w =
    roomy_join (layout k.what) (layouts (records ks)) (starts_roomy x.what (layout k.what) s.rest w.0.0 s.starts)
    (reads_roomy c p w.1)
reads_roomy c (passes_over p) w = reads_roomy c p w.1

module _ (c : Chip) where
  cut_length :
      (bs : List ℕ) (x : At (List ℕ)) (xs : List (At (List ℕ)))
      → x.what ≡ bs
      → ((ks : List (At Record)) → Reads c ks xs → length (layouts (records ks)) ≤ length (drop (stated bs) bs))
      → (ks : List (At Record)) (t : Bool)
      → framed bs ≡ t
      → Reads c ks (cond t (x ∷ xs) [])
      → length (layouts (records ks)) ≤ length bs
  cut_length bs x xs same more ks false f nothing = omega arith
  cut_length bs x xs same more ks true f (reads {k = k} {ks = ls} e s h) =
      let d = framed_facts bs f in
      let n : stated bs ≡ length (layout k.what) = rw same at (starts_stated x.what k.what s.rest s.starts) in
      omega (arith, n, length-append (layout k.what) (layouts (records ls)), more ls h, length-drop (stated bs) bs)
  cut_length bs x xs same more ks true f (passes_over h) = omega (arith, more ks h, length-drop (stated bs) bs)

  pub reads_length :
      (n p : ℕ) (bs : List ℕ) (ks : List (At Record)) → Reads c ks (standing n p bs) → length (layouts (records ks)) ≤ length bs
  reads_length zero p bs ks nothing = omega arith
  reads_length (suc n) p bs ks h =
      cut_length bs (record { place = p; what = bs }) (standing n (p + stated bs) (drop (stated bs) bs)) refl
      (λ ls g. reads_length n (p + stated bs) (drop (stated bs) bs) ls g)
      ks (framed bs) refl h

module _ (σ : Settings) (all : List (At (List ℕ))) where
  -- what is kept after some of the elements, of which these are left
  record So (ks : List (At Record)) (xs : List (At (List ℕ))) : Type 0 where
    pub gone : List (At (List ℕ))
    pub whole : gone ++ xs ≡ all
    pub there : Reads σ.chip ks gone
    pub kept : PassKept σ [] (records ks)
    pub left : All Whole xs

  so_over : (ks : List (At Record)) (x : At (List ℕ)) (xs : List (At (List ℕ))) → So ks (x ∷ xs) → So ks xs
  so_over ks x xs h =
      record {
        gone = h.gone ++ x ∷ [];
        whole = rw append_snoc h.whole;
        there = rw append-nil at (reads_append σ.chip h.there (passes_over {x = x} nothing));
        kept = h.kept;
        left = h.left.1;
      }

  so_took :
      (ks : List (At Record)) (x : At (List ℕ)) (xs : List (At (List ℕ))) (r : Record)
      → So ks (x ∷ xs)
      → Meets σ (records ks) x.what (took r)
      → So (ks ++ record { place = x.place; what = r } ∷ []) xs
  so_took ks x xs r h m =
      let k : At Record = record { place = x.place; what = r } in
      let st : Stands σ.chip x.what r =
      record { rest = drop (stated x.what) x.what; starts = m.2; kind = unbroken_kind σ (records ks) r m.1 } in
      record {
        gone = h.gone ++ x ∷ [];
        whole = rw append_snoc h.whole;
        there = reads_append σ.chip h.there (reads {k = k} {x = x} refl st nothing);
        kept = rw (records_append ks (k ∷ [])) (pass_snoc σ [] (records ks) r h.kept m.0 m.1);
        left = h.left.1;
      }

  so_next :
      (s : Saved) (x : At (List ℕ)) (xs : List (At (List ℕ)))
      → So s.kept (x ∷ xs)
      → So (settled s x.place (by_pass σ (records s.kept) x.what)).kept xs
  so_next s x xs h =
      let w = h.left.0 in
      by_test (λ f. So (settled s x.place f).kept xs) (ltb (length (records s.kept)) 96) _ unseen
      (λ few.
      go (step σ (records s.kept) x.what)
      (step_meets σ (records s.kept) x.what w.0 (omega (arith, framed_facts x.what w.1))))
      (λ many. so_over s.kept x xs h)
    where
      go : (o : Outcome) → Meets σ (records s.kept) x.what o → So (settled s x.place (answered o)).kept xs
      go (took r) m = so_took s.kept x xs r h m
      go (stop k) m = so_over s.kept x xs h

-- THE LAW of the pass
pub record PassSaved (σ : Settings) (b : List ℕ) (ks : List (At Record)) : Type 0 where
  pub there : Reads σ.chip ks (elements b)
  pub kept : PassKept σ [] (records ks)
  pub roomy : all_roomy (layouts (records ks)) ≡ true
  pub short : length (layouts (records ks)) ≤ length (drop 16 b)

pub pass_saved : (σ : Settings) (b : List ℕ) → Bytes b → PassSaved σ b (passed σ b).kept
pass_saved σ b small =
    let w = standing_whole (length (drop 16 b)) 16 (drop 16 b) (bytes_drop 16 b small) in
    let h =
    sift_through (by_pass σ) (λ s xs. So σ (elements b) s.kept xs) (so_next σ (elements b)) (saved [] []) (elements b)
    (record { gone = []; whole = refl; there = nothing; kept = tt; left = w }) in
    let t : Reads σ.chip (passed σ b).kept (elements b) = rw (sym (append-nil h.gone) ∙ h.whole) at h.there in
    record {
      there = t;
      kept = h.kept;
      roomy = reads_roomy σ.chip t w;
      short = reads_length σ.chip (length (drop 16 b)) 16 (drop 16 b) (passed σ b).kept t;
    }
