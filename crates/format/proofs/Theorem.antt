-- THE THEOREM: an answer is right exactly when it is the reader's. So each list of bytes has an answer, and no second.
-- Assumes nothing.
use Prim.Native.Nat.{ℕ, ◌+◌, ◌≤◌}
use native.Mathlib.Omega.{arith}
use mathlib.Core.Path.{◌≡◌, refl, sym, ◌∙◌, ap}
use mathlib.Core.Bool.{Bool, true, false, ◌&&◌, false≢true}
use mathlib.Core.List.{List, []}
use mathlib.Core.Option.{Option, none, some}
use lib.ListN.{length, drop}
use lib.Dec.{eqb, leb}
use borrow.Author.Tests.{eqb-true, eqb-false, leb-true, leb-false, le-leb, lt-leb, eq-eqb, ne_eqb}
use Rattle.format.specs.Slots.{Fits, byte, Bytes}
use Rattle.format.specs.Records.{Record}
use Rattle.format.specs.Layout.{layouts, table}
use Rattle.format.specs.ZonesAndStrings.{zoneless, nameless}
use Rattle.format.specs.Claims.{contested}
use Rattle.format.specs.Table.{description_breaks, PassKept, Keeps}
use Rattle.format.specs.Verdict.{stated, Opened, Passed, Accepts, Verdict, accepted, short, unrevised, missized, misdescribed}
use Rattle.format.specs.Verdict.{stopped, unzoned, unnamed, clashing}
use Rattle.format.specs.Decode.{read_description}
use Rattle.format.specs.Reader.{Result, halted, through, pass, or_refuse, over_all, conclude, unless_misdescribed, after_description}
use Rattle.format.specs.Reader.{or_refuse_at0, verdict_of}
use Rattle.format.specs.declared.records.Description.{Description}
use Rattle.format.specs.Answers.{Answer}
use Rattle.format.specs.Answers.{Refused}
use Rattle.format.proofs.Slots.{bytes_drop, starts_count, starts_roomy}
use Rattle.format.proofs.Kept.{and-true, described_kind}
use Rattle.format.proofs.Opening.{opened_only, opened_fits, opened_facts, table_split, table_join}
use Rattle.format.proofs.Passing.{Ends, pass_meets, pass_only}
use Rattle.format.specs.declared.settings.Settings.{Settings}

-- To the reader's answer: it keeps the words.

or_at_0 :
    (P : Answer → Type 0) (t : Bool) (k : ℕ) (a : Answer) → (t ≡ true → P a) → (t ≡ false → P (Refused k 0)) → P (or_refuse_at0 t k a)
or_at_0 P true k a f g = f refl
or_at_0 P false k a f g = g refl

or_refuse_lem :
    (P : Answer → Type 0) (k : ℕ) (u : Option ℕ) (a : Answer)
    → ((p : ℕ) → u ≡ some p → P (Refused k p))
    → (u ≡ none → P a)
    → P (or_refuse k u a)
or_refuse_lem P k (some p) a f g = f p refl
or_refuse_lem P k none a f g = g refl

module _ (s : Settings) where
  keeps :
      (b : List ℕ) (d : Description) (rs : List Record)
      → Bytes b
      → Passed s b d rs
      → zoneless rs ≡ none
      → nameless d rs ≡ none
      → contested d rs ≡ none
      → Keeps s d rs
  keeps b d rs small p z n c =
      record {
        roomy_25 = starts_roomy b (table d rs) [] small p.fits;
        limit = omega (arith, p.limit, starts_count b (table d rs) [] p.fits);
        described = p.described;
        passed = p.passed;
        zoned = z;
        named = n;
        clear = c;
      }

  over_meets : (b : List ℕ) (d : Description) (rs : List Record) → Bytes b → Passed s b d rs → Verdict s b (over_all d rs)
  over_meets b d rs small p =
      or_refuse_lem (Verdict s b) 13 (zoneless rs) _ (λ q z. unzoned d rs p z)
      (λ z.
      or_refuse_lem (Verdict s b) 14 (nameless d rs) _ (λ q n. unnamed d rs p z n)
      (λ n. or_refuse_lem (Verdict s b) 15 (contested d rs) _ (λ q c. clashing d rs p z n c)
      (λ c. accepted d rs (record { keeps = keeps b d rs small p z n c; fits = p.fits }))))

  conclude_meets :
      (b : List ℕ) (d : Description) (rest : List ℕ)
      → Bytes b
      → Opened s.chip b d rest
      → description_breaks s.chip d ≡ none
      → (o : Result)
      → Ends s [] 16 rest o
      → Verdict s b (conclude d o)
  conclude_meets b d rest small o clean (halted k q) e = rw e.5 (stopped d rest e.0 e.1 o clean e.2 e.3 e.4)
  conclude_meets b d rest small o clean (through all) e =
      rw e.3
      (over_meets b d e.0 small
      (record { limit = o.limit; fits = table_join s.chip b d e.0 rest o e.1; described = clean; passed = e.2 }))

  after_meets :
      (b : List ℕ) (d : Description) (rest : List ℕ) → Bytes b → Bytes rest → Opened s.chip b d rest
      → Verdict s b (after_description s d rest)
  after_meets b d rest small small' o = go (description_breaks s.chip d) refl
    where
      go :
          (u : Option ℕ)
          → description_breaks s.chip d ≡ u
          → Verdict s b (unless_misdescribed u (conclude d (pass s (length rest) [] 16 rest)))
      go none e = conclude_meets b d rest small o e (pass s (length rest) [] 16 rest)
          (pass_meets s (length rest) [] 16 rest small' (omega arith))
      go (some k) e = misdescribed d rest o e

  and-false : (a b : Bool) {A B : Type 0} → a && b ≡ false → (A → a ≡ true) → (B → b ≡ true) → A × B → ⊥
  and-false true b h f g p = false≢true (sym h ∙ g p.1)
  and-false false b h f g p = false≢true (f p.0)

  pub meets : (b : List ℕ) → Bytes b → Verdict s b (verdict_of s b)
  unfolding verdict_of
  meets b small =
      or_at_0 (Verdict s b) (leb 16 (length b)) 1 _
      (λ long.
      or_at_0 (Verdict s b) (eqb (byte b 0) 1) 2 _
      (λ one.
      or_at_0 (Verdict s b) (eqb (stated b) (length b) && leb (stated b) 4096) 3 _
      (λ fit.
      let p = and-true (eqb (stated b) (length b)) (leb (stated b) 4096) fit in
      after_meets b (read_description s.chip (byte b)) (drop 16 b) small (bytes_drop 16 b small)
      (opened_fits s.chip b small (leb-true _ _ long) (eqb-true _ _ one) (eqb-true _ _ p.0) (leb-true _ _ p.1)))
      (λ fit. missized (leb-true _ _ long) (eqb-true _ _ one)
      (and-false (eqb (stated b) (length b)) (leb (stated b) 4096) fit (eq-eqb _ _) (le-leb _ _))))
      (λ one. unrevised (leb-true _ _ long) (eqb-false _ _ one)))
      (λ long. short (leb-false _ _ long))

  -- From the reader's answer: no other keeps them.

  opened_reads : (b : List ℕ) (d : Description) (rest : List ℕ) → Opened s.chip b d rest → verdict_of s b ≡ after_description s d rest
  unfolding verdict_of
  opened_reads b d rest o =
      let f = opened_facts s.chip b d rest o in
      let r = opened_only s.chip b d rest o in
      rw (r.0, r.1) (simp (
        le-leb 16 (length b) f.0,
        eq-eqb (byte b 0) 1 f.1,
        eq-eqb (stated b) (length b) f.2,
        le-leb (stated b) 4096 f.3,
      ))

  passed_reads :
      (b : List ℕ) (d : Description) (rest : List ℕ) (o : Result)
      → Bytes b
      → Opened s.chip b d rest
      → description_breaks s.chip d ≡ none
      → Ends s [] 16 rest o
      → verdict_of s b ≡ conclude d o
  passed_reads b d rest o small op clean e =
      let small' : Bytes rest = rw (opened_only s.chip b d rest op).1 (bytes_drop 16 b small) in
      opened_reads b d rest op ∙ simp clean (ap (conclude d) (pass_only s (length rest) 16 rest o small' (omega arith) e))

  all_reads :
      (b : List ℕ) (d : Description) (rs : List Record)
      → Bytes b
      → length b ≤ 4096
      → Fits b (table d rs)
      → description_breaks s.chip d ≡ none
      → PassKept s [] rs
      → verdict_of s b ≡ over_all d rs
  all_reads b d rs small top f clean kept =
      let m = table_split s.chip b d rs top f (described_kind s.chip d clean) in
      passed_reads b d m.rest (through rs) small m.opened clean (rs, m.fits, kept, refl)

  pub accepts_passed : (b : List ℕ) (d : Description) (rs : List Record) → Accepts s b d rs → Passed s b d rs
  accepts_passed b d rs c =
      record {
        limit = omega (arith, c.keeps.limit, starts_count b (table d rs) [] c.fits);
        fits = c.fits;
        described = c.keeps.described;
        passed = c.keeps.passed;
      }

  differs : (a b : Bool) {A B : Type 0} → (a ≡ true → A) → (b ≡ true → B) → (A × B → ⊥) → a && b ≡ false
  differs true true f g n = absurd (n (f refl, g refl))
  differs true false f g n = refl
  differs false b f g n = refl

  pub only : (b : List ℕ) (a : Answer) → Bytes b → Verdict s b a → verdict_of s b ≡ a
  unfolding verdict_of
  only b a small (short h) = simp (lt-leb 16 (length b) h)
  only b a small (unrevised long n) = simp (le-leb 16 (length b) long, ne_eqb (byte b 0) 1 n)
  only b a small (missized long one n) =
      simp (
        le-leb 16 (length b) long,
        eq-eqb (byte b 0) 1 one,
        differs (eqb (stated b) (length b)) (leb (stated b) 4096) (eqb-true _ _)
            (leb-true _ _) n,
      )
  only b a small (misdescribed d rest o e) = opened_reads b d rest o ∙ simp e
  only b a small (stopped {k = k} d rest rs here o clean st kept br) =
      passed_reads b d rest (halted k (16 + length (layouts rs))) small o clean (rs, here, st, kept, br, refl)
  only b a small (unzoned d rs p z) = all_reads b d rs small p.limit p.fits p.described p.passed ∙ simp z
  only b a small (unnamed d rs p z n) = all_reads b d rs small p.limit p.fits p.described p.passed ∙ simp (z, n)
  only b a small (clashing d rs p z n c) =
      all_reads b d rs small p.limit p.fits p.described p.passed ∙ simp (z, n, c)
  only b a small (accepted d rs c) =
      let p = accepts_passed b d rs c in
      let k = c.keeps in
      all_reads b d rs small p.limit p.fits p.described p.passed ∙ simp (k.zoned, k.named, k.clear)

  -- there is only one list of records
  pub one_list :
      (b : List ℕ) (d d' : Description) (rs rs' : List Record)
      → Bytes b
      → Passed s b d rs
      → Passed s b d' rs'
      → (d ≡ d') × (rs ≡ rs')
  one_list b d d' rs rs' small p q =
      let m = table_split s.chip b d rs p.limit p.fits (described_kind s.chip d p.described) in
      let m' = table_split s.chip b d' rs' q.limit q.fits (described_kind s.chip d' q.described) in
      let r = opened_only s.chip b d m.rest m.opened in
      let r' = opened_only s.chip b d' m'.rest m'.opened in
      let t = m.rest in
      let small' : Bytes t = rw r.1 (bytes_drop 16 b small) in
      let u : m'.rest ≡ t = r'.1 ∙ sym r.1 in
      let x = pass_only s (length t) 16 t (through rs) small' (omega arith) (rs, m.fits, p.passed, refl) in
      let y = pass_only s (length t) 16 t (through rs') small' (omega arith) (rs', rw u at m'.fits, q.passed, refl) in
      (cc, cc)
