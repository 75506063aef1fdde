-- The bad readers of 'The bargain each call makes': none of them keeps the words of a check on all inputs.
-- Assumes nothing.
use Prim.Native.Nat.{ℕ}
use native.Mathlib.Omega.{arith}
use mathlib.Core.Path.{◌≡◌, refl}
use mathlib.Core.List.{List, []}
use lib.ListN.{length}
use Rattle.format.specs.Slots.{Bytes}
use Rattle.format.specs.Records.{Record}
use Rattle.format.specs.Verdict.{Accepts, accepted}
use Rattle.format.specs.Reader.{verdict_of}
use Rattle.format.specs.Known.{table_a}
use Rattle.format.specs.Bargain.{KeepsWords, TurnsAllAway, RepliesOnly, InventsCount}
use Rattle.format.specs.declared.records.Description.{Description}
use Rattle.format.specs.Answers.{Answer}
use Rattle.format.specs.Answers.{Gives as Accepted, Refused}
use Rattle.format.proofs.Theorem.{meets}
use Rattle.format.proofs.KnownTables.{small_bytes, known_tables}
use Rattle.format.proofs.Demand3.{unique, accepted_exactly}
use Rattle.format.specs.declared.settings.Settings.{Settings}

module _ (s : Settings) where
  -- the words can be kept: the reader's function keeps them
  pub words_kept : KeepsWords s (verdict_of s)
  words_kept = meets s

  -- what keeps them gives the number of elements in the only list
  pub true_count :
      (f : List ℕ → Answer)
      → KeepsWords s f
      → (b : List ℕ) (d : Description) (rs : List Record)
      → Bytes b
      → Accepts s b d rs
      → f b ≡ Accepted (length rs)
  true_count f keeps b d rs small c = unique s b (f b) (Accepted (length rs)) small (keeps b small) (accepted d rs c)

  -- table A and the empty table: the first and the third of the starred rows
  abbrev a : List ℕ
  a = table_a 0x01 0x10 0x80 0xff

  small_a : Bytes a
  small_a = small_bytes a refl

  small_empty : Bytes []
  small_empty = small_bytes [] refl

  accepts_a : (f : List ℕ → Answer) → KeepsWords s f → f a ≡ Accepted 0
  accepts_a f keeps = unique s a (f a) (Accepted 0) small_a (keeps a small_a) (known_tables s).0

  refuses_empty : (f : List ℕ → Answer) → KeepsWords s f → f [] ≡ Refused 1 0
  refuses_empty f keeps = unique s [] (f []) (Refused 1 0) small_empty (keeps [] small_empty) (known_tables s).1.1.0

  -- 'one that turns every table away'
  pub refuses_all : (f : List ℕ → Answer) → TurnsAllAway f → KeepsWords s f → ⊥
  refuses_all f away keeps =
      let p = accepts_a f keeps in
      let q = away a small_a in
      let z : ◌≡◌ {A = ℕ} 0 1 = cc q.2 in
      omega arith

  -- '.. and one with a single fixed reply'
  pub one_reply : (f : List ℕ → Answer) (r : Answer) → RepliesOnly r f → KeepsWords s f → ⊥
  one_reply f r fixed keeps =
      let p = accepts_a f keeps in
      let q = refuses_empty f keeps in
      let s = fixed a small_a in
      let t = fixed [] small_empty in
      let z : ◌≡◌ {A = ℕ} 0 1 = cc in
      omega arith

  -- 'an acceptance whose element count is invented'
  pub invented_count : (f : List ℕ → Answer) → InventsCount s f → KeepsWords s f → ⊥
  invented_count f i keeps =
      let p = true_count f keeps i.bytes i.description i.records i.small i.accepts in
      let e : i.count ≡ length i.records = cc i.answers in
      i.invented e

  -- and there are such programs: a refusal whatever comes, and 41 elements found in table A
  pub away : TurnsAllAway (λ b. Refused 1 0)
  away b small = (1, 0, refl)

  pub forty_one : InventsCount s (λ b. Accepted 41)
  forty_one =
      let t = (accepted_exactly s a 0).0 (known_tables s).0 in
      record {
        bytes = a;
        small = small_a;
        description = t.0;
        records = t.1;
        accepts = t.2;
        count = 41;
        answers = refl;
        invented = λ e. omega (arith, t.3);
      }
