-- The description: one that starts the bytes is the one that is read, and the one that is read starts them.
-- Assumes nothing.
use Prim.Native.Nat.{ℕ, ◌+◌, ◌≤◌}
use native.Mathlib.Omega.{arith}
use mathlib.Core.Path.{◌≡◌, sym, subst}
use mathlib.Core.Bool.{true}
use mathlib.Core.List.{List, []}
use lib.ListN.{length, drop, length-append}
use Rattle.format.specs.Slots.{Starts, Fits, byte, Bytes}
use Rattle.format.specs.Records.{Record}
use Rattle.format.specs.Layout.{layouts, opening, table}
use Rattle.format.specs.Rules.{description_kind}
use Rattle.format.specs.Verdict.{stated, Opened}
use Rattle.format.specs.Decode.{read_description}
use Rattle.format.specs.declared.records.Description.{Description}
use Rattle.format.proofs.Slots.{starts_over, over_starts, starts_rest, starts_length, starts_count, starts_split, starts_append}
use Rattle.format.proofs.EachKind.{description_only, description_fits, description_standing}
use Rattle.format.specs.declared.pins.Chip.{Chip}

pub opened_only :
    (c : Chip) (b : List ℕ) (d : Description) (rest : List ℕ) → Opened c b d rest → (d ≡ read_description c (byte b)) × (rest ≡ drop 16 b)
opened_only c b d rest o = (
  description_only c (byte b) d (length b) (starts_over b (opening d (length b)) rest o.starts) o.kind,
  starts_rest b (opening d (length b)) rest o.starts,
)

pub opened_fits :
    (c : Chip) (b : List ℕ)
    → Bytes b
    → 16 ≤ length b
    → byte b 0 ≡ 1
    → stated b ≡ length b
    → stated b ≤ 4096
    → Opened c b (read_description c (byte b)) (drop 16 b)
opened_fits c b small long one len top =
    record {
      limit = omega arith;
      starts = over_starts b (opening (read_description c (byte b)) (length b)) (omega arith)
          (description_fits c (byte b) (length b) small one len);
      kind = description_standing c (byte b);
    }

-- what a description that starts the bytes says of rules 1 to 3
pub opened_facts :
    (c : Chip) (b : List ℕ) (d : Description) (rest : List ℕ)
    → Opened c b d rest
    → (16 ≤ length b) × (byte b 0 ≡ 1) × (stated b ≡ length b) × (stated b ≤ 4096)
opened_facts c b d rest o =
    let l = starts_length b (opening d (length b)) rest o.starts in
    let v = starts_over b (opening d (length b)) rest o.starts in
    let s : stated b ≡ length b = omega (arith, v.1.0, v.1.1.0) in
    (l, v.0, s, omega (arith, o.limit, s))

-- a table's layout is the description's, for its own length, and then the elements'
pub table_length : (b : List ℕ) (d : Description) (rs : List Record) → Fits b (table d rs) → length b ≡ 16 + length (layouts rs)
table_length b d rs f =
    omega (arith, starts_count b (table d rs) [] f, length-append (opening d (16 + length (layouts rs))) (layouts rs))

pub record Split (c : Chip) (b : List ℕ) (d : Description) (rs : List Record) : Type 0 where
  pub rest : List ℕ
  pub opened : Opened c b d rest
  pub fits : Fits rest (layouts rs)

pub table_split :
    (c : Chip) (b : List ℕ) (d : Description) (rs : List Record)
    → length b ≤ 4096
    → Fits b (table d rs)
    → description_kind c d ≡ true
    → Split c b d rs
table_split c b d rs top f k =
    let m = starts_split b (opening d (16 + length (layouts rs))) (layouts rs) [] f in
    record {
      rest = m.0;
      opened = record {
        limit = top;
        starts = subst (λ (n : ℕ). Starts b (opening d n) m.0) (sym (table_length b d rs f))
            m.1;
        kind = k;
      };
      fits = m.2;
    }

pub table_join :
    (c : Chip) (b : List ℕ) (d : Description) (rs : List Record) (rest : List ℕ)
    → Opened c b d rest
    → Fits rest (layouts rs)
    → Fits b (table d rs)
table_join c b d rs rest o f =
    let n : length b ≡ 16 + length (layouts rs) =
    omega (arith, starts_count b (opening d (length b)) rest o.starts, starts_count rest (layouts rs) [] f) in
    starts_append b (opening d (16 + length (layouts rs))) (layouts rs) rest []
    (subst (λ (n : ℕ). Starts b (opening d n) rest) n o.starts) f
