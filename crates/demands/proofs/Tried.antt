-- The tables that the bad writers are tried on, as records that keep the rules: table A, A with a string, A with two strings.
-- Assumes nothing.
use Prim.Native.Nat.{ℕ}
use native.Mathlib.Omega.{arith}
use mathlib.Core.Path.{◌≡◌, refl}
use mathlib.Core.Bool.{true}
use mathlib.Core.List.{List, [], ◌∷◌}
use Rattle.format.specs.Slots.{Bytes, written}
use Rattle.format.specs.Records.{Record, string}
use Rattle.format.specs.Layout.{table}
use Rattle.format.specs.Rules.{description_rules, own_rules}
use Rattle.format.specs.ZonesAndStrings.{rules_against}
use Rattle.format.specs.Table.{Keeps}
use Rattle.format.specs.Verdict.{Accepts}
use Rattle.format.specs.Known.{table_a}
use Rattle.format.specs.declared.records.Description.{Description}
use Rattle.format.proofs.Written.{written_fits, written_bytes}
use Rattle.format.specs.declared.pins.Chip.{Chip}
use Rattle.std.specs.Prelude.{None}
use Rattle.format.specs.Writing.{writing}

abbrev pub of_a : Description
of_a =
    record {
      device = 2;
      string = 0;
      serial = 7;
      spwr = true;
      power = record { 0 = 0 };
      revision0 = None;
      revision1 = None;
      revision2 = None;
    }

-- strings 1 and 2, of no text
abbrev pub text1 : Record
text1 = string (1 ∷ 0x09 ∷ 0x04 ∷ [])

abbrev pub text2 : Record
text2 = string (2 ∷ 0x09 ∷ 0x04 ∷ [])

abbrev pub tried : List Record → List ℕ
tried rs = written (table of_a rs)

pub is_table_a : tried [] ≡ table_a 0x01 0x10 0x80 0xff
is_table_a = refl

-- they keep the rules, as is computed
pub none_kept : (chip : Chip) → Keeps (writing chip) of_a []
unfolding description_rules own_rules rules_against
none_kept chip =
    record { roomy_25 = refl; limit = omega arith; described = refl; passed = tt; zoned = refl; named = refl; clear = refl }

pub one_kept : (chip : Chip) → Keeps (writing chip) of_a (text1 ∷ [])
unfolding description_rules own_rules rules_against
one_kept chip =
    record {
      roomy_25 = refl;
      limit = omega arith;
      described = refl;
      passed = (omega arith, refl, tt);
      zoned = refl;
      named = refl;
      clear = refl;
    }

pub two_kept : (chip : Chip) → Keeps (writing chip) of_a (text1 ∷ text2 ∷ [])
unfolding description_rules own_rules rules_against
two_kept chip =
    record {
      roomy_25 = refl;
      limit = omega arith;
      described = refl;
      passed = (omega arith, refl, (omega arith, refl, tt));
      zoned = refl;
      named = refl;
      clear = refl;
    }

-- and so they are accepted
pub tried_accepted : (chip : Chip) (rs : List Record) → Keeps (writing chip) of_a rs → Accepts (writing chip) (tried rs) of_a rs
tried_accepted chip rs k = record { keeps = k; fits = written_fits (table of_a rs) k.roomy_25 }

pub tried_bytes : (chip : Chip) (rs : List Record) → Keeps (writing chip) of_a rs → Bytes (tried rs)
tried_bytes chip rs k = written_bytes (table of_a rs) k.roomy_25
