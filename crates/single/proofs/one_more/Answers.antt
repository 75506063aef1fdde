-- `one_more` meets its contract, by the kind.
-- Assumes nothing.
use native.Mathlib.Omega.{arith}
use mathlib.Core.Path.{refl, sym, ◌∙◌}
use Rattle.underway.proofs.Growing.{grow_text, grow_cut, grow_plain}
use Rattle.single.proofs.one_more.Goals as goal

pub returns-then-id-eq12 : goal.returns-then-id-eq12
returns-then-id-eq12 c =
    record {
      on = λ f. grow_text _ _ _ _ _ c.keep_one.ensures refl c.if-id-eq12.true
          (c.unit_on.ensures.on f);
    }

pub returns-then-most-eq0 : goal.returns-then-most-eq0
returns-then-most-eq0 c =
    let e = c.so_many.ensures in
    record {
      on =
          λ f.
          grow_plain _ _ _ _ _ c.keep_one.ensures refl c.if-id-eq12.false
          (sym c.most_of-most.ensures.0 ∙ c.if-most-eq0.true) e.0 e.1;
    }

pub entry_on-requires : goal.entry_on-requires
entry_on-requires c =
    let n = c.if-most-eq0.false in
    (c.lead_of.ensures.1, omega arith, c.most_of-most.ensures.1, omega arith)

pub returns : goal.returns
returns c =
    record {
      on =
          λ f.
          grow_cut _ _ _ _ _ c.keep_one.ensures refl c.if-id-eq12.false c.lead_of.ensures.0
          c.most_of-most.ensures.0 (c.entry_on.ensures.on f);
    }
