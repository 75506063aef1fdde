-- `put_lines` meets its contract. The loop's invariant: the first k lines are put, and the rest of the table is left.
-- Assumes nothing.
use Rattle.std.proofs.Common.{◌*◌, ap, ◌∙◌, sym, length, arith, rules, add-one}
use Rattle.std.specs.Iterator.Adapters.{enumerate_count}
use Rattle.std.proofs.lemmas.List.{length-drop}
use Rattle.spelling.proofs.Putting.{then}
use Rattle.tohex.proofs.Lines.{lines_length, cut}
use Rattle.tohex.proofs.put_lines.Goals as goal

pub put_data-end-requires : goal.put_data-end-requires
put_data-end-requires c =
    let t = c.args.table.now in
    let l = c.loop-k.invariant in
    let s = c.in-Some.ensures.steps in
    let d = cut t _ c.in-Some.part.now _ (sym l.3 ∙ s.0.1.0) (rw (← l.3, ← l.2) s.0.1.1) (rw (← l.3) s.0.1.2) in
    omega (
      arith,
      d.2,
      s.1,
      s.0.1.1,
      ap length l.3,
      length-drop (16 * enumerate_count c.loop-k.k-iterator) t,
      l.2,
      l.5.long,
      l.5.ends,
      lines_length t _ l.4,
      c.requires,
    )

pub loop-k-preserved : goal.loop-k-preserved
loop-k-preserved c =
    let t = c.args.table.now in
    let l = c.loop-k.invariant in
    let s = c.in-Some.ensures.steps in
    let d = cut t _ c.in-Some.part.now _ (sym l.3 ∙ s.0.1.0) (rw (← l.3, ← l.2) s.0.1.1) (rw (← l.3) s.0.1.2) in (
      search rules,
      search rules,
      search rules,
      rw s.2 d.1,
      omega (arith, d.2, s.2),
      rw (s.2, add-one) (then l.5 (rw (s.1, d.0) at c.put_data-end.ensures.0)),
    )
