-- `clear_reserved` meets its contract: by the identifier, one test after another.
-- Assumes nothing.
use native.Mathlib.Omega.{arith}
use mathlib.Core.Path.{sym, ◌∙◌}
use Rattle.reserved.proofs.Zeroing.{on_bus_lem, on_2, on_8, on_10, on_none}
use Rattle.reserved.proofs.clear_reserved.Goals as goal

pub clear_bus-requires : goal.clear_bus-requires
clear_bus-requires c =
    let e = on_bus_lem c.args.id c.args.at c.args.buf.now (sym c.on_bus.ensures ∙ c.if-on_bus.true) in
    omega (arith, e.0, c.requires)

pub returns-then-on_bus : goal.returns-then-on_bus
returns-then-on_bus c =
    let e = on_bus_lem c.args.id c.args.at c.args.buf.now (sym c.on_bus.ensures ∙ c.if-on_bus.true) in
    c.clear_bus.ensures ∙ sym e.1

pub bounds-buf-at : goal.bounds-buf-at
bounds-buf-at c =
    let e = on_2 c.args.id c.args.at c.args.buf.now (sym c.on_bus.ensures ∙ c.if-on_bus.false) c.if-id-eq2.true in
    omega (arith, e.0, c.requires)

pub bounds-buf-at-then-id-eq2 : goal.bounds-buf-at-then-id-eq2
bounds-buf-at-then-id-eq2 c =
    let e = on_2 c.args.id c.args.at c.args.buf.now (sym c.on_bus.ensures ∙ c.if-on_bus.false) c.if-id-eq2.true in
    omega (arith, e.0, c.requires)

pub returns-then-id-eq2 : goal.returns-then-id-eq2
returns-then-id-eq2 c =
    sym (on_2 c.args.id c.args.at c.args.buf.now (sym c.on_bus.ensures ∙ c.if-on_bus.false) c.if-id-eq2.true).1

pub bounds-buf-at-then-id-eq8 : goal.bounds-buf-at-then-id-eq8
bounds-buf-at-then-id-eq8 c =
    let e =
    on_8 c.args.id c.args.at c.args.buf.now (sym c.on_bus.ensures ∙ c.if-on_bus.false) c.if-id-eq2.false
    c.if-id-eq8.true in
    omega (arith, e.0, c.requires)

pub returns-then-id-eq8 : goal.returns-then-id-eq8
returns-then-id-eq8 c =
    sym
    (on_8 c.args.id c.args.at c.args.buf.now (sym c.on_bus.ensures ∙ c.if-on_bus.false) c.if-id-eq2.false c.if-id-eq8.true
    ).1

pub clear_bus-requires-then-id-eq10 : goal.clear_bus-requires-then-id-eq10
clear_bus-requires-then-id-eq10 c =
    let e =
    on_10 c.args.id c.args.at c.args.buf.now (sym c.on_bus.ensures ∙ c.if-on_bus.false) c.if-id-eq2.false
    c.if-id-eq8.false c.if-id-eq10.true in
    omega (arith, e.0, c.requires)

pub bounds-buf-at-then-id-eq10 : goal.bounds-buf-at-then-id-eq10
bounds-buf-at-then-id-eq10 c =
    let e =
    on_10 c.args.id c.args.at c.args.buf.now (sym c.on_bus.ensures ∙ c.if-on_bus.false) c.if-id-eq2.false
    c.if-id-eq8.false c.if-id-eq10.true in
    omega (arith, e.0, c.requires, c.buf-then-id-eq10-1.given)

pub returns-then-id-eq10 : goal.returns-then-id-eq10
returns-then-id-eq10 c =
    let e =
    on_10 c.args.id c.args.at c.args.buf.now (sym c.on_bus.ensures ∙ c.if-on_bus.false) c.if-id-eq2.false
    c.if-id-eq8.false c.if-id-eq10.true in
    rw c.clear_bus-then-id-eq10.ensures (sym e.1)

pub returns-else-id-eq10 : goal.returns-else-id-eq10
returns-else-id-eq10 c =
    sym
    (on_none c.args.id c.args.at c.args.buf.now (sym c.on_bus.ensures ∙ c.if-on_bus.false) c.if-id-eq2.false
    c.if-id-eq8.false c.if-id-eq10.false)
