-- A step meets the trait's laws: an element stands ahead, and what is left after it is divided as before.
-- Assumes nothing.
use native.Mathlib.Omega.{arith}
use borrow.Author.Rules.{rules}
use Prim.Native.Nat.{◌+◌}
use Rattle.walking.specs.Division.{Divided}
use Rattle.walking.proofs.Division.{ahead}
use Rattle.walking.proofs.PlacesIterator.next.Goals as goal

pub length_at-requires : goal.length_at-requires
length_at-requires c = let a = ahead c.requires c.if-self-at.false in omega arith

pub overflow_add-self : goal.overflow_add-self
overflow_add-self c = let a = ahead c.requires c.if-self-at.false in omega arith

pub returns-clause-goes : goal.returns-clause-goes
returns-clause-goes c =
    let a = ahead c.requires c.if-self-at.false in
    let s = c.args.self.now in
    let r : Divided s.table.now (s.at + c.length_at.result) = rw c.length_at.ensures a.rest in
    record { on = λ _. (r, search rules, omega arith); keeps = search rules; rests = search rules }
