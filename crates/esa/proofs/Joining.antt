-- The writer's calls over numbers: no value of an answer is over 4,096, and the record is the one in the numbers.
-- Assumes nothing.
use Prim.Native.Nat.{ℕ, ◌≤◌}
use native.Mathlib.Omega.{arith}
use mathlib.Core.Path.{◌≡◌, refl, sym, subst}
use mathlib.Core.Bool.{Bool, true, false, ◌&&◌, false≢true}
use mathlib.Core.List.{List}
use mathlib.Core.Option.{Option, none, some}
use lib.ListN.{length}
use lib.Dec.{leb}
use borrow.Author.Tests.{leb-true}
use Rattle.format.specs.Layout.{table}
use Rattle.format.specs.Rules.{description_roomy, element_roomy}
use Rattle.format.specs.Table.{description_breaks}
use Rattle.format.specs.Verdict.{stated}
use Rattle.format.specs.Answers.{value_of}
use Rattle.format.specs.Writing.{writing, or_refused, unless_broken_at, part_breaks, new_length, length_stands, has_room, start_answer}
use Rattle.format.specs.Writing.{append_answer}
use Rattle.format.specs.declared.records.Description.{Description}
use Rattle.format.specs.declared.records.Element.{Element}
use Rattle.format.specs.Answers.{Written}
use Rattle.format.specs.Answers.{Gives as Length}
use Rattle.writer.specs.Calls.{Started, Appended}
use Rattle.writer.proofs.Answering.{at_most}
use Rattle.format.proofs.Lengths.{fits_length}
use Rattle.reader.proofs.Bounds.{value_bound}
use Rattle.rewriting.specs.Again.{Rewritten, done, no_room, refused}
use Rattle.numbers.specs.From.{description_from, element_from}
use Rattle.std.specs.Prelude.{Option as Maybe, Some as Found, None as Unknown}
use Rattle.esa.specs.Writing.{packed_written, StartedFor, AppendedAs, AppendedFor}
use Rattle.format.specs.declared.pins.Chip.{Chip}

or_bound :
    (t : Bool) (k p : ℕ) (w : Written)
    → p ≤ 4096
    → (t ≡ true → value_of w ≤ 4096)
    → value_of (or_refused t k p w) ≤ 4096
or_bound true k p w h g = g refl
or_bound false k p w h g = h

broken_bound :
    (o : Option ℕ) (p : ℕ) (w : Written)
    → p ≤ 4096
    → value_of w ≤ 4096
    → value_of (unless_broken_at o p w) ≤ 4096
broken_bound none p w h g = g
broken_bound (some k) p w h g = h

second : (a b : Bool) → a && b ≡ true → b ≡ true
second true b h = h
second false b h = absurd (false≢true h)

start_answer_bound : (c : Chip) (b : List ℕ) (d : Description) → value_of (start_answer c b d) ≤ 4096
unfolding start_answer
start_answer_bound c b d =
    or_bound (leb 16 (length b)) 1 0 _ (omega arith) (λ long.
    or_bound (description_roomy d) 25 0 _ (omega arith) (λ h.
    broken_bound (description_breaks c d) 0 (Length 16) (omega arith) (omega arith)))

append_answer_bound : (c : Chip) (b : List ℕ) (e : Element) (p : List ℕ) → value_of (append_answer c b e p) ≤ 4096
unfolding append_answer
append_answer_bound c b e p =
    or_bound (leb 16 (length b)) 1 0 _ (omega arith) (λ long.
    or_bound (length_stands b) 3 0 _ (omega arith) (λ stands.
    or_bound (element_roomy e) 25 0 _ (omega arith) (λ h.
    broken_bound (part_breaks (writing c) e p) (stated b) _ (at_most b (stated b) stands)
    (or_bound (has_room b (new_length b e p)) 16 0 (Length (new_length b e p)) (omega arith) (λ room.
    leb-true (new_length b e p) 4096 (second (leb (new_length b e p) (length b)) (leb (new_length b e p) 4096) room))))))

pub start_bound :
    (c : Chip) (b : List ℕ) (d : Description) (r : Written) (after : List ℕ) → Started c b d r after → value_of r ≤ 4096
start_bound c b d r after s = rw s.answer (start_answer_bound c b d)

pub append_bound :
    (c : Chip) (b : List ℕ) (e : Element) (p : List ℕ) (r : Written) (after : List ℕ) → Appended c b e p r after → value_of r ≤ 4096
append_bound c b e p r after a = rw a.answer (append_answer_bound c b e p)

pub rewrite_bound : (chip : Chip) (b c : List ℕ) (w : Written) (after : List ℕ) → Rewritten chip b c w after → value_of w ≤ 4096
rewrite_bound chip b c w after (done d rs a h) = omega (arith, fits_length b (table d rs) a.fits, a.keeps.limit)
rewrite_bound chip b c w after (no_room d rs a h) = omega arith
rewrite_bound chip b c w after (refused v) = value_bound (writing chip) b _ v

pub started_for :
    (c : Chip) (b n : List ℕ) (d : Description) (w : Written) (r : ℕ) (after : List ℕ)
    → d ≡ description_from n
    → Started c b d w after
    → r ≡ packed_written w
    → StartedFor c b n r after
started_for c b n d w r after is s h =
    record { answer = w; started = subst (λ (x : Description). Started c b x w after) is s; number = h }

module _ (c : Chip) (b : List ℕ) (id : ℕ) (n p : List ℕ) (f : Maybe Element) (is : f ≡ element_from id n) where
  joined : (g : Maybe Element) (r : ℕ) (after : List ℕ) → f ≡ g → AppendedAs c g b p r after → AppendedFor c b id n p r after
  joined g r after q a =
      record {
        appended =
            subst (λ (x : Maybe Element). AppendedAs c x b p r after) is
            (subst (λ (x : Maybe Element). AppendedAs c x b p r after) (sym q) a);
      }

  pub appended_for :
      (e : Element) (w : Written) (r : ℕ) (after : List ℕ)
      → f ≡ Found e
      → Appended c b e p w after
      → r ≡ packed_written w
      → AppendedFor c b id n p r after
  appended_for e w r after q a h = joined (Found e) r after q (record { answer = w; appended = a; number = h })

  pub unknown_for : f ≡ Unknown → AppendedFor c b id n p 7 b
  unknown_for q = joined Unknown 7 b q (refl, refl)
