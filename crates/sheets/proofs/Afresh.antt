-- 'After an append to an accepted table that leaves it accepted, the sheet brought forward from the old one equals the sheet made afresh':
-- of the words of make, append and forward. Where the new table is refused, both keep the old sheet.
-- Assumes nothing.
use Prim.Native.Nat.{ℕ}
use mathlib.Core.Path.{◌≡◌, sym, ◌∙◌, ap}
use mathlib.Core.List.{List, [], ◌∷◌, ◌++◌}
use lib.ListN.{take}
use Rattle.format.specs.Slots.{Bytes}
use Rattle.format.specs.Records.{Record}
use Rattle.format.specs.Verdict.{stated}
use Rattle.format.specs.declared.settings.Settings.{Settings}
use Rattle.format.specs.declared.records.Description.{Description}
use Rattle.format.specs.declared.records.Element.{Element}
use Rattle.format.specs.Answers.{Answer}
use Rattle.format.specs.Answers.{Gives as Length}
use Rattle.writer.specs.Calls.{Appended}
use Rattle.demands.proofs.Appending.{appended_one, appended_records}
use Rattle.pinsheet.specs.Sheet.{sheet, forward}
use Rattle.pinsheet.proofs.Sheet.{forward_afresh}
use Rattle.sheets.specs.Lines.{read, Filled, Leaves, filled, kept}
use Rattle.sheets.proofs.Naming.{lines_by}
use Rattle.sheets.proofs.Only.{only_leaves}

-- a buffer with a table that is accepted, whose sheet is old; an element that was appended to it
module _ (σ : Settings) (b : List ℕ) (e : Element) (p : List ℕ) (m : ℕ) (after old : List ℕ) where
  module _ (small : Bytes p) (o : Filled σ (take (stated b) b) sheet old) (w : Appended σ.chip b e p (Length m) after) where
    -- what `forward` leaves keeps the words of `make`
    pub forward_makes :
        (x : Answer) (new : List ℕ)
        → Leaves σ (take m after) (λ d rs. forward rs (read old)) old x new
        → Leaves σ (take m after) sheet old x new
    forward_makes x new (kept v) = kept v
    forward_makes x new (filled f) =
        let one = appended_one σ b e p m after o.d o.rs small o.accepts w in
        let same = appended_records σ b e p m after o.d o.rs small o.accepts w f.d f.rs f.accepts in
        let all : forward f.rs (read old) ≡ sheet f.d f.rs =
        ap (λ (l : List Record). forward l (read old)) same.1
        ∙ ap (forward (o.rs ++ one ∷ [])) o.left.lines
        ∙ forward_afresh o.d o.rs one
        ∙ sym (ap (λ (d : Description). sheet d f.rs) same.0 ∙ ap (sheet o.d) same.1) in
        filled (record { d = f.d; rs = f.rs; accepts = f.accepts; left = lines_by all f.left })

    -- THE THEOREM: and so the two calls leave the same numbers
    pub forward_is_made :
        (x y : Answer) (new made : List ℕ)
        → Bytes (take m after)
        → Leaves σ (take m after) (λ d rs. forward rs (read old)) old x new
        → Leaves σ (take m after) sheet old y made
        → (x ≡ y) × (new ≡ made)
    forward_is_made x y new made bytes f k = only_leaves σ (take m after) sheet old x y new made bytes (forward_makes x new f) k
