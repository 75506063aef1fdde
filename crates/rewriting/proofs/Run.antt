-- The rewriting as a run of the writer: each turn appends the element at its place, and when none is left demand 2 says what
-- stands in the buffer.
-- Assumes nothing.
use Prim.Native.Nat.{ℕ, ◌+◌, ◌<◌, ◌≤◌}
use mathlib.Core.Path.{◌≡◌, refl, sym, ◌∙◌, subst}
use mathlib.Core.List.{List, [], ◌∷◌, ◌++◌}
use lib.ListN.{length, drop}
use Rattle.format.specs.Slots.{written, byte}
use Rattle.format.specs.Records.{Record, element_of}
use Rattle.format.specs.Layout.{part}
use Rattle.format.specs.Verdict.{stated, Verdict, accepted}
use Rattle.format.specs.Decode.{read_description}
use Rattle.format.specs.declared.records.Description.{Description}
use Rattle.format.specs.declared.records.Element.{Element}
use Rattle.format.specs.Answers.{Gives as Accepted}
use Rattle.format.specs.Answers.{Written}
use Rattle.format.specs.Answers.{Gives as Length, Refused}
use Rattle.walking.specs.Walk.{Here, Walk}
use Rattle.walking.proofs.Left.{reads, begin, onward, ended}
use Rattle.writer.specs.Calls.{Started, Appended}
use Rattle.demands.specs.Runs.{Appends}
use Rattle.demands.proofs.Demand2.{records_written_again}
use Rattle.rewriting.specs.Again.{Rewritten, done as whole, no_room}
use Rattle.format.specs.declared.pins.Chip.{Chip}
use Rattle.format.specs.Writing.{writing}

pub too_short :
    (chip : Chip) (b c : List ℕ) {n : ℕ}
    → Verdict (writing chip) b (Accepted n)
    → length c < length b
    → Rewritten chip b c (Refused 16 0) c
too_short chip b c (accepted d rs a) h = no_room d rs a h

-- one append more
appends_more :
    (chip : Chip) (b : List ℕ) (rs : List Record) (ws : List Written) (mid : List ℕ) (r : Record) (w : Written) (after : List ℕ)
    → Appends chip b rs ws mid
    → Appended chip mid (element_of r) (written (part r)) w after
    → Appends chip b (rs ++ r ∷ []) (ws ++ w ∷ []) after
appends_more chip b [] [] mid r w after h a =
    (after, subst (λ (l : List ℕ). Appended chip l (element_of r) (written (part r)) w after) (sym h) a, refl)
appends_more chip b [] (v ∷ ws) mid r w after h a = absurd h
appends_more chip b (x ∷ rs) [] mid r w after h a = absurd h
appends_more chip b (x ∷ rs) (v ∷ ws) mid r w after h a = (h.0, h.1, appends_more chip h.0 rs ws mid r w after h.2 a)

-- the records behind the place are appended to the buffer as it was after start
abbrev pub Ran : Chip → List ℕ → List ℕ → List Record → List Record → Type 0
Ran chip c out done left = (ws : List Written) × Appends chip c done ws out

pub begun : (chip : Chip) (b c : List ℕ) {n : ℕ} → Verdict (writing chip) b (Accepted n) → Walk (writing chip) b 16 (Ran chip c c)
begun chip b c v = begin (writing chip) b (Ran chip c c) v (λ rs e. ([], refl))

module _ (chip : Chip) (b c : List ℕ) (at : ℕ) (out : List ℕ) (w : Walk (writing chip) b at (Ran chip c out)) where
  pub turned :
      {n : ℕ} (e : Element) (p : List ℕ) (v : Written) (after : List ℕ)
      → at < length b
      → n ≡ stated (drop at b)
      → ((x : Record) → Here chip b at x → e ≡ element_of x)
      → ((k : Chip) (x : Record) → Here k b at x → p ≡ written (part x))
      → Appended chip out e p v after
      → Walk (writing chip) b (at + n) (Ran chip c after)
  turned e p v after h l es ps a =
      onward (writing chip) b at (Ran chip c out) w (Ran chip c after) h l (λ g. (
        w.state.0 ++ v ∷ [],
        appends_more chip c w.done w.state.0 out g.r v after w.state.1
            (rw (es g.r g.here, ps chip g.r g.here) at a),
      ))

  pub ran :
      (c₀ : List ℕ) (d : Description) (v : Written)
      → length b ≤ at
      → length b ≤ length c₀
      → d ≡ read_description chip (byte b)
      → Started chip c₀ d v c
      → Rewritten chip b c₀ (Length (length b)) out
  ran c₀ d v h long e st =
      let z = ended (writing chip) b at (Ran chip c out) w h in
      let call = subst (λ (x : Description). Started chip c₀ x v c) (e ∙ sym (reads (writing chip) b z.d z.rs z.accepts).1) st in
      let again = records_written_again chip b c₀ z.d z.rs v z.state.0 c out z.accepts long call z.state.1 in
      subst (λ (l : List ℕ). Rewritten chip b c₀ (Length (length b)) l) (sym again.bytes) (whole z.d z.rs z.accepts long)
