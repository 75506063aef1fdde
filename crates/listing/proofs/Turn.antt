-- The listing as a walk: each turn puts the line of the element at its place behind those before it.
-- Assumes nothing.
use Prim.Native.Nat.{ℕ, ◌+◌, ◌*◌, ◌<◌, ◌≤◌}
use native.Mathlib.Omega.{arith}
use native.Mathlib.Nat.{add-zero}
use mathlib.Core.Path.{◌≡◌, sym, ◌∙◌, ap, subst}
use mathlib.Core.Bool.{false}
use mathlib.Core.List.{List, [], ◌∷◌, ◌++◌, append-nil, append_assoc}
use lib.ListN.{length, drop, length-append}
use Rattle.format.specs.Slots.{written, byte}
use Rattle.format.specs.Records.{Record, element_of}
use Rattle.format.specs.Layout.{part, layout, layouts}
use Rattle.format.specs.Rules.{in_use}
use Rattle.format.specs.Verdict.{stated, Verdict}
use Rattle.format.specs.Decode.{read_description}
use Rattle.format.specs.declared.records.Description.{Description}
use Rattle.format.specs.declared.records.Element.{Element}
use Rattle.format.specs.Answers.{Gives as Accepted, Refused}
use Rattle.format.proofs.Lengths.{at_most_96}
use Rattle.walking.specs.Walk.{Here, Walk}
use Rattle.walking.proofs.Left.{reads, begin, next, onward, ended}
use Rattle.spelling.specs.Spelling.{Put}
use Rattle.spelling.proofs.Putting.{then, put_none}
use Rattle.listing.specs.Lines.{table_line, element_line, element_lines, refused_line, Listed, listed, refused}
use Rattle.format.specs.declared.pins.Chip.{Chip}
use Rattle.format.specs.declared.settings.Settings.{Settings}
use Rattle.format.specs.declared.settings.Rules.TheVariants.{Ordinary}
use Rattle.format.proofs.Kept.{own_kept, own_unbroken}
use Rattle.shown.specs.Own.{own_pins, no_pins}
use Rattle.listing.proofs.Bare.{bare}

-- the line of an element behind those of the elements before it
abbrev line_at : ℕ → Record → List ℕ
line_at at r = element_line at (element_of r) (written (part r))

lines_snoc :
    (at : ℕ) (rs : List Record) (r : Record)
    → element_lines at (rs ++ r ∷ []) ≡ element_lines at rs ++ line_at (at + length (layouts rs)) r
lines_snoc at [] r = append-nil (line_at at r) ∙ ap (λ (n : ℕ). line_at n r) (sym (add-zero at))
lines_snoc at (x ∷ rs) r =
    let n : at + length (layout x) + length (layouts rs) ≡ at + length (layout x ++ layouts rs) =
    omega (arith, length-append (layout x) (layouts rs)) in
    ap (λ (l : List ℕ). line_at at x ++ l) (lines_snoc (at + length (layout x)) rs r)
    ∙ sym (append_assoc (line_at at x) (element_lines (at + length (layout x)) rs) (line_at (at + length (layout x) + length (layouts rs)) r))
    ∙ ap (λ (m : ℕ). line_at at x ++ element_lines (at + length (layout x)) rs ++ line_at m r) n

-- the lines of the elements behind the place stand in the buffer, which was c, from `from` on; a line is at most 38 bytes
pub record Lined (c : List ℕ) (from end : ℕ) (out : List ℕ) (done left : List Record) : Type 0 where
  pub put : Put c from (element_lines 16 done) end out
  pub bound : end ≤ from + 38 * length done

pub refusal :
    (σ : Settings) (b c : List ℕ) {k p n : ℕ} (after : List ℕ)
    → Verdict σ b (Refused k p)
    → Put c 0 (refused_line k p) n after
    → Listed σ b c n after
refusal σ b c {k} {p} after v put = record { text = refused_line k p; is = refused v; put = put }

pub begun : (σ : Settings) (b c : List ℕ) (from : ℕ) {n : ℕ} → Verdict σ b (Accepted n) → Walk σ b 16 (Lined c from from c)
begun σ b c from v = begin σ b (Lined c from from c) v (λ rs e. record { put = put_none c from; bound = omega arith })

module _ (σ : Settings) (b c : List ℕ) (from at end : ℕ) (out : List ℕ) (w : Walk σ b at (Lined c from end out)) where
  -- there is room for a line
  pub room : at < length b → from ≤ 67 → end + 38 ≤ 4096
  room h short =
      let g = next σ b at (Lined c from end out) w h in
      omega (
        arith,
        w.state.bound,
        at_most_96 σ [] (w.done ++ w.left) (omega arith) w.accepts.keeps.passed,
        length-append w.done w.left,
        ap length g.same,
      )

  -- what is not in use has no pin of its own
  pub unpinned :
      (e : Element)
      → at < length b
      → ((x : Record) → Here σ.chip b at x → e ≡ element_of x)
      → in_use Ordinary e ≡ false
      → own_pins e ≡ no_pins
  unpinned e h es u =
      let g = next σ b at (Lined c from end out) w h in
      let q = es g.r g.here in
      rw q (bare g.r (own_kept σ g.r (own_unbroken σ w.done g.r g.keeps)).codes_9 (rw q at u))

  pub turned :
      {n end' : ℕ} (e : Element) (p after : List ℕ)
      → at < length b
      → n ≡ stated (drop at b)
      → ((x : Record) → Here σ.chip b at x → e ≡ element_of x)
      → ((k : Chip) (x : Record) → Here k b at x → p ≡ written (part x))
      → Put out end (element_line at e p) end' after × (end' ≤ end + 38)
      → Walk σ b (at + n) (Lined c from end' after)
  turned {end' = end'} e p after h l es ps put =
      onward σ b at (Lined c from end out) w (Lined c from end' after) h l (λ g.
      let line : element_line at e p ≡ line_at (16 + length (layouts w.done)) g.r =
      ap (λ (x : Element). element_line at x p) (es g.r g.here)
      ∙ ap (λ (l : List ℕ). element_line at (element_of g.r) l) (ps σ.chip g.r g.here)
      ∙ ap (λ (m : ℕ). line_at m g.r) w.place in
      let text : element_lines 16 w.done ++ element_line at e p ≡ element_lines 16 (w.done ++ g.r ∷ []) =
      ap (λ (l : List ℕ). element_lines 16 w.done ++ l) line ∙ sym (lines_snoc 16 w.done g.r) in
      record {
        put = subst (λ (l : List ℕ). Put c from l end' after) text (then w.state.put put.0);
        bound = omega (arith, w.state.bound, put.1, length-append w.done (g.r ∷ []));
      })

  pub whole :
      (c₀ : List ℕ) (d : Description)
      → length b ≤ at
      → d ≡ read_description σ.chip (byte b)
      → Put c₀ 0 (table_line (length b) d) from c
      → Listed σ b c₀ end out
  whole c₀ d h e put =
      let z = ended σ b at (Lined c from end out) w h in
      let same = e ∙ sym (reads σ b z.d z.rs z.accepts).1 in
      record {
        text = table_line (length b) z.d ++ element_lines 16 z.rs;
        is = listed z.d z.rs z.accepts;
        put = then (subst (λ (x : Description). Put c₀ 0 (table_line (length b) x) from c) same put) z.state.put;
      }
