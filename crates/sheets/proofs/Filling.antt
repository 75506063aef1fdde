-- The walk that fills the sheet: at each place the numbers are the sheet of the elements behind it.
-- Assumes nothing.
use Prim.Native.Nat.{ℕ, ◌+◌, ◌≤◌, ◌<◌}
use mathlib.Core.Path.{◌≡◌, sym, ◌∙◌, ap}
use mathlib.Core.Bool.{true}
use mathlib.Core.List.{List, []}
use lib.ListN.{length, drop}
use Rattle.format.specs.Slots.{byte}
use Rattle.format.specs.Records.{Record}
use Rattle.format.specs.Pins.{every}
use Rattle.format.specs.Rules.{pinned}
use Rattle.format.specs.Claims.{made_at, claims_of}
use Rattle.format.specs.Decode.{read_description}
use Rattle.format.specs.Verdict.{stated, Verdict}
use Rattle.format.specs.declared.settings.Settings.{Settings}
use Rattle.format.specs.declared.records.Description.{Description}
use Rattle.format.specs.Answers.{Gives as Accepted}
use Rattle.format.proofs.Kept.{own_kept, own_unbroken}
use Rattle.walking.specs.Walk.{Here, Walk}
use Rattle.walking.proofs.Left.{Next, begin, onward, ended, reads}
use Rattle.pinsheet.specs.Sheet.{Claimant, entered, sheet}
use Rattle.pinsheet.proofs.Sheet.{sheet_snoc}
use Rattle.sheets.specs.Lines.{read, Lines, Filled}
use Rattle.sheets.proofs.Naming.{lines_by}

abbrev Behind : Description → List ℕ → List Record → List Record → Type 0
Behind d ns done left = Lines (sheet d done) ns

-- the description that is read
abbrev read_of : Settings → List ℕ → Description
read_of σ t = read_description σ.chip (byte t)

-- THE INVARIANT
abbrev pub Filling : Settings → List ℕ → ℕ → List ℕ → Type 0
Filling σ t at ns = Walk σ t at (Behind (read_of σ t) ns)

pub begun : (σ : Settings) (t ns : List ℕ) {n : ℕ} → Verdict σ t (Accepted n) → Lines (sheet (read_of σ t) []) ns → Filling σ t 16 ns
begun σ t ns v l = begin σ t (Behind (read_of σ t) ns) v (λ rs e. l)

-- the element at a place keeps 10
pub keeps_10 : (σ : Settings) (t : List ℕ) (at : ℕ) (done left : List Record) (g : Next σ t at done left) → pinned σ.chip g.r ≡ true
keeps_10 σ t at done left g = (own_kept σ g.r (own_unbroken σ done g.r g.keeps)).pins_10

module _ (σ : Settings) (t : List ℕ) (at : ℕ) (ns : List ℕ) (w : Filling σ t at ns) where
  pub turned :
      {n : ℕ} (new : List ℕ)
      → at < length t
      → n ≡ stated (drop at t)
      → ((x : Record) → Here σ.chip t at x → pinned σ.chip x ≡ true → Lines (entered every (made_at at (claims_of x)) (read ns)) new)
      → Filling σ t (at + n) new
  turned new h e enters =
      onward σ t at (Behind (read_of σ t) ns) w (Behind (read_of σ t) new) h e (λ g.
      let r = g.r in
      lines_by
      (ap (λ (o : List Claimant). entered every (made_at at (claims_of r)) o) w.state.lines
      ∙ ap (λ (m : ℕ). entered every (made_at m (claims_of r)) (sheet (read_of σ t) w.done)) w.place
      ∙ sheet_snoc (read_of σ t) w.done r)
      (enters r g.here (keeps_10 σ t at w.done w.left g)))

  pub whole : length t ≤ at → Filled σ t sheet ns
  whole h =
      let z = ended σ t at (Behind (read_of σ t) ns) w h in
      record {
        d = z.d;
        rs = z.rs;
        accepts = z.accepts;
        left = lines_by (ap (λ (d : Description). sheet d z.rs) (sym (reads σ t z.d z.rs z.accepts).1)) z.state;
      }
