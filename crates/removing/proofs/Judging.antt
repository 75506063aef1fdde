-- From the place of element k to what becomes of it: 17, 22, or so many bytes that can go.
-- Assumes nothing.
use Prim.Native.Nat.{ℕ, ◌-◌, ◌≤◌}
use native.Mathlib.Omega.{arith}
use mathlib.Core.Path.{◌≡◌, sym, ◌∙◌}
use mathlib.Core.Bool.{Bool, true, false}
use mathlib.Core.List.{List, []}
use lib.ListN.{length, drop}
use Rattle.format.specs.Layout.{layout}
use Rattle.format.specs.ZonesAndStrings.{role}
use Rattle.format.specs.Verdict.{stated, Verdict, accepted}
use Rattle.format.specs.Writing.{writing}
use Rattle.format.specs.declared.pins.Chip.{Chip}
use Rattle.format.specs.declared.settings.Settings.{Settings}
use Rattle.format.specs.Answers.{Gives as Accepted}
use Rattle.format.specs.Answers.{Gives as Length, Refused}
use Rattle.format.proofs.Strings.{own_nth}
use Rattle.format.proofs.Theorem.{accepts_passed}
use Rattle.walking.specs.Walk.{Located}
use Rattle.reader.proofs.Asking.{nth_past}
use Rattle.places.specs.Walks.{RoleBytes}
use Rattle.places.proofs.Roles.{role_bytes}
use Rattle.removal.specs.Taking.{named_as, closed}
use Rattle.removing.specs.Removed.{Removed, judged, past, stays_named, out}
use Rattle.removing.specs.Judging.{Standing, TellsNamed, Closable}

pub past_last :
    (chip : Chip) (b : List ℕ) (k : ℕ) {n : ℕ} → Verdict (writing chip) b (Accepted n) → n ≤ k → Removed chip b k (Refused 17 0) b
past_last chip b k (accepted d rs a) h = judged d rs a (past (nth_past rs k h))

module _ (σ : Settings) (b : List ℕ) (k at : ℕ) (l : Located σ b k at) where
  pub role_there : RoleBytes b at (role l.r)
  role_there =
      let own = own_nth σ [] l.rs k l.accepts.keeps.passed l.is_nth in
      role_bytes b at l.r l.here.stands.rest l.here.stands.starts own.shape_8

  pub standing : Standing b at
  standing = (σ, l.d, l.rs, role l.r, l.accepts, role_there)

module _ (chip : Chip) (b : List ℕ) (k at : ℕ) (l : Located (writing chip) b k at) (r : Bool) (tells : TellsNamed b at r) where
  told : {t : Bool} → r ≡ t → named_as l.d l.rs (role l.r) ≡ t
  told e = sym (tells (writing chip) l.d l.rs (role l.r) l.accepts (role_there (writing chip) b k at l)) ∙ e

  pub stays : r ≡ true → Removed chip b k (Refused 22 at) b
  stays e = rw l.place (judged l.d l.rs l.accepts (stays_named l.is_nth (told e)))

  pub goes :
      {n : ℕ} → r ≡ false → n ≡ stated (drop at b) → Closable b at n × Removed chip b k (Length (length b - n)) (closed b at n)
  goes {n} e is =
      let m : n ≡ length (layout l.r) = is ∙ l.here.size in (
        record {
          behind = omega (arith, l.place);
          within = omega (arith, is, l.here.within);
          top = (accepts_passed (writing chip) b l.d l.rs l.accepts).limit;
        },
        rw (m, l.place) (judged l.d l.rs l.accepts (out l.is_nth (told e))),
      )
