-- The listing by the ordinary rules and by the archive's: it is the same whenever the ordinary answer is not 23.
-- Assumes nothing.
use Prim.Native.Nat.{ℕ}
use mathlib.Core.List.{List}
use Rattle.format.specs.Verdict.{Verdict}
use Rattle.format.specs.Archive.{with_rules}
use Rattle.format.specs.declared.settings.Settings.{Settings}
use Rattle.format.specs.declared.settings.Rules.TheVariants.{Ordinary, Archive}
use Rattle.format.specs.Answers.{Refused}
use Rattle.format.proofs.Archive.{archive_accepts, same_answer}
use Rattle.listing.specs.Lines.{Listing, listed, refused}

pub same_listing :
    (σ : Settings) (b t : List ℕ)
    → ((p : ℕ) → Verdict (with_rules Ordinary σ) b (Refused 23 p) → ⊥)
    → Listing (with_rules Ordinary σ) b t
    → Listing (with_rules Archive σ) b t
same_listing σ b t n (listed d rs a) = listed d rs (archive_accepts σ b d rs a)
same_listing σ b t n (refused {k = k} {p = p} v) =
    refused (same_answer σ b (Refused k p) v (λ q. n p (rw q at v)))
