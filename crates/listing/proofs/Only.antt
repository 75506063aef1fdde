-- No second outcome keeps the words of `list`: there is only one list of records and only one verdict, so only one text.
-- Assumes nothing.
use Prim.Native.Nat.{ℕ}
use mathlib.Core.Path.{◌≡◌, subst}
use mathlib.Core.List.{List}
use Rattle.format.specs.Slots.{Bytes}
use Rattle.format.specs.Answers.{Refused}
use Rattle.format.proofs.Asking.{never_both}
use Rattle.format.proofs.Demand3.{unique, only_one_list}
use Rattle.spelling.specs.Spelling.{Put}
use Rattle.spelling.proofs.Putting.{put_one_way}
use Rattle.listing.specs.Lines.{Listing, listed, refused, Listed}
use Rattle.format.specs.declared.settings.Settings.{Settings}

pub only_text : (σ : Settings) (b s t : List ℕ) → Bytes b → Listing σ b s → Listing σ b t → s ≡ t
only_text σ b s t small (listed d rs a) (listed d' rs' a') =
    let same = only_one_list σ b d d' rs rs' small a a' in
    cc
only_text σ b s t small (listed d rs a) (refused v) = absurd (never_both σ b d rs small a v)
only_text σ b s t small (refused v) (listed d rs a) = absurd (never_both σ b d rs small a v)
only_text σ b s t small (refused {k = k} {p = p} v) (refused {k = k'} {p = p'} v') =
    let q = unique σ b (Refused k p) (Refused k' p') small v v' in
    cc

pub only_list :
    (σ : Settings) (b c : List ℕ) (n n' : ℕ) (after after' : List ℕ)
    → Bytes b
    → Listed σ b c n after
    → Listed σ b c n' after'
    → (n ≡ n') × (after ≡ after')
only_list σ b c n n' after after' small l m =
    let same = only_text σ b l.text m.text small l.is m.is in
    put_one_way c m.text n n' after after' (subst (λ (s : List ℕ). Put c 0 s n after) same l.put) m.put
