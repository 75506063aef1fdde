-- Text that grows in a buffer: what stands there and what is still to come make the whole.
-- Assumes nothing.
use Prim.Native.Nat.{ℕ, ◌+◌}
use native.Mathlib.Omega.{arith}
use mathlib.Core.Path.{◌≡◌, refl, sym, ◌∙◌, ap, subst}
use mathlib.Core.List.{List, [], ◌++◌, append-nil, append_assoc}
use lib.ListN.{length, length-append}
use Rattle.spelling.specs.Spelling.{Put}
use Rattle.spelling.proofs.Putting.{then, put_none}

pub record Midst (c : List ℕ) (at : ℕ) (total : List ℕ) (here : ℕ) (out rest : List ℕ) : Type 0 where
  pub done : List ℕ
  pub split : total ≡ done ++ rest
  pub put : Put c at done here out

pub begun : (c : List ℕ) (at : ℕ) (total : List ℕ) → Midst c at total at c total
begun c at total = record { done = []; split = refl; put = put_none c at }

module _ {c : List ℕ} {at : ℕ} {total : List ℕ} {here : ℕ} {out : List ℕ} where
  pub more :
      {t rest : List ℕ} {here' : ℕ} {out' : List ℕ}
      → Midst c at total here out (t ++ rest)
      → Put out here t here' out'
      → Midst c at total here' out' rest
  more {t} {rest} m p =
      record { done = m.done ++ t; split = m.split ∙ sym (append_assoc m.done t rest); put = then m.put p }

  pub ended : Midst c at total here out [] → Put c at total here out
  ended m = subst (λ (l : List ℕ). Put c at l here out) (sym (m.split ∙ append-nil m.done)) m.put

  pub room : {rest : List ℕ} → Midst c at total here out rest → (here + length rest ≡ at + length total) × (length out ≡ length c)
  room {rest} m =
      (omega (arith, ap length m.split, length-append m.done rest, m.put.ends), m.put.long)
