-- `put_data` meets its contract: colon, head, bytes, checksum and line feed, one behind another.
-- Assumes nothing.
use Prim.Native.Nat.{ℕ, ◌-◌, ◌/◌, ◌%◌}
use native.Mathlib.Omega.{arith}
use mathlib.Core.Path.{◌≡◌, ◌∙◌, ap}
use mathlib.Core.List.{◌∷◌}
use lib.ListN.{length}
use Rattle.spelling.proofs.Putting.{then}
use Rattle.hextext.specs.Text.{checksum, data_line}
use Rattle.hextext.proofs.put_data.Goals as goal

pub returns : goal.returns
unfolding data_line
returns c =
    let args = c.args in
    let a = args.address in
    let d = args.bytes.now in
    let is : c.complement.result ≡ checksum (length d ∷ a / 256 ∷ a % 256 ∷ 0 ∷ d) =
    c.complement.ensures ∙ ap (λ (x : ℕ). (256 - x % 256) % 256) (omega (arith, c.sum_of.ensures.0)) in
    let opened = then (then c.put-a.ensures c.put_bytes-b.ensures.0) c.put_bytes-c.ensures.0 in (
      then (then opened (rw is at c.put_hex-d.ensures.0)) c.put.ensures,
      omega (
        arith,
        c.put-a.ensures.ends,
        c.put_bytes-b.ensures.1,
        c.put_bytes-c.ensures.1,
        c.put_hex-d.ensures.1,
        c.put.ensures.ends,
      ),
    )
