-- `sum_of` meets its contract: std's sum of the bytes, of which each is at most 255.
-- Assumes nothing.
use Rattle.std.proofs.Common.{◌≡◌, ◌≤◌, ◌∙◌, sym, refl, arith, rules}
use Rattle.std.specs.List.{All, sum_by}
use Rattle.std.proofs.lemmas.List.Elements.{All-from_get_or}
use Rattle.std.proofs.lemmas.List.Recursion.{is_sum_by}
use Rattle.std.proofs.lemmas.List.Sums.{sum_by-le}
use Rattle.hextext.specs.Text.{sum}
use Rattle.hextext.proofs.sum_of.Goals as goal

pub returns : goal.returns
returns c =
    let d = c.args.bytes.now in
    let total : c.sum.result ≡ sum_by (λ x. x) d = search rules in
    let small : All (λ x. x ≤ 255) d = All-from_get_or (λ x. x ≤ 255) d 0 (λ k h. omega (arith, c.type_inv.bytes k)) in (
      total ∙ sym (is_sum_by sum (λ x. x) refl (λ _ _. refl) d),
      omega (arith, total, sum_by-le (λ x. x) 255 d small, c.requires),
    )
