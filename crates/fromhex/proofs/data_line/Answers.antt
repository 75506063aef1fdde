-- `data_line` meets its contract: the bytes are read off, spelled again, and compared.
-- Assumes nothing.
use Rattle.std.proofs.Common.{◌≡◌, ◌∙◌, arith}
use Rattle.hextext.specs.Digits.{pair_at}
use Rattle.fromhex.proofs.Judging.{far, empty, judged, misjudged}
use Rattle.fromhex.proofs.data_line.Goals as goal

pub returns-then-address-gt65535 : goal.returns-then-address-gt65535
returns-then-address-gt65535 c = (far c.if-address-gt65535.true, tt)

pub returns-then-n-eq0 : goal.returns-then-n-eq0
returns-then-n-eq0 c =
    let size : pair_at c.args.text.now 1 ≡ c.from-n.result = cc in
    (empty (size ∙ c.if-n-eq0.true), tt)

pub returns-then-sends : goal.returns-then-sends
returns-then-sends c =
    (judged _ _ _ (omega arith) c.read_bytes.ensures (omega arith) (omega (arith, c.if-n-eq0.false)) (omega arith) c.if-sends.ensures, omega arith)

pub returns-else-sends : goal.returns-else-sends
returns-else-sends c =
    let size : pair_at c.args.text.now 1 ≡ c.from-n.result = cc in
    (misjudged _ _ _ (omega arith) c.read_bytes.ensures size c.if-sends.ensures, tt)
