-- The reader as a function of the bytes: the verdict can be computed by it. No statement of `Verdict` names it.
-- Assumes nothing.
use Rattle.std.specs.Prelude.{ℕ, zero, suc, ◌+◌, Bool, true, false, ◌&&◌, List, [], ◌∷◌, ◌++◌, length, drop, eqb, ltb, leb}
use Rattle.std.proofs.Math.Option.{Option, none, some}
use Rattle.format.specs.Slots.{byte}
use Rattle.format.specs.Records.{Record}
use Rattle.format.specs.ZonesAndStrings.{zoneless, nameless}
use Rattle.format.specs.Claims.{contested}
use Rattle.format.specs.Table.{element_breaks, description_breaks}
use Rattle.format.specs.Verdict.{stated, framed, known}
use Rattle.format.specs.Decode.{content, decode, read_description}
use Rattle.format.specs.declared.settings.Settings.{Settings}
use Rattle.format.specs.declared.records.Description.{Description}
use Rattle.format.specs.Answers.{Answer}
use Rattle.format.specs.Answers.{Gives as Accepted, Refused}

-- what one step of the pass comes to: an element, or the number of a rule
pub data Outcome : Type 0 where
  took : Record → Outcome
  stop : ℕ → Outcome

abbrev pub or_stop : Bool → ℕ → Outcome → Outcome
or_stop true k o = o
or_stop false k o = stop k

abbrev pub unless_broken : Record → Option ℕ → Outcome
unless_broken r none = took r
unless_broken r (some k) = stop k

abbrev pub judge : Settings → List Record → Option Record → Outcome
judge s before none = stop 8
judge s before (some r) = unless_broken r (element_breaks s before r)

unfoldable pub step : Settings → List Record → List ℕ → Outcome
step s before bs =
    or_stop (framed bs) 6
    (or_stop (ltb (length before) 96) 11 (or_stop (known (byte bs 0)) 7 (judge s before (decode s.chip (byte bs 0) (content bs)))))

-- what the pass comes to: a refusal with its place, or all elements
pub data Result : Type 0 where
  halted : ℕ → ℕ → Result
  through : List Record → Result

abbrev pub next : Outcome → (Record → Result) → ℕ → Result
next (took r) go at = go r
next (stop k) go at = halted k at

-- the pass over the bytes, which start at a place and are no more than the first number
unfoldable pub pass : Settings → ℕ → List Record → ℕ → List ℕ → Result
pass s zero before at bs = through before
pass s (suc n) before at [] = through before
pass s (suc n) before at (b ∷ bs) =
    next (step s before (b ∷ bs))
    (λ r. pass s n (before ++ r ∷ []) (at + stated (b ∷ bs)) (drop (stated (b ∷ bs)) (b ∷ bs)))
    at

-- the pass over a whole table's elements
abbrev pub elements_of : Settings → List ℕ → Result
elements_of s b = pass s (length (drop 16 b)) [] 16 (drop 16 b)

abbrev pub or_refuse : ℕ → Option ℕ → Answer → Answer
or_refuse k (some p) a = Refused k p
or_refuse k none a = a

abbrev pub over_all : Description → List Record → Answer
over_all d rs = or_refuse 13 (zoneless rs) (or_refuse 14 (nameless d rs) (or_refuse 15 (contested d rs) (Accepted (length rs))))

abbrev pub conclude : Description → Result → Answer
conclude d (halted k p) = Refused k p
conclude d (through rs) = over_all d rs

abbrev pub unless_misdescribed : Option ℕ → Answer → Answer
unless_misdescribed none a = a
unless_misdescribed (some k) a = Refused k 0

abbrev pub after_description : Settings → Description → List ℕ → Answer
after_description s d bs = unless_misdescribed (description_breaks s.chip d) (conclude d (pass s (length bs) [] 16 bs))

abbrev pub or_refuse_at0 : Bool → ℕ → Answer → Answer
or_refuse_at0 true k a = a
or_refuse_at0 false k a = Refused k 0

unfoldable pub verdict_of : Settings → List ℕ → Answer
verdict_of s b =
    or_refuse_at0 (leb 16 (length b)) 1
    (or_refuse_at0 (eqb (byte b 0) 1) 2
    (or_refuse_at0 (eqb (stated b) (length b) && leb (stated b) 4096) 3
    (after_description s (read_description s.chip (byte b)) (drop 16 b))))
