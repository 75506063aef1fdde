-- The code's step for one element is the reader's: the steps of a zone descriptor, a string and an element in a zone, and the
-- identifier that tells them apart.
-- Assumes nothing.
use Prim.Native.Nat.{ℕ, ◌+◌, ◌<◌, ◌≤◌}
use native.Mathlib.Omega.{arith}
use mathlib.Core.Path.{◌≡◌, refl, sym, ◌∙◌, ap, subst}
use mathlib.Core.Bool.{Bool, true, false, not, false≢true}
use mathlib.Core.List.{List, [], ◌∷◌, ◌++◌, append-nil}
use mathlib.Core.Option.{Option, none, some}
use lib.ListN.{length, get_or, set, drop}
use lib.Dec.{eqb, ltb, leb}
use borrow.Author.Tests.{eqb-true, ltb-true, leb-true, ne_eqb}
use Rattle.format.specs.Slots.{byte, Bytes}
use Rattle.format.specs.Records.{Record, zone, string, controller, tachometer, external}
use Rattle.format.specs.Rules.{numbered, first_broken, own_rules}
use Rattle.format.specs.Pins.{among}
use Rattle.format.specs.ZonesAndStrings.{placed, role, gathered, zones, strings, zone_named, string_named, rules_against}
use Rattle.format.specs.FanList.{fan_pins, last_pin, comes_after}
use Rattle.format.specs.Claims.{Claim, Made, made_at, claims_of, claims}
use Rattle.format.specs.Table.{element_breaks}
use Rattle.format.specs.Verdict.{known}
use Rattle.format.specs.Decode.{read_placement, read_device, read_external, guard, bind, pick, decode, cut_blocks, cut_two, cut_three}
use Rattle.format.specs.Reader.{unless_broken}
use Rattle.format.specs.declared.settings.Settings.{Settings}
use Rattle.format.specs.declared.settings.Rules.TheVariants.{Ordinary}
use Rattle.format.specs.declared.pins.Chip.{Chip}
use Rattle.format.specs.declared.pins.Chip.TheVariants.{C8051F320}
use Rattle.format.specs.declared.records.Description.{Description}
use Rattle.format.proofs.Kept.{zero_none, own_numbered, OwnKept, own_kept}
use Rattle.flags.proofs.Marked.{marks_put, marks_same}
use Rattle.claims.specs.Taken.{ClaimsAre, HeldIs}
use Rattle.claims.specs.declared.Held.{Held}
use Rattle.rules.specs.Broken.{or_else}
use Rattle.found.specs.Judged.{FansAre, own_fault, Judged}
use Rattle.found.specs.Judged.{Finding}
use Rattle.pass.specs.Tracks.{Flags, flags, Low, Tracks, Leaves, StepIs, PlacedStep, Went, TakeIs}
use Rattle.pass.specs.declared.State.{State}
use Rattle.pass.specs.Steps.{Step}
use Rattle.pass.proofs.Stepped.{track, own_fault_lem, later_fault, no_fault}
use Rattle.pass.proofs.Against.{zone_against_lem, text_against, placed_against}

unfaulted : (σ : Settings) (x : Record) {j : ℕ} → j ≡ numbered (first_broken (own_rules σ x)) → j ≡ 0 → OwnKept σ x
unfaulted σ x e o = own_kept σ x (zero_none (own_rules σ x) (own_numbered σ x) (sym e ∙ o))

no_claims_lem : {ms : List Made} (h k : Held) → k ≡ h → HeldIs h ms → HeldIs k (ms ++ [])
no_claims_lem {ms} h k e i = rw (e, append-nil ms) i

-- an element whose own rules are kept, whatever the settings, has the bytes that they ask for
abbrev any : Settings
any = record { chip = C8051F320; rules = Ordinary }

pub zone_long : (c : List ℕ) {j : ℕ} → ((σ : Settings) → j ≡ numbered (first_broken (own_rules σ (zone c)))) → j ≡ 0 → 3 + length c ≡ 30
zone_long c e o = eqb-true (3 + length c) 30 (unfaulted any (zone c) (e any) o).shape_8

pub text_long : (c : List ℕ) {j : ℕ} → ((σ : Settings) → j ≡ numbered (first_broken (own_rules σ (string c)))) → j ≡ 0 → 6 ≤ 3 + length c
text_long c e o = leb-true 6 (3 + length c) (unfaulted any (string c) (e any) o).shape_8

-- 0Bh
module _ (σ : Settings) (c : List ℕ) (small : Bytes c) (at : ℕ) (s : State) (zs ss zu su : List Bool) (r : Step) where
  zone_later :
      {z k : ℕ}
      → z ≡ byte c 0
      → k ≡ or_else (ltb s.zones 12) 11 (or_else (not (get_or zs z false)) 12 0)
      → (d : Description) (before : List Record)
      → Tracks d s (flags zs ss zu su) before
      → k ≡ numbered (first_broken (rules_against before (zone c)))
  zone_later w l d before t = rw w at l ∙ zone_against_lem d s (flags zs ss zu su) before t c (small 0)

  module _ {j : ℕ} (e : j ≡ numbered (first_broken (own_rules σ (zone c)))) (o : j ≡ 0) {z k : ℕ} (w : z ≡ byte c 0)
      (l : k ≡ or_else (ltb s.zones 12) 11 (or_else (not (get_or zs z false)) 12 0)) where
    pub zone_fault :
        (k ≡ 0 → ⊥) → r.stop ≡ k → r.state ≡ s → StepIs σ (zone c) at s (flags zs ss zu su) r (flags zs ss zu su)
    zone_fault n p q = later_fault σ (zone c) at s (flags zs ss zu su) r (flags zs ss zu su) e o (zone_later w l) n p q refl

    room : (t : Bool) (m : ℕ) → k ≡ or_else t 11 m → k ≡ 0 → t ≡ true
    room true m q n = refl
    room false m q n = absurd (omega (arith, q, n))

    pub zone_good :
        {t : ℕ} {zs' su' : List Bool}
        → k ≡ 0
        → t ≡ byte c 1
        → r.stop ≡ 0
        → r.state.count ≡ s.count + 1
        → r.state.zones ≡ s.zones + 1
        → r.state.held ≡ s.held
        → r.state.last ≡ s.last
        → zs' ≡ set zs z true
        → su' ≡ set su t true
        → StepIs σ (zone c) at s (flags zs ss zu su) r (flags zs' ss zu su')
    zone_good {t} {zs'} {su'} n v p a b h g q u =
        no_fault σ (zone c) at s (flags zs ss zu su) r (flags zs' ss zu su') e o (zone_later w l) n p
        (λ d before place tr.
        track d before s (flags zs ss zu su) r.state (flags zs' ss zu su') (zone c) tr a b
        (omega (arith, b, ltb-true s.zones 12 (room (ltb s.zones 12) _ l n)))
        (rw (q, w) (marks_put zs (zones before) (byte c 0) (small 0) tr.zone))
        (marks_same ss (strings before) tr.string)
        (marks_same zu (gathered zone_named before) tr.zone_use)
        (rw (u, v) (marks_put su (d.string ∷ gathered string_named before) (byte c 1) (small 1) tr.string_use))
        (no_claims_lem s.held r.state.held h tr.held)
        g)

-- .. and where 11 is not said there is room for a zone more
pub zone_room : (z m : ℕ) {k : ℕ} → k ≡ or_else (ltb z 12) 11 m → k ≡ 0 → z < 12
zone_room z m {k} l n = go (ltb z 12) refl l
  where
    go : (t : Bool) → ltb z 12 ≡ t → k ≡ or_else t 11 m → z < 12
    go true e q = ltb-true z 12 e
    go false e q = absurd (omega (arith, q, n))

-- 0Ch
module _ (σ : Settings) (c : List ℕ) (small : Bytes c) (at : ℕ) (s : State) (zs ss zu su : List Bool) (r : Step) where
  module _ {j : ℕ} (e : j ≡ numbered (first_broken (own_rules σ (string c)))) (o : j ≡ 0) {t : ℕ} (w : t ≡ byte c 0) where
    text_later :
        {k : ℕ} (seen : Bool)
        → get_or ss t false ≡ seen
        → k ≡ or_else (not seen) 12 0
        → (d : Description) (before : List Record)
        → Tracks d s (flags zs ss zu su) before
        → k ≡ numbered (first_broken (rules_against before (string c)))
    text_later seen q l d before tr =
        l ∙ rw (← q, w) (text_against d s (flags zs ss zu su) before tr c (small 0))

    pub text_fault :
        get_or ss t false ≡ true → r.stop ≡ 12 → r.state ≡ s → StepIs σ (string c) at s (flags zs ss zu su) r (flags zs ss zu su)
    text_fault q p st =
        later_fault σ (string c) at s (flags zs ss zu su) r (flags zs ss zu su) e o (text_later true q refl)
        (λ n. omega (arith, n)) p st refl

    pub text_good :
        {ss' : List Bool}
        → get_or ss t false ≡ false
        → r.stop ≡ 0
        → r.state.count ≡ s.count + 1
        → r.state.zones ≡ s.zones
        → r.state.held ≡ s.held
        → r.state.last ≡ s.last
        → ss' ≡ set ss t true
        → StepIs σ (string c) at s (flags zs ss zu su) r (flags zs ss' zu su)
    text_good {ss'} f p a b h g q =
        no_fault σ (string c) at s (flags zs ss zu su) r (flags zs ss' zu su) e o (text_later false f refl) refl p
        (λ d before place tr.
        track d before s (flags zs ss zu su) r.state (flags zs ss' zu su) (string c) tr a
        (omega (arith, b))
        (omega (arith, b, tr.few))
        (marks_same zs (zones before) tr.zone)
        (rw (q, w) (marks_put ss (strings before) (byte c 0) (small 0) tr.string))
        (marks_same zu (gathered zone_named before) tr.zone_use)
        (marks_same su (d.string ∷ gathered string_named before) tr.string_use)
        (no_claims_lem s.held r.state.held h tr.held)
        g)

-- an element in a zone
module _ (f : Finding) (c : List ℕ) (small : Bytes c) (at : ℕ) (s : State) (zu su : List Bool) (r : Step) (down : Low r.state) where
  pub placed_fault : (f.fault ≡ 0 → ⊥) → r.stop ≡ f.fault → r.state ≡ s → PlacedStep f c at s zu su r zu su
  placed_fault n p q =
      record {
        low = down;
        faulty = λ _. (p, q, refl, refl);
        steps = λ σ x v e k w zs ss. own_fault_lem σ x at s (flags zs ss zu su) r (flags zs ss zu su) e n p q refl;
      }

  -- 10 of the fan list, or not
  module _
      {t : Bool} (o : f.fault ≡ 0) (h : (ps : List ℕ) → FansAre f.fans ps → t ≡ comes_after s.last ps)
    where
      fans_against :
          (d : Description) (before : List Record) (g : Flags) (x : Record)
          → Tracks d s g before
          → role x ≡ placed (read_placement (byte c))
          → (f.fault ≡ 0 → FansAre f.fans (fan_pins x))
          → or_else t 10 0 ≡ numbered (first_broken (rules_against before x))
      fans_against d before g x tr y w =
          placed_against d s g before tr x t y (sym (h (fan_pins x) (w o) ∙ ap (λ (n : ℕ). comes_after n (fan_pins x)) tr.fans))

      pub placed_late : t ≡ false → r.stop ≡ 10 → r.state ≡ s → PlacedStep f c at s zu su r zu su
      placed_late e p q =
          record {
            low = down;
            faulty = λ n. absurd (n o);
            steps =
                λ σ x y i k w zs ss.
                later_fault σ x at s (flags zs ss zu su) r (flags zs ss zu su) i o
                (λ d before tr. ap (λ (b : Bool). or_else b 10 0) (sym e) ∙ fans_against d before (flags zs ss zu su) x tr y w)
                (λ n. omega (arith, n))
                p
                q
                refl;
          }

  pub placed_good :
      {z t : ℕ} {zu' su' : List Bool} {h : Held} {b : Bool}
      → f.fault ≡ 0
      → ((ps : List ℕ) → FansAre f.fans ps → b ≡ comes_after s.last ps)
      → b ≡ true
      → at < 65536
      → z ≡ byte c 4
      → t ≡ byte c 0
      → r.stop ≡ 0
      → r.state.count ≡ s.count + 1
      → r.state.zones ≡ s.zones
      → r.state.held ≡ h
      → ((before : List Made) (cs : List Claim) → at < 65536 → HeldIs s.held before → ClaimsAre f.claims cs
      → HeldIs h (before ++ made_at at cs))
      → ((ps : List ℕ) → FansAre f.fans ps → r.state.last ≡ last_pin s.last ps)
      → zu' ≡ set zu z true
      → su' ≡ set su t true
      → PlacedStep f c at s zu su r zu' su'
  placed_good {z} {t} {zu'} {su'} {h} o i j low w v p a b m g l q u =
      record {
        low = down;
        faulty = λ n. absurd (n o);
        steps =
            λ σ x y e k n zs ss.
            no_fault σ x at s (flags zs ss zu su) r (flags zs ss zu' su') e o
            (λ d before tr. ap (λ (b : Bool). or_else b 10 0) (sym j) ∙ fans_against o i d before (flags zs ss zu su) x tr y n)
            refl
            p
            (λ d before place tr.
            track d before s (flags zs ss zu su) r.state (flags zs ss zu' su') x tr a
            (rw y (omega (arith, b)))
            (omega (arith, b, tr.few))
            (rw y (marks_same zs (zones before) tr.zone))
            (rw y (marks_same ss (strings before) tr.string))
            (rw (y, q, w) (marks_put zu (gathered zone_named before) (byte c 4) (small 4) tr.zone_use))
            (rw (y, u, v) (marks_put su (d.string ∷ gathered string_named before) (byte c 0) (small 0) tr.string_use))
            (subst (λ (n : ℕ). HeldIs r.state.held (claims d before ++ made_at n (claims_of x))) place
            (rw m (g (claims d before) (claims_of x) low tr.held (k o))))
            (l (fan_pins x) (n o)));
      }

-- by the identifier: a record that is decoded
went_of :
    (d : Description) (before : List Record) (x : Record) (s : State) (f : Flags) (r : Step) (g : Flags) (o : Option ℕ)
    → Leaves d before x s f r g o
    → Went d before s f r g (unless_broken x o)
went_of d before x s f r g none l = l
went_of d before x s f r g (some k) l = l

module _ (σ : Settings) (id : ℕ) (c : List ℕ) (at : ℕ) (s : State) (f : Flags) (r : Step) (g : Flags) (low : Low r.state) where
  take_record : (x : Record) → known id ≡ true → decode σ.chip id c ≡ some x → StepIs σ x at s f r g → TakeIs σ id c at s f r g
  take_record x n e l =
      record {
        low = low;
        takes = λ d before place t. rw (n, e)
            (went_of d before x s f r g (element_breaks σ before x) (l.leaves d before place t));
      }

  pub take_zone : id ≡ 11 → StepIs σ (zone c) at s f r g → TakeIs σ id c at s f r g
  unfolding decode
  take_zone e l = take_record (zone c) (rw e refl) (rw e refl) l

  pub take_text : id ≡ 12 → StepIs σ (string c) at s f r g → TakeIs σ id c at s f r g
  unfolding decode
  take_text e l = take_record (string c) (rw e refl) (rw e refl) l

  -- 7
  pub take_unknown : known id ≡ false → r.stop ≡ 7 → r.state ≡ s → g ≡ f → TakeIs σ id c at s f r g
  take_unknown e p q w = record { low = low; takes = λ d before place t. rw e (p, omega arith, q, w) }

-- the others: each is placed in a zone
abbrev pub Placed : List ℕ → Option Record → Type 0
Placed c none = Unit {0}
Placed c (some x) = role x ≡ placed (read_placement (byte c))

pick_cases :
    (P : Option Record → Type 0) (n k : ℕ) (a b : Option Record) → (n ≡ k → P a) → P b → P (pick (eqb n k) a b)
pick_cases P n k a b f g = go (eqb n k) refl
  where
    go : (t : Bool) → eqb n k ≡ t → P (pick t a b)
    go true e = f (eqb-true n k e)
    go false e = g

guarded : (c : List ℕ) (t : Bool) (o : Option Record) → Placed c o → Placed c (guard t o)
guarded c true o v = v
guarded c false o v = tt

bound : {A : Type 0} (c : List ℕ) (o : Option A) (f : A → Record) → ((a : A) → Placed c (some (f a))) → Placed c (bind o (λ a. some (f a)))
bound c none f v = tt
bound c (some a) f v = v a

pub decode_placed : (chip : Chip) (id : ℕ) (c : List ℕ) → (id ≡ 11 → ⊥) → (id ≡ 12 → ⊥) → Placed c (decode chip id c)
unfolding decode
decode_placed chip id c z s =
    let P = Placed c in
    pick_cases P id 1 _ _ (λ _. guarded c (eqb (length c) 18) _ refl)
    (pick_cases P id 2 _ _ (λ _. guarded c (eqb (length c) 17) _ refl)
    (pick_cases P id 3 _ _ (λ _. guarded c (eqb (length c) 13) _ refl)
    (pick_cases P id 4 _ _ (λ _. guarded c (eqb (length c) 11) _ refl)
    (pick_cases P id 5 _ _ (λ _. guarded c (eqb (length c) 12) _ refl)
    (pick_cases P id 6 _ _ (λ _. guarded c (eqb (length c) 13) _ refl)
    (pick_cases P id 7 _ _ (λ _. guarded c (eqb (length c) 8) _ refl)
    (pick_cases P id 8 _ _ (λ _. guarded c (eqb (length c) 11) _ refl)
    (pick_cases P id 9 _ _ (λ _. guarded c (leb 8 (length c)) _
    (bound c (cut_blocks (length c) (drop 8 c)) (λ l. controller (read_device chip (byte c)) l) (λ l. refl)))
    (pick_cases P id 10 _ _ (λ _. guarded c (leb 9 (length c)) _
    (bound c (cut_two (drop 9 c)) (λ t. tachometer (read_device chip (byte c)) t.0 t.1) (λ t. refl)))
    (pick_cases P id 11 _ _ (λ e. absurd (z e))
    (pick_cases P id 12 _ _ (λ e. absurd (s e))
    (pick_cases P id 13 _ _ (λ _. guarded c (leb 9 (length c)) _
    (bound c (cut_three (drop 9 c)) (λ t. external (read_external chip (byte c)) t.0 t.1 t.2) (λ t. refl)))
    (pick_cases P id 14 _ _ (λ _. guarded c (eqb (length c) 8) _ refl) tt)))))))))))))

-- the identifiers of the kinds that stand in a zone
abbrev placed_id : ℕ → Bool
placed_id id = among id (1 ∷ 2 ∷ 3 ∷ 4 ∷ 5 ∷ 6 ∷ 7 ∷ 8 ∷ 9 ∷ 10 ∷ 13 ∷ 14 ∷ [])

known_placed : (k : ℕ) → (k ≡ 11 → ⊥) → (k ≡ 12 → ⊥) → placed_id k ≡ true → known k ≡ true
known_placed k z s p = simp (ne_eqb k 11 z, ne_eqb k 12 s) p

module _ (σ : Settings) (id k : ℕ) (c : List ℕ) (at : ℕ) (s : State) (zs ss zu su : List Bool) (f : Finding) (r : Step)
    (zu' su' : List Bool) where
  pub take_placed :
      id ≡ k
      → placed_id k ≡ true
      → Judged σ k c f
      → PlacedStep f c at s zu su r zu' su'
      → TakeIs σ id c at s (flags zs ss zu su) r (flags zs ss zu' su')
  take_placed e i j p = subst (λ (n : ℕ). TakeIs σ n c at s (flags zs ss zu su) r (flags zs ss zu' su')) (sym e)
      (by (decode σ.chip k c) refl)
    where
      zone_not : k ≡ 11 → ⊥
      zone_not q = false≢true (subst (λ (n : ℕ). placed_id n ≡ true) q i)

      text_not : k ≡ 12 → ⊥
      text_not q = false≢true (subst (λ (n : ℕ). placed_id n ≡ true) q i)

      by : (o : Option Record) → decode σ.chip k c ≡ o → TakeIs σ k c at s (flags zs ss zu su) r (flags zs ss zu' su')
      by none d =
          let q : f.fault ≡ 8 = j.right ∙ ap (own_fault σ) d in
          let w = p.faulty (λ n. omega (arith, q, n)) in
          record {
            low = p.low;
            takes =
                λ d' before place t.
                rw (known_placed k zone_not text_not i, d)
                (w.0 ∙ q, omega arith, w.1, cc);
          }
      by (some x) d =
          take_record σ k c at s (flags zs ss zu su) r (flags zs ss zu' su') p.low x (known_placed k zone_not text_not i) d
          (p.steps σ x (subst (Placed c) d (decode_placed σ.chip k c zone_not text_not)) (j.right ∙ ap (own_fault σ) d)
          (λ n. j.claimed n x d) (λ n. j.counted n x d) zs ss)

pub not_known :
    (id : ℕ)
    → (id ≡ 1 → ⊥)
    → (id ≡ 2 → ⊥)
    → (id ≡ 3 → ⊥)
    → (id ≡ 4 → ⊥)
    → (id ≡ 5 → ⊥)
    → (id ≡ 6 → ⊥)
    → (id ≡ 7 → ⊥)
    → (id ≡ 8 → ⊥)
    → (id ≡ 9 → ⊥)
    → (id ≡ 10 → ⊥)
    → (id ≡ 11 → ⊥)
    → (id ≡ 12 → ⊥)
    → (id ≡ 13 → ⊥)
    → (id ≡ 14 → ⊥)
    → known id ≡ false
not_known id a b c d e f g h i j k l m n =
    simp (
      ne_eqb id 1 a,
      ne_eqb id 2 b,
      ne_eqb id 3 c,
      ne_eqb id 4 d,
      ne_eqb id 5 e,
      ne_eqb id 6 f,
      ne_eqb id 7 g,
      ne_eqb id 8 h,
      ne_eqb id 9 i,
      ne_eqb id 10 j,
      ne_eqb id 11 k,
      ne_eqb id 12 l,
      ne_eqb id 13 m,
      ne_eqb id 14 n,
    )
