-- An element under way with the bytes of a piece, by its kind.
-- Assumes nothing.
use Prim.Native.Nat.{ℕ, ◌+◌, ◌≤◌, ◌<◌}
use native.Mathlib.Omega.{arith}
use mathlib.Core.Path.{◌≡◌, refl, sym, ◌∙◌, subst}
use mathlib.Core.List.{List, ◌++◌}
use lib.ListN.{length, length-append, get_or-append}
use lib.Dec.{eqb}
use Rattle.format.specs.Slots.{byte, Bytes}
use Rattle.underway.specs.Under.{KeepIs, TextIs, TextOn, CutIs, CutOn, most_of, lead_of, UnderIs, MoreIs}
use Rattle.underway.specs.declared.Under.{Under}

-- the cut of an element by its identifier
abbrev Cuts : Under → ℕ → List ℕ → Type 0
Cuts u id v = CutIs (lead_of id) (most_of id) u.at u.blocks (eqb u.mark 0) v

module _ (u : Under) (p head : List ℕ) (r : Under) (head' : List ℕ) {id : ℕ} (k : KeepIs u.len p head head')
    (f : id ≡ byte head' 0) where
  -- what holds of any kind, from what holds of this one
  grow :
      r.len ≡ u.len + length p
      → r.at ≤ 10000
      → ((v : List ℕ) → u.len ≡ length v → id ≡ 12 → (6 ≤ length v → TextIs u.mark v) → 6 ≤ length (v ++ p) → TextIs r.mark (v ++ p))
      → ((v : List ℕ) → u.len ≡ length v → (most_of id ≡ 0 → ⊥) → (12 < length v → Cuts u id v) → 12 < length (v ++ p) → Cuts r id (v ++ p))
      → (v : List ℕ)
      → UnderIs u head v
      → Bytes (v ++ p)
      → 0 < length (v ++ p)
      → UnderIs r head' (v ++ p)
  grow l o text cut v w small n =
      record {
        long = omega (arith, l, w.long, length-append v p);
        low = o;
        bytes = small;
        held = k.keeps v w.long w.held;
        text = λ e m. text v w.long (i ∙ e) (λ g. w.text (sym (first (omega (arith, g))) ∙ e) g) m;
        cut =
            λ e m.
            subst (λ (x : ℕ). Cuts r x (v ++ p)) i
            (cut v w.long (subst (λ (x : ℕ). most_of x ≡ 0 → ⊥) (sym i) e)
            (λ g. subst (λ (x : ℕ). Cuts u x v) (sym (i ∙ first (omega (arith, g))))
            (w.cut (subst (λ (x : ℕ). most_of x ≡ 0 → ⊥) (first (omega (arith, g))) e) g))
            m);
      }
    where
      i : id ≡ byte (v ++ p) 0
      i = f ∙ (k.keeps v w.long w.held).same 0 (omega arith) n

      first : 0 < length v → byte (v ++ p) 0 ≡ byte v 0
      first g = get_or-append v p 0 0 g

  pub grow_text : id ≡ 12 → TextOn u p r → MoreIs u p head r head'
  grow_text e t =
      record {
        long = t.long;
        low = t.low;
        grows = grow t.long t.low (λ v l _ h m. t.on v l h m) (λ v l n. absurd (n (subst (λ (x : ℕ). most_of x ≡ 0) (sym e) refl)));
      }

  pub grow_cut : (id ≡ 12 → ⊥) → {lead most : ℕ} → lead ≡ lead_of id → most ≡ most_of id → CutOn u lead most p r → MoreIs u p head r head'
  grow_cut n a b t =
      record {
        long = t.long;
        low = t.low;
        grows =
            grow t.long t.low (λ v l e. absurd (n e))
            (λ v l _ h m. rw (a, b) at (t.on v l (λ g. rw (a, b) (h g)) m));
      }

  pub grow_plain : (id ≡ 12 → ⊥) → most_of id ≡ 0 → r.len ≡ u.len + length p → r.at ≡ 0 → MoreIs u p head r head'
  grow_plain n z l o =
      record {
        long = l;
        low = omega (arith, o);
        grows = grow l (omega (arith, o)) (λ v l e. absurd (n e)) (λ v l m. absurd (m z));
      }
