-- The state stands for the bytes so far: each byte takes it on, a cutting cannot matter, and at the end it answers what the whole
-- reading answers.
-- Assumes nothing.
use Prim.Native.Nat.{ℕ, ◌+◌, ◌<◌}
use native.Mathlib.Omega.{arith}
use mathlib.Core.Path.{◌≡◌, refl, sym, ◌∙◌, ap}
use mathlib.Core.Bool.{Bool, true, false, ◌&&◌}
use mathlib.Core.List.{List, [], ◌∷◌, ◌++◌, append-nil, append_assoc}
use lib.ListN.{length, take, drop, length-append, drop_of_length-le}
use lib.Seq.{append_snoc, take_all, get_or-take, take-append-le, drop-append-le, length-take-le}
use lib.Dec.{eqb, ltb, leb}
use borrow.Author.Tests.{le-leb, lt-leb, leb-true, leb-false, ltb-true, ltb-false, lt-ltb, le-ltb, eqb-true}
use Rattle.format.specs.Slots.{byte, Bytes}
use Rattle.format.specs.Verdict.{stated, Verdict}
use Rattle.format.specs.Decode.{read_description}
use Rattle.format.specs.Reader.{or_refuse_at0, after_description, verdict_of}
use Rattle.format.specs.declared.pins.Chip.{Chip}
use Rattle.format.specs.declared.settings.Settings.{Settings}
use Rattle.format.specs.Answers.{Answer}
use Rattle.format.proofs.Theorem.{meets, only}
use Rattle.stream.specs.Running.{Run, run_byte, run_bytes, begin}
use Rattle.stream.specs.Arriving.{State, state_of, after, got_by, got, piece, pieces, joined, answer}
use Rattle.stream.proofs.Running.{run_passes}

-- the description has no more than the first 16 bytes
pub same_description : (c : Chip) (f g : ℕ → ℕ) → ((i : ℕ) → i < 16 → f i ≡ g i) → read_description c f ≡ read_description c g
same_description c f g h =
    rw (
      h 3 (omega arith),
      h 4 (omega arith),
      h 5 (omega arith),
      h 6 (omega arith),
      h 7 (omega arith),
      h 8 (omega arith),
      h 9 (omega arith),
      h 10 (omega arith),
      h 11 (omega arith),
    ) refl

-- of a table that is too long its first 4,097 bytes tell all
too_long : (m n : ℕ) → 4096 < n → eqb m n && leb m 4096 ≡ false
too_long m n h = go (eqb m n) refl
  where
    go : (t : Bool) → eqb m n ≡ t → t && leb m 4096 ≡ false
    go true e = lt-leb m 4096 (omega (arith, eqb-true m n e))
    go false e = refl

module _ (σ : Settings) where
  pub run_append : (s : Run) (xs ys : List ℕ) → run_bytes σ s (xs ++ ys) ≡ run_bytes σ (run_bytes σ s xs) ys
  run_append s [] ys = refl
  run_append s (x ∷ xs) ys = run_append (run_byte σ s x) xs ys

  -- one byte more, where fewer than 4,097 are there
  state_byte : (b : List ℕ) (x : ℕ) (t : Bool) → ltb (length b) 16 ≡ t → got_by σ false t (state_of σ b) x ≡ state_of σ (b ++ x ∷ [])
  state_byte b x true e =
      let h = ltb-true (length b) 16 e in
      let n = length-append b (x ∷ []) in
      rw (
        take_all 16 b (omega arith),
        take_all 16 (b ++ x ∷ []) (omega arith),
        n,
        drop_of_length-le b {i = 16} (omega arith),
        drop_of_length-le (b ++ x ∷ []) {i = 16} (omega arith),
      ) refl
  state_byte b x false e =
      let h = ltb-false (length b) 16 e in
      let n = length-append b (x ∷ []) in
      rw (take-append-le 16 b (x ∷ []) h, drop-append-le 16 b (x ∷ []) h, run_append begin (drop 16 b) (x ∷ []), n) refl

  pub got_after : (b : List ℕ) (x : ℕ) → got σ (after σ b) x ≡ after σ (b ++ x ∷ [])
  got_after b x = go (leb 4097 (length b)) refl
    where
      n : length (b ++ x ∷ []) ≡ length b + 1
      n = length-append b (x ∷ [])

      go : (t : Bool) → leb 4097 (length b) ≡ t → got σ (after σ b) x ≡ after σ (b ++ x ∷ [])
      go true e =
          let h = leb-true 4097 (length b) e in
          rw (take-append-le 4097 b (x ∷ []) h, lt-ltb 4096 (length (take 4097 b)) (omega (arith, length-take-le 4097 b h))) refl
      go false e =
          let h = leb-false 4097 (length b) e in
          rw (take_all 4097 b (omega arith), take_all 4097 (b ++ x ∷ []) (omega (arith, n)), le-ltb 4096 (length b) (omega arith))
          (state_byte b x (ltb (length b) 16) refl)

  -- the law: what a piece does to the state after some bytes is the state after those bytes and the piece's
  pub piece_after : (b xs : List ℕ) → piece σ (after σ b) xs ≡ after σ (b ++ xs)
  piece_after b [] = ap (after σ) (sym (append-nil b))
  piece_after b (x ∷ xs) =
      ap (λ (s : State). piece σ s xs) (got_after b x) ∙ piece_after (b ++ x ∷ []) xs ∙ ap (after σ) (append_snoc b x xs)

  pub pieces_after : (b : List ℕ) (ps : List (List ℕ)) → pieces σ (after σ b) ps ≡ after σ (b ++ joined ps)
  pieces_after b [] = ap (after σ) (sym (append-nil b))
  pieces_after b (p ∷ ps) =
      ap (λ (s : State). pieces σ s ps) (piece_after b p) ∙ pieces_after (b ++ p) ps ∙ ap (after σ) (append_assoc b p (joined ps))

  answer_state : (b : List ℕ) → answer σ (state_of σ b) ≡ verdict_of σ b
  unfolding verdict_of
  answer_state b = go (leb 16 (length b)) refl
    where
      at : (i : ℕ) → i < 16 → byte (take 16 b) i ≡ byte b i
      at i h = get_or-take 16 b i 0 h

      go :
          (t : Bool)
          → leb 16 (length b) ≡ t
          → answer σ (state_of σ b)
          ≡ or_refuse_at0 (leb 16 (length b)) 1
          (or_refuse_at0 (eqb (byte b 0) 1) 2
          (or_refuse_at0 (eqb (stated b) (length b) && leb (stated b) 4096) 3
          (after_description σ (read_description σ.chip (byte b)) (drop 16 b))))
      go true e =
          rw (
            same_description σ.chip (byte (take 16 b)) (byte b) at,
            at 0 (omega arith),
            at 1 (omega arith),
            at 2 (omega arith),
            run_passes σ (drop 16 b) [] (length (drop 16 b)) [] 16 refl (omega arith),
          ) refl
      go false e = rw e refl

  pub verdict_capped : (b : List ℕ) → verdict_of σ (take 4097 b) ≡ verdict_of σ b
  unfolding verdict_of
  verdict_capped b = go (leb (length b) 4097) refl
    where
      go : (t : Bool) → leb (length b) 4097 ≡ t → verdict_of σ (take 4097 b) ≡ verdict_of σ b
      go true e = ap (verdict_of σ) (take_all 4097 b (leb-true (length b) 4097 e))
      go false e =
          let h = leb-false (length b) 4097 e in
          rw (
            length-take-le 4097 b (omega arith),
            le-leb 16 (length b) (omega arith),
            get_or-take 4097 b 0 0 (omega arith),
            too_long (stated (take 4097 b)) 4097 (omega arith),
            too_long (stated b) (length b) (omega arith),
          ) refl

  -- after the end the state answers what the whole reading answers
  pub answer_after : (b : List ℕ) → answer σ (after σ b) ≡ verdict_of σ b
  answer_after b = answer_state (take 4097 b) ∙ verdict_capped b

  -- for every cutting
  pub cut_anywhere : (ps : List (List ℕ)) → answer σ (pieces σ (after σ []) ps) ≡ verdict_of σ (joined ps)
  cut_anywhere ps = ap (answer σ) (pieces_after [] ps) ∙ answer_after (joined ps)

  pub cut_verdict : (ps : List (List ℕ)) → Bytes (joined ps) → Verdict σ (joined ps) (answer σ (pieces σ (after σ []) ps))
  cut_verdict ps small = rw (cut_anywhere ps) (meets σ (joined ps) small)

  -- and no other answer is a verdict of the bytes
  pub cut_only : (ps : List (List ℕ)) (a : Answer) → Bytes (joined ps) → Verdict σ (joined ps) a → answer σ (pieces σ (after σ []) ps) ≡ a
  cut_only ps a small v = cut_anywhere ps ∙ only σ (joined ps) a small v
