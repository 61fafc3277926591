-- Records one after the other are read one after the other: one law for bindings, buffers and variables, by induction on the records.
use mathlib.Core.Path.{◌≡◌, subst}
use mathlib.Core.List.{List, [], ◌∷◌}
use Prim.Native.Nat.{ℕ, ◌+◌, ◌*◌}
use lib.ListN.{length}
use Rattle.reflection.specs.Contents.{Bytes}
use Rattle.read_spec.specs.Step.{Room, ReadStep}
use Rattle.read_spec.specs.Read.{read_many}
use Rattle.write_spec.specs.Step.{Cell}
use Rattle.write_spec.specs.Records.{rows}
use Rattle.theorem_round_trip.proofs.Lists.{Zip, Zip3}
use Rattle.theorem_round_trip.proofs.Holds.{WordsAt, words_split}
use Rattle.theorem_round_trip.proofs.Rooms.{no_cost, plus, Takes, then_takes, then_free, return_takes}

-- The room that records take.
abbrev pub total : {A : Type 0} → (A → Room) → List A → Room
total cost [] = no_cost
total cost (x ∷ xs) = plus (cost x) (total cost xs)

-- `row` makes the words of a record from what is written and its offsets, `read` reads one record, `View` says what is read.
module _ (cells : List (Cell Bytes Bytes)) {A B P : Type 0} (row : A → B → List ℕ) (stride : ℕ) (whole : (a : A) (b : B)
    → 4 * length (row a b) ≡ stride) (read : ℕ → ReadStep P)
    (cost : A → Room) (There : A → B → Type 0) (View : A → B → P → Type 0)
    (each : (a : A) (b : B) (at : ℕ) → There a b → WordsAt cells at (row a b) → (p : P) × Takes (read at) (cost a) p × View a b p) where
  pub many_read : (xs : List A) (bs : List B) (at : ℕ) → Zip There xs bs → WordsAt cells at (rows row xs bs)
      → (ps : List P) × Takes (read_many read stride (length xs) at) (total cost xs) ps × Zip3 View xs bs ps
  unfolding read_many rows
  many_read [] [] at all h = ([], return_takes [], tt)
  many_read [] (b ∷ bs) at all h = absurd all
  many_read (x ∷ xs) [] at all h = absurd all
  many_read (x ∷ xs) (b ∷ bs) at all h =
      let (here, later) = words_split cells at (row x b) (rows row xs bs) h in
      let (p, e, v) = each x b at all.0 here in
      let (ps, es, vs) = many_read xs bs (at + stride) all.1 (subst (λ n. WordsAt cells (at + n) (rows row xs bs)) (whole x b) later) in
      (p ∷ ps, then_takes _ (cost x) (total cost xs) e (then_free _ _ es (return_takes (p ∷ ps))), (v, vs))
