-- Where bindings are placed, each of their records reads as the binding: by the law on names and by the words of the record.
use mathlib.Core.Path.{◌≡◌, refl, ap, sym, ◌∙◌}
use mathlib.Core.List.{List, [], ◌∷◌, map}
use mathlib.Core.Bool.{Bool, true, false}
use Prim.Native.Nat.{ℕ, ◌+◌, ◌*◌, ◌<◌, ◌≤◌}
use native.Mathlib.Omega.{arith}
use native.Mathlib.Nat.{add-zero}
use lib.ListN.{length, get_or, length-map}
use Rattle.words.specs.Words.{word_at}
use Rattle.text.specs.Strings.{cstring_at}
use Rattle.codes.specs.Table.{known}
use Rattle.codes.specs.Microsoft.{input_types, srv_dimensions}
use Rattle.flags.specs.Flags.{binding_flags_allowed}
use Rattle.reflection.specs.Limits.{chunk_limit}
use Rattle.reflection.specs.Strides.{binding_stride}
use Rattle.reflection.specs.declared.Text.{Text}
use Rattle.reflection.specs.Reflection.{ResourceBinding, map_binding}
use Rattle.reflection.specs.Texts.{in_chunk}
use Rattle.reflection.specs.Contents.{Bytes}
use Rattle.reflection.proofs.Equalities.{equal_bindings}
use Rattle.read_spec.specs.Step.{room}
use Rattle.read_spec.specs.Read.{binding_from_chunk, read_binding}
use Rattle.words.specs.Words.{word_if}
use Rattle.readable.specs.Readable.{name_readable}
use Rattle.write_spec.specs.Step.{Cell, reserve}
use Rattle.write_spec.specs.Records.{binding_words_in_chunk, binding_size, words_if, rows}
use Rattle.write_spec.specs.Layout.{place_outer_names}
use Rattle.write_spec.specs.Canonical.{bytes_facts}
use Rattle.write_spec.proofs.Sizes.{rows_length, binding_words_length, outer_names_length}
use Rattle.theorem_round_trip.specs.RoundTrip.{EachIsWord, binding_numbers}
use Rattle.theorem_round_trip.proofs.Lists.{All, all_weaken, all_to_map, Zip}
use Rattle.theorem_round_trip.proofs.Holds.{bytes_of, WordsAt, inside_bytes, row_word, words_fit, words_split, longer_word}
use Rattle.theorem_round_trip.proofs.Rooms.{Takes, free_then, then_free, returns, check_takes, text_takes, binding_takes}
use Rattle.theorem_round_trip.proofs.Texts.{text_in, name_in, NameAt}
use Rattle.theorem_round_trip.proofs.Steps.{Leaves, reserve_leaves}
use Rattle.theorem_round_trip.proofs.Names.{place_outer_names_leaves}
use Rattle.theorem_round_trip.proofs.Conditions.{ReadableBinding}

pub length_binding_words : (wide : Bool) (b : ResourceBinding Bytes) (o : ℕ) → 4 * length (binding_words_in_chunk wide b o) ≡ binding_stride wide
unfolding binding_words_in_chunk
length_binding_words false b o = refl
length_binding_words true b o = refl

pub record BindingAt (cells : List (Cell Bytes Bytes)) (wide : Bool) (b : ResourceBinding Bytes) (o : ℕ) : Type 0 where
  pub fine : ReadableBinding wide b
  pub name : NameAt cells o b.name

abbrev pub BindingRead : List (Cell Bytes Bytes) → ResourceBinding Bytes → ℕ → ResourceBinding Text → Type 0
BindingRead cells b o p = map_binding (text_in cells) p ≡ map_binding name_in b

-- The bindings' records stand at an offset, and their names where the records say.
pub record BindingsAt (cells : List (Cell Bytes Bytes)) (wide : Bool) (bs : List (ResourceBinding Bytes)) (at : ℕ) (os : List ℕ) : Type 0 where
  pub all : Zip (BindingAt cells wide) bs os
  pub stand : WordsAt cells at (rows (binding_words_in_chunk wide) bs os)

bindings_named : (cells : List (Cell Bytes Bytes)) (wide : Bool) (bs : List (ResourceBinding Bytes)) (os : List ℕ) → All (ReadableBinding wide) bs
    → Zip (λ n o. NameAt cells o n) (map (λ b. b.name) bs) os → Zip (BindingAt cells wide) bs os
bindings_named cells wide [] [] fine named = tt
bindings_named cells wide [] (o ∷ os) fine named = absurd named
bindings_named cells wide (b ∷ bs) [] fine named = absurd named
bindings_named cells wide (b ∷ bs) (o ∷ os) fine named = (record { fine = fine.0; name = named.0 }, bindings_named cells wide bs os fine.1 named.1)

module _ (cells : List (Cell Bytes Bytes)) (short : length cells ≤ chunk_limit) (wide : Bool) where
  pub binding_read : (b : ResourceBinding Bytes) (o at : ℕ) → BindingAt cells wide b o → WordsAt cells at (binding_words_in_chunk wide b o)
      → (p : ResourceBinding Text) × Takes (read_binding (bytes_of cells) wide at) (room 1 0 0 0) p × BindingRead cells b o p
  unfolding read_binding map_binding binding_words_in_chunk binding_from_chunk EachIsWord binding_numbers
  binding_read b o at there h =
      let p = map_binding (λ n. in_chunk o (length n)) b in (
        p,
        then_free _ _ binding_takes
            (free_then _ _ (check_takes _ _ (inside_bytes cells at (binding_stride wide)
            (omega (arith, words_fit cells at (binding_words_in_chunk wide b o) h, length_binding_words wide b o))))
            (free_then _ _ (check_takes _ _ (ap (known input_types) (word 1 (omega arith)) ∙ there.fine.input_type))
            (free_then _ _ (check_takes _ _ (ap (known srv_dimensions) (word 3 (omega arith)) ∙ there.fine.dimension))
            (free_then _ _ (check_takes _ _ (ap binding_flags_allowed (word 7 (omega arith)) ∙ there.fine.flags))
            (free_then _ _ (text_takes _ _ o (length b.name)
            (ap (cstring_at (bytes_of cells)) (ap (word_at (bytes_of cells)) (sym (add-zero at)) ∙ word 0 (omega arith)) ∙ there.name.found))
            (returns _ p (equal_bindings _ p refl (λ i.
            word 1 (omega arith) i ∷ word 2 (omega arith) i ∷ word 3 (omega arith) i ∷ word 4 (omega arith) i ∷ word 5 (omega arith) i
            ∷ word 6 (omega arith) i ∷ word 7 (omega arith) i ∷ last 0 32 (omega arith) refl i ∷ last 1 36 (omega arith) refl i ∷ [])))))))),
        equal_bindings _ _ there.name.is refl,
      )
    where
      first : List ℕ
      first = o ∷ b.input_type ∷ b.return_type ∷ b.dimension ∷ b.num_samples ∷ b.bind_point ∷ b.bind_count ∷ b.flags ∷ []

      longer : List ℕ
      longer = b.space ∷ b.id ∷ []

      small : EachIsWord (binding_numbers b)
      small = there.fine.words

      word : (j : ℕ) → j < 8
          → word_at (bytes_of cells) (at + 4 * j) ≡ get_or (o ∷ b.input_type ∷ b.return_type ∷ b.dimension ∷ b.num_samples ∷ b.bind_point ∷ b.bind_count
          ∷ b.flags ∷ []) j 0
      word j lt =
          row_word cells at first j (
            omega (arith, there.name.below_end),
            (
              small.0,
              (
                small.1.0,
                (small.1.1.0, (small.1.1.1.0, (small.1.1.1.1.0, (small.1.1.1.1.1.0, (small.1.1.1.1.1.1.0, tt))))),
              ),
            ),
          )
          lt
          (words_split cells at first (words_if wide longer) h).0

      last : (j m : ℕ) → j < 2 → binding_stride false + 4 * j ≡ m → word_if wide (bytes_of cells) (at + m) ≡ get_or (b.space ∷ b.id ∷ []) j 0
      last j m lt e = longer_word cells wide at first longer j m there.fine.longer lt e h

  pub bindings_leave : (sm5 : Bool) (bs : List (ResourceBinding Bytes)) → All (ReadableBinding wide) bs → (at : ℕ)
      → Leaves cells sm5 at (reserve (length bs * binding_size wide) (rows (binding_words_in_chunk wide) bs) (place_outer_names bytes_facts (map (λ b. b.name) bs)))
      (λ os at'. BindingsAt cells wide bs at os)
  bindings_leave sm5 bs fine at =
      reserve_leaves at (length bs * binding_size wide) (rows (binding_words_in_chunk wide) bs) (place_outer_names bytes_facts (map (λ b. b.name) bs))
      (λ ps. rows_length (binding_words_in_chunk wide) (binding_size wide) (binding_words_length wide) bs _
      (outer_names_length bytes_facts (map (λ b. b.name) bs) _ ps ∙ length-map bs (λ b. b.name)))
      (place_outer_names_leaves cells sm5 (map (λ b. b.name) bs) (all_to_map (λ n. name_readable n ≡ true) (λ b. b.name) bs
      (all_weaken (λ b f. f.name) bs fine)) _)
      (λ os at₁ named h. record { all = bindings_named cells wide bs os fine named; stand = h })
