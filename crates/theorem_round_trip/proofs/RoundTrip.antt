-- THE ROUND TRIP: the canonical form of a readable reflection reads back with every number, name and default, each text where the layout put its cells, each
-- default where the layout's result says, and what was read is written as the same bytes. The cells of the layout are those of its steps, so each step has
-- left there what the reader reads (Steps, Names, Types, Variables, Bindings, Buffers, Header); the reader then goes through the same records.
use mathlib.Core.Path.{◌≡◌, refl, ap, sym, ◌∙◌, subst}
use mathlib.Core.List.{List, [], ◌∷◌, ◌++◌, append-nil}
use mathlib.Core.Bool.{Bool, true, ◌||◌}
use Prim.Native.Nat.{ℕ, ◌+◌, ◌*◌, ◌<◌, ◌≤◌}
use native.Mathlib.Omega.{arith}
use native.Mathlib.Nat.{zero-add}
use lib.Dec.{eqb}
use lib.ListN.{length, get_or, length-map}
use Rattle.words.specs.Words.{word_at}
use Rattle.text.specs.Strings.{cstring_at}
use Rattle.reflection.specs.Limits.{chunk_limit}
use Rattle.reflection.specs.Strides.{header_size, binding_stride, buffer_stride}
use Rattle.reflection.specs.declared.Text.{Text}
use Rattle.reflection.specs.Reflection.{ResourceDef, map_binding, map_buffer, map_def, major_of, is_sm5, is_wide}
use Rattle.reflection.specs.Texts.{in_chunk}
use Rattle.reflection.specs.Contents.{Bytes, contents, defaults_of}
use Rattle.reflection.proofs.Equalities.{equal_defs}
use Rattle.read_spec.specs.Step.{full_room}
use Rattle.read_spec.specs.Read.{read_many, read_binding, read_buffer, read_rd11, read_tables, read_chunk, without_room, read}
use Rattle.readable.specs.Readable.{readable_contents}
use Rattle.write_spec.specs.Step.{Cell, pools, Placed, word_cells, reserve}
use Rattle.write_spec.specs.Records.{BodyOffsets, header_words_in_chunk, header_word_count, binding_words_in_chunk, buffer_words_in_chunk}
use Rattle.write_spec.specs.Layout.{place_body, place_chunk, layout}
use Rattle.write_spec.specs.Canonical.{bytes_facts, fill, canonical}
use Rattle.theorem_round_trip.specs.RoundTrip.{NumbersAreWords, cells_in, cells_of_name, cells_of_default, default_places, Restored}
use Rattle.theorem_round_trip.proofs.Lists.{zip3_weaken, zip3_map}
use Rattle.theorem_round_trip.proofs.Holds.{Holds, holds_left, holds_right, bytes_of, length_word_cells, WordsAt, row_word, words_fit}
use Rattle.theorem_round_trip.proofs.Rooms.{no_cost, Takes, then_takes, free_then, then_free, returns, check_takes, leb_takes, text_takes}
use Rattle.theorem_round_trip.proofs.Texts.{text_in, name_in, default_in}
use Rattle.theorem_round_trip.proofs.Steps.{After}
use Rattle.theorem_round_trip.proofs.Conditions.{Readable, readable_parts}
use Rattle.theorem_round_trip.proofs.Tables.{total, many_read}
use Rattle.theorem_round_trip.proofs.Bindings.{length_binding_words, BindingAt, BindingRead, binding_read}
use Rattle.theorem_round_trip.proofs.Buffers.{buffer_cost, BufferAt, BufferRead, buffer_places_lem, length_buffer_words, buffer_read}
use Rattle.theorem_round_trip.proofs.Maps.{map_def_twice, map_def_same}
use Rattle.theorem_round_trip.proofs.Costs.{binding_cost, read_cost, room_enough_lem}
use Rattle.theorem_round_trip.proofs.Header.{BodyAt, place_body_leaves, header_size_lem, length_header_words, header_small, major_known, major_five}
use Rattle.theorem_round_trip.proofs.Header.{rd11_read}

module _ (r : ResourceDef Bytes Bytes) (fine : Readable r) (short : length (layout bytes_facts r).cells ≤ chunk_limit) where
  abbrev cells : List (Cell Bytes Bytes)
  cells = (layout bytes_facts r).cells

  abbrev out : Bytes
  out = bytes_of (layout bytes_facts r).cells

  abbrev sm5 : Bool
  sm5 = is_sm5 r.rd11

  abbrev wide : Bool
  wide = is_wide r.rd11

  abbrev start : ℕ
  start = 0 + 4 * header_word_count (is_sm5 r.rd11)

  abbrev body : Placed Bytes Bytes BodyOffsets
  body = place_body bytes_facts r (0 + 4 * header_word_count (is_sm5 r.rd11)) (pools [] [] [] [] [])

  abbrev header : List ℕ
  header = header_words_in_chunk r (place_body bytes_facts r (0 + 4 * header_word_count (is_sm5 r.rd11)) (pools [] [] [] [] [])).result

  -- The layout's cells are the header's and the body's.
  whole : Holds cells 0 (word_cells header ++ body.cells)
  unfolding layout place_chunk reserve
  whole = record { rest = []; is = sym (append-nil (word_cells header ++ body.cells)); fits = omega arith }

  header_stands : WordsAt cells 0 header
  unfolding WordsAt
  header_stands = holds_left (word_cells header) body.cells whole

  body_stands : Holds cells start body.cells
  body_stands =
      subst (λ n. Holds cells (0 + n) body.cells) (length_word_cells header ∙ ap (λ (n : ℕ). 4 * n) (length_header_words r body.result))
      (holds_right (word_cells header) body.cells whole)

  after : After cells sm5 start body (λ o at'. BodyAt cells r start o)
  after =
      (place_body_leaves cells short r fine start).run (pools [] [] [] [] [])
      (record { cursor = omega (arith, (header_size_lem sm5).0); outer_names = tt; inner_names = tt; types = tt; member_types = tt; defaults = tt }) body_stands

  there : BodyAt cells r start body.result
  there = after.post

  word : (j : ℕ) → j < length header → word_at out (0 + 4 * j) ≡ get_or header j 0
  word j lt = row_word cells 0 header j (header_small cells short r start body.result fine there) lt header_stands

  -- What the chunk reads as.
  record ReadBack : Type 0 where
    found : ResourceDef Text Text
    takes : Takes (read_chunk out) (read_cost r) found
    is : map_def (text_in cells) (text_in cells) found ≡ map_def name_in default_in r
    places : defaults_of found ≡ default_places length body.result r

  chunk_read : ReadBack
  unfolding read_chunk read_tables map_def header_words_in_chunk defaults_of default_places
  chunk_read =
      let (bs, takes-bs, views-bs) = many_read cells (binding_words_in_chunk wide) (binding_stride wide) (length_binding_words wide) (read_binding out wide)
      binding_cost (BindingAt cells wide) (BindingRead cells)
      (binding_read cells short wide) r.bindings there.names start there.bindings.all there.bindings.stand in
      let (cs, takes-cs, views-cs) = many_read cells buffer_words_in_chunk buffer_stride length_buffer_words (read_buffer out sm5) buffer_cost (BufferAt cells sm5)
      (BufferRead cells)
      (buffer_read cells short sm5) r.constant_buffers body.result.sections body.result.buffers there.buffers.all there.buffers.stand in
      let creator : Text = in_chunk body.result.creator (length r.creator) in
      let p : ResourceDef Text Text = record {
        target_version = r.target_version;
        compile_flags = r.compile_flags;
        rd11 = r.rd11;
        creator = creator;
        bindings = bs;
        constant_buffers = cs;
      } in
      let same-bs = zip3_map (map_binding (text_in cells)) (map_binding name_in) r.bindings there.names bs views-bs in
      let same-cs = zip3_map (map_buffer (text_in cells) (text_in cells)) (map_buffer name_in default_in) r.constant_buffers body.result.sections cs
      (zip3_weaken (λ b o p h. h.is) r.constant_buffers body.result.sections cs views-cs) in
      record {
        found = p;
        takes =
            free_then _ _ (leb_takes header_size (length out) _ (omega (
              arith,
              length-map cells fill,
              words_fit cells 0 header header_stands,
              length_header_words r body.result,
              (header_size_lem sm5).0,
            )))
            (free_then _ _ (leb_takes (length out) chunk_limit _ (omega (arith, length-map cells fill)))
            (free_then _ _ (check_takes _ _ (ap (λ (v : ℕ). eqb (major_of v) 4 || eqb (major_of v) 5) (word 4 (omega arith))
            ∙ major_known r.rd11 r.target_version fine.version))
            (free_then _ _ (text_takes _ _ body.result.creator (length r.creator) (ap (cstring_at out) (word 6 (omega arith)) ∙ there.creator.found))
            (free_then _ _ (subst (λ b. Takes (read_rd11 out b) no_cost r.rd11)
            (sym (ap (λ (v : ℕ). eqb (major_of v) 5) (word 4 (omega arith)) ∙ major_five r.rd11 r.target_version fine.version))
            (rd11_read cells r.rd11 r.target_version _ _ _ _ _ _ _ fine.version word header_stands))
            (then_takes _ (total binding_cost r.bindings) (total buffer_cost r.constant_buffers)
            (subst (λ n. Takes (read_many (read_binding out wide) (binding_stride wide) n (word_at out 12)) (total binding_cost r.bindings) bs)
            (sym (word 2 (omega arith)))
            (subst (λ a. Takes (read_many (read_binding out wide) (binding_stride wide) (length r.bindings) a) (total binding_cost r.bindings) bs)
            (zero-add (4 * header_word_count sm5) ∙ sym (word 3 (omega arith))) takes-bs))
            (then_free _ _
            (subst (λ n. Takes (read_many (read_buffer out sm5) buffer_stride n (word_at out 4)) (total buffer_cost r.constant_buffers) cs)
            (sym (word 0 (omega arith)))
            (subst (λ a. Takes (read_many (read_buffer out sm5) buffer_stride (length r.constant_buffers) a) (total buffer_cost r.constant_buffers) cs)
            (sym (word 1 (omega arith))) takes-cs))
            (returns _ p (equal_defs _ p (λ i. word 4 (omega arith) i ∷ word 5 (omega arith) i ∷ []) refl refl refl refl))))))));
        is = equal_defs _ _ refl refl there.creator.is same-bs same-cs;
        places = buffer_places_lem cells r.constant_buffers body.result.sections cs views-cs;
      }

  -- The bytes, and the cells, of what is read.
  bytes_restored : (p : ResourceDef Text Text) → map_def (text_in cells) (text_in cells) p ≡ map_def name_in default_in r → contents out [] p ≡ r
  unfolding contents text_in name_in default_in
  bytes_restored p e =
      sym (map_def_twice (λ x. x.0) (text_in cells) (λ x. x.0) (text_in cells) p)
      ∙ ap (map_def (λ x. x.0) (λ x. x.0)) e
      ∙ map_def_twice (λ x. x.0) name_in (λ x. x.0) default_in r
      ∙ map_def_same r

  cells_assigned : (p : ResourceDef Text Text) → map_def (text_in cells) (text_in cells) p ≡ map_def name_in default_in r
      → map_def (cells_in cells) (cells_in cells) p ≡ map_def cells_of_name cells_of_default r
  unfolding text_in name_in default_in
  cells_assigned p e =
      sym (map_def_twice (λ x. x.1) (text_in cells) (λ x. x.1) (text_in cells) p)
      ∙ ap (map_def (λ x. x.1) (λ x. x.1)) e
      ∙ map_def_twice (λ x. x.1) name_in (λ x. x.1) default_in r

  chunk_restored : Restored r
  unfolding read canonical layout place_chunk reserve
  chunk_restored =
      let back = chunk_read in
      let restored = bytes_restored back.found back.is in
      record {
        read_back = back.found;
        reads = ap without_room (back.takes.gives full_room (room_enough_lem r fine.room));
        restored = restored;
        assigned = cells_assigned back.found back.is;
        default_places = back.places;
        again = ap canonical restored;
      }

pub round_trip : (r : ResourceDef Bytes Bytes) → readable_contents r ≡ true → NumbersAreWords r → length (canonical r) ≤ chunk_limit → Restored r
unfolding canonical
round_trip r readable words short = chunk_restored r (readable_parts r readable words) (omega (arith, length-map (layout bytes_facts r).cells fill))
