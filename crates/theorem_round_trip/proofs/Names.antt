-- Where a name or a default is placed, it lies in the final cells: one that a pool has was placed before with equal bytes, and the cells of any other stand
-- at the cursor.
use Rattle.std.specs.Prelude.{Some}
use mathlib.Core.Path.{◌≡◌, sym, subst}
use mathlib.Core.List.{List, [], ◌∷◌}
use mathlib.Core.Bool.{Bool, true}
use Prim.Native.Nat.{ℕ, ◌<◌}
use native.Mathlib.Omega.{arith}
use lib.ListN.{length}
use Rattle.text.specs.Same.{same_bytes}
use Rattle.text.proofs.SameBytes.{same_bytes_equal}
use Rattle.reflection.specs.Contents.{Bytes}
use Rattle.readable.specs.Readable.{name_readable}
use Rattle.write_spec.specs.Step.{Cell, default_byte, Pools, find, unless_empty, add_outer_name, add_inner_name, add_default, cells_of}
use Rattle.write_spec.specs.Layout.{name_cells, place_outer_name, place_inner_name, place_default, place_outer_names}
use Rattle.write_spec.specs.Canonical.{bytes_facts}
use Rattle.theorem_round_trip.proofs.Lists.{All, found_entry, Zip}
use Rattle.theorem_round_trip.proofs.Texts.{NameAt, name-at, NameOrEmpty, empty_name, some_name, DefaultAt, empty_default, default_at_lem}
use Rattle.theorem_round_trip.proofs.Steps.{PoolsHold, Leaves, bind_leaves, return_leaves, add_to_pool_leaves, Appended, append_leaves}
use Rattle.theorem_round_trip.proofs.Steps.{pad_leaves, interned_leaves, unless_empty_leaves, after_start, weaken_leaves}

module _ (cells : List (Cell Bytes Bytes)) where
  -- What a pool of names gives is a name with the same bytes.
  old_name : (n : Bytes) (es : List (Bytes × ℕ)) (o : ℕ) → All (λ e. NameAt cells e.1 e.0) es → find (same_bytes n) es ≡ Some o → NameAt cells o n
  old_name n es o all e =
      let (k, same, at) = found_entry (λ e. NameAt cells e.1 e.0) (same_bytes n) es o all e in
      subst (NameAt cells o) (sym (same_bytes_equal n k same)) at

  fresh-name : (at o at' : ℕ) (n : Bytes) → name_readable n ≡ true → 0 < at → Appended cells at (name_cells bytes_facts n) o at' → NameAt cells o n
  fresh-name at o at' n readable positive put = name-at cells o n readable (omega (arith, put.began)) put.stands

  module _ (sm5 : Bool) where
    pub place_outer_name_leaves : (at : ℕ) (n : Bytes) → name_readable n ≡ true → Leaves cells sm5 at (place_outer_name bytes_facts n) (λ o at'. NameAt cells o n)
    unfolding place_outer_name bytes_facts
    place_outer_name_leaves at n readable = after_start λ positive.
        interned_leaves true (λ ps o inv e. old_name n ps.outer_names o inv.outer_names e)
        (bind_leaves (append_leaves at (name_cells bytes_facts n)) λ o at₁ le put.
        let named : NameAt cells o n = fresh-name at o at₁ n readable positive put in
        add_to_pool_leaves (add_outer_name n) o
        (λ ps inv. record {
          cursor = inv.cursor;
          outer_names = (named, inv.outer_names);
          inner_names = inv.inner_names;
          types = inv.types;
          member_types = inv.member_types;
          defaults = inv.defaults;
        })
        named)

    pub place_inner_name_leaves : (at : ℕ) (n : Bytes) → name_readable n ≡ true → Leaves cells sm5 at (place_inner_name bytes_facts n) (λ o at'. NameAt cells o n)
    unfolding place_inner_name bytes_facts
    place_inner_name_leaves at n readable = after_start λ positive.
        interned_leaves true (λ ps o inv e. old_name n ps.inner_names o inv.inner_names e)
        (bind_leaves (append_leaves at (name_cells bytes_facts n)) λ o at₁ le put.
        let named : NameAt cells o n = fresh-name at o at₁ n readable positive put in
        add_to_pool_leaves (add_inner_name n) o
        (λ ps inv. record {
          cursor = inv.cursor;
          outer_names = inv.outer_names;
          inner_names = (named, inv.inner_names);
          types = inv.types;
          member_types = inv.member_types;
          defaults = inv.defaults;
        })
        named)

    -- A type's name: none is placed where it is empty.
    pub place_type_name_leaves : (at : ℕ) (n : Bytes) → name_readable n ≡ true
        → Leaves cells sm5 at (unless_empty (length n) (place_inner_name bytes_facts n)) (λ o at'. NameOrEmpty cells o n)
    place_type_name_leaves at n readable =
        unless_empty_leaves (length n) (empty_name cells n) (λ some_byte. weaken_leaves (λ o at' h. some_name cells o n some_byte h)
        (place_inner_name_leaves at n readable))

    old_default : (at : ℕ) (d : Bytes) (ps : Pools Bytes Bytes) (o : ℕ) → PoolsHold cells sm5 at ps → find (same_bytes d) ps.defaults ≡ Some o
        → DefaultAt cells o d
    old_default at d ps o inv e =
        let (k, same, h) = found_entry (λ e. DefaultAt cells e.1 e.0) (same_bytes d) ps.defaults o inv.defaults e in
        subst (DefaultAt cells o) (sym (same_bytes_equal d k same)) h

    pub place_default_leaves : (at : ℕ) (d : Bytes) → Leaves cells sm5 at (place_default bytes_facts d) (λ o at'. DefaultAt cells o d)
    unfolding place_default bytes_facts
    place_default_leaves at d = after_start λ positive.
        unless_empty_leaves (length d) (empty_default cells d) λ some_byte.
        interned_leaves true (old_default at d)
        (bind_leaves (pad_leaves at) λ _ at₁ le₁ _.
        bind_leaves (append_leaves at₁ (cells_of (length d) (default_byte d))) λ o at₂ le₂ put.
        let there : DefaultAt cells o d = default_at_lem cells o d (omega (arith, put.began)) some_byte put.stands in
        add_to_pool_leaves (add_default d) o
        (λ ps inv. record {
          cursor = inv.cursor;
          outer_names = inv.outer_names;
          inner_names = inv.inner_names;
          types = inv.types;
          member_types = inv.member_types;
          defaults = (there, inv.defaults);
        })
        there)

    pub place_outer_names_leaves : (ns : List Bytes) → All (λ n. name_readable n ≡ true) ns → (at : ℕ)
        → Leaves cells sm5 at (place_outer_names bytes_facts ns) (λ os at'. Zip (λ n o. NameAt cells o n) ns os)
    unfolding place_outer_names
    place_outer_names_leaves [] readable at = return_leaves [] tt
    place_outer_names_leaves (n ∷ ns) readable at =
        bind_leaves (place_outer_name_leaves at n readable.0) λ o at₁ le₁ named.
        bind_leaves (place_outer_names_leaves ns readable.1 at₁) λ os at₂ le₂ others.
        return_leaves (o ∷ os) (named, others)
