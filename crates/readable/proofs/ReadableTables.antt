-- What a readable reflection's tables hold: the reflection that they decode to, whose contents are readable, and counts and lengths within document 01's room.
-- Each step of `table_contents` gave something; decoding keeps the counts, since every record, variable and node that is counted is used.
use Rattle.std.specs.Prelude.{Option, None, Some}
use mathlib.Core.Path.{◌≡◌, refl, sym, ap, ◌∙◌}
use mathlib.Core.Bool.{true, ◌&&◌}
use mathlib.Core.List.{List, map}
use Prim.Native.Nat.{ℕ, ◌/◌, ◌≤◌}
use native.Mathlib.Omega.{arith}
use borrow.Author.Tests.{leb-true}
use lib.Dec.{leb}
use lib.ListN.{length, length-map}
use Rattle.text.proofs.Bools.{and-true}
use Rattle.reflection.specs.Limits.{binding_room, buffer_room, variable_room, type_room, chunk_limit}
use Rattle.reflection.specs.declared.Text.{Text}
use Rattle.reflection.specs.declared.ResourceDef.{ResourceDef as Header}
use Rattle.reflection.specs.Texts.{text_bytes}
use Rattle.reflection.specs.Reflection.{map_binding, map_variable, map_buffer, ResourceDef, map_def, is_sm5, is_wide}
use Rattle.tables.specs.Records.{binding_width, buffer_width, variable_width, type_width, type_at, variable_at, buffer_at, binding_at}
use Rattle.reflection.specs.Reflection.{all_variables}
use Rattle.tables.specs.Decode.{first_records, node_from_table, variables_from, buffers_from, binding_from_table, decode}
use Rattle.reflection.specs.Contents.{Bytes, contents, inner_names, outer_names}
use Rattle.tables.proofs.Options.{some_was, then_was, check_was}
use Rattle.tables.proofs.RecordLists.{length_records}
use Rattle.readable.specs.Readable.{readable, table_contents, is_readable, readable_contents, rd11_absent, texts_in_place}
use Rattle.readable.specs.Readable.{room_kept, node_count, every, variable_readable, binding_readable, name_readable, version_readable}
use Rattle.readable.proofs.Counts.{variables_used, buffers_taken, map_node_count}
pub use Rattle.readable.proofs.Counts.{variables_map}

-- What the tables of a readable reflection hold, and how much.
pub record Readable (chunk edits : Bytes) (h : Header) (bindings buffers variables types : List ℕ) : Type 0 where
  pub def : ResourceDef Text Text
  pub decoded : decode h bindings buffers variables types ≡ Some def
  pub is_held : table_contents chunk edits h bindings buffers variables types ≡ Some (contents chunk edits def)
  pub is_readable : readable_contents (contents chunk edits def) ≡ true
  pub chunk_long : length chunk ≤ chunk_limit
  pub edits_long : length edits ≤ chunk_limit
  pub binding_count : h.binding_count ≤ binding_room
  pub buffer_count : h.buffer_count ≤ buffer_room
  pub variable_count : h.variable_count ≤ variable_room
  pub type_count : h.type_count ≤ type_room
  pub bindings_inside : h.binding_count ≤ length bindings / binding_width
  pub buffers_inside : h.buffer_count ≤ length buffers / buffer_width
  pub variables_inside : h.variable_count ≤ length variables / variable_width
  pub types_inside : h.type_count ≤ length types / type_width

-- How much was decoded.
record Counted (h : Header) (bindings buffers variables types : List ℕ) (r : ResourceDef Text Text) : Type 0 where
  binding_count : length r.bindings ≡ h.binding_count
  buffer_count : length r.constant_buffers ≡ h.buffer_count
  variable_count : length (all_variables r.constant_buffers) ≡ h.variable_count
  type_count : node_count (all_variables r.constant_buffers) ≡ h.type_count
  bindings_inside : h.binding_count ≤ length bindings / binding_width
  buffers_inside : h.buffer_count ≤ length buffers / buffer_width
  variables_inside : h.variable_count ≤ length variables / variable_width
  types_inside : h.type_count ≤ length types / type_width

first_was : {A : Type 0} (width : ℕ) (record-at : List ℕ → ℕ → A) (t : List ℕ) (n : ℕ) (xs : List A) → first_records width record-at t n ≡ Some xs
    → (n ≤ length t / width) × (length xs ≡ n)
unfolding first_records
first_was width record-at t n xs e =
    let (inside, e₁) = check_was (leb n (length t / width)) _ xs e in
    (leb-true n (length t / width) inside, ap length (sym (some_was e₁)) ∙ length_records (record-at t) 0 n)

decode_counts : (h : Header) (bindings buffers variables types : List ℕ) (r : ResourceDef Text Text) → decode h bindings buffers variables types ≡ Some r
    → Counted h bindings buffers variables types r
unfolding decode
decode_counts h bindings buffers variables types r e =
    let (bs, b, e₁) = then_was (first_records binding_width binding_at bindings h.binding_count) _ r e in
    let (cs, c, e₂) = then_was (first_records buffer_width buffer_at buffers h.buffer_count) _ r e₁ in
    let (vs, v, e₃) = then_was (first_records variable_width variable_at variables h.variable_count) _ r e₂ in
    let (ts, t, e₄) = then_was (first_records type_width type_at types h.type_count) _ r e₃ in
    let (typed, with-types, e₅) = then_was (variables_from vs (map node_from_table ts)) _ r e₄ in
    let (filled, in_buffers, e₆) = then_was (buffers_from cs typed) _ r e₅ in
    let is = some_was e₆ in
    let used = variables_used vs (map node_from_table ts) typed with-types in
    let all = buffers_taken cs typed filled in_buffers in
    record {
      binding_count = ap (λ (q : ResourceDef Text Text). length q.bindings) (sym is) ∙ length-map bs binding_from_table
          ∙ (first_was binding_width binding_at bindings _ bs b).1;
      buffer_count = ap (λ (q : ResourceDef Text Text). length q.constant_buffers) (sym is) ∙ all.buffers
          ∙ (first_was buffer_width buffer_at buffers _ cs c).1;
      variable_count =
          ap (λ (q : ResourceDef Text Text). length (all_variables q.constant_buffers)) (sym is) ∙ ap length all.variables ∙ used.variables
          ∙ (first_was variable_width variable_at variables _ vs v).1;
      type_count =
          ap (λ (q : ResourceDef Text Text). node_count (all_variables q.constant_buffers)) (sym is) ∙ ap node_count all.variables ∙ used.nodes
          ∙ length-map ts node_from_table
          ∙ (first_was type_width type_at types _ ts t).1;
      bindings_inside = (first_was binding_width binding_at bindings _ bs b).0;
      buffers_inside = (first_was buffer_width buffer_at buffers _ cs c).0;
      variables_inside = (first_was variable_width variable_at variables _ vs v).0;
      types_inside = (first_was type_width type_at types _ ts t).0;
    }

-- Room that the contents keep is kept by what they are of.
record Kept (r : ResourceDef Text Text) : Type 0 where
  bindings : length r.bindings ≤ binding_room
  buffers : length r.constant_buffers ≤ buffer_room
  variables : length (all_variables r.constant_buffers) ≤ variable_room
  types : node_count (all_variables r.constant_buffers) ≤ type_room

readable_room : (c : ResourceDef Bytes Bytes) → readable_contents c ≡ true → room_kept c ≡ true
unfolding readable_contents
readable_room c e =
    let vs = every (variable_readable (is_sm5 c.rd11)) (all_variables c.constant_buffers) in
    let bs = every (binding_readable (is_wide c.rd11)) c.bindings in
    let inner = every name_readable (inner_names c) in
    let outer = every name_readable (outer_names c) in
    (and-true vs (room_kept c)
    (and-true bs (vs && room_kept c)
    (and-true inner (bs && (vs && room_kept c))
    (and-true outer (inner && (bs && (vs && room_kept c))) (and-true (version_readable c.target_version c.rd11)
    (outer && (inner && (bs && (vs && room_kept c)))) e).1).1).1).1
    ).1

contents_room : (chunk edits : Bytes) (r : ResourceDef Text Text) → room_kept (contents chunk edits r) ≡ true → Kept r
unfolding room_kept contents map_def
contents_room chunk edits r e =
    let f = text_bytes chunk edits in
    let vs = all_variables r.constant_buffers in
    let all = variables_map f f r.constant_buffers in
    let nb = length (map (map_binding f) r.bindings) in
    let nf = length (map (map_buffer f f) r.constant_buffers) in
    let nv = length (all_variables (map (map_buffer f f) r.constant_buffers)) in
    let nt = node_count (all_variables (map (map_buffer f f) r.constant_buffers)) in
    let (b, e₁) = and-true (leb nb binding_room) (leb nf buffer_room && (leb nv variable_room && leb nt type_room)) e in
    let (c, e₂) = and-true (leb nf buffer_room) (leb nv variable_room && leb nt type_room) e₁ in
    let (v, t) = and-true (leb nv variable_room) (leb nt type_room) e₂ in
    record {
      bindings = omega (arith, leb-true nb binding_room b, length-map r.bindings (map_binding f));
      buffers = omega (arith, leb-true nf buffer_room c, length-map r.constant_buffers (map_buffer f f));
      variables = omega (arith, leb-true nv variable_room v, ap length all, length-map vs (map_variable f f));
      types = omega (arith, leb-true nt type_room t, ap node_count all, map_node_count f f vs);
    }

module _ (chunk edits : Bytes) (h : Header) (bindings buffers variables types : List ℕ) where
  is_some : (o : Option (ResourceDef Bytes Bytes)) → is_readable o ≡ true → (r : ResourceDef Bytes Bytes) × (o ≡ Some r) × (readable_contents r ≡ true)
  is_some None e = absurd (let apart : ◌≡◌ {A = ℕ} 0 1 = cc in omega arith)
  is_some (Some r) e = (r, refl, e)

  held_holds : (c : ResourceDef Bytes Bytes) → table_contents chunk edits h bindings buffers variables types ≡ Some c → readable_contents c ≡ true
      → Readable chunk edits h bindings buffers variables types
  unfolding table_contents
  held_holds c e passes =
      let (long, e₁) = check_was (leb (length chunk) chunk_limit && leb (length edits) chunk_limit) _ c e in
      let (absent, e₂) = check_was (rd11_absent h) _ c e₁ in
      let (r, decoded, e₃) = then_was (decode h bindings buffers variables types) _ c e₂ in
      let (placed, e₄) = check_was (texts_in_place chunk edits r) _ c e₃ in
      let is = some_was e₄ in
      let readable-def = ap readable_contents is ∙ passes in
      let kept = contents_room chunk edits r (readable_room (contents chunk edits r) readable-def) in
      let counted = decode_counts h bindings buffers variables types r decoded in
      let (chunk_long, edits_long) = and-true (leb (length chunk) chunk_limit) (leb (length edits) chunk_limit) long in
      record {
        def = r;
        decoded = decoded;
        is_held = e ∙ ap Some (sym is);
        is_readable = readable-def;
        chunk_long = leb-true (length chunk) chunk_limit chunk_long;
        edits_long = leb-true (length edits) chunk_limit edits_long;
        binding_count = omega (arith, kept.bindings, counted.binding_count);
        buffer_count = omega (arith, kept.buffers, counted.buffer_count);
        variable_count = omega (arith, kept.variables, counted.variable_count);
        type_count = omega (arith, kept.types, counted.type_count);
        bindings_inside = counted.bindings_inside;
        buffers_inside = counted.buffers_inside;
        variables_inside = counted.variables_inside;
        types_inside = counted.types_inside;
      }

  pub readable_holds : readable chunk edits h bindings buffers variables types ≡ true → Readable chunk edits h bindings buffers variables types
  unfolding readable
  readable_holds e =
      let (c, is, passes) = is_some (table_contents chunk edits h bindings buffers variables types) e in
      held_holds c is passes
