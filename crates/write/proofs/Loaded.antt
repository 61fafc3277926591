-- A load followed by the writer: what `parse_rdef` left is held whole, so the writer's answer for it is the canonical form of what was read, or 17, and
-- never 16.
use Rattle.std.specs.Prelude.{Ok, Some}
use mathlib.Core.Path.{◌≡◌, ap, ◌∙◌}
use mathlib.Core.Bool.{true}
use mathlib.Core.List.{List}
use Prim.Native.Nat.{ℕ, ◌≤◌, ◌<◌}
use lib.ListN.{length, get_or}
use Rattle.reflection.specs.Limits.{chunk_limit}
use Rattle.reflection.specs.declared.ResourceDef.{ResourceDef as Header}
use Rattle.reflection.specs.Contents.{Bytes, contents}
use Rattle.readable.specs.Readable.{table_contents, readable_contents}
use Rattle.readable.proofs.Reading.{tables_at_most_full, read_contents, read_held}
use Rattle.read_spec.specs.Step.{room_of}
use Rattle.read.specs.Parsed.{read_into}
use Rattle.read.proofs.Held.{Held}
use Rattle.text_output.specs.Written.{fitting}
use Rattle.write_spec.specs.Canonical.{canonical}
use Rattle.write_spec.specs.Outcome.{scratch_size, write}
use Rattle.write.proofs.Answers.{readable_written}

module _
    (chunk edits : Bytes)
    (bytes : (i : ℕ) → get_or chunk i 0 < 256)
    (edits_short : length edits ≤ chunk_limit)
    (b f v t : List ℕ)
    {bindings buffers variables types : List ℕ}
    {nb nf nv nt : ℕ}
    {h : Header}
    (loaded : Held (read_into chunk b f v t) nb nf nv nt h bindings buffers variables types) where
  pub loaded_held : table_contents chunk edits h bindings buffers variables types ≡ Some (contents chunk edits loaded.def)
  unfolding read_into
  loaded_held =
      let full = tables_at_most_full (length b) (length f) (length v) (length t) in
      (λ i. table_contents chunk edits (loaded.header i) (loaded.in_bindings i) (loaded.in_buffers i) (loaded.in_variables i) (loaded.in_types i))
      ∙ read_held chunk edits bytes (room_of (length b) (length f) (length v) (length t)) full loaded.def loaded.is edits_short nb nf nv nt

  loaded_readable : readable_contents (contents chunk edits loaded.def) ≡ true
  unfolding read_into
  loaded_readable =
      let full = tables_at_most_full (length b) (length f) (length v) (length t) in
      read_contents chunk edits bytes (room_of (length b) (length f) (length v) (length t)) full loaded.def loaded.is

  pub loaded_written : (scratch room : ℕ) → scratch_size ≤ scratch
      → write scratch room (table_contents chunk edits h bindings buffers variables types) ≡ fitting room (Ok (canonical (contents chunk edits loaded.def)))
  loaded_written scratch room enough =
      ap (write scratch room) loaded_held ∙ readable_written scratch room (contents chunk edits loaded.def) loaded_readable enough
