-- A record written after the first i records of a table: the first i + 1 are then those, and it. One law over the width serves the tables.
use mathlib.Core.Path.{◌≡◌, refl, ap, ◌∙◌}
use mathlib.Core.List.{List, ◌++◌}
use Prim.Native.Nat.{ℕ, ◌+◌, ◌*◌, ◌/◌, ◌<◌}
use lib.ListN.{length, take}
use Rattle.words.proofs.Records.{take_record}
use Rattle.reflection.specs.declared.TypeDesc.{TypeDesc}
use Rattle.tables.specs.Records.{put_record, type_words_in_table, type_width}
use Rattle.tables.proofs.Records.{record_inside, put_inside}

pub record_appended : (width : ℕ) (t : List ℕ) (i : ℕ) (words : List ℕ) → i < length t / width → length words ≡ width
    → take ((i + 1) * width) (put_record width t i words) ≡ take (i * width) t ++ words
record_appended width t i words free whole =
    ap (take ((i + 1) * width)) (put_inside width t i words free) ∙ take_record t i width words whole (record_inside width (length t) i free)

pub node_appended : (types : List ℕ) (n : ℕ) (node : TypeDesc) → n < length types / type_width
    → take ((n + 1) * type_width) (put_record type_width types n (type_words_in_table node)) ≡ take (n * type_width) types ++ type_words_in_table node
unfolding type_words_in_table
node_appended types n node free = record_appended type_width types n (type_words_in_table node) free refl
