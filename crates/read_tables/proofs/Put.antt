-- A record that is put after the n that a table has: the table then has it, too. One law over the width serves the tables.
use mathlib.Core.Path.{◌≡◌, ap, ◌∙◌}
use mathlib.Core.List.{List, ◌++◌}
use Prim.Native.Nat.{ℕ, ◌+◌, ◌*◌, ◌≤◌, ◌<◌}
use native.Mathlib.Omega.{arith}
use lib.ListN.{length, take}
use Rattle.tables.specs.Records.{put_record}
use Rattle.read_types.specs.Walked.{HasRoom}
use Rattle.read_types.proofs.Table.{record_appended}

pub record_put : (n : ℕ) (table words : List ℕ) {width capacity : ℕ} {table₁ put : List ℕ} → HasRoom width capacity n table
    → n < capacity → table₁ ≡ put_record width table n put → put ≡ words → length words ≡ width
    → take ((n + 1) * width) table₁ ≡ take (n * width) table ++ words
record_put n table words {width} room free is-put is-words whole =
    ap (take ((n + 1) * width)) (is-put ∙ ap (put_record width table n) is-words) ∙ record_appended width table n words (omega (arith, room.fits)) whole

-- A table that has room for its records, and then for no more than it can take, while it is as long as it was.
pub has_room : {width capacity capacity' n n' : ℕ} {table table' : List ℕ} → HasRoom width capacity n table
    → capacity' ≡ capacity → n' ≤ capacity → length table' ≡ length table → HasRoom width capacity' n' table'
has_room {width} room same taken long = record { taken = omega (arith, same, taken); fits = rw (same, long) room.fits }
