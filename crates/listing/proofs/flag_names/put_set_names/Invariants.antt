-- `put_set_names`: what was written, and what is left of the pairs.
use Rattle.std.proofs.Common.{◌≡◌, List, ℕ, ◌+◌, ◌≤◌, drop}
use Rattle.text_output.specs.Cursor.{farthest}
use Rattle.text_output.specs.Output.{Appended}
use Rattle.listing.specs.Names.{flag_names}
use Rattle.listing.specs.Listing.{set_names}
use Rattle.listing.proofs.Joined.{left_joined, room_of, AllNamed}
use Rattle.listing.proofs.flag_names.put_set_names.Given as goal

abbrev pub invariant-loop-set : goal.invariant-loop-set
invariant-loop-set l =
    ((l.start ≡ l.fn.out.at) × ((l.out.at + 1 + room_of (drop l.set-index l.set-items) ≤ farthest) × AllNamed (drop l.set-index l.set-items)))
    × ((before : List ℕ) × (Appended l.fn.out l.out before × (left_joined before (drop l.set-index l.set-items) ≡ set_names flag_names l.fn.flags.0)))
