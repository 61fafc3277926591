-- A run that is copied into its place, all of which has room, is spliced there.
use mathlib.Core.Path.{◌≡◌, refl}
use mathlib.Core.List.{List, append_assoc}
use Prim.Native.Nat.{ℕ, ◌+◌, ◌≤◌}
use native.Mathlib.Omega.{arith}
use lib.ListN.{length, take, drop}
use borrow.Rule.Slice.PartMut.{put_mid}
use Rattle.std.proofs.lemmas.Slice.{put_mid-paste}
use Rattle.std.proofs.lemmas.List.Edits.{paste_all}
use Rattle.words.specs.Splice.{splice}
use Rattle.words.proofs.Splice.{splice_eq}

pub splice_copied : {X : Type 0} (l : List X) (a k : ℕ) (ys : List X) → k ≡ length ys → a + k ≤ length l → put_mid a k l ys ≡ splice l a ys
splice_copied l a k ys e h =
    grind (
      arith,
      put_mid-paste a k l ys ys k refl refl e,
      paste_all l a ys k e,
      append_assoc (take a l) ys (drop (a + k) l),
      splice_eq l a ys (omega arith),
    )
