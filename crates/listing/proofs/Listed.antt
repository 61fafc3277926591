-- When a binding is listed, by the code's test: a name that cannot be printed is refused, and else the line is the definition's.
use Rattle.std.specs.Prelude.{Ok, Err}
use Rattle.reflection.specs.declared.refusal.Refusal.TheVariants.{NotReadable}
use mathlib.Core.Path.{◌≡◌}
use mathlib.Core.Bool.{Bool, true, false, not}
use mathlib.Core.List.{List, ◌∷◌, ◌++◌}
use Prim.Native.Nat.{ℕ}
use borrow.Author.Tests.{not-true, not-false}
use Rattle.reflection.specs.declared.ResourceBinding.{ResourceBinding}
use Rattle.reflection.specs.Texts.{text_bytes}
use Rattle.text_output.specs.Printable.{printable}
use Rattle.listing.specs.Listing.{pad_to, columns, listed}

module _ (chunk edits : List ℕ) (b : ResourceBinding) {prints : Bool} (is : prints ≡ printable chunk edits b.name) where
  pub name_unprintable : not prints ≡ true → listed chunk edits b ≡ Err NotReadable
  unfolding listed
  name_unprintable t = rw (listed, ← is, not-true prints t)

  pub line_listed : not prints ≡ false → {name : List ℕ} → name ≡ text_bytes chunk edits b.name
      → listed chunk edits b ≡ Ok (pad_to 20 name ++ (32 ∷ columns b))
  unfolding listed
  line_listed t part = rw (listed, ← is, not-false prints t, part)
