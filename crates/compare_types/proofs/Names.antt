-- Names in one place are one name.
use mathlib.Core.Path.{◌≡◌, ap}
use mathlib.Core.Bool.{true}
use mathlib.Core.List.{List}
use Prim.Native.Nat.{ℕ}
use Rattle.text.proofs.SameBytes.{equal_same_bytes}
use Rattle.reflection.specs.declared.Text.{Text}
use Rattle.reflection.specs.Texts.{text_bytes}
use Rattle.compare_types.specs.Same.{same_name}

pub in_one_place : (chunk edits : List ℕ) (x y : Text) → x.source ≡ y.source → x.place ≡ y.place → x.length ≡ y.length
    → same_name chunk edits x y ≡ true
unfolding same_name
in_one_place chunk edits x y s p n =
    let same : x ≡ y = λ i. record { source = s i; place = p i; length = n i } in
    equal_same_bytes (text_bytes chunk edits x) (text_bytes chunk edits y) (ap (text_bytes chunk edits) same)
