-- Columns: scalar values counted byte by byte, the spaces after a text, and that a decimal digit is one scalar value.
use Rattle.std.proofs.lemmas.List.Recursion.{is_count_by}
use mathlib.Core.Path.{◌≡◌, refl, sym, ap}
use Rattle.std.specs.List.{count_by}
use mathlib.Core.Bool.{Bool, true, false, not, ◌&&◌, cond}
use mathlib.Core.List.{List, [], ◌∷◌}
use Prim.Native.Nat.{ℕ, zero, suc, ◌+◌, ◌/◌, ◌%◌, ◌<◌}
use native.Mathlib.Decide.{dec_le}
use native.Mathlib.Omega.{arith}
use borrow.Author.Tests.{lt-leb}
use lib.Dec.{leb}
use lib.ListN.{length}
use Rattle.text_output.specs.Digits.{digits_before, decimal_digit, decimal}
use Rattle.text_output.proofs.Digits.{digits_last, digits_more}
use Rattle.listing.specs.Listing.{scalars}

-- a byte that continues a sequence does not count, any other does
abbrev pub begins : ℕ → Bool
begins b = not (leb 0x80 b && leb b 0xbf)

pub scalars_counted : (s : List ℕ) → count_by begins s ≡ scalars s
unfolding scalars
scalars_counted s = sym (is_count_by scalars begins refl (λ b bs. go (leb 0x80 b && leb b 0xbf) (scalars bs)) s)
  where
    go : (t : Bool) (n : ℕ) → cond t n (suc n) ≡ cond (not t) (1 + n) n
    go true n = refl
    go false n = omega arith

below_0x80 : (b : ℕ) (bs : List ℕ) → b < 0x80 → scalars bs ≡ length bs → scalars (b ∷ bs) ≡ length (b ∷ bs)
unfolding scalars
below_0x80 b bs h e = rw (lt-leb 0x80 b h) (ap suc e)

-- digits that are one scalar value each, before a text whose bytes are
digits_scalars : (most n : ℕ) (after : List ℕ) → scalars after ≡ length after
    → scalars (digits_before decimal_digit 10 most n after) ≡ length (digits_before decimal_digit 10 most n after)
unfolding digits_before
digits_scalars zero n after e = e
digits_scalars (suc most) n after e =
    elim (dec_le 10 n) [
      | yes h ↦ rw (digits_more decimal_digit 10 most n after h)
          (digits_scalars most (n / 10) (decimal_digit (n % 10) ∷ after) (below_0x80 (decimal_digit (n % 10)) after (omega arith) e))
      | no h ↦ rw (digits_last decimal_digit 10 most n after (omega arith)) (below_0x80 (decimal_digit n) after (omega arith) e)
    ]

pub decimal_scalars : (n : ℕ) → scalars (decimal n) ≡ length (decimal n)
unfolding decimal scalars
decimal_scalars n = digits_scalars 10 n [] refl
