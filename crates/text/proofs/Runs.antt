-- Running Table 3-7 over a list: byte by byte, over two lists one after the other, and over bytes below 0x80.
use mathlib.Core.Path.{◌≡◌, refl, ap, ◌∙◌}
use mathlib.Core.Bool.{true}
use mathlib.Core.List.{List, [], ◌∷◌, ◌++◌}
use Prim.Native.Nat.{ℕ, suc, ◌<◌, zero-le}
use native.Mathlib.Omega.{arith}
use borrow.Author.Tests.{le-leb}
use lib.ListN.{length, get_or}
use Rattle.text.specs.Utf8.{Left, begun, step, run, table37, whole, well_formed}

-- what is ill-formed stays so
pub run_ill_formed : (bs : List ℕ) → run Left.ill_formed bs ≡ Left.ill_formed
unfolding run
run_ill_formed [] = refl
run_ill_formed (b ∷ bs) = run_ill_formed bs

pub run_append : (l : Left) (xs ys : List ℕ) → run l (xs ++ ys) ≡ run (run l xs) ys
unfolding run
run_append l [] ys = refl
run_append l (x ∷ xs) ys = run_append (step l x) xs ys

whole_is_none : (l : Left) → whole l ≡ true → l ≡ Left.columns []
whole_is_none Left.ill_formed e = cc
whole_is_none (Left.columns []) e = refl
whole_is_none (Left.columns (c ∷ cs)) e = cc

-- two well-formed lists, one after the other, are well-formed
pub well_formed_append : (xs ys : List ℕ) → well_formed xs ≡ true → well_formed ys ≡ true → well_formed (xs ++ ys) ≡ true
unfolding well_formed
well_formed_append xs ys p q =
    ap whole (run_append (Left.columns []) xs ys ∙ ap (λ (l : Left). run l ys) (whole_is_none (run (Left.columns []) xs) p)) ∙ q

-- between two sequences a byte below 0x80 is a sequence of its own
pub begun_ascii : (b : ℕ) → b < 0x80 → begun table37 b ≡ Left.columns []
begun_ascii b h = rw (le-leb 0 b zero-le, le-leb b 0x7f (omega arith))

pub run_ascii_byte : (b : ℕ) (bs : List ℕ) → b < 0x80 → run (Left.columns []) (b ∷ bs) ≡ run (Left.columns []) bs
unfolding run
run_ascii_byte b bs h = ap (λ (l : Left). run l bs) (begun_ascii b h)

run_ascii : (bs : List ℕ) → ((k : ℕ) → k < length bs → get_or bs k 0 < 0x80) → run (Left.columns []) bs ≡ Left.columns []
unfolding run
run_ascii [] h = refl
run_ascii (b ∷ bs) h = run_ascii_byte b bs (h 0 (omega arith)) ∙ run_ascii bs (λ k g. h (suc k) (omega arith))

-- a list whose bytes are all below 0x80 is well-formed
pub well_formed_ascii : (bs : List ℕ) → ((k : ℕ) → k < length bs → get_or bs k 0 < 0x80) → well_formed bs ≡ true
unfolding well_formed
well_formed_ascii bs h = ap whole (run_ascii bs h)
