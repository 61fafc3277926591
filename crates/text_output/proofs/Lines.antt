-- A table of texts as one text, each a line: line n of it is text n. The tables of names and sentences were such texts once; today a `match` on an enum
-- gives each of them, and the law stands for texts that are read by lines.
use Rattle.std.specs.Prelude.{cond}
use mathlib.Core.Path.{◌≡◌, refl, ap, ◌∙◌}
use mathlib.Core.Bool.{Bool, true, false, not, ◌&&◌}
use mathlib.Core.List.{List, [], ◌∷◌, ◌++◌}
use Prim.Native.Nat.{ℕ, zero, suc}
use borrow.Author.Tests.{not-true}
use lib.Dec.{eqb}
use lib.ListN.{get_or}
use Rattle.text.proofs.Bools.{and-true}

-- The bytes before the first newline, and those after it.
unfoldable pub first_line : List ℕ → List ℕ
first_line [] = []
first_line (b ∷ bs) = cond (eqb b 10) [] (b ∷ first_line bs)

unfoldable pub after_line : List ℕ → List ℕ
after_line [] = []
after_line (b ∷ bs) = cond (eqb b 10) bs (after_line bs)

-- What follows n lines.
unfoldable pub after_lines : ℕ → List ℕ → List ℕ
after_lines zero text = text
after_lines (suc n) text = after_lines n (after_line text)

-- Line n, counted from 0; empty where there is none.
abbrev pub line : ℕ → List ℕ → List ℕ
line n text = first_line (after_lines n text)

-- the byte before a text is a newline, or is not
module _ (b : ℕ) (bs : List ℕ) where
  line_ends : eqb b 10 ≡ true → first_line (b ∷ bs) ≡ []
  unfolding first_line
  line_ends e = rw (first_line, e)

  line_goes_on : eqb b 10 ≡ false → first_line (b ∷ bs) ≡ b ∷ first_line bs
  unfolding first_line
  line_goes_on e = rw (first_line, e)

  after_newline : eqb b 10 ≡ true → after_line (b ∷ bs) ≡ bs
  unfolding after_line
  after_newline e = rw (after_line, e)

  after_other : eqb b 10 ≡ false → after_line (b ∷ bs) ≡ after_line bs
  unfolding after_line
  after_other e = rw (after_line, e)

pub no_lines : (n : ℕ) → after_lines n [] ≡ []
unfolding after_lines after_line
no_lines zero = refl
no_lines (suc n) = no_lines n

-- Texts as lines, and whether each is a line: no newline in it.
abbrev pub lines : List (List ℕ) → List ℕ
lines [] = []
lines (text ∷ texts) = text ++ (10 ∷ lines texts)

abbrev is_line : List ℕ → Bool
is_line [] = true
is_line (b ∷ bs) = not (eqb b 10) && is_line bs

abbrev pub are_lines : List (List ℕ) → Bool
are_lines [] = true
are_lines (text ∷ texts) = is_line text && are_lines texts

first_of : (text rest : List ℕ) → is_line text ≡ true → first_line (text ++ (10 ∷ rest)) ≡ text
unfolding first_line
first_of [] rest h = refl
first_of (b ∷ bs) rest h =
    let both = and-true (not (eqb b 10)) (is_line bs) h in
    line_goes_on b (bs ++ (10 ∷ rest)) (not-true (eqb b 10) both.0) ∙ ap (λ (l : List ℕ). b ∷ l) (first_of bs rest both.1)

after_of : (text rest : List ℕ) → is_line text ≡ true → after_line (text ++ (10 ∷ rest)) ≡ rest
unfolding after_line
after_of [] rest h = refl
after_of (b ∷ bs) rest h =
    let both = and-true (not (eqb b 10)) (is_line bs) h in
    after_other b (bs ++ (10 ∷ rest)) (not-true (eqb b 10) both.0) ∙ after_of bs rest both.1

line_of : (texts : List (List ℕ)) → are_lines texts ≡ true → (n : ℕ) → line n (lines texts) ≡ get_or texts n []
unfolding after_lines first_line
line_of [] h n = ap first_line (no_lines n)
line_of (text ∷ texts) h zero = first_of text (lines texts) (and-true (is_line text) (are_lines texts) h).0
line_of (text ∷ texts) h (suc n) =
    let both = and-true (is_line text) (are_lines texts) h in
    ap (line n) (after_of text (lines texts) both.0) ∙ line_of texts both.1 n

-- The law of a table: where it is the texts as lines (two computed tests), its entry n is text n, for every n.
pub entry_is : (texts : List (List ℕ)) {table : List ℕ} → table ≡ lines texts → are_lines texts ≡ true → (n : ℕ) → line n table ≡ get_or texts n []
entry_is texts same each n = ap (line n) same ∙ line_of texts each n
