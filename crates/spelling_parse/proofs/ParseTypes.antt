-- What a spelling comes to, from what its parts are: the code takes a text apart where the definitions do.
use Rattle.std.specs.Prelude.{Option, Some, None}
use mathlib.Core.Path.{◌≡◌, refl, ap, ◌∙◌}
use mathlib.Core.Bool.{Bool, true, false, cond}
use mathlib.Core.List.{List, [], ◌∷◌}
use Prim.Native.Nat.{ℕ, suc, ◌-◌, ◌<◌}
use native.Mathlib.Omega.{arith}
use borrow.Author.Tests.{eq-eqb, ne_eqb, eqb-true}
use lib.Dec.{eqb}
use lib.ListN.{length, get_or, take}
use Rattle.tables.specs.Nodes.{◌>>=◌}
use Rattle.spelling.specs.Names.{base_number}
use Rattle.spelling_parse.specs.Grammar.{number, split_once, without_last, before_digit, from_digit, Shape, shape_of, shape, core}
use Rattle.spelling_parse.specs.Grammar.{type_from_text, parse_type}
use Rattle.spelling_parse.specs.GrammarParts.{elements_of}
use Rattle.spelling_parse.proofs.ParseParts.{without_last_lem}

-- The number of elements: what follows the '[' is empty; or its last byte is no ']'; or it is.
module _ (rest : List ℕ) where
  pub elements_empty : length rest ≡ 0 → elements_of rest ≡ None
  unfolding elements_of without_last ◌>>=◌
  elements_empty e = go rest e
    where
      go : (l : List ℕ) → length l ≡ 0 → (without_last 93 l >>= number) ≡ None
      go [] h = refl
      go (b ∷ bs) h = absurd (omega arith)

  elements_by_last : (closed : Bool) → without_last 93 rest ≡ cond closed (Some (take (length rest - 1) rest)) None
      → elements_of rest ≡ cond closed (number (take (length rest - 1) rest)) None
  unfolding elements_of ◌>>=◌
  elements_by_last true e = ap (λ (o : Option (List ℕ)). o >>= number) e
  elements_by_last false e = ap (λ (o : Option (List ℕ)). o >>= number) e

  pub elements_open : 0 < length rest → (get_or rest (length rest - 1) 0 ≡ 93 → ⊥) → elements_of rest ≡ None
  elements_open some h =
      elements_by_last false (without_last_lem 93 rest (length rest - 1) (omega arith) ∙ rw (ne_eqb (get_or rest (length rest - 1) 0) 93 h))

  pub elements_closed : 0 < length rest → get_or rest (length rest - 1) 0 ≡ 93 → elements_of rest ≡ number (take (length rest - 1) rest)
  elements_closed some h =
      elements_by_last true (without_last_lem 93 rest (length rest - 1) (omega arith) ∙ rw (eq-eqb (get_or rest (length rest - 1) 0) 93 h))

pub ruleset elements = (elements_empty, elements_open, elements_closed)

-- A scalar without dimensions; a matrix with an 'x' in them, else a vector.
pub shape_empty : (dims : List ℕ) → eqb (length dims) 0 ≡ true → shape dims ≡ shape []
shape_empty [] h = refl
shape_empty (b ∷ bs) h = let some : suc (length bs) ≡ 0 = eqb-true (suc (length bs)) 0 h in absurd (omega arith)

module _ (dims : List ℕ) (some : eqb (length dims) 0 ≡ false) where
  shape_split : (parts : Option (List ℕ × List ℕ)) → split_once 120 dims ≡ parts → shape dims ≡ shape_of dims parts
  shape_split parts e = go dims some e
    where
      go : (l : List ℕ) → eqb (length l) 0 ≡ false → split_once 120 l ≡ parts → shape l ≡ shape_of l parts
      go [] h e = cc
      go (b ∷ bs) h e = ap (shape_of (b ∷ bs)) e

  module _ {rows columns : List ℕ} (parted : split_once 120 dims ≡ Some (rows, columns)) where
    pub no_rows : None ≡ number rows → None ≡ shape dims
    unfolding ◌>>=◌
    no_rows e = rw (shape_split (Some (rows, columns)) parted, ← e)

    pub no_columns : {n : ℕ} → Some n ≡ number rows → None ≡ number columns → None ≡ shape dims
    unfolding ◌>>=◌
    no_columns r e = rw (shape_split (Some (rows, columns)) parted, ← r, ← e)

    pub matrix_shape : {n m : ℕ} → Some n ≡ number rows → Some m ≡ number columns → Some (3, (n, m)) ≡ shape dims
    unfolding ◌>>=◌
    matrix_shape r e = rw (shape_split (Some (rows, columns)) parted, ← r, ← e)

  module _ (whole : split_once 120 dims ≡ None) where
    pub no_number : None ≡ number dims → None ≡ shape dims
    unfolding ◌>>=◌
    no_number e = rw (shape_split None whole, ← e)

    pub vector_shape : {m : ℕ} → Some m ≡ number dims → Some (1, (1, m)) ≡ shape dims
    unfolding ◌>>=◌
    vector_shape e = rw (shape_split None whole, ← e)

-- A type without array suffix, by its base and shape.
module _ (text : List ℕ) (elements : ℕ) where
  pub no_base : None ≡ base_number (before_digit text) → None ≡ core text elements
  unfolding core ◌>>=◌
  no_base e = rw (← e)

  module _ {base : ℕ} (known : Some base ≡ base_number (before_digit text)) where
    pub no_shape : None ≡ shape (from_digit text) → None ≡ core text elements
    unfolding core ◌>>=◌
    no_shape e = rw (← known, ← e)

    pub base_and_shape : {s : Shape} → Some s ≡ shape (from_digit text)
        → Some (record { class = s.0; base = base; rows = s.1.0; columns = s.1.1; elements = elements }) ≡ core text elements
    unfolding core ◌>>=◌
    base_and_shape e = rw (← known, ← e)

then_then : {A B C : Type 0} (o : Option A) (f : A → Option B) (g : B → Option C) → (o >>= (λ a. f a >>= g)) ≡ ((o >>= f) >>= g)
unfolding ◌>>=◌
then_then (Some a) f g = refl
then_then None f g = refl

-- The whole text, by its first '['.
module _ (text : List ℕ) where
  pub plain_type : split_once 91 text ≡ None → core text 0 ≡ parse_type text
  unfolding parse_type
  plain_type e = rw e

  module _ {before after : List ℕ} (parted : split_once 91 text ≡ Some (before, after)) where
    array_by : parse_type text ≡ (elements_of after >>= core before)
    unfolding parse_type elements_of
    array_by = ap (type_from_text text) parted ∙ then_then (without_last 93 after) number (core before)

    pub no_elements : None ≡ elements_of after → None ≡ parse_type text
    unfolding ◌>>=◌
    no_elements e = rw (array_by, ← e)

    pub array_type : {elements : ℕ} → Some elements ≡ elements_of after → core before elements ≡ parse_type text
    unfolding ◌>>=◌
    array_type e = rw (array_by, ← e)
