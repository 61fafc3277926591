-- The pieces of a spelling by the tests that the code makes: base name, dimensions, own name. Each law is one case of the definitions.
use Rattle.std.proofs.lemmas.Option.{none-some}
use Rattle.std.specs.Prelude.{Option, None, Some, Result, Ok, Err}
use Rattle.std.specs.Result.{result_ok}
use mathlib.Core.Path.{◌≡◌, refl, sym, ap, ◌∙◌}
use mathlib.Core.Bool.{Bool as Boolean, true, false, cond}
use mathlib.Core.List.{List, [], ◌∷◌, ◌++◌}
use Prim.Native.Nat.{ℕ, suc, ◌<◌}
use native.Mathlib.Decide.{ℕ_discrete}
use native.Mathlib.Omega.{arith}
use borrow.Author.Tests.{ne_eqb}
use lib.Dec.{eqb}
use lib.ListN.{length}
use Rattle.codes.specs.Table.{Table, lookup}
use Rattle.codes.specs.Microsoft.{D3D_SHADER_VARIABLE_TYPE, variable_type_number, variable_classes}
use Rattle.codes.specs.Variable.{class_enumerator, class_answer, base_type_row, base_types, base_type_answer}
use Rattle.codes.specs.declared.variable.VariableClass.{VariableClass}
use Rattle.codes.specs.declared.variable.BaseType.{BaseType}
use Rattle.codes.specs.declared.variable.BaseType.TheVariants.{Bool, Int, Float, Uint, Double}
use Rattle.codes.specs.declared.unknown.UnknownCode.{UnknownCode}
use Rattle.codes.proofs.BaseTypes.{base_type_both_ways}
use Rattle.reflection.specs.declared.TypeDesc.{TypeDesc}
use Rattle.tables.specs.Nodes.{◌>>=◌}
use Rattle.text_output.specs.Digits.{decimal}
use Rattle.spelling.specs.Names.{base_names, name_in, base_name}
use Rattle.spelling.specs.Spelling.{class_dimensions, dimensions, array_suffix, numeric_name, own_name, by_name, type_spelling, is_spelled, bytes_of}

pub spelled_bytes : (o : Option (List ℕ)) → is_spelled o ≡ true → o ≡ Some (bytes_of o)
spelled_bytes None e = cc
spelled_bytes (Some bytes) e = refl

-- the rows of the variable types that have a name are those of BaseType
abbrev named_rows : List (D3D_SHADER_VARIABLE_TYPE × List ℕ) → Table D3D_SHADER_VARIABLE_TYPE
named_rows [] = []
named_rows (row ∷ rows) = (row.0, variable_type_number row.0) ∷ named_rows rows

unnamed : (names : List (D3D_SHADER_VARIABLE_TYPE × List ℕ)) (n : ℕ) → lookup (named_rows names) n ≡ None → name_in names n ≡ None
unfolding lookup
unnamed [] n e = refl
unnamed (row ∷ rows) n e = go (eqb (variable_type_number row.0) n) (unnamed rows n) e
  where
    go : (b : Boolean) → (lookup (named_rows rows) n ≡ None → name_in rows n ≡ None)
        → ◌≡◌ {A = Option (D3D_SHADER_VARIABLE_TYPE × ℕ)}
        (elim b [ true ↦ Some (row.0, variable_type_number row.0) | false ↦ lookup (named_rows rows) n ]) None
        → cond b (Some row.1) (name_in rows n) ≡ None
    go true later e = absurd (none-some _ (sym e))
    go false later e = later e

module _ (n : ℕ) where
  base_known : (x : BaseType) → Some (base_type_row x) ≡ lookup base_types n → base_name n ≡ name_in base_names (base_type_row x).1
  unfolding base_name
  base_known x e = ap (name_in base_names) (sym (base_type_both_ways.to_from n x e))

  base_unknown : None ≡ lookup base_types n → base_name n ≡ None
  unfolding base_name base_types
  base_unknown e = unnamed base_names n (sym e)

base_spelled : (x : BaseType) → is_spelled (name_in base_names (base_type_row x).1) ≡ true
base_spelled Bool = refl
base_spelled Int = refl
base_spelled Float = refl
base_spelled Uint = refl
base_spelled Double = refl

-- by the base type that the number is
module _ (n : ℕ) where
  pub base_read : (x : BaseType) (r : Result BaseType UnknownCode) → base_type_answer r ≡ lookup base_types n → Some x ≡ result_ok r
      → base_name n ≡ Some (bytes_of (name_in base_names (base_type_row x).1))
  base_read x (Ok y) e is = let same : y ≡ x = cc in base_known n x (rw same at e) ∙ spelled_bytes _ (base_spelled x)
  base_read x (Err _) e is = cc

  pub base_unread : (r : Result BaseType UnknownCode) → base_type_answer r ≡ lookup base_types n → None ≡ result_ok r → base_name n ≡ None
  base_unread (Ok y) e is = cc
  base_unread (Err _) e is = base_unknown n e

-- by the class that the number is
module _ (class rows columns : ℕ) where
  pub class_read : (x : VariableClass) (r : Result VariableClass UnknownCode) → class_answer r ≡ lookup variable_classes class → Some x ≡ result_ok r
      → dimensions class rows columns ≡ class_dimensions (class_enumerator x) rows columns
  unfolding dimensions ◌>>=◌
  class_read x (Ok y) e is = let same : y ≡ x = cc in rw (← e, same)
  class_read x (Err _) e is = cc

  pub class_unread : (r : Result VariableClass UnknownCode) → class_answer r ≡ lookup variable_classes class → None ≡ result_ok r
      → dimensions class rows columns ≡ None
  unfolding dimensions ◌>>=◌
  class_unread (Ok y) e is = cc
  class_unread (Err _) e is = rw (← e)

  pub scalar_dimensions : class ≡ 0 → dimensions class rows columns ≡ Some []
  unfolding dimensions lookup variable_classes ◌>>=◌
  scalar_dimensions e = rw e

  pub vector_dimensions : class ≡ 1 → dimensions class rows columns ≡ Some (decimal columns)
  unfolding dimensions lookup variable_classes ◌>>=◌
  vector_dimensions e = rw e

  pub matrix_dimensions : 1 < class → class < 4 → dimensions class rows columns ≡ Some (decimal rows ++ (120 ∷ decimal columns))
  unfolding dimensions lookup variable_classes ◌>>=◌
  matrix_dimensions low high =
      elim (ℕ_discrete class 2) [
        | yes e ↦ rw e
        | no n ↦ let e : class ≡ 3 = omega arith in rw e
      ]

-- a type by its own name, if that is not empty
module _ (name : List ℕ) (t : TypeDesc) (own : by_name t ≡ true) where
  own_name_by : (empty : Boolean) → eqb (length name) 0 ≡ empty → own_name name ≡ cond empty None (Some name)
  own_name_by empty e = go name e
    where
      go : (l : List ℕ) → eqb (length l) 0 ≡ empty → own_name l ≡ cond empty None (Some l)
      go [] h = rw (← h)
      go (b ∷ bs) h = rw (← h, ne_eqb (suc (length bs)) 0 (λ z. omega arith))

  pub own_named : eqb (length name) 0 ≡ false → type_spelling name t ≡ Some name
  unfolding type_spelling
  own_named e = rw own (own_name_by false e)

  pub own_nameless : eqb (length name) 0 ≡ true → type_spelling name t ≡ None
  unfolding type_spelling
  own_nameless e = rw own (own_name_by true e)

-- a base and dimensions give a numeric name
numeric_from : (base dims : Option (List ℕ)) → List ℕ → Option (List ℕ)
numeric_from base dims suffix = base >>= λ b. dims >>= λ d. Some (b ++ (d ++ suffix))

from_spelled : (base dims : Option (List ℕ)) (suffix : List ℕ) → is_spelled base ≡ true
    → is_spelled (numeric_from base dims suffix) ≡ is_spelled dims
unfolding numeric_from ◌>>=◌
from_spelled None dims suffix e = cc
from_spelled (Some b) None suffix e = refl
from_spelled (Some b) (Some d) suffix e = refl

from_bytes : (base dims : Option (List ℕ)) (suffix : List ℕ) → is_spelled (numeric_from base dims suffix) ≡ true
    → bytes_of (numeric_from base dims suffix) ≡ bytes_of base ++ (bytes_of dims ++ suffix)
unfolding numeric_from ◌>>=◌
from_bytes None dims suffix e = cc
from_bytes (Some b) None suffix e = cc
from_bytes (Some b) (Some d) suffix e = refl

-- a type by its numbers
module _ (name : List ℕ) (t : TypeDesc) (numbers : by_name t ≡ false) where
  by_numbers_lem : type_spelling name t ≡ numeric_from (base_name t.var_type) (dimensions t.class t.rows t.columns) (array_suffix t.elements)
  unfolding type_spelling numeric_name numeric_from
  by_numbers_lem = rw numbers

  pub numbers_spelled : is_spelled (base_name t.var_type) ≡ true
      → is_spelled (type_spelling name t) ≡ is_spelled (dimensions t.class t.rows t.columns)
  numbers_spelled e = ap is_spelled by_numbers_lem ∙ from_spelled (base_name t.var_type) _ _ e

  pub numbers_bytes : is_spelled (type_spelling name t) ≡ true
      → bytes_of (type_spelling name t)
      ≡ bytes_of (base_name t.var_type) ++ (bytes_of (dimensions t.class t.rows t.columns) ++ array_suffix t.elements)
  numbers_bytes e = ap bytes_of by_numbers_lem ∙ from_bytes (base_name t.var_type) _ _ (sym (ap is_spelled by_numbers_lem) ∙ e)

  pub no_base : base_name t.var_type ≡ None → type_spelling name t ≡ None
  unfolding numeric_from ◌>>=◌
  no_base e = by_numbers_lem ∙ rw e

  module _ {base : List ℕ} (named : base_name t.var_type ≡ Some base) where
    pub no_dimensions : dimensions t.class t.rows t.columns ≡ None → type_spelling name t ≡ None
    unfolding numeric_from ◌>>=◌
    no_dimensions e = by_numbers_lem ∙ rw (named, e)

    pub base_and_dimensions : {dims : List ℕ} → dimensions t.class t.rows t.columns ≡ Some dims
        → type_spelling name t ≡ Some (base ++ (dims ++ array_suffix t.elements))
    unfolding numeric_from ◌>>=◌
    base_and_dimensions e = by_numbers_lem ∙ rw (named, e)
