-- The names of the base types: document 01, "Spelling and listing" (`base_type_name` and `base_type_from` in the Rust).
use Rattle.std.specs.Prelude.{cond, List, [], ◌∷◌, ℕ, eqb, Option, None, Some}
use Rattle.text.specs.Same.{same_bytes}
use Rattle.codes.specs.Microsoft.{D3D_SHADER_VARIABLE_TYPE, D3D_SVT_BOOL, D3D_SVT_INT, D3D_SVT_FLOAT, D3D_SVT_UINT, D3D_SVT_DOUBLE}
use Rattle.codes.specs.Microsoft.{variable_type_number}
use Rattle.text_output.specs.Ascii.{ascii}

-- The variable types that are spelled by a word, and the word. No other has a spelling.
abbrev pub base_names : List (D3D_SHADER_VARIABLE_TYPE × List ℕ)
base_names =
    (D3D_SVT_BOOL, ascii "bool")
    ∷ (D3D_SVT_INT, ascii "int")
    ∷ (D3D_SVT_FLOAT, ascii "float")
    ∷ (D3D_SVT_UINT, ascii "uint")
    ∷ (D3D_SVT_DOUBLE, ascii "double")
    ∷ []

-- The name of the variable type that has a number, and the number of the variable type that has a name.
abbrev pub name_in : List (D3D_SHADER_VARIABLE_TYPE × List ℕ) → ℕ → Option (List ℕ)
name_in [] n = None
name_in (row ∷ rows) n = cond (eqb (variable_type_number row.0) n) (Some row.1) (name_in rows n)

abbrev pub number_in : List (D3D_SHADER_VARIABLE_TYPE × List ℕ) → List ℕ → Option ℕ
number_in [] text = None
number_in (row ∷ rows) text = cond (same_bytes text row.1) (Some (variable_type_number row.0)) (number_in rows text)

unfoldable pub base_name : ℕ → Option (List ℕ)
base_name n = name_in base_names n

unfoldable pub base_number : List ℕ → Option ℕ
base_number text = number_in base_names text
