-- Vocabulary of internal contracts: no contract of an exported function and no demand cites it.
-- What comparing the variables of two buffers answers: whether they are equal, and where they are, the place after them.
use Rattle.std.specs.Prelude.{◌≡◌, Bool, List, ℕ, ◌+◌, Option, is_some, IfSome}
use Rattle.reflection.specs.declared.Text.{Text}
use Rattle.tables.specs.Decode.{records_from}
use Rattle.write_spec.specs.Same.{same_list, same_variable}
use Rattle.tables.specs.TableReflection.{root_at, variable_in_table}
use Rattle.compare.specs.declared.reflections.Place.{Place}

-- n variables of each table, from variable j on.
pub record VariablesCompared (same : Text → Text → Bool) (variables types other-variables other-types : List ℕ) (j n : ℕ) (r : Option Place) : Type 0 where
  pub answer : is_some r ≡ same_list (same_variable same same) (records_from (variable_in_table variables types) j n)
      (records_from (variable_in_table other-variables other-types) j n)
  pub after : IfSome r (λ p. (p.variable ≡ j + n) × ((p.root ≡ root_at types (j + n)) × (p.other_root ≡ root_at other-types (j + n))))
