-- The line of a text that spells a type.
use Rattle.std.specs.Prelude.{List, [], ◌∷◌, ◌++◌, ℕ}
use Rattle.std.specs.Fmt.{decimal}
use Rattle.spelling_parse.specs.declared.TypeSpelling.{TypeSpelling}
use Rattle.stdout.specs.Output.{fields}

-- Class, base, rows, columns and elements, parted by tabs.
abbrev pub numbers_line : TypeSpelling → List ℕ
numbers_line t = decimal t.class ++ fields (t.base ∷ t.rows ∷ t.columns ∷ t.elements ∷ []) ++ 10 ∷ []
