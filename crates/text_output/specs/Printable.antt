-- Which names a spelling, a declaration and a listing take (document 01, "Spelling and listing": "a name out of place or not UTF-8 is 16").
use Rattle.std.specs.Prelude.{Bool, ◌&&◌, List, ℕ}
use Rattle.text.specs.Utf8.{well_formed}
use Rattle.reflection.specs.declared.Text.{Text}
use Rattle.reflection.specs.Texts.{in_place, text_bytes}

-- A name that can be printed: in place, and UTF-8.
unfoldable pub printable : List ℕ → List ℕ → Text → Bool
printable chunk edits name = in_place chunk edits name && well_formed (text_bytes chunk edits name)
