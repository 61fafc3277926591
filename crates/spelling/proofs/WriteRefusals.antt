-- The definitions of `hlsl_type_name` and of the declaration line, by the tests in their order: not readable, no spelling, then the bytes.
use Rattle.std.specs.Option.{ok_or}
use Rattle.std.specs.Prelude.{Option, Some, None, Ok, Err}
use Rattle.reflection.specs.declared.refusal.Refusal.TheVariants.{NotReadable, NoSpelling}
use mathlib.Core.Path.{◌≡◌, refl, ap, ◌∙◌}
use mathlib.Core.Bool.{Bool, true, false, ◌&&◌, cond, true≢false}
use mathlib.Core.List.{List, [], ◌∷◌, ◌++◌}
use Prim.Native.Nat.{ℕ}
use Rattle.reflection.specs.Outcome.{Outcome}
use Rattle.reflection.specs.declared.Text.{Text}
use Rattle.reflection.specs.declared.TypeDesc.{TypeDesc}
use Rattle.reflection.specs.Texts.{text_bytes}
use Rattle.reflection.specs.Fits.{fits_u16}
use Rattle.text_output.specs.Printable.{printable}
use Rattle.text_output.specs.declared.output.Output.{Output}
use Rattle.spelling.specs.Parts.{MayPut, Puts}
use Rattle.spelling.specs.Spelling.{fields_fit, type_spelling, is_spelled, bytes_of, spelled_or_refused, declared, type_name, declaration}
use Rattle.spelling.proofs.WritePieces.{spelled_bytes}

-- what was put for a text that may not be there is what was put for the text or the refusal
module _ {outcome : Outcome (List ℕ)} (text : Option (List ℕ)) (before after : Output) (is : outcome ≡ spelled_or_refused text) where
  pub put_or_refused : (done : Option (Unit {0})) → MayPut text before after done → Puts outcome before after (ok_or done NoSpelling)
  put_or_refused (Some done) p = record { bytes = p.bytes; is = is ∙ ap spelled_or_refused p.is; put = p.put }
  put_or_refused None p = record { bytes = p.bytes; is = is ∙ ap spelled_or_refused p.is; put = p.put }

-- a declaration line by the spelling of its type
abbrev pub declared_line : List ℕ → Outcome (List ℕ) → Outcome (List ℕ)
declared_line name (Ok type) = Ok (type ++ (32 ∷ (name ++ (59 ∷ []))))
declared_line name (Err why) = Err why

-- the fields of 16 bits, as `reflection` tests them
pub same_fit : (t : TypeDesc) → fields_fit t ≡ fits_u16 t
unfolding fields_fit fits_u16
same_fit t = refl

module _ (chunk edits : List ℕ) (t : TypeDesc) where
  -- a type that is not readable has no spelling and no declaration
  pub type_unreadable : (printable chunk edits t.name && fields_fit t) ≡ false → type_name chunk edits t ≡ Err NotReadable
  unfolding type_name
  type_unreadable e = rw e

  pub type_by_spelling : (printable chunk edits t.name && fields_fit t) ≡ true
      → type_name chunk edits t ≡ spelled_or_refused (type_spelling (text_bytes chunk edits t.name) t)
  unfolding type_name
  type_by_spelling e = rw e

  pub type_spelled : printable chunk edits t.name ≡ true → fields_fit t ≡ true
      → is_spelled (type_spelling (text_bytes chunk edits t.name) t) ≡ true
      → type_name chunk edits t ≡ Ok (bytes_of (type_spelling (text_bytes chunk edits t.name) t))
  type_spelled own fit e =
      type_by_spelling (rw (own, fit) refl) ∙ ap spelled_or_refused (spelled_bytes (type_spelling (text_bytes chunk edits t.name) t) e)

  -- the declaration of a variable, by the spelling of its type
  module _ (name : Text) where
    pub declared_type_unreadable : (printable chunk edits t.name && fields_fit t) ≡ false → declaration chunk edits t name ≡ Err NotReadable
    unfolding declaration
    declared_type_unreadable e = go (printable chunk edits t.name) (fields_fit t) e
      where
        line : Outcome (List ℕ)
        line = spelled_or_refused (declared (text_bytes chunk edits name) (type_spelling (text_bytes chunk edits t.name) t))

        go : (a b : Bool) → (a && b) ≡ false → cond (a && (b && printable chunk edits name)) line (Err NotReadable) ≡ Err NotReadable
        go true true h = absurd (true≢false h)
        go true false h = refl
        go false b h = refl

    pub declared_name_unprintable : printable chunk edits name ≡ false → declaration chunk edits t name ≡ Err NotReadable
    unfolding declaration
    declared_name_unprintable e = go (printable chunk edits t.name) (fields_fit t)
      where
        line : Outcome (List ℕ)
        line = spelled_or_refused (declared (text_bytes chunk edits name) (type_spelling (text_bytes chunk edits t.name) t))

        go : (a b : Bool) → cond (a && (b && printable chunk edits name)) line (Err NotReadable) ≡ Err NotReadable
        go true true = rw e
        go true false = refl
        go false b = refl

    pub declared_by_type : printable chunk edits name ≡ true
        → declaration chunk edits t name ≡ declared_line (text_bytes chunk edits name) (type_name chunk edits t)
    unfolding type_name declaration
    declared_by_type e = rw e (go (printable chunk edits t.name) (fields_fit t) (type_spelling (text_bytes chunk edits t.name) t))
      where
        go : (a b : Bool) (o : Option (List ℕ)) → cond (a && (b && true)) (spelled_or_refused (declared (text_bytes chunk edits name) o)) (Err NotReadable)
            ≡ declared_line (text_bytes chunk edits name) (cond (a && b) (spelled_or_refused o) (Err NotReadable))
        go true true (Some bytes) = refl
        go true true None = refl
        go true false o = refl
        go false b o = refl
