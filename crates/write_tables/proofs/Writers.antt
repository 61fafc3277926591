-- Where the writer stands after a call that placed no type, and words that were appended to its output.
use mathlib.Core.Path.{◌≡◌, refl, ap, ◌∙◌, subst}
use mathlib.Core.List.{List}
use Prim.Native.Nat.{ℕ}
use Rattle.text_output.specs.declared.output.Output.{Output}
use Rattle.text_output.specs.Output.{Appended}
use Rattle.write_texts.specs.Bytes.{joined_bytes}
use Rattle.write_texts.specs.Writer.{cursor_of, SameLent, SameTypes}
use Rattle.write_texts.specs.declared.writer.Writer.{Writer}
use Rattle.write_tables.specs.BuffersPlaced.{beginning}
use Rattle.write_tables.specs.RecordsPut.{WordsPut}
use Rattle.write_tables.proofs.Advance.{moved_to}

pub same_lent : (w : Writer) → SameLent w w
same_lent w = record { scratch = refl; out = refl; bytes = refl }

pub lent_then : {w₀ w₁ w₂ : Writer} → SameLent w₀ w₁ → SameLent w₁ w₂ → SameLent w₀ w₂
lent_then p q = record { scratch = q.scratch ∙ p.scratch; out = q.out ∙ p.out; bytes = q.bytes ∙ p.bytes }

pub same_types : (w : Writer) → SameTypes w w
same_types w = record { lent = same_lent w; node = refl; member_types = refl; root_types = refl }

pub types_then : {w₀ w₁ w₂ : Writer} → SameTypes w₀ w₁ → SameTypes w₁ w₂ → SameTypes w₀ w₂
types_then p q = record {
  lent = lent_then p.lent q.lent;
  node = q.node ∙ p.node;
  member_types = q.member_types ∙ p.member_types;
  root_types = q.root_types ∙ p.root_types;
}

module _ {before after : Writer} (same : SameTypes before after) where
  pub moved_same : (at : ℕ) → moved_to at (cursor_of after) ≡ moved_to at (cursor_of before)
  moved_same at = λ i. record { at = at; node = same.node i; member_types = same.member_types i; root_types = same.root_types i }

  pub cursor_moved : cursor_of after ≡ moved_to after.out.now.at (cursor_of before)
  cursor_moved = moved_same after.out.now.at

  -- No type was placed before, so none is after.
  pub still_beginning : cursor_of before ≡ beginning before.out.now.at → cursor_of after ≡ beginning after.out.now.at
  still_beginning fresh = moved_same after.out.now.at ∙ ap (moved_to after.out.now.at) fresh

pub appended_as : {before after : Output} {words words' : List ℕ} → words ≡ words' → Appended before after (joined_bytes words)
    → Appended before after (joined_bytes words')
appended_as {before} {after} is p = subst (λ ws. Appended before after (joined_bytes ws)) is p

-- The writer with this output.
abbrev pub with_output : Writer → Output → Writer
with_output w out = record { scratch = w.scratch; out = record w.out { now = out }; node = w.node; member_types = w.member_types; root_types = w.root_types }

pub words_put : {w : Writer} {out : Output} {words words' : List ℕ} → words ≡ words' → Appended w.out.now out (joined_bytes words)
    → WordsPut words' w (with_output w out)
words_put {w} {out} is p = record {
  put = (appended_as is p).text;
  scratch = refl;
  same = record { lent = record { scratch = refl; out = refl; bytes = p.same }; node = refl; member_types = refl; root_types = refl };
}
