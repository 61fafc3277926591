-- What a caller has of `parse_rdef`, from the five clauses of its contract: an answer with a header means that the chunk reads as one reflection, whose
-- header this is and whose rows the four tables hold, zeros after them; a refusal means that it does not read, and that the tables are zeros.
use Rattle.reflection.specs.Outcome.{Outcome}
use Rattle.reflection.specs.declared.refusal.Refusal.{Refusal}
use Rattle.std.specs.Prelude.{Ok, Err}
use mathlib.Core.Path.{◌≡◌}
use mathlib.Core.List.{List}
use Prim.Native.Nat.{ℕ}
use native.Mathlib.Omega.{arith}
use lib.ListN.{replicate}
use Rattle.reflection.specs.declared.Text.{Text}
use Rattle.reflection.specs.declared.ResourceDef.{ResourceDef as Header}
use Rattle.reflection.specs.Reflection.{ResourceDef}
use Rattle.tables.specs.Tables.{binding_rows, buffer_rows, variable_rows, type_rows, padded, table, header_of}
use Rattle.read.specs.Parsed.{parsed_of}

-- The outcome is one reflection, in a header and tables of that many words.
pub record Held (out : Outcome (ResourceDef Text Text)) (nb nf nv nt : ℕ) (h : Header) (bindings buffers variables types : List ℕ) : Type 0 where
  pub def : ResourceDef Text Text
  pub is : out ≡ Ok def
  pub header : h ≡ header_of def
  pub in_bindings : bindings ≡ padded nb (binding_rows def)
  pub in_buffers : buffers ≡ padded nf (buffer_rows def)
  pub in_variables : variables ≡ padded nv (variable_rows def)
  pub in_types : types ≡ padded nt (type_rows def)

-- The outcome is a refusal, and tables of that many words are zeros.
pub record Zeroed (out : Outcome (ResourceDef Text Text)) (nb nf nv nt : ℕ) (e : Refusal) (bindings buffers variables types : List ℕ) : Type 0 where
  pub is : out ≡ Err e
  pub in_bindings : bindings ≡ replicate nb 0
  pub in_buffers : buffers ≡ replicate nf 0
  pub in_variables : variables ≡ replicate nv 0
  pub in_types : types ≡ replicate nt 0

module _ (nb nf nv nt : ℕ) {bindings buffers variables types : List ℕ} where
  pub held : (out : Outcome (ResourceDef Text Text)) (h : Header) → Ok h ≡ parsed_of out
      → bindings ≡ table binding_rows out nb → buffers ≡ table buffer_rows out nf → variables ≡ table variable_rows out nv → types ≡ table type_rows out nt
      → Held out nb nf nv nt h bindings buffers variables types
  unfolding parsed_of table
  held (Ok def) h answer b f v t = record { def = def; is = cc; header = cc; in_bindings = b; in_buffers = f; in_variables = v; in_types = t }
  held (Err d) h answer b f v t = absurd (let apart : ◌≡◌ {A = ℕ} 0 1 = cc in omega arith)

  pub zeroed : (out : Outcome (ResourceDef Text Text)) (e : Refusal) → Err e ≡ parsed_of out
      → bindings ≡ table binding_rows out nb → buffers ≡ table buffer_rows out nf → variables ≡ table variable_rows out nv → types ≡ table type_rows out nt
      → Zeroed out nb nf nv nt e bindings buffers variables types
  unfolding parsed_of table
  zeroed (Ok def) e answer b f v t = absurd (let apart : ◌≡◌ {A = ℕ} 0 1 = cc in omega arith)
  zeroed (Err d) e answer b f v t = record { is = cc; in_bindings = b; in_buffers = f; in_variables = v; in_types = t }
