-- What is lent as words is words: a clause of `write_and_read`. No demand cites it.
use Rattle.std.specs.Prelude.{List, [], ◌∷◌, ℕ, ◌<◌, get_or}
use Rattle.reflection.specs.declared.ResourceDef.{ResourceDef as Header}
use Rattle.theorem_round_trip.specs.RoundTrip.{EachIsWord}
use Rattle.theorem_functions.specs.Calls.{Lent}

abbrev pub AreWords : List ℕ → Type 0
AreWords t = (j : ℕ) → get_or t j 0 < 4294967296

pub record WordsLent (h : Header) (bindings_lent buffers_lent variables_lent types_lent : List ℕ) : Type 0 where
  pub header : EachIsWord (h.target_version ∷ h.compile_flags ∷ h.rd11.identifier ∷ h.rd11.resource_binding_stride
      ∷ h.rd11.interface_slot_count ∷ [])
  pub bindings : AreWords bindings_lent
  pub buffers : AreWords buffers_lent
  pub variables : AreWords variables_lent
  pub types : AreWords types_lent

abbrev pub LentWords : Lent → Type 0
LentWords l = WordsLent l.header l.bindings l.buffers l.variables l.types
