-- Records of a reflection are equal where their names, their numbers, as one list in the order of the fields, and their other parts are equal.
use mathlib.Core.Path.{◌≡◌}
use mathlib.Core.List.{List, [], ◌∷◌}
use Prim.Native.Nat.{ℕ}
use lib.ListN.{get_or}
use Rattle.reflection.specs.Reflection.{TypeNumbers, CBufferVariable, CBufferDef, ResourceBinding, ResourceDef}

abbrev pub numbers_of_type : TypeNumbers → List ℕ
numbers_of_type k = k.class ∷ k.var_type ∷ k.rows ∷ k.columns ∷ k.elements ∷ k.extra0 ∷ k.extra1 ∷ k.extra2 ∷ k.extra3 ∷ []

pub equal_type_numbers : (k l : TypeNumbers) → numbers_of_type k ≡ numbers_of_type l → k ≡ l
equal_type_numbers k l numbers = λ i. record {
  class = get_or (numbers i) 0 0;
  var_type = get_or (numbers i) 1 0;
  rows = get_or (numbers i) 2 0;
  columns = get_or (numbers i) 3 0;
  elements = get_or (numbers i) 4 0;
  extra0 = get_or (numbers i) 5 0;
  extra1 = get_or (numbers i) 6 0;
  extra2 = get_or (numbers i) 7 0;
  extra3 = get_or (numbers i) 8 0;
}

module _ {N : Type 0} where
  abbrev pub numbers_of_binding : ResourceBinding N → List ℕ
  numbers_of_binding b =
      b.input_type ∷ b.return_type ∷ b.dimension ∷ b.num_samples ∷ b.bind_point ∷ b.bind_count ∷ b.flags ∷ b.space ∷ b.id ∷ []

  pub equal_bindings : (b c : ResourceBinding N) → b.name ≡ c.name → numbers_of_binding b ≡ numbers_of_binding c → b ≡ c
  equal_bindings b c name numbers = λ i. record {
    name = name i;
    input_type = get_or (numbers i) 0 0;
    return_type = get_or (numbers i) 1 0;
    dimension = get_or (numbers i) 2 0;
    num_samples = get_or (numbers i) 3 0;
    bind_point = get_or (numbers i) 4 0;
    bind_count = get_or (numbers i) 5 0;
    flags = get_or (numbers i) 6 0;
    space = get_or (numbers i) 7 0;
    id = get_or (numbers i) 8 0;
  }

module _ {N D : Type 0} where
  abbrev pub numbers_of_variable : CBufferVariable N D → List ℕ
  numbers_of_variable v =
      v.offset ∷ v.size ∷ v.flags ∷ v.texture_start ∷ v.texture_size ∷ v.sampler_start ∷ v.sampler_size ∷ []

  pub equal_variables : (v w : CBufferVariable N D) → v.name ≡ w.name → numbers_of_variable v ≡ numbers_of_variable w
      → v.default-value ≡ w.default-value → v.var_type ≡ w.var_type → v ≡ w
  equal_variables v w name numbers default type = λ i. record {
    name = name i;
    offset = get_or (numbers i) 0 0;
    size = get_or (numbers i) 1 0;
    flags = get_or (numbers i) 2 0;
    default-value = default i;
    texture_start = get_or (numbers i) 3 0;
    texture_size = get_or (numbers i) 4 0;
    sampler_start = get_or (numbers i) 5 0;
    sampler_size = get_or (numbers i) 6 0;
    var_type = type i;
  }

  abbrev pub numbers_of_buffer : CBufferDef N D → List ℕ
  numbers_of_buffer b = b.size ∷ b.flags ∷ b.cb_type ∷ []

  pub equal_buffers : (b c : CBufferDef N D) → b.name ≡ c.name → numbers_of_buffer b ≡ numbers_of_buffer c → b.variables ≡ c.variables → b ≡ c
  equal_buffers b c name numbers variables = λ i. record {
    name = name i;
    size = get_or (numbers i) 0 0;
    flags = get_or (numbers i) 1 0;
    cb_type = get_or (numbers i) 2 0;
    variables = variables i;
  }

  abbrev pub numbers_of_def : ResourceDef N D → List ℕ
  numbers_of_def r = r.target_version ∷ r.compile_flags ∷ []

  pub equal_defs : (r q : ResourceDef N D) → numbers_of_def r ≡ numbers_of_def q → r.rd11 ≡ q.rd11 → r.creator ≡ q.creator
      → r.bindings ≡ q.bindings → r.constant_buffers ≡ q.constant_buffers → r ≡ q
  equal_defs r q numbers words creator bindings buffers = λ i. record {
    target_version = get_or (numbers i) 0 0;
    compile_flags = get_or (numbers i) 1 0;
    rd11 = words i;
    creator = creator i;
    bindings = bindings i;
    constant_buffers = buffers i;
  }
