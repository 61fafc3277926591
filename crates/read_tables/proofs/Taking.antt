-- A record is taken where its table has room, and refused where it has none: the steps of reading, in words of the tables' numbers of records.
use Rattle.std.specs.Prelude.{Err}
use Rattle.reflection.specs.declared.refusal.Refusal.TheVariants.{NoRoom}
use mathlib.Core.Path.{◌≡◌, ap, ◌∙◌}
use Prim.Native.Nat.{ℕ, suc, ◌+◌, ◌-◌, ◌≤◌, ◌<◌}
use native.Mathlib.Omega.{arith}
use Rattle.read_spec.specs.declared.Counts.{Counts}
use Rattle.read_spec.specs.Step.{Room, room, ReadStep, ◌>>=◌, take_binding, take_buffer, take_variable}
use Rattle.read_spec.proofs.Steps.{binding_none, binding_taken, buffer_none, buffer_taken, variable_none, variable_taken}
use Rattle.read_types.specs.Walked.{room_left}

-- One record more.
abbrev pub with_binding : Counts → Counts
with_binding n = record { bindings = n.bindings + 1; buffers = n.buffers; variables = n.variables; types = n.types }

abbrev pub with_buffer : Counts → Counts
with_buffer n = record { bindings = n.bindings; buffers = n.buffers + 1; variables = n.variables; types = n.types }

abbrev pub with_variable : Counts → Counts
with_variable n = record { bindings = n.bindings; buffers = n.buffers; variables = n.variables + 1; types = n.types }

none_left : (capacity n : ℕ) → capacity ≤ n → capacity - n ≡ 0
none_left capacity n full = omega arith

one_left : (capacity n : ℕ) → n < capacity → capacity - n ≡ suc (capacity - (n + 1))
one_left capacity n free = omega arith

module _ {A : Type 0} (capacity n : Counts) (g : Unit {0} → ReadStep A) where
  abbrev left : Room
  left = room_left capacity n

  pub no_binding : capacity.bindings ≤ n.bindings → (take_binding >>= g) left ≡ Err NoRoom
  no_binding full =
      ap (λ (k : ℕ). (take_binding >>= g) (room k left.buffers left.variables left.types)) (none_left capacity.bindings n.bindings full)
      ∙ binding_none 0 left.buffers left.variables left.types g

  pub one_binding_lem : n.bindings < capacity.bindings → (take_binding >>= g) left ≡ g tt (room_left capacity (with_binding n))
  one_binding_lem free =
      ap (λ (k : ℕ). (take_binding >>= g) (room k left.buffers left.variables left.types)) (one_left capacity.bindings n.bindings free)
      ∙ binding_taken _ left.buffers left.variables left.types g

  pub no_buffer : capacity.buffers ≤ n.buffers → (take_buffer >>= g) left ≡ Err NoRoom
  no_buffer full =
      ap (λ (k : ℕ). (take_buffer >>= g) (room left.bindings k left.variables left.types)) (none_left capacity.buffers n.buffers full)
      ∙ buffer_none left.bindings 0 left.variables left.types g

  pub one_buffer_lem : n.buffers < capacity.buffers → (take_buffer >>= g) left ≡ g tt (room_left capacity (with_buffer n))
  one_buffer_lem free =
      ap (λ (k : ℕ). (take_buffer >>= g) (room left.bindings k left.variables left.types)) (one_left capacity.buffers n.buffers free)
      ∙ buffer_taken left.bindings _ left.variables left.types g

  pub no_variable : capacity.variables ≤ n.variables → (take_variable >>= g) left ≡ Err NoRoom
  no_variable full =
      ap (λ (k : ℕ). (take_variable >>= g) (room left.bindings left.buffers k left.types)) (none_left capacity.variables n.variables full)
      ∙ variable_none left.bindings left.buffers 0 left.types g

  pub one_variable : n.variables < capacity.variables → (take_variable >>= g) left ≡ g tt (room_left capacity (with_variable n))
  one_variable free =
      ap (λ (k : ℕ). (take_variable >>= g) (room left.bindings left.buffers k left.types)) (one_left capacity.variables n.variables free)
      ∙ variable_taken left.bindings left.buffers _ left.types g
