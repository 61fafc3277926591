-- The RD11 words of major 5 that are allowed (document 01, "Walk order").
use Rattle.std.specs.Prelude.{Bool, true, false, ◌&&◌, ◌||◌, ℕ, eqb}
use Rattle.reflection.specs.declared.ResourceDef.{ResourceDef as Header}
use Rattle.reflection.specs.Reflection.{Rd11, rd11, no_rd11, major_of}
use Rattle.reflection.specs.Strides.{rd11_header_size, binding_stride, buffer_stride, variable_stride, type_stride, member_stride, rd11_identifier}
use Rattle.reflection.specs.Strides.{sm51_identifier}

-- "identifier 0x31314452 or 0x25441313; 60; 24; 32 or 40; 40; 36; 12 … Either identifier goes with either binding stride": the identifier, then the size of
-- the header and of a buffer, a binding, a variable, a type and a member. The interface slots are free.
unfoldable pub rd11_allowed : ℕ → ℕ → ℕ → ℕ → ℕ → ℕ → ℕ → Bool
rd11_allowed identifier header buffer binding variable type member =
    (eqb identifier rd11_identifier || eqb identifier sm51_identifier)
    && (eqb header rd11_header_size
    && (eqb buffer buffer_stride
    && ((eqb binding (binding_stride false) || eqb binding (binding_stride true))
    && (eqb variable (variable_stride true)
    && (eqb type (type_stride true)
    && eqb member member_stride)))))

-- The RD11 words that a header holds, which major 5 has and no other.
unfoldable pub rd11_from_header : Header → Rd11
rd11_from_header h =
    elim (eqb (major_of h.target_version) 5) [
      | true ↦ rd11 h.rd11.identifier h.rd11.resource_binding_stride h.rd11.interface_slot_count
      | false ↦ no_rd11
    ]
