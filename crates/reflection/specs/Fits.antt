-- The numbers of a type descriptor that have 16 bits in a chunk.
use Rattle.std.specs.Prelude.{Bool, ◌&&◌, ltb}
use Rattle.reflection.specs.declared.TypeDesc.{TypeDesc}
use Rattle.reflection.specs.Limits.{u16_limit}

-- Each of the six is below 65,536.
unfoldable pub fits_u16 : TypeDesc → Bool
fits_u16 t =
    ltb t.class u16_limit && (ltb t.var_type u16_limit && (ltb t.rows u16_limit
    && (ltb t.columns u16_limit && (ltb t.elements u16_limit && ltb t.member_count u16_limit))))
