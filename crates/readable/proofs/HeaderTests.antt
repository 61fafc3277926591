-- What the version's definition says of a header of major 5, and of one of another major.
use mathlib.Core.Path.{◌≡◌, sym, ap, ◌∙◌}
use mathlib.Core.Bool.{Bool, true, false, ◌&&◌}
use lib.Dec.{eqb}
use Rattle.reflection.specs.declared.ResourceDef.{ResourceDef as Header}
use Rattle.reflection.specs.Strides.{rd11_header_size, buffer_stride, variable_stride, type_stride, member_stride}
use Rattle.reflection.specs.Rd11.{rd11_allowed}
use Rattle.reflection.specs.Reflection.{major_of, is_sm5}
use Rattle.reflection.specs.Rd11.{rd11_from_header}
use Rattle.reflection.proofs.Rd11BySm5.{sm5_is, rd11_by_sm5}
use Rattle.readable.specs.Readable.{version_readable}

module _ (h : Header) where
  module _ (five : is_sm5 (rd11_from_header h) ≡ true) where
    abbrev allowed : Bool
    allowed = rd11_allowed h.rd11.identifier rd11_header_size buffer_stride h.rd11.resource_binding_stride (variable_stride true)
        (type_stride true) member_stride

    pub version_5 : version_readable h.target_version (rd11_from_header h) ≡ allowed
    unfolding version_readable
    version_5 = ap (version_readable h.target_version) (rd11_by_sm5 h true (sym five)) ∙ ap (λ b. b && allowed) (sym (sm5_is h) ∙ five)

  module _ (other : is_sm5 (rd11_from_header h) ≡ false) where
    pub version_other : version_readable h.target_version (rd11_from_header h) ≡ eqb (major_of h.target_version) 4
    unfolding version_readable
    version_other = ap (version_readable h.target_version) (rd11_by_sm5 h false (sym other))
