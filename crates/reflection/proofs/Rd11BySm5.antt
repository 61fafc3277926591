-- The RD11 words that a header holds: its own three words where it is of major 5, none where it is not.
use mathlib.Core.Path.{◌≡◌, refl, sym, ap, ◌∙◌}
use mathlib.Core.Bool.{Bool, true, false}
use lib.Dec.{eqb}
use Rattle.reflection.specs.declared.ResourceDef.{ResourceDef as Header}
use Rattle.reflection.specs.Reflection.{Rd11, no_rd11, rd11, major_of, is_sm5}
use Rattle.reflection.specs.Rd11.{rd11_from_header}

-- The three words of a header, where it has them.
abbrev pub rd11_if : Bool → Header → Rd11
rd11_if true h = rd11 h.rd11.identifier h.rd11.resource_binding_stride h.rd11.interface_slot_count
rd11_if false h = no_rd11

module _ (h : Header) where
  pub rd11_if_lem : (sm5 : Bool) → eqb (major_of h.target_version) 5 ≡ sm5 → rd11_from_header h ≡ rd11_if sm5 h
  unfolding rd11_from_header
  rd11_if_lem true e = rw (rd11_from_header, e)
  rd11_if_lem false e = rw (rd11_from_header, e)

  pub sm5_is : is_sm5 (rd11_from_header h) ≡ eqb (major_of h.target_version) 5
  sm5_is = go (eqb (major_of h.target_version) 5) refl
    where
      go : (sm5 : Bool) → eqb (major_of h.target_version) 5 ≡ sm5 → is_sm5 (rd11_from_header h) ≡ eqb (major_of h.target_version) 5
      go true e = ap is_sm5 (rd11_if_lem true e) ∙ sym e
      go false e = ap is_sm5 (rd11_if_lem false e) ∙ sym e

  pub rd11_by_sm5 : (sm5 : Bool) → sm5 ≡ is_sm5 (rd11_from_header h) → rd11_from_header h ≡ rd11_if sm5 h
  rd11_by_sm5 sm5 e = rd11_if_lem sm5 (sym sm5_is ∙ sym e)
