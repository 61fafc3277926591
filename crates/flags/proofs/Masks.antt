-- Microsoft's masks are single bits, and the tests of the flag words are the Rust's `flags & mask != 0` and `flags & !0x1f == 0`: a mask of one bit keeps
-- that bit alone, and !0x1f keeps what is left of division by 2 ^ 5.
use mathlib.Core.Bool.{not}
use mathlib.Core.List.{[], ◌∷◌, map}
use mathlib.Core.Path.{◌≡◌, refl, sym, ap, ◌∙◌}
use Prim.Native.Nat.{ℕ, suc, ◌+◌, ◌-◌, ◌^◌, ◌<◌}
use native.Mathlib.Omega.{arith}
use lib.Bits.{bit_and}
use lib.Dec.{eqb, leb}
use lib.Pow.{pow_pos}
use Rattle.std.proofs.lemmas.Grind.{bit_length, common_steps}
use Rattle.std.proofs.lemmas.Nat.Bits.{and_pow, and_high_mask}
use Rattle.codes.specs.Microsoft.{D3D_SIF_USERPACKED, D3D_SIF_COMPARISON_SAMPLER, D3D_SIF_TEXTURE_COMPONENT_0, D3D_SIF_TEXTURE_COMPONENT_1}
use Rattle.codes.specs.Microsoft.{D3D_SIF_TEXTURE_COMPONENTS, D3D_SIF_UNUSED}
use Rattle.codes.specs.Microsoft.{D3D_SVF_USERPACKED, D3D_SVF_USED, D3D_SVF_INTERFACE_POINTER, D3D_SVF_INTERFACE_PARAMETER}
use Rattle.flags.specs.Flags.{flag, binding_masks, binding_flags_allowed}

-- A binding's flags are bits 0 to 4 of its word, a variable's bits 0 to 3.
pub binding_masks_lem : D3D_SIF_USERPACKED ∷ D3D_SIF_COMPARISON_SAMPLER ∷ D3D_SIF_TEXTURE_COMPONENT_0 ∷ D3D_SIF_TEXTURE_COMPONENT_1
    ∷ D3D_SIF_UNUSED ∷ [] ≡ map (λ (k : ℕ). 2 ^ k) (0 ∷ 1 ∷ 2 ∷ 3 ∷ 4 ∷ [])
binding_masks_lem = refl

pub variable_masks : D3D_SVF_USERPACKED ∷ D3D_SVF_USED ∷ D3D_SVF_INTERFACE_POINTER ∷ D3D_SVF_INTERFACE_PARAMETER ∷ []
    ≡ map (λ (k : ℕ). 2 ^ k) (0 ∷ 1 ∷ 2 ∷ 3 ∷ [])
variable_masks = refl

-- A binding's masks together, and those of the texture components.
pub allowed_masks : binding_masks ≡ 0x1f
allowed_masks = refl

pub texture_components : D3D_SIF_TEXTURE_COMPONENT_0 + D3D_SIF_TEXTURE_COMPONENT_1 ≡ D3D_SIF_TEXTURE_COMPONENTS
texture_components = refl

-- A word has a flag where the mask leaves something of it.
pub flag_is_and : (k w : ℕ) → flag (2 ^ k) w ≡ not (eqb (bit_and w (2 ^ k)) 0)
flag_is_and k w = grind (arith, and_pow, pow_pos)

-- The same of a mask that is written out: suc m is 2 ^ k where m has k digits.
pub mask_is_flag : (w m : ℕ) → suc m ≡ 2 ^ bit_length 32 m → not (eqb (bit_and w (suc m)) 0) ≡ flag (suc m) w
mask_is_flag w m one_bit =
    ap (λ (mask : ℕ). not (eqb (bit_and w mask) 0)) one_bit ∙ sym (flag_is_and (bit_length 32 m) w) ∙ ap (λ (mask : ℕ). flag mask w) (sym one_bit)

-- The words that have no bit outside the masks are those up to 0x1f.
pub allowed_up_to : (w : ℕ) → binding_flags_allowed w ≡ leb w 0x1f
unfolding binding_flags_allowed
allowed_up_to w = grind (arith, common_steps)

-- No bit is outside the masks where !0x1f leaves nothing of the word.
pub allowed_is_and : (w : ℕ) → w < 2 ^ 32 → binding_flags_allowed w ≡ eqb (bit_and w (2 ^ 32 - 2 ^ 5)) 0
unfolding binding_flags_allowed
allowed_is_and w h = grind (arith, common_steps, and_high_mask)
