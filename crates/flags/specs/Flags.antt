-- Flag words, bit by bit. A flag of Microsoft's is a mask of one bit, and the mask 2 ^ k is bit k.
use Rattle.std.specs.Prelude.{Bool, ℕ, ◌/◌, ◌%◌, ◌^◌, eqb}
use Rattle.std.specs.Int.Bits.{bit_and, bit_or}
use Rattle.codes.specs.Microsoft.{D3D_SIF_USERPACKED, D3D_SIF_COMPARISON_SAMPLER, D3D_SIF_TEXTURE_COMPONENTS, D3D_SIF_UNUSED}

-- Whether a word has the bit of a mask of one bit.
abbrev pub flag : ℕ → ℕ → Bool
flag mask w = eqb (w / mask % 2) 1

-- Bit k of a word.
abbrev pub bit : ℕ → ℕ → Bool
bit k w = flag (2 ^ k) w

-- D3D_SHADER_INPUT_FLAGS, all masks together.
abbrev pub binding_masks : ℕ
binding_masks = bit_or D3D_SIF_USERPACKED (bit_or D3D_SIF_COMPARISON_SAMPLER (bit_or D3D_SIF_TEXTURE_COMPONENTS D3D_SIF_UNUSED))

-- Whether a binding's flags are allowed: the masks keep the whole word, so that no bit stands outside them (document 01, refusal 10).
unfoldable pub binding_flags_allowed : ℕ → Bool
binding_flags_allowed w = eqb (bit_and w binding_masks) w
