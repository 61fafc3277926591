-- Table 3-7 by example: the lowest and the highest sequence of each row are well-formed, and what lies next to a row's edges is not.
use mathlib.Core.Path.{◌≡◌, refl}
use mathlib.Core.Bool.{Bool, true, false}
use mathlib.Core.List.{List, [], ◌∷◌, map}
use Prim.Native.Nat.{ℕ}
use Rattle.text.specs.Utf8.{run, well_formed}

-- bytes, and whether they are well-formed
abbrev pub examples : List (List ℕ × Bool)
examples =
    ([], true)
    -- 00..7F
    ∷ (0x00 ∷ [], true)
    ∷ (0x7f ∷ [], true)
    ∷ (0x80 ∷ [], false)
    ∷ (0xbf ∷ [], false)
    -- C2..DF 80..BF
    ∷ (0xc0 ∷ 0x80 ∷ [], false)
    ∷ (0xc1 ∷ 0xbf ∷ [], false)
    ∷ (0xc2 ∷ 0x7f ∷ [], false)
    ∷ (0xc2 ∷ 0x80 ∷ [], true)
    ∷ (0xdf ∷ 0xbf ∷ [], true)
    ∷ (0xdf ∷ 0xc0 ∷ [], false)
    -- E0 A0..BF 80..BF
    ∷ (0xe0 ∷ 0x9f ∷ 0xbf ∷ [], false)
    ∷ (0xe0 ∷ 0xa0 ∷ 0x80 ∷ [], true)
    ∷ (0xe0 ∷ 0xbf ∷ 0xbf ∷ [], true)
    -- E1..EC 80..BF 80..BF
    ∷ (0xe1 ∷ 0x80 ∷ 0x80 ∷ [], true)
    ∷ (0xec ∷ 0xbf ∷ 0xbf ∷ [], true)
    -- ED 80..9F 80..BF
    ∷ (0xed ∷ 0x80 ∷ 0x80 ∷ [], true)
    ∷ (0xed ∷ 0x9f ∷ 0xbf ∷ [], true)
    ∷ (0xed ∷ 0xa0 ∷ 0x80 ∷ [], false)
    ∷ (0xed ∷ 0xbf ∷ 0xbf ∷ [], false)
    -- EE..EF 80..BF 80..BF
    ∷ (0xee ∷ 0x80 ∷ 0x80 ∷ [], true)
    ∷ (0xef ∷ 0xbf ∷ 0xbf ∷ [], true)
    -- F0 90..BF 80..BF 80..BF
    ∷ (0xf0 ∷ 0x8f ∷ 0xbf ∷ 0xbf ∷ [], false)
    ∷ (0xf0 ∷ 0x90 ∷ 0x80 ∷ 0x80 ∷ [], true)
    ∷ (0xf0 ∷ 0xbf ∷ 0xbf ∷ 0xbf ∷ [], true)
    -- F1..F3 80..BF 80..BF 80..BF
    ∷ (0xf1 ∷ 0x80 ∷ 0x80 ∷ 0x80 ∷ [], true)
    ∷ (0xf3 ∷ 0xbf ∷ 0xbf ∷ 0xbf ∷ [], true)
    -- F4 80..8F 80..BF 80..BF
    ∷ (0xf4 ∷ 0x80 ∷ 0x80 ∷ 0x80 ∷ [], true)
    ∷ (0xf4 ∷ 0x8f ∷ 0xbf ∷ 0xbf ∷ [], true)
    ∷ (0xf4 ∷ 0x90 ∷ 0x80 ∷ 0x80 ∷ [], false)
    ∷ (0xf5 ∷ 0x80 ∷ 0x80 ∷ 0x80 ∷ [], false)
    ∷ (0xff ∷ [], false)
    -- sequences that are cut short, at the end and before another
    ∷ (0xc2 ∷ [], false)
    ∷ (0xe1 ∷ 0x80 ∷ [], false)
    ∷ (0xf1 ∷ 0x80 ∷ 0x80 ∷ [], false)
    ∷ (0xe1 ∷ 0x80 ∷ 0x41 ∷ [], false)
    -- one sequence of each length after the other
    ∷ (0x61 ∷ 0xc3 ∷ 0xa9 ∷ 0xe2 ∷ 0x82 ∷ 0xac ∷ 0xf0 ∷ 0x9f ∷ 0x98 ∷ 0x80 ∷ [], true)
    ∷ []

pub examples_hold : map (λ (e : List ℕ × Bool). well_formed e.0) examples ≡ map (λ (e : List ℕ × Bool). e.1) examples
unfolding well_formed run
examples_hold = refl
