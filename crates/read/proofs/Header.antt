-- The header's ways out, in the order of the checks: what `read_chunk` comes to at each. Every check but the last holds, and the steps' laws take
-- them one at a time.
use Rattle.reflection.specs.Outcome.{Outcome}
use Rattle.reflection.specs.declared.refusal.Refusal.{Refusal}
use Rattle.text.specs.declared.Span.{Span}
use Rattle.std.specs.Prelude.{Option, None, Ok, Err, Some}
use Rattle.reflection.specs.declared.refusal.Refusal.TheVariants.{ChunkTooShort, ChunkTooLong, BadVersion, BadCreator, Rd11Missing, BadRd11}
use mathlib.Core.Path.{◌≡◌, refl, sym, ap, ◌∙◌}
use mathlib.Core.Bool.{Bool, true, false, ◌||◌}
use mathlib.Core.List.{List}
use Prim.Native.Nat.{ℕ, ◌≤◌, ◌<◌}
use borrow.Author.Tests.{le-leb, lt-leb, leb-true, leb-false, ne_eqb}
use lib.Dec.{leb, eqb}
use lib.ListN.{length}
use Rattle.words.specs.Words.{word_at}
use Rattle.text.specs.Strings.{span}
use Rattle.text.specs.Strings.{cstring_at}
use Rattle.reflection.specs.Limits.{chunk_limit}
use Rattle.reflection.specs.Strides.{header_size, rd11_header_size, binding_stride}
use Rattle.reflection.specs.declared.Text.{Text}
use Rattle.reflection.specs.Reflection.{Rd11, is_wide}
use Rattle.reflection.specs.Texts.{in_chunk}
use Rattle.read_spec.specs.Step.{Room, and_then, ◌>>=◌, return, text_or}
use Rattle.read_spec.specs.Read.{major_of, chunk_rd11_allowed, read_rd11, read_tables, read_chunk}
use Rattle.read_spec.proofs.Steps.{check_holds, check_fails, bind_is, text_found, text_bad}
use Rattle.read.specs.Header.{rd11_from_chunk, rd11_check, Headed}

-- The RD11 words: what their fault is, and what reading them comes to.
module _ (s : List ℕ) where
  pub fault_short : length s < rd11_header_size → rd11_check s ≡ Err Rd11Missing
  unfolding rd11_check
  fault_short h = rw (lt-leb rd11_header_size (length s) h, rd11_check)

  pub fault_not_allowed : rd11_header_size ≤ length s → chunk_rd11_allowed s ≡ false → rd11_check s ≡ Err BadRd11
  unfolding rd11_check
  fault_not_allowed h e = rw (le-leb rd11_header_size (length s) h, e, rd11_check)

  pub fault_none : rd11_header_size ≤ length s → chunk_rd11_allowed s ≡ true → rd11_check s ≡ Ok tt
  unfolding rd11_check
  fault_none h e = rw (le-leb rd11_header_size (length s) h, e, rd11_check)

  module _ (r : Room) where
    -- a fault refuses, no fault gives the words
    abbrev by_fault : Outcome (Unit {0}) → Outcome (Rd11 × Room)
    by_fault (Ok u) = Ok (rd11_from_chunk s true, r)
    by_fault (Err e) = Err e

    rd11_by_fault : read_rd11 s true r ≡ by_fault (rd11_check s)
    unfolding read_rd11 return rd11_from_chunk
    rd11_by_fault = go (leb rd11_header_size (length s)) refl (chunk_rd11_allowed s) refl
      where
        go : (long : Bool) → leb rd11_header_size (length s) ≡ long → (allowed : Bool) → chunk_rd11_allowed s ≡ allowed → read_rd11 s true r ≡ by_fault (rd11_check s)
        go false p y q = check_fails _ _ _ _ p ∙ sym (ap by_fault (fault_short (leb-false rd11_header_size (length s) p)))
        go true p false q = check_holds _ _ _ _ p ∙ check_fails _ _ _ _ q ∙ sym (ap by_fault (fault_not_allowed (leb-true rd11_header_size (length s) p) q))
        go true p true q = check_holds _ _ _ _ p ∙ check_holds _ _ _ _ q ∙ sym (ap by_fault (fault_none (leb-true rd11_header_size (length s) p) q))

    rd11_read : rd11_check s ≡ Ok tt → read_rd11 s true r ≡ Ok (rd11_from_chunk s true, r)
    rd11_read h = rd11_by_fault ∙ ap by_fault h

    rd11_refused : (e : Refusal) → rd11_check s ≡ Err e → read_rd11 s true r ≡ Err e
    rd11_refused e q = rd11_by_fault ∙ ap by_fault q

    rd11_none : read_rd11 s false r ≡ Ok (rd11_from_chunk s false, r)
    unfolding read_rd11 return rd11_from_chunk
    rd11_none = refl

abbrev pub major_at : List ℕ → ℕ
major_at s = major_of (word_at s 16)

abbrev pub known_major : List ℕ → Bool
known_major s = eqb (major_at s) 4 || eqb (major_at s) 5

-- What the major version is, by the version that the code read.
module _ (s : List ℕ) {version major : ℕ} (version-is : version ≡ word_at s 16) (major-is : major ≡ major_of version) where
  found_major : major ≡ major_at s
  found_major = major-is ∙ ap major_of version-is

  pub major_unknown : (major ≡ 4 → ⊥) → (major ≡ 5 → ⊥) → known_major s ≡ false
  major_unknown not4 not5 =
      rw (ne_eqb (major_at s) 4 (λ e. not4 (found_major ∙ e)), ne_eqb (major_at s) 5 (λ e. not5 (found_major ∙ e)))

  module _ {sm5 : Bool} where
    pub major_4 : major ≡ 4 → sm5 ≡ false → (known_major s ≡ true) × (eqb (major_at s) 5 ≡ sm5)
    major_4 four is = let at : major_at s ≡ 4 = sym found_major ∙ four in rw (at, is) (refl, refl)

    pub major_5 : major ≡ 5 → sm5 ≡ true → (known_major s ≡ true) × (eqb (major_at s) 5 ≡ sm5)
    major_5 five is = let at : major_at s ≡ 5 = sym found_major ∙ five in rw (at, is) (refl, refl)

pub creator_is : (s : List ℕ) {offset : ℕ} {found x : (Option Span)} → offset ≡ word_at s 24 → found ≡ cstring_at s offset → found ≡ x → cstring_at s (word_at s 24) ≡ x
creator_is s offset_is h e = ap (cstring_at s) (sym offset_is) ∙ sym h ∙ e

module _ (s : List ℕ) where
  pub refused_too_short : length s < header_size → (r : Room) → read_chunk s r ≡ Err ChunkTooShort
  unfolding read_chunk
  refused_too_short h r = check_fails _ _ _ _ (lt-leb header_size (length s) h)

  module _ (long : header_size ≤ length s) where
    pub refused_too_long : chunk_limit < length s → (r : Room) → read_chunk s r ≡ Err ChunkTooLong
    unfolding read_chunk
    refused_too_long h r = check_holds _ _ _ _ (le-leb header_size (length s) long) ∙ check_fails _ _ _ _ (lt-leb (length s) chunk_limit h)

    module _ (short : length s ≤ chunk_limit) where
      pub refused_major : known_major s ≡ false → (r : Room) → read_chunk s r ≡ Err BadVersion
      unfolding read_chunk
      refused_major h r =
          check_holds _ _ _ _ (le-leb header_size (length s) long) ∙ check_holds _ _ _ _ (le-leb (length s) chunk_limit short) ∙ check_fails _ _ _ _ h

      module _ (known : known_major s ≡ true) where
        from_creator : (r : Room)
            → read_chunk s r ≡ (text_or BadCreator (cstring_at s (word_at s 24)) >>= λ creator. read_rd11 s (eqb (major_at s) 5) >>= read_tables s creator) r
        unfolding read_chunk
        from_creator r =
            check_holds _ _ _ _ (le-leb header_size (length s) long) ∙ check_holds _ _ _ _ (le-leb (length s) chunk_limit short) ∙ check_holds _ _ _ _ known

        pub refused_creator : cstring_at s (word_at s 24) ≡ None → (r : Room) → read_chunk s r ≡ Err BadCreator
        refused_creator h r = from_creator r ∙ text_bad _ _ _ _ h

        module _ (place n : ℕ) (creator : cstring_at s (word_at s 24) ≡ Some (span place n)) where
          from_rd11 : (sm5 : Bool) → eqb (major_at s) 5 ≡ sm5 → (r : Room) → read_chunk s r ≡ and_then (read_rd11 s sm5 r) (read_tables s (in_chunk place n))
          from_rd11 sm5 e r =
              from_creator r
              ∙ text_found _ _ _ _ place n creator
              ∙ ap (λ (x : Bool). (read_rd11 s x >>= read_tables s (in_chunk place n)) r) e
              ∙ bind_is _ _ r

          pub refused_rd11 : eqb (major_at s) 5 ≡ true → (e : Refusal) → rd11_check s ≡ Err e → (r : Room) → read_chunk s r ≡ Err e
          refused_rd11 five e q r =
              from_rd11 true five r ∙ ap (λ (x : Outcome (Rd11 × Room)). and_then x (read_tables s (in_chunk place n))) (rd11_refused s r e q)

          valid_major5 : {text : Text} → text ≡ in_chunk place n → eqb (major_at s) 5 ≡ true → rd11_check s ≡ Ok tt → (r : Room)
              → read_chunk s r ≡ read_tables s text (rd11_from_chunk s true) r
          valid_major5 is-text five h r =
              from_rd11 true five r ∙ ap (λ (x : Outcome (Rd11 × Room)). and_then x (read_tables s (in_chunk place n))) (rd11_read s r h)
              ∙ ap (λ (x : Text). read_tables s x (rd11_from_chunk s true) r) (sym is-text)

          valid_major4 : {text : Text} → text ≡ in_chunk place n → eqb (major_at s) 5 ≡ false → (r : Room)
              → read_chunk s r ≡ read_tables s text (rd11_from_chunk s false) r
          valid_major4 is-text four r =
              from_rd11 false four r ∙ ap (λ (x : Outcome (Rd11 × Room)). and_then x (read_tables s (in_chunk place n))) (rd11_none s r)
              ∙ ap (λ (x : Text). read_tables s x (rd11_from_chunk s false) r) (sym is-text)

          -- All checks held: those of the RD11 words are made of major 5 only.
          pub headed : {text : Text} {sm5 wide : Bool} → text ≡ in_chunk place n → eqb (major_at s) 5 ≡ sm5 → (sm5 ≡ true → rd11_check s ≡ Ok tt)
              → wide ≡ is_wide (rd11_from_chunk s sm5) → Headed s (Ok (record { creator = text; sm5 = sm5; wide = wide }))
          headed {sm5 = true} is-text five checked is_wide = (short, (is_wide, valid_major5 is-text five (checked refl)))
          headed {sm5 = false} is-text four checked is_wide = (short, (is_wide, valid_major4 is-text four))

-- Whether the bindings are wide: of major 5 by a word, of major 4 never.
module _ (s : List ℕ) (sm5 : Bool) where
  pub wide_by_stride : sm5 ≡ true → {word : ℕ} → word ≡ word_at s 40 → eqb word (binding_stride true) ≡ is_wide (rd11_from_chunk s sm5)
  unfolding rd11_from_chunk
  wide_by_stride five word = rw (five, word)

  pub never_wide : sm5 ≡ false → sm5 ≡ is_wide (rd11_from_chunk s sm5)
  unfolding rd11_from_chunk
  never_wide four = rw four
