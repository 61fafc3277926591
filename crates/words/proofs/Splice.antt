-- The laws of `splice` and `Put`: writes compose, keep the length, leave what lies before and after as it was; what lies past the end is dropped.
use mathlib.Core.Path.{◌≡◌, refl, sym, ap, ◌∙◌}
use mathlib.Core.List.{List, [], ◌∷◌, ◌++◌, append-nil}
use Prim.Native.Nat.{ℕ, zero, suc, ◌+◌, ◌-◌, ◌≤◌, ◌<◌, min}
use native.Mathlib.Nat.{add-zero, add-suc, suc-add}
use native.Mathlib.Numerals.{add-one}
use native.Mathlib.Omega.{arith}
use lib.ListN.{length, get_or, set, take, drop, replicate, length-set, length-append, drop_of_length-le, length-replicate, replicate-append-replicate}
use lib.Seq.{sets, length-sets, sets-eq, set_out, take_all, take-suc, take_at, drop_at, length-take-le, get_or-set_other, get_or-take, get_or-append-add}
use Rattle.words.specs.Splice.{splice, Put}

module _ {ℓ} {A : Type ℓ} where
  pub splice_nil : (l : List A) (a : ℕ) → splice l a [] ≡ l
  unfolding splice
  splice_nil l a = refl

  pub splice_none : (l : List A) (a : ℕ) (xs : List A) → length xs ≡ 0 → splice l a xs ≡ l
  splice_none l a [] e = splice_nil l a
  splice_none l a (x ∷ xs) e = absurd (omega arith)

  pub splice_cons : (l : List A) (a : ℕ) (x : A) (xs : List A) → splice l a (x ∷ xs) ≡ splice (set l a x) (suc a) xs
  unfolding splice
  splice_cons l a x xs = refl

  pub splice_one : (l : List A) (a : ℕ) (x : A) → splice l a (x ∷ []) ≡ set l a x
  unfolding splice
  splice_one l a x = refl

  pub length_splice : (l : List A) (a : ℕ) (xs : List A) → length (splice l a xs) ≡ length l
  unfolding splice
  length_splice l a xs = length-sets l a xs

  -- two writes in a row are one
  pub splice_append : (l : List A) (a : ℕ) (xs ys : List A) → splice (splice l a xs) (a + length xs) ys ≡ splice l a (xs ++ ys)
  unfolding splice
  splice_append l a [] ys = ap (λ (k : ℕ). sets l k ys) (add-zero a)
  splice_append l a (x ∷ xs) ys =
      ap (λ (k : ℕ). sets (sets (set l a x) (suc a) xs) k ys) (add-suc a (length xs) ∙ sym (suc-add a (length xs)))
      ∙ splice_append (set l a x) (suc a) xs ys

  -- one element more, where the run's length is known by an equation: a turn of a loop that appends
  pub splice_snoc : (l : List A) (a : ℕ) (xs : List A) (x : A) (n : ℕ) → length xs ≡ n → set (splice l a xs) (a + n) x ≡ splice l a (xs ++ (x ∷ []))
  splice_snoc l a xs x n e =
      ap (λ (k : ℕ). set (splice l a xs) (a + k) x) (sym e) ∙ sym (splice_one (splice l a xs) (a + length xs) x) ∙ splice_append l a xs (x ∷ [])

  -- where there is room: what is before, what was written, what is after
  pub splice_eq : (l : List A) (a : ℕ) (xs : List A) → a + length xs ≤ length l → splice l a xs ≡ take a l ++ xs ++ drop (a + length xs) l
  unfolding splice
  splice_eq l a xs h = sets-eq xs l a h

  pub put_none : (l : List A) (a : ℕ) → Put l a [] l a
  put_none l a = record { list = sym (splice_nil l a); next = sym (add-zero a) }

  pub put_then : {l l₁ l₂ xs ys : List A} {a r₁ r₂ : ℕ} → Put l a xs l₁ r₁ → Put l₁ r₁ ys l₂ r₂ → Put l a (xs ++ ys) l₂ r₂
  put_then {l} {l₁} {l₂} {xs} {ys} {a} {r₁} {r₂} p q =
      record {
        list =
            q.list
            ∙ ap (λ (k : ℕ). splice l₁ k ys) p.next
            ∙ ap (λ (m : List A). splice m (a + length xs) ys) p.list
            ∙ splice_append l a xs ys;
        next = omega (arith, p.next, q.next, length-append xs ys);
      }

  pub put_one : (l : List A) (a : ℕ) (x : A) → Put l a (x ∷ []) (set l a x) (a + 1)
  put_one l a x = record { list = sym (splice_one l a x); next = refl }

  -- a turn of a loop that appends one element
  pub put_snoc : {l l' xs : List A} {a r : ℕ} → Put l a xs l' r → (x : A) → Put l a (xs ++ (x ∷ [])) (set l' r x) (r + 1)
  put_snoc {l' = l'} {r = r} p x = put_then p (put_one l' r x)

  -- the buffer keeps its length
  pub put_length : {l l' xs : List A} {a r : ℕ} → Put l a xs l' r → length l' ≡ length l
  put_length {l} {l'} {xs} {a} {r} p = ap length p.list ∙ length_splice l a xs

  pub splice_past_end : (l : List A) (a : ℕ) (xs : List A) → length l ≤ a → splice l a xs ≡ l
  splice_past_end l a [] h = splice_nil l a
  splice_past_end l a (x ∷ xs) h =
      splice_cons l a x xs ∙ splice_past_end (set l a x) (suc a) xs (omega (arith, length-set l a x)) ∙ set_out l a x h

  -- the first n words are enough, where n reaches the end of the run or of the list
  pub splice_enough : (l : List A) (a n : ℕ) (xs : List A) → min (length xs) (length l - a) ≤ n → splice l a (take n xs) ≡ splice l a xs
  splice_enough l a zero [] h = refl
  splice_enough l a zero (x ∷ xs) h = splice_nil l a ∙ sym (splice_past_end l a (x ∷ xs) (omega arith))
  splice_enough l a (suc n) [] h = refl
  splice_enough l a (suc n) (x ∷ xs) h =
      splice_cons l a x (take n xs)
      ∙ splice_enough (set l a x) (suc a) n xs (omega (arith, length-set l a x))
      ∙ sym (splice_cons l a x xs)

  -- a run that fills the rest of the list; nothing of it where the place lies past the end
  pub splice_to_end : (l : List A) (a : ℕ) (xs : List A) → length xs ≡ length l - a → splice l a xs ≡ take a l ++ xs
  splice_to_end l a [] e = splice_nil l a ∙ sym (take_all a l (omega arith)) ∙ sym (append-nil (take a l))
  splice_to_end l a (x ∷ xs) e =
      let past : length l ≤ a + length (x ∷ xs) = omega arith in
      splice_eq l a (x ∷ xs) (omega arith)
      ∙ ap (λ (r : List A). take a l ++ (x ∷ xs) ++ r) (drop_of_length-le l past)
      ∙ append-nil (take a l ++ (x ∷ xs))

  -- a turn of a loop that writes one element after the other from `a` on: element i of the run goes to place a + i
  pub splice_take_more : (l : List A) {l' : List A} (a i : ℕ) (xs : List A) (d : A) → l' ≡ splice l a (take i xs) → i < length xs
      → set l' (a + i) (get_or xs i d) ≡ splice l a (take (i + 1) xs)
  splice_take_more l a i xs d e h =
      ap (λ (w : List A). set w (a + i) (get_or xs i d)) e
      ∙ splice_snoc l a (take i xs) (get_or xs i d) i (length-take-le i xs (omega arith))
      ∙ ap (splice l a) (sym (take-suc xs i d h) ∙ ap (λ (k : ℕ). take k xs) (sym (add-one i)))

  -- the same for a run of one element over and over, where the loop counts places
  pub splice_replicate_more : (l : List A) {l' : List A} (a i : ℕ) (x : A) → l' ≡ splice l a (replicate (i - a) x) → a ≤ i
      → set l' i x ≡ splice l a (replicate (i + 1 - a) x)
  splice_replicate_more l a i x e h =
      let p : i ≡ a + (i - a) = omega arith in
      let q : i - a + 1 ≡ i + 1 - a = omega arith in
      ap (λ (w : List A). set w i x) e
      ∙ ap (λ (k : ℕ). set (splice l a (replicate (i - a) x)) k x) p
      ∙ splice_snoc l a (replicate (i - a) x) x (i - a) (length-replicate (i - a) x)
      ∙ ap (splice l a) (replicate-append-replicate (i - a) 1 x ∙ ap (λ (k : ℕ). replicate k x) q)

  -- what lies before the run and after it stays, element by element
  pub splice_keeps_before : (l : List A) (a k : ℕ) (xs : List A) (d : A) → k < a → get_or (splice l a xs) k d ≡ get_or l k d
  splice_keeps_before l a k [] d h = ap (λ (w : List A). get_or w k d) (splice_nil l a)
  splice_keeps_before l a k (x ∷ xs) d h =
      ap (λ (w : List A). get_or w k d) (splice_cons l a x xs)
      ∙ splice_keeps_before (set l a x) (suc a) k xs d (omega arith)
      ∙ get_or-set_other l a k x d (λ e. omega arith)

  pub splice_keeps_after : (l : List A) (a k : ℕ) (xs : List A) (d : A) → a + length xs ≤ k → get_or (splice l a xs) k d ≡ get_or l k d
  splice_keeps_after l a k [] d h = ap (λ (w : List A). get_or w k d) (splice_nil l a)
  splice_keeps_after l a k (x ∷ xs) d h =
      ap (λ (w : List A). get_or w k d) (splice_cons l a x xs)
      ∙ splice_keeps_after (set l a x) (suc a) k xs d (omega arith)
      ∙ get_or-set_other l a k x d (λ e. omega arith)

  -- where there is room: an element of the run, the list up to the run's end, and the list from there on
  module _ (l : List A) (a : ℕ) (xs : List A) (fits : a + length xs ≤ length l) where
    written_length_lem : length (take a l ++ xs) ≡ a + length xs
    written_length_lem = omega (arith, length-append (take a l) xs, length-take-le a l (omega arith))

    pub take_splice : take (a + length xs) (splice l a xs) ≡ take a l ++ xs
    take_splice =
        ap (take (a + length xs)) (splice_eq l a xs fits) ∙ take_at (take a l ++ xs) (drop (a + length xs) l) (a + length xs) written_length_lem

    pub drop_splice : drop (a + length xs) (splice l a xs) ≡ drop (a + length xs) l
    drop_splice =
        ap (drop (a + length xs)) (splice_eq l a xs fits) ∙ drop_at (take a l ++ xs) (drop (a + length xs) l) (a + length xs) written_length_lem

    pub splice_puts : (k : ℕ) (d : A) → k < length xs → get_or (splice l a xs) (a + k) d ≡ get_or xs k d
    splice_puts k d h =
        sym (get_or-take (a + length xs) (splice l a xs) (a + k) d (omega arith))
        ∙ ap (λ (w : List A). get_or w (a + k) d) take_splice
        ∙ ap (λ (i : ℕ). get_or (take a l ++ xs) (i + k) d) (sym (length-take-le a l (omega arith)))
        ∙ get_or-append-add (take a l) xs k d
