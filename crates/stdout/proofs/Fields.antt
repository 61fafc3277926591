-- The field of one number more.
use Rattle.std.proofs.Common.{◌≡◌, ℕ, ◌+◌, ◌<◌, List, [], ◌∷◌, ◌++◌, length, take, get_or, refl, ap, ◌∙◌, append_assoc, append-nil, sym}
use Rattle.std.specs.Fmt.{decimal}
use Rattle.std.proofs.lemmas.List.{take_more}
use Rattle.stdout.specs.Output.{fields}

fields_append : (xs ys : List ℕ) → fields (xs ++ ys) ≡ fields xs ++ fields ys
fields_append [] ys = refl
fields_append (x ∷ xs) ys = ap (λ l. 9 ∷ decimal x ++ l) (fields_append xs ys) ∙ sym (append_assoc (9 ∷ decimal x) (fields xs) (fields ys))

pub fields_next : (xs : List ℕ) (i : ℕ) → i < length xs → fields (take (i + 1) xs) ≡ fields (take i xs) ++ 9 ∷ decimal (get_or xs i 0)
fields_next xs i h =
    ap fields (take_more xs i 0 h) ∙ fields_append (take i xs) (get_or xs i 0 ∷ [])
    ∙ ap (λ l. fields (take i xs) ++ 9 ∷ l) (append-nil (decimal (get_or xs i 0)))
