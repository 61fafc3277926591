-- Records i to i + n - 1 as a list, paired and put in rows record by record, since the list is made record by record.
use mathlib.Core.Path.{◌≡◌, refl, ap}
use mathlib.Core.List.{List, ◌∷◌, ◌++◌}
use Prim.Native.Nat.{ℕ, zero, suc}
use Rattle.tables.specs.Decode.{records_from}
use Rattle.write_spec.specs.Records.{rows}
use Rattle.write_spec.specs.Layout.{zip}
use Rattle.write_tables.specs.Offsets.{rows_from}

pub zip_records : {A B : Type 0} (f : ℕ → A) (g : ℕ → B) (i n : ℕ) → zip (records_from f i n) (records_from g i n) ≡ records_from (λ j. (f j, g j)) i n
unfolding records_from zip
zip_records f g i zero = refl
zip_records f g i (suc n) = ap (λ (l : List _). (f i, g i) ∷ l) (zip_records f g (suc i) n)

pub rows_records : {A B : Type 0} (row : A → B → List ℕ) (f : ℕ → A) (g : ℕ → B) (i n : ℕ) → rows row (records_from f i n) (records_from g i n)
    ≡ rows_from (λ j. row (f j) (g j)) i n
unfolding records_from rows rows_from
rows_records row f g i zero = refl
rows_records row f g i (suc n) = ap (λ (l : List ℕ). row (f i) (g i) ++ l) (rows_records row f g (suc i) n)

pub same_rows : (f g : ℕ → List ℕ) (i n : ℕ) → ((j : ℕ) → f j ≡ g j) → rows_from f i n ≡ rows_from g i n
unfolding rows_from
same_rows f g i zero same = refl
same_rows f g i (suc n) same =
    let p = same i in
    let q = same_rows f g (suc i) n same in
    λ z. p z ++ q z
