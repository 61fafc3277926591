-- A text that is understood is ASCII: each of its parts is (digits, a `+`, a base name, 'x', '[', ']'). So one that is not UTF-8 is refused with 18.
use Rattle.reflection.specs.declared.refusal.Refusal.TheVariants.{NoSpelling}
use Rattle.std.specs.Prelude.{Err, Option, None, Some}
use mathlib.Core.Path.{◌≡◌, refl, ap, sym, ◌∙◌}
use mathlib.Core.Bool.{Bool, true, false, ◌&&◌, cond}
use mathlib.Core.List.{List, [], ◌∷◌, ◌++◌}
use Prim.Native.Nat.{ℕ, zero, suc, ◌+◌, ◌*◌, ◌-◌, ◌<◌}
use native.Mathlib.Omega.{arith}
use borrow.Author.Tests.{leb-true, eqb-true, ltb-true, lt-ltb}
use lib.Dec.{eqb, leb, ltb}
use lib.ListN.{length, get_or}
use Rattle.text.specs.Utf8.{well_formed}
use Rattle.text.specs.Same.{same_bytes}
use Rattle.text.proofs.Bools.{and-true}
use Rattle.text.proofs.Runs.{well_formed_ascii}
use Rattle.text.proofs.SameBytes.{same_bytes_equal}
use Rattle.codes.specs.Microsoft.{D3D_SHADER_VARIABLE_TYPE, variable_type_number}
use Rattle.tables.specs.Nodes.{◌>>=◌}
use Rattle.spelling_parse.specs.declared.TypeSpelling.{TypeSpelling}
use Rattle.spelling.specs.Names.{base_names, number_in, base_number}
use Rattle.spelling_parse.specs.Grammar.{is_digit, digits_value, digits_number, without_plus, as_u16, number, after_byte, split_once, without_last}
use Rattle.spelling_parse.specs.Grammar.{before_digit, from_digit, Shape, shape_of, shape, core, type_from_text, parse_type, spelled_type}

-- Every byte is below 0x80.
unfoldable ascii : List ℕ → Bool
ascii [] = true
ascii (b ∷ bs) = ltb b 0x80 && ascii bs

ascii_cons : (b : ℕ) (bs : List ℕ) → b < 0x80 → ascii bs ≡ true → ascii (b ∷ bs) ≡ true
unfolding ascii
ascii_cons b bs h e = rw (lt-ltb b 0x80 h) e

ascii_append : (xs ys : List ℕ) → ascii xs ≡ true → ascii ys ≡ true → ascii (xs ++ ys) ≡ true
unfolding ascii
ascii_append [] ys e f = f
ascii_append (x ∷ xs) ys e f =
    let (here, later) = and-true (ltb x 0x80) (ascii xs) e in
    ascii_cons x (xs ++ ys) (ltb-true x 0x80 here) (ascii_append xs ys later f)

ascii_at : (s : List ℕ) → ascii s ≡ true → (k : ℕ) → k < length s → get_or s k 0 < 0x80
unfolding ascii
ascii_at [] e k h = absurd (omega arith)
ascii_at (b ∷ bs) e zero h = ltb-true b 0x80 (and-true (ltb b 0x80) (ascii bs) e).0
ascii_at (b ∷ bs) e (suc k) h = ascii_at bs (and-true (ltb b 0x80) (ascii bs) e).1 k (omega arith)

-- what two steps give, both give
first_gives : {A B : Type 0} (o : Option A) (f : A → Option B) {b : B} → (o >>= f) ≡ Some b → (a : A) × (o ≡ Some a) × (f a ≡ Some b)
unfolding ◌>>=◌
first_gives (Some a) f e = (a, refl, e)
first_gives None f e = absurd (let z : ◌≡◌ {A = ℕ} 0 1 = cc in omega arith)

-- Numbers.
digits_ascii : (s : List ℕ) (n : ℕ) {v : ℕ} → digits_value s n ≡ Some v → ascii s ≡ true
unfolding digits_value ascii
digits_ascii [] n e = refl
digits_ascii (b ∷ bs) n {v} e = go (is_digit b) refl e (digits_ascii bs (10 * n + (b - 48)))
  where
    go : (t : Bool) → is_digit b ≡ t → cond t (digits_value bs (10 * n + (b - 48))) None ≡ Some v
        → (digits_value bs (10 * n + (b - 48)) ≡ Some v → ascii bs ≡ true) → ascii (b ∷ bs) ≡ true
    go true d f again =
        let small = leb-true b 57 (and-true (leb 48 b) (leb b 57) d).1 in
        ascii_cons b bs (omega arith) (again f)
    go false d f again = cc

digits_number_ascii : (s : List ℕ) {v : ℕ} → digits_number s ≡ Some v → ascii s ≡ true
unfolding ascii
digits_number_ascii [] e = refl
digits_number_ascii (b ∷ bs) e = digits_ascii (b ∷ bs) 0 e

without_plus_ascii : (s : List ℕ) → ascii (without_plus s) ≡ true → ascii s ≡ true
without_plus_ascii [] e = e
without_plus_ascii (b ∷ bs) e = go (eqb b 43) refl e
  where
    go : (t : Bool) → eqb b 43 ≡ t → ascii (cond t bs (b ∷ bs)) ≡ true → ascii (b ∷ bs) ≡ true
    go true p f = let plus = eqb-true b 43 p in ascii_cons b bs (omega arith) f
    go false p f = f

number_ascii : (s : List ℕ) {v : ℕ} → number s ≡ Some v → ascii s ≡ true
unfolding number
number_ascii s e =
    let (n, digits, small) = first_gives (digits_number (without_plus s)) as_u16 e in
    without_plus_ascii s (digits_number_ascii (without_plus s) digits)

-- The names of the base types.
ascii_names : List (D3D_SHADER_VARIABLE_TYPE × List ℕ) → Bool
ascii_names [] = true
ascii_names (row ∷ rows) = ascii row.1 && ascii_names rows

named_ascii : (rows : List (D3D_SHADER_VARIABLE_TYPE × List ℕ)) (s : List ℕ) {n : ℕ} → ascii_names rows ≡ true → number_in rows s ≡ Some n → ascii s ≡ true
unfolding ascii_names
named_ascii [] s names e = cc
named_ascii (row ∷ rows) s {n} names e =
    let (here, later) = and-true (ascii row.1) (ascii_names rows) names in
    go (same_bytes s row.1) refl e here (named_ascii rows s later)
  where
    go : (t : Bool) → same_bytes s row.1 ≡ t → cond t (Some (variable_type_number row.0)) (number_in rows s) ≡ Some n
        → ascii row.1 ≡ true → (number_in rows s ≡ Some n → ascii s ≡ true) → ascii s ≡ true
    go true same f here again = ap ascii (same_bytes_equal s row.1 same) ∙ here
    go false same f here again = again f

base_ascii : (s : List ℕ) {n : ℕ} → base_number s ≡ Some n → ascii s ≡ true
unfolding base_number ascii ascii_names
base_ascii s e = named_ascii base_names s refl e

-- What was parted is the parts, one after the other.
split_joined : (c : ℕ) (s : List ℕ) {p : List ℕ × List ℕ} → split_once c s ≡ Some p → s ≡ p.0 ++ (c ∷ p.1)
unfolding split_once
split_joined c [] e = absurd (let z : ◌≡◌ {A = ℕ} 0 1 = cc in omega arith)
split_joined c (b ∷ bs) {p} e = go (eqb b c) refl (split_once c bs) refl e (λ q. split_joined c bs {p = q})
  where
    go : (t : Bool) → eqb b c ≡ t → (o : Option (List ℕ × List ℕ)) → split_once c bs ≡ o → cond t (Some ([], bs)) (after_byte b o) ≡ Some p
        → ((q : List ℕ × List ℕ) → split_once c bs ≡ Some q → bs ≡ q.0 ++ (c ∷ q.1)) → b ∷ bs ≡ p.0 ++ (c ∷ p.1)
    go true same o is f again =
        let parts : ([], bs) ≡ p = cc in
        ap (λ (x : ℕ). x ∷ bs) (eqb-true b c same) ∙ ap (λ (q : List ℕ × List ℕ). q.0 ++ (c ∷ q.1)) parts
    go false same (Some q) is f again =
        let parts : (b ∷ q.0, q.1) ≡ p = cc in
        ap (λ (l : List ℕ). b ∷ l) (again q is) ∙ ap (λ (r : List ℕ × List ℕ). r.0 ++ (c ∷ r.1)) parts
    go false same None is f again = absurd (let z : ◌≡◌ {A = ℕ} 0 1 = cc in omega arith)

last_joined : (c : ℕ) (s : List ℕ) {inner : List ℕ} → without_last c s ≡ Some inner → s ≡ inner ++ (c ∷ [])
unfolding without_last
last_joined c [] e = absurd (let z : ◌≡◌ {A = ℕ} 0 1 = cc in omega arith)
last_joined c (b ∷ []) {inner} e = go (eqb b c) refl e
  where
    go : (t : Bool) → eqb b c ≡ t → cond t (Some []) None ≡ Some inner → b ∷ [] ≡ inner ++ (c ∷ [])
    go true same f =
        let empty : [] ≡ inner = cc in
        ap (λ (x : ℕ). x ∷ []) (eqb-true b c same) ∙ ap (λ (l : List ℕ). l ++ (c ∷ [])) empty
    go false same f = absurd (let z : ◌≡◌ {A = ℕ} 0 1 = cc in omega arith)
last_joined c (b ∷ x ∷ xs) {inner} e =
    let (others, found, is) = first_gives (without_last c (x ∷ xs)) (λ others. Some (b ∷ others)) e in
    let longer : b ∷ others ≡ inner = cc in
    ap (λ (l : List ℕ). b ∷ l) (last_joined c (x ∷ xs) found) ∙ ap (λ (l : List ℕ). l ++ (c ∷ [])) longer

digit_joined : (s : List ℕ) → before_digit s ++ from_digit s ≡ s
unfolding before_digit from_digit
digit_joined [] = refl
digit_joined (b ∷ bs) = go (is_digit b) (digit_joined bs)
  where
    go : (t : Bool) → before_digit bs ++ from_digit bs ≡ bs → cond t [] (b ∷ before_digit bs) ++ cond t (b ∷ bs) (from_digit bs) ≡ b ∷ bs
    go true e = refl
    go false e = ap (λ (l : List ℕ). b ∷ l) e

split_ascii : (c : ℕ) (s : List ℕ) {p : List ℕ × List ℕ} → c < 0x80 → split_once c s ≡ Some p → ascii p.0 ≡ true → ascii p.1 ≡ true → ascii s ≡ true
split_ascii c s {p} h e before after = ap ascii (split_joined c s e) ∙ ascii_append p.0 (c ∷ p.1) before (ascii_cons c p.1 h after)

-- The whole, from its parts.
shape_ascii : (dims : List ℕ) {s : Shape} → shape dims ≡ Some s → ascii dims ≡ true
unfolding ascii
shape_ascii [] e = refl
shape_ascii (b ∷ bs) {s} e = go (split_once 120 (b ∷ bs)) refl e
  where
    go : (o : Option (List ℕ × List ℕ)) → split_once 120 (b ∷ bs) ≡ o → shape_of (b ∷ bs) o ≡ Some s → ascii (b ∷ bs) ≡ true
    go (Some p) is f =
        let (rows, is-rows, more) = first_gives (number p.0) (λ n. number p.1 >>= (λ m. Some (3, (n, m)))) f in
        let (columns, is-columns, done) = first_gives (number p.1) (λ m. Some (3, (rows, m))) more in
        split_ascii 120 (b ∷ bs) (omega arith) is (number_ascii p.0 is-rows) (number_ascii p.1 is-columns)
    go None is f =
        let (columns, is-columns, done) = first_gives (number (b ∷ bs)) (λ n. Some (1, (1, n))) f in
        number_ascii (b ∷ bs) is-columns

core_ascii : (text : List ℕ) (elements : ℕ) {s : TypeSpelling} → core text elements ≡ Some s → ascii text ≡ true
unfolding core
core_ascii text elements e =
    let (base, is_base, more) = first_gives (base_number (before_digit text)) _ e in
    let (found, is-shape, done) = first_gives (shape (from_digit text)) _ more in
    ap ascii (sym (digit_joined text)) ∙ ascii_append (before_digit text) (from_digit text)
    (base_ascii (before_digit text) is_base) (shape_ascii (from_digit text) is-shape)

type_ascii : (text : List ℕ) {s : TypeSpelling} (o : Option (List ℕ × List ℕ)) → split_once 91 text ≡ o → type_from_text text o ≡ Some s → ascii text ≡ true
unfolding ascii
type_ascii text None is e = core_ascii text 0 e
type_ascii text (Some p) is e =
    let (inner, is-inner, more) = first_gives (without_last 93 p.1) _ e in
    let (elements, is_number, is-core) = first_gives (number inner) _ more in
    let closed = ap ascii (last_joined 93 p.1 is-inner) ∙ ascii_append inner (93 ∷ []) (number_ascii inner is_number) refl in
    split_ascii 91 text (omega arith) is (core_ascii p.0 elements is-core) closed

-- A text that is understood has only bytes below 0x80,
pub understood_is_ascii : (text : List ℕ) (s : TypeSpelling) → parse_type text ≡ Some s → (k : ℕ) → k < length text → get_or text k 0 < 0x80
unfolding parse_type
understood_is_ascii text s e = ascii_at text (type_ascii text (split_once 91 text) refl e)

-- so it is UTF-8,
pub understood_is_utf8 : (text : List ℕ) (s : TypeSpelling) → parse_type text ≡ Some s → well_formed text ≡ true
understood_is_utf8 text s e = well_formed_ascii text (understood_is_ascii text s e)

-- and one that is not UTF-8 is refused.
pub ill_formed_is_refused : (text : List ℕ) → well_formed text ≡ false → spelled_type (parse_type text) ≡ Err NoSpelling
unfolding spelled_type
ill_formed_is_refused text ill = go (parse_type text) refl
  where
    go : (o : Option TypeSpelling) → parse_type text ≡ o → spelled_type o ≡ Err NoSpelling
    go None e = refl
    go (Some s) e = absurd (let well = understood_is_utf8 text s e in let z : ◌≡◌ {A = ℕ} 0 1 = cc in omega arith)
