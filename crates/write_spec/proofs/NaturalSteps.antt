-- What one step does to names and defaults, and what it does to those that they stand for: the same result, with cells and pools mapped (`Natural`). It holds
-- of every step that cells, lookups and pools are made of, since a lookup's test and a text's length are all that a step asks.
use Rattle.std.specs.Prelude.{Option, None, Some}
use mathlib.Core.Path.{◌≡◌, refl, ap, sym, ◌∙◌}
use mathlib.Core.Bool.{Bool, true, false, ◌&&◌}
use mathlib.Core.List.{List, [], ◌∷◌, ◌++◌, map, map-append}
use Prim.Native.Nat.{ℕ, zero, suc, ◌+◌, ◌*◌}
use lib.Dec.{eqb}
use lib.ListN.{length, length-map, replicate}
use Rattle.words.specs.Words.{word_bytes}
use Rattle.text.specs.Same.{same_bytes}
use Rattle.reflection.specs.Reflection.{TypeDesc, type_desc, Members, no_member, member, member_count, map_type, map_members}
use Rattle.write_spec.specs.Step.{Cell, byte, Pools, pools, Placed, WriteStep, ◌>>=◌, return, append, add_to_pool, pad, padding_at, word_cells}
use Rattle.write_spec.specs.Step.{reserve, hit, find, found, interned, add_to_pool_if, unless_empty, in_member_pool, enter_member, cells_of}
use Rattle.write_spec.specs.Records.{rows}
use Rattle.write_spec.specs.Same.{numbers_of, same_type, same_members}
use Rattle.write_spec.proofs.Cells.{map_cell}

-- An entry of a pool, the pools, and what a step hands back, of what the names and defaults stand for.
abbrev pub map_key : {K L : Type 0} → (K → L) → K × ℕ → L × ℕ
map_key h e = (h e.0, e.1)

abbrev pub map_pools : {N D M E : Type 0} → (N → M) → (D → E) → Pools N D → Pools M E
map_pools f g ps =
    pools (map (map_key f) ps.outer_names) (map (map_key f) ps.inner_names) (map (map_key (map_type f)) ps.types)
    (map (map_key (map_type f)) ps.member_types) (map (map_key g) ps.defaults)

abbrev pub map_placed : {N D M E A : Type 0} → (N → M) → (D → E) → Placed N D A → Placed M E A
map_placed f g p = record { result = p.result; cells = map (map_cell f g) p.cells; pools_after = map_pools f g p.pools_after }

-- Lookups see what is looked up through the test alone.
pub find_map : {K L : Type 0} (test : L → Bool) (h : K → L) (es : List (K × ℕ)) → find test (map (map_key h) es) ≡ find (λ k. test (h k)) es
unfolding find
find_map test h [] = refl
find_map test h (e ∷ es) = ap (hit (test (h e.0)) e.1) (find_map test h es)

mutual
  unfolding same_type map_type

  pub same_type_map : {N M : Type 0} (f : N → M) (same : M → M → Bool) (s t : TypeDesc N)
      → same_type same (map_type f s) (map_type f t) ≡ same_type (λ n m. same (f n) (f m)) s t
  same_type_map f same (type_desc k n ms) (type_desc k' n' ms') = ap (λ (b : Bool). same_bytes (numbers_of k) (numbers_of k') && (same (f n) (f n') && b))
      (same_members_map f same ms ms')

  same_members_map : {N M : Type 0} (f : N → M) (same : M → M → Bool) (ms ns : Members N)
      → same_members same (map_members f ms) (map_members f ns) ≡ same_members (λ n m. same (f n) (f m)) ms ns
  same_members_map f same no_member no_member = refl
  same_members_map f same no_member (member n o t ms) = refl
  same_members_map f same (member n o t ms) no_member = refl
  same_members_map f same (member n o t ms) (member n' o' t' ms') =
      let p = same_type_map f same t t' in
      let q = same_members_map f same ms ms' in
      λ i. same (f n) (f n') && (eqb o o' && (p i && q i))

pub find_type_map : {N M : Type 0} (f : N → M) (same : M → M → Bool) (t : TypeDesc N) (es : List (TypeDesc N × ℕ))
    → find (same_type same (map_type f t)) (map (map_key (map_type f)) es) ≡ find (same_type (λ n m. same (f n) (f m)) t) es
unfolding find
find_type_map f same t [] = refl
find_type_map f same t (e ∷ es) =
    let p = same_type_map f same t e.0 in
    let q = find_type_map f same t es in
    λ i. hit (p i) e.1 (q i)

pub member_count_map : {N M : Type 0} (f : N → M) (ms : Members N) → member_count (map_members f ms) ≡ member_count ms
unfolding member_count map_members
member_count_map f no_member = refl
member_count_map f (member n o t ms) = ap suc (member_count_map f ms)

pub rows_map : {A A' B C : Type 0} (row : A' → B → List C) (row' : A → B → List C) (h : A → A') → ((x : A) (o : B) → row (h x) o ≡ row' x o)
    → (xs : List A) (os : List B) → rows row (map h xs) os ≡ rows row' xs os
unfolding rows
rows_map row row' h e [] os = refl
rows_map row row' h e (x ∷ xs) [] = refl
rows_map row row' h e (x ∷ xs) (o ∷ os) =
    let p = e x o in
    let q = rows_map row row' h e xs os in
    λ i. p i ++ q i

module _ {N D M E : Type 0} (f : N → M) (g : D → E) where
  -- Cells of known bytes, and of texts.
  map_bytes : (bs : List ℕ) → map byte bs ≡ map (map_cell f g) (map byte bs)
  unfolding map_cell
  map_bytes [] = refl
  map_bytes (b ∷ bs) = ap {B = List (Cell M E)} (λ cs. byte b ∷ cs) (map_bytes bs)

  map_words : (ws : List ℕ) → word_cells ws ≡ map (map_cell f g) (word_cells ws)
  unfolding word_cells
  map_words [] = refl
  map_words (w ∷ ws) =
      let p = map_bytes (word_bytes w) in
      let q = map_words ws in
      (λ i. p i ++ q i) ∙ sym (map-append (map_cell f g) (map byte (word_bytes w)) (word_cells ws))

  map-replicate : (n b : ℕ) → replicate n (byte b) ≡ map (map_cell f g) (replicate n (byte b))
  unfolding map_cell
  map-replicate zero b = refl
  map-replicate (suc n) b = ap {B = List (Cell M E)} (λ cs. byte b ∷ cs) (map-replicate n b)

  pub map_cells_of : (n : ℕ) (cell : ℕ → Cell M E) (cell' : ℕ → Cell N D) → ((j : ℕ) → cell j ≡ map_cell f g (cell' j))
      → cells_of n cell ≡ map (map_cell f g) (cells_of n cell')
  unfolding cells_of
  map_cells_of zero cell cell' e = refl
  map_cells_of (suc n) cell cell' e =
      let q = map_cells_of n (λ j. cell (suc j)) (λ j. cell' (suc j)) (λ j. e (suc j)) in
      λ i. e 0 i ∷ q i

  -- A step on what names and defaults stand for, and the step on them.
  pub record Natural {A : Type 0} (m : WriteStep M E A) (m' : WriteStep N D A) : Type 0 where
    pub runs : (at : ℕ) (ps : Pools N D) → m at (map_pools f g ps) ≡ map_placed f g (m' at ps)

  pub bind_natural : {A B : Type 0} {m : WriteStep M E A} {m' : WriteStep N D A} {k : A → WriteStep M E B} {k' : A → WriteStep N D B} → Natural m m'
      → ((a : A) → Natural (k a) (k' a)) → Natural (m >>= k) (m' >>= k')
  unfolding ◌>>=◌
  bind_natural {A} {B} {m} {m'} {k} {k'} h e = record { runs = go }
    where
      then : ℕ → Placed M E A → Placed M E B
      then at r =
          let q = k r.result (at + length r.cells) r.pools_after in
          record { result = q.result; cells = r.cells ++ q.cells; pools_after = q.pools_after }

      go : (at : ℕ) (ps : Pools N D) → (m >>= k) at (map_pools f g ps) ≡ map_placed f g ((m' >>= k') at ps)
      go at ps =
          let r = m' at ps in
          let q : k r.result (at + length (map (map_cell f g) r.cells)) (map_pools f g r.pools_after)
          ≡ map_placed f g (k' r.result (at + length r.cells) r.pools_after) =
          ap (λ (n : ℕ). k r.result (at + n) (map_pools f g r.pools_after)) (length-map r.cells (map_cell f g))
          ∙ (e r.result).runs (at + length r.cells) r.pools_after in
          let cs = sym (map-append (map_cell f g) r.cells (k' r.result (at + length r.cells) r.pools_after).cells) in
          ap (then at) (h.runs at ps)
          ∙ (λ i. record { result = (q i).result; cells = map (map_cell f g) r.cells ++ (q i).cells; pools_after = (q i).pools_after })
          ∙ (λ i. let p = map_placed f g (k' r.result (at + length r.cells) r.pools_after) in
          record { result = p.result; cells = cs i; pools_after = p.pools_after })

  pub return_natural : {A : Type 0} (a : A) → Natural (return a) (return a)
  unfolding return
  return_natural a = record { runs = λ at ps. refl }

  pub append_natural : (cs : List (Cell M E)) (cs' : List (Cell N D)) → cs ≡ map (map_cell f g) cs' → Natural (append cs) (append cs')
  unfolding append
  append_natural cs cs' e = record { runs = λ at ps i. record { result = at; cells = e i; pools_after = map_pools f g ps } }

  pub remember_natural : (add : ℕ → Pools M E → Pools M E) (add' : ℕ → Pools N D → Pools N D) (o : ℕ)
      → ((ps : Pools N D) → add o (map_pools f g ps) ≡ map_pools f g (add' o ps)) → Natural (add_to_pool add o) (add_to_pool add' o)
  unfolding add_to_pool
  remember_natural add add' o e = record { runs = λ at ps i. record { result = o; cells = []; pools_after = e ps i } }

  pub remember_if_natural : (b : Bool) (add : ℕ → Pools M E → Pools M E) (add' : ℕ → Pools N D → Pools N D) (o : ℕ)
      → ((ps : Pools N D) → add o (map_pools f g ps) ≡ map_pools f g (add' o ps)) → Natural (add_to_pool_if b add o) (add_to_pool_if b add' o)
  unfolding add_to_pool_if
  remember_if_natural true add add' o e = remember_natural add add' o e
  remember_if_natural false add add' o e = return_natural o

  pub pad_natural : Natural pad pad
  unfolding pad
  pad_natural = record { runs = λ at ps i. record { result = at + padding_at at; cells = map-replicate (padding_at at) 0xab i; pools_after = map_pools f g ps } }

  pub words_natural : (ws : List ℕ) → Natural (append (word_cells ws)) (append (word_cells ws))
  words_natural ws = append_natural (word_cells ws) (word_cells ws) (map_words ws)

  pub ahead_natural : {A : Type 0} {n n' : ℕ} {words words' : A → List ℕ} {m : WriteStep M E A} {m' : WriteStep N D A} → n ≡ n'
      → ((a : A) → words a ≡ words' a) → Natural m m' → Natural (reserve n words m) (reserve n' words' m')
  unfolding reserve
  ahead_natural {A} {n} {n'} {words} {words'} {m} {m'} e w h = record { runs = go }
    where
      go : (at : ℕ) (ps : Pools N D) → reserve n words m at (map_pools f g ps) ≡ map_placed f g (reserve n' words' m' at ps)
      go at ps =
          let q = m' (at + 4 * n') ps in
          let p : m (at + 4 * n) (map_pools f g ps) ≡ map_placed f g q = ap (λ (l : ℕ). m (at + 4 * l) (map_pools f g ps)) e ∙ h.runs (at + 4 * n') ps in
          let cs : word_cells (words q.result) ++ map (map_cell f g) q.cells ≡ map (map_cell f g) (word_cells (words' q.result) ++ q.cells) =
          ap (λ (ws : List ℕ). word_cells ws ++ map (map_cell f g) q.cells) (w q.result)
          ∙ ap (λ (l : List (Cell M E)). l ++ map (map_cell f g) q.cells) (map_words (words' q.result))
          ∙ sym (map-append (map_cell f g) (word_cells (words' q.result)) q.cells) in
          (λ i. record { result = (p i).result; cells = word_cells (words (p i).result) ++ (p i).cells; pools_after = (p i).pools_after })
          ∙ (λ i. record { result = q.result; cells = cs i; pools_after = map_pools f g q.pools_after })

  pub below_natural : {A : Type 0} {m : WriteStep M E A} {m' : WriteStep N D A} → Natural m m' → Natural (in_member_pool m) (in_member_pool m')
  unfolding in_member_pool
  below_natural h = record {
    runs = λ at ps i.
        let q = h.runs at (enter_member ps) i in
        record {
          result = q.result;
          cells = q.cells;
          pools_after = pools q.pools_after.outer_names q.pools_after.inner_names
              (map (map_key (map_type f)) ps.types) q.pools_after.types q.pools_after.defaults;
        };
  }

  found_natural : {m : WriteStep M E ℕ} {m' : WriteStep N D ℕ} (l : Option ℕ) → Natural m m' → Natural (found l m) (found l m')
  found_natural None h = record { runs = h.runs }
  found_natural (Some o) h = record { runs = λ at ps. refl }

  pub once_natural : (b : Bool) (look : Pools M E → Option ℕ) (look' : Pools N D → Option ℕ) {m : WriteStep M E ℕ} {m' : WriteStep N D ℕ}
      → ((ps : Pools N D) → look (map_pools f g ps) ≡ look' ps) → Natural m m' → Natural (interned b look m) (interned b look' m')
  unfolding interned
  once_natural true look look' {m} {m'} e h = record {
    runs = λ at ps. ap (λ (l : Option ℕ). found l m at (map_pools f g ps)) (e ps)
        ∙ (found_natural (look' ps) h).runs at ps;
  }
  once_natural false look look' e h = record { runs = h.runs }

  pub unless_empty_natural : (n : ℕ) {m : WriteStep M E ℕ} {m' : WriteStep N D ℕ} → Natural m m' → Natural (unless_empty n m) (unless_empty n m')
  unfolding unless_empty
  unless_empty_natural zero h = return_natural 0
  unless_empty_natural (suc n) h = h
