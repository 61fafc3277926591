-- Runs of steps: what the code did in turn is a run of the step that the definition puts together, one law for each way of putting steps together. A run's
-- bytes follow those of the run before it, since the cursor moves by as many bytes as there are cells.
use Rattle.std.specs.Prelude.{Option, None, Some}
use mathlib.Core.Path.{◌≡◌, refl, ap, sym, ◌∙◌, subst}
use mathlib.Core.Bool.{Bool, true, false}
use mathlib.Core.List.{List, [], ◌++◌}
use mathlib.Core.Logic.{◌⊎◌, inl, inr, ⊎_elim}
use Prim.Native.Nat.{ℕ, zero, suc, ◌+◌, ◌<◌, ◌≤◌}
use native.Mathlib.Omega.{arith}
use lib.ListN.{length, replicate, length-replicate, length-append}
use Rattle.words.specs.Splice.{Put}
use Rattle.words.proofs.Splice.{put_none, put_then, put_length}
use Rattle.reflection.specs.declared.Text.{Text}
use Rattle.write_spec.specs.Step.{Cell, Pools, Placed, WriteStep, ◌>>=◌, return}
use Rattle.write_spec.specs.Step.{append, add_to_pool, pad, padding_at, word_cells, found, interned, add_to_pool_if, unless_empty, in_member_pool}
use Rattle.write_spec.specs.Step.{enter_member}
use Rattle.write_spec.specs.Step.{leave_member}
use Rattle.write_texts.specs.Simulates.{InStep, PastLimit, Simulates, chunk_limit, cell_bytes}
use Rattle.write_bytes.specs.Bytes.{joined_bytes}
use Rattle.write_texts.proofs.CellBytes.{length_cell_bytes, cell_bytes_append, cell_bytes_none, cell_bytes_words, cell_bytes_padding}

module _ (chunk edits : List ℕ) where
  -- nothing was written
  put_no_cells : (out : List ℕ) (at : ℕ) → Put out at (cell_bytes chunk edits []) out at
  put_no_cells out at = subst (λ bytes. Put out at bytes out at) (sym (cell_bytes_none chunk edits)) (put_none out at)

  exactly : {A : Type 0} {m : WriteStep Text Text A} {at to : ℕ} {ps ps' : Pools Text Text} {out out' : List ℕ} {a : A}
      → InStep chunk edits m at ps out out' a to ps' → Simulates chunk edits m at ps out out' a to ps'
  exactly p = record { known = inl p }

  over : {A : Type 0} {m : WriteStep Text Text A} {at to : ℕ} {ps ps' : Pools Text Text} {out out' : List ℕ} {a : A}
      → PastLimit m at ps out out' to → Simulates chunk edits m at ps out out' a to ps'
  over p = record { known = inr p }

  -- past the limit anything is a run that leaves the output as long as it was and the cursor no less
  pub ran_past : {A : Type 0} (m : WriteStep Text Text A) {at to : ℕ} (ps : Pools Text Text) {ps' : Pools Text Text} {out out' : List ℕ} {a : A}
      → chunk_limit < at → at ≤ to → length out' ≡ length out → Simulates chunk edits m at ps out out' a to ps'
  ran_past m ps past up long = over (record { reached = omega arith; defined = omega arith; long = long })

  -- two steps, the second made from the first one's result
  pub ran_bind : {A B : Type 0} {m : WriteStep Text Text A} (f : A → WriteStep Text Text B)
      {at to₁ to₂ : ℕ} {ps ps₁ ps₂ : Pools Text Text} {out out₁ out₂ : List ℕ} {a : A} {b : B}
      → Simulates chunk edits m at ps out out₁ a to₁ ps₁ → Simulates chunk edits (f a) to₁ ps₁ out₁ out₂ b to₂ ps₂
      → Simulates chunk edits (m >>= f) at ps out out₂ b to₂ ps₂
  unfolding ◌>>=◌
  ran_bind {A} {B} {m} f {at} {to₁} {to₂} {ps} {ps₁} {ps₂} {out} {out₁} {out₂} {a} {b} p q = by p.known q.known
    where
      first : Placed Text Text A
      first = m at ps

      after : Placed Text Text B
      after = f first.result (at + length first.cells) first.pools_after

      cells_longer : length first.cells + length after.cells ≡ length (first.cells ++ after.cells)
      cells_longer = sym (length-append first.cells after.cells)

      cursor : InStep chunk edits m at ps out out₁ a to₁ ps₁ → at + length first.cells ≡ to₁
      cursor p = ap (λ (n : ℕ). at + n) (sym (length_cell_bytes chunk edits first.cells)) ∙ sym p.put.next

      second : InStep chunk edits m at ps out out₁ a to₁ ps₁ → after ≡ f a to₁ ps₁
      second p = λ i. f (p.answered i) (cursor p i) (p.pools_left i)

      bytes : InStep chunk edits m at ps out out₁ a to₁ ps₁
          → cell_bytes chunk edits first.cells ++ cell_bytes chunk edits (f a to₁ ps₁).cells ≡ cell_bytes chunk edits (first.cells ++ after.cells)
      bytes p =
          ap (λ (x : Placed Text Text B). cell_bytes chunk edits first.cells ++ cell_bytes chunk edits x.cells) (sym (second p))
          ∙ sym (cell_bytes_append chunk edits first.cells after.cells)

      by : InStep chunk edits m at ps out out₁ a to₁ ps₁ ⊎ PastLimit m at ps out out₁ to₁
          → InStep chunk edits (f a) to₁ ps₁ out₁ out₂ b to₂ ps₂ ⊎ PastLimit (f a) to₁ ps₁ out₁ out₂ to₂
          → Simulates chunk edits (m >>= f) at ps out out₂ b to₂ ps₂
      by (inl p) (inl q) = exactly (record {
        answered = ap (λ (x : Placed Text Text B). x.result) (second p) ∙ q.answered;
        put = subst (λ bytes. Put out at bytes out₂ to₂) (bytes p) (put_then p.put q.put);
        pools_left = ap (λ (x : Placed Text Text B). x.pools_after) (second p) ∙ q.pools_left;
      })
      by (inl p) (inr q) = over (record {
        reached = q.reached;
        defined = omega (arith, q.defined, cursor p, cells_longer, ap (λ (x : Placed Text Text B). length x.cells) (second p));
        long = q.long ∙ put_length p.put;
      })
      by (inr p) (inl q) = over (record {
        reached = omega (arith, p.reached, q.put.next);
        defined = omega (arith, p.defined, cells_longer);
        long = put_length q.put ∙ p.long;
      })
      by (inr p) (inr q) = over (record { reached = q.reached; defined = omega (arith, p.defined, cells_longer); long = q.long ∙ p.long })

  -- a step that does here what another does
  ran_same : {A : Type 0} {m n : WriteStep Text Text A} {at to : ℕ} {ps ps' : Pools Text Text} {out out' : List ℕ} {a : A} → m at ps ≡ n at ps
      → Simulates chunk edits m at ps out out' a to ps'
      → Simulates chunk edits n at ps out out' a to ps'
  ran_same {A} {m} {n} {at} {to} {ps} {ps'} {out} {out'} {a} e p = by p.known
    where
      by : InStep chunk edits m at ps out out' a to ps' ⊎ PastLimit m at ps out out' to → Simulates chunk edits n at ps out out' a to ps'
      by (inl p) = exactly (record {
        answered = ap (λ (x : Placed Text Text A). x.result) (sym e) ∙ p.answered;
        put = subst (λ (x : Placed Text Text A). Put out at (cell_bytes chunk edits x.cells) out' to) e p.put;
        pools_left = ap (λ (x : Placed Text Text A). x.pools_after) (sym e) ∙ p.pools_left;
      })
      by (inr p) = over (record {
        reached = p.reached;
        defined = subst (λ (x : Placed Text Text A). chunk_limit < at + length x.cells) e p.defined;
        long = p.long;
      })

  pub ran_return : {A : Type 0} (a : A) (at : ℕ) (ps : Pools Text Text) (out : List ℕ) → Simulates chunk edits (return a) at ps out out a at ps
  unfolding return
  ran_return a at ps out = exactly (record { answered = refl; put = put_no_cells out at; pools_left = refl })

  -- cells whose bytes are known
  pub ran_append : (cells : List (Cell Text Text)) {at to : ℕ} {ps : Pools Text Text} {out out' bytes : List ℕ} → cell_bytes chunk edits cells ≡ bytes
      → Put out at bytes out' to → Simulates chunk edits (append cells) at ps out out' at to ps
  unfolding append
  ran_append cells {at} {to} {ps} {out} {out'} e p =
      exactly (record { answered = refl; put = subst (λ bytes. Put out at bytes out' to) (sym e) p; pools_left = refl })

  pub ran_append_words : (ws : List ℕ) {at to : ℕ} {ps : Pools Text Text} {out out' : List ℕ} → Put out at (joined_bytes ws) out' to
      → Simulates chunk edits (append (word_cells ws)) at ps out out' at to ps
  ran_append_words ws p = ran_append (word_cells ws) (cell_bytes_words chunk edits ws) p

  pub ran_pad : {at to : ℕ} {ps : Pools Text Text} {out out' : List ℕ} → Put out at (replicate (padding_at at) 0xab) out' to
      → Simulates chunk edits pad at ps out out' to to ps
  unfolding pad
  ran_pad {at} {to} {ps} {out} {out'} p = exactly (record {
    answered = ap (λ (n : ℕ). at + n) (sym (length-replicate (padding_at at) 0xab)) ∙ sym p.next;
    put = subst (λ bytes. Put out at bytes out' to) (sym (cell_bytes_padding chunk edits (padding_at at) 0xab)) p;
    pools_left = refl;
  })

  pub simulates_add_to_pool : (add : ℕ → Pools Text Text → Pools Text Text) (offset at : ℕ) (ps : Pools Text Text) (out : List ℕ)
      → Simulates chunk edits (add_to_pool add offset) at ps out out offset at (add offset ps)
  unfolding add_to_pool
  simulates_add_to_pool add offset at ps out = exactly (record { answered = refl; put = put_no_cells out at; pools_left = refl })

  pub simulates_add_to_pool_if_shared : (share : Bool) (add : ℕ → Pools Text Text → Pools Text Text) (offset at : ℕ) (ps : Pools Text Text)
      (out : List ℕ) → share ≡ true
      → Simulates chunk edits (add_to_pool_if share add offset) at ps out out offset at (add offset ps)
  unfolding add_to_pool_if
  simulates_add_to_pool_if_shared share add offset at ps out e =
      subst (λ b. Simulates chunk edits (add_to_pool_if b add offset) at ps out out offset at (add offset ps)) (sym e) (simulates_add_to_pool add offset at ps out)

  pub simulates_add_to_pool_if_unshared : (share : Bool) (add : ℕ → Pools Text Text → Pools Text Text) (offset at : ℕ) (ps : Pools Text Text) (out : List ℕ)
      → share ≡ false → Simulates chunk edits (add_to_pool_if share add offset) at ps out out offset at ps
  unfolding add_to_pool_if
  simulates_add_to_pool_if_unshared share add offset at ps out e =
      subst (λ b. Simulates chunk edits (add_to_pool_if b add offset) at ps out out offset at ps) (sym e) (ran_return offset at ps out)

  -- what is empty, and what is not
  pub ran_empty : (n : ℕ) (m : WriteStep Text Text ℕ) (at : ℕ) (ps : Pools Text Text) (out : List ℕ) → n ≡ 0
      → Simulates chunk edits (unless_empty n m) at ps out out 0 at ps
  unfolding unless_empty
  ran_empty n m at ps out e = subst (λ k. Simulates chunk edits (unless_empty k m) at ps out out 0 at ps) (sym e) (ran_return 0 at ps out)

  pub ran_unless_empty : (n : ℕ) {m : WriteStep Text Text ℕ} {at to offset : ℕ} {ps ps' : Pools Text Text} {out out' : List ℕ} → (n ≡ 0 → ⊥)
      → Simulates chunk edits m at ps out out' offset to ps' → Simulates chunk edits (unless_empty n m) at ps out out' offset to ps'
  unfolding unless_empty
  ran_unless_empty zero h p = absurd (h refl)
  ran_unless_empty (suc n) h p = p

  -- what a pool has, and what it has not
  ran_found : (looked : Option ℕ) (m : WriteStep Text Text ℕ) (offset at : ℕ) (ps : Pools Text Text) (out : List ℕ) → looked ≡ Some offset
      → Simulates chunk edits (found looked m) at ps out out offset at ps
  ran_found looked m offset at ps out e =
      subst (λ x. Simulates chunk edits (found x m) at ps out out offset at ps) (sym e)
      (exactly (record { answered = refl; put = put_no_cells out at; pools_left = refl }))

  ran_absent : (looked : Option ℕ) {m : WriteStep Text Text ℕ} {at to offset : ℕ} {ps ps' : Pools Text Text} {out out' : List ℕ} → looked ≡ None
      → Simulates chunk edits m at ps out out' offset to ps' → Simulates chunk edits (found looked m) at ps out out' offset to ps'
  ran_absent looked {m} {at} {to} {offset} {ps} {ps'} {out} {out'} e p =
      subst (λ x. Simulates chunk edits (found x m) at ps out out' offset to ps') (sym e) (ran_same refl p)

  pub simulates_interned_found : (look : Pools Text Text → Option ℕ) (m : WriteStep Text Text ℕ) (offset at : ℕ) (ps : Pools Text Text) (out : List ℕ)
      → look ps ≡ Some offset → Simulates chunk edits (interned true look m) at ps out out offset at ps
  unfolding interned
  simulates_interned_found look m offset at ps out e =
      ran_same refl (ran_found (look ps) m offset at ps out e)

  pub simulates_interned_fresh : (look : Pools Text Text → Option ℕ) {m : WriteStep Text Text ℕ} {at to offset : ℕ} {ps ps' : Pools Text Text}
      {out out' : List ℕ}
      → look ps ≡ None → Simulates chunk edits m at ps out out' offset to ps' → Simulates chunk edits (interned true look m) at ps out out' offset to ps'
  unfolding interned
  simulates_interned_fresh look {ps = ps} e q =
      ran_same refl (ran_absent (look ps) e q)

  -- where nothing is shared
  pub simulates_interned_unshared : (shared : Bool) (look : Pools Text Text → Option ℕ) {m : WriteStep Text Text ℕ}
      {at to offset : ℕ} {ps ps' : Pools Text Text} {out out' : List ℕ} → shared ≡ false
      → Simulates chunk edits m at ps out out' offset to ps' → Simulates chunk edits (interned shared look m) at ps out out' offset to ps'
  unfolding interned
  simulates_interned_unshared shared look {m} {at} {to} {offset} {ps} {ps'} {out} {out'} e p =
      subst (λ b. Simulates chunk edits (interned b look m) at ps out out' offset to ps') (sym e) (ran_same refl p)

  -- a member's type
  pub ran_below : {A : Type 0} {m : WriteStep Text Text A} {at to : ℕ} {ps ps' : Pools Text Text} {out out' : List ℕ} {a : A}
      → Simulates chunk edits m at (enter_member ps) out out' a to ps' → Simulates chunk edits (in_member_pool m) at ps out out' a to (leave_member ps.types ps')
  unfolding in_member_pool
  ran_below {A} {m} {at} {to} {ps} {ps'} {out} {out'} {a} p = by p.known
    where
      by : InStep chunk edits m at (enter_member ps) out out' a to ps' ⊎ PastLimit m at (enter_member ps) out out' to
          → Simulates chunk edits (in_member_pool m) at ps out out' a to (leave_member ps.types ps')
      by (inl p) = exactly (record { answered = p.answered; put = p.put; pools_left = ap (leave_member ps.types) p.pools_left })
      by (inr p) = over (record { reached = p.reached; defined = p.defined; long = p.long })

  -- the same run from equal pools to equal pools, with an equal result
  pub ran_like : {A : Type 0} {m : WriteStep Text Text A} {at to : ℕ} {ps qs ps' qs' : Pools Text Text} {out out' : List ℕ} {a b : A} → ps ≡ qs → ps' ≡ qs'
      → a ≡ b → Simulates chunk edits m at ps out out' a to ps' → Simulates chunk edits m at qs out out' b to qs'
  ran_like {A} {m} {at} {to} {ps} {qs} {ps'} {qs'} {out} {out'} {a} {b} before after same p =
      subst (λ x. Simulates chunk edits m at qs out out' x to qs') same
      (subst (λ x. Simulates chunk edits m at qs out out' a to x) after (subst (λ x. Simulates chunk edits m at x out out' a to ps') before p))

  -- the same run of an equal step, and where the cursors and outputs are equal
  pub ran_step : {A : Type 0} {m n : WriteStep Text Text A} {at to : ℕ} {ps ps' : Pools Text Text} {out out' : List ℕ} {a : A} → m ≡ n
      → Simulates chunk edits m at ps out out' a to ps' → Simulates chunk edits n at ps out out' a to ps'
  ran_step {A} {m} {n} {at} {to} {ps} {ps'} {out} {out'} {a} e p = subst (λ x. Simulates chunk edits x at ps out out' a to ps') e p

  pub ran_to : {A : Type 0} {m : WriteStep Text Text A} {at to to' : ℕ} {ps ps' : Pools Text Text} {out out' out'' : List ℕ} {a : A} → to ≡ to' → out' ≡ out''
      → Simulates chunk edits m at ps out out' a to ps' → Simulates chunk edits m at ps out out'' a to' ps'
  ran_to {A} {m} {at} {to} {to'} {ps} {ps'} {out} {out'} {out''} {a} e h p =
      subst (λ x. Simulates chunk edits m at ps out out'' a x ps') e (subst (λ x. Simulates chunk edits m at ps out x a to ps') h p)

-- A run keeps the output's length.
pub ran_long : {chunk edits : List ℕ} {A : Type 0} {step : WriteStep Text Text A} {at to : ℕ} {ps ps' : Pools Text Text} {out out' : List ℕ} {a : A}
    → Simulates chunk edits step at ps out out' a to ps' → length out' ≡ length out
ran_long ran = ⊎_elim (λ p. put_length p.put) (λ p. p.long) ran.known
