-- What reads in some room reads as the same in more room: each step takes no more than there was, and asks of the room only whether one more record is left.
use Rattle.reflection.specs.Outcome.{Outcome}
use Rattle.reflection.specs.declared.refusal.Refusal.{Refusal}
use Rattle.text.specs.declared.Span.{Span}
use Rattle.std.specs.Prelude.{Option, None, Ok, Err, Some}
use mathlib.Core.Path.{◌≡◌, refl, ap, subst, ◌∙◌}
use mathlib.Core.Bool.{Bool, true, false}
use mathlib.Core.List.{List, [], ◌∷◌}
use Prim.Native.Nat.{ℕ, zero, suc, ◌+◌, ◌≤◌}
use native.Mathlib.Omega.{arith}
use Rattle.reflection.specs.Strides.{member_stride}
use Rattle.reflection.specs.declared.Text.{Text}
use Rattle.reflection.specs.Reflection.{TypeDesc, Rd11, ResourceDef}
use Rattle.tables.specs.Nodes.{type_levels}
use Rattle.read_spec.specs.Step.{Room, ReadStep, and_then, ◌>>=◌, return, refuse, check, text_or, one_less, take_binding, take_buffer, take_variable}
use Rattle.read_spec.specs.Step.{take_type}
use Rattle.read_spec.specs.Read.{read_many, read_members, read_type, read_variable, variable_stride}
use Rattle.read_spec.specs.Read.{read_binding, read_buffer, read_rd11, read_tables, read_chunk, without_room, read}

-- Room for no more records than other room has.
pub record AtMost (r w : Room) : Type 0 where
  pub bindings : r.bindings ≤ w.bindings
  pub buffers : r.buffers ≤ w.buffers
  pub variables : r.variables ≤ w.variables
  pub types : r.types ≤ w.types

-- A step gives the same in other room, and leaves no less of it.
record Gave {A : Type 0} (x : Outcome (A × Room)) (a : A) (q : Room) : Type 0 where
  left : Room
  is : x ≡ Ok (a, left)
  more : AtMost q left

record Widens {A : Type 0} (m : ReadStep A) : Type 0 where
  wide : (r w : Room) → AtMost r w → (a : A) (q : Room) → m r ≡ Ok (a, q) → Gave (m w) a q

return_widens : {A : Type 0} (a : A) → Widens (return a)
unfolding return
return_widens {A} a =
    record {
      wide = λ r w h b q e.
          (let both : ◌≡◌ {A = A × Room} (a, r) (b, q) = cc in
          record { left = w; is = ap (λ (x : A × Room). Ok (x.0, w)) both; more = subst (λ (x : A × Room). AtMost x.1 w) both h });
    }

refuse_widens : {A : Type 0} (n : Refusal) → Widens {A = A} (refuse n)
unfolding refuse
refuse_widens n = record { wide = λ r w h b q e. absurd (let apart : ◌≡◌ {A = ℕ} 0 1 = cc in omega arith) }

check_widens : (test : Bool) (n : Refusal) → Widens (check test n)
unfolding check
check_widens true n = return_widens tt
check_widens false n = refuse_widens n

text_widens : (n : Refusal) (x : Option Span) → Widens (text_or n x)
unfolding text_or
text_widens n (Some w) = return_widens _
text_widens n None = refuse_widens n

less_widens : (n m : ℕ) (f g : ℕ → Room) → n ≤ m → ((k l : ℕ) → k ≤ l → AtMost (f k) (g l)) → (u : Unit {0}) (q : Room) → one_less n f ≡ Ok (u, q)
    → Gave (one_less m g) u q
less_widens zero m f g h each u q e = absurd (let apart : ◌≡◌ {A = ℕ} 0 1 = cc in omega arith)
less_widens (suc n) zero f g h each u q e = absurd (omega arith)
less_widens (suc n) (suc m) f g h each u q e =
    let both : ◌≡◌ {A = Unit {0} × Room} (tt, f n) (u, q) = cc in
    record { left = g m; is = refl; more = subst (λ (x : Unit {0} × Room). AtMost x.1 (g m)) both (each n m (omega arith)) }

binding_widens : Widens take_binding
unfolding take_binding
binding_widens = record {
  wide = λ r w h u q e.
      less_widens r.bindings w.bindings _ _ h.bindings
      (λ k l s. record { bindings = s; buffers = h.buffers; variables = h.variables; types = h.types }) u q e;
}

buffer_widens : Widens take_buffer
unfolding take_buffer
buffer_widens = record {
  wide = λ r w h u q e.
      less_widens r.buffers w.buffers _ _ h.buffers
      (λ k l s. record { bindings = h.bindings; buffers = s; variables = h.variables; types = h.types }) u q e;
}

variable_widens : Widens take_variable
unfolding take_variable
variable_widens = record {
  wide = λ r w h u q e.
      less_widens r.variables w.variables _ _ h.variables
      (λ k l s. record { bindings = h.bindings; buffers = h.buffers; variables = s; types = h.types }) u q e;
}

type_widens : Widens take_type
unfolding take_type
type_widens = record {
  wide = λ r w h u q e.
      less_widens r.types w.types _ _ h.types
      (λ k l s. record { bindings = h.bindings; buffers = h.buffers; variables = h.variables; types = s }) u q e;
}

then_widens : {A B : Type 0} (m : ReadStep A) (f : A → ReadStep B) → Widens m → ((a : A) → Widens (f a)) → Widens (m >>= f)
unfolding ◌>>=◌
then_widens {A} {B} m f first next = record { wide = λ r w h b q e. go r w h b q (m r) refl e }
  where
    go : (r w : Room) → AtMost r w → (b : B) (q : Room) (o : Outcome (A × Room)) → m r ≡ o → and_then o f ≡ Ok (b, q) → Gave (and_then (m w) f) b q
    go r w h b q (Ok p) is e =
        let one = first.wide r w h p.0 p.1 is in
        let two = (next p.0).wide p.1 one.left one.more b q e in
        record { left = two.left; is = ap (λ (o : Outcome (A × Room)). and_then o f) one.is ∙ two.is; more = two.more }
    go r w h b q (Err d) is e = absurd (let apart : ◌≡◌ {A = ℕ} 0 1 = cc in omega arith)

many_widens : {A : Type 0} (one : ℕ → ReadStep A) → ((at : ℕ) → Widens (one at)) → (stride n at : ℕ) → Widens (read_many one stride n at)
unfolding read_many
many_widens one each stride zero at = return_widens []
many_widens one each stride (suc n) at =
    then_widens _ _ (each at) (λ x. then_widens _ _ (many_widens one each stride n (at + stride)) (λ xs. return_widens (x ∷ xs)))

module _ (s : List ℕ) where
  members_widen : (one : ℕ → ReadStep (TypeDesc Text)) → ((at : ℕ) → Widens (one at)) → (n at : ℕ) → Widens (read_members one s n at)
  unfolding read_members
  members_widen one each zero at = return_widens _
  members_widen one each (suc n) at =
      then_widens _ _ (check_widens _ _) (λ _. then_widens _ _ (text_widens _ _) (λ name. then_widens _ _ (each _) (λ t.
      then_widens _ _ (members_widen one each n (at + member_stride)) (λ ms. return_widens _))))

  read_type_widens : (sm5 : Bool) (levels : ℕ) (path : List ℕ) (at : ℕ) → Widens (read_type s sm5 levels path at)
  unfolding read_type
  read_type_widens sm5 zero path at = refuse_widens _
  read_type_widens sm5 (suc levels) path at =
      then_widens _ _ (check_widens _ _) (λ _. then_widens _ _ type_widens (λ _. then_widens _ _ (check_widens _ _) (λ _.
      then_widens _ _ (members_widen _ (λ below. read_type_widens sm5 levels (at ∷ path) below) _ _) (λ ms.
      then_widens _ _ (text_widens _ _) (λ name. return_widens _)))))

  read_variable_widens : (sm5 : Bool) (at : ℕ) → Widens (read_variable s sm5 at)
  unfolding read_variable
  read_variable_widens sm5 at =
      then_widens _ _ variable_widens (λ _. then_widens _ _ (check_widens _ _) (λ _. then_widens _ _ (text_widens _ _) (λ default.
      then_widens _ _ (text_widens _ _) (λ name. then_widens _ _ (read_type_widens sm5 type_levels [] _) (λ t. return_widens _)))))

  read_buffer_widens : (sm5 : Bool) (at : ℕ) → Widens (read_buffer s sm5 at)
  unfolding read_buffer
  read_buffer_widens sm5 at =
      then_widens _ _ buffer_widens (λ _. then_widens _ _ (check_widens _ _) (λ _.
      then_widens _ _ (many_widens (read_variable s sm5) (read_variable_widens sm5) (variable_stride sm5) _ _) (λ vs.
      then_widens _ _ (text_widens _ _) (λ name. return_widens _))))

  read_binding_widens : (wide : Bool) (at : ℕ) → Widens (read_binding s wide at)
  unfolding read_binding
  read_binding_widens wide at =
      then_widens _ _ binding_widens (λ _. then_widens _ _ (check_widens _ _) (λ _. then_widens _ _ (check_widens _ _) (λ _.
      then_widens _ _ (check_widens _ _) (λ _.
      then_widens _ _ (check_widens _ _) (λ _. then_widens _ _ (text_widens _ _) (λ name. return_widens _))))))

  rd11_widens : (sm5 : Bool) → Widens (read_rd11 s sm5)
  unfolding read_rd11
  rd11_widens false = return_widens _
  rd11_widens true = then_widens _ _ (check_widens _ _) (λ _. then_widens _ _ (check_widens _ _) (λ _. return_widens _))

  tables_widen : (creator : Text) (words : Rd11) → Widens (read_tables s creator words)
  unfolding read_tables
  tables_widen creator words =
      then_widens _ _ (many_widens _ (read_binding_widens _) _ _ _) (λ bs. then_widens _ _ (many_widens _ (read_buffer_widens _) _ _ _) (λ cs. return_widens _))

  chunk_widens : Widens (read_chunk s)
  unfolding read_chunk
  chunk_widens =
      then_widens _ _ (check_widens _ _) (λ _. then_widens _ _ (check_widens _ _) (λ _. then_widens _ _ (check_widens _ _) (λ _.
      then_widens _ _ (text_widens _ _) (λ creator.
      then_widens _ _ (rd11_widens _) (λ words. tables_widen creator words)))))

  pub read_wider : (r w : Room) → AtMost r w → (d : ResourceDef Text Text) → read r s ≡ Ok d → read w s ≡ Ok d
  unfolding read
  read_wider r w h d e = go (read_chunk s r) refl e
    where
      go : (o : Outcome (ResourceDef Text Text × Room)) → read_chunk s r ≡ o → without_room o ≡ Ok d → without_room (read_chunk s w) ≡ Ok d
      go (Ok p) is same =
          let gave = chunk_widens.wide r w h p.0 p.1 is in
          ap without_room gave.is ∙ same
      go (Err x) is same = absurd (let apart : ◌≡◌ {A = ℕ} 0 1 = cc in omega arith)
