-- `check_codes` meets its contract: it tests the codes in the order of its definition, and each way out is one case of it.
use mathlib.Core.Path.{◌≡◌, sym}
use Rattle.std.specs.Prelude.{Result, Ok, Err, MatchResult, IsErrAnd}
use Rattle.std.proofs.Common.{rules}
use Rattle.std.proofs.lemmas.Result.{err_from_is_err_and}
use Rattle.codes.specs.Table.{known}
use Rattle.codes.specs.Microsoft.{input_types, srv_dimensions}
use Rattle.codes.proofs.Known.{input_type_known, dimension_known}
use Rattle.flags.specs.Flags.{binding_flags_allowed}
use Rattle.reflection.specs.declared.refusal.Refusal.TheVariants.{BadInputType, BadDimension}
use Rattle.read_tables.proofs.Codes.{came_out, fault_in_type, fault_in_dimension, fault_in_flags, no_fault}
use Rattle.read_tables.proofs.bindings.check_codes.Goals as goal

-- What an error became, where the closure answers always the same.
mapped : {T E D : Type 0} (r : Result T E) {r' : Result T D} {d x : D} {Q : E → D → Type 0} → r' ≡ Err d
    → MatchResult r (λ y. r' ≡ Ok y) (λ e. IsErrAnd r' (Q e)) → ((e : E) (y : D) → Q e y → y ≡ x) → d ≡ x
mapped (Ok y) is c q = absurd (cc)
mapped (Err e) {r' = Ok y} is c q = absurd (cc)
mapped (Err e) {r' = Err y} is c q = let same = q e y c in cc

pub returns-in_err-map_err : goal.returns-in_err-map_err
returns-in_err-map_err c =
    let p = err_from_is_err_and c.from_residual.result c.from_residual.ensures.1 in
    let is : c.in_err-map_err.field-0.0 ≡ BadInputType =
    mapped c.try_from.result c.in_err-map_err.was c.map_err.ensures.cases (λ e y q. search rules) in
    rw (p.1, p.2, is)
    (sym (fault_in_type c.args.binding.chunk.bytes.now c.args.binding.at
    (came_out (known input_types) c.word.ensures (input_type_known _ _ c.try_from.ensures.0) (sym c.in_err-map_err.ensures.variant))))

pub returns-in_err-map_err-2 : goal.returns-in_err-map_err-2
returns-in_err-map_err-2 c =
    let p = err_from_is_err_and c.from_residual-in_err-map_err-2.result c.from_residual-in_err-map_err-2.ensures.1 in
    let is : c.in_err-map_err-2.field-0.0 ≡ BadDimension =
    mapped c.try_from-2.result c.in_err-map_err-2.was c.map_err-2.ensures.cases (λ e y q. search rules) in
    rw (p.1, p.2, is)
    (sym (fault_in_dimension c.args.binding.chunk.bytes.now c.args.binding.at
    (came_out (known input_types) c.word.ensures (input_type_known _ _ c.try_from.ensures.0) (sym c.in_ok-map_err.ensures.variant))
    (came_out (known srv_dimensions) c.word-2.ensures (dimension_known _ _ c.try_from-2.ensures.0) (sym c.in_err-map_err-2.ensures.variant))))

pub returns-then-allowed : goal.returns-then-allowed
returns-then-allowed c =
    sym (no_fault c.args.binding.chunk.bytes.now c.args.binding.at
    (came_out (known input_types) c.word.ensures (input_type_known _ _ c.try_from.ensures.0) (sym c.in_ok-map_err.ensures.variant))
    (came_out (known srv_dimensions) c.word-2.ensures (dimension_known _ _ c.try_from-2.ensures.0) (sym c.in_ok-map_err-2.ensures.variant))
    (came_out binding_flags_allowed c.word-3.ensures c.allowed.ensures c.if-allowed.true))

pub returns-else-allowed : goal.returns-else-allowed
returns-else-allowed c =
    sym (fault_in_flags c.args.binding.chunk.bytes.now c.args.binding.at
    (came_out (known input_types) c.word.ensures (input_type_known _ _ c.try_from.ensures.0) (sym c.in_ok-map_err.ensures.variant))
    (came_out (known srv_dimensions) c.word-2.ensures (dimension_known _ _ c.try_from-2.ensures.0) (sym c.in_ok-map_err-2.ensures.variant))
    (came_out binding_flags_allowed c.word-3.ensures c.allowed.ensures c.if-allowed.false))
