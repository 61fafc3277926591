-- Vocabulary of internal contracts: no contract of an exported function and no demand cites it.
-- What every walk is given and leaves, whichever tables it fills.
use Rattle.std.specs.Prelude.{◌≡◌, List, ℕ, ◌+◌, ◌-◌, ◌/◌, ◌<◌, ◌≤◌, length, Ok, Err}
use Rattle.reflection.specs.declared.refusal.Refusal.{Refusal}
use Rattle.reflection.specs.declared.refusal.Refusal.TheVariants.{NoRoom}
use Rattle.read_spec.specs.declared.Counts.{Counts}
use Rattle.read_spec.specs.Step.{Room, room, Walk}
use Rattle.read_types.specs.Progress.{Progress, stopped, reached}

-- The room left, where the tables can take `capacity` records and have n.
abbrev pub room_left : Counts → Counts → Room
room_left capacity n =
    room (capacity.bindings - n.bindings) (capacity.buffers - n.buffers) (capacity.variables - n.variables) (capacity.types - n.types)

-- A lent table has n records and can take `capacity`.
pub record HasRoom (width capacity n : ℕ) (table : List ℕ) : Type 0 where
  pub taken : n ≤ capacity
  pub fits : capacity ≤ length table / width

-- A table that can take `capacity` records has room for one more, the n-th.
pub record Claimed (capacity before after n : ℕ) : Type 0 where
  pub is : n ≡ before
  pub free : before < capacity
  pub one_more : after ≡ before + 1

-- It has none.
pub record Full (capacity before after : ℕ) (e : Refusal) : Type 0 where
  pub refusal : e ≡ NoRoom
  pub full : capacity ≤ before
  pub kept : after ≡ before

-- From n records a table came to m, and to no more than `most`.
pub record Grew (most n m : ℕ) : Type 0 where
  pub low : n ≤ m
  pub high : m ≤ most

-- The same of each table. A walk that leaves a table as it is has that table's own number in `most`.
pub record AllGrew (most n m : Counts) : Type 0 where
  pub bindings : Grew most.bindings n.bindings m.bindings
  pub buffers : Grew most.buffers n.buffers m.buffers
  pub variables : Grew most.variables n.variables m.variables
  pub types : Grew most.types n.types m.types

-- The progress that an answer stands for, where `written` says what so many records of the tables hold.
abbrev pub answered : {S : Type 0} → Counts → (Counts → S) → Walk → Progress S
answered capacity written (Ok m) = reached (written m) (room_left capacity m)
answered capacity written (Err e) = stopped e

abbrev pub GrewTo : Counts → Counts → Walk → Type 0
GrewTo most n (Ok m) = AllGrew most n m
GrewTo most n (Err e) = Unit

-- What a walk leaves: from n records of its tables as they were before, the progress `out`, in its tables as they are after; at most `most` records.
pub record Walked {S : Type 0} (out : S → Room → Progress S) (capacity most n : Counts) (before after : Counts → S) (r : Walk) : Type 0 where
  pub outcome : out (before n) (room_left capacity n) ≡ answered capacity after r
  pub grew : GrewTo most n r
