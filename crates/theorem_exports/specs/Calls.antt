-- One side's calls of the exported functions: `nontrefalcu_write_canonical`, and where it answers 0 `nontrefalcu_parse_rdef` on the written bytes. The
-- contracts of the two are `WriteCall` and `ParseCall`, which cite the same records as the contracts in crates/nontrefalcu/src/canonical.rt and parse.rt.
use Rattle.std.specs.Prelude.{◌≡◌, List, ℕ, ◌<◌, length as size, get_or, take, replicate}
use Rattle.reflection.specs.Limits.{header_width, binding_table, buffer_table, variable_table, type_table}
use Rattle.read.specs.Parsed.{read_into}
use Rattle.nontrefalcu.specs.Exports.{header_at}
use Rattle.nontrefalcu.specs.Left.{TextLeft, ParseLeft}
use Rattle.nontrefalcu.specs.Writing.{canonical_into}
use Rattle.theorem_functions.specs.Calls.{Lent, lent, Left, left}

-- What the writer is lent: as `write_rdef_canonical`, but the header as words, and a table for the length.
pub record WordsLent : Type 0 where
  pub chunk : List ℕ
  pub edits : List ℕ
  pub header : List ℕ
  pub bindings : List ℕ
  pub buffers : List ℕ
  pub variables : List ℕ
  pub types : List ℕ
  pub scratch : List ℕ
  pub out : List ℕ
  pub length : List ℕ

-- What it answers and leaves.
pub record WordsLeft : Type 0 where
  pub number : ℕ
  pub scratch : List ℕ
  pub out : List ℕ
  pub length : List ℕ

-- The contract of `nontrefalcu_write_canonical`.
pub record WriteCall (l : WordsLent) (after : WordsLeft) : Type 0 where
  pub text : TextLeft (canonical_into l.chunk l.edits l.header l.bindings l.buffers l.variables l.types l.scratch l.out)
      l.out after.out l.length after.length after.number
  pub scratch : after.scratch ≡ replicate (size l.scratch) 0

-- A header and four tables, as words.
pub record WordTables : Type 0 where
  pub header : List ℕ
  pub bindings : List ℕ
  pub buffers : List ℕ
  pub variables : List ℕ
  pub types : List ℕ

-- The contract of `nontrefalcu_parse_rdef`.
abbrev pub ParseCall : List ℕ → WordTables → WordTables → ℕ → Type 0
ParseCall chunk l after number =
    ParseLeft (read_into chunk l.bindings l.buffers l.variables l.types) l.header l.bindings l.buffers l.variables l.types
    after.header after.bindings after.buffers after.variables after.types number

-- Every word is below 2^32, as the words of a `u32` table are.
abbrev pub AreWords : List ℕ → Type 0
AreWords t = (j : ℕ) → get_or t j 0 < 4294967296

pub record LentAreWords (l : WordsLent) : Type 0 where
  pub header : AreWords l.header
  pub bindings : AreWords l.bindings
  pub buffers : AreWords l.buffers
  pub variables : AreWords l.variables
  pub types : AreWords l.types

-- Tables of the whole room.
pub record WholeRoom (t : WordTables) : Type 0 where
  pub header : size t.header ≡ header_width
  pub bindings : size t.bindings ≡ binding_table
  pub buffers : size t.buffers ≡ buffer_table
  pub variables : size t.variables ≡ variable_table
  pub types : size t.types ≡ type_table

-- One side: a call of the writer, and where it answers 0 a call of `parse_rdef` on as many bytes of the output as the length says, into tables of the whole
-- room.
pub record Side : Type 0 where
  pub given : WordsLent
  pub wrote : WordsLeft
  pub writing : WriteCall given wrote
  pub words : LentAreWords given
  pub bytes : (j : ℕ) → get_or wrote.out j 0 < 256
  pub one_length : size given.length ≡ 1
  pub found_before : WordTables
  pub room : WholeRoom found_before
  pub found : WordTables
  pub read_number : ℕ
  pub reading : wrote.number ≡ 0 → ParseCall (take (get_or wrote.length 0 0) wrote.out) found_before found read_number

-- The same as for the functions of crates write and read.
abbrev pub lent_by : Side → Lent
lent_by s =
    lent s.given.chunk s.given.edits (header_at s.given.header) s.given.bindings s.given.buffers s.given.variables
    s.given.types s.given.scratch s.given.out

abbrev pub left_after : Side → Left
left_after s = left s.wrote.scratch s.wrote.out s.found.bindings s.found.buffers s.found.variables s.found.types
