-- Vocabulary of internal contracts: no contract of an exported function and no demand cites it.
-- A pool of texts in lent words: what was written once, with its offset (document 01, "Canonical form": string pools, defaults). Word 0 counts the entries;
-- then comes a link for each of 1,024 buckets; then the entries, of five words: the text's source, place and length, its offset, a link. A link is 0, or an
-- entry's number and 1: it leads to the newest entry of a bucket, and from an entry to the next older one of its bucket. The links only make finding fast:
-- what the pool holds is its entries.
use Rattle.std.specs.Prelude.{Bool, true, false, ◌≡◌, List, [], ◌∷◌, ℕ, zero, suc, ◌+◌, ◌*◌, ◌/◌, ◌%◌, ◌<◌, ◌≤◌, eqb, length, get_or}
use Rattle.words.specs.Words.{word_at}
use Rattle.reflection.specs.declared.Text.{Text}
use Rattle.tables.specs.Records.{text_at}
use Rattle.reflection.specs.Texts.{text_bytes}

abbrev pub bucket_count : ℕ
bucket_count = 1024

-- Where the entries begin, after the count and the links, and how many words an entry has.
abbrev pub entries_start : ℕ
entries_start = 1 + bucket_count

abbrev pub entry_width : ℕ
entry_width = 5

-- The hash of the first n words of a text's bytes. What lies past the end of the last word counts as 0.
unfoldable pub hash_of : List ℕ → ℕ → ℕ
hash_of bytes zero = 0
hash_of bytes (suc n) = (hash_of bytes n * 31 + word_at bytes (n * 4)) % 4294967296

-- The bucket of a text's bytes. Any function of the bytes would do; the remainder by a prime depends on every bit of the hash.
unfoldable pub bucket_of : List ℕ → ℕ
bucket_of bytes = hash_of bytes ((length bytes + 3) / 4) % 65521 % bucket_count

-- Entry i: its text, its offset, its link.
unfoldable pub entry_text : List ℕ → ℕ → Text
entry_text p i = text_at (λ k. get_or p k 0) (entries_start + i * entry_width)

unfoldable pub entry_offset : List ℕ → ℕ → ℕ
entry_offset p i = get_or p (entries_start + i * entry_width + 3) 0

unfoldable pub entry_link : List ℕ → ℕ → ℕ
entry_link p i = get_or p (entries_start + i * entry_width + 4) 0

-- The first n entries, the newest first.
unfoldable pub entries_below : List ℕ → ℕ → List (Text × ℕ)
entries_below p zero = []
entries_below p (suc i) = (entry_text p i, entry_offset p i) ∷ entries_below p i

unfoldable pub entry_count : List ℕ → ℕ
entry_count p = get_or p 0 0

unfoldable pub entries : List ℕ → List (Text × ℕ)
entries p = entries_below p (entry_count p)

abbrev pub pick : Bool → ℕ → ℕ → ℕ
pick true n m = n
pick false n m = m

-- The link to the newest of the first n entries that falls into a bucket.
unfoldable pub newest : List ℕ → List ℕ → List ℕ → ℕ → ℕ → ℕ
newest chunk edits p bucket zero = 0
newest chunk edits p bucket (suc i) = pick (eqb (bucket_of (text_bytes chunk edits (entry_text p i))) bucket) (suc i) (newest chunk edits p bucket i)

-- The entries lie in the words, and every link leads where it should.
pub record Indexed (chunk edits p : List ℕ) : Type 0 where
  pub long : entries_start + entry_count p * entry_width ≤ length p
  pub heads : (b : ℕ) → b < bucket_count → get_or p (1 + b) 0 ≡ newest chunk edits p b (entry_count p)
  pub links : (i : ℕ) → i < entry_count p → entry_link p i ≡ newest chunk edits p (bucket_of (text_bytes chunk edits (entry_text p i))) i

-- The words were made a pool without entries. They are as many as before, and in order whatever the chunk and the edits are.
pub record Begun (before after : List ℕ) : Type 0 where
  pub same_length : length after ≡ length before
  pub no_entries : entries after ≡ []
  pub none_counted : entry_count after ≡ 0
  pub indexed : (chunk edits : List ℕ) → entries_start ≤ length before → Indexed chunk edits after

-- An entry was added: a pool in order stays in order, if the entry went into the bucket of its bytes.
pub record Remembered (before : List ℕ) (text : Text) (bucket offset : ℕ) (after : List ℕ) : Type 0 where
  pub same_length : length after ≡ length before
  pub one_entry_more : entries after ≡ (text, offset) ∷ entries before
  pub one_more_counted : entry_count after ≡ entry_count before + 1
  pub indexed : (chunk edits : List ℕ) → Indexed chunk edits before → bucket ≡ bucket_of (text_bytes chunk edits text) → Indexed chunk edits after
